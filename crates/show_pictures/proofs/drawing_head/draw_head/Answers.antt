-- Four parts.
use Rattle.std.proofs.lemmas.Result.{on_ok_weaker}
use Rattle.show_pictures.proofs.Contents.{appended_then}
use Rattle.show_pictures.proofs.drawing_head.draw_head.Goals as goal

pub returns : goal.returns
returns c =
    on_ok_weaker c.draw_lines.result (λ last.
    appended_then _ _ _ c.in_ok-draw_title.ensures (appended_then _ _ _ c.in_ok-draw_ground.ensures
    (appended_then _ _ _ c.in_ok-draw_markers.ensures last))) c.draw_lines.ensures
