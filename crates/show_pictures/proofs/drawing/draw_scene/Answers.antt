-- Five parts.
use Rattle.std.proofs.lemmas.Result.{on_ok_weaker}
use Rattle.show_pictures.proofs.Contents.{appended_then}
use Rattle.show_pictures.proofs.drawing.draw_scene.Goals as goal

pub returns : goal.returns
returns c =
    on_ok_weaker c.draw_legend.result (λ last.
    appended_then _ _ _ c.in_ok-draw_head.ensures (appended_then _ _ _ c.in_ok-draw_lane_lines.ensures
    (appended_then _ _ _ c.in_ok-draw_edges.ensures (appended_then _ _ _ c.in_ok-draw_lanes.ensures last)))) c.draw_legend.ensures
