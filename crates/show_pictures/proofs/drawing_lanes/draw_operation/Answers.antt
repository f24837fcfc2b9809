-- A box, two texts, and what is wrong, if anything is.
use Rattle.std.proofs.Common.{refl, codes}
use Rattle.std.proofs.lemmas.Result.{on_ok_weaker}
use Rattle.show_pictures.specs.Markup.{no_attribute, attribute}
use Rattle.show_pictures.proofs.Contents.{appended_then}
use Rattle.show_pictures.proofs.drawing_lanes.draw_operation.Goals as goal

pub push_text-requires : goal.push_text-requires
push_text-requires c = attribute (codes "font-size") (codes "11") _ refl refl (attribute (codes "fill") (codes "#6b7280") _ refl refl no_attribute)

pub returns-in-Some : goal.returns-in-Some
returns-in-Some c =
    on_ok_weaker c.draw_fault.result (λ last.
    appended_then _ _ _ c.in_ok-draw_box.ensures (appended_then _ _ _ c.in_ok-push_text.ensures
    (appended_then _ _ _ c.in_ok-push_text-2.ensures last))) c.draw_fault.ensures

pub returns-in-None : goal.returns-in-None
returns-in-None c =
    appended_then _ _ _ c.in_ok-draw_box.ensures (appended_then _ _ _ c.in_ok-push_text.ensures c.in_ok-push_text-2.ensures)
