-- Arrow heads between the start of an element and its end.
use Rattle.std.proofs.lemmas.Result.{on_ok_weaker}
use Rattle.show_pictures.proofs.Contents.{pushed, nothing_appended, appended_then, definitions_appended}
use Rattle.show_pictures.proofs.drawing_head.draw_markers.Goals as goal
use Rattle.show_pictures.proofs.drawing_head.draw_markers.Goals.{then-are_of+in_ok-draw_marker, else-are_of}

pub loop-relation-init : goal.loop-relation-init
loop-relation-init c = nothing_appended _

pub loop-relation-preserved : goal.loop-relation-preserved
loop-relation-preserved c =
    elim c.if-are_of.branch [
      | then-are_of+in_ok-draw_marker w ↦ rw w.svg-is (appended_then _ _ _ c.loop-relation.invariant w.in_ok-draw_marker.ensures)
      | else-are_of w ↦ rw w.svg-is c.loop-relation.invariant
    ]

pub returns : goal.returns
returns c =
    on_ok_weaker c.push_str-2.result (λ is. definitions_appended _ _ _ _ c.in_ok-push_str.ensures.bytes c.loop-relation.invariant is) (pushed c.push_str-2.result _ _ _ c.push_str-2.ensures.bytes)
