-- Two numbers, a curve, a number and a curve.
use Rattle.std.proofs.lemmas.Result.{on_ok_weaker}
use Rattle.show_pictures.proofs.Values.{number_is_measure, number_then, measures_then}
use Rattle.show_pictures.proofs.drawing_edges.push_path_across.Goals as goal

pub returns : goal.returns
returns c =
    on_ok_weaker c.push_curve-2.result (λ last.
    measures_then _ _ _ record { added = _; is = c.in_ok-write.ensures.bytes; measures = number_then _ _ (number_is_measure _) }
    (measures_then _ _ _ c.in_ok-push_curve.ensures
    (measures_then _ _ _ record { added = _; is = c.in_ok-write-2.ensures.bytes; measures = number_is_measure _ } last))) c.push_curve-2.ensures
