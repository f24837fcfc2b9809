-- Two numbers and a curve.
use Rattle.std.proofs.lemmas.Result.{on_ok_weaker}
use Rattle.show_pictures.proofs.Values.{number_is_measure, number_then, measures_then}
use Rattle.show_pictures.proofs.drawing_edges.push_path_to_neighbour.Goals as goal

pub returns : goal.returns
returns c =
    on_ok_weaker c.push_curve.result (measures_then _ _ _ record {
      added = _;
      is = c.in_ok-write.ensures.bytes;
      measures = number_then _ _ (number_is_measure _);
    }) c.push_curve.ensures
