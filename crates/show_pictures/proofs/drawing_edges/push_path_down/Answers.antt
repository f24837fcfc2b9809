-- Three numbers.
use Rattle.std.proofs.lemmas.Result.{on_ok_weaker}
use Rattle.show_pictures.proofs.Values.{number_is_measure, number_then}
use Rattle.show_pictures.proofs.drawing_edges.push_path_down.Goals as goal

pub returns : goal.returns
returns c =
    on_ok_weaker c.write.result (λ is. record {
      added = _;
      is = is;
      measures = number_then _ _ (number_then _ _ (number_is_measure _));
    }) c.write.ensures.bytes
