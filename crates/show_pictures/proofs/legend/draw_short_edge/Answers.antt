-- A path of measures.
use Rattle.std.proofs.lemmas.Result.{on_ok_weaker}
use Rattle.show_pictures.proofs.Contents.{path_appended}
use Rattle.show_pictures.proofs.Values.{number_is_measure, number_then}
use Rattle.show_pictures.proofs.legend.draw_short_edge.Goals as goal

pub returns : goal.returns
returns c =
    on_ok_weaker c.end_edge.result (λ last.
    path_appended _ _ _ _ c.in_ok-begin_edge.ensures record {
      added = _;
      is = c.in_ok-write.ensures.bytes;
      measures = number_then _ _ (number_then _ _ (number_is_measure _));
    } last) c.end_edge.ensures
