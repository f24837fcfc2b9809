use Rattle.std.proofs.Common.{All}
use Rattle.serde_json.specs.View.{view}
use Rattle.json_histories.specs.Reads.{list_form, number_form}
use Rattle.cert_check.proofs.ListReading.{AreReadUpTo}
use Rattle.cert_check.proofs.reading_lists.read_lists.Given as goal

-- the elements so far are the forms of the lists of the sessions
abbrev pub invariant-loop-element : goal.invariant-loop-element
invariant-loop-element g l = AreReadUpTo view (All (All g.T.Number.fits)) (list_form (list_form (λ n. number_form (g.T.Number.whole n)))) l.values l.element-index l.lists
