use Rattle.json_histories.specs.Reads.{number_form}
use Rattle.serde_json.specs.View.{view}
use Rattle.cert_check.proofs.ListReading.{AreReadUpTo}
use Rattle.cert_check.proofs.reading_lists.read_each_number.Given as goal

-- the elements so far are the forms of the numbers
abbrev pub invariant-loop-element : goal.invariant-loop-element
invariant-loop-element g l = AreReadUpTo view g.T.Number.fits (λ n. number_form (g.T.Number.whole n)) l.values l.element-index l.numbers.items
