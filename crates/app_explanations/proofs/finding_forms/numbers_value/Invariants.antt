use Rattle.std.proofs.Common.{◌≡◌, map, take}
use Rattle.serde_json.specs.View.{view}
use Rattle.json_histories.specs.Reads.{number_form}
use Rattle.app_explanations.proofs.finding_forms.numbers_value.Given as goal

-- the forms of the numbers so far
abbrev pub invariant-loop-number : goal.invariant-loop-number
invariant-loop-number l = map view l.values.items ≡ map number_form (take l.number-index l.numbers)
