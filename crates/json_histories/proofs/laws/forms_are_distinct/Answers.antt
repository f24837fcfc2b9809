use Rattle.json_histories.proofs.AnyForms.{any_forms_are_distinct}
use Rattle.json_histories.proofs.laws.forms_are_distinct.Goals as goal

pub returns : goal.returns
returns c = any_forms_are_distinct
