use Rattle.std.proofs.Common.{List, ℕ, subst, sym}
use Rattle.json_histories.specs.AnyForm.{form_of, IsJson}
use Rattle.json_histories.proofs.laws.write_and_read.Goals as goal

pub returns : goal.returns
returns c =
    c.read_history.ensures.only c.args.history.now c.in_ok-text.ensures.is_history
    (subst (λ (text : List ℕ). IsJson text (form_of c.args.history.now)) (sym c.as_bytes.ensures.value) c.in_ok-text.ensures.json)
