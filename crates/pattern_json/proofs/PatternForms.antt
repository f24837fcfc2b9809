-- What is read in one form is read in another one of the same values.
use Rattle.std.proofs.Common.{◌≡◌, ◌∙◌, ℕ, List, Option, Some, None, sym}
use Rattle.std.specs.Prelude.{IfOk, Result}
use Rattle.std.proofs.lemmas.Result.{IfOk-weaker}
use Rattle.json.specs.Token.{Token}
use Rattle.serde_json.specs.Data.{Data}
use Rattle.json_bounded.specs.declared.text_error.TextError.{TextError}
use Rattle.json_histories.specs.Reads.{IsRead}
use Rattle.json_tokens.specs.Tokens.{IsValue}

module _ {A : Type 0} (form other : A → Data) (same : (a : A) → form a ≡ other a) where
  read_as : (d : Data) (r : Option A) → IsRead form d r → IsRead other d r
  read_as d None none = λ a is. none a (is ∙ sym (same a))
  read_as d (Some a) is = is ∙ same a

  pub value_read_as : (result : Result (Option A) TextError) (depth : ℕ) (ts rest : List Token) → IfOk result (λ r. IsValue (λ d. IsRead form d r) depth ts rest)
      → IfOk result (λ r. IsValue (λ d. IsRead other d r) depth ts rest)
  value_read_as result depth ts rest = IfOk-weaker result _ _ (λ r is. (is.0, is.1, read_as is.0 r is.2))
