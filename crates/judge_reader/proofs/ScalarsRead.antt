-- Reading the elements of an operation, one after the other.
use Rattle.std.proofs.Common.{◌≡◌, ℕ, ◌<◌, Bool, List, [], ◌∷◌, ◌++◌, length, Option, Some, None, sym, subst}
use Rattle.std.specs.Prelude.{Result, IfOk}
use Rattle.std.proofs.lemmas.Result.{IfOk-weaker}
use Rattle.json.specs.Token.{Token}
use Rattle.serde_json.specs.Data.{Data}
use Rattle.judge_reader.specs.Steps.Scalars.{IsNextScalar, operation_in, scalar_of}
use Rattle.json_bounded.specs.declared.text_error.TextError.{TextError}
use Rattle.judge_reader.specs.Steps.Reading.{Entry}
use Rattle.judge_reader.specs.Steps.Taking.{IsTaken}
use Rattle.judge_reader.specs.declared.taken.Taken.{Taken}
use Rattle.judge_reader.specs.declared.taken.Taken.TheVariants.{NoForm}
use Rattle.judge_reader.proofs.OperationsTaken.{no_form}
use Rattle.json_tokens.specs.Tokens.{IsRest}
use Rattle.judge_reader.specs.declared.scalar.Scalar.{Scalar}
use Rattle.json_tokens.proofs.Elements.{HasRead, read_all, read_one_more}

module _ (depth : ℕ) (old now r : List Token) (elements : List Data) (so_far : HasRead depth old now elements) where
  one_more : (s : Scalar) → IsNextScalar depth now r (Some s) → length r < length now → (d : Data) × HasRead depth old r (elements ++ d ∷ []) × (scalar_of d ≡ s)
  one_more s (going, (d, read, says)) less = (d, read_one_more depth old now elements so_far r d going read less, says)

  module _ (o : Option Scalar) (next : IsNextScalar depth now r o) where
    -- one element more was read, which says this
    pub scalar_more : (s : Scalar) → o ≡ Some s → length r < length now → (d : Data) × HasRead depth old r (elements ++ d ∷ []) × (scalar_of d ≡ s)
    scalar_more s is less = one_more s (subst (IsNextScalar depth now r) is next) less

    -- the list is over, and this holds of what it says
    pub scalars_over : o ≡ None → (P : Option Entry → Type 0) → P (operation_in (Some elements)) → IsRest (λ ds. P (operation_in (Some ds))) depth old r
    scalars_over is P reads = read_all depth old now elements so_far (λ ds. P (operation_in (Some ds))) r (subst (IsNextScalar depth now r) is next) reads

    module _ (is : o ≡ None) (seen : Bool) (before : List Entry) where
      pub no_form_over : operation_in (Some elements) ≡ None → IsRest (λ ds. IsTaken seen (operation_in (Some ds)) before before NoForm) depth old r
      no_form_over none = scalars_over is (λ e. IsTaken seen e before before NoForm) (no_form seen before (operation_in (Some elements)) none)

      pub pushed_over : (after : List Entry) (said : Option Entry) (result : Result Taken TextError) → operation_in (Some elements) ≡ said → IfOk result (λ t. IsTaken seen said before after t)
          → IfOk result (λ t. IsRest (λ ds. IsTaken seen (operation_in (Some ds)) before after t) depth old r)
      pushed_over after said result reads pushed =
          IfOk-weaker result (λ t. IsTaken seen said before after t) (λ t. IsRest (λ ds. IsTaken seen (operation_in (Some ds)) before after t) depth old r)
          (λ t taken. scalars_over is (λ e. IsTaken seen e before after t) (subst (λ (e : Option Entry). IsTaken seen e before after t) (sym reads) taken)) pushed
