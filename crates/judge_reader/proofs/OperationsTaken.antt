-- What is taken of an operation that was read.
use Rattle.std.proofs.Common.{◌≡◌, Bool, true, false, ◌||◌, List, [], ◌∷◌, ◌++◌, Option, Some, None, refl, sym, ap, ◌∙◌}
use Rattle.std.specs.Prelude.{Result, IfErr}
use Rattle.std.proofs.lemmas.Result.{IfErr-weaker}
use Rattle.json_bounded.specs.Text.{StopsFor}
use Rattle.json_bounded.specs.declared.text_error.TextError.{TextError}
use Rattle.json_bounded.specs.declared.text_error.TextError.TheVariants.{Memory}
use Rattle.model_history.specs.declared.op_id.OpId.{OpId}
use Rattle.json_histories.specs.Reading.{is_unknown_return, entry_refusal}
use Rattle.judge_reader.specs.Steps.Reading.{Entry}
use Rattle.judge_reader.specs.Steps.Taking.{IsTaken, after_taking, is_unknown, refusal_as, taken_as}
use Rattle.judge_reader.specs.declared.taken.Taken.{Taken}
use Rattle.judge_reader.specs.declared.taken.Taken.TheVariants.{NoForm}

pub no_form : (seen : Bool) (es : List Entry) (found : Option Entry) → found ≡ None → IsTaken seen found es es NoForm
no_form seen es found none = rw none (refl, refl)

-- where memory ran out, nothing is said of what comes next
pub only_memory : (result : Result Taken TextError) (refused : Type 0) → IfErr result (λ e. e ≡ Memory) → IfErr result (StopsFor refused)
only_memory result refused = IfErr-weaker result (λ e. e ≡ Memory) (StopsFor refused) (λ e is. rw is tt)

-- it is refused as what was read is
refusal_same : (seen : Bool) (found : Option Entry) (op : OpId) → refusal_as (taken_as seen found) op ≡ entry_refusal found seen op
refusal_same seen None op = refl
refusal_same seen (Some (c, None)) op = refl
refusal_same true (Some (c, Some r)) op = refl
refusal_same false (Some (c, Some r)) op = refl

-- what is pushed is an operation that may stand there
pub record IsPushed (seen : Bool) (found : Option Entry) (before after : List Entry) (t : Taken) (op : OpId) : Type 0 where
  pub entry : Entry
  pub read : found ≡ Some entry
  pub fine : entry_refusal (Some entry) seen op ≡ None
  pub behind : after ≡ before ++ entry ∷ []
  pub unknown : is_unknown t ≡ (seen || is_unknown_return (Some entry))

pushed_as : (seen : Bool) (found : Option Entry) (before : List Entry) (op : OpId) → refusal_as (taken_as seen found) op ≡ None
    → IsPushed seen found before (after_taking seen found before) (taken_as seen found) op
pushed_as seen None before op fine = absurd cc
pushed_as true (Some (c, None)) before op fine = record { entry = (c, None); read = refl; fine = refl; behind = refl; unknown = refl }
pushed_as false (Some (c, None)) before op fine = record { entry = (c, None); read = refl; fine = refl; behind = refl; unknown = refl }
pushed_as true (Some (c, Some r)) before op fine = absurd cc
pushed_as false (Some (c, Some r)) before op fine = record { entry = (c, Some r); read = refl; fine = refl; behind = refl; unknown = refl }

module _ (seen : Bool) (found : Option Entry) (before after : List Entry) (t : Taken) (taken : IsTaken seen found before after t) (op : OpId) where
  pub refused_as_read : refusal_as t op ≡ entry_refusal found seen op
  refused_as_read = ap (λ x. refusal_as x op) taken.0 ∙ refusal_same seen found op

  pub pushed_as_read : refusal_as t op ≡ None → IsPushed seen found before after t op
  pushed_as_read none = rw (taken.0, taken.1) (pushed_as seen found before op (ap (λ x. refusal_as x op) (sym taken.0) ∙ none))
