-- What becomes of an operation that is read: it is pushed after those before it, or refused.
use Rattle.std.specs.Prelude.{◌≡◌, Bool, true, false, List, [], ◌∷◌, ◌++◌, Option, Some, None, if◌then◌else◌}
use Rattle.model_history.specs.declared.op_id.OpId.{OpId}
use Rattle.json_histories.specs.declared.read_error.ReadError.{ReadError}
use Rattle.json_histories.specs.declared.read_error.ReadError.TheVariants.{BadOp, ReturnAfterUnknown}
use Rattle.judge_reader.specs.Steps.Reading.{Entry}
use Rattle.judge_reader.specs.declared.taken.Taken.{Taken}
use Rattle.judge_reader.specs.declared.taken.Taken.TheVariants.{Known, Unknown, Late, NoForm}

-- a known return is late after an unknown one
abbrev pub taken_as : Bool → Option Entry → Taken
taken_as unknown_seen None = NoForm
taken_as unknown_seen (Some (c, None)) = Unknown
taken_as unknown_seen (Some (c, Some r)) = if unknown_seen then Late else Known

-- the operations after it
abbrev pub after_taking : Bool → Option Entry → List Entry → List Entry
after_taking unknown_seen None before = before
after_taking unknown_seen (Some (c, None)) before = before ++ (c, None) ∷ []
after_taking unknown_seen (Some (c, Some r)) before = if unknown_seen then before else before ++ (c, Some r) ∷ []

-- what is read there, if anything, is taken so, and it is pushed unless it is refused
abbrev pub IsTaken : Bool → Option Entry → List Entry → List Entry → Taken → Type 0
IsTaken unknown_seen found before after taken = (taken ≡ taken_as unknown_seen found) × (after ≡ after_taking unknown_seen found before)

abbrev pub refusal_as : Taken → OpId → Option ReadError
refusal_as Known op = None
refusal_as Unknown op = None
refusal_as Late op = Some (ReturnAfterUnknown op)
refusal_as NoForm op = Some (BadOp op)

abbrev pub is_unknown : Taken → Bool
is_unknown Known = false
is_unknown Unknown = true
is_unknown Late = false
is_unknown NoForm = false
