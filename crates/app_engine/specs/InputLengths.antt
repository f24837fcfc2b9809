-- How long the input of an order may be, and which read calls are made for it.
use Rattle.std.specs.Prelude.{ℕ}
use Rattle.app_orders.specs.declared.length.Length.{Length}
use Rattle.app_orders.specs.declared.length.Length.TheVariants.{Limited, Any}
use Rattle.app_orders.specs.declared.order.Order.{Order}
use Rattle.app_orders.specs.declared.order.Order.TheVariants.{Judge, ExplainLong, ListFaults, Refute}
use Rattle.json_lines.specs.ReadCalls.{CallOutcome, CallsAtMost, EndsBy, FindsNoEnd}
use Rattle.app_engine.specs.ReadCalls.{EndsIdle, FindsNoEndIdle, IdlesAtMost}
use Rattle.app_engine.specs.declared.input.TheConstants.{MAX_INPUT_BYTES, MAX_LONG_INPUT_BYTES}

-- how long the history of an order may be
abbrev pub length_for : Order → Length
length_for (Judge judging) = judging.length
length_for (ExplainLong form) = Any
length_for (ListFaults listing) = listing.length
length_for (Refute length) = length
length_for _ = Limited

-- the most bytes of an input whose history may be that long
abbrev pub most_bytes : Length → ℕ
most_bytes Limited = MAX_INPUT_BYTES
most_bytes Any = MAX_LONG_INPUT_BYTES

module _ {S : Type 0} (called : S → CallOutcome → S → Type 0) where
  -- at most so many read calls are made, or, where the history may have any length, at most so many in a row that bring no byte
  abbrev pub CallsFor : Length → ℕ → S → S → Type 0
  CallsFor Limited = CallsAtMost called
  CallsFor Any = IdlesAtMost called

  -- these calls were made, and of the last one this holds
  abbrev pub EndsFor : Length → ℕ → (CallOutcome → Type 0) → S → S → Type 0
  EndsFor Limited = EndsBy called
  EndsFor Any = EndsIdle called

  -- no end was found by these calls
  abbrev pub FindsNoEndFor : Length → ℕ → S → S → Type 0
  FindsNoEndFor Limited = FindsNoEnd called
  FindsNoEndFor Any = FindsNoEndIdle called
