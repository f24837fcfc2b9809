-- What steps with their replies say of sessions and sealers.
use Rattle.std.specs.Prelude.{ℕ, List, Option, Some, None}
use Rattle.std.specs.List.{filter_map}
use Rattle.live_seals.specs.Runs.{Event}
use Rattle.live_seals.specs.Runs.Event.{Began, Ended, Started, Looked}
use Rattle.live_simulation.specs.declared.step.StepOf.{StepOf}
use Rattle.live_simulation.specs.declared.step.StepOf.TheVariants.{Begin, End, Start, Look}
use Rattle.live_simulation.specs.declared.reply.ReplyOf.{ReplyOf}
use Rattle.live_simulation.specs.declared.reply.ReplyOf.TheVariants.{Done, Sealer, Found}

module _ {C R H : Type 0} where
  -- that an operation began or ended, and that a sealer started or looked, where the step was not refused
  abbrev pub began : C → ReplyOf H → Option (Event C R)
  began c (Done o) = Some (Began o c)
  began c _ = None

  abbrev pub ended_with : R → ReplyOf H → Option (Event C R)
  ended_with r (Done o) = Some (Ended o r)
  ended_with r _ = None

  abbrev pub started : List ℕ → ReplyOf H → Option (Event C R)
  started told (Sealer z) = Some (Started z told)
  started told _ = None

  abbrev pub looked : ℕ → ReplyOf H → Option (Event C R)
  looked z (Found cell full) = Some (Looked z cell full)
  looked z _ = None

  -- what happened at a step of a session or of a sealer. Steps of other kinds leave these as they are
  abbrev pub event : StepOf C R → ReplyOf H → Option (Event C R)
  event (Begin s c) reply = began c reply
  event (End s r) reply = ended_with r reply
  event (Start told) reply = started told reply
  event (Look z) reply = looked z reply
  event _ reply = None

  -- what happened at these steps, oldest first
  abbrev pub events : List (StepOf C R × ReplyOf H) → List (Event C R)
  events es = filter_map (λ (e : StepOf C R × ReplyOf H). event e.0 e.1) es
