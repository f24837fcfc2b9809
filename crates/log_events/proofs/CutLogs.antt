-- The first events of a log are a log, in which each read returns what was begun before, if it does so in the log.
use Rattle.std.proofs.Common.{ℕ, ◌<◌, List, take, inl, inr, ⊎_elim, arith}
use Rattle.order_causal.proofs.Fronts.{take-from, take-stands}
use Rattle.log_events.specs.declared.event.ClientCall.{ClientCall}
use Rattle.log_events.specs.declared.event.ClientCall.TheVariants.{WriteTo, ReadOf, DeleteOf}
use Rattle.log_events.specs.declared.event.Ending.{Ending}
use Rattle.log_events.specs.declared.event.Ending.TheVariants.{Got, GotNothing, Failed}
use Rattle.log_events.specs.declared.event.Event.{Event}
use Rattle.log_events.specs.declared.event.Event.TheVariants.{Starts, Begins, Ends}
use Rattle.log_events.specs.Events.{IsAt, IsOpen, IsEnded, MayStand, IsAllowed}
use Rattle.log_events.specs.Cuts.{IsBegunBefore, ReturnsWhatWasBegun}

module _ (es : List Event) (n : ℕ) where
  open-of_cut : (c : ℕ) (call : ClientCall) (i j : ℕ) → j < n → IsOpen (take n es) c call i j → IsOpen es c call i j
  open-of_cut c call i j below is_open = record {
    begun = (take-from n es i (Begins c call) is_open.begun).1;
    earlier = is_open.earlier;
    unended = λ k ending above under at. is_open.unended k ending above under (take-stands n es k (Ends c ending) (omega arith) at);
  }

  open-in_cut : (c : ℕ) (call : ClientCall) (i j : ℕ) → j < n → IsOpen es c call i j → IsOpen (take n es) c call i j
  open-in_cut c call i j below is_open = let earlier = is_open.earlier in record {
    begun = take-stands n es i (Begins c call) (omega arith) is_open.begun;
    earlier = is_open.earlier;
    unended = λ k ending above under at. is_open.unended k ending above under (take-from n es k (Ends c ending) at).1;
  }

  pub ended-of_cut : (c : ℕ) (call : ClientCall) (i j : ℕ) (ending : Ending) → IsEnded (take n es) c call i j ending → IsEnded es c call i j ending
  ended-of_cut c call i j ending end = let at = take-from n es j (Ends c ending) end.ends in record {
    was_open = open-of_cut c call i j at.0 end.was_open;
    ends = at.1;
  }

  may_stand-in_cut : (j : ℕ) (e : Event) → j < n → MayStand es j e → MayStand (take n es) j e
  may_stand-in_cut j (Starts x v) below (none, rising) =
      (λ i c call earlier at. none i c call earlier (take-from n es i (Begins c call) at).1, λ i y u earlier at. rising i y u earlier (take-from n es i (Starts y u) at).1)
  may_stand-in_cut j (Begins c call) below free = λ i other is_open. free i other (open-of_cut c other i j below is_open)
  may_stand-in_cut j (Ends c ending) below (i, call, is_open, fits) = (i, call, open-in_cut c call i j below is_open, fits)

  pub cut-allowed : IsAllowed es → IsAllowed (take n es)
  cut-allowed allowed j e at = let there = take-from n es j e at in may_stand-in_cut j e there.0 (allowed j e there.1)

  begun-in_cut : (j : ℕ) (call : ClientCall) → j < n → IsBegunBefore es j call → IsBegunBefore (take n es) j call
  begun-in_cut j call below (c, i, earlier, at, stays) =
      (c, i, earlier, take-stands n es i (Begins c call) (omega arith) at, λ k end. stays k (ended-of_cut c call i k Failed end))

  pub cut-returns : ReturnsWhatWasBegun es → ReturnsWhatWasBegun (take n es)
  cut-returns returns = record {
    value = λ c x v i j end.
        let below = (take-from n es j (Ends c (Got v)) end.ends).0 in
        ⊎_elim
        (λ (start : (k : ℕ) × (k < j) × IsAt es k (Starts x v)). let earlier = start.1 in
        inl (start.0, start.1, take-stands n es start.0 (Starts x v) (omega arith) start.2))
        (λ (begun : IsBegunBefore es j (WriteTo x v)). inr (begun-in_cut j (WriteTo x v) below begun))
        (returns.value c x v i j (ended-of_cut c (ReadOf x) i j (Got v) end));
    nothing = λ c x i j end.
        let below = (take-from n es j (Ends c GotNothing) end.ends).0 in
        ⊎_elim
        (λ (none : (k v : ℕ) → ¬ IsAt es k (Starts x v)). inl (λ k v at. none k v (take-from n es k (Starts x v) at).1))
        (λ (begun : IsBegunBefore es j (DeleteOf x)). inr (begun-in_cut j (DeleteOf x) below begun))
        (returns.nothing c x i j (ended-of_cut c (ReadOf x) i j GotNothing end));
  }
