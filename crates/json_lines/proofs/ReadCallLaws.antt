-- One read call more.
use Rattle.std.proofs.Common.{◌≡◌, ◌<◌, ◌≤◌, ◌+◌, ℕ, zero, suc, Option, Result, Ok, Err, Some, None, refl, sym, subst, arith, add-one, inl, inr, ⊎_elim}
use Rattle.json_lines.specs.declared.fault.Fault.{Fault}
use Rattle.json_lines.specs.declared.fault.Fault.TheVariants as faults
use Rattle.json_lines.specs.declared.feeding.LineEnd.{LineEnd}
use Rattle.json_lines.specs.declared.feeding.LineEnd.TheVariants.{Feed, TooLong as TooLongLine, Stream}
use Rattle.json_lines.specs.declared.found.Found.{Found}
use Rattle.json_lines.specs.declared.found.Found.TheVariants.{Line, Rest, TooLong, End}
use Rattle.json_lines.specs.ReadCalls.{CallOutcome, EndsBy, FindsBy, FindsNoEnd, GoOn, GoOnAtMost, GoesOn, IsEnd, IsFailure, ReadsOn}
use Rattle.json_lines.specs.Steps.{CameTo, IsBefore, IsFoundFor, LooksBy}

module _ {S : Type 0} (called : S → CallOutcome → S → Type 0) where
  pub go_on_none : (s : S) → GoOn called 0 s s
  unfolding GoOn
  go_on_none s = refl

  pub go_on_more : (n : ℕ) (old between new : S) (outcome : CallOutcome) → GoOn called n old between → called between outcome new → GoesOn outcome
      → GoOn called (n + 1) old new
  unfolding GoOn
  go_on_more n old between new outcome before call on = rw add-one (between, outcome, before, on, call)

  pub go_on_join : (n m : ℕ) (a b c : S) → GoOn called n a b → GoOn called m b c → (k : ℕ) × GoOn called k a c
  unfolding GoOn
  go_on_join n zero a b c first then = (n, subst (λ (s : S). GoOn called n a s) then first)
  go_on_join n (suc m) a b c first (between, outcome, then, on, call) =
      let (k, joined) = go_on_join n m a b between first then in
      (suc k, (between, outcome, joined, on, call))

  pub reads_join : (Last : S → S → Type 0) (n : ℕ) (a b c : S) → GoOn called n a b → ReadsOn called Last b c → ReadsOn called Last a c
  reads_join Last n a b c first (m, between, then, last) =
      let (k, joined) = go_on_join n m a b between first then in
      (k, between, joined, last)

  -- a call that gave bytes or was interrupted, after fewer than so many
  pub go_on_once : (n most count : ℕ) (old between new : S) → n < most → GoOn called n old between
      → (outcome : CallOutcome) × called between outcome new × CameTo outcome (Ok (Some count)) → GoOnAtMost called most old new
  go_on_once n most count old between new few before (outcome, call, on) =
      (n + 1, omega arith, go_on_more n old between new outcome before call on)

  pub ends_once : (n most : ℕ) (old between new : S) → n < most → GoOn called n old between
      → (outcome : CallOutcome) × called between outcome new × CameTo outcome (Ok None) → EndsBy called most IsEnd old new
  ends_once n most old between new few before (outcome, call, end) = (n, between, outcome, few, before, end, call)

  pub fails_once : (n most : ℕ) (old between new : S) (fault : Fault) → n < most → GoOn called n old between
      → (outcome : CallOutcome) × called between outcome new × CameTo outcome (Err fault) → FindsNoEnd called most old new
  fails_once n most old between new fault few before (outcome, call, failed) = inr (n, between, outcome, few, before, failed, call)

  -- where an end was found that is not that of the stream
  pub looks_on : (most : ℕ) (end : LineEnd) (old new : S) → IsBefore end → GoOnAtMost called most old new → LooksBy called most (Ok end) old new
  looks_on most (Feed k) old new before on = on
  looks_on most TooLongLine old new before on = on
  looks_on most Stream old new before on = absurd before

  -- the calls by which an end was looked for are those for what is found there
  pub finds_as : (most : ℕ) (end : LineEnd) (f : Found) (old new : S) → IsFoundFor end f → LooksBy called most (Ok end) old new
      → FindsBy called most (Ok f) old new
  finds_as most (Feed k) f old new is looks = subst (λ (g : Found). FindsBy called most (Ok g) old new) (sym is) looks
  finds_as most TooLongLine f old new is looks = subst (λ (g : Found). FindsBy called most (Ok g) old new) (sym is) looks
  finds_as most Stream f old new is looks =
      ⊎_elim (λ (rest : f ≡ Rest). subst (λ (g : Found). FindsBy called most (Ok g) old new) (sym rest) looks)
      (λ (end : f ≡ End). subst (λ (g : Found). FindsBy called most (Ok g) old new) (sym end) looks) is

  pub finds_fault : (most : ℕ) (fault : Fault) (old new : S) → LooksBy called most (Err fault) old new → FindsBy called most (Err fault) old new
  finds_fault most faults.Memory old new looks = looks
  finds_fault most faults.Read old new looks = looks
  finds_fault most faults.Write old new looks = looks
