-- One read call more.
use Rattle.std.proofs.Common.{◌≡◌, ◌≢◌, ◌<◌, ◌≤◌, ◌+◌, ℕ, zero, suc, Ok, Err, refl, sym, ap, arith, add-one, inl, inr}
use Rattle.json_lines.specs.ReadCalls.{CallOutcome, Calls, CallsAtMost, GoOn, GoesOn}
use Rattle.app_engine.specs.declared.read_call.Given.{Given}
use Rattle.app_engine.specs.declared.read_call.Given.TheVariants.{Bytes, Nothing, End}
use Rattle.app_engine.specs.ReadCalls.{CameTo, EndsIdle, GivesBytes, GoOnIdle, IdlesAtMost, IsInterrupted, idle_after}

module _ {S : Type 0} (called : S → CallOutcome → S → Type 0) where
  pub no_call : (s : S) → GoOn called 0 s s
  unfolding GoOn
  no_call s = refl

  pub no_call_at_most : (most : ℕ) (s : S) → CallsAtMost called most s s
  unfolding Calls
  no_call_at_most most s = (0, omega arith, refl)

  pub goes_on : (n : ℕ) (old between new : S) (outcome : CallOutcome) → GoOn called n old between → called between outcome new → GoesOn outcome
      → GoOn called (n + 1) old new
  unfolding GoOn
  goes_on n old between new outcome before call on = rw add-one (between, outcome, before, on, call)

  are_calls : (n : ℕ) (old new : S) → GoOn called n old new → Calls called n old new
  unfolding GoOn Calls
  are_calls zero old new gone = gone
  are_calls (suc n) old new gone = (gone.0, are_calls n old gone.0 gone.2, (gone.1, gone.4))

  one_more : (n : ℕ) (old between new : S) (outcome : CallOutcome) → GoOn called n old between → called between outcome new → Calls called (n + 1) old new
  unfolding Calls
  one_more n old between new outcome before call = rw add-one (between, are_calls n old between before, (outcome, call))

  -- the bound on the calls after which reading goes on, and on those with one more behind them
  pub gone_at_most : (n most : ℕ) (old new : S) → n ≤ most → GoOn called n old new → CallsAtMost called most old new
  gone_at_most n most old new few gone = (n, few, are_calls n old new gone)

  pub ended_at_most : (n most : ℕ) (old between new : S) (outcome : CallOutcome) → n < most → GoOn called n old between → called between outcome new
      → CallsAtMost called most old new
  ended_at_most n most old between new outcome few before call = (n + 1, omega arith, one_more n old between new outcome before call)

  -- what grows by one at most at each call
  module _ (count : S → ℕ) (grows : (a : S) (outcome : CallOutcome) (b : S) → called a outcome b → count b ≤ count a + 1) where
    counted : (n : ℕ) (old new : S) → Calls called n old new → count new ≤ count old + n
    unfolding Calls
    counted zero old new calls = let same : count old ≡ count new = ap count calls in omega arith
    counted (suc n) old new calls =
        let before : count calls.0 ≤ count old + n = counted n old calls.0 calls.1 in
        let here : count new ≤ count calls.0 + 1 = grows calls.0 calls.2.0 new calls.2.1 in
        omega arith

    pub counted_at_most : (most : ℕ) (old new : S) → CallsAtMost called most old new → count new ≤ count old + most
    counted_at_most most old new calls =
        let few : calls.0 ≤ most = calls.1 in
        let sum : count new ≤ count old + calls.0 = counted calls.0 old new calls.2 in
        omega arith

-- a call that gave bytes, or that was interrupted, is one after which reading goes on
pub bytes_go_on : (outcome : CallOutcome) → GivesBytes outcome → GoesOn outcome
bytes_go_on (Ok count) some = some
bytes_go_on (Err e) never = absurd never

pub interrupted_goes_on : (outcome : CallOutcome) → IsInterrupted outcome → GoesOn outcome
interrupted_goes_on (Ok count) never = absurd never
interrupted_goes_on (Err e) is = is

-- after a call that did not find the end reading goes on
pub not_ended : (outcome : CallOutcome) (given : Given) → given ≢ End → CameTo outcome (Ok given) → GoesOn outcome
not_ended outcome Bytes other came = bytes_go_on outcome came
not_ended outcome Nothing other came = interrupted_goes_on outcome came
not_ended outcome End other came = absurd (other refl)

none_idle : (outcome : CallOutcome) (before : ℕ) → GivesBytes outcome → idle_after outcome before ≡ 0
none_idle (Ok count) before some = refl
none_idle (Err e) before never = absurd never

one_more_idle : (outcome : CallOutcome) (before : ℕ) → IsInterrupted outcome → idle_after outcome before ≡ before + 1
one_more_idle (Ok count) before never = absurd never
one_more_idle (Err e) before is = refl

module _ {S : Type 0} (called : S → CallOutcome → S → Type 0) (most : ℕ) where
  -- after some read calls the last ones brought no byte, and never more than `most` in a row
  abbrev pub IsIdling : ℕ → S → S → Type 0
  IsIdling idle old new = (n : ℕ) × GoOnIdle called most n idle old new

  pub idles_not : (s : S) → IsIdling 0 s s
  unfolding GoOnIdle
  idles_not s = (0, (refl, refl))

  pub idles_no_call : (s : S) → IdlesAtMost called most s s
  unfolding GoOnIdle
  idles_no_call s = inl (0, 0, (refl, refl))

  pub idles_on : (idle : ℕ) (old new : S) → IsIdling idle old new → IdlesAtMost called most old new
  idles_on idle old new idling = inl (idling.0, idle, idling.1)

  module _ (idle : ℕ) (old between new : S) (outcome : CallOutcome) (few : idle < most) (idling : IsIdling idle old between) (call : called between outcome new) where
    pub goes_on_idle : (after : ℕ) → GoesOn outcome → after ≡ idle_after outcome idle → IsIdling after old new
    unfolding GoOnIdle
    goes_on_idle after on is = (suc idling.0, (between, outcome, idle, idling.1, few, on, call, is))

    pub brings_bytes : GivesBytes outcome → IsIdling 0 old new
    brings_bytes some = goes_on_idle 0 (bytes_go_on outcome some) (sym (none_idle outcome idle some))

    pub brings_nothing : IsInterrupted outcome → IsIdling (idle + 1) old new
    brings_nothing is = goes_on_idle (idle + 1) (interrupted_goes_on outcome is) (sym (one_more_idle outcome idle is))

    pub ends_idle : (Last : CallOutcome → Type 0) → Last outcome → EndsIdle called most Last old new
    ends_idle Last last = (idling.0, idle, between, outcome, idling.1, few, last, call)

    pub ended_idle : IdlesAtMost called most old new
    ended_idle = inr (ends_idle (λ o. Unit {0}) tt)
