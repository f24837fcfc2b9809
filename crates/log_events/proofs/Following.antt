-- What may come next, by what a log keeps.
use Rattle.std.proofs.Common.{◌≡◌, ℕ, zero, suc, ◌+◌, List, length, refl, ap, sym, subst, ◌∙◌, arith}
use Rattle.std.specs.Prelude.{◌≢◌, Some, slice_get, slice_index, filter_map}
use Rattle.std.proofs.lemmas.Option.{same_Some, slice_get_within}
use Rattle.log_events.specs.declared.event.ClientCall.{ClientCall}
use Rattle.log_events.specs.declared.event.Ending.{Ending}
use Rattle.log_events.specs.declared.event.Event.{Event}
use Rattle.log_events.specs.declared.event.Event.TheVariants.{Starts, Begins, Ends}
use Rattle.log_events.specs.Events.{Call, Fits, IsAt, IsOpen, run_calls}
use Rattle.log_events.specs.Histories.{start_entry}
use Rattle.log_events.proofs.ListPlaces.{slice_get-found}
use Rattle.log_events.proofs.CallPlaces.{calls-from, calls-to}
use Rattle.log_events.specs.Pending.{MayFollow}
use Rattle.log_events.specs.Kept.{ArePending, IsAbove}
use Rattle.log_events.proofs.EventFronts.{MayFollow-from, MayStand-from}
use Rattle.log_events.proofs.OpenCalls.{open-from, open-to}
use Rattle.log_events.proofs.StartKeys.{above-from, above-to}

module _ (es : List Event) (x v : ℕ) where
  no_call : length (run_calls es) ≡ 0 → (i c : ℕ) (call : ClientCall) → ¬ IsAt es i (Begins c call)
  no_call none i c call at =
      let r = calls-to 0 es i c call at in let within = slice_get_within (run_calls es) r.0 _ r.1 in absurd (omega arith)

  pub start-follows : length (run_calls es) ≡ 0 → IsAbove (filter_map start_entry es) x → MayFollow es (Starts x v)
  start-follows none above = MayFollow-from es (Starts x v)
      ((λ i c call earlier at. no_call none i c call at), (λ i y u earlier at. above-from es x above i y u at))

  pub start-after_call : length (run_calls es) ≢ 0 → ¬ MayFollow es (Starts x v)
  start-after_call some may =
      let first = slice_get-found (run_calls es) 0 (omega arith) in
      let r = calls-from 0 es 0 first.0 first.1 in
      (MayStand-from es (Starts x v) may).0 r.0 first.0.client first.0.call
      (slice_get_within es r.0 (Begins first.0.client first.0.call) r.2.begun) r.2.begun

  pub start-above : MayFollow es (Starts x v) → IsAbove (filter_map start_entry es) x
  start-above may = above-to es x
      (λ i y u at. (MayStand-from es (Starts x v) may).1 i y u (slice_get_within es i (Starts y u) at) at)

module _ (es : List Event) (pending : List ℕ) (are : ArePending (run_calls es) pending) where
  pub none-pending : (c : ℕ) → slice_index pending c ≡ 0 → (i : ℕ) (call : ClientCall) → ¬ IsOpen es c call i (length es)
  none-pending c none i call is_open =
      let r = open-to es c call i is_open in
      let listed = are.listed r.0 r.1 r.2.at r.2.open_still in
      let same = ap (slice_index pending) r.2.client in
      omega arith

  pub one-pending : (c k : ℕ) (a : Call) → slice_index pending c ≡ k + 1 → slice_get (run_calls es) k ≡ Some a
      → IsOpen es c a.call a.place (length es)
  one-pending c k a is at =
      let b = are.open_still c k is in
      let same : a ≡ b.0 = same_Some _ _ (sym at ∙ b.1) in
      subst (λ (d : ℕ). IsOpen es d a.call a.place (length es)) (ap (λ (d : Call). d.client) same ∙ b.2)
      (open-from es k a at (ap (λ (d : Call). d.ending) same ∙ b.3))

  pub begin-follows : (c : ℕ) (call : ClientCall) → slice_index pending c ≡ 0 → MayFollow es (Begins c call)
  begin-follows c call none = MayFollow-from es (Begins c call) (λ i other. none-pending c none i other)

  pub begin-free : (c : ℕ) (call : ClientCall) → MayFollow es (Begins c call) → slice_index pending c ≡ 0
  begin-free c call may =
      elim (slice_index pending c) as (λ n. slice_index pending c ≡ n → n ≡ 0) [
        | zero ↦ λ _. refl
        | suc k ↦ λ some.
            let is : slice_index pending c ≡ k + 1 = omega arith in
            let b = are.open_still c k is in
            absurd (MayStand-from es (Begins c call) may b.0.place b.0.call (one-pending c k b.0 is b.1))
      ] refl

  pub end-follows : (c k : ℕ) (a : Call) (ending : Ending) → slice_index pending c ≡ k + 1 → slice_get (run_calls es) k ≡ Some a
      → Fits a.call ending → MayFollow es (Ends c ending)
  end-follows c k a ending is at fits = MayFollow-from es (Ends c ending) (a.place, a.call, one-pending c k a is at, fits)

  -- the call that an end ends
  pub end-call : (c : ℕ) (ending : Ending) → MayFollow es (Ends c ending)
      → (k : ℕ) × (a : Call) × (slice_index pending c ≡ k + 1) × (slice_get (run_calls es) k ≡ Some a) × Fits a.call ending
  end-call c ending may =
      let (i, call, is_open, fits) = MayStand-from es (Ends c ending) may in
      let r = open-to es c call i is_open in (
        r.0,
        r.1,
        sym (ap (slice_index pending) r.2.client) ∙ are.listed r.0 r.1 r.2.at r.2.open_still,
        r.2.at,
        subst (λ (d : ClientCall). Fits d ending) (sym r.2.called) fits,
      )

  pub end-fits : (c k : ℕ) (a : Call) (ending : Ending) → slice_index pending c ≡ k + 1 → slice_get (run_calls es) k ≡ Some a
      → MayFollow es (Ends c ending) → Fits a.call ending
  end-fits c k a ending is at may =
      let r = end-call c ending may in
      let known = r.2 in
      let place : r.0 ≡ k = omega arith in
      let same : r.1 ≡ a = same_Some _ _ (sym r.3 ∙ ap (slice_get (run_calls es)) place ∙ at) in
      subst (λ (d : Call). Fits d.call ending) same r.4
