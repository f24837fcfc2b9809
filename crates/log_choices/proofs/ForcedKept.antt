-- Calls as writes and deletes that did not fail.
use Rattle.std.proofs.Common.{◌≡◌, ℕ, suc, ◌<◌, ap, sym, subst, ◌∙◌, arith}
use Rattle.std.specs.Prelude.{◌≢◌, Bool, Contains, false, List, Some, slice_get, slice_index}
use Rattle.log_events.specs.declared.event.ClientCall.{ClientCall}
use Rattle.log_events.specs.declared.event.ClientCall.TheVariants.{ReadOf}
use Rattle.log_events.specs.declared.event.Ending.{Ending}
use Rattle.log_events.specs.declared.event.Ending.TheVariants.{GotNothing, Failed, Lost}
use Rattle.log_events.specs.declared.event.Event.{Event}
use Rattle.log_events.specs.declared.event.Event.TheVariants.{Begins}
use Rattle.log_events.specs.declared.limits.TheConstants.{MAX_EVENTS}
use Rattle.log_events.specs.Events.{Call, IsAt, IsEnded, run_calls}
use Rattle.log_events.proofs.CallPlaces.{ended-to}
use Rattle.log_choices.specs.Forced.{Comes, through}
use Rattle.log_choices.specs.ForcedSteps.{GetsNothing, IsKeptWrite, written_by, writing}
use Rattle.log_choices.specs.declared.forced_kept.Kept.{Kept}
use Rattle.log_choices.specs.declared.forced_looks.NullRead.{NullRead}
use Rattle.log_choices.proofs.ForcedCalls.{call-placed, call-unended, written-is}
use Rattle.log_choices.proofs.ForcedPasts.{session-comes}
use Rattle.std.proofs.Common.{⊎_elim, ◌-◌}
use Rattle.std.proofs.lemmas.Bool.{cases_eq}

module _ (in_time : Bool) (es : List Event) where
  pub kept-is : (a : Call) → Contains (run_calls es) a → (w : Kept) → w.client ≡ a.client → w.place ≡ a.place
      → written_by a.call a.ending ≡ Some (w.key, w.value) → (w.is_lost ≡ false → a.ending ≢ Some Lost) → w.place < MAX_EVENTS
      → ((c : ℕ) → slice_index w.past.items c ≡ 0) → IsKeptWrite in_time es w
  kept-is a listed w client place written lost small empty = record {
    begun = ap (slice_get es) place ∙ (call-placed es a listed).begun ∙ (λ i. Some (Begins (sym client i) (call i)));
    not_failed = λ k end. call-unended es a listed Failed stays k (back Failed k end);
    not_lost = λ not_lost k end. call-unended es a listed Lost (lost not_lost) k (back Lost k end);
    small = small;
    past = λ c p is. let none = empty c in absurd (omega arith);
  }
    where
      both : (a.call ≡ writing w.key w.value) × (a.ending ≢ Some Failed)
      both = written-is a.call a.ending w.key w.value written

      call : a.call ≡ writing w.key w.value
      call = both.0

      stays : a.ending ≢ Some Failed
      stays = both.1

      back : (e : Ending) (k : ℕ) → IsEnded es w.client (writing w.key w.value) w.place k e → IsEnded es a.client a.call a.place k e
      back e k end =
          subst (λ (n : ℕ). IsEnded es a.client a.call n k e) place
          (subst (λ (d : ClientCall). IsEnded es a.client d w.place k e) (sym call)
          (subst (λ (n : ℕ). IsEnded es n (writing w.key w.value) w.place k e) client end))

  -- a read that got nothing neither failed nor was lost
  gets-otherwise : (read : NullRead) → GetsNothing es read → (e : Ending) → GotNothing ≢ e → (k : ℕ)
      → ¬ IsEnded es read.client (ReadOf read.key) read.place k e
  gets-otherwise read gets e other k end =
      let first = ended-to es read.client (ReadOf read.key) read.place read.end GotNothing gets.ended in
      let second = ended-to es read.client (ReadOf read.key) read.place k e end in
      let same : Some GotNothing ≡ Some e = sym first ∙ second in other cc

  -- it comes before a later write of its client
  pub read-earlier : (read : NullRead) → GetsNothing es read → (w : Kept) → IsKeptWrite in_time es w → w.client ≡ read.client
      → read.place < w.place → Comes in_time es read.place w.place
  read-earlier read gets w kept same below =
      session-comes in_time es read.client read.place w.place (ReadOf read.key) (writing w.key w.value) gets.ended.was_open.begun
      (subst (λ (n : ℕ). IsAt es w.place (Begins n (writing w.key w.value))) same kept.begun) below
      (gets-otherwise read gets Failed (λ same. absurd cc)) (gets-otherwise read gets Lost (λ same. absurd cc))

  -- a read comes before a write where a count of its client, of what comes before the write, is above its place
  pub read-precedes : (read : NullRead) → GetsNothing es read → (w : Kept) → IsKeptWrite in_time es w → read.place < slice_index w.past.items read.client
      → Comes in_time es read.place w.place
  read-precedes read gets w kept below =
      let p : ℕ = slice_index w.past.items read.client - 1 in
      let is : slice_index w.past.items read.client ≡ suc p = omega arith in
      let ((call, at), comes) = kept.past read.client p is in ⊎_elim
      {C = Comes in_time es read.place w.place}
      (λ (same : p ≡ read.place). subst (λ (n : ℕ). Comes in_time es n w.place) same comes)
      (λ (other : p ≢ read.place).
      let first : Comes in_time es read.place p =
      session-comes in_time es read.client read.place p (ReadOf read.key) call gets.ended.was_open.begun at (omega arith)
      (gets-otherwise read gets Failed (λ same. absurd cc)) (gets-otherwise read gets Lost (λ same. absurd cc)) in
      through first comes)
      (cases_eq p read.place)
