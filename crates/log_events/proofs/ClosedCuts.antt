-- A closed cut of a log meets what the log meets; and where a log is in the order of time, each cut is closed.
use Rattle.std.proofs.Common.{◌≡◌, ℕ, zero, suc, ◌+◌, ◌<◌, true, false, List, [], ◌∷◌, ◌++◌, take, drop, refl, sym, ap, ◌∙◌, inl, inr, ⊎_elim, arith, take-append-drop, append-nil}
use Rattle.std.specs.Prelude.{◌⊎◌, ◌==◌, IsTrue, filter_map}
use Rattle.std.proofs.lemmas.Bool.{and_from, eq-eqb}
use Rattle.std.proofs.lemmas.List.Elements.{filter_map-append}
use Rattle.model_history.specs.declared.op_id.OpId.{OpId}
use Rattle.model_history.specs.History.{IsOp, session}
use Rattle.order_causal.specs.Orders.{Order}
use Rattle.order_causal.proofs.Fronts.{take-from, take-stands}
use Rattle.order_memory.specs.Memory.{MemoryHistory, memory_answer}
use Rattle.cert_check.specs.declared.criterion.Criterion.{Criterion}
use Rattle.cert_check.specs.declared.criterion.Criterion.TheVariants.{Cc, Cm, Ccv}
use Rattle.cert_check.specs.Criteria.{IsCausalOrder, Meets}
use Rattle.cert_check.proofs.Pasts.{every-op}
use Rattle.log_events.specs.declared.event.ClientCall.TheVariants.{WriteTo, ReadOf, DeleteOf}
use Rattle.log_events.specs.declared.event.Ending.TheVariants.{Got, Failed}
use Rattle.log_events.specs.declared.event.Event.{Event}
use Rattle.log_events.specs.declared.event.Event.TheVariants.{Starts, Begins, Ends}
use Rattle.log_events.specs.Events.{IsAt, IsEnded, IsAllowed, Call, run_calls}
use Rattle.log_events.specs.Histories.{start_entry, gets, is_returned, is_deleted, history_of}
use Rattle.log_events.specs.Cuts.{IsBegunBefore, ReturnsWhatWasBegun, FindsNothingInOrder, IsClosedCut}
use Rattle.log_events.specs.Values.{BeginsKeptWrite, HasDistinctValues}
use Rattle.log_events.proofs.CallPlaces.{call_at, calls-from, calls-to, ended-from, ended-to}
use Rattle.log_events.proofs.CallSlots.{slot-call, slot-of, slot-op}
use Rattle.log_events.proofs.CutImages.{image, origin, image-from, image-to, origin-from, origin-to}
use Rattle.log_events.proofs.CutLogs.{ended-of_cut}
use Rattle.log_events.proofs.CutShadows.{known-image, first-known, extended-image}
use Rattle.log_events.proofs.CutSources.{images-in_order, images-forced, image-sources}
use Rattle.log_events.proofs.ListPlaces.{list_any-to, slice_get-drop, slice_get-found}
use Rattle.log_events.proofs.ReadSources.{delete-names}
use Rattle.log_events.proofs.Shadows.{IsShadow}
use Rattle.log_events.proofs.ShadowConvergence.{shadow-meets}
use Rattle.log_events.proofs.StartValues.{no_starts}

-- a history without operations meets each criterion
idle-meets : (h : MemoryHistory) → ((o : OpId) → ¬ IsOp h o) → (criterion : Criterion) → Meets memory_answer h criterion
idle-meets h idle = meets
  where
    none : Order
    none a b = false

    unordered : (a b : OpId) → ¬ IsTrue (none a b)
    unordered a b wrong = let no : false ≡ true = wrong in absurd cc

    causal : IsCausalOrder h none
    causal = record {
      of_history = λ a b before. absurd (unordered a b before);
      transitive = λ a b c before _. absurd (unordered a b before);
      irreflexive = λ a before. unordered a a before;
      program_order = λ a b is_op _. absurd (idle b is_op);
    }

    meets : (criterion : Criterion) → Meets memory_answer h criterion
    meets Cc = (none, causal, λ o is_op. absurd (idle o is_op))
    meets Cm = (none, causal, λ o is_op. absurd (idle o is_op))
    meets Ccv = (
      none,
      [],
      causal,
      record {
        each = λ a inside. absurd (idle a (every-op h a inside));
        no_other = λ k a at. absurd cc;
        once = λ j k a at. absurd cc;
        ordered = λ j k a b at. absurd cc;
      },
      λ o is_op. absurd (idle o is_op),
    )

-- a start of a list of events, if there is one
abbrev HasStart : List Event → Type 0
HasStart es = (k x v : ℕ) × IsAt es k (Starts x v)

start-found : (es : List Event) → HasStart es ⊎ ((k x v : ℕ) → ¬ IsAt es k (Starts x v))
start-found [] = inr (λ k x v at. absurd cc)
start-found (Starts x v ∷ es) = inl (0, x, v, refl)
start-found (Begins c call ∷ es) = later (start-found es)
  where
    later : HasStart es ⊎ ((k x v : ℕ) → ¬ IsAt es k (Starts x v)) → HasStart (Begins c call ∷ es) ⊎ ((k x v : ℕ) → ¬ IsAt (Begins c call ∷ es) k (Starts x v))
    later (inl found) = inl (suc found.0, found.1, found.2, found.3)
    later (inr none) = inr rest
      where
        rest : (k x v : ℕ) → ¬ IsAt (Begins c call ∷ es) k (Starts x v)
        rest zero x v at = absurd cc
        rest (suc k) x v at = none k x v at
start-found (Ends c ending ∷ es) = later (start-found es)
  where
    later : HasStart es ⊎ ((k x v : ℕ) → ¬ IsAt es k (Starts x v)) → HasStart (Ends c ending ∷ es) ⊎ ((k x v : ℕ) → ¬ IsAt (Ends c ending ∷ es) k (Starts x v))
    later (inl found) = inl (suc found.0, found.1, found.2, found.3)
    later (inr none) = inr rest
      where
        rest : (k x v : ℕ) → ¬ IsAt (Ends c ending ∷ es) k (Starts x v)
        rest zero x v at = absurd cc
        rest (suc k) x v at = none k x v at

-- before a start no call begins
module _ (es : List Event) (n : ℕ) (allowed : IsAllowed es) where
  idle-before : HasStart (drop n es) → (o : OpId) → ¬ IsOp (history_of (take n es)) o
  idle-before (k, x, v, at) o is_op =
      let e = slice_get-found (session (history_of (take n es)) o.session) o.index is_op in
      let (p, kind, slot) = slot-of (take n es) o e.0 e.1 in
      let (a, m, there, _) = slot-call (take n es) p kind o slot in
      let (i, place, here) = calls-from 0 (take n es) m a there in
      let begun = take-from n es i (Begins a.client a.call) here.begun in
      let below = begun.0 in
      (allowed (n + k) (Starts x v) (sym (slice_get-drop n es k) ∙ at)).0 i a.client a.call (omega arith) begun.1

module _ (es : List Event) (n : ℕ) (allowed : IsAllowed es) (holds : IsClosedCut es n) (none : (k x v : ℕ) → ¬ IsAt (drop n es) k (Starts x v)) where
  start-same : filter_map start_entry (take n es) ≡ filter_map start_entry es
  start-same =
      let empty = no_starts (drop n es) none in
      sym (append-nil (filter_map start_entry (take n es))) ∙ ap (λ (l : List (ℕ × ℕ)). filter_map start_entry (take n es) ++ l) (sym empty)
      ∙ sym (filter_map-append start_entry (take n es) (drop n es)) ∙ ap (filter_map start_entry) (take-append-drop n es)

  cut-shadow : IsShadow (history_of es) (history_of (take n es)) (image es n) (origin es n)
  cut-shadow = record {
    start = start-same;
    forth = λ a b is.
        let im = image-from es n a b is in
        (slot-op (take n es) im.p im.kind a im.in_cut, slot-op es im.p im.other b im.in_log, origin-to es n a b im);
    back = λ a b is. image-to es n a b (origin-from es n a b is);
    extended = λ a b e is at. extended-image es n allowed holds a b e (image-from es n a b is) at;
    known = λ a is. let r = known-image es n allowed holds a is in (r.0, image-to es n a r.0 r.1);
    first = first-known es n allowed holds;
    in_order = λ a b p q known precedes early late.
        images-in_order es n allowed holds a b p q known precedes (image-from es n a p early) (image-from es n b q late);
    forced = λ co causal after a b p q precedes early late.
        images-forced es n allowed holds co causal after a b p q precedes (image-from es n a p early) (image-from es n b q late);
    sources = λ a r w x v reads _ writes. image-sources es n allowed holds a r w x v reads writes;
  }

  started-meets : (criterion : Criterion) → Meets memory_answer (history_of es) criterion → Meets memory_answer (history_of (take n es)) criterion
  started-meets = shadow-meets (history_of es) (history_of (take n es)) (image es n) (origin es n) cut-shadow

pub closed_cut-meets : (es : List Event) (n : ℕ) → IsAllowed es → IsClosedCut es n → (criterion : Criterion)
    → Meets memory_answer (history_of es) criterion → Meets memory_answer (history_of (take n es)) criterion
closed_cut-meets es n allowed holds criterion met = ⊎_elim
    (λ (found : HasStart (drop n es)). idle-meets (history_of (take n es)) (idle-before es n allowed found) criterion)
    (λ (none : (k x v : ℕ) → ¬ IsAt (drop n es) k (Starts x v)). started-meets es n allowed holds none criterion met)
    (start-found (drop n es))

module _ (es : List Event) (n : ℕ) (returns : ReturnsWhatWasBegun es) (finds : FindsNothingInOrder es) (distinct : HasDistinctValues es) where
  -- what a read got is returned
  got-returned : (c x v i j : ℕ) → IsEnded es c (ReadOf x) i j (Got v) → is_returned es x v ≡ true
  got-returned c x v i j end =
      let r = calls-to 0 es i c (ReadOf x) end.was_open.begun in
      list_any-to (λ (a : Call). gets x v a.call a.ending) (run_calls es) r.0 (call_at 0 i es c (ReadOf x)) r.1
      (ap (gets x v (ReadOf x)) (ended-to es c (ReadOf x) i j (Got v) end) ∙ and_from (x == x) (v == v) (eq-eqb x x refl) (eq-eqb v v refl))

  write-early : (reader client x v i j k : ℕ) → IsEnded es reader (ReadOf x) i j (Got v) → j < n → IsAt es k (Begins client (WriteTo x v))
      → ((m : ℕ) → ¬ IsEnded es client (WriteTo x v) k m Failed) → k < n
  write-early reader client x v i j k end below begun unfailed =
      let returned = got-returned reader x v i j end in
      let kept : BeginsKeptWrite es client k x v = record { begun = begun; not_failed = unfailed; returned = λ _ _. returned } in
      ⊎_elim
      (λ (start : (m : ℕ) × (m < j) × IsAt es m (Starts x v)). absurd (distinct.not_started client k x v start.0 kept start.2))
      (λ (first : IsBegunBefore es j (WriteTo x v)).
      let (other, m, earlier, at, stays) = first in
      let same = distinct.once client other k m x v kept (record { begun = at; not_failed = stays; returned = λ _ _. returned }) in omega arith)
      (returns.value reader x v i j end)

  delete-early : (x j : ℕ) → j < n → IsBegunBefore es j (DeleteOf x) → is_deleted (take n es) x ≡ true
  delete-early x j below (client, i, earlier, at, stays) =
      let here = take-stands n es i (Begins client (DeleteOf x)) (omega arith) at in
      let r = calls-to 0 (take n es) i client (DeleteOf x) here in
      let a = call_at 0 i (take n es) client (DeleteOf x) in
      delete-names (take n es) a x r refl (λ failed.
      let end = ended-from (take n es) i a Failed (record { begun = here; ended = refl }) failed in
      stays end.0 (ended-of_cut es n client (DeleteOf x) i end.0 Failed end.1))

  pub in_order-closed : IsClosedCut es n
  in_order-closed = record {
    writes = write-early;
    deletes = λ reader x i j end below named. delete-early x j below (finds reader x i j end named);
  }
