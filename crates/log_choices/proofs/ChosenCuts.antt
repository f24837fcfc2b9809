-- In the order of time the first events of a log meet what the log meets: by the choice cut to the null reads among them.
use Rattle.std.proofs.Common.{◌≡◌, ℕ, zero, suc, ◌+◌, ◌*◌, ◌<◌, true, false, Bool, List, [], ◌∷◌, length, take, refl, ap, sym, subst, ◌∙◌, inl, inr, ⊎_elim, arith}
use Rattle.std.specs.Prelude.{◌≢◌, ◌⊎◌, if◌then◌else◌, Option, Some, None, slice_get}
use Rattle.std.proofs.lemmas.Option.{same_Some}
use Rattle.model_objects.specs.declared.register.RegisterRet.{RegisterRet}
use Rattle.model_history.specs.declared.op_id.OpId.{OpId}
use Rattle.model_history.specs.History.{entry}
use Rattle.order_causal.proofs.Fronts.{take-from, take-stands}
use Rattle.order_memory.specs.Memory.{MemoryHistory, Writes, initial, memory_answer}
use Rattle.order_memory.proofs.MemoryLaws.{entry-call}
use Rattle.cert_check.specs.declared.criterion.Criterion.{Criterion}
use Rattle.cert_check.specs.declared.criterion.Criterion.TheVariants.{Cc}
use Rattle.cert_check.specs.Criteria.{Meets}
use Rattle.pattern_check.specs.declared.kind.Kind.TheVariants.{ThinAirRead}
use Rattle.pattern_check.proofs.Exclusion.{consistency-excluded}
use Rattle.log_events.specs.declared.event.ClientCall.{ClientCall}
use Rattle.log_events.specs.declared.event.ClientCall.TheVariants.{WriteTo, ReadOf, DeleteOf}
use Rattle.log_events.specs.declared.event.Ending.{Ending}
use Rattle.log_events.specs.declared.event.Ending.TheVariants.{Answered, Got, GotNothing, Failed, Lost}
use Rattle.log_events.specs.declared.event.Event.{Event}
use Rattle.log_events.specs.declared.event.Event.TheVariants.{Starts, Begins, Ends}
use Rattle.log_events.specs.Events.{Fits, IsAt, IsOpen, IsEnded, IsAllowed}
use Rattle.log_events.specs.Histories.{key, mark, value, nothing, write, Operation, is_deleted, history_of}
use Rattle.log_events.specs.Cuts.{IsBegunBefore, IsClosedCut}
use Rattle.log_events.specs.Values.{BeginsKeptWrite, HasDistinctValues}
use Rattle.log_events.proofs.AllowedLogs.{first-start}
use Rattle.log_events.proofs.CallOperations.{fork-call}
use Rattle.log_events.proofs.CallPlaces.{call_at, calls-to, ended-from}
use Rattle.log_events.proofs.CallSlots.{IsSlot, main-entry, fork-entry, slot-of}
use Rattle.log_events.proofs.ClosedCuts.{closed_cut-meets}
use Rattle.log_events.proofs.CutLogs.{cut-allowed, ended-of_cut}
use Rattle.log_events.proofs.DistinctValues.{IsOfWrite, fork-write, values-distinct, write-call}
use Rattle.log_events.proofs.ListPlaces.{slice_get-found}
use Rattle.log_events.proofs.ReadSources.{delete-names}
use Rattle.log_events.proofs.StartValues.{initial-started}
use Rattle.log_choices.specs.Choices.{Choice, BeginsKeptDelete, IsCandidate, IsChoice, IsNullRead, IsWhole}
use Rattle.log_choices.specs.ChosenCriteria.{MeetsBy, LogMeets}
use Rattle.log_choices.specs.ChosenHistories.{saw, history_by}
use Rattle.log_choices.specs.TimedLogs.{GotWhatWasBegun}
use Rattle.log_choices.proofs.CallEffects.{got-returned, miss-effect}
use Rattle.log_choices.proofs.ForcedHistories.{from-resolved, to-resolved}
use Rattle.log_choices.proofs.ResolvedEvents.{at-begins, at-resolved, begun_at, ended-resolved, open-begun, resolved-allowed, resolved-at, starts-at}
use Rattle.log_choices.proofs.ResolvedHistories.{resolved, undeleted}
use Rattle.log_choices.proofs.ResolvedLogs.{Begun, resolved_call, resolved_miss, resolved_ending, resolved_event}
use Rattle.log_choices.proofs.ResolvedValues.{got-from, resolved-distinct}

-- lists with the same at each place are the same
same-places : {X : Type 0} (xs ys : List X) → ((k : ℕ) → slice_get xs k ≡ slice_get ys k) → xs ≡ ys
same-places [] [] same = refl
same-places [] (y ∷ ys) same = let wrong = same 0 in absurd cc
same-places (x ∷ xs) [] same = let wrong = same 0 in absurd cc
same-places (x ∷ xs) (y ∷ ys) same = λ i. same_Some x y (same 0) i ∷ same-places xs ys (λ k. same (suc k)) i

module _ (es : List Event) (f : Choice) (n : ℕ) (allowed : IsAllowed es) where
  abbrev cut : List Event
  cut = take n es

  abbrev log : List Event
  log = resolved es f

  -- what a call at a place saw, where it is a read
  saw_at : ℕ → Option Event → Option (Option ℕ)
  saw_at i None = None
  saw_at i (Some (Starts x v)) = None
  saw_at i (Some (Ends c ending)) = None
  saw_at i (Some (Begins c (WriteTo x v))) = None
  saw_at i (Some (Begins c (DeleteOf x))) = None
  saw_at i (Some (Begins c (ReadOf x))) = saw es f i x

  -- the choice of the cut
  pub cut_choice : Choice
  cut_choice i = saw_at i (slice_get es i)

  cut_choice-is : (c i x : ℕ) → IsAt es i (Begins c (ReadOf x)) → cut_choice i ≡ saw es f i x
  unfolding saw_at cut_choice
  cut_choice-is c i x at = ap (saw_at i) at

  -- what a log without a delete in the cut has of a key there
  delete-in_cut : (x p j : ℕ) → p < j → j < n → BeginsKeptDelete es x p → BeginsKeptDelete cut x p
  delete-in_cut x p j early below (client, at, stays) =
      (client, take-stands n es p (Begins client (DeleteOf x)) (omega arith) at, λ k end. stays k (ended-of_cut es n client (DeleteOf x) p k Failed end))

  delete-named : (x p : ℕ) → BeginsKeptDelete cut x p → is_deleted cut x ≡ true
  delete-named x p (client, at, stays) =
      let r = calls-to 0 cut p client (DeleteOf x) at in
      delete-names cut (call_at 0 p cut client (DeleteOf x)) x r refl (λ failed.
      let end = ended-from cut p (call_at 0 p cut client (DeleteOf x)) Failed (record { begun = at; ended = refl }) failed in stays end.0 end.1)

  module _ (choice : IsChoice true es f) (whole : IsWhole es f) where
    -- what a read of the cut that got nothing saw
    same-saw : (c x i j : ℕ) → IsEnded es c (ReadOf x) i j GotNothing → j < n → saw cut cut_choice i x ≡ saw es f i x
    same-saw c x i j end below = by_test (is_deleted cut x) refl
      where
        started : is_deleted cut x ≡ false → (b : Bool) → is_deleted es x ≡ b → (o : Option (Option ℕ)) → f i ≡ o → Some None ≡ saw es f i x
        started unnamed false none o is = sym (ap (λ (b : Bool). if b then f i else Some None) none)
        started unnamed true named None is = absurd (whole c x i j (record { ended = end; named = named }) is)
        started unnamed true named (Some None) is = sym (λ t. if named t then is t else Some None)
        started unnamed true named (Some (Some p)) is =
            let (kept, early) = choice c x i j (Some p) (record { ended = end; named = named }) is in
            let there = delete-named x p (delete-in_cut x p j (early refl) below kept) in
            absurd cc

        by_test : (b : Bool) → is_deleted cut x ≡ b → saw cut cut_choice i x ≡ saw es f i x
        by_test true named = ap (λ (b : Bool). if b then cut_choice i else Some None) named ∙ cut_choice-is c i x end.was_open.begun
        by_test false unnamed =
            ap (λ (b : Bool). if b then cut_choice i else Some None) unnamed ∙ started unnamed (is_deleted es x) refl (f i) refl

    -- the first events of the resolved log are the resolved first events
    cut-resolved : take n log ≡ resolved cut cut_choice
    cut-resolved = same-places (take n log) (resolved cut cut_choice) (λ k. at_place k (slice_get cut k) refl)
      where
        same-ending : (c k : ℕ) (ending : Ending) → IsAt es k (Ends c ending) → k < n
            → resolved_ending es f (begun_at es f k c) ending ≡ resolved_ending cut cut_choice (begun_at cut cut_choice k c) ending
        same-ending c k Answered at below = refl
        same-ending c k (Got v) at below = refl
        same-ending c k Failed at below = refl
        same-ending c k Lost at below = refl
        same-ending c k GotNothing at below = by_call (allowed k (Ends c GotNothing) at)
          where
            in_cut : (call : ClientCall) (i : ℕ) → IsOpen es c call i k → IsOpen cut c call i k
            in_cut call i pending = let early = pending.earlier in record {
              begun = take-stands n es i (Begins c call) (omega arith) pending.begun;
              earlier = pending.earlier;
              unended = λ m ending above under end. pending.unended m ending above under (take-from n es m (Ends c ending) end).1;
            }

            by_kind : (i : ℕ) (call : ClientCall) → IsOpen es c call i k → Fits call GotNothing
                → resolved_ending es f (i, call) GotNothing ≡ resolved_ending cut cut_choice (i, call) GotNothing
            by_kind i (WriteTo x v) pending fits = refl
            by_kind i (DeleteOf x) pending fits = refl
            by_kind i (ReadOf x) pending fits = ap resolved_miss (sym (same-saw c x i k (record { was_open = pending; ends = at }) below))

            by_call : (i : ℕ) × (call : ClientCall) × IsOpen es c call i k × Fits call GotNothing
                → resolved_ending es f (begun_at es f k c) GotNothing ≡ resolved_ending cut cut_choice (begun_at cut cut_choice k c) GotNothing
            by_call (i, call, pending, fits) =
                ap (λ (b : Begun). resolved_ending es f b GotNothing) (open-begun es f allowed c call i k pending)
                ∙ by_kind i call pending fits
                ∙ sym (ap (λ (b : Begun). resolved_ending cut cut_choice b GotNothing)
                (open-begun cut cut_choice (cut-allowed es n allowed) c call i k (in_cut call i pending)))

        same-event : (k : ℕ) (e : Event) → IsAt es k e → k < n → resolved_event es f (begun_at es f k) k e ≡ resolved_event cut cut_choice (begun_at cut cut_choice k) k e
        same-event k (Starts x v) at below = refl
        same-event k (Begins c call) at below = refl
        same-event k (Ends c ending) at below = ap (λ (t : Ending). Ends c t) (same-ending c k ending at below)

        none_of : (xs : List Event) (k : ℕ) → ((d : Event) → slice_get xs k ≢ Some d) → slice_get xs k ≡ None
        none_of xs k none = by_item (slice_get xs k) refl
          where
            by_item : (o : Option Event) → slice_get xs k ≡ o → slice_get xs k ≡ None
            by_item None is = is
            by_item (Some d) is = absurd (none d is)

        at_place : (k : ℕ) (o : Option Event) → slice_get cut k ≡ o → slice_get (take n log) k ≡ slice_get (resolved cut cut_choice) k
        at_place k (Some e) at =
            let (below, there) = take-from n es k e at in
            take-stands n log k (resolved_event es f (begun_at es f k) k e) below (resolved-at es f k e there)
            ∙ ap (λ (d : Event). Some d) (same-event k e there below) ∙ sym (resolved-at cut cut_choice k e at)
        at_place k None none =
            none_of (take n log) k (λ d at.
            let (below, there) = take-from n log k d at in
            let (e, here, _) = at-resolved es f k d there in
            let wrong : None ≡ Some e = sym none ∙ take-stands n es k e below here in absurd cc)
            ∙ sym (none_of (resolved cut cut_choice) k (λ d at.
            let (e, here, _) = at-resolved cut cut_choice k d at in
            let wrong : None ≡ Some e = sym none ∙ here in absurd cc))

    module _ (distinct : HasDistinctValues es) (begun : GotWhatWasBegun es) where
      write-early : (reader client x u i j k : ℕ) → IsEnded log reader (ReadOf x) i j (Got u) → j < n → IsAt log k (Begins client (WriteTo x u))
          → ((m : ℕ) → ¬ IsEnded log client (WriteTo x u) k m Failed) → k < n
      write-early reader client x u i j k end below at stays =
          let (call, there, same) = at-begins es f k client (WriteTo x u) at in
          by_call call there same (got-from es f allowed reader x i j u end)
        where
          by_call : (call : ClientCall) → IsAt es k (Begins client call) → WriteTo x u ≡ resolved_call k call
              → ((v : ℕ) × IsEnded es reader (ReadOf x) i j (Got v) × (u ≡ 2 * v))
              ⊎ ((p : ℕ) × IsNullRead es reader x i j × (f i ≡ Some (Some p)) × (u ≡ 2 * p + 1)) → k < n
          by_call (ReadOf y) there same got = absurd cc
          by_call (WriteTo y w) there same (inr (p, null, some, value2)) = let value1 : u ≡ 2 * w = cc in absurd (omega arith)
          by_call (DeleteOf y) there same (inl (v, was, value2)) = let value1 : u ≡ 2 * k + 1 = cc in absurd (omega arith)
          by_call (DeleteOf y) there same (inr (p, null, some, value2)) =
              let value1 : u ≡ 2 * k + 1 = cc in
              let (_, early) = choice reader x i j (Some p) null some in
              let less : p < j = early refl in
              omega arith
          by_call (WriteTo y w) there same (inl (v, was, value2)) =
              let value1 : u ≡ 2 * w = cc in
              let keys : y ≡ x = cc in
              let values : w ≡ v = omega arith in
              let here : IsAt es k (Begins client (WriteTo x v)) =
              subst (λ (t : ℕ). IsAt es k (Begins client (WriteTo x t))) values (subst (λ (z : ℕ). IsAt es k (Begins client (WriteTo z w))) keys there) in
              by_time v was here (λ m end. stays m (subst (λ (t : ℕ). IsEnded log client (WriteTo x t) k m Failed) (sym value2)
              (ended-resolved es f allowed client (WriteTo x v) k m Failed end)))
            where
              by_time : (v : ℕ) → IsEnded es reader (ReadOf x) i j (Got v) → IsAt es k (Begins client (WriteTo x v))
                  → ((m : ℕ) → ¬ IsEnded es client (WriteTo x v) k m Failed) → k < n
              by_time v was here unfailed =
                  let returned = got-returned es reader x i j v was in
                  let kept : BeginsKeptWrite es client k x v = record { begun = here; not_failed = unfailed; returned = λ _ _. returned } in
                  ⊎_elim
                  (λ (start : (m : ℕ) × (m < j) × IsAt es m (Starts x v)). absurd (distinct.not_started client k x v start.0 kept start.2))
                  (λ (first : IsBegunBefore es j (WriteTo x v)).
                  let (other, m, earlier, began, lasts) = first in
                  let same = distinct.once client other k m x v kept (record { begun = began; not_failed = lasts; returned = λ _ _. returned }) in omega arith)
                  (begun reader x v i j was)

      cut-closed : IsClosedCut log n
      cut-closed = record {
        writes = write-early;
        deletes = λ reader x i j end below named. let wrong : true ≡ false = sym named ∙ undeleted es f allowed x in absurd cc;
      }

      -- nobody writes nothing to a key
      unwritten : (w : OpId) (x : ℕ) → ¬ Writes (history_of log) w (key x) nothing
      unwritten w x writes =
          let (r, at) = entry-call (entry (history_of log) w) _ writes in
          let (p, kind, slot) = slot-of log w (write (key x) nothing r) at in
          by_slot p kind r at slot
        where
          by_write : (p : ℕ) (call : ClientCall) (ending : Option Ending) → IsOfWrite log p (key x) nothing call ending → ⊥
          by_write p call ending (inl (y, v, _, _, _, _, values)) = omega arith
          by_write p call ending (inr (inl (marks, _))) = omega arith
          by_write p call ending (inr (inr (y, _, values))) = omega arith

          by_slot : (p kind : ℕ) (r : Option RegisterRet) → entry (history_of log) w ≡ Some (write (key x) nothing r) → IsSlot log p kind w → ⊥
          by_slot p zero r at main =
              let gives = main.gives ∙ sym (main-entry log p w main) ∙ at in
              by_write main.a.place main.a.call main.a.ending (write-call log main.a.place (key x) nothing main.a.call main.a.ending r gives)
          by_slot p (suc i) r at forked =
              let (y, u, called, ended, returned, same) = fork-call log forked.a.place forked.a.call forked.a.ending forked.l forked.gives in
              let two : length forked.l ≡ 2 = ap length same in
              let below = forked.inside in
              let found = slice_get-found forked.l i (omega arith) in
              let there : slice_get forked.l i ≡ Some (write (key x) nothing r) = found.1 ∙ sym (fork-entry log p i w forked found.0 found.1) ∙ at in
              let (_, _, values) = fork-write (mark forked.a.place) (key y) (value u) (key x) nothing i r
              (subst (λ (l : List Operation). slice_get l i ≡ Some (write (key x) nothing r)) same there) in
              omega arith

      -- a read that got nothing, of a key that no delete names, has a key without a start, where the log is causally consistent
      miss-unstarted : Meets memory_answer (history_of log) Cc → (c x i j : ℕ) → IsEnded es c (ReadOf x) i j GotNothing → is_deleted es x ≡ false
          → (k v : ℕ) → ¬ IsAt es k (Starts x v)
      miss-unstarted met c x i j end unnamed k v at =
          let missed : IsEnded log c (ReadOf x) i j GotNothing =
          subst (IsEnded log c (ReadOf x) i j) (ap (λ (b : Bool). resolved_miss (if b then f i else Some None)) unnamed)
          (ended-resolved es f allowed c (ReadOf x) i j GotNothing end) in
          let (q, _, reads) = miss-effect log c x i j missed (undeleted es f allowed x) in
          let starts : initial (history_of log) (key x) ≡ value (2 * v) =
          initial-started log k x (2 * v) (starts-at es f k x v at) (first-start log (resolved-allowed es f allowed) k x (2 * v) (starts-at es f k x v at)) in
          consistency-excluded (history_of log) (values-distinct log (resolved-distinct es f allowed distinct)) ThinAirRead refl
          (q, (key x, nothing, reads, (λ same. omega arith), λ w. unwritten w x)) met

      cut-choice : Meets memory_answer (history_of log) Cc → IsChoice true cut cut_choice
      cut-choice met client x i j d null is = by_test (is_deleted es x) refl
        where
          end : IsEnded es client (ReadOf x) i j GotNothing
          end = ended-of_cut es n client (ReadOf x) i j GotNothing null.ended

          below : j < n
          below = (take-from n es j (Ends client GotNothing) null.ended.ends).0

          some : saw es f i x ≡ Some d
          some = sym (cut_choice-is client i x end.was_open.begun) ∙ is

          unstarted : ((k v : ℕ) → ¬ IsAt es k (Starts x v)) → (k v : ℕ) → ¬ IsAt cut k (Starts x v)
          unstarted none k v at = none k v (take-from n es k (Starts x v) at).1

          candidate : (d : Option ℕ) → IsCandidate true es x j d → IsCandidate true cut x j d
          candidate None none = unstarted none
          candidate (Some p) (kept, early) = (delete-in_cut x p j (early refl) below kept, early)

          by_test : (b : Bool) → is_deleted es x ≡ b → IsCandidate true cut x j d
          by_test true named =
              candidate d (choice client x i j d (record { ended = end; named = named }) (sym (ap (λ (b : Bool). if b then f i else Some None) named) ∙ some))
          by_test false unnamed =
              let start : None ≡ d = same_Some _ _ (sym (ap (λ (b : Bool). if b then f i else Some None) unnamed) ∙ some) in
              subst (IsCandidate true cut x j) start (unstarted (miss-unstarted met client x i j end unnamed))

      cut-whole : IsWhole cut cut_choice
      cut-whole client x i j null none =
          let end = ended-of_cut es n client (ReadOf x) i j GotNothing null.ended in
          by_test (is_deleted es x) refl end (sym (cut_choice-is client i x end.was_open.begun) ∙ none)
        where
          by_test : (b : Bool) → is_deleted es x ≡ b → IsEnded es client (ReadOf x) i j GotNothing → saw es f i x ≡ None → ⊥
          by_test true named end missing =
              whole client x i j (record { ended = end; named = named }) (sym (ap (λ (b : Bool). if b then f i else Some None) named) ∙ missing)
          by_test false unnamed end missing =
              let wrong : ◌≡◌ {A = Option (Option ℕ)} (Some None) None = sym (ap (λ (b : Bool). if b then f i else Some None) unnamed) ∙ missing in absurd cc

      pub cut-meets_by : Meets memory_answer (history_of log) Cc → (criterion : Criterion) → Meets memory_answer (history_by es f) criterion
          → MeetsBy true cut cut_choice criterion
      cut-meets_by consistent criterion met = record {
        choice = cut-choice consistent;
        whole = cut-whole;
        met = from-resolved cut cut_choice (cut-allowed es n allowed) criterion
            (subst (λ (l : List Event). Meets memory_answer (history_of l) criterion) cut-resolved
            (closed_cut-meets log n (resolved-allowed es f allowed) cut-closed criterion (to-resolved es f allowed criterion met)));
      }

-- a cut of a log in the order of time meets what the log meets
pub chosen_cut-meets : ((h : MemoryHistory) (criterion : Criterion) → Meets memory_answer h criterion → Meets memory_answer h Cc)
    → (es : List Event) (n : ℕ) → IsAllowed es → GotWhatWasBegun es → HasDistinctValues es → (criterion : Criterion)
    → LogMeets true es criterion → LogMeets true (take n es) criterion
chosen_cut-meets weaker es n allowed begun distinct criterion (f, by) = (
  _,
  cut-meets_by es f n allowed by.choice by.whole distinct begun (to-resolved es f allowed Cc (weaker (history_by es f) criterion by.met)) criterion by.met,
)
