-- The events of a resolved log, by their places: it is a log where the log is one.
use Rattle.std.proofs.Common.{◌≡◌, ℕ, zero, suc, ◌+◌, ◌*◌, ◌<◌, List, [], ◌∷◌, length, refl, ap, sym, subst, ◌∙◌, arith}
use Rattle.std.specs.Prelude.{◌≢◌, ◌^◌, Option, Some, None}
use Rattle.std.proofs.lemmas.Bool.{eq-eqb, ne_eqb}
use Rattle.std.proofs.lemmas.Option.{same_Some}
use Rattle.log_events.specs.declared.event.ClientCall.{ClientCall}
use Rattle.log_events.specs.declared.event.ClientCall.TheVariants.{WriteTo, ReadOf, DeleteOf}
use Rattle.log_events.specs.declared.event.Ending.{Ending}
use Rattle.log_events.specs.declared.event.Ending.TheVariants.{Answered, Got, GotNothing, Failed, Lost}
use Rattle.log_events.specs.declared.event.Event.{Event}
use Rattle.log_events.specs.declared.event.Event.TheVariants.{Starts, Begins, Ends}
use Rattle.log_events.specs.Events.{Fits, IsAt, IsOpen, IsEnded, IsAllowed, MayStand}
use Rattle.log_events.specs.Shapes.{called_key, NamesSmallKeys}
use Rattle.log_events.proofs.AllowedLogs.{allowed-turns}
use Rattle.log_choices.specs.Choices.{Choice}
use Rattle.log_choices.specs.ChosenHistories.{saw}
use Rattle.log_choices.proofs.ResolvedLogs.{Begun, resolved_call, resolved_miss, resolved_ending, with_begun, resolved_event, begun_after, resolved_from}
use Rattle.log_choices.proofs.ResolvedHistories.{nothing_begun, resolved}

module _ (es : List Event) (f : Choice) where
  -- the last call that each client began before a place
  pub begun_by : (ℕ → Begun) → ℕ → List Event → ℕ → ℕ → Begun
  begun_by begun i l zero = begun
  begun_by begun i [] (suc j) = begun
  begun_by begun i (e ∷ l) (suc j) = begun_by (begun_after es f begun i e) (i + 1) l j

  resolved-at_from : (begun : ℕ → Begun) (i : ℕ) (l : List Event) (j n : ℕ) (e : Event) → n ≡ i + j → IsAt l j e
      → IsAt (resolved_from es f begun i l) j (resolved_event es f (begun_by begun i l j) n e)
  unfolding resolved_from begun_by
  resolved-at_from begun i [] j n e is at = absurd cc
  resolved-at_from begun i (d ∷ l) zero n e is at =
      let place : i ≡ n = omega arith in
      let same = same_Some _ _ at in
      λ t. Some (resolved_event es f begun (place t) (same t))
  resolved-at_from begun i (d ∷ l) (suc j) n e is at =
      resolved-at_from (begun_after es f begun i d) (i + 1) l j n e (omega arith) at

  at-resolved_from : (begun : ℕ → Begun) (i : ℕ) (l : List Event) (j n : ℕ) (d : Event) → n ≡ i + j → IsAt (resolved_from es f begun i l) j d
      → (e : Event) × IsAt l j e × (d ≡ resolved_event es f (begun_by begun i l j) n e)
  unfolding resolved_from begun_by
  at-resolved_from begun i [] j n d is at = absurd cc
  at-resolved_from begun i (e ∷ l) zero n d is at =
      let place : i ≡ n = omega arith in
      (e, refl, sym (same_Some _ _ at) ∙ ap (λ (m : ℕ). resolved_event es f begun m e) place)
  at-resolved_from begun i (e ∷ l) (suc j) n d is at =
      at-resolved_from (begun_after es f begun i e) (i + 1) l j n d (omega arith) at

  -- a client that begins nothing more has still begun the same call
  begun-kept : (begun : ℕ → Begun) (i : ℕ) (l : List Event) (j c : ℕ) → ((m : ℕ) (call : ClientCall) → m < j → ¬ IsAt l m (Begins c call))
      → begun_by begun i l j c ≡ begun c
  unfolding begun_by
  begun-kept begun i l zero c none = refl
  begun-kept begun i [] (suc j) c none = refl
  begun-kept begun i (Starts x v ∷ l) (suc j) c none = begun-kept begun (i + 1) l j c (λ m call below. none (suc m) call (omega arith))
  begun-kept begun i (Begins d call ∷ l) (suc j) c none =
      let apart : c ≢ d = λ same. none 0 call (omega arith) (ap (λ (n : ℕ). Some (Begins n call)) (sym same)) in
      begun-kept (with_begun es f begun d (i, call)) (i + 1) l j c (λ m other below. none (suc m) other (omega arith)) ∙ rw (ne_eqb c d apart)
  begun-kept begun i (Ends d ending ∷ l) (suc j) c none = begun-kept begun (i + 1) l j c (λ m call below. none (suc m) call (omega arith))

  begun-last : (begun : ℕ → Begun) (i : ℕ) (l : List Event) (k j n c : ℕ) (call : ClientCall) → n ≡ i + k → IsAt l k (Begins c call) → k < j
      → ((m : ℕ) (other : ClientCall) → k < m → m < j → ¬ IsAt l m (Begins c other)) → begun_by begun i l j c ≡ (n, call)
  unfolding begun_by
  begun-last begun i l k zero n c call is at below none = absurd (omega arith)
  begun-last begun i [] k (suc j) n c call is at below none = absurd cc
  begun-last begun i (e ∷ l) zero (suc j) n c call is at below none =
      let same = same_Some _ _ at in
      let place : i ≡ n = omega arith in
      begun-kept (begun_after es f begun i e) (i + 1) l j c (λ m other under. none (suc m) other (omega arith) (omega arith))
      ∙ ap (λ (d : Event). begun_after es f begun i d c) same ∙ (rw (eq-eqb c c refl)) ∙ ap (λ (m : ℕ). (m, call)) place
  begun-last begun i (e ∷ l) (suc k) (suc j) n c call is at below none =
      begun-last (begun_after es f begun i e) (i + 1) l k j n c call (omega arith) at (omega arith)
      (λ m other above under. none (suc m) other (omega arith) (omega arith))

  -- the events of the log
  abbrev pub begun_at : ℕ → ℕ → Begun
  begun_at j = begun_by (nothing_begun es f) 0 es j

  pub resolved-at : (j : ℕ) (e : Event) → IsAt es j e → IsAt (resolved es f) j (resolved_event es f (begun_at j) j e)
  resolved-at j e at = resolved-at_from (nothing_begun es f) 0 es j j e (omega arith) at

  pub at-resolved : (j : ℕ) (d : Event) → IsAt (resolved es f) j d → (e : Event) × IsAt es j e × (d ≡ resolved_event es f (begun_at j) j e)
  at-resolved j d at = at-resolved_from (nothing_begun es f) 0 es j j d (omega arith) at

  starts-from : (begun : ℕ → Begun) (j x u : ℕ) (e : Event) → Starts x u ≡ resolved_event es f begun j e → (v : ℕ) × (e ≡ Starts x v) × (u ≡ 2 * v)
  starts-from begun j x u (Starts y v) same = let keys : y ≡ x = cc in (v, ap (λ (n : ℕ). Starts n v) keys, cc)
  starts-from begun j x u (Begins c call) same = absurd cc
  starts-from begun j x u (Ends c ending) same = absurd cc

  begins-from : (begun : ℕ → Begun) (j c : ℕ) (other : ClientCall) (e : Event) → Begins c other ≡ resolved_event es f begun j e
      → (call : ClientCall) × (e ≡ Begins c call) × (other ≡ resolved_call j call)
  begins-from begun j c other (Starts y v) same = absurd cc
  begins-from begun j c other (Begins d call) same = let clients : d ≡ c = cc in (call, ap (λ (n : ℕ). Begins n call) clients, cc)
  begins-from begun j c other (Ends d ending) same = absurd cc

  ends-from : (begun : ℕ → Begun) (j c : ℕ) (other : Ending) (e : Event) → Ends c other ≡ resolved_event es f begun j e
      → (ending : Ending) × (e ≡ Ends c ending) × (other ≡ resolved_ending es f (begun c) ending)
  ends-from begun j c other (Starts y v) same = absurd cc
  ends-from begun j c other (Begins d call) same = absurd cc
  ends-from begun j c other (Ends d ending) same =
      let clients : d ≡ c = cc in
      let endings : other ≡ resolved_ending es f (begun d) ending = cc in
      (ending, ap (λ (n : ℕ). Ends n ending) clients, endings ∙ ap (λ (n : ℕ). resolved_ending es f (begun n) ending) clients)

  pub starts-at : (j x v : ℕ) → IsAt es j (Starts x v) → IsAt (resolved es f) j (Starts x (2 * v))
  starts-at j x v at = resolved-at j (Starts x v) at

  pub at-starts : (j x u : ℕ) → IsAt (resolved es f) j (Starts x u) → (v : ℕ) × IsAt es j (Starts x v) × (u ≡ 2 * v)
  at-starts j x u at =
      let (e, there, same) = at-resolved j (Starts x u) at in
      let (v, is, value) = starts-from (begun_at j) j x u e same in
      (v, subst (IsAt es j) is there, value)

  pub begins-at : (j c : ℕ) (call : ClientCall) → IsAt es j (Begins c call) → IsAt (resolved es f) j (Begins c (resolved_call j call))
  begins-at j c call at = resolved-at j (Begins c call) at

  pub at-begins : (j c : ℕ) (other : ClientCall) → IsAt (resolved es f) j (Begins c other)
      → (call : ClientCall) × IsAt es j (Begins c call) × (other ≡ resolved_call j call)
  at-begins j c other at =
      let (e, there, same) = at-resolved j (Begins c other) at in
      let (call, is, called) = begins-from (begun_at j) j c other e same in
      (call, subst (IsAt es j) is there, called)

  at-ends : (j c : ℕ) (other : Ending) → IsAt (resolved es f) j (Ends c other)
      → (ending : Ending) × IsAt es j (Ends c ending) × (other ≡ resolved_ending es f (begun_at j c) ending)
  at-ends j c other at =
      let (e, there, same) = at-resolved j (Ends c other) at in
      let (ending, is, ended) = ends-from (begun_at j) j c other e same in
      (ending, subst (IsAt es j) is there, ended)

  fits-resolved : (place : ℕ) (call : ClientCall) (ending : Ending) → Fits call ending → Fits (resolved_call place call) (resolved_ending es f (place, call) ending)
  fits-resolved place (WriteTo x v) Answered fits = tt
  fits-resolved place (WriteTo x v) (Got u) fits = absurd fits
  fits-resolved place (WriteTo x v) GotNothing fits = absurd fits
  fits-resolved place (WriteTo x v) Failed fits = tt
  fits-resolved place (WriteTo x v) Lost fits = tt
  fits-resolved place (ReadOf x) Answered fits = absurd fits
  fits-resolved place (ReadOf x) (Got u) fits = tt
  fits-resolved place (ReadOf x) GotNothing fits = missed (saw es f place x)
    where
      missed : (o : Option (Option ℕ)) → Fits (ReadOf x) (resolved_miss o)
      missed None = tt
      missed (Some None) = tt
      missed (Some (Some p)) = tt
  fits-resolved place (ReadOf x) Failed fits = tt
  fits-resolved place (ReadOf x) Lost fits = tt
  fits-resolved place (DeleteOf x) Answered fits = tt
  fits-resolved place (DeleteOf x) (Got u) fits = absurd fits
  fits-resolved place (DeleteOf x) GotNothing fits = absurd fits
  fits-resolved place (DeleteOf x) Failed fits = tt
  fits-resolved place (DeleteOf x) Lost fits = tt

  -- what is pending in one is pending in the other
  pub open-resolved : (c : ℕ) (call : ClientCall) (i j : ℕ) → IsOpen es c call i j → IsOpen (resolved es f) c (resolved_call i call) i j
  open-resolved c call i j pending = record {
    begun = begins-at i c call pending.begun;
    earlier = pending.earlier;
    unended = λ k ending above under at. let (first, there, _) = at-ends k c ending at in pending.unended k first above under there;
  }

  pub resolved-open : (c : ℕ) (other : ClientCall) (i j : ℕ) → IsOpen (resolved es f) c other i j
      → (call : ClientCall) × IsOpen es c call i j × (other ≡ resolved_call i call)
  resolved-open c other i j pending =
      let (call, at, same) = at-begins i c other pending.begun in (
        call,
        record {
          begun = at;
          earlier = pending.earlier;
          unended = λ k ending above under there. pending.unended k _ above under (resolved-at k (Ends c ending) there);
        },
        same,
      )

  module _ (allowed : IsAllowed es) where
    -- the pending call of a client is the last that it began
    pub open-begun : (c : ℕ) (call : ClientCall) (i j : ℕ) → IsOpen es c call i j → begun_at j c ≡ (i, call)
    open-begun c call i j pending =
        begun-last (nothing_begun es f) 0 es i j i c call (omega arith) pending.begun pending.earlier
        (λ m other above under at.
        let (k, ending, over, below, ends) = allowed-turns es allowed c i m call other above pending.begun at in
        pending.unended k ending over (omega arith) ends)

    pub ended-resolved : (c : ℕ) (call : ClientCall) (i j : ℕ) (ending : Ending) → IsEnded es c call i j ending
        → IsEnded (resolved es f) c (resolved_call i call) i j (resolved_ending es f (i, call) ending)
    ended-resolved c call i j ending end = record {
      was_open = open-resolved c call i j end.was_open;
      ends = subst (λ (b : Begun). IsAt (resolved es f) j (Ends c (resolved_ending es f b ending))) (open-begun c call i j end.was_open)
          (resolved-at j (Ends c ending) end.ends);
    }

    pub resolved-ended : (c : ℕ) (other : ClientCall) (i j : ℕ) (last : Ending) → IsEnded (resolved es f) c other i j last
        → (call : ClientCall) × (ending : Ending) × IsEnded es c call i j ending × (other ≡ resolved_call i call) × (last ≡ resolved_ending es f (i, call) ending)
    resolved-ended c other i j last end =
        let (call, pending, same) = resolved-open c other i j end.was_open in
        let (ending, at, is) = at-ends j c last end.ends in (
          call,
          ending,
          record { was_open = pending; ends = at },
          same,
          is ∙ ap (λ (b : Begun). resolved_ending es f b ending) (open-begun c call i j pending),
        )

    pub resolved-allowed : IsAllowed (resolved es f)
    resolved-allowed j d at = let (e, there, same) = at-resolved j d at in subst (MayStand (resolved es f) j) (sym same) (stands e there)
      where
        stands : (e : Event) → IsAt es j e → MayStand (resolved es f) j (resolved_event es f (begun_at j) j e)
        stands (Starts x v) there = (
          λ i client call below begins. let (first, begun, _) = at-begins i client call begins in (allowed j (Starts x v) there).0 i client first below begun,
          λ i y u below starts. let (t, started, _) = at-starts i y u starts in (allowed j (Starts x v) there).1 i y t below started,
        )
        stands (Begins c call) there =
            λ i other pending. let (first, was, _) = resolved-open c other i j pending in allowed j (Begins c call) there i first was
        stands (Ends c ending) there =
            let (i, call, pending, fits) = allowed j (Ends c ending) there in (
              i,
              resolved_call i call,
              open-resolved c call i j pending,
              subst (λ (b : Begun). Fits (resolved_call i call) (resolved_ending es f b ending)) (sym (open-begun c call i j pending)) (fits-resolved i call ending fits),
            )

  key-resolved : (place : ℕ) (call : ClientCall) → called_key (resolved_call place call) ≡ called_key call
  key-resolved place (WriteTo x v) = refl
  key-resolved place (ReadOf x) = refl
  key-resolved place (DeleteOf x) = refl

  pub resolved-small : NamesSmallKeys es → NamesSmallKeys (resolved es f)
  resolved-small small = record {
    starts = λ i x u at. let (v, there, _) = at-starts i x u at in small.starts i x v there;
    calls = λ i client other at.
        let (call, there, same) = at-begins i client other at in
        subst (λ (x : ℕ). x < 2 ^ 31) (sym (ap called_key same ∙ key-resolved i call)) (small.calls i client call there);
  }

  length-from : (begun : ℕ → Begun) (i : ℕ) (l : List Event) → length (resolved_from es f begun i l) ≡ length l
  unfolding resolved_from
  length-from begun i [] = refl
  length-from begun i (e ∷ l) = ap suc (length-from (begun_after es f begun i e) (i + 1) l)

  pub resolved-length : length (resolved es f) ≡ length es
  resolved-length = length-from (nothing_begun es f) 0 es
