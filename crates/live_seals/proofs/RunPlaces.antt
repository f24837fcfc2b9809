-- Runs of sessions and sealers: which operations have begun and ended at each place, and what a sealer has found there.
use Rattle.std.proofs.Common.{◌≡◌, ℕ, ◌+◌, ◌-◌, ◌<◌, ◌≤◌, ◌==◌, inl, inr, List, length, take, refl, sym, ◌∙◌, ap, subst, arith, take-take, [], ◌∷◌, ◌++◌, zero, suc, eq-eqb, eqb-true}
use Rattle.std.specs.Prelude.{Bool, true, false, Option, Some, None, if◌then◌else◌, slice_get}
use Rattle.std.proofs.lemmas.Bool.{cases_lt}
use Rattle.std.proofs.lemmas.List.{take-append-le, take_at}
use Rattle.std.proofs.lemmas.Option.{slice_get_within}
use Rattle.model_history.specs.declared.op_id.OpId.{OpId}
use Rattle.live_recorder.specs.Sessions.{session_operation}
use Rattle.live_recorder.proofs.Telling.{get_pushed, get_push_cases}
use Rattle.live_cut_plan.specs.declared.cell.Cell.{Cell}
use Rattle.live_cut_plan.specs.declared.cell.Cell.TheVariants.{Return, Call}
use Rattle.live_cut_plan.specs.Plans.{Look, Plan, seen_at, next_cell, after_looks, Follows}
use Rattle.live_seals.specs.Runs.{Event, call_of, return_of, counts_of, look_of, begun, ended, sealers, looks, IsAt, HasBegun, HasEnded, CanFollow, IsRun}
use Rattle.live_seals.specs.Runs.Event.{Began, Ended, Started, Looked}
use Rattle.live_seals.proofs.Meetings.{get_in}
use Rattle.live_seals.proofs.Filtered.{take-from, take-stands, picked_more, picked_whole, picked_before, picked_at, picked_stands}
use Rattle.live_seals.proofs.FoundPlaces.{seen_told, follows_at, follows_each}

some_if : {A : Type 0} (b : Bool) (x y : A) → (if b then Some x else None) ≡ Some y → (b ≡ true) × (x ≡ y)
some_if true x y e = (refl, cc)
some_if false x y e = absurd (cc)

-- an event of a session is picked
module _ (C R : Type 0) where
  call_picked : (o : OpId) (c : C) → call_of {R = R} o.session (Began o c) ≡ Some c
  call_picked o c = ap (λ (b : Bool). if b then Some c else None) (eq-eqb o.session o.session refl)

  return_picked : (o : OpId) (r : R) → return_of {C = C} o.session (Ended o r) ≡ Some r
  return_picked o r = ap (λ (b : Bool). if b then Some r else None) (eq-eqb o.session o.session refl)

-- a look is picked
pub look_picked : (C R : Type 0) (z : ℕ) (cell : Cell) (full : Bool) → look_of {C = C} {R = R} z (Looked z cell full) ≡ Some (cell, full)
look_picked C R z cell full = let look : Look = (cell, full) in ap {B = Option Look} (λ (b : Bool). if b then Some look else None) (eq-eqb z z refl)

-- and what is picked is such an event
module _ {C R : Type 0} where
  called : (s : ℕ) (e : Event C R) (c : C) → call_of s e ≡ Some c → (o : OpId) × (e ≡ Began o c) × (o.session ≡ s)
  called s (Began o d) c p = let x = some_if (o.session == s) d c p in (o, ap (Began o) x.1, eqb-true o.session s x.0)
  called s (Ended o r) c p = absurd (cc)
  called s (Started z told) c p = absurd (cc)
  called s (Looked z cell full) c p = absurd (cc)

  returned : (s : ℕ) (e : Event C R) (r : R) → return_of s e ≡ Some r → (o : OpId) × (e ≡ Ended o r) × (o.session ≡ s)
  returned s (Ended o d) r p = let x = some_if (o.session == s) d r p in (o, ap (Ended o) x.1, eqb-true o.session s x.0)
  returned s (Began o c) r p = absurd (cc)
  returned s (Started z told) r p = absurd (cc)
  returned s (Looked z cell full) r p = absurd (cc)

  started : (e : Event C R) (told : List ℕ) → counts_of e ≡ Some told → (z : ℕ) × (e ≡ Started z told)
  started (Started z t) told p = (z, ap (Started z) (let same : t ≡ told = cc in same))
  started (Began o c) told p = absurd (cc)
  started (Ended o r) told p = absurd (cc)
  started (Looked z cell full) told p = absurd (cc)

  looked : (z : ℕ) (e : Event C R) (cell : Cell) (full : Bool) → look_of z e ≡ Some (cell, full) → e ≡ Looked z cell full
  looked z (Looked y d b) cell full p =
      let x = some_if {A = Look} (y == z) (d, b) (cell, full) p in
      let number : y ≡ z = eqb-true y z x.0 in let look : ◌≡◌ {A = Look} (d, b) (cell, full) = x.1 in
      (λ i. Looked (number i) (look i).0 (look i).1)
  looked z (Began o c) cell full p = absurd (cc)
  looked z (Ended o r) cell full p = absurd (cc)
  looked z (Started y told) cell full p = absurd (cc)

module _ {C R : Type 0} (k cap : ℕ) where
  -- a front of a run is a run
  pub run_front : (es : List (Event C R)) (j : ℕ) → IsRun k cap es → IsRun k cap (take j es)
  run_front es j run i e at =
      let f = take-from j es i e at in let l : i < j = f.0 in
      subst (λ (before : List (Event C R)). CanFollow k cap before e) (sym (take-take i j es (omega arith))) (run i e f.1)

  module _ (es : List (Event C R)) (run : IsRun k cap es) where
    -- the n-th operation of a session has begun exactly where the session has begun more than n
    pub begun_counted : (o : OpId) → HasBegun es o → o.index < length (begun o.session es)
    begun_counted o h =
        let m : length (begun o.session (take h.0 es)) ≡ o.index = (run h.0 (Began o h.1) h.2).2 in
        let l : length (begun o.session (take h.0 es)) < length (begun o.session es) = picked_before (call_of o.session) es h.0 (Began o h.1) h.1 h.2 (call_picked C R o h.1) in
        omega arith

    pub ended_counted : (o : OpId) → HasEnded es o → o.index < length (ended o.session es)
    ended_counted o h =
        let m : length (ended o.session (take h.0 es)) ≡ o.index = (run h.0 (Ended o h.1) h.2).1 in
        let l : length (ended o.session (take h.0 es)) < length (ended o.session es) = picked_before (return_of o.session) es h.0 (Ended o h.1) h.1 h.2 (return_picked C R o h.1) in
        omega arith

    pub begun_there : (s n : ℕ) → n < length (begun s es) → HasBegun es (session_operation s n)
    begun_there s n l =
        let x = get_in (begun s es) n l in let p = picked_at (call_of s) es n x.0 x.1 in let c = called s p.1 x.0 p.3 in
        let at : IsAt es p.0 (Began c.0 x.0) = p.2 ∙ ap Some c.1 in
        let m : length (begun c.0.session (take p.0 es)) ≡ c.0.index = (run p.0 (Began c.0 x.0) at).2 in
        let here : length (begun s (take p.0 es)) ≡ n = p.4 in
        let index : c.0.index ≡ n = sym m ∙ (ap (λ (t : ℕ). length (begun t (take p.0 es))) c.2 ∙ here) in
        (p.0, x.0, subst (λ (o : OpId). IsAt es p.0 (Began o x.0)) (λ i. record { session = c.2 i; index = index i }) at)

    pub ended_there : (s n : ℕ) → n < length (ended s es) → HasEnded es (session_operation s n)
    ended_there s n l =
        let x = get_in (ended s es) n l in let p = picked_at (return_of s) es n x.0 x.1 in let c = returned s p.1 x.0 p.3 in
        let at : IsAt es p.0 (Ended c.0 x.0) = p.2 ∙ ap Some c.1 in
        let m : length (ended c.0.session (take p.0 es)) ≡ c.0.index = (run p.0 (Ended c.0 x.0) at).1 in
        let here : length (ended s (take p.0 es)) ≡ n = p.4 in
        let index : c.0.index ≡ n = sym m ∙ (ap (λ (t : ℕ). length (ended t (take p.0 es))) c.2 ∙ here) in
        (p.0, x.0, subst (λ (o : OpId). IsAt es p.0 (Ended o x.0)) (λ i. record { session = c.2 i; index = index i }) at)

    -- a session that has begun an operation is one of k, and the operation has a place
    pub has_place : (s n : ℕ) → n < length (begun s es) → (s < k) × (n < cap)
    has_place s n l = let b = begun_there s n l in let f = run b.0 (Began (session_operation s n) b.1) b.2 in (f.0, f.1)

    -- what has ended has begun
    pub ended_begun : (s n : ℕ) → n < length (ended s es) → n < length (begun s es)
    ended_begun s n l =
        let b = ended_there s n l in let m : length (begun s (take b.0 es)) ≡ n + 1 = (run b.0 (Ended (session_operation s n) b.1) b.2).0 in
        let w : length (begun s (take b.0 es)) ≤ length (begun s es) = picked_whole (call_of s) es b.0 in
        omega arith

    pub ended_fewer : (s : ℕ) → length (ended s es) ≤ length (begun s es)
    ended_fewer s = elim (cases_lt (length (begun s es)) (length (ended s es))) [
      | inl l ↦ let m : length (begun s es) < length (begun s es) = ended_begun s (length (begun s es)) l in omega arith
      | inr l ↦ l
    ]

    pub one_pending : (s : ℕ) → length (begun s es) ≤ length (ended s es) + 1
    one_pending s = elim (cases_lt (length (ended s es)) (length (begun s es))) [
      | inl l ↦
          let l' : length (ended s es) < length (begun s es) = l in
          let b = begun_there s (length (begun s es) - 1) (omega arith) in
          let m : length (ended s (take b.0 es)) ≡ length (begun s es) - 1 = (run b.0 (Began (session_operation s (length (begun s es) - 1)) b.1) b.2).3 in
          let w : length (ended s (take b.0 es)) ≤ length (ended s es) = picked_whole (return_of s) es b.0 in
          omega arith
      | inr l ↦ let l' : length (begun s es) ≤ length (ended s es) = l in omega arith
    ]

    pub begun_fits : (s : ℕ) → length (begun s es) ≤ cap
    begun_fits s = elim (cases_lt cap (length (begun s es))) [
      | inl l ↦ let m : cap < cap = (has_place s cap l).1 in omega arith
      | inr l ↦ l
    ]

    -- what was seen at a cell was seen by a look of the sealer
    pub seen_given : (z : ℕ) (cell : Cell) (full : Bool) → seen_at (looks z es) cell ≡ Some full → (i : ℕ) × IsAt es i (Looked z cell full)
    seen_given z cell full e =
        let t = seen_told (looks z es) cell full e in let p = picked_at (look_of z) es t.0 (cell, full) t.1 in
        (p.0, p.2 ∙ ap Some (looked z p.1 cell full p.3))

    -- a sealer looks after it has started
    pub looks_later : (z i j : ℕ) (told : List ℕ) (cell : Cell) (full : Bool) → IsAt es j (Started z told) → IsAt es i (Looked z cell full) → j < i
    looks_later z i j told cell full at look = elim (cases_lt j i) [
      | inl l ↦ l
      | inr l ↦
          let n : length (sealers (take j es)) ≡ z = (run j (Started z told) at).0 in let m : z < length (sealers (take i es)) = (run i (Looked z cell full) look).0 in
          let w : length (sealers (take i es)) ≤ length (sealers (take j es)) = picked_more counts_of es i j l in
          absurd (omega arith)
    ]

  module _ (es : List (Event C R)) (run : IsRun k cap es) where
    -- where a look found a cell empty, the session has not come so far
    pub empty_return : (z i s n : ℕ) → IsAt es i (Looked z (Return (session_operation s n)) false) → length (ended s (take i es)) ≤ n
    empty_return z i s n look = elim (cases_lt n (length (ended s (take i es)))) [
      | inl l ↦ let full : false ≡ true = (run i (Looked z (Return (session_operation s n)) false) look).1.1 (ended_there (take i es) (run_front es i run) s n l) in absurd (cc)
      | inr l ↦ l
    ]

    pub empty_call : (z i s n : ℕ) → IsAt es i (Looked z (Call (session_operation s n)) false) → length (begun s (take i es)) ≤ n
    empty_call z i s n look = elim (cases_lt n (length (begun s (take i es)))) [
      | inl l ↦ let full : false ≡ true = (run i (Looked z (Call (session_operation s n)) false) look).1.1 (begun_there (take i es) (run_front es i run) s n l) in absurd (cc)
      | inr l ↦ l
    ]

    -- where it found a cell full, it has
    pub full_return : (z i s n : ℕ) → IsAt es i (Looked z (Return (session_operation s n)) true) → n < length (ended s (take i es))
    full_return z i s n look = ended_counted (take i es) (run_front es i run) (session_operation s n) ((run i (Looked z (Return (session_operation s n)) true) look).1.0 refl)

    pub full_call : (z i s n : ℕ) → IsAt es i (Looked z (Call (session_operation s n)) true) → n < length (begun s (take i es))
    full_call z i s n look = begun_counted (take i es) (run_front es i run) (session_operation s n) ((run i (Looked z (Call (session_operation s n)) true) look).1.0 refl)

    -- an operation that began or ended at one place has done so at each later one
    pub begun_by : (i j : ℕ) (o : OpId) (c : C) → i < j → IsAt es i (Began o c) → o.index < length (begun o.session (take j es))
    begun_by i j o c l at = begun_counted (take j es) (run_front es j run) o (i, c, take-stands j es i (Began o c) l at)

    pub ended_by : (i j : ℕ) (o : OpId) (r : R) → i < j → IsAt es i (Ended o r) → o.index < length (ended o.session (take j es))
    ended_by i j o r l at = ended_counted (take j es) (run_front es j run) o (i, r, take-stands j es i (Ended o r) l at)

module _ {C R : Type 0} (k cap : ℕ) where
  -- runs are made event by event
  pub run_none : IsRun {C = C} {R = R} k cap []
  run_none zero e at = absurd (cc)
  run_none (suc i) e at = absurd (cc)

  pub run_more : (es : List (Event C R)) (e : Event C R) → IsRun k cap es → CanFollow k cap es e → IsRun k cap (es ++ e ∷ [])
  run_more es e run next i f at = elim (get_push_cases es e i f at) [
    | inl h ↦
        let w : i < length es = slice_get_within es i f h in
        subst (λ (before : List (Event C R)). CanFollow k cap before f) (sym (take-append-le i es (e ∷ []) (omega arith))) (run i f h)
    | inr h ↦ subst (λ (before : List (Event C R)). CanFollow k cap before f) (sym (take_at es (e ∷ []) i (sym h.0))) (subst (λ (g : Event C R). CanFollow k cap es g) h.1 next)
  ]

  pub run_last : (es : List (Event C R)) (e : Event C R) → IsRun k cap (es ++ e ∷ []) → IsRun k cap es × CanFollow k cap es e
  run_last es e run = (
    subst (λ (front : List (Event C R)). IsRun k cap front) (take_at es (e ∷ []) (length es) refl) (run_front k cap (es ++ e ∷ []) (length es) run),
    subst (λ (before : List (Event C R)). CanFollow k cap before e) (take_at es (e ∷ []) (length es) refl) (run (length es) e (get_pushed es e)),
  )

  module _ (es : List (Event C R)) (run : IsRun k cap es) where
    -- what sealers were told, by their numbers
    pub sealer_started : (z : ℕ) (told : List ℕ) → slice_get (sealers es) z ≡ Some told → (j : ℕ) × IsAt es j (Started z told)
    sealer_started z told e =
        let p = picked_at counts_of es z told e in let s = started p.1 told p.3 in
        let at : IsAt es p.0 (Started s.0 told) = p.2 ∙ ap Some s.1 in
        let n : length (sealers (take p.0 es)) ≡ s.0 = (run p.0 (Started s.0 told) at).0 in
        (p.0, subst (λ (y : ℕ). IsAt es p.0 (Started y told)) (sym n ∙ p.4) at)

    pub started_told : (z j : ℕ) (told : List ℕ) → IsAt es j (Started z told) → slice_get (sealers es) z ≡ Some told
    started_told z j told at = subst (λ (n : ℕ). slice_get (sealers es) n ≡ Some told) (run j (Started z told) at).0 (picked_stands counts_of es j (Started z told) told at refl)

-- the looks of a sealer follow a plan exactly where the cell of each is next behind those before it
module _ {C R : Type 0} (es : List (Event C R)) (z : ℕ) (p : Plan) where
  pub followed_at : Follows p (looks z es) → (i : ℕ) (c : Cell) (full : Bool) → IsAt es i (Looked z c full) → next_cell (after_looks p (looks z (take i es))) ≡ Some c
  followed_at w i c full at = follows_at (look_of z) es p i (Looked z c full) (c, full) w at (look_picked C R z c full)

  pub followed_each : ((i : ℕ) (c : Cell) (full : Bool) → IsAt es i (Looked z c full) → next_cell (after_looks p (looks z (take i es))) ≡ Some c) → Follows p (looks z es)
  followed_each each = follows_each (look_of z) es p (λ i e l at g. each i l.0 l.1 (at ∙ ap Some (looked z e l.0 l.1 g)))
