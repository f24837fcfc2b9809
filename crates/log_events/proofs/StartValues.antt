-- The start of the history of a log.
use Rattle.std.proofs.Common.{◌≡◌, ℕ, zero, suc, ◌<◌, List, [], ◌∷◌, refl, ap, sym, ◌∙◌, inl, inr, ⊎_elim, arith}
use Rattle.std.specs.Prelude.{◌≢◌, ◌⊎◌, Option, Some, None, slice_get, filter_map, unwrap_or}
use Rattle.std.proofs.lemmas.Option.{same_Some}
use Rattle.std.proofs.lemmas.Bool.{cases_eq, eq-eqb, ne_eqb}
use Rattle.model_objects.specs.Table.{value_at}
use Rattle.order_memory.specs.Memory.{initial}
use Rattle.log_events.specs.declared.event.Event.{Event}
use Rattle.log_events.specs.declared.event.Event.TheVariants.{Starts, Begins, Ends}
use Rattle.log_events.specs.Events.{IsAt}
use Rattle.log_events.specs.Histories.{key, mark, value, start_entry, history_of}
use Rattle.log_events.proofs.ListPlaces.{filter_map-from}

-- the first start of a key gives its value
started : (es : List Event) (k x v : ℕ) → IsAt es k (Starts x v) → ((m u : ℕ) → m < k → ¬ IsAt es m (Starts x u))
    → value_at (filter_map start_entry es) (key x) ≡ Some (value v)
started [] k x v at first = absurd cc
started (Starts y u ∷ es) zero x v at first =
    let same = same_Some _ _ at in
    let key_same : y ≡ x = cc in
    let value_same : u ≡ v = cc in
    rw (eq-eqb (key y) (key x) (ap key key_same)) (ap (λ (n : ℕ). Some (value n)) value_same)
started (Starts y u ∷ es) (suc k) x v at first =
    let rest = started es k x v at (λ m t below. first (suc m) t (omega arith)) in
    let apart : y ≢ x = λ same. first 0 u (omega arith) (ap (λ (n : ℕ). Some (Starts n u)) same) in
    rw (ne_eqb (key y) (key x) (λ same. apart (omega arith))) rest
started (Begins c call ∷ es) zero x v at first = absurd cc
started (Begins c call ∷ es) (suc k) x v at first = started es k x v at (λ m t below. first (suc m) t (omega arith))
started (Ends c ending ∷ es) zero x v at first = absurd cc
started (Ends c ending ∷ es) (suc k) x v at first = started es k x v at (λ m t below. first (suc m) t (omega arith))

unstarted : (es : List Event) (x : ℕ) → ((k v : ℕ) → ¬ IsAt es k (Starts x v)) → value_at (filter_map start_entry es) (key x) ≡ None
unstarted [] x none = refl
unstarted (Starts y u ∷ es) x none =
    let rest = unstarted es x (λ k. none (suc k)) in
    let apart : y ≢ x = λ same. none 0 u (ap (λ (n : ℕ). Some (Starts n u)) same) in
    rw (ne_eqb (key y) (key x) (λ same. apart (omega arith))) rest
unstarted (Begins c call ∷ es) x none = unstarted es x (λ k. none (suc k))
unstarted (Ends c ending ∷ es) x none = unstarted es x (λ k. none (suc k))

pub initial-started : (es : List Event) (k x v : ℕ) → IsAt es k (Starts x v) → ((m u : ℕ) → m < k → ¬ IsAt es m (Starts x u))
    → initial (history_of es) (key x) ≡ value v
initial-started es k x v at first = ap (λ (o : Option ℕ). unwrap_or o 0) (started es k x v at first)

pub initial-unstarted : (es : List Event) (x : ℕ) → ((k v : ℕ) → ¬ IsAt es k (Starts x v)) → initial (history_of es) (key x) ≡ 0
initial-unstarted es x none = ap (λ (o : Option ℕ). unwrap_or o 0) (unstarted es x none)

-- an entry of the start comes from a start
start_entry-from : (e : Event) (held : ℕ × ℕ) → start_entry e ≡ Some held → (x v : ℕ) × (e ≡ Starts x v) × (held ≡ (key x, value v))
start_entry-from (Starts x v) held is = (x, v, refl, sym (same_Some _ _ is))
start_entry-from (Begins c call) held is = absurd cc
start_entry-from (Ends c ending) held is = absurd cc

pub start-from : (es : List Event) (k : ℕ) (held : ℕ × ℕ) → slice_get (filter_map start_entry es) k ≡ Some held
    → (m x v : ℕ) × IsAt es m (Starts x v) × (held ≡ (key x, value v))
start-from es k held at =
    let r = filter_map-from start_entry es k held at in
    let s = start_entry-from r.1 held r.3 in
    (r.0, s.0, s.1, r.2 ∙ ap Some s.2, s.3)

-- no starts, no entries
pub no_starts : (es : List Event) → ((k x v : ℕ) → ¬ IsAt es k (Starts x v)) → filter_map start_entry es ≡ []
no_starts [] none = refl
no_starts (Starts x v ∷ es) none = absurd (none 0 x v refl)
no_starts (Begins c call ∷ es) none = no_starts es (λ k. none (suc k))
no_starts (Ends c ending ∷ es) none = no_starts es (λ k. none (suc k))

-- a key holds nothing at first, or what some start gives it
started-cases : (es : List Event) (x : ℕ) → (value_at (filter_map start_entry es) (key x) ≡ None)
    ⊎ ((k v : ℕ) × IsAt es k (Starts x v) × (value_at (filter_map start_entry es) (key x) ≡ Some (value v)))
started-cases [] x = inl refl
started-cases (Starts y u ∷ es) x = ⊎_elim
    (λ (same : y ≡ x). inr (0, u, ap (λ (n : ℕ). Some (Starts n u)) same, rw (eq-eqb (key y) (key x) (ap key same)) refl))
    (λ (apart : y ≢ x). rw (ne_eqb (key y) (key x) (λ same. apart (omega arith))) (later (started-cases es x)))
    (cases_eq y x)
  where
    later : (value_at (filter_map start_entry es) (key x) ≡ None)
        ⊎ ((k v : ℕ) × IsAt es k (Starts x v) × (value_at (filter_map start_entry es) (key x) ≡ Some (value v)))
        → (value_at (filter_map start_entry es) (key x) ≡ None)
        ⊎ ((k v : ℕ) × IsAt (Starts y u ∷ es) k (Starts x v) × (value_at (filter_map start_entry es) (key x) ≡ Some (value v)))
    later (inl none) = inl none
    later (inr (k, v, at, is)) = inr (suc k, v, at, is)
started-cases (Begins c call ∷ es) x = ⊎_elim
    (λ (none : value_at (filter_map start_entry es) (key x) ≡ None). inl none)
    (λ (some : (k v : ℕ) × IsAt es k (Starts x v) × (value_at (filter_map start_entry es) (key x) ≡ Some (value v))).
    inr (suc some.0, some.1, some.2, some.3))
    (started-cases es x)
started-cases (Ends c ending ∷ es) x = ⊎_elim
    (λ (none : value_at (filter_map start_entry es) (key x) ≡ None). inl none)
    (λ (some : (k v : ℕ) × IsAt es k (Starts x v) × (value_at (filter_map start_entry es) (key x) ≡ Some (value v))).
    inr (suc some.0, some.1, some.2, some.3))
    (started-cases es x)

pub start-cases : (es : List Event) (x : ℕ) → (initial (history_of es) (key x) ≡ 0)
    ⊎ ((k v : ℕ) × IsAt es k (Starts x v) × (initial (history_of es) (key x) ≡ value v))
start-cases es x = ⊎_elim
    (λ (none : value_at (filter_map start_entry es) (key x) ≡ None). inl (ap (λ (o : Option ℕ). unwrap_or o 0) none))
    (λ (some : (k v : ℕ) × IsAt es k (Starts x v) × (value_at (filter_map start_entry es) (key x) ≡ Some (value v))).
    inr (some.0, some.1, some.2, ap (λ (o : Option ℕ). unwrap_or o 0) some.3))
    (started-cases es x)

-- a mark holds nothing at first
unmarked : (es : List Event) (p : ℕ) → value_at (filter_map start_entry es) (mark p) ≡ None
unmarked [] p = refl
unmarked (Starts y u ∷ es) p = rw (ne_eqb (key y) (mark p) (λ same. omega arith)) (unmarked es p)
unmarked (Begins c call ∷ es) p = unmarked es p
unmarked (Ends c ending ∷ es) p = unmarked es p

pub mark-unstarted : (es : List Event) (p : ℕ) → initial (history_of es) (mark p) ≡ 0
mark-unstarted es p = ap (λ (o : Option ℕ). unwrap_or o 0) (unmarked es p)
