-- The start of the history of a log is a table.
use Rattle.std.proofs.Common.{◌≡◌, ℕ, zero, suc, ◌+◌, ◌<◌, List, [], ◌∷◌, length, get_or, refl, ap, sym, subst, arith}
use Rattle.std.specs.Prelude.{All, Some, slice_get, filter_map}
use Rattle.std.proofs.lemmas.List.{get_or-map}
use Rattle.std.proofs.lemmas.Map.Entries.{length-keys_of}
use Rattle.std.proofs.lemmas.Option.{same_Some, slice_get-get_or}
use Rattle.model_objects.specs.Table.{IsRising}
use Rattle.log_events.specs.declared.event.Event.{Event}
use Rattle.log_events.specs.declared.event.Event.TheVariants.{Starts, Begins, Ends}
use Rattle.log_events.specs.Events.{IsAt, IsAllowed}
use Rattle.log_events.specs.Histories.{key, value, start_entry}
use Rattle.log_events.proofs.StartValues.{start-from}

-- what holds of each start holds of each entry
pub start-all : (holds : ℕ × ℕ → Type 0) (es : List Event) → ((m x v : ℕ) → IsAt es m (Starts x v) → holds (key x, value v))
    → All holds (filter_map start_entry es)
start-all holds es each k d below =
    let table = filter_map start_entry es in
    let (m, x, v, here, same) = start-from es k (get_or table k d) (slice_get-get_or table k d below) in
    subst holds (sym same) (each m x v here)

-- two entries of the start come from two starts in their order
pub starts-in_order : (es : List Event) (j k : ℕ) (first second : ℕ × ℕ) → j < k → slice_get (filter_map start_entry es) j ≡ Some first
    → slice_get (filter_map start_entry es) k ≡ Some second
    → (m n x v y u : ℕ) × (m < n) × IsAt es m (Starts x v) × IsAt es n (Starts y u) × (first ≡ (key x, value v)) × (second ≡ (key y, value u))
starts-in_order [] j k first second below at there = absurd cc
starts-in_order (Begins c call ∷ es) j k first second below at there =
    let r = starts-in_order es j k first second below at there in (suc r.0, suc r.1, r.2, r.3, r.4, r.5, omega arith, r.7, r.8, r.9, r.10)
starts-in_order (Ends c ending ∷ es) j k first second below at there =
    let r = starts-in_order es j k first second below at there in (suc r.0, suc r.1, r.2, r.3, r.4, r.5, omega arith, r.7, r.8, r.9, r.10)
starts-in_order (Starts x v ∷ es) j zero first second below at there = absurd (omega arith)
starts-in_order (Starts x v ∷ es) zero (suc k) first second below at there =
    let (m, y, u, is_at, same) = start-from es k second there in
    (0, suc m, x, v, y, u, omega arith, refl, is_at, sym (same_Some _ _ at), same)
starts-in_order (Starts x v ∷ es) (suc j) (suc k) first second below at there =
    let r = starts-in_order es j k first second (omega arith) at there in (suc r.0, suc r.1, r.2, r.3, r.4, r.5, omega arith, r.7, r.8, r.9, r.10)

-- the keys rise
keys-rise : (es : List Event) → IsAllowed es → (j k : ℕ) (first second : ℕ × ℕ) → j < k → slice_get (filter_map start_entry es) j ≡ Some first
    → slice_get (filter_map start_entry es) k ≡ Some second → first.0 < second.0
keys-rise es allowed j k first second below at there =
    let (m, n, x, v, y, u, earlier, here, later, same, same2) = starts-in_order es j k first second below at there in
    let less = (allowed n (Starts y u) later).1 m x v earlier here in
    let low : first.0 ≡ key x = ap (λ (held : ℕ × ℕ). held.0) same in
    let high : second.0 ≡ key y = ap (λ (held : ℕ × ℕ). held.0) same2 in
    omega arith

pub start-rising : (es : List Event) → IsAllowed es → IsRising (filter_map start_entry es)
start-rising es allowed k below =
    let table = filter_map start_entry es in
    let long = length-keys_of table in
    let within : k < length table = omega arith in
    let within2 : k + 1 < length table = omega arith in
    let low = get_or-map (λ (held : ℕ × ℕ). held.0) table k (0, 0) 0 within in
    let high = get_or-map (λ (held : ℕ × ℕ). held.0) table (k + 1) (0, 0) 0 within2 in
    let less = keys-rise es allowed k (k + 1) (get_or table k (0, 0)) (get_or table (k + 1) (0, 0)) (omega arith)
    (slice_get-get_or table k (0, 0) within) (slice_get-get_or table (k + 1) (0, 0) within2) in
    rw (low, high) less
