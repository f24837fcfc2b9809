-- Each known read of a value that is not the initial one has a source, where none lacks one.
use Rattle.std.specs.Prelude.{◌≡◌, ◌≢◌, ◌⊎◌, ℕ, ◌<◌, length, Option, Some, None, option_map}
use Rattle.std.proofs.Common.{ap, subst, inl, inr, ⊎_elim}
use Rattle.std.proofs.lemmas.Bool.{cases_eq}
use Rattle.std.proofs.lemmas.Option.{same_Some}
use Rattle.model_objects.specs.declared.register.RegisterCall.{RegisterCall}
use Rattle.model_objects.specs.declared.register.RegisterCall.TheVariants.{Write, Read}
use Rattle.model_objects.specs.declared.register.RegisterRet.{RegisterRet}
use Rattle.model_history.specs.declared.op_id.OpId.{OpId}
use Rattle.model_history.specs.History.{entry, session}
use Rattle.order_memory.specs.Memory.{MemoryCall, MemoryHistory, initial, Writes, Reads}
use Rattle.order_causal.specs.Orders.{op, IsEarlier}
use Rattle.order_memory.specs.SourceOrder.{IsSource, LacksSource}
use Rattle.order_memory.proofs.MemoryLaws.{same_read, write-of_history}
use Rattle.order_causal.proofs.OrdersLaws.{session-of_history}
use Rattle.order_causal.proofs.Searches.{least}

-- a call is a write of v, or it isn't
is_write : (call : RegisterCall) (v : ℕ) → (call ≡ Write v) ⊎ ¬ (call ≡ Write v)
is_write (Write u) v = ⊎_elim
    (λ (same : u ≡ v). inl (ap Write same))
    (λ (other : u ≢ v). inr (λ e. other cc))
    (cases_eq u v)
is_write Read v = inr (λ e. absurd cc)

is_write_of : (c : Option MemoryCall) (x v : ℕ) → (c ≡ Some (record { key = x; call = Write v })) ⊎ ¬ (c ≡ Some (record { key = x; call = Write v }))
is_write_of None x v = inr (λ e. absurd cc)
is_write_of (Some c) x v = ⊎_elim
    (λ (same : c.key ≡ x). ⊎_elim
    (λ (is : c.call ≡ Write v). inl (λ i. Some (record { key = same i; call = is i })))
    (λ (other : ¬ (c.call ≡ Write v)). inr (λ e. other (ap (λ (d : MemoryCall). d.call) (same_Some _ _ e))))
    (is_write c.call v))
    (λ (other : c.key ≢ x). inr (λ e. other (ap (λ (d : MemoryCall). d.key) (same_Some _ _ e))))
    (cases_eq c.key x)

module _ (h : MemoryHistory) (x v : ℕ) where
  decide_writes : (a : OpId) → Writes h a x v ⊎ ¬ Writes h a x v
  decide_writes a = is_write_of (option_map (λ (e : MemoryCall × Option RegisterRet). e.0) (entry h a)) x v

  -- the first operation of the session s that writes v to x
  abbrev IsFirstIn : ℕ → Type 0
  IsFirstIn s = (i : ℕ) × (i < length (session h s)) × Writes h (op s i) x v × ((j : ℕ) → j < i → ¬ Writes h (op s j) x v)

  some_write : (s : ℕ) → IsFirstIn s ⊎ ¬ IsFirstIn s
  some_write s = ⊎_elim
      (λ (found : IsFirstIn s). inl found)
      (λ (none : (j : ℕ) → j < length (session h s) → ¬ Writes h (op s j) x v). inr (λ first. none first.0 first.1 first.2))
      (least (λ i. Writes h (op s i) x v) (λ i. decide_writes (op s i)) (length (session h s)))

  -- an operation that writes v to x is no earlier than the first of its session
  no_first : (a : OpId) → Writes h a x v → ¬ IsFirstIn a.session → ⊥
  no_first a wrote none = ⊎_elim
      (λ (found : IsFirstIn a.session). none found)
      (λ (nothing : (j : ℕ) → j < length (session h a.session) → ¬ Writes h (op a.session j) x v).
      nothing a.index (write-of_history h a x v wrote) wrote)
      (least (λ i. Writes h (op a.session i) x v) (λ i. decide_writes (op a.session i)) (length (session h a.session)))

  -- the first operation that writes v to x, or none does
  first_write : ((w : OpId) × Writes h w x v × ((a : OpId) → Writes h a x v → ¬ IsEarlier a w)) ⊎ ((a : OpId) → ¬ Writes h a x v)
  first_write = ⊎_elim
      (λ (found : (s : ℕ) × (s < length h.1) × IsFirstIn s × ((t : ℕ) → t < s → ¬ IsFirstIn t)).
      let first = found.2 in
      inl (
        op found.0 first.0,
        first.2,
        λ a wrote earlier. ⊎_elim
            (λ (below : a.session < found.0). no_first a wrote (found.3 a.session below))
            (λ (before : (a.session ≡ found.0) × (a.index < first.0)).
            first.3 a.index before.1 (subst (λ (s : ℕ). Writes h (op s a.index) x v) before.0 wrote))
            earlier,
      ))
      (λ (none : (s : ℕ) → s < length h.1 → ¬ IsFirstIn s).
      inr (λ a wrote. no_first a wrote (none a.session (session-of_history h a (write-of_history h a x v wrote)))))
      (least IsFirstIn some_write (length h.1))

module _ (h : MemoryHistory) (sources : ¬ LacksSource h) (r : OpId) (x v : ℕ) (reads : Reads h r x v) (apart : v ≢ initial h x) where
  -- the source of a read
  pub read-source : (w : OpId) × IsSource h w r
  read-source = ⊎_elim
      (λ (found : (w : OpId) × Writes h w x v × ((a : OpId) → Writes h a x v → ¬ IsEarlier a w)). (
        found.0,
        (
          (x, v, found.1, reads, apart),
          λ u from earlier.
              let same = same_read h r from.0 from.1 x v from.3 reads in
              let wrote : Writes h u x v = subst (λ (n : ℕ). Writes h u x n) same.1 (subst (λ (y : ℕ). Writes h u y from.1) same.0 from.2) in
              found.2 u wrote earlier,
        ),
      ))
      (λ (none : (a : OpId) → ¬ Writes h a x v). absurd (sources (r, x, v, reads, apart, none)))
      (first_write h x v)
