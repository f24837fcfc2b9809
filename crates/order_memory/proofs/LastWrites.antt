-- What a memory answers to a read comes from the last write of the variable in the list of operations before it.
use Rattle.std.proofs.Common.{◌≡◌, ℕ, zero, suc, ◌≤◌, ◌⊎◌, inl, inr, ⊎_elim, true, false, cond, List, [], ◌∷◌, map, ap, sym, subst, ◌∙◌, refl, eqb-true, eq-eqb, arith}
use Rattle.std.specs.List.{cons_option}
use Rattle.std.specs.Prelude.{Option, Some, None, option_map, slice_get, filter, ◌==◌}
use Rattle.std.proofs.lemmas.Option.{same_Some}
use Rattle.model_objects.specs.declared.register.RegisterCall.{RegisterCall}
use Rattle.model_objects.specs.declared.register.RegisterCall.TheVariants.{Write, Read}
use Rattle.model_objects.specs.declared.register.RegisterRet.{RegisterRet}
use Rattle.model_objects.specs.declared.register.RegisterRet.TheVariants.{Value}
use Rattle.model_objects.specs.Register.{last_written}
use Rattle.model_objects.specs.Keyed.{calls_at}
use Rattle.model_history.specs.declared.op_id.OpId.{OpId}
use Rattle.model_history.specs.History.{entry, calls}
use Rattle.order_memory.proofs.MemoryLaws.{same_written}
use Rattle.order_causal.specs.Orders.{StandsAt}
use Rattle.order_memory.specs.Memory.{MemoryCall, MemoryHistory, memory_answer, initial, Writes}

module _ (h : MemoryHistory) (x : ℕ) where
  -- no operation of a list writes the variable
  abbrev pub IsUnwritten : List OpId → Type 0
  IsUnwritten ops = (k : ℕ) (a : OpId) (u : ℕ) → StandsAt ops k a → ¬ Writes h a x u

  -- the operation w is the last write of the variable in a list, and writes v
  pub record IsLastWrite (ops : List OpId) (w : OpId) (v : ℕ) : Type 0 where
    pub place : ℕ
    pub stands : StandsAt ops place w
    pub writes : Writes h w x v
    pub last : (k : ℕ) (a : OpId) (u : ℕ) → StandsAt ops k a → Writes h a x u → k ≤ place

  -- what was written last by the operations of a list
  abbrev written_by : ℕ → List OpId → ℕ
  written_by start ops = last_written start (calls_at x (calls h ops))

  -- one operation in front of others: it doesn't write the variable, or what it writes is the start of the others
  abbrev IsFront : ℕ → OpId → List OpId → Type 0
  IsFront start a ops =
      (((u : ℕ) → ¬ Writes h a x u) × (written_by start (a ∷ ops) ≡ written_by start ops))
      ⊎ ((u : ℕ) × Writes h a x u × (written_by start (a ∷ ops) ≡ written_by u ops))

  -- the calls of the variable, with one call in front
  abbrev in_front : ℕ → Option MemoryCall → List OpId → ℕ
  in_front start c ops = last_written start (calls_at x (cons_option c (calls h ops)))

  -- an operation that is there or not, by its call
  front_of_call : (start : ℕ) (ops : List OpId) (c : Option MemoryCall)
      → (((u : ℕ) → c ≡ Some (record { key = x; call = Write u }) → ⊥) × (in_front start c ops ≡ written_by start ops))
      ⊎ ((u : ℕ) × (c ≡ Some (record { key = x; call = Write u })) × (in_front start c ops ≡ written_by u ops))
  front_of_call start ops None = inl (λ u e. absurd cc, refl)
  front_of_call start ops (Some c) =
      elim (c.key == x) as (λ t. (c.key == x) ≡ t
      → (((u : ℕ) → Some c ≡ Some (record { key = x; call = Write u }) → ⊥)
      × (last_written start (map (λ (e : MemoryCall). e.call) (cond t (c ∷ filter (λ (e : MemoryCall). e.key == x) (calls h ops)) (filter (λ (e : MemoryCall). e.key == x) (calls h ops)))) ≡ written_by start ops))
      ⊎ ((u : ℕ) × (Some c ≡ Some (record { key = x; call = Write u }))
      × (last_written start (map (λ (e : MemoryCall). e.call) (cond t (c ∷ filter (λ (e : MemoryCall). e.key == x) (calls h ops)) (filter (λ (e : MemoryCall). e.key == x) (calls h ops)))) ≡ written_by u ops))) [
        | true ↦ λ same. let key : c.key ≡ x = eqb-true c.key x same in
            elim c.call as (λ (k : RegisterCall). c.call ≡ k
            → (((u : ℕ) → Some c ≡ Some (record { key = x; call = Write u }) → ⊥)
            × (last_written start (k ∷ calls_at x (calls h ops)) ≡ written_by start ops))
            ⊎ ((u : ℕ) × (Some c ≡ Some (record { key = x; call = Write u }))
            × (last_written start (k ∷ calls_at x (calls h ops)) ≡ written_by u ops))) [
              | Write u ↦ λ is. inr (u, (λ i. Some (record { key = key i; call = is i })), refl)
              | Read ↦ λ is. inl ((λ u e. let same_call : c.call ≡ Write u = ap (λ (d : MemoryCall). d.call) (same_Some _ _ e) in absurd cc), refl)
            ] refl
        | false ↦ λ other. inl (
          (λ u e. let same_key : c.key ≡ x = ap (λ (d : MemoryCall). d.key) (same_Some _ _ e) in
              let equal : (c.key == x) ≡ true = eq-eqb c.key x same_key in absurd cc),
          refl,
        )
      ] refl

  front : (start : ℕ) (a : OpId) (ops : List OpId) → IsFront start a ops
  front start a ops = front_of_call start ops (option_map (λ (e : MemoryCall × Option RegisterRet). e.0) (entry h a))

  unwritten-cons : (a : OpId) (ops : List OpId) → ((u : ℕ) → ¬ Writes h a x u) → IsUnwritten ops → IsUnwritten (a ∷ ops)
  unwritten-cons a ops here rest zero b u stands writes =
      let same : a ≡ b = same_Some a b stands in here u (rw same writes)
  unwritten-cons a ops here rest (suc k) b u stands writes = rest k b u stands writes

  -- the last write of the others, or the operation in front of them where they write nothing
  last-cons : (a : OpId) (ops : List OpId) (w : OpId) (v : ℕ) → IsLastWrite ops w v → IsLastWrite (a ∷ ops) w v
  last-cons a ops w v before = record {
    place = suc before.place;
    stands = before.stands;
    writes = before.writes;
    last = λ k b u stands wrote. elim k as (λ (k : ℕ). StandsAt (a ∷ ops) k b → k ≤ suc before.place) [
      | zero ↦ λ _. omega arith
      | suc j ↦ λ at. let below = before.last j b u at wrote in omega arith
    ] stands;
  }

  last-front : (a : OpId) (ops : List OpId) (v : ℕ) → Writes h a x v → IsUnwritten ops → IsLastWrite (a ∷ ops) a v
  last-front a ops v wrote unwritten = record {
    place = 0;
    stands = refl;
    writes = wrote;
    last = λ k b u stands writes. elim k as (λ (k : ℕ). StandsAt (a ∷ ops) k b → k ≤ 0) [
      | zero ↦ λ _. omega arith
      | suc j ↦ λ at. absurd (unwritten j b u at writes)
    ] stands;
  }

  -- what was written last is the start, and the variable is unwritten, or it is of the last write
  pub written-cases : (start : ℕ) (ops : List OpId)
      → (IsUnwritten ops × (written_by start ops ≡ start)) ⊎ ((w : OpId) × IsLastWrite ops w (written_by start ops))
  written-cases start [] = inl ((λ k a u stands writes. absurd cc), refl)
  written-cases start (a ∷ ops) =
      ⊎_elim
      (λ (other : ((u : ℕ) → ¬ Writes h a x u) × (written_by start (a ∷ ops) ≡ written_by start ops)). ⊎_elim
      (λ (none : IsUnwritten ops × (written_by start ops ≡ start)). inl (unwritten-cons a ops other.0 none.0, other.1 ∙ none.1))
      (λ (some : (w : OpId) × IsLastWrite ops w (written_by start ops)).
      inr (some.0, rw other.1 (last-cons a ops some.0 (written_by start ops) some.1)))
      (written-cases start ops))
      (λ (wrote : (u : ℕ) × Writes h a x u × (written_by start (a ∷ ops) ≡ written_by u ops)). ⊎_elim
      (λ (none : IsUnwritten ops × (written_by wrote.0 ops ≡ wrote.0)).
      inr (a, rw (wrote.2, none.1) (last-front a ops wrote.0 wrote.1 none.0)))
      (λ (some : (w : OpId) × IsLastWrite ops w (written_by wrote.0 ops)).
      inr (some.0, rw wrote.2 (last-cons a ops some.0 (written_by wrote.0 ops) some.1)))
      (written-cases wrote.0 ops))
      (front start a ops)

  -- a value that is read after a list is initial, and the list doesn't write the variable, or it is of its last write
  pub answer-cases : (ops : List OpId) (v : ℕ) → Value v ≡ memory_answer h.0 (calls h ops) (record { key = x; call = Read })
      → (IsUnwritten ops × (v ≡ initial h x)) ⊎ ((w : OpId) × IsLastWrite ops w v)
  answer-cases ops v answer =
      let last : v ≡ written_by (initial h x) ops = cc in
      ⊎_elim
      (λ (none : IsUnwritten ops × (written_by (initial h x) ops ≡ initial h x)). inl (none.0, last ∙ none.1))
      (λ (some : (w : OpId) × IsLastWrite ops w (written_by (initial h x) ops)). inr (some.0, rw last some.1))
      (written-cases (initial h x) ops)

  -- after a list whose last write of the variable is known, a memory answers what it writes
  pub last_write-answers : (ops : List OpId) (w : OpId) (v : ℕ) → IsLastWrite ops w v
      → Value v ≡ memory_answer h.0 (calls h ops) (record { key = x; call = Read })
  last_write-answers ops w v last =
      let value : written_by (initial h x) ops ≡ v = ⊎_elim
      (λ (none : IsUnwritten ops × (written_by (initial h x) ops ≡ initial h x)). absurd (none.0 last.place w v last.stands last.writes))
      (λ (some : (b : OpId) × IsLastWrite ops b (written_by (initial h x) ops)).
      let first = last.last some.1.place some.0 _ some.1.stands some.1.writes in
      let second = some.1.last last.place w v last.stands last.writes in
      let same : some.1.place ≡ last.place = omega arith in
      let one : some.0 ≡ w = same_Some some.0 w (sym some.1.stands ∙ ap (slice_get ops) same ∙ last.stands) in
      (same_written h w x (written_by (initial h x) ops) x v
      (subst (λ (o : OpId). Writes h o x (written_by (initial h x) ops)) one some.1.writes) last.writes).1)
      (written-cases (initial h x) ops) in
      ap Value (sym value)

  -- after a list that doesn't write the variable it answers the initial value
  pub unwritten-answers : (ops : List OpId) → IsUnwritten ops
      → Value (initial h x) ≡ memory_answer h.0 (calls h ops) (record { key = x; call = Read })
  unwritten-answers ops unwritten =
      let value : written_by (initial h x) ops ≡ initial h x = ⊎_elim
      (λ (none : IsUnwritten ops × (written_by (initial h x) ops ≡ initial h x)). none.1)
      (λ (some : (b : OpId) × IsLastWrite ops b (written_by (initial h x) ops)).
      absurd (unwritten some.1.place some.0 _ some.1.stands some.1.writes))
      (written-cases (initial h x) ops) in
      ap Value (sym value)
