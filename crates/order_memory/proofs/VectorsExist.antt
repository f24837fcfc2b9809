-- Where no source is missing and no operation comes before itself, there are vectors of the order of program order and
-- sources.
use Rattle.std.specs.Prelude.{◌≡◌, ◌≢◌, ℕ, [], Option, Some, None}
use Rattle.std.proofs.Common.{arith, get_or, sym, ap, subst, ◌∙◌, inl, inr, ⊎_elim, refl}
use Rattle.std.proofs.lemmas.Bool.{cases_eq}
use Rattle.std.proofs.lemmas.Option.{same_Some, slice_get-get_or, slice_get_within}
use Rattle.model_objects.specs.declared.register.RegisterCall.{RegisterCall}
use Rattle.model_objects.specs.declared.register.RegisterCall.TheVariants.{Write, Read}
use Rattle.model_objects.specs.declared.register.RegisterRet.{RegisterRet}
use Rattle.model_objects.specs.declared.register.RegisterRet.TheVariants.{Done, Value}
use Rattle.model_history.specs.declared.op_id.OpId.{OpId}
use Rattle.model_history.specs.History.{IsOp, entry}
use Rattle.order_memory.specs.Memory.{MemoryCall, MemoryHistory, initial, Reads}
use Rattle.order_causal.specs.Orders.{op}
use Rattle.order_memory.specs.SourceOrder.{CountsSourceOrder, IsCyclic, IsSourceOf, LacksSource, SourceOrder}
use Rattle.order_memory.proofs.ListedSources.{ListsSources}
use Rattle.order_memory.specs.Sources.{Sources, Comes, IsUnfinished, AreVectorsSoFar}
use Rattle.order_causal.specs.Vectors.{Counts}
use Rattle.order_causal.proofs.EachOperation.{by_operation, by_operation-sessions, by_operation-length, by_operation-entry}
use Rattle.order_memory.proofs.FirstWrites.{CO-from_sources, counts-order, order-from_steps, sources-exist}
use Rattle.order_memory.proofs.MemoryLaws.{same_read}
use Rattle.order_causal.proofs.Searches.{IsDecided}
use Rattle.order_memory.proofs.SourcesExist.{read-source}
use Rattle.order_memory.proofs.VectorsPlaced.{vectors-made}

-- an entry is a known read of a value, or it isn't
abbrev IsReadEntry : Option (MemoryCall × Option RegisterRet) → ℕ → ℕ → Type 0
IsReadEntry e x v = e ≡ Some (record { key = x; call = Read }, Some (Value v))

read_of : (c : MemoryCall) (call : RegisterCall) (v : ℕ) → c.call ≡ call
    → IsDecided ((x u : ℕ) × IsReadEntry (Some (c, Some (Value v))) x u)
read_of c Read v is = inl (c.key, v, λ i. Some (record { key = c.key; call = is i }, Some (Value v)))
read_of c (Write u) v is = inr (λ found.
    let calls : c.call ≡ Read = ap (λ (e : MemoryCall × Option RegisterRet). e.0.call) (same_Some _ _ found.2) in
    let both : Write u ≡ Read = sym is ∙ calls in
    absurd cc)

read-decided : (e : Option (MemoryCall × Option RegisterRet)) → IsDecided ((x v : ℕ) × IsReadEntry e x v)
read-decided None = inr (λ found. let is = found.2 in absurd cc)
read-decided (Some (c, None)) = inr (λ found.
    let returns : ◌≡◌ {A = Option RegisterRet} None (Some (Value found.1)) = ap (λ (e : MemoryCall × Option RegisterRet). e.1) (same_Some _ _ found.2) in
    absurd cc)
read-decided (Some (c, Some Done)) = inr (λ found.
    let returns : ◌≡◌ {A = Option RegisterRet} (Some Done) (Some (Value found.1)) = ap (λ (e : MemoryCall × Option RegisterRet). e.1) (same_Some _ _ found.2) in
    absurd cc)
read-decided (Some (c, Some (Value v))) = read_of c c.call v refl

module _ (h : MemoryHistory) (present : ¬ LacksSource h) where
  -- each operation has a source or none
  pub source-known : (r : OpId) → (e : Option OpId) × IsSourceOf h r e
  source-known r = ⊎_elim
      (λ (read : (x v : ℕ) × Reads h r x v). ⊎_elim
      (λ (value : read.1 ≡ initial h read.0). (
        None,
        λ x v reads. let same = same_read h r x v read.0 read.1 reads read.2 in same.1 ∙ value ∙ ap (initial h) (sym same.0),
      ))
      (λ (apart : read.1 ≢ initial h read.0).
      let source = read-source h present r read.0 read.1 read.2 apart in (Some source.0, source.1))
      (cases_eq read.1 (initial h read.0)))
      (λ (none : ¬ ((x v : ℕ) × Reads h r x v)). (None, λ x v reads. absurd (none (x, v, reads))))
      (read-decided (entry h r))

  -- the sources of all operations
  sources : Sources
  sources = by_operation h (λ o. (source-known o).0)

  sources-listed : ListsSources h sources
  unfolding sources
  sources-listed = record {
    sessions = by_operation-sessions h (λ o. (source-known o).0);
    each = λ s below. record {
      count = by_operation-length h (λ o. (source-known o).0) s;
      each = λ i e at.
          let es = get_or (by_operation h (λ o. (source-known o).0)) s [] in
          let long = by_operation-length h (λ o. (source-known o).0) s in
          let within = slice_get_within es i e at in
          let is_op : IsOp h (op s i) = omega arith in
          let value : (source-known (op s i)).0 ≡ e =
          sym (by_operation-entry h (λ o. (source-known o).0) (op s i) None is_op)
          ∙ same_Some _ _ (sym (slice_get-get_or es i None within) ∙ at) in
          subst (λ (f : Option OpId). IsSourceOf h (op s i) f) value (source-known (op s i)).1;
    };
  }

  -- vectors exist
  pub order-exists : ((a : OpId) → ¬ SourceOrder h a a) → (v : Counts) × CountsSourceOrder h v
  order-exists acyclic = ⊎_elim
      (λ (made : (v : Counts) × AreVectorsSoFar sources v × ((s : ℕ) → ¬ IsUnfinished sources v s)).
      (made.0, counts-order h sources sources-listed made.0 made.1 made.2))
      (λ (cycle : (a : OpId) × Comes sources a a).
      absurd (acyclic cycle.0 (order-from_steps h sources sources-listed cycle.0 cycle.0 cycle.1)))
      (vectors-made sources (sources-exist h sources sources-listed))

-- where the causal order is no cycle too
pub vectors-exist : (h : MemoryHistory) → ¬ IsCyclic h → ¬ LacksSource h → (v : Counts) × CountsSourceOrder h v
vectors-exist h acyclic present = order-exists h present (λ a before. acyclic (a, CO-from_sources h a a before))
