-- What comes before what by program order and sources can be decided, and what is whose source.
use Rattle.std.specs.Prelude.{◌≡◌, ◌≢◌, ℕ, ◌<◌, Option, Some, None, option_map}
use Rattle.std.proofs.Common.{sym, ap, subst, ◌∙◌, inl, inr, ⊎_elim, refl}
use Rattle.std.proofs.lemmas.Bool.{cases_eq}
use Rattle.std.proofs.lemmas.Option.{same_Some}
use Rattle.model_objects.specs.declared.register.RegisterCall.{RegisterCall}
use Rattle.model_objects.specs.declared.register.RegisterCall.TheVariants.{Write, Read}
use Rattle.model_objects.specs.declared.register.RegisterRet.{RegisterRet}
use Rattle.model_history.specs.declared.op_id.OpId.{OpId}
use Rattle.model_history.specs.History.{IsOp, entry}
use Rattle.order_memory.specs.Memory.{MemoryCall, MemoryHistory, Writes}
use Rattle.order_memory.specs.Relations.{AreRivalWrites}
use Rattle.order_memory.specs.SourceOrder.{CountsSourceOrder, IsSource, IsSourceOf, SourceOrder}
use Rattle.order_causal.specs.Vectors.{Counts, count}
use Rattle.order_memory.proofs.FirstWrites.{source-unique}
use Rattle.order_memory.proofs.MemoryLaws.{same_written}
use Rattle.order_causal.proofs.Searches.{IsDecided, below-decided, op-decided}
use Rattle.order_memory.proofs.SourceVectors.{before-counted, counts-before}
use Rattle.order_memory.proofs.VectorsExist.{source-known}

-- a call is a write, or it isn't
write_of : (c : MemoryCall) (call : RegisterCall) → c.call ≡ call
    → IsDecided ((x v : ℕ) × (Some c ≡ Some (record { key = x; call = Write v })))
write_of c (Write v) is = inl (c.key, v, λ i. Some (record { key = c.key; call = is i }))
write_of c Read is = inr (λ found.
    let calls = ap (λ (d : MemoryCall). d.call) (same_Some _ _ found.2) in
    let both : Read ≡ Write found.1 = sym is ∙ calls in
    absurd cc)

write_in : (c : Option MemoryCall) → IsDecided ((x v : ℕ) × (c ≡ Some (record { key = x; call = Write v })))
write_in None = inr (λ found. let is = found.2 in absurd cc)
write_in (Some c) = write_of c c.call refl

module _ (h : MemoryHistory) where
  write-decided : (a : OpId) → IsDecided ((x v : ℕ) × Writes h a x v)
  write-decided a = write_in (option_map (λ (e : MemoryCall × Option RegisterRet). e.0) (entry h a))

  pub rivals-decided : (a b : OpId) → IsDecided (AreRivalWrites h a b)
  rivals-decided a b = ⊎_elim
      (λ (same : a ≡ b). inr (λ rivals. rivals.0 same))
      (λ (apart : a ≢ b). ⊎_elim
      (λ (first : (x v : ℕ) × Writes h a x v). ⊎_elim
      (λ (second : (x v : ℕ) × Writes h b x v). ⊎_elim
      (λ (same : first.0 ≡ second.0).
      inl (apart, (second.0, first.1, second.1, subst (λ (x : ℕ). Writes h a x first.1) same first.2, second.2)))
      (λ (other : first.0 ≢ second.0). inr (λ rivals.
      let one = same_written h a first.0 first.1 rivals.1.0 rivals.1.1 first.2 rivals.1.3 in
      let two = same_written h b second.0 second.1 rivals.1.0 rivals.1.2 second.2 rivals.1.4 in
      other (one.0 ∙ sym two.0)))
      (cases_eq first.0 second.0))
      (λ (none : ¬ ((x v : ℕ) × Writes h b x v)). inr (λ rivals. none (rivals.1.0, rivals.1.2, rivals.1.4)))
      (write-decided b))
      (λ (none : ¬ ((x v : ℕ) × Writes h a x v)). inr (λ rivals. none (rivals.1.0, rivals.1.1, rivals.1.3)))
      (write-decided a))
      (op-decided a b)

  source_by : (w r : OpId) (e : Option OpId) → IsSourceOf h r e → IsDecided (IsSource h w r)
  source_by w r None none = inr (λ source. source.0.4 (none source.0.0 source.0.1 source.0.3))
  source_by w r (Some u) source = ⊎_elim
      (λ (same : w ≡ u). inl (subst (λ (o : OpId). IsSource h o r) (sym same) source))
      (λ (apart : w ≢ u). inr (λ other. apart (source-unique h w u r other source)))
      (op-decided w u)

  module _ (v : Counts) (order : CountsSourceOrder h v) where
    pub source-decided : (w r : OpId) → IsDecided (IsSource h w r)
    source-decided w r = let source = source-known h order.sources r in source_by w r source.0 source.1

    pub before-decided : (a b : OpId) → IsOp h b → IsDecided (SourceOrder h a b)
    before-decided a b is_op = ⊎_elim
        (λ (same : a ≡ b). inr (λ before. order.acyclic b (subst (λ (o : OpId). SourceOrder h o b) same before)))
        (λ (apart : a ≢ b). ⊎_elim
        (λ (counted : a.index < count v b a.session). inl (before-counted h v order b a is_op counted apart))
        (λ (free : ¬ (a.index < count v b a.session)). inr (λ before. free (counts-before h v order b a is_op before)))
        (below-decided a.index (count v b a.session)))
        (op-decided a b)
