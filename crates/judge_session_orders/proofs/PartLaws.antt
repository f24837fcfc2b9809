-- What is neither a write nor a read of one.
use Rattle.std.specs.Prelude.{◌≡◌, ◌⊎◌, ℕ}
use Rattle.std.proofs.Common.{refl, sym, ap, subst, ⊎_elim, ◌∙◌}
use Rattle.model_history.specs.declared.op_id.OpId.{OpId}
use Rattle.order_memory.specs.Memory.{MemoryHistory, initial, Writes, Reads}
use Rattle.order_memory.proofs.MemoryLaws.{same_read, write-or_read}
use Rattle.judge_memory.specs.declared.part.Part.{Part}
use Rattle.judge_memory.specs.declared.part.Part.TheVariants.{InitialRead, ThinAirRead, UnknownRead}
use Rattle.judge_memory.specs.Parts.{IsPart}
use Rattle.judge_session_orders.specs.Tables.{IsUnsourced}

module _ (h : MemoryHistory) (a : OpId) where
  pub initial-unsourced : IsPart h a InitialRead → IsUnsourced h a
  initial-unsourced (x, reads) = (
    λ y v wrote. write-or_read h a a y v x (initial h x) wrote reads refl,
    λ w from.
        let same = same_read h a from.0 from.1 x (initial h x) from.3 reads in
        from.4 (same.1 ∙ ap (initial h) (sym same.0)),
  )

  thin-unsourced : IsPart h a ThinAirRead → IsUnsourced h a
  thin-unsourced (x, v, reads, other, none) = (
    λ y u wrote. write-or_read h a a y u x v wrote reads refl,
    λ w from.
        let same = same_read h a from.0 from.1 x v from.3 reads in
        let wrote : Writes h w x v = rw (same.0, same.1) at (from.2) in
        none w wrote,
  )

  unknown-unsourced : IsPart h a UnknownRead → IsUnsourced h a
  unknown-unsourced (no_write, no_read) = (no_write, λ w from. no_read from.0 from.1 from.3)

  pub other-unsourced : (p : Part) → (p ≡ InitialRead) ⊎ ((p ≡ ThinAirRead) ⊎ (p ≡ UnknownRead)) → IsPart h a p → IsUnsourced h a
  other-unsourced p is part = ⊎_elim
      (λ (start : p ≡ InitialRead). initial-unsourced (subst (IsPart h a) start part))
      (λ (rest : (p ≡ ThinAirRead) ⊎ (p ≡ UnknownRead)). ⊎_elim
      (λ (thin : p ≡ ThinAirRead). thin-unsourced (subst (IsPart h a) thin part))
      (λ (unknown : p ≡ UnknownRead). unknown-unsourced (subst (IsPart h a) unknown part))
      rest)
      is

  -- what is no read of an initial value doesn't read one
  pub thin-no_start : IsPart h a ThinAirRead → (x : ℕ) → ¬ Reads h a x (initial h x)
  thin-no_start (y, v, reads, other, none) x start =
      let same = same_read h a y v x (initial h x) reads start in
      other (same.1 ∙ ap (initial h) (sym same.0))

  pub unread-no_start : (p : Part) → (p ≡ ThinAirRead) ⊎ (p ≡ UnknownRead) → IsPart h a p
      → IsUnsourced h a × ((x : ℕ) → ¬ Reads h a x (initial h x))
  unread-no_start p is part = ⊎_elim
      (λ (thin : p ≡ ThinAirRead). let of_thin = subst (IsPart h a) thin part in (thin-unsourced of_thin, thin-no_start of_thin))
      (λ (unknown : p ≡ UnknownRead).
      let of_unknown = subst (IsPart h a) unknown part in
      (unknown-unsourced of_unknown, λ x reads. of_unknown.1 x (initial h x) reads))
      is
