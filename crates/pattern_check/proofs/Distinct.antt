-- What the writes of a history say of its distinct values and of its reads.
use Rattle.std.proofs.Common.{◌≡◌, ℕ, Bool, true, false, not, List, ap, subst, sym, refl}
use Rattle.std.specs.Prelude.{◌≢◌, ◌↔◌, Contains, IsTrue, Option, None, Some, is_some}
use Rattle.std.proofs.lemmas.Option.{same_Some}
use Rattle.model_history.specs.declared.op_id.OpId.{OpId}
use Rattle.order_causal.specs.Orders.{only}
use Rattle.order_memory.specs.declared.writes.Write.{Write}
use Rattle.order_memory.specs.Memory.{MemoryHistory, initial, Reads, IsDifferentiated}
use Rattle.order_memory.specs.Relations.{ReadsFrom}
use Rattle.pattern_check.specs.Kinds.{IsThinAirRead}
use Rattle.order_memory.proofs.MemoryLaws.{same_read}
use Rattle.order_memory.specs.Steps.Indexed.{IsSourceIfAny}
use Rattle.order_memory.specs.Steps.Written.{ListsWrites}
use Rattle.cert_check.proofs.ConvergentLaws.{only-same}
use Rattle.pattern_check.proofs.ReadPasts.{itself}

module _ (h : MemoryHistory) (writes : List Write) (lists : ListsWrites h writes) where
  -- a known read of a value that is not the initial one is out of thin air where that value is not written
  pub thin_air-unwritten : (r : OpId) (x v : ℕ) (b : Bool) → Reads h r x v → v ≢ initial h x
      → IsTrue b ↔ ((w : Write) × Contains writes w × (w.key ≡ x) × (w.value ≡ v)) → IsTrue (not b) ↔ IsThinAirRead h r
  thin_air-unwritten r x v true reads other is_written = (
    (λ e. absurd cc),
    λ (y, u, read, _, none). let found = is_written.0 refl in
        let same = same_read h r x v y u reads read in
        absurd (none found.0.op (rw (sym same.0, sym same.1) (rw (found.2, found.3) at (lists.no_other found.0 found.1)))),
  )
  thin_air-unwritten r x v false reads other is_written = (
    (λ _. (
      x,
      v,
      reads,
      other,
      λ w wrote.
          let no : false ≡ true = is_written.1 (record { op = w; key = x; value = v }, lists.each w x v wrote, refl, refl) in absurd cc,
    )),
    λ _. refl,
  )

module _ (h : MemoryHistory) (distinct : IsDifferentiated h) where
  -- a read reads from one write
  pub same_source : (a b r : OpId) → ReadsFrom h a r → ReadsFrom h b r → a ≡ b
  same_source a b r (x, v, wrote_a, reads_a, other_a) (y, u, wrote_b, reads_b, other_b) =
      let same = same_read h r x v y u reads_a reads_b in
      distinct.once a b y u (rw (← same.0, ← same.1) wrote_a) wrote_b

  -- it reads from its source, and from no other write
  pub reads-from_source : (r source : OpId) → ReadsFrom h source r → (w : OpId)
      → (ReadsFrom h w r) ↔ (◌≡◌ {A = Option OpId} (Some source) (Some w))
  reads-from_source r source from w = (
    (λ reads. ap Some (same_source source w r from reads)),
    λ same. subst (λ (a : OpId). ReadsFrom h a r) (same_Some source w same) from,
  )

  pub reads-from_listed : (r : OpId) (e : Option OpId) → IsSourceIfAny h r e → (w : OpId) → (ReadsFrom h w r) ↔ (e ≡ Some w)
  reads-from_listed r None none w = ((λ reads. absurd (none w reads)), λ no. absurd cc)
  reads-from_listed r (Some source) is w = reads-from_source r source is.0 w

module _ (h : MemoryHistory) (r : OpId) (x v : ℕ) (reads : Reads h r x v) (other : v ≢ initial h x) where
  -- a known read of a value that is not the initial one is out of thin air where it has no source
  pub thin_air-unsourced : (e : Option OpId) → ((w : OpId) → (ReadsFrom h w r) ↔ (e ≡ Some w)) → (b : Bool) → is_some e ≡ not b
      → IsTrue b ↔ IsThinAirRead h r
  thin_air-unsourced None is true none = (
    (λ _. (
      x,
      v,
      reads,
      other,
      λ w wrote. let no : ◌≡◌ {A = Option OpId} None (Some w) = (is w).0 (x, v, wrote, reads, other) in absurd cc,
    )),
    λ _. refl,
  )
  thin_air-unsourced None is false some = let no : false ≡ true = some in absurd cc
  thin_air-unsourced (Some source) is true none = let no : true ≡ false = none in absurd cc
  thin_air-unsourced (Some source) is false some = (
    (λ e. absurd cc),
    λ (y, u, read, _, none). let from = (is source).1 refl in
        let same = same_read h r from.0 from.1 y u from.3 read in
        absurd (none source (rw (same.0, same.1) at from.2)),
  )

-- the test of two operations says whether the one is the other
pub only-Some : (a b : OpId) → IsTrue (only b a) ↔ (◌≡◌ {A = Option OpId} (Some a) (Some b))
only-Some a b = (
  (λ same. ap Some (only-same b a same)),
  λ same. subst (λ (o : OpId). IsTrue (only o a)) (same_Some a b same) (itself a),
)
