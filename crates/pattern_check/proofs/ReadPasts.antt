-- The past of a known read, in a list that explains it.
use Rattle.std.proofs.Common.{◌≡◌, ℕ, ◌<◌, ◌≤◌, ◌⊎◌, ⊎_elim, List, take, subst, refl, eq-eqb}
use Rattle.std.specs.Prelude.{◌≢◌, IsTrue, ◌==◌}
use Rattle.std.proofs.lemmas.Bool.{and_from, or_left, or_right, or_cases}
use Rattle.model_objects.specs.declared.register.RegisterCall.TheVariants.{Read}
use Rattle.model_objects.specs.declared.register.RegisterRet.TheVariants.{Value}
use Rattle.model_history.specs.declared.op_id.OpId.{OpId}
use Rattle.order_causal.specs.Orders.{Order, Ops, only, past, StandsAt, IsLinearization}
use Rattle.order_memory.specs.Memory.{MemoryHistory, memory_answer, initial, Writes, Reads, IsDifferentiated}
use Rattle.cert_check.specs.Criteria.{Explains}
use Rattle.cert_check.proofs.ConvergentLaws.{only-same}
use Rattle.order_causal.proofs.Fronts.{take-from, take-stands}
use Rattle.order_memory.proofs.MemoryLaws.{write-or_read}
use Rattle.order_memory.proofs.LastWrites.{IsUnwritten, IsLastWrite, answer-cases}

pub itself : (r : OpId) → IsTrue (only r r)
itself r = and_from (r.session == r.session) (r.index == r.index) (eq-eqb r.session r.session refl) (eq-eqb r.index r.index refl)

module _ (h : MemoryHistory) where
  -- a known read at a place of a list that explains it
  module _ (distinct : IsDifferentiated h) (ops : List OpId) (set : Ops) (explains : Explains memory_answer h ops set)
      (r : OpId) (kept : IsTrue (set r)) (n : ℕ) (stands : StandsAt ops n r) (x v : ℕ) (reads : Reads h r x v) where
    -- the value that is read is initial, or that of the last write before the read
    pub value-cases_at : (IsUnwritten h x (take n ops) × (v ≡ initial h x)) ⊎ ((w : OpId) × IsLastWrite h x (take n ops) w v)
    value-cases_at = answer-cases h x (take n ops) v (explains n r (record { key = x; call = Read }) (Value v) stands kept reads)

    -- before a read of the initial value stands no write
    pub no_write_at : v ≡ initial h x → (w : OpId) (u : ℕ) → Writes h w x u → (j : ℕ) → j < n → ¬ StandsAt ops j w
    no_write_at start w u wrote j below at =
        ⊎_elim
        (λ (none : IsUnwritten h x (take n ops) × (v ≡ initial h x)). none.0 j w u (take-stands n ops j w below at) wrote)
        (λ (some : (w : OpId) × IsLastWrite h x (take n ops) w v). distinct.not_initial some.0 x v some.1.writes start)
        value-cases_at

    -- the write that is read is the last write of the variable before the read
    source-last : v ≢ initial h x → (w : OpId) → Writes h w x v → IsLastWrite h x (take n ops) w v
    source-last other w wrote =
        ⊎_elim
        (λ (none : IsUnwritten h x (take n ops) × (v ≡ initial h x)). absurd (other none.1))
        (λ (some : (w : OpId) × IsLastWrite h x (take n ops) w v).
        subst (λ (a : OpId). IsLastWrite h x (take n ops) a v) (distinct.once some.0 w x v some.1.writes wrote) some.1)
        value-cases_at

    -- where the write that is read stands
    pub source-stands_at : v ≢ initial h x → (w : OpId) → Writes h w x v → (k : ℕ) × StandsAt ops k w
        × ((a : OpId) (u : ℕ) (j : ℕ) → j < n → StandsAt ops j a → Writes h a x u → j ≤ k)
    source-stands_at other w wrote =
        let last = source-last other w wrote in (
          last.place,
          (take-from n ops last.place w last.stands).1,
          λ a u j below at writes. last.last j a u (take-stands n ops j a below at) writes,
        )

  module _ (distinct : IsDifferentiated h) (co : Order) (r : OpId) (ops : List OpId) (linear : IsLinearization (past co r) co ops)
      (explains : Explains memory_answer h ops (only r)) (x v : ℕ) (reads : Reads h r x v) where
    -- where the read stands
    pub place : (k : ℕ) × StandsAt ops k r
    place = linear.each r (or_left (only r r) (co r r) (itself r))

    -- what is before the read in the order stands before it in the list
    pub stands_before : (a : OpId) → IsTrue (co a r) → (k : ℕ) × (k < place.0) × StandsAt ops k a
    stands_before a before =
        let there = linear.each a (or_right (only r a) (co a r) before) in
        (there.0, linear.ordered there.0 place.0 a r there.1 place.1 before, there.1)

    -- the value that is read is initial, or that of the last write before the read
    pub value-cases : (IsUnwritten h x (take place.0 ops) × (v ≡ initial h x)) ⊎ ((w : OpId) × IsLastWrite h x (take place.0 ops) w v)
    value-cases = value-cases_at distinct ops (only r) explains r (itself r) place.0 place.1 x v reads

    -- before a read of the initial value there is no write
    pub no_write_before : v ≡ initial h x → (w : OpId) (u : ℕ) → Writes h w x u → ¬ IsTrue (co w r)
    no_write_before start w u wrote before =
        let there = stands_before w before in
        no_write_at distinct ops (only r) explains r (itself r) place.0 place.1 x v reads start w u wrote there.0 there.1 there.2

    -- where the write that is read stands
    pub source-stands : v ≢ initial h x → (w : OpId) → Writes h w x v → (k : ℕ) × StandsAt ops k w
        × ((a : OpId) (u : ℕ) (j : ℕ) → j < place.0 → StandsAt ops j a → Writes h a x u → j ≤ k)
    source-stands = source-stands_at distinct ops (only r) explains r (itself r) place.0 place.1 x v reads

    -- the write that is read is before the read in the order
    pub source-before : v ≢ initial h x → (w : OpId) → Writes h w x v → IsTrue (co w r)
    source-before other w wrote =
        let there = source-stands other w wrote in
        ⊎_elim
        (λ (alone : IsTrue (only r w)). absurd (write-or_read h w r x v x v wrote reads (only-same r w alone)))
        (λ (before : IsTrue (co w r)). before)
        (or_cases (only r w) (co w r) (linear.no_other there.0 w there.1))
