-- Reads whose sources count what the reads demand, or whose raises wait to be followed.
use Rattle.std.specs.Prelude.{◌≡◌, ◌≢◌, ◌⊎◌, ◌↔◌, ℕ, ◌+◌, ◌-◌, ◌<◌, IsTrue, List, Contains, Option, Some, None, MatchOption, option_map}
use Rattle.std.proofs.Common.{Bool, true, false, not, ◌&&◌, eqb, eqb-true, eq-eqb, get_or, arith, refl, sym, ap, subst, subst₂, ◌∙◌, ⊎_elim, inl, inr}
use Rattle.std.proofs.lemmas.Bool.{and_parts, cases_order}
use Rattle.std.proofs.lemmas.Option.{slice_get-get_or}
use Rattle.model_objects.specs.declared.register.RegisterCall.TheVariants.{Read}
use Rattle.model_objects.specs.declared.register.RegisterRet.{RegisterRet}
use Rattle.model_history.specs.declared.op_id.OpId.{OpId}
use Rattle.model_history.specs.History.{IsOp, entry}
use Rattle.order_memory.specs.declared.growing_order.GrowingOrder.{GrowingOrder}
use Rattle.order_memory.specs.declared.growing_order.Raised.{Raised}
use Rattle.order_memory.specs.declared.writes.Write.{Write as WriteEntry}
use Rattle.order_memory.specs.Steps.Written.{IsBelowWrite, ListsWrites}
use Rattle.order_memory.specs.Memory.{MemoryCall, MemoryHistory, Writes}
use Rattle.order_causal.specs.Orders.{op, Ops, program_past}
use Rattle.order_memory.specs.SourceOrder.{IsSource, IsSourceOf, ListsSourcesBelow}
use Rattle.order_memory.specs.Steps.GrowthSteps.{Waits, IsRaise, IsRuled, Grows, NoMore}
use Rattle.order_memory.specs.Steps.HappenedBefores.{IsLastBelow, IsReadDone, IsReadWaiting, IsReadFollowed}
use Rattle.order_causal.specs.Vectors.{Counts, count, IsCounted}
use Rattle.order_memory.proofs.FirstWrites.{source-unique}
use Rattle.order_memory.proofs.GrowthLaws.{grows-keep}
use Rattle.order_memory.proofs.MemoryLaws.{same_written, write-of_history}
use Rattle.order_memory.proofs.HappenedBeforeLaws.{program_past-from}
use Rattle.order_causal.proofs.OrdersLaws.{same_op}
use Rattle.order_memory.proofs.Raises.{raise-rises, raise-waits, raise-here}
use Rattle.order_memory.proofs.Ranges.{IsChange}

module _ (h : MemoryHistory) (reads : Ops) (more : Raised → Type 0) where
  read-raise : (x z : GrowingOrder) (r : OpId) (u : ℕ) → IsReadFollowed h (Waits more x) x.counts r u → IsRaise h reads x z → IsReadFollowed h (Waits more z) z.counts r u
  read-raise x z r u before raise = ⊎_elim
      (λ (done : IsReadDone h x.counts r u). ⊎_elim
      (λ (same : count z.counts r u ≡ count x.counts r u). inl (λ w y t m source wrote last apart.
      let enough = done w y t m source wrote (subst (λ (n : ℕ). IsLastBelow h y u n m) same last) apart in
      let rises = raise-rises h ⊥ reads x z raise w u in
      omega arith))
      (λ (change : IsChange x.counts z.counts raise.raised.op.session raise.raised.op.index raise.raised.end raise.raised.session raise.number raise.range r u).
      inr (raise.raised, raise-here h ⊥ reads x z raise more, sym change.3, sym change.0, change.1, change.2))
      (raise.range.each r u))
      (λ (waiting : IsReadWaiting (Waits more x) r u).
      inr (waiting.0, raise-waits h ⊥ reads x z raise more waiting.0 waiting.1, waiting.2, waiting.3, waiting.4, waiting.5))
      before

  -- a read that is followed stays so, or a raise waits
  pub grows-read : (a b : GrowingOrder) → Grows h ⊥ reads a b → (r : OpId) (u : ℕ) → IsReadFollowed h (Waits more a) a.counts r u → IsReadFollowed h (Waits more b) b.counts r u
  grows-read a b grows r u = grows-keep h ⊥ reads (λ (x : GrowingOrder). IsReadFollowed h (Waits more x) x.counts r u)
      (λ x z before raise. read-raise x z r u before raise)
      (λ x z before included.
      subst₂ (λ (v : Counts) (es : List Raised). IsReadFollowed h (λ e. Contains es e ⊎ more e) v r u) (sym included.counts) (sym included.pending) before)
      (λ x z before is released. absurd is)
      a b grows

  -- what a read counts is as it was, or a raise waits
  pub grows-read_waits : (a b : GrowingOrder) → Grows h ⊥ reads a b → (r : OpId) (u n : ℕ) → count a.counts r u ≡ n
      → (count b.counts r u ≡ n) ⊎ IsReadWaiting (Waits more b) r u
  grows-read_waits a b grows r u n same = grows-keep h ⊥ reads (λ (x : GrowingOrder). (count x.counts r u ≡ n) ⊎ IsReadWaiting (Waits more x) r u)
      (λ x z before raise. ⊎_elim
      (λ (unchanged : count x.counts r u ≡ n). ⊎_elim
      (λ (kept : count z.counts r u ≡ count x.counts r u). inl (kept ∙ unchanged))
      (λ (change : IsChange x.counts z.counts raise.raised.op.session raise.raised.op.index raise.raised.end raise.raised.session raise.number raise.range r u).
      inr (raise.raised, raise-here h ⊥ reads x z raise more, sym change.3, sym change.0, change.1, change.2))
      (raise.range.each r u))
      (λ (waiting : IsReadWaiting (Waits more x) r u).
      inr (waiting.0, raise-waits h ⊥ reads x z raise more waiting.0 waiting.1, waiting.2, waiting.3, waiting.4, waiting.5))
      before)
      (λ x z before included.
      subst₂ (λ (v : Counts) (es : List Raised). (count v r u ≡ n) ⊎ IsReadWaiting (λ e. Contains es e ⊎ more e) r u) (sym included.counts) (sym included.pending) before)
      (λ x z before is released. absurd is)
      a b grows (inl same)

module _ (h : MemoryHistory) where
  -- what is no known read of a value that is not the initial one demands nothing
  pub no_source-done : (v : Counts) (r : OpId) (u : ℕ) → IsSourceOf h r None → IsReadDone h v r u
  no_source-done v r u none w x t m source wrote last apart = absurd (source.0.4 (none source.0.0 source.0.1 source.0.3))

  -- the call of a read
  read-call : (w r : OpId) (source : IsSource h w r) → option_map (λ (e : MemoryCall × Option RegisterRet). e.0) (entry h r) ≡ Some (record { key = source.0.0; call = Read })
  read-call w r source = ap (option_map (λ (e : MemoryCall × Option RegisterRet). e.0)) source.0.3

  -- a read has one source, and its source writes one variable
  source-variable : (w q r : OpId) (source : IsSource h w r) → IsSource h q r → (x t : ℕ) → Writes h q x t → (q ≡ w) × (x ≡ source.0.0)
  source-variable w q r source other x t wrote =
      let same = source-unique h q w r other source in
      (same, (same_written h w x t source.0.0 source.0.1 (subst (λ (p : OpId). Writes h p x t) same wrote) source.0.2).0)

  -- what was found of the last write that a read counts of the session u
  abbrev pub IsFound : Counts → OpId → ℕ → Option OpId → Type 0
  IsFound v r u found = (c : MemoryCall) → option_map (λ (e : MemoryCall × Option RegisterRet). e.0) (entry h r) ≡ Some c
      → MatchOption found ((j y : ℕ) → j < count v r u → ¬ Writes h (op u j) c.key y) (λ w. (w.session ≡ u) × IsLastBelow h c.key u (count v r u) w.index)

  -- where none is found, or the source, the read demands nothing
  pub none-done : (v : Counts) (r w : OpId) (u : ℕ) → IsSource h w r → IsFound v r u None → IsReadDone h v r u
  none-done v r w u source found q x t m other wrote last apart =
      let same = source-variable w q r source other x t wrote in
      absurd (found (record { key = source.0.0; call = Read }) (read-call w r source) m last.value last.below
      (subst (λ (y : ℕ). Writes h (op u m) y last.value) same.1 last.writes))

  one-last : (x u n m k : ℕ) → IsLastBelow h x u n m → IsLastBelow h x u n k → m ≡ k
  one-last x u n m k first second = ⊎_elim
      (λ (same : m ≡ k). same)
      (λ (apart : (m < k) ⊎ (k < m)). ⊎_elim
      (λ (less : m < k). absurd (first.last k second.value less second.below second.writes))
      (λ (further : k < m). absurd (second.last m first.value further first.below first.writes))
      apart)
      (cases_order m k)

  pub source-done : (v : Counts) (r w : OpId) (u : ℕ) → IsSource h w r → IsFound v r u (Some w) → IsReadDone h v r u
  source-done v r w u source found q x t m other wrote last apart =
      let same = source-variable w q r source other x t wrote in
      let is = found (record { key = source.0.0; call = Read }) (read-call w r source) in
      let here = one-last source.0.0 u (count v r u) w.index m is.1 (subst (λ (y : ℕ). IsLastBelow h y u (count v r u) m) same.1 last) in
      absurd (apart (ap (λ (i : ℕ). op u i) (sym here) ∙ ap (λ (s : ℕ). op s w.index) (sym is.0) ∙ sym same.0))

  module _ (v : Counts) (r w f : OpId) (u : ℕ) (source : IsSource h w r) (found : IsFound v r u (Some f)) (apart : f ≢ w) where
    is_found : (f.session ≡ u) × IsLastBelow h source.0.0 u (count v r u) f.index
    is_found = found (record { key = source.0.0; call = Read }) (read-call w r source)

    pub rival-op : IsOp h f
    rival-op =
        let last = is_found.1 in
        write-of_history h f source.0.0 last.value (subst (λ (s : ℕ). Writes h (op s f.index) source.0.0 last.value) (sym is_found.0) last.writes)

    -- else it is a rival
    pub rival-ruled : (kept : Ops) → IsTrue (kept r) → IsRuled h kept v w r f.session (f.index + 1)
    rival-ruled kept is =
        let last = is_found.1 in
        let of_session = is_found.0 in
        let wrote : Writes h f source.0.0 last.value = subst (λ (s : ℕ). Writes h (op s f.index) source.0.0 last.value) (sym of_session) last.writes in
        let counted : IsCounted v r f = subst (λ (s : ℕ). f.index < count v r s) (sym of_session) last.below in
        (f.index, refl, is, source.0, (apart, (source.0.0, last.value, source.0.1, wrote, source.0.2)), counted)

    -- and once the source counts it, the read is followed, or a raise waits
    pub rival-followed : (kept : Ops) (a b : GrowingOrder) → a.counts ≡ v → Grows h ⊥ kept a b → IsCounted b.counts w f → IsReadFollowed h (Waits NoMore b) b.counts r u
    rival-followed kept a b is grows counted = ⊎_elim
        (λ (same : count b.counts r u ≡ count v r u). inl (λ q x t m other wrote last other_apart.
        let one = source-variable w q r source other x t wrote in
        let last_v : IsLastBelow h source.0.0 u (count v r u) m =
        subst₂ (λ (y n : ℕ). IsLastBelow h y u n m) one.1 same last in
        let here : f.index ≡ m = one-last source.0.0 u (count v r u) f.index m is_found.1 last_v in
        let there : f.index < count b.counts w u = subst (λ (s : ℕ). f.index < count b.counts w s) is_found.0 counted in
        subst (λ (p : OpId). m < count b.counts p u) (sym one.0) (omega arith)))
        (λ (waiting : IsReadWaiting (Waits NoMore b) r u). inr waiting)
        (grows-read_waits h kept NoMore a b grows r u (count v r u) (ap (λ (x : Counts). count x r u) is))

  -- what ends the writes of a variable is the last of them, or there is none
  module _ (writes : List WriteEntry) (lists : ListsWrites h writes) (x s n e : ℕ) (ends : (i : ℕ) → (i < e) ↔ IsBelowWrite writes x s n i) where
    pub found-last : e ≢ 0 → IsLastBelow h x s n (e - 1)
    found-last some =
        let is = (ends (e - 1)).0 (omega arith) in
        let from = is.2 in
        let below = is.3 in
        let this : is.0 < e = (ends is.0).1 (is.0, is.1, omega arith, below, is.4) in
        let same : is.0 ≡ e - 1 = omega arith in
        record {
          below = omega arith;
          value = is.1;
          writes = subst (λ (j : ℕ). Writes h (op s j) x is.1) same (lists.no_other _ is.4);
          last = λ j y above under wrote.
              let more : j < e = (ends j).1 (j, y, omega arith, under, lists.each (op s j) x y wrote) in
              omega arith;
        }

    pub found-none : e ≡ 0 → (j y : ℕ) → j < n → ¬ Writes h (op s j) x y
    found-none none j y under wrote =
        let more : j < e = (ends j).1 (j, y, omega arith, under, lists.each (op s j) x y wrote) in
        omega arith

  -- the source that is listed for an operation
  pub listed-source_of : (s n : ℕ) (es : List (Option OpId)) → ListsSourcesBelow h s n es → (i : ℕ) (e : Option OpId) → i < n → e ≡ get_or es i e → IsSourceOf h (op s i) e
  listed-source_of s n es lists i e below is =
      let count = lists.count in
      lists.each i e (slice_get-get_or es i e (omega arith) ∙ ap (λ (x : Option OpId). Some x) (sym is))

  -- an operation is in the session up to another one
  pub before-last : (s n i : ℕ) → i < n → IsTrue (program_past (op s (n - 1)) (op s i))
  before-last s n i below = program_past-from (op s (n - 1)) (op s i) refl (omega arith)

-- what a test for equal operations says
pub tested-apart : (f w : OpId) → not (eqb f.session w.session && eqb f.index w.index) ≡ true → f ≢ w
tested-apart f w is same =
    let here : not (eqb w.session w.session && eqb w.index w.index) ≡ true =
    subst (λ (q : OpId). not (eqb q.session w.session && eqb q.index w.index) ≡ true) same is in
    let none : not (true && true) ≡ true = rw (eq-eqb w.session w.session refl, eq-eqb w.index w.index refl) at here in
    absurd cc

negated : (b : Bool) → not b ≡ false → b ≡ true
negated true is = refl
negated false is = absurd cc

pub tested-same : (f w : OpId) → not (eqb f.session w.session && eqb f.index w.index) ≡ false → f ≡ w
tested-same f w is =
    let parts = and_parts (eqb f.session w.session) (eqb f.index w.index) (negated (eqb f.session w.session && eqb f.index w.index) is) in
    same_op f w (eqb-true f.session w.session parts.0) (eqb-true f.index w.index parts.1)
