-- What vectors of the happened-before relation of an operation count, where no operation is before itself in it.
use Rattle.std.proofs.Common.{◌≡◌, ℕ, ◌<◌, ◌≤◌, ⊎_elim, inl, inr, arith, refl, ap, subst}
use Rattle.std.specs.Prelude.{◌≢◌}
use Rattle.std.proofs.lemmas.Bool.{cases_lt}
use Rattle.model_history.specs.declared.op_id.OpId.{OpId}
use Rattle.model_history.specs.History.{IsOp}
use Rattle.order_memory.specs.HappenedBeforeVectors.{IsHBVectors}
use Rattle.order_memory.specs.Memory.{MemoryHistory, IsDifferentiated}
use Rattle.order_causal.specs.Orders.{op}
use Rattle.order_memory.specs.Relations.{IsEdge, CO, IsPast, HB}
use Rattle.order_memory.specs.SourceOrder.{CountsSourceOrder}
use Rattle.order_causal.specs.Vectors.{Counts, count, IsCounted, IsWithin}
use Rattle.order_memory.proofs.FirstWrites.{CO-from_sources, CO-by_sources}
use Rattle.order_memory.proofs.HappenedBeforeLaws.{past-before, past-of_history, HB-causal, HB-transitive, HB-inside}
use Rattle.order_causal.proofs.PathsLaws.{leads-edge}
use Rattle.order_memory.proofs.SourceVectors.{counts-before, before-counted}

module _ (h : MemoryHistory) (v : Counts) (order : CountsSourceOrder h v) (distinct : IsDifferentiated h) (o : OpId) (is_op : IsOp h o)
    (now : Counts) (happened : IsHBVectors h o now) (acyclic : (a : OpId) → ¬ HB h o a a) where
  pub counted-happened : (a b : OpId) → IsPast h o b → IsCounted now b a → HB h o a b
  counted-happened a b in_b counted = (happened.exact a b in_b).0 counted

  pub happened-counted : (a b : OpId) → IsPast h o b → HB h o a b → IsCounted now b a
  happened-counted a b in_b before = (happened.exact a b in_b).1 before

  -- what is counted is in the past of the operation
  pub counted-in_past : (a b : OpId) → IsPast h o b → IsCounted now b a → IsPast h o a
  counted-in_past a b in_b counted = (HB-inside h v order distinct o is_op a b (counted-happened a b in_b counted)).0

  -- of its own session a vector counts what is before its operation
  pub own-happened : (b : OpId) → IsPast h o b → count now b b.session ≡ b.index
  own-happened b in_b =
      let n : ℕ = count now b b.session in
      ⊎_elim
      (λ (below : n < b.index).
      let a : OpId = op b.session n in
      let leads = leads-edge (IsEdge h) a b (inl ((refl, below), past-of_history h o b is_op in_b)) in
      let again : n < n = happened-counted a b in_b (HB-causal h o a b (past-before h o a b leads in_b) in_b leads) in
      absurd (omega arith))
      (λ (up_to : b.index ≤ n). ⊎_elim
      (λ (above : b.index < n). absurd (acyclic b (counted-happened b b in_b above)))
      (λ (enough : n ≤ b.index). omega arith)
      (cases_lt b.index n))
      (cases_lt n b.index)

  -- a vector is at least those of what it counts
  pub happened-within : (b a : OpId) → IsPast h o b → IsCounted now b a → IsWithin now b a
  happened-within b a in_b counted = λ u. ⊎_elim
      (λ (above : count now b u < count now a u).
      let c : OpId = op u (count now b u) in
      let first = counted-happened c a (counted-in_past a b in_b counted) above in
      let before = HB-transitive h o c a b first (counted-happened a b in_b counted) in
      let again : count now b u < count now b u = happened-counted c b in_b before in
      absurd (omega arith))
      (λ (up_to : count now a u ≤ count now b u). up_to)
      (cases_lt (count now b u) (count now a u))

  -- what the vector of the operation itself counts is before it in the causal order
  counted-causal : (a : OpId) → IsCounted now o a → CO h a o
  counted-causal a counted =
      let before = counted-happened a o (inl refl) counted in
      ⊎_elim
      (λ (same : a ≡ o). absurd (acyclic o (subst (λ (b : OpId). HB h o b o) same before)))
      (λ (leads : CO h a o). leads)
      (HB-inside h v order distinct o is_op a o before).0

  causal-counted : (a : OpId) → CO h a o → IsCounted now o a
  causal-counted a leads = happened-counted a o (inl refl) (HB-causal h o a o (inr leads) (inl refl) leads)

  -- so of other sessions it counts what its vector of the causal order counts
  pub other-happened : (u : ℕ) → u ≢ o.session → count now o u ≡ count v o u
  other-happened u apart =
      let m : ℕ = count now o u in
      let n : ℕ = count v o u in
      ⊎_elim
      (λ (below : m < n).
      let other : op u m ≢ o = λ same. apart (ap (λ (x : OpId). x.session) same) in
      let before = before-counted h v order o (op u m) is_op below other in
      let again : m < m = causal-counted (op u m) (CO-from_sources h (op u m) o before) in
      absurd (omega arith))
      (λ (up_to : n ≤ m). ⊎_elim
      (λ (above : n < m).
      let before = CO-by_sources h distinct (op u n) o (counted-causal (op u n) above) in
      let again : n < n = counts-before h v order o (op u n) is_op before in
      absurd (omega arith))
      (λ (enough : m ≤ n). omega arith)
      (cases_lt n m))
      (cases_lt m n)
