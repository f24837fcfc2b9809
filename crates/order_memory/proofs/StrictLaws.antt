-- What vectors of the causal order count, each without its own operation.
use Rattle.std.specs.Prelude.{◌≡◌, ◌≢◌, ℕ, ◌+◌, ◌<◌, ◌≤◌}
use Rattle.std.proofs.Common.{arith, sym, ap, subst, ◌∙◌, ⊎_elim}
use Rattle.std.proofs.lemmas.Bool.{cases_eq, cases_lt}
use Rattle.model_history.specs.declared.op_id.OpId.{OpId}
use Rattle.model_history.specs.History.{IsOp}
use Rattle.order_memory.specs.Memory.{MemoryHistory}
use Rattle.order_causal.specs.Orders.{op}
use Rattle.order_memory.specs.SourceOrder.{CountsSourceOrder}
use Rattle.order_memory.specs.Steps.GrowthSteps.{AreStraight}
use Rattle.order_memory.specs.Steps.HappenedBefores.{AreStrictOf}
use Rattle.order_causal.specs.Vectors.{Counts, count, IsCounted}
use Rattle.order_memory.proofs.SourceVectors.{counted-within, counted-back, counted-of_history, own-count}

module _ (h : MemoryHistory) (v strict : Counts) (counts : CountsSourceOrder h v) (begun : AreStrictOf h v strict) where
  -- they count no more
  strict-most : (p : OpId) (s : ℕ) → IsOp h p → count strict p s ≤ count v p s
  strict-most p s is_op = ⊎_elim
      (λ (same : s ≡ p.session).
      let own = begun.own p is_op in
      let more = own-count h v counts p is_op in
      subst (λ (t : ℕ). count strict p t ≤ count v p t) (sym same) (omega arith))
      (λ (apart : s ≢ p.session). let other = begun.others p s is_op apart in omega arith)
      (cases_eq s p.session)

  -- a vector that counts another operation counts all that it counts
  pub within-strict : (a b : OpId) (z : ℕ) → IsOp h b → IsCounted strict b a → count strict a z ≤ count strict b z
  within-strict a b z is_op counted =
      let more = strict-most b a.session is_op in
      let counted_v : IsCounted v b a = omega arith in
      let a_is_op = counted-of_history h v counts b a is_op counted_v in
      let within = counted-within h v counts b a is_op counted_v z in
      let less = strict-most a z a_is_op in
      ⊎_elim
      (λ (same : z ≡ b.session). ⊎_elim
      (λ (of_a : z ≡ a.session).
      let own = begun.own a a_is_op in
      let here : count strict a z ≡ a.index = subst (λ (t : ℕ). count strict a t ≡ a.index) (sym of_a) own in
      let there : a.index < count strict b z = subst (λ (t : ℕ). a.index < count strict b t) (sym of_a) counted in
      omega arith)
      (λ (other : z ≢ a.session).
      let own = begun.own b is_op in
      let here : count strict b z ≡ b.index = subst (λ (t : ℕ). count strict b t ≡ b.index) (sym same) own in
      ⊎_elim
      (λ (below : b.index < count v a z).
      let back : IsCounted v a b = subst (λ (t : ℕ). b.index < count v a t) same below in
      let one = counted-back h v counts a b a_is_op is_op counted_v back in
      absurd (other (same ∙ sym (ap (λ (p : OpId). p.session) one))))
      (λ (up_to : count v a z ≤ b.index). omega arith)
      (cases_lt b.index (count v a z)))
      (cases_eq z a.session))
      (λ (apart : z ≢ b.session). let other = begun.others b z is_op apart in omega arith)
      (cases_eq z b.session)

  -- so they are straight
  pub strict-straight : AreStraight h strict
  strict-straight = record {
    monotone = λ s j z is_op.
        let own = begun.own (op s (j + 1)) is_op in
        within-strict (op s j) (op s (j + 1)) z is_op (omega arith);
    within = λ b y i z is_op ends. within-strict (op y i) b z is_op (omega arith);
  }
