use Rattle.std.specs.Prelude.{◌≡◌, ◌+◌, ◌<◌, ℕ, Some, slice_get}
use Rattle.std.proofs.Common.{arith, inl, inr, ⊎_elim}
use Rattle.judge_columns.specs.Forks.{IsLeftIn}
use Rattle.judge_columns.specs.Swept.{HasEdge}
use Rattle.judge_columns.specs.Words.{HasBit}
use Rattle.judge_columns.proofs.OneMore.{one-more, one-same}
use Rattle.judge_columns.proofs.forks.push_word.Goals as goal
use Rattle.judge_columns.proofs.forks.push_word.Goals.{then-has_bit+in_ok-push_from, else-has_bit}

pub loop-bit-preserved : goal.loop-bit-preserved
loop-bit-preserved c a b =
    let bit : ℕ = c.loop-bit.bit in
    let P : ℕ → Type 0 = λ k. (b ≡ c.args.to) × ((slice_get c.args.writes.now (c.args.from + k) ≡ Some a) × HasBit c.args.word k) in
    let first : Type 0 = HasEdge c.args.edges.now.items a b in
    let old : Type 0 = HasEdge c.loop-bit.edges.items a b in
    let was = c.loop-bit.invariant a b in
    elim c.if-has_bit.branch [
      | then-has_bit+in_ok-push_from w ↦ rw (w.edges-is) (
          let has = c.has_bit.ensures.0 w.if-has_bit.true in
          let pushed = w.in_ok-push_from.ensures a b in
          one-more first old P bit was (HasEdge w.push_from.new.edges.items a b) (
            (λ now. ⊎_elim
                (λ (before : HasEdge c.loop-bit.edges.items a b). inl before)
                (λ (new : (b ≡ c.args.to) × (slice_get c.args.writes.now (c.args.from + bit) ≡ Some a)). inr (new.0, (new.1, has)))
                (pushed.0 now)),
            λ either. pushed.1 (⊎_elim
                (λ (before : HasEdge c.loop-bit.edges.items a b). inl before)
                (λ (new : (b ≡ c.args.to) × ((slice_get c.args.writes.now (c.args.from + bit) ≡ Some a) × HasBit c.args.word bit)).
                inr (new.0, new.1.0))
                either),
          ))
      | else-has_bit w ↦ rw (w.edges-is) (one-same first old P bit was (λ here.
          let yes = c.has_bit.ensures.1 here.1.1 in let no = w.if-has_bit.false in absurd cc))
    ]

pub returns : goal.returns
returns c a b =
    let end : c.loop-bit.bit ≡ 128 = grind arith in
    let now = c.loop-bit.invariant a b in (
      (λ has. ⊎_elim
          (λ (old : HasEdge c.args.edges.now.items a b). inl old)
          (λ (new : (k : ℕ) × (k < c.loop-bit.bit) × ((b ≡ c.args.to)
          × ((slice_get c.args.writes.now (c.args.from + k) ≡ Some a) × HasBit c.args.word k))).
          let below = new.1 in inr (new.2.0, (new.0, omega arith, new.2.1.0, new.2.1.1)))
          (now.0 has)),
      λ either. now.1 (⊎_elim
          (λ (old : HasEdge c.args.edges.now.items a b). inl old)
          (λ (new : (b ≡ c.args.to) × IsLeftIn c.args.writes.now c.args.from c.args.word a).
          let below = new.1.1 in inr (new.1.0, omega arith, (new.0, (new.1.2, new.1.3))))
          either),
    )
