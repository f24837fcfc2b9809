use Rattle.std.specs.Prelude.{◌≡◌, ◌↔◌, ℕ, ◌<◌, IsTrue, List}
use Rattle.std.proofs.Common.{inl, inr, ⊎_elim}
use Rattle.std.proofs.lemmas.Bool.{both_ways}
use Rattle.std.proofs.lemmas.List.{get_or_read}
use Rattle.judge_columns.specs.Words.{HasBit, HasBitAt}
use Rattle.judge_columns.proofs.ForkSights.{set-or}
use Rattle.judge_columns.proofs.forks.leave.Goals as goal

pub returns-then-has_some-clause-read : goal.returns-then-has_some-clause-read
returns-then-has_some-clause-read c =
    let seen : ℕ = c.args.seen in
    let n : ℕ = c.args.source in
    let past : List ℕ = c.args.words.now.past.items in
    let future : List ℕ = c.args.words.now.future.items in
    let rest : ℕ = c.without-rest.result in
    let both : ℕ = c.shared.result in
    let one = get_or_read past _ _ c.requires.past c.index.ensures 0 in
    let two = get_or_read future _ _ c.requires.future c.index-then-has_some.ensures 0 in
    let left : (k : ℕ) → k < 128 → HasBit rest k ↔ (HasBit seen k × (¬ HasBitAt past n k)) = rw one at c.without-rest.ensures in
    let joint : (k : ℕ) → HasBit both k ↔ (HasBit rest k × HasBitAt future n k) = rw two at c.shared.ensures in
    set-or c.args.overwritten.now.read c.has_some-then-has_some.result ((k : ℕ) × (k < 128) × HasBit both k)
    ((k : ℕ) × (k < 128) × (HasBit seen k × (¬ HasBitAt past n k) × HasBitAt future n k)) c.has_some-then-has_some.ensures (
      (λ some. let bits = (joint some.0).0 some.2 in let bit = (left some.0 some.1).0 bits.0 in (some.0, some.1, (bit.0, bit.1, bits.1))),
      λ some. (some.0, some.1, (joint some.0).1 ((left some.0 some.1).1 (some.2.0, some.2.1), some.2.2)),
    )

pub returns-then-has_some-clause-left : goal.returns-then-has_some-clause-left
returns-then-has_some-clause-left c = λ n k few.
    let seen : ℕ = c.args.seen in
    let source : ℕ = c.args.source in
    let past : List ℕ = c.args.words.now.past.items in
    let late : List ℕ = c.args.late.now.items in
    let rest : ℕ = c.without-rest.result in
    let one = get_or_read past _ _ c.requires.past c.index.ensures 0 in
    let left : (j : ℕ) → j < 128 → HasBit rest j ↔ (HasBit seen j × (¬ HasBitAt past source j)) = rw one at c.without-rest.ensures in
    let added = c.add_word.ensures.added n k in (
      (λ has. ⊎_elim
          (λ (old : HasBitAt late n k). inl old)
          (λ (new : (n ≡ source) × HasBit rest k). inr (new.0, (left k few).0 new.1))
          (added.0 has)),
      λ either. added.1 (⊎_elim
          (λ (old : HasBitAt late n k). inl old)
          (λ (new : (n ≡ source) × (HasBit seen k × (¬ HasBitAt past source k))). inr (new.0, (left k few).1 (new.1.0, new.1.1)))
          either),
    )

pub returns-else-has_some-clause-read : goal.returns-else-has_some-clause-read
returns-else-has_some-clause-read c =
    let seen : ℕ = c.args.seen in
    let n : ℕ = c.args.source in
    let past : List ℕ = c.args.words.now.past.items in
    let future : List ℕ = c.args.words.now.future.items in (
      (λ old. inl old),
      λ either. ⊎_elim
          (λ (old : IsTrue c.args.overwritten.now.read). old)
          (λ (new : (k : ℕ) × (k < 128) × (HasBit seen k × (¬ HasBitAt past n k) × HasBitAt future n k)).
          absurd (both_ways c.has_some.result c.if-has_some.false (c.has_some.ensures.1 (new.0, new.1, new.2.0))))
          either,
    )

pub returns-else-has_some-clause-left : goal.returns-else-has_some-clause-left
returns-else-has_some-clause-left c = λ n k few.
    let seen : ℕ = c.args.seen in
    let past : List ℕ = c.args.words.now.past.items in
    let late : List ℕ = c.args.late.now.items in (
      (λ old. inl old),
      λ either. ⊎_elim
          (λ (old : HasBitAt late n k). old)
          (λ (new : (n ≡ c.args.source) × (HasBit seen k × (¬ HasBitAt past c.args.source k))).
          absurd (both_ways c.has_some.result c.if-has_some.false (c.has_some.ensures.1 (k, few, new.1.0))))
          either,
    )
