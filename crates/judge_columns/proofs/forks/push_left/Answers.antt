use Rattle.std.specs.Prelude.{◌≡◌, ◌↔◌, ◌<◌, ◌≤◌, ℕ, List, length, slice_index_or}
use Rattle.std.proofs.Common.{arith, sym, refl, subst, inl, inr, ⊎_elim}
use Rattle.std.proofs.lemmas.Bool.{cases_lt}
use Rattle.std.proofs.lemmas.List.{get_or_past}
use Rattle.judge_columns.specs.Forks.{IsLeftEdge, IsLeftIn}
use Rattle.judge_columns.specs.Swept.{HasEdge}
use Rattle.judge_columns.specs.Words.{HasBit}
use Rattle.judge_columns.proofs.Bits.{zero-none}
use Rattle.judge_columns.proofs.OneMore.{one-more}
use Rattle.judge_columns.proofs.forks.push_left.Goals as goal

pub loop-to-preserved : goal.loop-to-preserved
loop-to-preserved c a b =
    one-more (HasEdge c.args.edges.now.items a b) (HasEdge c.loop-to.edges.items a b)
    (λ n. (b ≡ n) × IsLeftIn c.args.writes.now c.args.from (slice_index_or c.args.late.now n 0) a) c.loop-to.to
    (c.loop-to.invariant a b) (HasEdge c.push_word.new.edges.items a b) (c.in_ok-push_word.ensures a b)

-- a table has as many words as there are operations
listed : (writes : List ℕ) (from : ℕ) (late : List ℕ) (m a b : ℕ) → length late ≤ m
    → ((n : ℕ) × (n < m) × ((b ≡ n) × IsLeftIn writes from (slice_index_or late n 0) a)) ↔ IsLeftEdge writes from late a b
listed writes from late m a b whole = (
  (λ (n, below, (same, left)). subst (λ (j : ℕ). IsLeftIn writes from (slice_index_or late j 0) a) (sym same) left),
  λ left. ⊎_elim
      (λ (below : b < m). (b, below, (refl, left)))
      (λ (past : m ≤ b).
      absurd (zero-none left.0 (subst (λ (w : ℕ). HasBit w left.0) (get_or_past late b 0 (omega arith)) left.3)))
      (cases_lt b m),
)

pub returns : goal.returns
returns c a b =
    let whole : length c.args.late.now ≤ c.loop-to.to = grind arith in
    let is = listed c.args.writes.now c.args.from c.args.late.now c.loop-to.to a b whole in
    let now = c.loop-to.invariant a b in (
      (λ has. ⊎_elim
          (λ (old : HasEdge c.args.edges.now.items a b). inl old)
          (λ (new : (n : ℕ) × (n < c.loop-to.to) × ((b ≡ n) × IsLeftIn c.args.writes.now c.args.from (slice_index_or c.args.late.now n 0) a)).
          inr (is.0 new))
          (now.0 has)),
      λ either. now.1 (⊎_elim
          (λ (old : HasEdge c.args.edges.now.items a b). inl old)
          (λ (new : IsLeftEdge c.args.writes.now c.args.from c.args.late.now a b). inr (is.1 new))
          either),
    )
