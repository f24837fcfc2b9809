use Rattle.std.proofs.Common.{ℕ, List, sym, subst}
use Rattle.std.specs.Prelude.{Contains}
use Rattle.std.proofs.lemmas.List.Filters.{dedup_is}
use Rattle.std.proofs.lemmas.List.Kept.{Contains-dedup_nat, Contains-from_dedup}
use Rattle.std.proofs.lemmas.List.Sorted.{Contains-permutation, IsPermutation-sym}
use Rattle.std.proofs.lemmas.Map.Keys.{IsStrictlyIncreasing-dedup}
use Rattle.log_choices.proofs.left_out.distinct.Goals as goal

pub returns-clause-rising : goal.returns-clause-rising
returns-clause-rising c = rw (dedup_is _ _ _ c.dedup.ensures.filtered) (IsStrictlyIncreasing-dedup _ c.sort_unstable.ensures.sorted)

pub returns-clause-exact : goal.returns-clause-exact
returns-clause-exact c =
    let is = c.in_ok-found.ensures.items in
    let moved = c.sort_unstable.ensures.permutation in
    let kept = dedup_is _ _ _ c.dedup.ensures.filtered in
    λ x. (
      λ h. subst (λ (l : List ℕ). Contains l x) is (Contains-permutation _ _ x (IsPermutation-sym _ _ moved) (Contains-from_dedup _ _ x (rw kept at h))),
      λ h. rw kept (Contains-dedup_nat _ x (Contains-permutation _ _ x moved (subst (λ (l : List ℕ). Contains l x) (sym is) h))),
    )
