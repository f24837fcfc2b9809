use Rattle.std.proofs.Common.{ℕ, List, [], ◌∷◌, ◌++◌, ap, sym, subst, ◌∙◌, ◌+◌, take, Vec, Global}
use Rattle.std.specs.Prelude.{◌↔◌, Contains}
use Rattle.std.proofs.lemmas.List.{take_all}
use Rattle.std.proofs.lemmas.List.Sorted.{Contains-permutation, IsPermutation-sym}
use Rattle.log_events.specs.Events.{Call}
use Rattle.log_events.specs.Steps.CallKinds.{got_pair, got_pairs, lost_pairs}
use Rattle.log_events.proofs.CallKindsLaws.{got-more, got-other}
use Rattle.log_events.proofs.Loops.{filter_map_more-some, filter_map_more-none}
use Rattle.log_events.proofs.returned_values.returned_values.Goals as goal
use Rattle.log_events.proofs.returned_values.returned_values.Goals.{in-Some+then-is_listed+in_ok-push, in-Some+else-is_listed, in_default}

pub loop-call-preserved : goal.loop-call-preserved
loop-call-preserved c =
    let calls = c.args.calls.now in
    let i = c.loop-call.call-index in
    let pairs = c.loop-call.pairs.items in
    let got = got_pairs (take i calls) in
    let f = λ (a : Call). got_pair a.call a.ending in
    let P : List (ℕ × ℕ) → List (ℕ × ℕ) → Type 0
    = λ l m. (x v : ℕ) → Contains (lost_pairs calls) (x, v) → Contains l (x, v) ↔ Contains m (x, v) in
    elim c.match-got_pair.branch [
      | in-Some+then-is_listed+in_ok-push w ↦
          let y = w.in-Some.pair in
          let more = filter_map_more-some f calls i c.call-item.result c.loop-call-test.true c.call-item.is y (sym w.in-Some.ensures) in
          let is = ap (λ (v : Vec (ℕ × ℕ) Global). v.items) w.pairs-is ∙ w.in_ok-push.ensures.items in
          subst (λ (l : List (ℕ × ℕ)). P l (got_pairs (take (i + 1) calls))) (sym is)
          (subst (λ (m : List (ℕ × ℕ)). P (pairs ++ y ∷ []) m) (sym more) (got-more (lost_pairs calls) pairs got y c.loop-call.invariant))
      | in-Some+else-is_listed w ↦
          let y = w.in-Some.pair in
          let more = filter_map_more-some f calls i c.call-item.result c.loop-call-test.true c.call-item.is y (sym w.in-Some.ensures) in
          let is = ap (λ (v : Vec (ℕ × ℕ) Global). v.items) w.pairs-is in
          let none : ¬ Contains (lost_pairs calls) y = λ inside.
          let yes = w.is_listed.ensures.1 (subst (λ (l : List (ℕ × ℕ)). Contains l y) (sym w.deref.ensures.value) ((c.in_ok-lost.ensures.exact y.0 y.1).1 inside)) in
          let wrong = sym yes ∙ w.if-is_listed.false in
          absurd cc in
          subst (λ (l : List (ℕ × ℕ)). P l (got_pairs (take (i + 1) calls))) (sym is)
          (subst (λ (m : List (ℕ × ℕ)). P pairs m) (sym more) (got-other (lost_pairs calls) pairs got y c.loop-call.invariant none))
      | in_default w ↦
          let same = filter_map_more-none f calls i c.call-item.result c.loop-call-test.true c.call-item.is (sym c.got_pair.ensures ∙ w.in_default.is) in
          let is = ap (λ (v : Vec (ℕ × ℕ) Global). v.items) w.pairs-is in
          subst (λ (l : List (ℕ × ℕ)). P l (got_pairs (take (i + 1) calls))) (sym is)
          (subst (λ (m : List (ℕ × ℕ)). P pairs m) (sym same) c.loop-call.invariant)
    ]

pub returns-clause-exact : goal.returns-clause-exact
returns-clause-exact c =
    let calls = c.args.calls.now in
    let pairs = c.loop-call.pairs.items in
    let all = ap got_pairs (take_all c.loop-call.call-index calls c.loop-call-test.false) in
    let moved = c.sort_unstable.ensures.permutation in
    λ x v lost.
    let inv = subst (λ (l : List (ℕ × ℕ)). Contains pairs (x, v) ↔ Contains l (x, v)) all (c.loop-call.invariant x v lost) in (
      λ h. inv.0 (Contains-permutation _ _ (x, v) (IsPermutation-sym _ _ moved) h),
      λ h. Contains-permutation _ _ (x, v) moved (inv.1 h),
    )
