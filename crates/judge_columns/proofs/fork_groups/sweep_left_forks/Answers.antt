use Rattle.std.specs.Prelude.{◌≡◌, ◌⊎◌, ◌≤◌, ◌∷◌, ◌++◌, ◌+◌, ◌<◌, ℕ, List, [], Some, length, slice_get}
use Rattle.std.proofs.Common.{arith, ap, sym, ◌∙◌, subst}
use Rattle.std.proofs.lemmas.Option.{slice_get-get_or, slice_get_within}
use Rattle.judge_workers.specs.Numbers.{HasNumber}
use Rattle.judge_workers.proofs.NumberLists.{all-there, done-more, has-first}
use Rattle.judge_columns.proofs.GroupsSwept.{forks-whole}
use Rattle.judge_columns.proofs.fork_groups.sweep_left_forks.Goals as goal

pub returns-then-is_empty : goal.returns-then-is_empty
returns-then-is_empty c =
    let all : List ℕ = c.args.found.numbers.items in
    let rest : List ℕ = c.in_ok-rest.rest.items in
    let each : (g : ℕ) → g < c.groups.result → HasNumber c.args.found.numbers.items g ⊎ HasNumber rest g =
    subst (λ (xs : List ℕ). (g : ℕ) → g < c.groups.result → HasNumber xs g ⊎ HasNumber rest g) c.deref.ensures.value c.in_ok-rest.ensures.all in
    let none : length rest ≡ 0 = grind arith in
    forks-whole c.args.index.now.history c.groups.result all
    (all-there c.groups.result all rest all each (λ g has. has)
    (λ g has. let within = slice_get_within rest has.0 g has.1 in absurd (omega arith)))
    c.args.found.swept c.args.writes.now c.groups.ensures.enough c.requires.found

pub sweep_group-requires-clause-from : goal.sweep_group-requires-clause-from
sweep_group-requires-clause-from c =
    let rest : List ℕ = c.in_ok-rest.rest.items in
    let i : ℕ = c.loop-i.i in
    let g : ℕ = c.index-group.result.now in
    let inside : i < length rest = grind arith in
    let at : slice_get rest i ≡ Some g =
    slice_get-get_or rest i g inside ∙ ap (λ (n : ℕ). Some n) (sym c.index-group.ensures) in
    c.groups.ensures.each g (c.in_ok-rest.ensures.below g (i, at))

pub loop-i-preserved : goal.loop-i-preserved
loop-i-preserved c =
    let rest : List ℕ = c.in_ok-rest.rest.items in
    let i : ℕ = c.loop-i.i in
    let g : ℕ = c.index-group.result.now in
    let all : List ℕ = c.loop-i.all.items in
    let was = c.loop-i.invariant in
    let inside : i < length rest = grind arith in
    let at : slice_get rest i ≡ Some g =
    slice_get-get_or rest i g inside ∙ ap (λ (n : ℕ). Some n) (sym c.index-group.ensures) in
    let now : List ℕ = c.push.new.self.items in
    let grown : now ≡ all ++ g ∷ [] = c.in_ok-push.ensures.items in
    record {
      sizes = c.in_ok-sweep_group.ensures.sizes;
      late = c.in_ok-sweep_group.ensures.late;
      kept = λ k has. subst (λ (xs : List ℕ). HasNumber xs k) (sym grown) (has-first all (g ∷ []) k (was.kept k has));
      done = subst (λ (xs : List ℕ). (j k : ℕ) → j < i + 1 → slice_get rest j ≡ Some k → HasNumber xs k) (sym grown)
          (done-more rest all i g at was.done);
      swept = rw (grown) (c.in_ok-sweep_group.ensures.swept all was.swept);
    }

pub returns : goal.returns
returns c =
    let all : List ℕ = c.loop-i.all.items in
    let rest : List ℕ = c.in_ok-rest.rest.items in
    let was = c.loop-i.invariant in
    let each : (g : ℕ) → g < c.groups.result → HasNumber c.args.found.numbers.items g ⊎ HasNumber rest g =
    subst (λ (xs : List ℕ). (g : ℕ) → g < c.groups.result → HasNumber xs g ⊎ HasNumber rest g) c.deref.ensures.value c.in_ok-rest.ensures.all in
    let end : length rest ≤ c.loop-i.i = grind arith in
    forks-whole c.args.index.now.history c.groups.result all
    (all-there c.groups.result c.args.found.numbers.items rest all each was.kept
    (λ g has. let within = slice_get_within rest has.0 g has.1 in was.done has.0 g (omega arith) has.1))
    c.loop-i.swept c.args.writes.now c.groups.ensures.enough was.swept
