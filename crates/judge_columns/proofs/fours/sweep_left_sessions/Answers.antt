use Rattle.std.specs.Prelude.{◌≡◌, ◌⊎◌, ◌<◌, ℕ, List, length}
use Rattle.std.proofs.Common.{arith, subst, ⊎_elim}
use Rattle.std.proofs.lemmas.Option.{slice_get_within}
use Rattle.judge_workers.specs.Numbers.{HasNumber}
use Rattle.judge_columns.proofs.GroupsSwept.{sessions-whole}
use Rattle.judge_columns.proofs.fours.sweep_left_sessions.Goals as goal

pub returns-then-is_empty : goal.returns-then-is_empty
returns-then-is_empty c =
    let list : List ℕ = c.args.sessions.now in
    let places : List ℕ = c.args.found.numbers.items in
    let rest : List ℕ = c.in_ok-unclaimed.field-0.items in
    let none : length rest ≡ 0 = grind arith in
    let each : (k : ℕ) → k < length list → HasNumber places k ⊎ HasNumber rest k =
    subst (λ (xs : List ℕ). (k : ℕ) → k < length list → HasNumber xs k ⊎ HasNumber rest k) c.deref.ensures.value
    c.in_ok-unclaimed.ensures.all in
    sessions-whole c.args.index.now.history list places
    (λ k below. ⊎_elim
    (λ (has : HasNumber places k). has)
    (λ (left : HasNumber rest k). let within = slice_get_within rest left.0 k left.1 in absurd (omega arith))
    (each k below))
    c.args.found.swept c.requires.found
