-- What a history without some variables does not meet, the history does not meet.
use Rattle.std.proofs.Common.{◌≡◌, ℕ, Bool, List, Option, Some, IfSome, sym, subst}
use Rattle.order_memory.specs.Memory.{MemoryHistory, memory_answer}
use Rattle.cert_check.specs.declared.criterion.Criterion.{Criterion}
use Rattle.cert_check.specs.Criteria.{Meets}
use Rattle.cert_subhistories.specs.Parts.{at_keys, part_by}
use Rattle.judge_decision.specs.declared.deciding_limited.Decision.{Decision}
use Rattle.judge_subhistories.specs.WithoutVariables.{IsExclusion, without_variables}

pub whole_excluded : (h part : MemoryHistory) (variables : List ℕ) (criterion : Criterion) (found : Option Decision) (decision : Decision)
    → found ≡ Some decision → IfSome found (IsExclusion part criterion) → part ≡ without_variables variables h
    → ((keys : ℕ → Bool) → Meets memory_answer (part_by (at_keys keys) h) criterion) → ⊥
whole_excluded h part variables criterion found decision is excluded same meets =
    let shown : IsExclusion part criterion decision = subst (λ (f : Option Decision). IfSome f (IsExclusion part criterion)) is excluded in
    shown.1 (subst (λ (p : MemoryHistory). Meets memory_answer p criterion) (sym same) (meets _))
