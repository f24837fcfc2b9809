use Rattle.std.proofs.Common.{◌≡◌, subst}
use Rattle.std.specs.Prelude.{string_bytes}
use Rattle.std.proofs.lemmas.Result.{IfOk-weaker}
use Rattle.order_memory.specs.Memory.{MemoryHistory}
use Rattle.judge_subhistories.specs.WithoutVariables.{without_variables}
use Rattle.app_explanations.proofs.CoreLines.{core_of_rest}
use Rattle.app_explanations.proofs.part_lines.lines_without_variables.Goals as goal

pub returns-in-Some : goal.returns-in-Some
returns-in-Some g c =
    let part = rw c.in-Some.is at c.in_ok-excluded.ensures.part in
    let same = subst (λ (x : MemoryHistory). c.in-Some.excluded.part ≡ without_variables c.deref.result.now x) c.history-history.ensures part in
    IfOk-weaker c.lines_of_excluded-lines.result _ _
    (λ lines of. core_of_rest string_bytes c.args.memory.now c.in-Some.excluded.part c.deref.result.now c.args.criterion lines.core same of)
    c.lines_of_excluded-lines.ensures
