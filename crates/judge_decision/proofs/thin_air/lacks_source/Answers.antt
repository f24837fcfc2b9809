use Rattle.std.specs.Prelude.{◌≡◌, ◌<◌, ℕ}
use Rattle.std.proofs.Common.{arith, refl, subst}
use Rattle.judge_memory.specs.Steps.{many}
use Rattle.judge_decision.specs.Steps.ThinAir.{AreSourcedBelow}
use Rattle.judge_decision.proofs.ThinAir.{found, none-found}
use Rattle.judge_decision.proofs.thin_air.lacks_source.Goals as goal

pub returns-in-ThinAirRead : goal.returns-in-ThinAirRead
returns-in-ThinAirRead c =
    let below : c.loop-operation.operation < many c.args.index.now.history = grind arith in
    (λ yes. found c.args.index.now.history c.loop-operation.operation below c.in-ThinAirRead.ensures.part, λ lacks. refl)

pub returns : goal.returns
returns c =
    let end : c.loop-operation.operation ≡ many c.args.index.now.history = grind arith in
    let none = subst (λ (n : ℕ). AreSourcedBelow c.args.index.now.history n) end c.loop-operation.invariant in
    (λ no. absurd cc, λ lacks. absurd (none-found c.args.index.now.history none lacks))
