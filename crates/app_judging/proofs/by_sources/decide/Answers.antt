use Rattle.std.proofs.Common.{subst}
use Rattle.std.specs.Prelude.{IfOk}
use Rattle.pattern_check.specs.declared.kind.Kind.{Kind}
use Rattle.pattern_check.specs.Kinds.{IsTrueNo}
use Rattle.judge_decision.specs.declared.deciding_limited.Decision.{Decision}
use Rattle.judge_decision.specs.Decisions.{IsDecided}
use Rattle.order_memory.specs.Memory.{MemoryHistory}
use Rattle.app_judging.proofs.DecisionLaws.{decided-first, decided-found, decided-met, decided-no, decided-resolved, exact-distinct, excluded-follows}
use Rattle.app_judging.proofs.JudgedLaws.{ok-follows}
use Rattle.app_judging.proofs.by_sources.decide.Goals as goal

pub returns-clause-meets : goal.returns-clause-meets
returns-clause-meets c =
    ok-follows c.decide.result (decided-met c.args.h.now c.args.criterion)
    (subst (λ (h : MemoryHistory). IfOk c.decide.result (IsDecided h c.args.criterion)) c.in_ok-memory.ensures c.decide.ensures)

pub returns-clause-excluded : goal.returns-clause-excluded
returns-clause-excluded c =
    ok-follows c.decide.result
    (decided-no c.args.h.now c.args.criterion (c.bad_patterns_exclude_criteria.ensures c.args.h.now c.args.criterion))
    (subst (λ (h : MemoryHistory). IfOk c.decide.result (IsDecided h c.args.criterion)) c.in_ok-memory.ensures c.decide.ensures)

pub returns-clause-not_met : goal.returns-clause-not_met
returns-clause-not_met c =
    ok-follows c.decide.result
    (λ (d : Decision) decided. excluded-follows (λ (kind : Kind) (no : IsTrueNo c.args.h.now c.args.criterion kind). no.not_met) d
    (decided-no c.args.h.now c.args.criterion (c.bad_patterns_exclude_criteria.ensures c.args.h.now c.args.criterion) d decided))
    (subst (λ (h : MemoryHistory). IfOk c.decide.result (IsDecided h c.args.criterion)) c.in_ok-memory.ensures c.decide.ensures)

pub returns-clause-first : goal.returns-clause-first
returns-clause-first c =
    ok-follows c.decide.result (decided-first c.args.h.now c.args.criterion)
    (subst (λ (h : MemoryHistory). IfOk c.decide.result (IsDecided h c.args.criterion)) c.in_ok-memory.ensures c.decide.ensures)

pub returns-clause-resolved : goal.returns-clause-resolved
returns-clause-resolved c = λ distinct.
    ok-follows c.decide.result (decided-resolved c.args.h.now c.args.criterion distinct)
    (subst (λ (h : MemoryHistory). IfOk c.decide.result (IsDecided h c.args.criterion)) c.in_ok-memory.ensures c.decide.ensures)

pub returns-clause-kind : goal.returns-clause-kind
returns-clause-kind c =
    ok-follows c.decide.result (decided-found c.args.h.now c.args.criterion)
    (subst (λ (h : MemoryHistory). IfOk c.decide.result (IsDecided h c.args.criterion)) c.in_ok-memory.ensures c.decide.ensures)

pub returns-clause-decided : goal.returns-clause-decided
returns-clause-decided c = λ exact.
    ok-follows c.decide.result (decided-resolved c.args.h.now c.args.criterion (exact-distinct c.args.h.now c.args.criterion exact))
    (subst (λ (h : MemoryHistory). IfOk c.decide.result (IsDecided h c.args.criterion)) c.in_ok-memory.ensures c.decide.ensures)
