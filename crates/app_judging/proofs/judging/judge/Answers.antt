use Rattle.std.proofs.Common.{◌≡◌, subst}
use Rattle.pattern_check.specs.declared.kind.Kind.{Kind}
use Rattle.cert_check.specs.Criteria.{Meets}
use Rattle.app_judging.specs.Judgements.{IsUnexplainedOf}
use Rattle.app_judging.proofs.DecisionLaws.{at-kind, at-pattern}
use Rattle.app_judging.proofs.JudgedLaws.{founded-more, founded-no, ok-follows}
use Rattle.app_judging.proofs.judging.judge.Goals as goal

pub returns-in-Meets-clause-founded : goal.returns-in-Meets-clause-founded
returns-in-Meets-clause-founded g c = c.in_ok-decision.ensures.meets c.in-Meets.is

pub returns-in-Excluded-clause-founded : goal.returns-in-Excluded-clause-founded
returns-in-Excluded-clause-founded g c =
    at-pattern (g.O.Refutable.excluded c.args.h c.args.criterion) c.in_ok-decision.decision c.in-Excluded.pattern c.kind-kind.result c.in-Excluded.is
    c.kind-kind.ensures c.in_ok-decision.ensures.excluded

pub returns-in-Excluded-clause-not_met : goal.returns-in-Excluded-clause-not_met
returns-in-Excluded-clause-not_met g c = λ kind same.
    at-pattern (λ (k : Kind). ¬ Meets g.O.SeqObject.answer c.args.h c.args.criterion) c.in_ok-decision.decision c.in-Excluded.pattern c.kind-kind.result
    c.in-Excluded.is c.kind-kind.ensures c.in_ok-decision.ensures.not_met

pub returns-in-Excluded-clause-kind : goal.returns-in-Excluded-clause-kind
returns-in-Excluded-clause-kind g c = λ kind same.
    let no : c.kind-kind.result ≡ kind = cc in
    subst (λ (k : Kind). g.O.Judged.finds c.args.h c.args.criterion k) no
    (at-pattern (g.O.Judged.finds c.args.h c.args.criterion) c.in_ok-decision.decision c.in-Excluded.pattern c.kind-kind.result c.in-Excluded.is
    c.kind-kind.ensures c.in_ok-decision.ensures.kind)

pub returns-in-Excluded-clause-first : goal.returns-in-Excluded-clause-first
returns-in-Excluded-clause-first g c = λ kind same.
    let no : c.kind-kind.result ≡ kind = cc in
    subst (λ (k : Kind). g.O.Judged.names c.args.h c.args.criterion k) no
    (at-pattern (g.O.Judged.names c.args.h c.args.criterion) c.in_ok-decision.decision c.in-Excluded.pattern c.kind-kind.result c.in-Excluded.is
    c.kind-kind.ensures c.in_ok-decision.ensures.first)

pub returns-in-ExcludedBy-clause-founded : goal.returns-in-ExcludedBy-clause-founded
returns-in-ExcludedBy-clause-founded g c =
    at-kind (g.O.Refutable.excluded c.args.h c.args.criterion) c.in_ok-decision.decision c.in-ExcludedBy.kind c.in-ExcludedBy.is
    c.in_ok-decision.ensures.excluded

pub returns-in-ExcludedBy-clause-not_met : goal.returns-in-ExcludedBy-clause-not_met
returns-in-ExcludedBy-clause-not_met g c = λ kind same.
    at-kind (λ (k : Kind). ¬ Meets g.O.SeqObject.answer c.args.h c.args.criterion) c.in_ok-decision.decision c.in-ExcludedBy.kind c.in-ExcludedBy.is
    c.in_ok-decision.ensures.not_met

pub returns-in-ExcludedBy-clause-kind : goal.returns-in-ExcludedBy-clause-kind
returns-in-ExcludedBy-clause-kind g c = λ kind same.
    let no : c.in-ExcludedBy.kind ≡ kind = cc in
    subst (λ (k : Kind). g.O.Judged.finds c.args.h c.args.criterion k) no
    (at-kind (g.O.Judged.finds c.args.h c.args.criterion) c.in_ok-decision.decision c.in-ExcludedBy.kind c.in-ExcludedBy.is
    c.in_ok-decision.ensures.kind)

pub returns-in-ExcludedBy-clause-first : goal.returns-in-ExcludedBy-clause-first
returns-in-ExcludedBy-clause-first g c = λ kind same.
    let no : c.in-ExcludedBy.kind ≡ kind = cc in
    subst (λ (k : Kind). g.O.Judged.names c.args.h c.args.criterion k) no
    (at-kind (g.O.Judged.names c.args.h c.args.criterion) c.in_ok-decision.decision c.in-ExcludedBy.kind c.in-ExcludedBy.is
    c.in_ok-decision.ensures.first)

pub returns-in-Open-clause-founded : goal.returns-in-Open-clause-founded
returns-in-Open-clause-founded g c =
    let answer = g.O.SeqObject.answer in
    ok-follows c.judge_by_certificate.result
    (founded-more (Meets answer c.args.h c.args.criterion) (g.O.Refutable.excluded c.args.h c.args.criterion) (IsUnexplainedOf answer c.args.h c.args.criterion))
    c.judge_by_certificate.ensures.founded

pub returns-in-Open-clause-not_met : goal.returns-in-Open-clause-not_met
returns-in-Open-clause-not_met g c =
    let answer = g.O.SeqObject.answer in
    ok-follows c.judge_by_certificate.result
    (λ a founded kind same. absurd (founded-no (Meets answer c.args.h c.args.criterion) (IsUnexplainedOf answer c.args.h c.args.criterion) a founded kind same))
    c.judge_by_certificate.ensures.founded

pub returns-in-Open-clause-kind : goal.returns-in-Open-clause-kind
returns-in-Open-clause-kind g c =
    let answer = g.O.SeqObject.answer in
    ok-follows c.judge_by_certificate.result
    (λ a founded kind same. absurd (founded-no (Meets answer c.args.h c.args.criterion) (IsUnexplainedOf answer c.args.h c.args.criterion) a founded kind same))
    c.judge_by_certificate.ensures.founded

pub returns-in-Open-clause-first : goal.returns-in-Open-clause-first
returns-in-Open-clause-first g c =
    let answer = g.O.SeqObject.answer in
    ok-follows c.judge_by_certificate.result
    (λ a founded kind same. absurd (founded-no (Meets answer c.args.h c.args.criterion) (IsUnexplainedOf answer c.args.h c.args.criterion) a founded kind same))
    c.judge_by_certificate.ensures.founded

pub returns-in-Open-clause-decided : goal.returns-in-Open-clause-decided
returns-in-Open-clause-decided g c = λ decides. absurd (c.in_ok-decision.ensures.decided decides c.in-Open.is)

pub returns-in-Open-clause-resolved : goal.returns-in-Open-clause-resolved
returns-in-Open-clause-resolved g c = λ resolves. absurd (c.in_ok-decision.ensures.resolved resolves c.in-Open.is)
