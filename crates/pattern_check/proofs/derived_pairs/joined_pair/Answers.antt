use Rattle.std.proofs.Common.{sym, ◌∙◌}
use Rattle.cert_check.proofs.ConvergentLaws.{only-same}
use Rattle.pattern_check.proofs.Derived.{joined, joined-ends, only-apart}
use Rattle.pattern_check.proofs.derived_pairs.joined_pair.Goals as goal

pub returns-then-eq : goal.returns-then-eq
returns-then-eq c =
    joined c.args.pairs.now c.args.i c.in-Some-Some.first (sym c.pair_at.ensures ∙ c.in-Some-Some.is-0) c.args.j c.in-Some-Some.second
    (sym c.pair_at-2.ensures ∙ c.in-Some-Some.is-1) (only-same c.in-Some-Some.second.0 c.in-Some-Some.first.1 (sym c.eq.ensures ∙ c.if-eq.true))

pub returns-else-eq : goal.returns-else-eq
returns-else-eq c = λ a b gives.
    only-apart c.in-Some-Some.second.0 c.in-Some-Some.first.1 (sym c.eq.ensures ∙ c.if-eq.false)
    (joined-ends c.args.pairs.now c.args.i c.in-Some-Some.first (sym c.pair_at.ensures ∙ c.in-Some-Some.is-0) c.args.j c.in-Some-Some.second
    (sym c.pair_at-2.ensures ∙ c.in-Some-Some.is-1) a b gives)
