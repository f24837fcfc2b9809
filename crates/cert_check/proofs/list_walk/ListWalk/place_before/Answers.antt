use Rattle.std.proofs.Common.{◌≡◌, ℕ, [], get_or, subst, arith}
use Rattle.cert_check.specs.Steps.Namings.{AreCountsAt}
use Rattle.cert_check.proofs.list_walk.ListWalk.place_before.Goals as goal

pub returns-then-has_named-clause-before : goal.returns-then-has_named-clause-before
returns-then-has_named-clause-before c =
    let front = c.clear.ensures [] in
    let none : get_or c.clear.new.self.counts.items c.args.op.session 0 ≡ 0 = front.each c.args.op.session in
    omega arith

pub returns-then-has_named-clause-counts : goal.returns-then-has_named-clause-counts
returns-then-has_named-clause-counts c = λ list n at.
    subst (λ (m : ℕ). AreCountsAt list 0 m c.clear.new.self.counts.items) at.width (c.clear.ensures list)
