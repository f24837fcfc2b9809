use Rattle.std.proofs.Common.{List, ℕ, subst}
use Rattle.std.proofs.lemmas.Result.{on_ok_weaker}
use Rattle.order_causal.specs.Topological.{IsFullWalk}
use Rattle.cert_make_cc.proofs.CutsGoOn.{behind-push, cut_behind}
use Rattle.cert_make_cc.specs.Steps.Cuts.{IsCut}
use Rattle.cert_make_cc.proofs.cutting.Cutting.run_behind.Goals as goal

pub returns-clause-cut : goal.returns-clause-cut
returns-clause-cut c = λ whole cut.
    let walk : List ℕ = c.args.self.now.walk in
    let limits : List ℕ = c.args.self.now.limits.items in
    let starts : List ℕ = c.args.self.now.starts.items in
    let longer : List ℕ = c.run_to.new.self in
    on_ok_weaker {P = IsFullWalk c.args.vectors.now c.args.limits.now c.place.new.self longer} {Q = IsCut whole limits starts longer} c.run_to.result
    (λ full.
    let grown = subst (λ (xs : List ℕ). IsFullWalk c.args.vectors.now c.args.limits.now xs longer) c.in_ok-place.ensures.ok full in
    cut_behind whole limits starts walk cut longer (behind-push walk longer c.args.session grown.walk.extends))
    c.run_to.ensures.rule
