use Rattle.std.proofs.Common.{◌≡◌, List, [], ℕ, length, subst, ◌∙◌, arith}
use Rattle.order_causal.specs.Topological.{IsFullWalk}
use Rattle.cert_make_cc.proofs.CutWalks.{all_ends}
use Rattle.cert_make_cc.proofs.whole_walk.walk_of_all.Goals as goal

pub returns : goal.returns
returns g c =
    let v = c.args.vectors.now in
    let ends = c.loop-session.ends.items in
    let past = c.loop-session-test.false in
    let within = c.loop-session.auto.session-end in
    let count = c.sessions-session-end.ensures.count in
    let size = c.loop-session.invariant.0 in
    let all : c.loop-session.session ≡ length c.args.h.now.1 = omega arith in
    record {
      ends = ends;
      all = all_ends c.args.h.now v c.requires.shape.one_each ends (size ∙ all) (λ s below. c.loop-session.invariant.1 s (rw all below));
      full = subst (λ (xs : List ℕ). IsFullWalk v xs [] c.run_to.new.self) c.deref.ensures.value
          (subst (λ (xs : List ℕ). IsFullWalk v c.deref.result.now xs c.run_to.new.self) c.new-walk.ensures c.in_ok-run_to.ensures.rule);
    }
