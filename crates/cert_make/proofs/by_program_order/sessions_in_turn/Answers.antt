use Rattle.cert_make.specs.ByProgramOrder.{in_turn}
use Rattle.std.proofs.Common.{◌≡◌, ℕ, suc, ◌+◌, ◌++◌, List, ap, arith, length, replicate, subst, sym, ◌∙◌}
use Rattle.cert_make.proofs.by_program_order.sessions_in_turn.Goals as goal

pub loop-session-init : goal.loop-session-init
loop-session-init g c = c.new-list.ensures.items

pub loop-session-preserved : goal.loop-session-preserved
loop-session-preserved g c =
    let h = c.args.h.now in
    let s = c.loop-session.session in
    let next : s + 1 ≡ suc s = omega arith in
    c.in_ok-push_repeated.ensures ∙ ap (λ (xs : List ℕ). xs ++ replicate c.len.result s) c.loop-session.invariant
    ∙ ap (λ (n : ℕ). in_turn h s ++ replicate n s) c.len.ensures.count ∙ sym (ap (λ (n : ℕ). in_turn h n) next)

pub returns : goal.returns
returns g c =
    let ended : c.loop-session.session ≡ length c.args.h.now.1 = let all = c.sessions-session-end.ensures.count in omega arith in
    subst (λ (n : ℕ). c.loop-session.list.items ≡ in_turn c.args.h.now n) ended c.loop-session.invariant
