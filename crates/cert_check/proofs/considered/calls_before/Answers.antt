use Rattle.std.proofs.Common.{◌≡◌, ◌+◌, ◌-◌, ℕ, List, take, drop, reverse, ap, sym, subst, arith, ◌∙◌, length}
use Rattle.std.specs.Prelude.{filter}
use Rattle.std.proofs.lemmas.List.{drop_all, length-take}
use Rattle.order_causal.proofs.Fronts.{take-stands}
use Rattle.model_history.specs.History.{calls}
use Rattle.cert_check.specs.Certificates.{counted}
use Rattle.cert_check.specs.Schedules.{named}
use Rattle.cert_check.specs.Steps.Namings.{AreCountsAt}
use Rattle.cert_check.specs.Steps.Replays.{considered}
use Rattle.cert_check.proofs.ConsideredCalls.{more_behind, none_kept, pushed_behind, same_behind, settled_found}
use Rattle.cert_check.proofs.considered.calls_before.Goals as goal

pub returns-then-not-depends_on_any-clause-found : goal.returns-then-not-depends_on_any-clause-found
returns-then-not-depends_on_any-clause-found g c =
    let h = c.args.h.now in
    let asked = c.args.asked.now in
    let none = c.depends_on_any.ensures c.if-not-depends_on_any.true in
    ap (λ (xs : List _). g.O.SeqObject.answer h.0 xs asked)
    (c.new-found.ensures.items ∙ sym (none_kept (g.O.SeqObject.depends asked) none (calls h (filter (counted c.args.v.now c.args.of) (take c.args.place (named c.args.list.now))))))

pub returns-then-is_settled_by-clause-found : goal.returns-then-is_settled_by-clause-found
returns-then-is_settled_by-clause-found g c =
    let depends = g.O.SeqObject.depends in
    let h = c.args.h.now in
    let v = c.args.v.now in
    let o = c.args.of in
    let asked = c.args.asked.now in
    let ops = take c.args.place (named c.args.list.now) in
    let k = c.loop-at.at - 1 in
    let above = c.loop-at-test.true in
    let most = c.loop-at.invariant.0 in
    let again : c.loop-at.at ≡ k + 1 = omega arith in
    let there = take-stands c.args.place (named c.args.list.now) k c.back-next.result (omega arith) c.back-next.ensures.named in
    let found = c.loop-at.found.items in
    let behind = more_behind depends h v o asked ops k c.back-next.result c.in-Some.call found there c.in-Some.ensures
    (subst (λ (n : ℕ). reverse found ≡ considered depends h v o asked (drop n ops)) again c.loop-at.invariant.2) in
    settled_found depends h v o asked g.O.SeqObject.answer g.O.SeqObject.settles g.met.O.SeqObject.settled h.0 ops k c.in-Some.call found c.push.new.self.items _
    c.is_settled_by.result c.is_settled_by.ensures c.if-is_settled_by.true c.in_ok-push.ensures.items c.reverse.ensures.items behind

pub loop-at-preserved-else-is_settled_by : goal.loop-at-preserved-else-is_settled_by
loop-at-preserved-else-is_settled_by g c =
    let depends = g.O.SeqObject.depends in
    let h = c.args.h.now in
    let v = c.args.v.now in
    let o = c.args.of in
    let asked = c.args.asked.now in
    let ops = take c.args.place (named c.args.list.now) in
    let k = c.loop-at.at - 1 in
    let above = c.loop-at-test.true in
    let most = c.loop-at.invariant.0 in
    let again : c.loop-at.at ≡ k + 1 = omega arith in
    let there = take-stands c.args.place (named c.args.list.now) k c.back-next.result (omega arith) c.back-next.ensures.named in
    let found = c.loop-at.found.items in
    let behind = more_behind depends h v o asked ops k c.back-next.result c.in-Some.call found there c.in-Some.ensures
    (subst (λ (n : ℕ). reverse found ≡ considered depends h v o asked (drop n ops)) again c.loop-at.invariant.2) in (
      omega arith,
      subst (λ (n : ℕ). AreCountsAt c.args.list.now k n c.back-next.new.self.counts.items) c.loop-at.invariant.1.width c.back-next.ensures.counts,
      pushed_behind depends h v o asked ops k c.in-Some.call found c.push.new.self.items c.in_ok-push.ensures.items behind,
    )

pub loop-at-preserved : goal.loop-at-preserved
loop-at-preserved g c =
    let depends = g.O.SeqObject.depends in
    let h = c.args.h.now in
    let v = c.args.v.now in
    let o = c.args.of in
    let asked = c.args.asked.now in
    let ops = take c.args.place (named c.args.list.now) in
    let k = c.loop-at.at - 1 in
    let above = c.loop-at-test.true in
    let most = c.loop-at.invariant.0 in
    let again : c.loop-at.at ≡ k + 1 = omega arith in
    let there = take-stands c.args.place (named c.args.list.now) k c.back-next.result (omega arith) c.back-next.ensures.named in
    let found = c.loop-at.found.items in (
      omega arith,
      subst (λ (n : ℕ). AreCountsAt c.args.list.now k n c.back-next.new.self.counts.items) c.loop-at.invariant.1.width c.back-next.ensures.counts,
      same_behind depends h v o asked ops k c.back-next.result found there c.in_default.ensures
          (subst (λ (n : ℕ). reverse found ≡ considered depends h v o asked (drop n ops)) again c.loop-at.invariant.2),
    )

pub loop-at-init : goal.loop-at-init
loop-at-init g c =
    let ops = take c.args.place (named c.args.list.now) in
    let size = length-take c.args.place (named c.args.list.now) in
    let none = drop_all c.args.place ops (omega arith) in (
      omega arith,
      c.requires.counts,
      ap reverse c.new-found.ensures.items
          ∙ sym (ap (considered g.O.SeqObject.depends c.args.h.now c.args.v.now c.args.of c.args.asked.now) none),
    )

pub back-next-requires-clause-within : goal.back-next-requires-clause-within
back-next-requires-clause-within g c =
    let most = c.loop-at.invariant.0 in
    let above = c.loop-at-test.true in
    let within = c.requires.within in
    omega arith

pub back-next-requires-clause-counts : goal.back-next-requires-clause-counts
back-next-requires-clause-counts g c =
    let list = c.args.list.now in
    let k = c.loop-at.at - 1 in
    let above = c.loop-at-test.true in
    let most = c.loop-at.invariant.0 in
    let again : c.loop-at.at ≡ k + 1 = omega arith in
    let counts = c.loop-at.naming.counts.items in
    subst (λ (n : ℕ). AreCountsAt list n (length counts) counts) again
    (subst (λ (n : ℕ). AreCountsAt list c.loop-at.at n counts) (sym c.loop-at.invariant.1.width) c.loop-at.invariant.1)

pub considered_call-requires-clause-of : goal.considered_call-requires-clause-of
considered_call-requires-clause-of g c = λ _ _. c.requires.listed

pub considered_call-requires-clause-is_op : goal.considered_call-requires-clause-is_op
considered_call-requires-clause-is_op g c = λ _ _. c.requires.names.each (c.loop-at.at - 1) c.back-next.result c.back-next.ensures.named

pub returns-clause-found : goal.returns-clause-found
returns-clause-found g c =
    let h = c.args.h.now in
    let asked = c.args.asked.now in
    let ops = take c.args.place (named c.args.list.now) in
    let front : c.loop-at.at ≡ 0 = let none = c.if-at-gt0.false in omega arith in
    let all = subst (λ (n : ℕ). reverse c.loop-at.found.items ≡ considered g.O.SeqObject.depends h c.args.v.now c.args.of asked (drop n ops))
    front c.loop-at.invariant.2 in
    ap (λ (xs : List _). g.O.SeqObject.answer h.0 xs asked) (c.reverse-2.ensures.items ∙ all)

pub returns-then-at-gt0-clause-whole : goal.returns-then-at-gt0-clause-whole
returns-then-at-gt0-clause-whole g c = λ from. let past = c.loop-at-test.false in let above = c.if-at-gt0.true in absurd (omega arith)
