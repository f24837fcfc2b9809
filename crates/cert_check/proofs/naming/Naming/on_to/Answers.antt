use Rattle.std.proofs.Common.{◌≡◌, ℕ, List, [], length, get_or, ap, sym, subst, take_all, arith, ◌∙◌}
use Rattle.std.specs.Prelude.{IsTrue}
use Rattle.std.proofs.lemmas.Bool.{some_since, both_ways}
use Rattle.std.proofs.lemmas.Option.{MatchOption-at_some, slice_get-get_or}
use Rattle.model_history.specs.declared.op_id.OpId.{OpId}
use Rattle.order_causal.specs.Orders.{StandsAt, only}
use Rattle.order_causal.specs.Schedules.{placed}
use Rattle.cert_check.specs.Schedules.{named}
use Rattle.cert_check.proofs.ConvergentLaws.{only-same}
use Rattle.cert_check.proofs.CutSteps.{not_named_yet}
use Rattle.cert_check.proofs.NamingSteps.{counting, named_here}
use Rattle.cert_check.proofs.Pasts.{only-itself}
use Rattle.cert_check.proofs.ReplaySteps.{names_next}
use Rattle.cert_check.proofs.naming.Naming.on_to.Goals as goal

pub unwrap-requires : goal.unwrap-requires
unwrap-requires g c =
    let i = c.loop-place.place in
    let list = c.args.list.now in
    let here = slice_get-get_or list i 0 c.loop-place-test.true in
    some_since c.name_next.result _ _ c.name_next.ensures.next (λ none. none.0
    (names_next c.args.h.now list c.requires.names i (length c.args.h.now.1) (get_or list i 0) here
    c.loop-place.self.counts.items c.loop-place.invariant.0))

pub returns-then-eq-clause-place : goal.returns-then-eq-clause-place
returns-then-eq-clause-place g c =
    let i = c.loop-place.place in
    let h = c.args.h.now in
    let list = c.args.list.now in
    let here = slice_get-get_or list i 0 c.loop-place-test.true in
    let next = MatchOption-at_some _ _ c.unwrap.result c.unwrap.ensures c.name_next.ensures.next in
    let is : c.unwrap.result ≡ c.args.op = only-same c.args.op c.unwrap.result (sym c.eq.ensures ∙ c.if-eq.true) in
    subst (λ (o : OpId). StandsAt (named list) i o) is
    (named_here h [] list i (get_or list i 0) here c.loop-place.self.counts.items c.loop-place.invariant.0 c.unwrap.result next.0 next.1 c.name_next.new.self.counts.items next.2)

pub loop-place-preserved : goal.loop-place-preserved
loop-place-preserved g c =
    let i = c.loop-place.place in
    let h = c.args.h.now in
    let list = c.args.list.now in
    let here = slice_get-get_or list i 0 c.loop-place-test.true in
    let counts = c.loop-place.self.counts.items in
    let at = c.loop-place.invariant.0 in
    let next = MatchOption-at_some _ _ c.unwrap.result c.unwrap.ensures c.name_next.ensures.next in (
      counting h [] list i (get_or list i 0) here counts at c.unwrap.result next.0 next.1 c.name_next.new.self.counts.items next.2,
      not_named_yet list i (length h.1) (get_or list i 0) here counts at c.args.op (λ same.
          both_ways c.eq.result c.if-eq.false (c.eq.ensures ∙ subst (λ (o : OpId). IsTrue (only c.args.op o)) (sym (next.0 ∙ same)) (only-itself c.args.op))) c.loop-place.invariant.1,
    )

pub loop-place-init : goal.loop-place-init
loop-place-init g c =
    let counted = c.requires.counts.each c.args.op.session in
    let behind = c.requires.behind in
    (c.requires.counts, omega arith)

pub name_next-requires-after_bounds : goal.name_next-requires-after_bounds
name_next-requires-after_bounds g c = λ _ _. c.loop-place.invariant.0.width

pub returns-then-eq-clause-within : goal.returns-then-eq-clause-within
returns-then-eq-clause-within g c = c.loop-place-test.true

pub returns-then-eq-clause-counts : goal.returns-then-eq-clause-counts
returns-then-eq-clause-counts g c =
    let i = c.loop-place.place in
    let list = c.args.list.now in
    let here = slice_get-get_or list i 0 c.loop-place-test.true in
    let next = MatchOption-at_some _ _ c.unwrap.result c.unwrap.ensures c.name_next.ensures.next in
    counting c.args.h.now [] list i (get_or list i 0) here c.loop-place.self.counts.items c.loop-place.invariant.0 c.unwrap.result next.0 next.1 c.name_next.new.self.counts.items next.2

pub unreachable-requires : goal.unreachable-requires
unreachable-requires g c =
    let some = c.requires.named in
    let up_to = c.loop-place.invariant.1 in
    let whole = ap (λ (xs : List ℕ). placed xs c.args.op.session) (take_all c.loop-place.place c.args.list.now (omega arith)) in
    omega arith
