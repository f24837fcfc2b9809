use Rattle.std.proofs.Common.{◌<◌, ℕ, List, length, get_or, ap, arith, ◌∙◌, eqb-true, eq-eqb, refl, []}
use Rattle.model_history.specs.declared.op_id.OpId.{OpId}
use Rattle.order_causal.specs.Orders.{op}
use Rattle.order_causal.specs.Vectors.{list_of}
use Rattle.order_causal.specs.Schedules.{placed}
use Rattle.order_causal.proofs.Walked.{seen-more, can-from, can-all}
use Rattle.order_causal.proofs.topological.Walk.can_go_on.Goals as goal

pub first_missing-missing-requires : goal.first_missing-missing-requires
first_missing-missing-requires c =
    let index = get_or c.self.inside.placed c.args.session 0 in
    let there : index < length (get_or c.args.vectors.now c.args.session []) = omega arith in
    let size = c.requires.square (op c.args.session index) there in
    let read = ap (λ (xs : List ℕ). length xs) c.get-counts.ensures in
    let same = ap (λ (o : OpId). length (list_of c.args.vectors.now o)) c.at-op.ensures in
    omega arith

pub returns-clause-seen : goal.returns-clause-seen
returns-clause-seen c =
    let index = c.self.invariant.each c.args.session ∙ ap (λ (xs : List ℕ). placed xs c.args.session) c.self.view_is in
    let read =
    c.get-counts.ensures ∙ ap (λ (o : OpId). list_of c.args.vectors.now o) c.at-op.ensures
    ∙ ap (λ (n : ℕ). list_of c.args.vectors.now (op c.args.session n)) index in
    seen-more c.args.vectors.now c.args.self.now c.args.session c.get-counts.result.now read c.args.seen.now c.requires.seen _
    c.first_missing-missing.result refl c.first_missing-missing.ensures.seen

pub returns-clause-can : goal.returns-clause-can
returns-clause-can c =
    let index = c.self.invariant.each c.args.session ∙ ap (λ (xs : List ℕ). placed xs c.args.session) c.self.view_is in
    let read =
    c.get-counts.ensures ∙ ap (λ (o : OpId). list_of c.args.vectors.now o) c.at-op.ensures
    ∙ ap (λ (n : ℕ). list_of c.args.vectors.now (op c.args.session n)) index in
    let found = c.first_missing-missing.ensures in
    let there : placed c.args.self.now c.args.session < length (get_or c.args.vectors.now c.args.session []) = omega arith in
    let below : placed c.args.self.now c.args.session < get_or c.args.limits.now c.args.session 0 = omega arith in (
      (λ all. can-from c.args.vectors.now c.args.self.now c.args.session c.get-counts.result.now read c.args.limits.now c.args.seen.now
          c.requires.seen _ c.first_missing-missing.result refl found.seen there below (eqb-true _ _ all)),
      λ can. eq-eqb _ _ (can-all c.args.vectors.now c.args.self.now c.args.session c.get-counts.result.now read c.args.limits.now
          c.first_missing-missing.result found.bound found.missing found.not_placed can),
    )
