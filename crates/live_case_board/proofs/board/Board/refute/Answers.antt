use Rattle.std.proofs.Common.{◌<◌, ◌≤◌, arith, length, sym, subst, ◌∙◌}
use Rattle.std.proofs.lemmas.List.{length-set}
use Rattle.live_case_board.specs.Boards.{refuted}
use Rattle.live_case_board.specs.declared.board.TheConstants.{MAX_CASES}
use Rattle.live_case_board.proofs.Due.{refute_is_filed}
use Rattle.live_case_board.proofs.InPlace.{changed_in_place}
use Rattle.live_case_board.proofs.board.Board.refute.Goals as goal

pub index_mut-requires : goal.index_mut-requires
index_mut-requires g c =
    let accepted = sym c.refute_refusal.ensures ∙ c.in_default.is in
    let filed = refute_is_filed g.M.Mark.place c.args.self.now c.args.number c.args.mark.now c.args.passes accepted in
    let inside = subst (λ cs. c.args.number < length cs) (sym c.self.view_is) filed in
    omega arith

pub invariant_of-self : goal.invariant_of-self
invariant_of-self g c = (
  c.self.invariant.0,
  subst (λ n. n ≤ MAX_CASES) (sym (length-set c.self.inside.cases.items c.args.number c.refute.new.self)) c.self.invariant.1,
)

pub returns-in-Some-clause-refused : goal.returns-in-Some-clause-refused
returns-in-Some-clause-refused g c = sym c.refute_refusal.ensures ∙ c.in-Some.is

pub returns-clause-accepted : goal.returns-clause-accepted
returns-clause-accepted g c = sym c.refute_refusal.ensures ∙ c.in_default.is

pub returns-clause-refuted : goal.returns-clause-refuted
returns-clause-refuted g c =
    changed_in_place c.self.inside.cases.items c.args.self.now c.args.number c.index_mut.result.now c.self.view_is c.index_mut.ensures.value
    (λ s. refuted s c.args.pattern) c.refute.new.self c.refute.ensures
