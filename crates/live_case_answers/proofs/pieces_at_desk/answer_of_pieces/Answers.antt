use Rattle.std.proofs.Common.{subst, Option, Some}
use Rattle.std.specs.Prelude.{MatchOption}
use Rattle.model_history.specs.declared.op_id.OpId.{OpId}
use Rattle.live_case_board.specs.declared.answer.Answer.TheVariants.{Yes, Unknown}
use Rattle.cert_check.specs.Certificates.{IsExplainedThroughout, IsFirstUnexplained}
use Rattle.live_case_answers.proofs.DeskLaws.{said-of_file, some-is}
use Rattle.live_case_answers.proofs.pieces_at_desk.answer_of_pieces.Goals as goal

pub returns-in-None-clause-said : goal.returns-in-None-clause-said
returns-in-None-clause-said g c =
    let answer = g.O.SeqObject.answer in
    let file = c.args.file.now in
    let some = some-is file.2 c.requires in
    said-of_file answer file Yes some.0 some.1
    (subst (λ (first : Option OpId). MatchOption first (IsExplainedThroughout answer file.0 some.0) (IsFirstUnexplained answer file.0 some.0))
    c.in-None.is (c.in_ok-first_unexplained.ensures.first some.0 some.1))

pub returns-in-Some-clause-said : goal.returns-in-Some-clause-said
returns-in-Some-clause-said g c =
    let answer = g.O.SeqObject.answer in
    let file = c.args.file.now in
    let some = some-is file.2 c.requires in
    said-of_file answer file (Unknown (Some c.in-Some.op)) some.0 some.1
    (subst (λ (first : Option OpId). MatchOption first (IsExplainedThroughout answer file.0 some.0) (IsFirstUnexplained answer file.0 some.0))
    c.in-Some.is (c.in_ok-first_unexplained.ensures.first some.0 some.1))
