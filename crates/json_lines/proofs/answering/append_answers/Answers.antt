use Rattle.std.proofs.Common.{◌≡◌, ◌++◌, ℕ, List, length, rules, subst, sym}
use Rattle.json_lines.specs.declared.outcome.Outcome.{Outcome}
use Rattle.json_lines.specs.declared.outcome.Outcome.TheVariants.{Met}
use Rattle.json_lines.specs.Lines.{Front, ended, lines_of}
use Rattle.json_lines.proofs.AnswerLaws.{front-done, front-one, front-start}
use Rattle.json_lines.proofs.LineLaws.{no_line}
use Rattle.json_lines.proofs.answering.append_answers.Goals as goal

pub loop-rest-init : goal.loop-rest-init
loop-rest-init g c =
    let says = g.C.LineHandler.says c.args.handler.now in
    let all = lines_of c.args.bytes.now in
    subst (λ (text : List ℕ). Front says all all text Met) (sym c.requires) (front-start says all)

pub loop-rest-preserved : goal.loop-rest-preserved
loop-rest-preserved g c =
    let says = g.C.LineHandler.says c.args.handler.now in
    let all = lines_of c.args.bytes.now in
    let rest = lines_of c.first_line.result.1.now in
    let said = c.in_ok-one.ensures.answered in
    let front = subst (λ (lines : List (List ℕ)). Front says all lines c.loop-rest.text.items c.loop-rest.outcome) c.first_line.ensures.lines c.loop-rest.invariant in
    subst (λ (text : List ℕ). Front says all rest text c.worse-outcome.result) (sym said.2)
    (subst (λ (outcome : Outcome). Front says all rest (c.loop-rest.text.items ++ ended said.0) outcome) (sym c.worse-outcome.ensures)
    (front-one says all c.first_line.result.0.now rest c.loop-rest.text.items said.0 c.loop-rest.outcome c.in_ok-one.one front said.1))

pub returns-clause-all : goal.returns-clause-all
returns-clause-all g c =
    let says = g.C.LineHandler.says c.args.handler.now in
    let all = lines_of c.args.bytes.now in
    let none : length c.loop-rest.rest.now ≡ 0 = search rules in
    front-done says all c.loop-rest.text.items c.loop-rest.outcome
    (subst (λ (lines : List (List ℕ)). Front says all lines c.loop-rest.text.items c.loop-rest.outcome) (no_line c.loop-rest.rest.now none) c.loop-rest.invariant)
