use Rattle.std.proofs.Common.{◌≡◌, ℕ, subst, ⊎_elim}
use Rattle.std.specs.Prelude.{IfSome, List, Option}
use Rattle.live_case_board.specs.declared.answer.Answer.TheVariants.{Yes}
use Rattle.log_choices.specs.Choices.{IsChoice, IsWhole}
use Rattle.log_choices.specs.ChoiceTables.{choice_in}
use Rattle.log_choices.specs.ChosenCriteria.{LogMeets}
use Rattle.log_choices.specs.declared.seen.Seen.{Seen}
use Rattle.app_findings.specs.Findings.{answer_for}
use Rattle.show_log_names.specs.Witnesses.{witness_for}
use Rattle.show_log_names.specs.declared.witnesses.Witness.TheVariants.{Found}
use Rattle.app_logs.proofs.witnesses.with_walk.Goals as goal

pub returns-clause-found : goal.returns-clause-found
returns-clause-found g c =
    let es = c.args.log.now.log.now in let in_time = c.args.log.now.in_time in
    let choice = subst (λ (o : Option (List (ℕ × Seen))). IfSome o (λ table. IsChoice in_time es (choice_in table))) c.in-Some.is c.in_ok-saw.ensures.choice in
    let whole = subst (λ (o : Option (List (ℕ × Seen))). IfSome o (λ table. IsWhole es (choice_in table))) c.in-Some.is c.in_ok-saw.ensures.whole in
    λ criterion found. ⊎_elim
    {C = LogMeets in_time es criterion}
    (λ (known : witness_for c.args.witnesses criterion ≡ Found). c.requires.known criterion known)
    (λ (yes : answer_for c.in_ok-report.report criterion ≡ Yes).
    c.a_yes_by_every_read_is_a_yes.ensures in_time es _ _ c.in_ok-report.ensures.report choice whole criterion yes)
    (c.known_after-known.ensures criterion found)
