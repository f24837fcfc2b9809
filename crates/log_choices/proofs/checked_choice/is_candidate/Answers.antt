use Rattle.std.proofs.Common.{sym, subst}
use Rattle.log_choices.specs.Choices.{IsCandidate}
use Rattle.log_choices.specs.ChoiceTables.{seen_of}
use Rattle.log_choices.specs.declared.seen.Seen.{Seen}
use Rattle.log_choices.proofs.CheckedChoices.{listed-delete}
use Rattle.log_choices.proofs.checked_choice.is_candidate.Goals as goal

pub returns-then-is_possible : goal.returns-then-is_possible
returns-then-is_possible c =
    let es = c.args.timed.now.log.now in
    let read = c.args.read in
    λ yes. let (d, there, key, place) = c.has_delete.ensures yes in
    subst (λ (s : Seen). IsCandidate c.args.timed.now.in_time es read.key read.end (seen_of s)) (sym c.in-Delete.is) (
      listed-delete es c.args.deletes.now d read.key c.in-Delete.place c.requires.deletes there key place,
      c.is_possible.ensures.possible c.if-is_possible.true,
    )
