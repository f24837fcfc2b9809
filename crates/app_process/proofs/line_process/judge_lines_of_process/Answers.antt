-- The lines end as the outcome says, with what is known of the reader.
use Rattle.std.proofs.Common.{ap}
use Rattle.std.specs.Option.{option_copied}
use Rattle.app_process.proofs.EndLaws.{ends_lines}
use Rattle.app_process.proofs.line_process.judge_lines_of_process.Goals as goal

pub returns : goal.returns
returns g c =
    let judged = c.judge_noticed-reader in
    ends_lines (option_copied c.args.place.now.label) c.args.judging _ _ _ _ _ _ _ judged.result.2 _ _ judged.ensures.answered
    judged.ensures.faulted judged.ensures.error judged.ensures.blamed judged.ensures.noticed c.of-reader.ensures.noticed
    (ap g.R.Source.remaining c.of-reader.ensures.reader) c.say_outcome-status.ensures
