-- An option and its value say something where the value is one that the option takes.
use Rattle.app_command_line.proofs.SettingWords.{no_all_together, no_color_together, no_every_together, no_expect_together, no_reads_together, no_seals_together, no_stop_together, no_together, no_workers_together, none_said}
use Rattle.app_command_line.proofs.settings.setting_together.Goals as goal

pub returns-in_ok-seals_in-in-text : goal.returns-in_ok-seals_in-in-text
returns-in_ok-seals_in-in-text c = (c.in-text.is, c.in_ok-seals_in-in-text.ensures.0, c.in_ok-seals_in-in-text.ensures.1)

pub returns-in_ok-expected_in-in-text-3 : goal.returns-in_ok-expected_in-in-text-3
returns-in_ok-expected_in-in-text-3 c = (c.in-text-3.is, c.in_ok-expected_in-in-text-3.ensures)

pub returns-in_ok-listed_in-in-text-4 : goal.returns-in_ok-listed_in-in-text-4
returns-in_ok-listed_in-in-text-4 c = (c.in-text-4.is, c.in_ok-listed_in-in-text-4.ensures.0, c.in_ok-listed_in-in-text-4.ensures.1)

pub returns-in_ok-every_in-in-text-5 : goal.returns-in_ok-every_in-in-text-5
returns-in_ok-every_in-in-text-5 c = (c.in-text-5.is, c.in_ok-every_in-in-text-5.ensures.0, c.in_ok-every_in-in-text-5.ensures.1)

pub returns-in_ok-session_in-in-text-6 : goal.returns-in_ok-session_in-in-text-6
returns-in_ok-session_in-in-text-6 c = (c.in-text-6.is, c.in_ok-session_in-in-text-6.ensures.0, c.in_ok-session_in-in-text-6.ensures.1)

pub returns-in_err-seals_in-in-text : goal.returns-in_err-seals_in-in-text
returns-in_err-seals_in-in-text c =
    none_said c.args.word.now c.args.value.now c.from_residual.result c.from_residual.ensures
    (no_seals_together c.args.word.now c.args.value.now c.in-text.is c.in_err-seals_in-in-text.ensures)

pub returns-in_err-workers_in-in-text-2 : goal.returns-in_err-workers_in-in-text-2
returns-in_err-workers_in-in-text-2 c =
    none_said c.args.word.now c.args.value.now c.from_residual-in_err-workers_in-in-text-2.result c.from_residual-in_err-workers_in-in-text-2.ensures
    (no_workers_together c.args.word.now c.args.value.now c.in-text-2.is c.in_err-workers_in-in-text-2.ensures)

pub returns-in_err-expected_in-in-text-3 : goal.returns-in_err-expected_in-in-text-3
returns-in_err-expected_in-in-text-3 c =
    none_said c.args.word.now c.args.value.now c.from_residual-in_err-expected_in-in-text-3.result c.from_residual-in_err-expected_in-in-text-3.ensures
    (no_expect_together c.args.word.now c.args.value.now c.in-text-3.is c.in_err-expected_in-in-text-3.ensures)

pub returns-in_err-listed_in-in-text-4 : goal.returns-in_err-listed_in-in-text-4
returns-in_err-listed_in-in-text-4 c =
    none_said c.args.word.now c.args.value.now c.from_residual-in_err-listed_in-in-text-4.result c.from_residual-in_err-listed_in-in-text-4.ensures
    (no_all_together c.args.word.now c.args.value.now c.in-text-4.is c.in_err-listed_in-in-text-4.ensures)

pub returns-in_err-every_in-in-text-5 : goal.returns-in_err-every_in-in-text-5
returns-in_err-every_in-in-text-5 c =
    none_said c.args.word.now c.args.value.now c.from_residual-in_err-every_in-in-text-5.result c.from_residual-in_err-every_in-in-text-5.ensures
    (no_every_together c.args.word.now c.args.value.now c.in-text-5.is c.in_err-every_in-in-text-5.ensures)

pub returns-in_err-session_in-in-text-6 : goal.returns-in_err-session_in-in-text-6
returns-in_err-session_in-in-text-6 c =
    none_said c.args.word.now c.args.value.now c.from_residual-in_err-session_in-in-text-6.result c.from_residual-in_err-session_in-in-text-6.ensures
    (no_stop_together c.args.word.now c.args.value.now c.in-text-6.is c.in_err-session_in-in-text-6.ensures)

pub returns-in_ok-reads_in-in-text-7 : goal.returns-in_ok-reads_in-in-text-7
returns-in_ok-reads_in-in-text-7 c = (c.in-text-7.is, c.in_ok-reads_in-in-text-7.ensures.0, c.in_ok-reads_in-in-text-7.ensures.1)

pub returns-in_ok-coloring_in-in-text-8 : goal.returns-in_ok-coloring_in-in-text-8
returns-in_ok-coloring_in-in-text-8 c = (c.in-text-8.is, c.in_ok-coloring_in-in-text-8.ensures)

pub returns-in_err-reads_in-in-text-7 : goal.returns-in_err-reads_in-in-text-7
returns-in_err-reads_in-in-text-7 c =
    none_said c.args.word.now c.args.value.now c.from_residual-in_err-reads_in-in-text-7.result c.from_residual-in_err-reads_in-in-text-7.ensures
    (no_reads_together c.args.word.now c.args.value.now c.in-text-7.is c.in_err-reads_in-in-text-7.ensures)

pub returns-in_err-coloring_in-in-text-8 : goal.returns-in_err-coloring_in-in-text-8
returns-in_err-coloring_in-in-text-8 c =
    none_said c.args.word.now c.args.value.now c.from_residual-in_err-coloring_in-in-text-8.result c.from_residual-in_err-coloring_in-in-text-8.ensures
    (no_color_together c.args.word.now c.args.value.now c.in-text-8.is c.in_err-coloring_in-in-text-8.ensures)

pub returns-in_default : goal.returns-in_default
returns-in_default c =
    no_together c.args.word.now c.args.value.now c.in_default.not-text c.in_default.not-text-2 c.in_default.not-text-3 c.in_default.not-text-6
    c.in_default.not-text-4 c.in_default.not-text-5 c.in_default.not-text-7 c.in_default.not-text-8 c.in_default.not-text-9
