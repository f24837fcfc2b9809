-- The bytes that were looked at, and those after them, are those of the input.
use Rattle.std.proofs.Common.{List, ap, ◌∙◌, ℕ}
use Rattle.std.specs.Io.KnownBytes.{prepend_known}
use Rattle.app_process.specs.Faults.{ReadingFails, WritingFails, most_ahead}
use Rattle.app_process.proofs.FaultLaws.{ahead_fails}
use Rattle.app_process.proofs.FileLaws.{looked_at, misused}
use Rattle.app_process.proofs.file_inputs.status_after.Goals as goal

pub returns-in-Some : goal.returns-in-Some
returns-in-Some g c =
    let rest = g.R.Source.remaining c.args.reader in
    let known = ap (λ s. prepend_known s.now (g.R.Source.remaining c.of-reader.result.reader)) c.of-reader.ensures.bytes
    ∙ (ap (λ r. prepend_known c.as_slice.result.now (g.R.Source.remaining r)) c.of-reader.ensures.reader
    ∙ ap (λ b. prepend_known b rest) c.as_slice.ensures.value) in
    looked_at (ReadingFails most_ahead g.R.Source.called) (WritingFails g.W.Sink.called) _ c.args.given.now.terminals _ c.args.first.sight c.in-Some.asked _ _ _ _ _ _ _ _ c.requires.looks c.requires.seen c.requires.terminal
    known (ahead_fails g.R.Source.called (λ s. s.reader) (λ s. s.spare)) c.in-Some.ensures c.status_of_asked.ensures

pub returns : goal.returns
returns g c =
    misused (ReadingFails most_ahead g.R.Source.called) (WritingFails g.W.Sink.called) _ c.args.given.now.terminals _ c.args.first.sight _ _ _ _ _ _ c.requires.looks c.requires.seen c.status_of_usage-status.ensures
