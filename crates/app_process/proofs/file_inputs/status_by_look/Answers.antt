-- The bytes that were looked at are those of the input, with what its reader still has.
use Rattle.std.proofs.Common.{List, Option, ap, subst, ℕ}
use Rattle.std.specs.Io.KnownBytes.{Consumes}
use Rattle.app_process.specs.Faults.{ReadingFails, WritingFails, most_ahead}
use Rattle.app_process.proofs.FaultLaws.{inner_fails, more_ahead}
use Rattle.app_process.proofs.FileLaws.{not_looked_at, read_again}
use Rattle.app_process.proofs.file_inputs.status_by_look.Goals as goal

pub returns-in-Ok : goal.returns-in-Ok
returns-in-Ok g c =
    let rest = g.R.Source.remaining c.look.new.reader.reader in
    let P : Option (List ℕ) → Type 0 = λ known. Consumes known rest c.in-Ok.first.bytes.items in
    let consumed = subst P (ap g.R.Source.remaining c.by-reader.ensures) c.in-Ok.ensures.bytes in
    read_again (ReadingFails most_ahead g.R.Source.called) (WritingFails g.W.Sink.called) _ c.args.given.now.terminals _ (g.R.Source.remaining c.args.reader) rest _ _ _ _ c.in-Ok.first.bytes.items _
    (inner_fails g.R.Source.called (λ s. s.reader) most_ahead) consumed c.status_after.ensures

pub returns-in-Err : goal.returns-in-Err
returns-in-Err g c =
    not_looked_at (ReadingFails most_ahead g.R.Source.called) (WritingFails g.W.Sink.called) _ c.args.given.now.terminals _ _ c.in-Err.fault
    (g.R.Source.remaining c.args.reader) _ _ _ _
    (λ fails. more_ahead g.R.Source.called (inner_fails g.R.Source.called (λ s. s.reader) 0 fails)) c.in-Err.ensures.fault c.say_unlooked-status.ensures
