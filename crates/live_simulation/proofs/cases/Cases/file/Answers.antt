use Rattle.live_simulation.proofs.FileSteps.{file_mismatch, file_full, file_done, fits_of, added_of, room_of}
use Rattle.std.specs.Prelude.{length}
use Rattle.live_simulation.proofs.cases.Cases.file.Goals as goal

pub returns-in-Err : goal.returns-in-Err
returns-in-Err g c = file_mismatch g.O.SeqObject.answer g.O.Refutable.passes c.args.self.now c.args.history c.args.criterion c.args.certificate c.in-Err.ensures.refused.1

pub returns-then-is_full : goal.returns-then-is_full
returns-then-is_full g c =
    file_full g.O.SeqObject.answer g.O.Refutable.passes c.args.self.now c.args.history c.args.criterion c.args.certificate
    (fits_of c.in-Ok.file (c.args.history, c.args.criterion, c.args.certificate) c.in-Ok.ensures.made c.certificate-certificate.ensures.is_case_file) (c.is_full.ensures.0 c.if-is_full.true)

pub returns-in_ok-add-in-Ok : goal.returns-in_ok-add-in-Ok
returns-in_ok-add-in-Ok g c =
    file_done g.O.SeqObject.answer g.O.Refutable.passes c.args.self.now c.args.history c.args.criterion c.args.certificate c.filed-number.result c.add.new.self
    (fits_of c.in-Ok.file (c.args.history, c.args.criterion, c.args.certificate) c.in-Ok.ensures.made c.certificate-certificate.ensures.is_case_file)
    (room_of (length c.args.self.now.board) c.is_full.result c.if-is_full.false c.is_full.ensures) c.filed-number.ensures
    (added_of c.in-Ok.file (c.args.history, c.args.criterion, c.args.certificate) c.in-Ok.ensures.made c.args.self.now c.add.new.self c.in_ok-add-in-Ok.ensures)
