-- One file more was carried out.
use Rattle.app_process.proofs.FileLaws.{so_far_more}
use Rattle.app_process.proofs.file_inputs.status_of_each.Goals as goal

pub files-preserved : goal.files-preserved
files-preserved g c =
    rw c.worse-worst.ensures
    (so_far_more _ _ _ _ _ c.args.all.now.terminals c.args.all.now.is_many _ _ _ _ _ _ _ _ _ _ _ _ c.files.invariant
    c.status_on_file-written.ensures c.in-Some-next_file.ensures)
