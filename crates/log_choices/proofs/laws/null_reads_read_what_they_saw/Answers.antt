use Rattle.log_choices.proofs.ChosenReads.{saw_delete-reads, saw_start-reads}
use Rattle.log_choices.proofs.laws.null_reads_read_what_they_saw.Goals as goal

pub returns : goal.returns
returns c = record { of_delete = saw_delete-reads; of_start = saw_start-reads }
