use Rattle.std.proofs.Common.{◌∙◌, sym}
use Rattle.model_objects.proofs.RegisterLemmas.{last_written-push, last_written-read}
use Rattle.model_objects.proofs.register.RegisterSeqObject.apply.Goals as goal

pub returns-in-Write-clause-takes_in : goal.returns-in-Write-clause-takes_in
returns-in-Write-clause-takes_in c = λ s cs so_far. rw c.in-Write.is (sym (last_written-push s cs c.in-Write.value))

pub returns-in-Read-clause-takes_in : goal.returns-in-Read-clause-takes_in
returns-in-Read-clause-takes_in c = λ s cs so_far. rw c.in-Read.is (so_far ∙ sym (last_written-read s cs))
