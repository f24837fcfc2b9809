-- Words that name a file first name one where the rest names none, and else several.
use Rattle.app_process.proofs.NamedFiles.{names_one, names_several}
use Rattle.app_process.proofs.file_inputs.has_several.Goals as goal

pub returns-in-Some-next_file : goal.returns-in-Some-next_file
returns-in-Some-next_file c = names_several _ _ _ _ _ c.in-Some.ensures c.in-Some-next_file.ensures

pub returns-in-None-next_file : goal.returns-in-None-next_file
returns-in-None-next_file c = names_one _ _ _ c.in-Some.ensures c.in-None-next_file.ensures
