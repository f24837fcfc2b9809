use Rattle.log_reader.proofs.NameLaws.{names_tell}
use Rattle.log_reader.proofs.laws.names_tell_values.Goals as goal

pub returns : goal.returns
returns c = names_tell
