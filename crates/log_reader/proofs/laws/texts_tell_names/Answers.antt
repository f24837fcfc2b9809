use Rattle.log_reader.proofs.NameTextLaws.{one_name}
use Rattle.log_reader.proofs.laws.texts_tell_names.Goals as goal

pub returns : goal.returns
returns c = one_name
