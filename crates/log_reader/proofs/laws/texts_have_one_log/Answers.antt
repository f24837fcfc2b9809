use Rattle.log_reader.proofs.OneLogLaws.{log_or_refusal, one_log, one_refusal}
use Rattle.log_reader.proofs.laws.texts_have_one_log.Goals as goal

pub returns : goal.returns
returns c = record { log = one_log; refusal = one_refusal; either = log_or_refusal }
