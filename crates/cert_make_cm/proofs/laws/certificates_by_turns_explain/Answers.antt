use Rattle.order_memory.proofs.ReadAnswers.{history-fits}
use Rattle.cert_make_cm.proofs.Explained.{turns-explain}
use Rattle.cert_make_cm.proofs.laws.certificates_by_turns_explain.Goals as goal

pub returns : goal.returns
returns c = λ h certificate history distinct cycle start. turns-explain h (history-fits h _ history) distinct cycle start certificate
