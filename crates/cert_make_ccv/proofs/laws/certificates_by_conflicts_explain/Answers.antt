use Rattle.order_memory.proofs.ReadAnswers.{history-fits}
use Rattle.cert_make_ccv.proofs.Explained.{conflicts-explain}
use Rattle.cert_make_ccv.proofs.laws.certificates_by_conflicts_explain.Goals as goal

pub returns : goal.returns
returns c = λ h certificate history start. conflicts-explain h (history-fits h _ history) start certificate
