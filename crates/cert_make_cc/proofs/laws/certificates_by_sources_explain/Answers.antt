use Rattle.order_memory.proofs.ReadAnswers.{history-fits}
use Rattle.cert_make_cc.proofs.Explained.{sources-explain}
use Rattle.cert_make_cc.proofs.laws.certificates_by_sources_explain.Goals as goal

pub returns : goal.returns
returns c = λ h certificate history start read. sources-explain h (history-fits h _ history) start read certificate
