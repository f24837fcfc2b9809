use Rattle.std.proofs.Common.{◌∙◌, subst}
use Rattle.order_memory.specs.Memory.{MemoryHistory}
use Rattle.order_memory.specs.MemoryHistories.{IsMemoryHistory}
use Rattle.order_memory.proofs.ReadAnswers.{history-fits}
use Rattle.cert_check.specs.declared.certificate.Certificate.TheVariants.{Cc}
use Rattle.cert_make_cc.proofs.Explained.{sources-explain}
use Rattle.cert_make_cc.proofs.by_sources.make_by_order.Goals as goal

pub returns-clause-explained : goal.returns-clause-explained
returns-clause-explained c = λ start read.
    let same = c.history.ensures ∙ c.memory.ensures in
    let is_history = subst (λ (h : MemoryHistory). IsMemoryHistory h) same c.value_is_history.ensures in
    sources-explain c.args.order.now (history-fits c.args.order.now _ is_history) start read
    (Cc c.in_ok-vectors.vectors c.in_ok-schedules.schedules)
    (record { order = rw c.in_ok-vectors.ensures c.vectors.ensures; each = c.in_ok-schedules.ensures.exact })
