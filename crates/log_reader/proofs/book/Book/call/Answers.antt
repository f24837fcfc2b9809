use Rattle.std.proofs.Common.{◌≡◌, ap, subst, sym, ◌∙◌}
use Rattle.log_events.specs.declared.event.ClientCall.TheVariants.{WriteTo}
use Rattle.log_reader.specs.Logs.{Log, call_of, with_call, with_value}
use Rattle.log_reader.specs.Steps.{call_view, name_in}
use Rattle.log_reader.specs.declared.said.SaidCall.{SaidCall}
use Rattle.log_reader.proofs.BookLaws.{extends-more, longer, write_call}
use Rattle.log_reader.proofs.book.Book.call.Goals as goal

pub returns-in_ok-value-in-Write-clause-call : goal.returns-in_ok-value-in-Write-clause-call
returns-in_ok-value-in-Write-clause-call c =
    let key = c.in_ok-key-in-Write.key in
    let value = c.in_ok-value-in-Write.value in
    subst (λ (s : SaidCall). WriteTo key value ≡ call_of c.args.self.now (call_view s)) (sym c.in-Write.is)
    (write_call c.args.self.now c.key.new.self (name_in c.in-Write.key) (name_in c.in-Write.value) key value c.in_ok-key-in-Write.ensures.log
    c.in_ok-key-in-Write.ensures.number c.in_ok-value-in-Write.ensures.number)

pub returns-in_ok-value-in-Write-clause-named : goal.returns-in_ok-value-in-Write-clause-named
returns-in_ok-value-in-Write-clause-named c = (
  longer c.key.new.self.keys c.value.new.self.keys c.in_ok-key-in-Write.key c.value.ensures.extends.keys c.in_ok-key-in-Write.ensures.within,
  c.in_ok-value-in-Write.ensures.within,
)

pub returns-in_ok-value-in-Write-clause-log : goal.returns-in_ok-value-in-Write-clause-log
returns-in_ok-value-in-Write-clause-log c =
    subst (λ (s : SaidCall). c.value.new.self ≡ with_call c.args.self.now (call_view s)) (sym c.in-Write.is)
    (c.in_ok-value-in-Write.ensures.log ∙ ap (λ (l : Log). with_value l (name_in c.in-Write.value)) c.in_ok-key-in-Write.ensures.log)

pub returns-in_ok-value-in-Write-clause-extends : goal.returns-in_ok-value-in-Write-clause-extends
returns-in_ok-value-in-Write-clause-extends c = extends-more c.args.self.now c.key.new.self c.value.new.self c.key.ensures.extends c.value.ensures.extends

pub returns-in_err-value-in-Write-clause-extends : goal.returns-in_err-value-in-Write-clause-extends
returns-in_err-value-in-Write-clause-extends c = extends-more c.args.self.now c.key.new.self c.value.new.self c.key.ensures.extends c.value.ensures.extends
