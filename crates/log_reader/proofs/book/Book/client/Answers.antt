use Rattle.std.proofs.Common.{subst, refl}
use Rattle.log_reader.specs.Logs.{Log}
use Rattle.log_reader.specs.Readings.{Extends}
use Rattle.log_reader.proofs.BookLaws.{book-more, extends-clients}
use Rattle.log_reader.proofs.book.Book.client.Goals as goal

pub invariant_of-self : goal.invariant_of-self
invariant_of-self c =
    let before : Log = record { clients = c.self.inside.clients; keys = c.self.inside.keys; values = c.self.inside.values; events = c.self.inside.log; lines = c.self.inside.lines.items; in_time = c.self.inside.is_in_time } in
    let after : Log = record before { clients = c.number.new.self } in
    book-more before after (extends-clients before c.number.new.self c.number.ensures.grows) refl refl c.self.invariant

pub returns-clause-extends : goal.returns-clause-extends
returns-clause-extends c =
    let before : Log = record { clients = c.self.inside.clients; keys = c.self.inside.keys; values = c.self.inside.values; events = c.self.inside.log; lines = c.self.inside.lines.items; in_time = c.self.inside.is_in_time } in
    let after : Log = record before { clients = c.number.new.self } in
    subst (λ (l : Log). Extends l after) c.self.view_is (extends-clients before c.number.new.self c.number.ensures.grows)

pub returns-in_err-number-clause-extends : goal.returns-in_err-number-clause-extends
returns-in_err-number-clause-extends c =
    let before : Log = record { clients = c.self.inside.clients; keys = c.self.inside.keys; values = c.self.inside.values; events = c.self.inside.log; lines = c.self.inside.lines.items; in_time = c.self.inside.is_in_time } in
    let after : Log = record before { clients = c.number.new.self } in
    subst (λ (l : Log). Extends l after) c.self.view_is (extends-clients before c.number.new.self c.number.ensures.grows)
