use Rattle.std.specs.Prelude.{◌≡◌, ℕ, None, slice_index_or}
use Rattle.std.proofs.Common.{sym, ap, ◌∙◌}
use Rattle.judge_session_orders.specs.Tables.{variable}
use Rattle.judge_session_orders.proofs.FreeLaws.{other-lock, read-admitted, read-shut_out, write-admitted, write-shut_out}
use Rattle.judge_session_orders.proofs.backward.Backward.is_admitted.Goals as goal

pub returns-in-Write-clause-admitted : goal.returns-in-Write-clause-admitted
returns-in-Write-clause-admitted c a is_op at holds =
    let variables = c.args.index.now.variables in
    let wrote = c.in-Write.ensures.part a is_op at in
    let place : c.variable.result ≡ variable c.args.index.now.history variables a =
    c.variable.ensures.variable ∙ ap (λ (n : ℕ). slice_index_or variables n 0) (sym at) in
    write-admitted c.args.index.now c.args.self.now c.requires.on_its_way c.args.session a wrote.0 wrote.1 wrote.2
    (λ n is_lock. c.admits.ensures.0 holds n (ap (λ (x : ℕ). slice_index_or c.args.self.now.locks.items x None) place ∙ is_lock) ∙ sym at)

pub returns-in-Write-clause-shut_out : goal.returns-in-Write-clause-shut_out
returns-in-Write-clause-shut_out c a is_op at fails =
    let variables = c.args.index.now.variables in
    let wrote = c.in-Write.ensures.part a is_op at in
    let place : c.variable.result ≡ variable c.args.index.now.history variables a =
    c.variable.ensures.variable ∙ ap (λ (n : ℕ). slice_index_or variables n 0) (sym at) in
    let other = other-lock (slice_index_or c.args.self.now.locks.items c.variable.result None) c.args.operation
    (λ all. fails (c.admits.ensures.1 all)) in
    write-shut_out c.args.index.now c.args.self.now c.requires.on_its_way c.args.session a wrote.0 wrote.1 other.0 wrote.2
    (ap (λ (x : ℕ). slice_index_or c.args.self.now.locks.items x None) (sym place) ∙ other.1) (λ same. other.2 (same ∙ at))

pub returns-else-session-self-clause-admitted : goal.returns-else-session-self-clause-admitted
returns-else-session-self-clause-admitted c a is_op at holds =
    let variables = c.args.index.now.variables in
    let read = c.in-SourcedRead.ensures.part a is_op at in
    let place : c.variable-else-session-self.result ≡ variable c.args.index.now.history variables a =
    c.variable-else-session-self.ensures.variable ∙ ap (λ (n : ℕ). slice_index_or variables n 0) (sym at) in
    read-admitted c.args.index.now c.args.self.now c.requires.on_its_way c.args.session a read.0 read.1
    (λ n is_lock. c.admits-else-session-self.ensures.0 holds n (ap (λ (x : ℕ). slice_index_or c.args.self.now.locks.items x None) place
    ∙ is_lock) ∙ sym read.2)

pub returns-else-session-self-clause-shut_out : goal.returns-else-session-self-clause-shut_out
returns-else-session-self-clause-shut_out c a is_op at fails =
    let variables = c.args.index.now.variables in
    let read = c.in-SourcedRead.ensures.part a is_op at in
    let place : c.variable-else-session-self.result ≡ variable c.args.index.now.history variables a =
    c.variable-else-session-self.ensures.variable ∙ ap (λ (n : ℕ). slice_index_or variables n 0) (sym at) in
    let other = other-lock (slice_index_or c.args.self.now.locks.items c.variable-else-session-self.result None) c.in-SourcedRead.source
    (λ all. fails (c.admits-else-session-self.ensures.1 all)) in
    read-shut_out c.args.index.now c.args.self.now c.requires.on_its_way c.args.session a c.if-session-self.false read.0 other.0 read.1
    (ap (λ (x : ℕ). slice_index_or c.args.self.now.locks.items x None) (sym place) ∙ other.1) (λ same. other.2 (same ∙ read.2))
