use Rattle.std.proofs.Common.{◌++◌, ◌∙◌, [], ℕ, List, ap, append_assoc, subst, arith, string_bytes}
use Rattle.log_events.specs.Events.{Call}
use Rattle.app_logs.specs.LogTexts.{IsCallLine}
use Rattle.app_logs.specs.Steps.ListsSoFar.{comma_at}
use Rattle.app_logs.specs.TextLists.{IsListText}
use Rattle.app_logs.proofs.TextListLaws.{begins_next, lines_ended}
use Rattle.app_logs.proofs.line_numbers.lines_text.Goals as goal

-- the lines of one session more
pub loop-session-preserved : goal.loop-session-preserved
loop-session-preserved c =
    let log = c.args.reader.now.log in
    let list = c.in_ok-push_session.ensures.0 in
    begins_next (IsListText (IsCallLine log)) c.args.sessions.now c.loop-session.session [] (string_bytes c.in_ok-text.text) (string_bytes c.loop-session.text)
    (string_bytes c.push_session.new.text) list (omega (arith, c.loop-session-test.true, c.len-session-end.ensures)) c.loop-session.invariant
    (subst (λ (calls : List Call). IsListText (IsCallLine log) calls list) c.get.ensures c.in_ok-push_session.ensures.1)
    (c.in_ok-push_session.ensures.2 ∙ ap (λ (l : List ℕ). l ++ list) c.in_ok-push_comma.ensures
    ∙ append_assoc (string_bytes c.loop-session.text) (comma_at c.loop-session.session) list)

pub returns : goal.returns
returns c =
    lines_ended (IsListText (IsCallLine c.args.reader.now.log)) c.args.sessions.now c.loop-session.session (string_bytes c.in_ok-text.text) (string_bytes c.loop-session.text)
    (string_bytes c.push_str.new.self) (omega (arith, c.loop-session-test.false, c.len-session-end.ensures)) c.in_ok-text.ensures.ok c.loop-session.invariant
    c.in_ok-push_str.ensures.bytes
