use Rattle.std.proofs.Common.{◌++◌, ◌∙◌, ℕ, List, ap, subst, string_bytes}
use Rattle.log_events.specs.Events.{Call}
use Rattle.log_reader.specs.EventLines.{line_at}
use Rattle.app_logs.specs.LogTexts.{IsBegunOn, IsCallLine}
use Rattle.app_logs.specs.Steps.ListsSoFar.{comma_at}
use Rattle.app_logs.proofs.TextListLaws.{begins_next, list_ended}
use Rattle.app_logs.proofs.line_numbers.push_session.Goals as goal

-- the line of one call more
pub loop-place-preserved : goal.loop-place-preserved
loop-place-preserved c =
    let log = c.args.reader.now.log in
    let line = string_bytes c.in_ok-line.line in
    begins_next (IsCallLine log) c.args.calls.now c.loop-place.place c.index-calls-place.result (string_bytes c.push_str.new.self) (string_bytes c.loop-place.text)
    (string_bytes c.push_element.new.text) line c.loop-place-test.true c.loop-place.invariant
    (subst (λ (a : Call). IsCallLine log a line) c.index-calls-place.is (subst (λ (p : ℕ). IsBegunOn (line_at log p) line) c.place.ensures c.in_ok-line.ensures))
    (c.in_ok-push_element.ensures ∙ ap (λ (l : List ℕ). string_bytes c.loop-place.text ++ (comma_at c.loop-place.place ++ l)) c.as_str.ensures.value)

pub returns : goal.returns
returns c =
    list_ended (IsCallLine c.args.reader.now.log) c.push_str-2.result c.args.calls.now c.loop-place.place (string_bytes c.args.text.now) (string_bytes c.push_str.new.self)
    (string_bytes c.loop-place.text) (string_bytes c.push_str-2.new.self) c.loop-place-test.false c.in_ok-push_str.ensures.bytes c.loop-place.invariant c.push_str-2.ensures.bytes
