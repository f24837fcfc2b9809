use Rattle.std.proofs.Common.{◌++◌, ◌∙◌, [], ℕ, List, ap, arith, string_bytes}
use Rattle.log_reader.specs.NameTexts.{IsNameText}
use Rattle.app_logs.specs.Steps.ListsSoFar.{comma_at}
use Rattle.app_logs.proofs.TextListLaws.{begins_next, list_ended}
use Rattle.app_logs.proofs.writing.push_names.Goals as goal

-- one name more
pub names-preserved : goal.names-preserved
names-preserved c =
    begins_next IsNameText c.args.names.now c.names.place [] (string_bytes c.push_str.new.self) (string_bytes c.names.text) (string_bytes c.push_element.new.text)
    (string_bytes c.in_ok-name.name) (omega (arith, c.names-test.true, c.len-place-end.ensures)) c.names.invariant c.in_ok-name.ensures
    (c.in_ok-push_element.ensures ∙ ap (λ (l : List ℕ). string_bytes c.names.text ++ (comma_at c.names.place ++ l)) c.as_str.ensures.value)

pub returns : goal.returns
returns c =
    list_ended IsNameText c.push_str-2.result c.args.names.now c.names.place (string_bytes c.args.text.now) (string_bytes c.push_str.new.self) (string_bytes c.names.text)
    (string_bytes c.push_str-2.new.self) (omega (arith, c.names-test.false, c.len-place-end.ensures)) c.in_ok-push_str.ensures.bytes c.names.invariant c.push_str-2.ensures.bytes
