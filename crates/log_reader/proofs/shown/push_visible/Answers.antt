use Rattle.std.specs.Prelude.{string_bytes}
use Rattle.log_reader.proofs.SpellLaws.{char_added}
use Rattle.log_reader.proofs.shown.push_visible.Goals as goal

-- the character itself
pub returns-then-is_plain-clause-spelled : goal.returns-then-is_plain-clause-spelled
returns-then-is_plain-clause-spelled c = λ quote backslash.
    char_added c.push_plain.result c.args.c (string_bytes c.args.text.now) (string_bytes c.push_plain.new.text) (c.is_plain.ensures.plain c.if-is_plain.true).no_control quote backslash
    c.push_plain.ensures.added
