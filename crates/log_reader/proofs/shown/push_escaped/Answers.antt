use Rattle.std.specs.Prelude.{string_bytes, encode_utf8}
use Rattle.log_reader.proofs.SpellLaws.{escaped_spells, pair_added}
use Rattle.log_reader.proofs.shown.push_escaped.Goals as goal

-- the character after a backslash
pub returns-clause-spelled : goal.returns-clause-spelled
returns-clause-spelled c =
    pair_added c.push_letter-2.result 92 c.args.c (encode_utf8 c.args.c) (string_bytes c.args.text.now) (string_bytes c.push_letter.new.text) (string_bytes c.push_letter-2.new.text)
    c.in_ok-push_letter.ensures.added c.push_letter-2.ensures.added (escaped_spells c.args.c c.requires)
