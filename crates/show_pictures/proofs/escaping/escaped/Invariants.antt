use Rattle.std.proofs.Common.{string_bytes, ◌≡◌, encode_utf8_all}
use Rattle.show_pictures.specs.Markup.{escaped_text}
use Rattle.show_pictures.proofs.escaping.escaped.Given as goal

-- the text so far
abbrev pub invariant-loop-character : goal.invariant-loop-character
invariant-loop-character l =
    string_bytes l.written ≡ encode_utf8_all (escaped_text l.yielded)
