use Rattle.std.proofs.Common.{string_bytes, ◌≡◌, encode_utf8_all, chars, ◌∙◌, ap, sym, map-id}
use Rattle.std.proofs.lemmas.Grind.{flat_map-append}
use Rattle.std.proofs.lemmas.Iterator.{YieldsList-from_chars}
use Rattle.std.proofs.lemmas.Iterator.Consumers.{YieldsList-end}
use Rattle.std.proofs.lemmas.Str.{encodes-append}
use Rattle.show_pictures.specs.Markup.{escaped_text}
use Rattle.show_pictures.proofs.escaping.escaped.Goals as goal

pub loop-character-preserved : goal.loop-character-preserved
loop-character-preserved c =
    rw (flat_map-append, encodes-append, ← c.loop-character.invariant) c.in_ok-push_escaped.ensures

pub returns : goal.returns
returns c =
    let done = YieldsList-end (YieldsList-from_chars c.args.text.now c.utf8.text cc) c.loop-character.yielded _ c.loop-character.yielded_by _ _ c.in-None.is c.next.ensures.steps in
    let bytes : string_bytes c.loop-character.written ≡ encode_utf8_all (escaped_text (chars c.args.text.now)) =
    c.loop-character.invariant ∙ ap (λ cs. encode_utf8_all (escaped_text cs)) (sym (map-id c.loop-character.yielded) ∙ done.0) in
    bytes
