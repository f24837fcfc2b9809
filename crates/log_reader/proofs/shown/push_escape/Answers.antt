use Rattle.std.proofs.Common.{◌∷◌, ◌++◌, ◌/◌, ◌%◌, ℕ, List, [], ap, ◌∙◌, subst, arith}
use Rattle.std.specs.Prelude.{OnOk, string_bytes}
use Rattle.log_reader.specs.Spelling.{Adds}
use Rattle.log_reader.proofs.SpellLaws.{escape_added, escape_spells, units_are}
use Rattle.log_reader.proofs.shown.push_escape.Goals as goal

-- the escape of four digits
pub returns-clause-spelled : goal.returns-clause-spelled
returns-clause-spelled c =
    let code = c.args.code in
    let at = λ (old : List ℕ) (d : ℕ). old ++ d ∷ [] in
    escape_added c.push_letter-6.result (code / 4096 % 16) (code / 256 % 16) (code / 16 % 16) (code % 16) _
    (string_bytes c.args.text.now) (string_bytes c.push_letter.new.text) (string_bytes c.push_letter-2.new.text) (string_bytes c.push_letter-3.new.text)
    (string_bytes c.push_letter-4.new.text) (string_bytes c.push_letter-5.new.text) (string_bytes c.push_letter-6.new.text)
    c.in_ok-push_letter.ensures.added c.in_ok-push_letter-2.ensures.added
    (c.in_ok-push_letter-3.ensures.added ∙ ap (at (string_bytes c.push_letter-2.new.text)) c.hex_digit.ensures.digit)
    (c.in_ok-push_letter-4.ensures.added ∙ ap (at (string_bytes c.push_letter-3.new.text)) c.hex_digit-2.ensures.digit)
    (c.in_ok-push_letter-5.ensures.added ∙ ap (at (string_bytes c.push_letter-4.new.text)) c.hex_digit-3.ensures.digit)
    (subst (λ (d : ℕ). OnOk c.push_letter-6.result (Adds (d ∷ []) (string_bytes c.push_letter-5.new.text) (string_bytes c.push_letter-6.new.text))) c.hex_digit-4.ensures.digit c.push_letter-6.ensures.added)
    (escape_spells (code / 4096 % 16) (code / 256 % 16) (code / 16 % 16) (code % 16) code (omega arith) (omega arith) (omega arith) (omega arith) (units_are code c.requires) c.requires)
