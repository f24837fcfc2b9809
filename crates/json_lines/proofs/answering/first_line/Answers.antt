use Rattle.std.proofs.Common.{◌+◌, ◌∷◌, ◌∙◌, ap, sym, subst, take}
use Rattle.std.proofs.lemmas.List.{take_rest}
use Rattle.memchr.specs.Find.{IsFirstByte, is_byte}
use Rattle.json_lines.specs.Lines.{lines_of}
use Rattle.json_lines.proofs.FeedLaws.{first_found, none_found}
use Rattle.json_lines.proofs.answering.first_line.Goals as goal

pub returns-in-Some-clause-lines : goal.returns-in-Some-clause-lines
returns-in-Some-clause-lines c =
    let bytes = c.args.bytes.now in
    let at = c.in-Some.at in
    first_found bytes at (subst (λ r. IsFirstByte (is_byte 10) bytes r) c.in-Some.is c.memchr.ensures)
    ∙ ap (λ rest. take at bytes ∷ lines_of rest) (sym (take_rest bytes (at + 1)))

pub returns-in-None-clause-lines : goal.returns-in-None-clause-lines
returns-in-None-clause-lines c =
    let bytes = c.args.bytes.now in
    none_found bytes c.requires (subst (λ r. IsFirstByte (is_byte 10) bytes r) c.in-None.is c.memchr.ensures)
