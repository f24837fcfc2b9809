-- A comma and the text of a note.
use Rattle.std.proofs.Common.{◌++◌, ◌∙◌, ap, List, ℕ, string_bytes}
use Rattle.app_logs.proofs.NoteTexts.{more_note}
use Rattle.app_logs.proofs.noting.push_further.Goals as goal

pub returns : goal.returns
returns c =
    more_note (string_bytes c.args.text.now) (string_bytes c.push_str-2.new.self) c.args.pair.now c.requires.some c.requires.note
    (c.in_ok-push_str-2.ensures.bytes ∙ ap (λ (l : List ℕ). l ++ c.args.pair.now) c.in_ok-push_str.ensures.bytes)
