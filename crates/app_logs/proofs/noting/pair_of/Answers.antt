-- The text of a note.
use Rattle.std.proofs.Common.{string_bytes}
use Rattle.app_logs.proofs.NoteTexts.{noted}
use Rattle.app_logs.proofs.noting.pair_of.Goals as goal

pub returns : goal.returns
returns c =
    noted c.args.note.now.line (string_bytes c.args.note.now.text) (string_bytes c.in_ok-pair.pair) c.requires (rw (← c.as_str-note.ensures.value) c.in_ok-pair.ensures.ok)
