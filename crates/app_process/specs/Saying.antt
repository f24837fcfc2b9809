-- What is said on standard error, line by line.
use Rattle.std.specs.Prelude.{ℕ, List, ◌++◌, Option, None, Some, codes}
use Rattle.std.specs.Io.KnownBytes.{Appends}
use Rattle.std.specs.List.{flat_map}
use Rattle.json_lines.specs.Lines.{ended, lines_of}

-- what is known of the bytes of a stream: those that a reader has left, or those that a writer or standard error holds; or nothing
abbrev pub Known : Type 0
Known = Option (List ℕ)

-- a line as it is said: after a label, where there is one
abbrev pub said_line : Option (List ℕ) → List ℕ → List ℕ
said_line None line = ended line
said_line (Some label) line = label ++ (codes ": " ++ ended line)

-- the lines of a text as they are said
abbrev pub said_lines : Option (List ℕ) → List ℕ → List ℕ
said_lines label text = flat_map (said_line label) (lines_of text)

-- some text was said, which may be empty
abbrev pub SaysSome : Known → Known → Type 0
SaysSome before after = (text : List ℕ) × Appends before after text
