-- Words before the first one that names no file.
use Rattle.std.specs.Prelude.{List, [], ◌∷◌, None}
use Rattle.clap.specs.Words.{Text}
use Rattle.app_command_line.specs.declared.said.Said.{Said}
use Rattle.app_command_line.specs.Options.{NamesFile, Say}

-- some words say what others say
abbrev pub SaySame : List Text → List Text → Type 0
SaySame words rest = (before after : Said) → (Say before None words after → Say before None rest after) × (Say before None rest after → Say before None words after)

-- the first of some words names a file, or none does
abbrev pub BeginsWithFile : List Text → Type 0
BeginsWithFile [] = ⊥
BeginsWithFile (word ∷ words) = NamesFile word

abbrev pub BeginsWithNoFile : List Text → Type 0
BeginsWithNoFile [] = Unit {0}
BeginsWithNoFile (word ∷ words) = ¬ NamesFile word
