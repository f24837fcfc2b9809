-- What is noticed of lines, byte by byte.
use Rattle.std.specs.Prelude.{◌≡◌, ◌⊎◌, ◌==◌, ◌++◌, ℕ, List, Bool, true, false, Option, Some, None, fold, if◌then◌else◌}
use Rattle.std.specs.Io.KnownBytes.{Appends, Consumes}
use Rattle.app_orders.specs.declared.line_judging.BlankLines.{BlankLines}
use Rattle.app_process.specs.declared.noticing.LineSoFar.{LineSoFar}
use Rattle.app_process.specs.declared.noticing.Noticed.{Noticed}
use Rattle.app_process.specs.LineRemarks.{blank_remark, breaks_off, broken_remark, is_refused_blank, no_bytes, one_more, seen}
use Rattle.app_process.specs.Saying.{Known, said_lines}

-- nothing yet
abbrev pub nothing : BlankLines → Noticed
nothing blank = record { blank = blank; ended = 0; line = no_bytes; first_blank = None; first_broken = None }

-- the first line that was found, or this one, where it is such
abbrev pub or_this : Option ℕ → Bool → ℕ → Option ℕ
or_this (Some found) is_so line = Some found
or_this None true line = Some line
or_this None false line = None

-- a line ends
abbrev pub line_ended : Noticed → LineSoFar → Noticed
line_ended noticed line = record noticed {
  ended = one_more noticed.ended;
  first_blank = or_this noticed.first_blank (is_refused_blank noticed.blank line) (one_more noticed.ended);
  first_broken = or_this noticed.first_broken (breaks_off line) (one_more noticed.ended);
}

-- one byte more
abbrev pub noticed_byte : Noticed → ℕ → Noticed
noticed_byte noticed b =
    if b == 10 then record (line_ended noticed noticed.line) { line = no_bytes } else record noticed { line = seen noticed.line b }

-- the input ends
abbrev pub all_ended : Noticed → Noticed
all_ended noticed = if noticed.line.is_begun then line_ended noticed noticed.line else noticed

abbrev pub remarks_in : Noticed → List ℕ
remarks_in noticed = blank_remark noticed.first_blank ++ broken_remark noticed.first_broken

-- all bytes of an input were noticed, where they are known
abbrev pub HasNoticed : Noticed → Known → Noticed → Type 0
HasNoticed old input new = (bytes : List ℕ) → input ≡ Some bytes → new ≡ fold noticed_byte old bytes

-- what was noticed is said, where memory suffices
abbrev pub SaysNoticed : Option (List ℕ) → Noticed → Known → Known → Type 0
SaysNoticed label noticed before after = (after ≡ before) ⊎ Appends before after (said_lines label (remarks_in (all_ended noticed)))

-- a reader gave some bytes, and these were noticed
abbrev pub Notices : Known → Known → Noticed → Noticed → Type 0
Notices before after old new = (given : List ℕ) × Consumes before after given × (new ≡ fold noticed_byte old given)
