-- What is said beside the answers to lines each of which is to hold a history: on which line the first blank one is that is refused, and on
-- which the first that ends in the midst of a JSON text. Lines are counted from 1, as far as a counter counts.
use Rattle.std.specs.Prelude.{◌≡◌, ◌⊎◌, ◌==◌, ◌&&◌, ◌||◌, ◌++◌, ◌+◌, ◌-◌, ◌^◌, ℕ, List, [], ◌∷◌, min, nat_lt, Bool, true, false, not, Option, Some, None, codes, decimal, fold, if◌then◌else◌}
use Rattle.std.specs.Io.KnownBytes.{Appends}
use Rattle.app_orders.specs.declared.line_judging.BlankLines.{BlankLines}
use Rattle.app_orders.specs.declared.line_judging.BlankLines.TheVariants.{Refused, Skipped}
use Rattle.json_lines.specs.Lines.{is_blank, lines_of}
use Rattle.app_process.specs.declared.noticing.LineSoFar.{LineSoFar}
use Rattle.app_process.specs.Saying.{Known, SaysSome, said_lines}

-- one more than what a counter shows
abbrev pub one_more : ℕ → ℕ
one_more n = min (n + 1) (2 ^ 64 - 1)

-- what the bytes of a line so far have open: none yet, and one more
abbrev pub no_bytes : LineSoFar
no_bytes = record { is_begun = false; is_blank = true; depth = 0; is_over_closed = false; is_in_text = false; is_escaped = false }

-- a text ends with a quote that is not escaped
abbrev pub seen_in_text : LineSoFar → ℕ → LineSoFar
seen_in_text line b = record line { is_begun = true; is_in_text = line.is_escaped || not (b == 34); is_escaped = (b == 92) && not line.is_escaped }

-- outside texts a quote begins one, and brackets open and close
abbrev pub seen_outside : LineSoFar → ℕ → LineSoFar
seen_outside line b =
    let line = record line { is_begun = true; is_blank = line.is_blank && is_blank (b ∷ []) } in
    if b == 34 then record line { is_in_text = true }
    else (if (b == 91) || (b == 123) then record line { depth = one_more line.depth }
    else (if (b == 93) || (b == 125) then record line { is_over_closed = line.is_over_closed || (line.depth == 0); depth = line.depth - 1 }
    else line))

abbrev pub seen : LineSoFar → ℕ → LineSoFar
seen line b = if line.is_in_text then seen_in_text line b else seen_outside line b

abbrev pub line_seen : List ℕ → LineSoFar
line_seen bytes = fold seen no_bytes bytes

-- a text is open, or a bracket, or one was closed that was not open
abbrev pub is_broken : LineSoFar → Bool
is_broken line = line.is_in_text || (line.is_over_closed || nat_lt 0 line.depth)

-- whether a line is blank, where such lines are refused, and whether another one ends in the midst of a JSON text
abbrev pub refuses : BlankLines → Bool
refuses Refused = true
refuses Skipped = false

abbrev pub is_refused_blank : BlankLines → LineSoFar → Bool
is_refused_blank blank line = line.is_blank && refuses blank

abbrev pub breaks_off : LineSoFar → Bool
breaks_off line = not line.is_blank && is_broken line

-- the number of the first line that is so, after so many lines
abbrev pub first_such : (LineSoFar → Bool) → ℕ → List (List ℕ) → Option ℕ
first_such is_so before [] = None
first_such is_so before (line ∷ lines) = if is_so (line_seen line) then Some (one_more before) else first_such is_so (one_more before) lines

abbrev pub blank_remark : Option ℕ → List ℕ
blank_remark None = []
blank_remark (Some line) = codes "line " ++ (decimal line ++ codes " is blank: with --skip-blank a blank line answers it\n")

abbrev pub broken_remark : Option ℕ → List ℕ
broken_remark None = []
broken_remark (Some line) = codes "line " ++ (decimal line ++ codes " ends in the midst of a JSON text: with --lines each line holds a whole history\n")

abbrev pub line_remarks : BlankLines → List ℕ → List ℕ
line_remarks blank input =
    blank_remark (first_such (is_refused_blank blank) 0 (lines_of input)) ++ broken_remark (first_such breaks_off 0 (lines_of input))

-- the remarks on the lines of an input are said, where memory suffices; where the bytes of the input are not known, no more is known of them
abbrev pub SaysLineRemarks : Option (List ℕ) → BlankLines → Known → Known → Known → Type 0
SaysLineRemarks label blank None before after = SaysSome before after
SaysLineRemarks label blank (Some input) before after = (after ≡ before) ⊎ Appends before after (said_lines label (line_remarks blank input))
