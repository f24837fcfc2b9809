-- What answers a line, and what answers all lines of an input.
use Rattle.std.proofs.Common.{◌≡◌, ◌<◌, ◌≤◌, ◌++◌, ℕ, List, [], Some, length, Result, Ok, Err, IfOk, ◌∙◌, ap, sym, subst, inr, arith}
use Rattle.app_orders.specs.declared.expected.Expected.{Expected}
use Rattle.app_orders.specs.declared.length.Length.{Length}
use Rattle.app_orders.specs.declared.line_judging.BlankLines.{BlankLines}
use Rattle.app_orders.specs.declared.line_judging.LineJudging.{LineJudging}
use Rattle.json_lines.specs.declared.fault.Fault.{Fault}
use Rattle.json_lines.specs.declared.outcome.Outcome.{Outcome}
use Rattle.json_lines.specs.LineHandlers.{AppendsAnswer, SaysOfLonger}
use Rattle.json_lines.specs.Lines.{AllAreAnswered, AreAnswered, lines_of}
use Rattle.app_engine.specs.declared.failure.RunError.{RunError}
use Rattle.app_engine.specs.declared.failure.RunError.TheVariants.{TooLong}
use Rattle.app_engine.specs.declared.input.TheConstants.{MAX_INPUT_BYTES}
use Rattle.app_engine.specs.LineAnswers.{IsHistoryAnswer, IsLineAnswer, IsLineError, IsSkipped}
use Rattle.app_engine.specs.Steps.LineRefusals.{IsRefusalBy}

-- a line that is refused is answered by the line of its refusal
pub refusal_answers : (long : Length) (expected : Expected) (line before after : List ℕ) (error : RunError) (r : Result Outcome Fault) → IsLineError long line error
    → IfOk r (AppendsAnswer (IsRefusalBy error) before after) → IfOk r (AppendsAnswer (IsHistoryAnswer long expected line) before after)
refusal_answers long expected line before after error (Ok outcome) is told = (told.0, inr (told.1 long line is), told.2)
refusal_answers long expected line before after error (Err fault) is told = tt

-- a line that is too long is not skipped
longer_not_skipped : (blank : BlankLines) (line : List ℕ) → MAX_INPUT_BYTES < length line → ¬ IsSkipped blank line
longer_not_skipped blank line longer skipped = let short : length line ≤ MAX_INPUT_BYTES = skipped.short in absurd (omega arith)

-- it is refused as such
pub longer_answers : (judging : LineJudging) (before after : List ℕ) (r : Result Outcome Fault)
    → IfOk r (AppendsAnswer (IsRefusalBy TooLong) before after)
    → IfOk r (AppendsAnswer (SaysOfLonger (IsLineAnswer judging) MAX_INPUT_BYTES) before after)
longer_answers judging before after (Ok outcome) told =
    (told.0, (λ line longer. inr (longer_not_skipped judging.blank line longer, inr (told.1 judging.judging.length line longer))), told.2)
longer_answers judging before after (Err fault) told = tt

-- where all lines of a text are answered after nothing, what is written answers them
pub lines_answered : (judging : LineJudging) (input before text said : List ℕ) (outcome : Outcome) → before ≡ [] → said ≡ text
    → AllAreAnswered (IsLineAnswer judging) (Some input) (Some before) (Some text) outcome
    → AreAnswered (IsLineAnswer judging) (lines_of input) said outcome
lines_answered judging input before text said outcome none same all =
    subst (λ (t : List ℕ). AreAnswered (IsLineAnswer judging) (lines_of input) t outcome) (sym (same ∙ all.written ∙ ap (λ b. b ++ all.text) none))
    (subst (λ (bytes : List ℕ). AreAnswered (IsLineAnswer judging) (lines_of bytes) all.text outcome) all.whole all.answered)
