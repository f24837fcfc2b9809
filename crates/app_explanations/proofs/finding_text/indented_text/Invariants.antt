use Rattle.std.specs.Prelude.{string_bytes}
use Rattle.app_explanations.specs.Steps.ShortTexts.{IsIndentedUpTo}
use Rattle.app_explanations.proofs.finding_text.indented_text.Given as goal

abbrev pub invariant-loop-line : goal.invariant-loop-line
invariant-loop-line l = IsIndentedUpTo l.line-index (string_bytes l.text)
