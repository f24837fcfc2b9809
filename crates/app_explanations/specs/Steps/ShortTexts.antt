-- Texts of no more than so many lines.
use Rattle.std.specs.Prelude.{ℕ, ◌≤◌, List, length}
use Rattle.app_explanations.specs.CoresInWords.{AreIndented}

-- the text is at most so many lines behind two spaces
abbrev pub IsIndentedUpTo : ℕ → List ℕ → Type 0
IsIndentedUpTo most text = (lines : List (List ℕ)) × (length lines ≤ most) × AreIndented lines text
