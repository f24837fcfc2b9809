-- The cores that words hold: the text that follows `These operations alone are a no: ` is a history of its own, which does not meet the
-- criterion.
use Rattle.std.specs.Prelude.{◌≡◌, ◌⊎◌, ℕ, List, ◌++◌, codes}
use Rattle.std.specs.List.{All, flat_map}
use Rattle.std.specs.Str.Iter.{LacksByte}
use Rattle.json_histories.specs.declared.any_history.AnyHistory.{AnyHistory}
use Rattle.json_histories.specs.declared.any_history.AnyHistory.TheVariants.{Memory}
use Rattle.json_histories.specs.AnyForm.{form_of, IsJson}
use Rattle.order_memory.specs.Memory.{MemoryHistory, memory_answer}
use Rattle.cert_check.specs.declared.criterion.Criterion.{Criterion}
use Rattle.cert_check.specs.Criteria.{Meets}
use Rattle.judge_subhistories.specs.Cores.{IsCoreText}
use Rattle.judge_subhistories.specs.WithoutVariables.{without_variables}
use Rattle.app_orders.specs.declared.length.Length.{Length}
use Rattle.app_orders.specs.declared.length.Length.TheVariants.{Limited, Any}

-- a line behind two spaces, with its line feed
abbrev pub indented : List ℕ → List ℕ
indented line = codes "  " ++ (line ++ codes "\n")

-- the text is these lines behind two spaces, in none of which a line feed stands
abbrev pub AreIndented : List (List ℕ) → List ℕ → Type 0
AreIndented lines text = All (LacksByte 0x0A) lines × (text ≡ flat_map indented lines)

-- the text is JSON of a memory history that does not meet the criterion
abbrev pub IsTextOfNo : Criterion → List ℕ → Type 0
IsTextOfNo criterion text = (core : MemoryHistory) × (¬ Meets memory_answer core criterion) × IsJson text (form_of (Memory core))

-- within the limits such a history is a part of the history, or of the history without some variables
abbrev pub IsTextOfCore : Length → AnyHistory → Criterion → List ℕ → Type 0
IsTextOfCore Limited (Memory h) criterion text =
    IsCoreText h criterion text ⊎ ((variables : List ℕ) × IsCoreText (without_variables variables h) criterion text)
IsTextOfCore Limited _ criterion text = ⊥
IsTextOfCore Any history criterion text = IsTextOfNo criterion text

-- what begins the line of a core
unfoldable pub core_words : List ℕ
core_words = codes "These operations alone are a no: "

-- a line that begins so holds the text of a core, and nothing else
abbrev pub HoldsCore : Length → AnyHistory → Criterion → List ℕ → Type 0
HoldsCore long history criterion line = (text : List ℕ) → line ≡ core_words ++ text → IsTextOfCore long history criterion text

-- the text is lines behind two spaces, each of which holds a core if it begins so
abbrev pub AreWordsOn : Length → AnyHistory → Criterion → List ℕ → Type 0
AreWordsOn long history criterion text =
    (lines : List (List ℕ)) × AreIndented lines text × All (HoldsCore long history criterion) lines
