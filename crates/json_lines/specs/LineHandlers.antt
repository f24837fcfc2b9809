-- What a handler owes who has lines answered.
use Rattle.std.specs.Prelude.{◌≡◌, ◌<◌, ℕ, List, ◌++◌, length}
use Rattle.json_lines.specs.declared.outcome.Outcome.{Outcome}
use Rattle.json_lines.specs.Lines.{Says, ended}

-- the text answers every line that has more bytes than that, and this comes of it
abbrev pub SaysOfLonger : Says → ℕ → List ℕ → Outcome → Type 0
SaysOfLonger says most text outcome = (line : List ℕ) → most < length line → says line text outcome

-- an answer and a line feed were put behind what was there, and this comes of it
abbrev pub AppendsAnswer : (List ℕ → Outcome → Type 0) → List ℕ → List ℕ → Outcome → Type 0
AppendsAnswer answers before after outcome = (said : List ℕ) × answers said outcome × (after ≡ before ++ ended said)
