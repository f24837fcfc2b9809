-- The text of a list while it is written.
use Rattle.std.specs.Prelude.{◌≡◌, ℕ, zero, suc, List, [], ◌++◌, codes}
use Rattle.app_logs.specs.TextLists.{EachText, IsListText, joined}

-- what stands before the element at a place
abbrev pub comma_at : ℕ → List ℕ
comma_at zero = []
comma_at (suc n) = codes ","

-- the texts of these things, with commas between them, after a text
pub record BeginsList {X : Type 0} (IsText : X → List ℕ → Type 0) (xs : List X) (old text : List ℕ) : Type 0 where
  pub texts : List (List ℕ)
  pub each : EachText IsText xs texts
  pub is_text : text ≡ old ++ joined texts

-- the list of these things was put after a text
abbrev pub AddsList : {X : Type 0} → (X → List ℕ → Type 0) → List X → List ℕ → List ℕ → Type 0
AddsList IsText xs old new = (list : List ℕ) × IsListText IsText xs list × (new ≡ old ++ list)

-- a text was put after a text
abbrev pub AddsText : List ℕ → List ℕ → List ℕ → Type 0
AddsText added old new = new ≡ old ++ added
