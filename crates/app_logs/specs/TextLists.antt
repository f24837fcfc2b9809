-- Texts of lists, as JSON has them.
use Rattle.std.specs.Prelude.{◌≡◌, ℕ, List, [], ◌∷◌, ◌++◌, codes}
use Rattle.std.specs.List.{flat_map}

-- texts with a comma before each but the first
abbrev pub joined : List (List ℕ) → List ℕ
joined [] = []
joined (first ∷ others) = first ++ flat_map (λ text. codes "," ++ text) others

-- for each thing a text of it, in order
abbrev pub EachText : {X : Type 0} → (X → List ℕ → Type 0) → List X → List (List ℕ) → Type 0
EachText IsText [] texts = texts ≡ []
EachText IsText (x ∷ xs) texts = (text : List ℕ) × (others : List (List ℕ)) × IsText x text × EachText IsText xs others × (texts ≡ text ∷ others)

-- the text is the list of these things
pub record IsListText {X : Type 0} (IsText : X → List ℕ → Type 0) (xs : List X) (text : List ℕ) : Type 0 where
  pub texts : List (List ℕ)
  pub each : EachText IsText xs texts
  pub is_list : text ≡ codes "[" ++ (joined texts ++ codes "]")
