-- Equality tests that decide equality of values.
use Rattle.std.specs.Prelude.{◌≡◌, ◌↔◌, ℕ, Bool, true, false, ◌==◌, Option, Some, None, refl}
use Rattle.std.specs.Option.{option_eq}
use Rattle.std.specs.Bool.{beq}
use Rattle.std.proofs.Common.{eq-eqb, ap, sym, ◌∙◌}
use Rattle.std.proofs.lemmas.Bool.{eqb-true}

-- one value, and a test that says so
pub alike : {A : Type 0} (a : A) → (true ≡ true → a ≡ a) × (a ≡ a → true ≡ true)
alike a = ((λ e. refl), λ e. refl)

pub same_numbers : (a b : ℕ) → ((a == b) ≡ true) ↔ (a ≡ b)
same_numbers a b = (eqb-true a b, eq-eqb a b)

-- values that hold one part each, and a test of the parts
pub same_of_part : {A P : Type 0} (f : P → A) → ((a b : P) → f a ≡ f b → a ≡ b) → {eq : P → P → Bool} → ((a b : P) → (eq a b ≡ true) ↔ (a ≡ b))
    → (a b : P) → (eq a b ≡ true → f a ≡ f b) × (f a ≡ f b → eq a b ≡ true)
same_of_part f injective decides a b = ((λ e. ap f ((decides a b).0 e)), λ e. (decides a b).1 (injective a b e))

-- values of two variants, and a test that tells them apart
pub apart : {A : Type 0} (variant : A → ℕ) (a b : A) → (variant a == variant b) ≡ false → (false ≡ true → a ≡ b) × (a ≡ b → false ≡ true)
apart variant a b differ = ((λ (e : false ≡ true). absurd cc), λ e. sym differ ∙ eq-eqb (variant a) (variant b) (ap variant e))

-- values that may be absent
pub same_options : {A : Type 0} {eq : A → A → Bool} → ((a b : A) → (eq a b ≡ true) ↔ (a ≡ b))
    → (a b : Option A) → (option_eq eq a b ≡ true) ↔ (a ≡ b)
same_options decides None None = alike None
same_options decides None (Some b) = ((λ e. absurd cc), λ e. absurd cc)
same_options decides (Some a) None = ((λ e. absurd cc), λ e. absurd cc)
same_options decides (Some a) (Some b) = same_of_part Some (λ a b e. cc) decides a b

pub same_truths : (a b : Bool) → (beq a b ≡ true) ↔ (a ≡ b)
same_truths true true = alike true
same_truths true false = ((λ e. absurd cc), λ e. absurd cc)
same_truths false true = ((λ e. absurd cc), λ e. absurd cc)
same_truths false false = alike false
