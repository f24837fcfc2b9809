-- The first words of a command line.
use Rattle.std.proofs.Common.{◌≡◌, refl, ◌<◌, ◌≤◌, ℕ, List, [], ◌∷◌, ◌-◌, ◌∙◌, length, map, drop, take, get_or, ap, subst, arith, Option, MatchOption}
use Rattle.std.proofs.lemmas.List.{take_all}
use Rattle.clap.specs.Words.{Text}
use Rattle.app_orders.specs.declared.manner.Asked.{Asked}
use Rattle.app_command_line.specs.declared.sight.Sight.{Sight}
use Rattle.std.specs.Prelude.{slice_get, option_map}
use Rattle.std.proofs.lemmas.Option.{slice_get-map}
use Rattle.app_command_line.specs.CommandLine.{AsksNothing, IsCommandLine}
use Rattle.app_command_line.specs.Shown.{AsksForTopic, IsTextOf, IsTopicText, NamesTopic}
use Rattle.app_command_line.specs.Options.{IsAsked}

-- the words of a command line are the program's name, the word of a command, and the words after it
pub whole_command : {A : Type 0} (f : A → Text) (sight : Sight) (xs : List A) (word : A) (named : Text) (r : Option Asked) → 2 ≤ length xs
    → word ≡ get_or xs 1 word → named ≡ f word
    → MatchOption r ((asked : Asked) → ¬ IsAsked sight asked named (map f (take (length xs - 2) (drop 2 xs))))
    (λ asked. IsAsked sight asked named (map f (take (length xs - 2) (drop 2 xs))))
    → MatchOption r (AsksNothing sight (map f xs)) (λ asked. IsCommandLine sight asked (map f xs))
whole_command f sight [] word named r least here is of = absurd (omega arith)
whole_command f sight (x ∷ []) word named r least here is of = absurd (omega arith)
whole_command f sight (x ∷ y ∷ xs) word named r least here is of =
    subst (λ (w : Text). MatchOption r ((asked : Asked) → ¬ IsAsked sight asked w (map f xs)) (λ asked. IsAsked sight asked w (map f xs))) (is ∙ ap f here)
    (subst (λ (words : List Text). MatchOption r ((asked : Asked) → ¬ IsAsked sight asked named words) (λ asked. IsAsked sight asked named words))
    (ap (map f) (take_all (length (x ∷ y ∷ xs) - 2) xs (omega arith))) of)

-- fewer words than two are none
pub too_few : {A : Type 0} (f : A → Text) (sight : Sight) (xs : List A) → length xs < 2 → AsksNothing sight (map f xs)
too_few f sight [] few asked is = is
too_few f sight (x ∷ []) few asked is = is
too_few f sight (x ∷ y ∷ xs) few asked is = absurd (omega arith)

-- three words ask for the topic that the second and the third of them name
pub third_word : {A Shown : Type 0} (f : A → Text) (now : Shown → Text) (xs : List A) (a b : A) (word topic : Text) (r : Option Shown) → length xs ≡ 3 → a ≡ get_or xs 1 a → b ≡ get_or xs 2 b
    → word ≡ f a → topic ≡ f b → MatchOption r (¬ NamesTopic word topic) (λ (t : Shown). IsTextOf word topic (now t))
    → MatchOption r (¬ AsksForTopic (map f xs)) (λ (t : Shown). IsTopicText (map f xs) (now t))
third_word f now [] a b word topic r many first second is also asks = absurd (omega arith)
third_word f now (x ∷ []) a b word topic r many first second is also asks = absurd (omega arith)
third_word f now (x ∷ y ∷ []) a b word topic r many first second is also asks = absurd (omega arith)
third_word f now (x ∷ y ∷ z ∷ u ∷ xs) a b word topic r many first second is also asks = absurd (omega arith)
third_word f now (x ∷ y ∷ z ∷ []) a b word topic r many first second is also asks =
    subst (λ (w : Text). MatchOption r (¬ NamesTopic w (f z)) (λ x. IsTextOf w (f z) (now x))) (is ∙ ap f first)
    (subst (λ (t : Text). MatchOption r (¬ NamesTopic word t) (λ x. IsTextOf word t (now x))) (also ∙ ap f second) asks)

-- words of another number ask for none
pub not_three : {A : Type 0} (f : A → Text) (xs : List A) → ¬ (length xs ≡ 3) → ¬ AsksForTopic (map f xs)
not_three f [] other asks = asks
not_three f (x ∷ []) other asks = asks
not_three f (x ∷ y ∷ []) other asks = asks
not_three f (x ∷ y ∷ z ∷ []) other asks = other refl
not_three f (x ∷ y ∷ z ∷ u ∷ xs) other asks = asks

-- the text of the word at a place
pub word_there : {A : Type 0} (f : A → Text) (xs : List A) (i : ℕ) → slice_get (map f xs) i ≡ option_map f (slice_get xs i)
word_there f xs i = slice_get-map f xs i
