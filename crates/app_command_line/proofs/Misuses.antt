-- Which misuse of words is said, by what the steps find.
use Rattle.std.specs.Prelude.{◌≡◌, ◌≢◌, ◌==◌, ◌++◌, ℕ, List, [], ◌∷◌, Bool, true, false, Option, Some, None, codes, drop, if◌then◌else◌, refl}
use Rattle.std.specs.Str.Pattern.{FindsTextPrefix, LacksTextAt, StripsPrefix}
use Rattle.std.proofs.Common.{ap, arith, eq-eqb, subst, sym, ◌∙◌}
use Rattle.clap.specs.Words.{Text}
use Rattle.app_orders.specs.declared.coloring.Coloring.{Coloring}
use Rattle.app_orders.specs.declared.expected.Expected.{Expected}
use Rattle.app_command_line.specs.declared.misuse.Misuse.{Misuse}
use Rattle.app_command_line.specs.Expected.{Lists}
use Rattle.app_command_line.specs.Misuses.{IsNoColor, IsNoList, after_front, first_of, misuses, of_certificates, of_forms, of_lines, of_logs, value_of}
use Rattle.app_command_line.specs.Options.{color_word}

-- what is first of some misuses is first of those and others, and where none is there the first of the others is
found_first : (some others : List (Bool × Misuse)) (misuse : Misuse) → Some misuse ≡ first_of some → Some misuse ≡ first_of (some ++ others)
found_first [] others misuse e = cc
found_first ((true, one) ∷ some) others misuse e = e
found_first ((false, one) ∷ some) others misuse e = found_first some others misuse e

found_later : (some others : List (Bool × Misuse)) → None ≡ first_of some → first_of (some ++ others) ≡ first_of others
found_later [] others none = refl
found_later ((true, one) ∷ some) others none = cc
found_later ((false, one) ∷ some) others none = found_later some others none

module _ (words : List Text) where
  pub in_logs : (misuse : Misuse) → Some misuse ≡ first_of (of_logs words) → Some misuse ≡ first_of (misuses words)
  in_logs misuse = found_first (of_logs words) (of_lines words ++ (of_certificates words ++ of_forms words)) misuse

  after_logs : None ≡ first_of (of_logs words) → first_of (misuses words) ≡ first_of (of_lines words ++ (of_certificates words ++ of_forms words))
  after_logs = found_later (of_logs words) (of_lines words ++ (of_certificates words ++ of_forms words))

  pub in_lines : (misuse : Misuse) → None ≡ first_of (of_logs words) → Some misuse ≡ first_of (of_lines words)
      → Some misuse ≡ first_of (misuses words)
  in_lines misuse no_logs lines = found_first (of_lines words) (of_certificates words ++ of_forms words) misuse lines ∙ sym (after_logs no_logs)

  after_lines : None ≡ first_of (of_logs words) → None ≡ first_of (of_lines words)
      → first_of (misuses words) ≡ first_of (of_certificates words ++ of_forms words)
  after_lines no_logs no_lines = after_logs no_logs ∙ found_later (of_lines words) (of_certificates words ++ of_forms words) no_lines

  pub in_certificates : (misuse : Misuse) → None ≡ first_of (of_logs words) → None ≡ first_of (of_lines words)
      → Some misuse ≡ first_of (of_certificates words) → Some misuse ≡ first_of (misuses words)
  in_certificates misuse no_logs no_lines certified =
      found_first (of_certificates words) (of_forms words) misuse certified ∙ sym (after_lines no_logs no_lines)

  pub in_forms : (found : Option Misuse) → None ≡ first_of (of_logs words) → None ≡ first_of (of_lines words)
      → None ≡ first_of (of_certificates words) → found ≡ first_of (of_forms words) → found ≡ first_of (misuses words)
  in_forms found no_logs no_lines no_certificates is_found =
      is_found ∙ sym (after_lines no_logs no_lines ∙ found_later (of_certificates words) (of_forms words) no_certificates)

-- a value is what an option takes, or it isn't, or there is none
same_value : {A : Type 0} (a b : A) (found : Option A) → found ≡ Some a → found ≡ Some b → a ≡ b
same_value a b found is_a is_b = cc

module _ (words : List Text) where
  pub no_list : (list : Text) → Some list ≡ value_of (codes "--expect") words → ((expected : Expected) → ¬ Lists list expected) → IsNoList words list
  no_list list is_value none = (sym is_value, none)

  pub is_list : (list other : Text) (expected : Expected) → Some list ≡ value_of (codes "--expect") words → Lists list expected → ¬ IsNoList words other
  is_list list other expected is_value lists (is_other, none) =
      let same : list ≡ other = same_value list other (value_of (codes "--expect") words) (sym is_value) is_other in
      none expected (subst (λ (t : Text). Lists t expected) same lists)

  pub lacks_list : (other : Text) → None ≡ value_of (codes "--expect") words → ¬ IsNoList words other
  lacks_list other lacks (is_other, none) = cc

  pub no_color : (word : Text) → Some word ≡ value_of (codes "--color") words → ((coloring : Coloring) → word ≢ color_word coloring) → IsNoColor words word
  no_color word is_value none = (sym is_value, none)

  pub is_color : (word other : Text) (coloring : Coloring) → Some word ≡ value_of (codes "--color") words → word ≡ color_word coloring
      → ¬ IsNoColor words other
  is_color word other coloring is_value names (is_other, none) =
      none coloring (sym (same_value word other (value_of (codes "--color") words) (sym is_value) is_other) ∙ names)

  pub lacks_color : (other : Text) → None ≡ value_of (codes "--color") words → ¬ IsNoColor words other
  lacks_color other lacks (is_other, none) = cc

-- a front is cut off, or it isn't there
front_is : (front rest : Text) → after_front front (front ++ rest) ≡ Some rest
front_is [] rest = refl
front_is (c ∷ front) rest = let same : (c == c) ≡ true = eq-eqb c c refl in rw same (front_is front rest)

pub front_cut : (front word rest : Text) → StripsPrefix (FindsTextPrefix front) word rest → Some rest ≡ after_front front word
front_cut front word rest (n, (is_length, whole, boundary), is_rest, many) =
    sym (ap (after_front front) whole ∙ (front_is front (drop n word) ∙ ap Some (sym is_rest)))

cc_letters : (c d : ℕ) (word other : Text) → c ≡ d → word ≡ other → d ∷ word ≡ c ∷ other
cc_letters c d word other same is = cc

by_letter : (c d : ℕ) (front word : Text) (same : Bool) → (c == d) ≡ same → ((rest : Text) → d ∷ word ≢ c ∷ (front ++ rest))
    → (((rest : Text) → word ≢ front ++ rest) → None ≡ after_front front word) → None ≡ (if same then after_front front word else None)
by_letter c d front word true same lacks further = let letter : c ≡ d = grind arith in further (λ rest is. lacks rest (cc_letters c d word (front ++ rest) letter is))
by_letter c d front word false same lacks further = refl

no_front_in : (front word : Text) → ((rest : Text) → word ≢ front ++ rest) → None ≡ after_front front word
no_front_in [] word lacks = absurd (lacks word refl)
no_front_in (c ∷ front) [] lacks = refl
no_front_in (c ∷ front) (d ∷ word) lacks = by_letter c d front word (c == d) refl lacks (no_front_in front word)

pub no_front : (front word : Text) → LacksTextAt front word 0 → None ≡ after_front front word
no_front front word lacks = no_front_in front word (λ rest is. lacks rest is)
