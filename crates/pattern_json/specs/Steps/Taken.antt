-- The elements of a list that were taken towards a link or a line, and those that make one.
use Rattle.std.specs.Prelude.{ℕ, List, [], ◌∷◌}
use Rattle.serde_json.specs.Data.{Data, string}
use Rattle.json_histories.specs.Reads.{number_form}
use Rattle.pattern_check.specs.declared.derivation.Line.{Line}
use Rattle.pattern_check.specs.declared.derivation.Line.TheVariants as lines
use Rattle.pattern_check.specs.declared.link.Link.{Link}
use Rattle.pattern_check.specs.declared.link.Link.TheVariants as links
use Rattle.pattern_json.specs.PatternForm.{op_form, path_form}
use Rattle.pattern_json.specs.declared.derivation.LineWord.{LineWord}
use Rattle.pattern_json.specs.declared.derivation.LineWord.TheVariants as line_words
use Rattle.pattern_json.specs.declared.link.LinkWord.{LinkWord}
use Rattle.pattern_json.specs.declared.link.LinkWord.TheVariants as link_words
use Rattle.pattern_json.specs.declared.only.Only.{Only}
use Rattle.pattern_json.specs.declared.only.Only.TheVariants as only
use Rattle.pattern_json.specs.declared.pair.Pair.{Pair}
use Rattle.pattern_json.specs.declared.pair.Pair.TheVariants as pair
use Rattle.pattern_json.specs.Steps.PartWords.{line_word, link_word}

-- ---- one item, and two

abbrev pub one : {A : Type 0} → (A → Data) → A → List Data
one form a = form a ∷ []

abbrev pub only_taken : {A : Type 0} → (A → Data) → Only A → List Data
only_taken form only.Nothing = []
only_taken form (only.Item a) = form a ∷ []

module _ {A B : Type 0} (first : A → Data) (second : B → Data) where
  abbrev pub both : A × B → List Data
  both items = first items.0 ∷ second items.1 ∷ []

  abbrev pub pair_taken : Pair A B → List Data
  pair_taken pair.Nothing = []
  pair_taken (pair.First a) = first a ∷ []
  pair_taken (pair.Both a b) = first a ∷ second b ∷ []

-- ---- lists that begin with a word

-- the word, and what comes after it
abbrev pub opened_parts : {W X : Type 0} → (W → List ℕ) → (X → W) → (X → List Data) → X → List Data
opened_parts name word_of shown x = string (name (word_of x)) ∷ shown x

-- ---- links

abbrev pub link_opening : Link → LinkWord
link_opening (links.Co a b) = link_words.Co
link_opening (links.Cf path b) = link_words.Cf

abbrev pub link_shown : Link → List Data
link_shown (links.Co a b) = op_form a ∷ op_form b ∷ []
link_shown (links.Cf path b) = path_form path ∷ op_form b ∷ []

abbrev pub link_parts : Link → List Data
link_parts = opened_parts link_word link_opening link_shown

-- ---- lines

abbrev pub line_opening : Line → LineWord
line_opening (lines.Co above below) = line_words.Co
line_opening (lines.Tr i j) = line_words.Tr
line_opening (lines.Rf i r) = line_words.Rf

abbrev pub line_shown : Line → List Data
line_shown (lines.Co above below) = path_form above ∷ path_form below ∷ []
line_shown (lines.Tr i j) = number_form i ∷ number_form j ∷ []
line_shown (lines.Rf i r) = number_form i ∷ op_form r ∷ []

abbrev pub line_parts : Line → List Data
line_parts = opened_parts line_word line_opening line_shown
