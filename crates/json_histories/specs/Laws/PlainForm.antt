-- Reading undoes the form of an operation without a key, and nothing else is read: for each object by its own laws.
use Rattle.std.specs.Prelude.{◌≡◌, ℕ, List, [], ◌∷◌, Bool, false, Option, Some, option_and_then, refl}
use Rattle.std.proofs.Common.{ap, ◌∙◌}
use Rattle.std.proofs.lemmas.Option.{same_Some}
use Rattle.serde_json.specs.Data.{Data, string}
use Rattle.serde_json.specs.Find.{as_str}
use Rattle.serde_json.specs.Written.{has_float}
use Rattle.json_histories.specs.Form.{Fits, HaveNoFloats}
use Rattle.json_histories.specs.Json.{list, elements}
use Rattle.json_histories.specs.Laws.Json.{elements-list, list_from_elements, and_then_from, map_from, as_str-read}
use Rattle.json_histories.specs.Laws.Spelled.{spelled_read, spelled_again, rest_has_no_float}
use Rattle.json_histories.specs.Spelled.{IsSpelling}
use Rattle.json_histories.specs.Spelling.{word_rest, rest_form, plain_form, spelled_at, plain_at, plain_start_form, plain_start_at}

-- two parts of a list, and the parts of a pair
parts_are : (w : Data) (rest : List Data) (word : List ℕ) (p : List ℕ × List Data) → w ≡ string word → (word, rest) ≡ p → w ∷ rest ≡ string p.0 ∷ p.1
parts_are w rest word p text same = rw (← same, text) refl

word_rest-read : (ds : List Data) (p : List ℕ × List Data) → word_rest ds ≡ Some p → ds ≡ string p.0 ∷ p.1
word_rest-read [] p e = absurd cc
word_rest-read (w ∷ rest) p e =
    let text = map_from (λ (word : List ℕ). (word, rest)) (as_str w) p e in
    parts_are w rest text.0 p (as_str-read w text.0 text.1) text.2

module _ {C R : Type 0} {word_of : C → List ℕ} {arguments : C → List Data} {ret_form : R → List Data}
    {call_at : List ℕ → List Data → Option (C × List Data)} {ret_at : C → List Data → Option R} {fits : C → R → Bool}
    (spelling : IsSpelling word_of arguments ret_form call_at ret_at fits) where
  pub plain_read : (d : Data) (c : C) (r : Option R) → plain_at call_at ret_at d ≡ Some (c, r) → (d ≡ plain_form word_of arguments ret_form c r) × Fits fits c r
  plain_read d c r e =
      let p = and_then_from (λ (q : List ℕ × List Data). spelled_at call_at ret_at q.0 q.1) (option_and_then word_rest (elements d)) (c, r) e in
      let q = and_then_from word_rest (elements d) p.0 p.1 in
      let spelled = spelled_read spelling p.0.0 p.0.1 c r p.2 in
      let word : p.0.0 ≡ word_of c = spelled.0 in
      let rest : p.0.1 ≡ rest_form arguments ret_form c r = spelled.1 in
      (list_from_elements d q.0 q.1 ∙ ap list (word_rest-read q.0 p.0 q.2) ∙ (λ i. list (string (word i) ∷ rest i)), spelled.2)

  pub plain_again : (c : C) (r : Option R) → Unit {0} → Fits fits c r → plain_at call_at ret_at (plain_form word_of arguments ret_form c r) ≡ Some (c, r)
  plain_again c r _ fine =
      ap (λ (o : Option (List Data)). option_and_then (λ (q : List ℕ × List Data). spelled_at call_at ret_at q.0 q.1) (option_and_then word_rest o))
      (elements-list (string (word_of c) ∷ rest_form arguments ret_form c r))
      ∙ spelled_again spelling c r fine

  pub plain_has_no_float : (c : C) (r : Option R) → has_float (plain_form word_of arguments ret_form c r) ≡ false
  plain_has_no_float c r = rest_has_no_float spelling c r

-- ---- a start of which nothing is written

module _ {S : Type 0} (plain : S) (is_start : S → Type 0) where
  pub plain_start_read : is_start plain → (ds : List Data) (s : S) → plain_start_at plain ds ≡ Some s → (ds ≡ plain_start_form s) × is_start s × (s ≡ plain)
  plain_start_read good [] s e = let same : plain ≡ s = same_Some plain s e in rw (← same) (refl, good, refl)
  plain_start_read good (d ∷ ds) s e = absurd cc

  pub plain_start_again : (s : S) → is_start s → s ≡ plain → plain_start_at plain (plain_start_form s) ≡ Some s
  plain_start_again s good same = rw same refl

pub plain_start_has_no_float : {S : Type 0} (s : S) → HaveNoFloats (plain_start_form s)
plain_start_has_no_float s = refl
