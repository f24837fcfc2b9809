-- Reading undoes the form of an operation under a key, and nothing else is read: for each object by its own laws.
use Rattle.std.specs.Prelude.{◌≡◌, ℕ, ◌<◌, ◌^◌, nat_lt, List, [], ◌∷◌, Bool, false, Option, Some, None, option_map, option_and_then, if◌then◌else◌, refl}
use Rattle.std.proofs.Common.{ap, subst, ◌∙◌}
use Rattle.std.proofs.lemmas.Bool.{ltb-true, lt-ltb}
use Rattle.std.proofs.lemmas.Option.{same_Some}
use Rattle.serde_json.specs.Data.{Data, number, string, unsigned}
use Rattle.serde_json.specs.Find.{as_str}
use Rattle.serde_json.specs.Written.{has_float}
use Rattle.model_objects.specs.declared.keyed.KeyedCall.{KeyedCall}
use Rattle.json_histories.specs.Form.{Fits}
use Rattle.json_histories.specs.Json.{list, elements, whole_number}
use Rattle.json_histories.specs.Laws.Json.{elements-list, list_from_elements, and_then_from, map_from, chosen, whole_number-read, as_str-read}
use Rattle.json_histories.specs.Laws.Spelled.{spelled_read, spelled_again, rest_has_no_float}
use Rattle.json_histories.specs.Spelled.{IsSpelling}
use Rattle.json_histories.specs.Spelling.{key_at, word_key_rest, rest_form, keyed_form, spelled_at, keyed_parts_at, keyed_at}

-- ---- a word, a key and the rest

small_key : (d : Data) (n k : ℕ) → whole_number d ≡ Some n → (if nat_lt n (2 ^ 32) then Some n else None) ≡ Some k
    → (d ≡ number (unsigned k)) × (k < 2 ^ 32)
small_key d n k whole read =
    let p = chosen (nat_lt n (2 ^ 32)) (Some n) k read in
    let same : n ≡ k = same_Some n k p.1 in
    rw (← same) (whole_number-read d n whole, ltb-true n (2 ^ 32) p.0)

pub key_at-read : (d : Data) (k : ℕ) → key_at d ≡ Some k → (d ≡ number (unsigned k)) × (k < 2 ^ 32)
key_at-read d k e =
    let p = and_then_from (λ (n : ℕ). if nat_lt n (2 ^ 32) then Some n else None) (whole_number d) k e in
    small_key d p.0 k p.1 p.2

pub key_at-again : (k : ℕ) → k < 2 ^ 32 → key_at (number (unsigned k)) ≡ Some k
key_at-again k small = rw (lt-ltb k (2 ^ 32) small) refl

-- three parts of a list, and the parts of a triple
parts_are : (w d : Data) (rest : List Data) (word : List ℕ) (key : ℕ) (p : List ℕ × ℕ × List Data) → w ≡ string word → d ≡ number (unsigned key)
    → (word, key, rest) ≡ p → w ∷ d ∷ rest ≡ string p.0 ∷ number (unsigned p.1) ∷ p.2
parts_are w d rest word key p text number_is same = rw (← same, text, number_is) refl

pub word_key_rest-read : (ds : List Data) (p : List ℕ × ℕ × List Data) → word_key_rest ds ≡ Some p → ds ≡ string p.0 ∷ number (unsigned p.1) ∷ p.2
word_key_rest-read [] p e = absurd cc
word_key_rest-read (w ∷ []) p e = absurd cc
word_key_rest-read (w ∷ k ∷ rest) p e =
    let text = and_then_from (λ (word : List ℕ). option_map (λ (key : ℕ). (word, key, rest)) (key_at k)) (as_str w) p e in
    let key = map_from (λ (key : ℕ). (text.0, key, rest)) (key_at k) p text.2 in
    parts_are w k rest text.0 key.0 p (as_str-read w text.0 text.1) ((key_at-read k key.0 key.1).0) key.2

pub word_key_rest-small : (ds : List Data) (p : List ℕ × ℕ × List Data) → word_key_rest ds ≡ Some p → p.1 < 2 ^ 32
word_key_rest-small [] p e = absurd cc
word_key_rest-small (w ∷ []) p e = absurd cc
word_key_rest-small (w ∷ k ∷ rest) p e =
    let text = and_then_from (λ (word : List ℕ). option_map (λ (key : ℕ). (word, key, rest)) (key_at k)) (as_str w) p e in
    let key = map_from (λ (key : ℕ). (text.0, key, rest)) (key_at k) p text.2 in
    subst (λ (x : List ℕ × ℕ × List Data). x.1 < 2 ^ 32) key.2 ((key_at-read k key.0 key.1).1)

pub word_key_rest-again : (word : List ℕ) (k : ℕ) (rest : List Data) → k < 2 ^ 32 → word_key_rest (string word ∷ number (unsigned k) ∷ rest) ≡ Some (word, k, rest)
word_key_rest-again word k rest small = rw (lt-ltb k (2 ^ 32) small) refl

-- ---- an operation under a key

module _ {C R : Type 0} (call_at : List ℕ → List Data → Option (C × List Data)) (ret_at : C → List Data → Option R) where
  -- the key of a call that was read fits its type
  pub keyed_is_call : (d : Data) (c : KeyedCall C) (r : Option R) → keyed_at call_at ret_at d ≡ Some (c, r) → c.key < 2 ^ 32
  keyed_is_call d c r e =
      let p = and_then_from (keyed_parts_at call_at ret_at) (option_and_then word_key_rest (elements d)) (c, r) e in
      let q = and_then_from word_key_rest (elements d) p.0 p.1 in
      let s = map_from (λ (e : C × Option R). (record { key = p.0.1; call = e.0 }, e.1)) (spelled_at call_at ret_at p.0.0 p.0.2) (c, r) p.2 in
      subst (λ (y : KeyedCall C × Option R). y.0.key < 2 ^ 32) s.2 (word_key_rest-small q.0 p.0 q.2)

module _ {C R : Type 0} {word_of : C → List ℕ} {arguments : C → List Data} {ret_form : R → List Data}
    {call_at : List ℕ → List Data → Option (C × List Data)} {ret_at : C → List Data → Option R} {fits : C → R → Bool}
    (spelling : IsSpelling word_of arguments ret_form call_at ret_at fits) where
  form_of_parts : (d : Data) (ds : List Data) (p : List ℕ × ℕ × List Data) (call : C) (ret : Option R) (x : KeyedCall C × Option R)
      → d ≡ list ds → ds ≡ string p.0 ∷ number (unsigned p.1) ∷ p.2
      → p.0 ≡ word_of call → p.2 ≡ rest_form arguments ret_form call ret → Fits fits call ret
      → (record { key = p.1; call = call }, ret) ≡ x
      → (d ≡ keyed_form word_of arguments ret_form x.0 x.1) × Fits (λ (k : KeyedCall C). fits k.call) x.0 x.1
  form_of_parts d ds p call ret x is_list parts word rest fine same =
      subst (λ (y : KeyedCall C × Option R). (d ≡ keyed_form word_of arguments ret_form y.0 y.1) × Fits (λ (k : KeyedCall C). fits k.call) y.0 y.1) same
      (is_list ∙ ap list parts ∙ (λ i. list (string (word i) ∷ number (unsigned p.1) ∷ rest i)), fine)

  pub keyed_read : (d : Data) (c : KeyedCall C) (r : Option R) → keyed_at call_at ret_at d ≡ Some (c, r)
      → (d ≡ keyed_form word_of arguments ret_form c r) × Fits (λ (k : KeyedCall C). fits k.call) c r
  keyed_read d c r e =
      let p = and_then_from (keyed_parts_at call_at ret_at) (option_and_then word_key_rest (elements d)) (c, r) e in
      let q = and_then_from word_key_rest (elements d) p.0 p.1 in
      let s = map_from (λ (e : C × Option R). (record { key = p.0.1; call = e.0 }, e.1)) (spelled_at call_at ret_at p.0.0 p.0.2) (c, r) p.2 in
      let spelled = spelled_read spelling p.0.0 p.0.2 s.0.0 s.0.1 s.1 in
      form_of_parts d q.0 p.0 s.0.0 s.0.1 (c, r) (list_from_elements d q.0 q.1) (word_key_rest-read q.0 p.0 q.2)
      spelled.0 spelled.1 spelled.2 s.2

  pub keyed_again : (c : KeyedCall C) (r : Option R) → c.key < 2 ^ 32 → Fits (λ (k : KeyedCall C). fits k.call) c r
      → keyed_at call_at ret_at (keyed_form word_of arguments ret_form c r) ≡ Some (c, r)
  keyed_again c r small fine =
      let rest = rest_form arguments ret_form c.call r in
      ap (λ (o : Option (List Data)). option_and_then (keyed_parts_at call_at ret_at) (option_and_then word_key_rest o))
      (elements-list (string (word_of c.call) ∷ number (unsigned c.key) ∷ rest))
      ∙ ap (λ (o : Option (List ℕ × ℕ × List Data)). option_and_then (keyed_parts_at call_at ret_at) o) (word_key_rest-again (word_of c.call) c.key rest small)
      ∙ ap (λ (o : Option (C × Option R)). option_map (λ (e : C × Option R). (record { key = c.key; call = e.0 }, e.1)) o) (spelled_again spelling c.call r fine)

  pub keyed_has_no_float : (c : KeyedCall C) (r : Option R) → has_float (keyed_form word_of arguments ret_form c r) ≡ false
  keyed_has_no_float c r = rest_has_no_float spelling c.call r
