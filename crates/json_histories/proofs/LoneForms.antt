-- Calls that stand without their returns, as they are read.
use Rattle.std.proofs.Common.{◌≡◌, ℕ, ◌<◌, ◌^◌, List, [], ◌∷◌, ◌++◌, refl, ap, sym, ◌∙◌}
use Rattle.std.specs.Prelude.{◌≢◌, Option, Some, None, MatchOption, option_and_then, if◌then◌else◌}
use Rattle.std.proofs.lemmas.List.{append-nil}
use Rattle.std.proofs.lemmas.Option.{same_Some}
use Rattle.serde_json.specs.Data.{Data, string}
use Rattle.model_objects.specs.declared.keyed.KeyedCall.{KeyedCall}
use Rattle.json_histories.specs.Json.{elements, list}
use Rattle.json_histories.specs.Laws.Json.{and_then_from, elements-list, list_from_elements}
use Rattle.json_histories.specs.Laws.KeyedForm.{word_key_rest-read, word_key_rest-small, word_key_rest-again}
use Rattle.json_histories.specs.LoneForm.{plain_call_form, keyed_call_form, is_nothing, whole_call_at}
use Rattle.json_histories.specs.Reads.{number_form, worded, IsReadWithin}
use Rattle.json_histories.specs.Spelling.{word_key_rest}
use Rattle.json_histories.proofs.ReadForms.{one_word}

module _ {C : Type 0} (word_of : C → List ℕ) (arguments : C → List Data) where
  -- a call is spelled by this word and what it takes, or no call is
  abbrev pub IsSpelled : List ℕ → List Data → Option C → Type 0
  IsSpelled w ds o = MatchOption o ((c : C) → w ≡ word_of c → ds ≢ arguments c) (λ c. (w ≡ word_of c) × (ds ≡ arguments c))

module _ {C : Type 0} (word_of : C → List ℕ) (arguments : C → List Data) (call_at : List ℕ → List Data → Option (C × List Data))
    (call_read : (w : List ℕ) (ds rest : List Data) (c : C) → call_at w ds ≡ Some (c, rest) → (w ≡ word_of c) × (ds ≡ arguments c ++ rest))
    (call_again : (c : C) (rest : List Data) → call_at (word_of c) (arguments c ++ rest) ≡ Some (c, rest)) where
  again : (w : List ℕ) (ds : List Data) (c : C) → w ≡ word_of c → ds ≡ arguments c → whole_call_at call_at w ds ≡ Some c
  again w ds c word takes =
      let same : call_at w ds ≡ Some (c, []) = rw (word, takes ∙ sym (append-nil (arguments c))) (call_again c []) in
      rw same refl

  ended : (w : List ℕ) (ds rest : List Data) (b c : C) → call_at w ds ≡ Some (b, rest) → (if is_nothing rest then Some b else None) ≡ Some c
      → (w ≡ word_of c) × (ds ≡ arguments c)
  ended w ds [] b c read whole =
      let same : b ≡ c = same_Some b c whole in
      let p = call_read w ds [] b read in
      (p.0 ∙ ap word_of same, p.1 ∙ append-nil (arguments b) ∙ ap arguments same)
  ended w ds (d ∷ rest) b c read whole = absurd cc

  read : (w : List ℕ) (ds : List Data) (c : C) → whole_call_at call_at w ds ≡ Some c → (w ≡ word_of c) × (ds ≡ arguments c)
  read w ds c e =
      let p = and_then_from (λ (p : C × List Data). if is_nothing p.1 then Some p.0 else None) (call_at w ds) c e in
      ended w ds p.0.1 p.0.0 c p.1 p.2

  pub is_spelled : (w : List ℕ) (ds : List Data) (o : Option C) → o ≡ whole_call_at call_at w ds → IsSpelled word_of arguments w ds o
  is_spelled w ds None is = λ c word takes. let e : None ≡ Some c = is ∙ again w ds c word takes in absurd cc
  is_spelled w ds (Some c) is = read w ds c (sym is)

module _ {C : Type 0} (word_of : C → List ℕ) (arguments : C → List Data) where
  pub plain_call_read : (d : Data) (w : List ℕ) (ds : List Data) (o : Option C) → d ≡ worded w ds → IsSpelled word_of arguments w ds o
      → IsReadWithin (λ _. Unit {0}) (plain_call_form word_of arguments) d o
  plain_call_read d w ds None is none =
      λ c _ same. let p = one_word w (word_of c) ds (arguments c) (sym is ∙ same) in none c p.0 p.1
  plain_call_read d w ds (Some c) is spelled = (is ∙ (λ i. worded (spelled.0 i) (spelled.1 i)), tt)

  pub no_keyed_call : (d : Data) → option_and_then word_key_rest (elements d) ≡ None → (c : KeyedCall C) → c.key < 2 ^ 32
      → d ≢ keyed_call_form word_of arguments c
  no_keyed_call d none c small same =
      let P : Type 0 = List ℕ × ℕ × List Data in
      let again : ◌≡◌ {A = Option P} (option_and_then word_key_rest (elements d)) (Some (word_of c.call, c.key, arguments c.call)) =
      ap (λ (x : Data). option_and_then word_key_rest (elements x)) same
      ∙ ap (λ (o : Option (List Data)). option_and_then word_key_rest o) (elements-list (string (word_of c.call) ∷ number_form c.key ∷ arguments c.call))
      ∙ word_key_rest-again (word_of c.call) c.key (arguments c.call) small in
      let e : ◌≡◌ {A = Option P} None (Some (word_of c.call, c.key, arguments c.call)) = sym none ∙ again in
      absurd cc

  module _ (d : Data) (w : List ℕ) (k : ℕ) (ds : List Data) (parts : Some (w, k, ds) ≡ option_and_then word_key_rest (elements d)) where
    parts_read : (d ≡ worded w (number_form k ∷ ds)) × (k < 2 ^ 32)
    parts_read =
        let p = and_then_from word_key_rest (elements d) (w, k, ds) (sym parts) in
        (list_from_elements d p.0 p.1 ∙ ap list (word_key_rest-read p.0 (w, k, ds) p.2), word_key_rest-small p.0 (w, k, ds) p.2)

    pub no_whole_keyed_call : ((c : C) → w ≡ word_of c → ds ≢ arguments c) → (c : KeyedCall C) → c.key < 2 ^ 32 → d ≢ keyed_call_form word_of arguments c
    no_whole_keyed_call none c small same =
        let p = one_word w (word_of c.call) (number_form k ∷ ds) (number_form c.key ∷ arguments c.call) (sym parts_read.0 ∙ same) in
        let takes : ds ≡ arguments c.call = let e = p.1 in cc in
        none c.call p.0 takes

    pub keyed_call_read : (c : C) → w ≡ word_of c → ds ≡ arguments c → (d ≡ keyed_call_form word_of arguments (record { key = k; call = c })) × (k < 2 ^ 32)
    keyed_call_read c word takes = (parts_read.0 ∙ (λ i. worded (word i) (number_form k ∷ takes i)), parts_read.1)
