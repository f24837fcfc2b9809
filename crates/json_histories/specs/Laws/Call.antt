-- What is common to the laws of all spellings: the word of a call, and a number behind it.
use Rattle.std.specs.Prelude.{◌≡◌, ◌≢◌, ◌⊎◌, ℕ, nat_eq, List, [], ◌∷◌, ◌++◌, Bool, true, false, Option, Some, None, option_map, if◌then◌else◌, refl}
use Rattle.std.specs.Cmp.Lexicographic.{pointwise, same_text}
use Rattle.std.proofs.Common.{ap, sym, ◌∙◌, ⊎_elim, inl, inr}
use Rattle.std.proofs.lemmas.Bool.{cases_Bool}
use Rattle.std.proofs.lemmas.Option.{same_Some}
use Rattle.serde_json.specs.Data.{Data, number, unsigned}
use Rattle.serde_json.specs.Written.{has_float}
use Rattle.json_histories.specs.Json.{whole_number}
use Rattle.json_histories.specs.Laws.Json.{map_from, whole_number-read}
use Rattle.json_histories.specs.Spelling.{first_number, call_with, no_start_form, no_start_at}
use Rattle.json_histories.specs.Spelled.{IsStartSpelling}

-- what is read by a word is read for this word, or for another one
pub by_word : {A : Type 0} (w word : List ℕ) (here other : Option A) (a : A) → (if pointwise nat_eq w word then here else other) ≡ Some a
    → ((w ≡ word) × (here ≡ Some a)) ⊎ (other ≡ Some a)
by_word w word here other a e =
    ⊎_elim
    (λ (t : pointwise nat_eq w word ≡ true). inl (same_text w word (sym t), (rw t at e)))
    (λ (f : pointwise nat_eq w word ≡ false). inr (rw f at e))
    (cases_Bool (pointwise nat_eq w word))

module _ {C : Type 0} (word_of : C → List ℕ) (arguments : C → List Data) where
  -- a call that takes nothing
  pub alone_read : (c : C) (w : List ℕ) (ds rest : List Data) (d : C) → w ≡ word_of c → arguments c ≡ []
      → ◌≡◌ {A = Option (C × List Data)} (Some (c, ds)) (Some (d, rest)) → (w ≡ word_of d) × (ds ≡ arguments d ++ rest)
  alone_read c w ds rest d word none e =
      let same : ◌≡◌ {A = C × List Data} (c, ds) (d, rest) = same_Some (c, ds) (d, rest) e in
      let call : c ≡ d = ap (λ x. x.0) same in
      let behind : ds ≡ rest = ap (λ x. x.1) same in
      rw (← call, ← behind) (word, rw none refl)

  taken : (c : C) (w : List ℕ) (x : Data) (n : ℕ) (ds rest : List Data) (d : C) → w ≡ word_of c → arguments c ≡ number (unsigned n) ∷ []
      → x ≡ number (unsigned n) → c ≡ d → ds ≡ rest → (w ≡ word_of d) × (x ∷ ds ≡ arguments d ++ rest)
  taken c w x n ds rest d word takes form call behind = rw (← call, ← behind) (word, rw (takes, form) refl)

  -- a call that takes a number
  pub with_number_read : (call : ℕ → C) (w : List ℕ) (ds rest : List Data) (d : C) → ((n : ℕ) → w ≡ word_of (call n))
      → ((n : ℕ) → arguments (call n) ≡ number (unsigned n) ∷ []) → call_with call ds ≡ Some (d, rest) → (w ≡ word_of d) × (ds ≡ arguments d ++ rest)
  with_number_read call w [] rest d word takes e = absurd cc
  with_number_read call w (x ∷ ds) rest d word takes e =
      let p = map_from (λ (p : ℕ × List Data). (call p.0, p.1)) (first_number (x ∷ ds)) (d, rest) e in
      let q = map_from (λ (n : ℕ). (n, ds)) (whole_number x) p.0 p.1 in
      let same : ◌≡◌ {A = C × List Data} (call q.0, ds) (d, rest) = ap (λ (y : ℕ × List Data). (call y.0, y.1)) q.2 ∙ p.2 in
      taken (call q.0) w x q.0 ds rest d (word q.0) (takes q.0) (whole_number-read x q.0 q.1) (ap (λ y. y.0) same) (ap (λ y. y.1) same)

  -- a call that takes a number, or else one that takes nothing
  pub number_or_alone_read : (call : ℕ → C) (alone : C) (word_of_call word_alone : List ℕ) → ((n : ℕ) → word_of_call ≡ word_of (call n))
      → ((n : ℕ) → arguments (call n) ≡ number (unsigned n) ∷ []) → word_alone ≡ word_of alone → arguments alone ≡ []
      → (w : List ℕ) (ds rest : List Data) (d : C)
      → (if pointwise nat_eq w word_of_call then call_with call ds else (if pointwise nat_eq w word_alone then Some (alone, ds) else None)) ≡ Some (d, rest)
      → (w ≡ word_of d) × (ds ≡ arguments d ++ rest)
  number_or_alone_read call alone word_of_call word_alone named takes named_alone none w ds rest d e =
      ⊎_elim
      (λ p. with_number_read call w ds rest d (λ n. p.0 ∙ named n) takes p.1)
      (λ other. ⊎_elim
      (λ p. alone_read alone w ds rest d (p.0 ∙ named_alone) none p.1)
      (λ neither. absurd cc)
      (by_word w word_alone (Some (alone, ds)) None (d, rest) other))
      (by_word w word_of_call (call_with call ds) _ (d, rest) e)

module _ {R : Type 0} (ret_form : R → List Data) (fits : R → Bool) where
  said_is : {A : Type 0} (form : A → Data) (said : A → R) → ((a : A) → ret_form (said a) ≡ form a ∷ []) → ((a : A) → fits (said a) ≡ true)
      → (d : Data) (r : R) (a : A) → d ≡ form a → said a ≡ r → (d ∷ [] ≡ ret_form r) × (fits r ≡ true)
  said_is form said forms fine d r a is ret = rw (← ret, is) (sym (forms a), fine a)

  -- a return that says what is read of one value
  pub said_read : {A : Type 0} (form : A → Data) (value_at : Data → Option A) → ((d : Data) (a : A) → value_at d ≡ Some a → d ≡ form a)
      → (said : A → R) → ((a : A) → ret_form (said a) ≡ form a ∷ []) → ((a : A) → fits (said a) ≡ true)
      → (d : Data) (r : R) → option_map said (value_at d) ≡ Some r → (d ∷ [] ≡ ret_form r) × (fits r ≡ true)
  said_read form value_at value_read said forms fine d r e =
      let p = map_from said (value_at d) r e in
      said_is form said forms fine d r p.0 (value_read d p.0 p.1) p.2

  -- a return that says a number
  pub number_said : (said : ℕ → R) → ((n : ℕ) → ret_form (said n) ≡ number (unsigned n) ∷ []) → ((n : ℕ) → fits (said n) ≡ true)
      → (d : Data) (r : R) → option_map said (whole_number d) ≡ Some r → (d ∷ [] ≡ ret_form r) × (fits r ≡ true)
  number_said = said_read (λ (n : ℕ). number (unsigned n)) whole_number whole_number-read

  -- a return that says no more than that the call is done
  pub done_read : (done : R) → ret_form done ≡ [] → fits done ≡ true → (r : R) → ◌≡◌ {A = Option R} (Some done) (Some r)
      → ([] ≡ ret_form r) × (fits r ≡ true)
  done_read done form fine r e = let h : done ≡ r = same_Some done r e in rw (← h) (sym form, fine)

-- ---- an object that has no start but the plain one

pub no_start_read : (d : Data) (s : Unit {0}) → no_start_at d ≡ Some s → (d ≡ no_start_form s) × Unit {0} × (s ≢ tt)
no_start_read d s e = absurd cc

pub no_start_again : (s : Unit {0}) → Unit {0} → s ≢ tt → no_start_at (no_start_form s) ≡ Some s
no_start_again s _ other = absurd (other refl)

pub no_start_has_no_float : (s : Unit {0}) → has_float (no_start_form s) ≡ false
no_start_has_no_float s = refl

pub no_start_is_spelling : IsStartSpelling tt (λ _. Unit {0}) no_start_form no_start_at
no_start_is_spelling = record { start_read = no_start_read; start_again = no_start_again; start_has_no_float = no_start_has_no_float }
