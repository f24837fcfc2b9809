-- What reads as a history is its form, and the form of a history reads as that history and no other.
use Rattle.std.proofs.Common.{◌≡◌, ◌⊎◌, ℕ, zero, suc, ◌<◌, ◌≤◌, Bool, true, false, ◌||◌, List, [], ◌∷◌, length, map, take, Option, Some, None, refl, sym, ap, ◌∙◌, arith, inl, inr}
use Rattle.std.specs.Prelude.{slice_get, slice_index_or, option_map}
use Rattle.std.proofs.lemmas.Bool.{le-ltb, cases_Bool}
use Rattle.std.proofs.lemmas.List.{length-map}
use Rattle.serde_json.specs.Data.{Data}
use Rattle.model_history.specs.declared.op_id.OpId.{OpId}
use Rattle.model_history.specs.History.{IsSession}
use Rattle.json_histories.specs.Json.{list, elements}
use Rattle.json_histories.specs.Form.{Fits, AreSessions, EachCall, ReadAs, session_at, session_form}
use Rattle.json_histories.specs.Reading.{is_unknown_return, entry_refusal, operation_refusal, operations_refusal, session_refusal, sessions_refusal}
use Rattle.json_histories.proofs.JsonLists.{elements-list, list_from_elements}
use Rattle.json_histories.proofs.SessionReading.{form_at, unknown_among}
use Rattle.json_histories.proofs.FirstRefusal.{all_none}

some_is : {A : Type 0} (x y : A) → Option.Some x ≡ Some y → x ≡ y
some_is x y e = cc

-- lists of options that hold the same hold the same values
same_values : {A : Type 0} (xs ys : List A) → map (λ x. Some x) xs ≡ map (λ x. Some x) ys → xs ≡ ys
same_values [] [] e = refl
same_values [] (y ∷ ys) e = absurd cc
same_values (x ∷ xs) [] e = absurd cc
same_values (x ∷ xs) (y ∷ ys) e =
    let head : x ≡ y = cc in
    let tail : map (λ z. Some z) xs ≡ map (λ z. Some z) ys = cc in
    rw (head, same_values xs ys tail) refl

option_map_some : {A B : Type 0} (f : A → B) (o : Option A) (y : B) → option_map f o ≡ Some y → (x : A) × (o ≡ Some x) × (f x ≡ y)
option_map_some f None y e = absurd cc
option_map_some f (Some x) y e = (x, refl, cc)

module _ {C R : Type 0} (operation_at : Data → Option (C × Option R)) where
  pub same_sessions : (ss ts : List (List (C × Option R))) (ds : List Data) → ReadAs operation_at ds ss → ReadAs operation_at ds ts → ss ≡ ts
  same_sessions [] [] ds first second = refl
  same_sessions [] (t ∷ ts) ds first second = let e = sym first ∙ second in absurd cc
  same_sessions (s ∷ ss) [] ds first second = let e = sym first ∙ second in absurd cc
  same_sessions (s ∷ ss) (t ∷ ts) [] first second = absurd cc
  same_sessions (s ∷ ss) (t ∷ ts) (d ∷ ds) first second =
      let a : session_at operation_at d ≡ Some (map (λ e. Some e) s) = cc in
      let b : session_at operation_at d ≡ Some (map (λ e. Some e) t) = cc in
      let head : map (λ (e : C × Option R). Some e) s ≡ map (λ (e : C × Option R). Some e) t = some_is _ _ (sym a ∙ b) in
      let first_rest : ReadAs operation_at ds ss = cc in
      let second_rest : ReadAs operation_at ds ts = cc in
      rw (same_values s t head, same_sessions ss ts ds first_rest second_rest) refl

-- each call that was read is one of its type
module _ {C R : Type 0} (operation_at : Data → Option (C × Option R)) (is_call : C → Type 0)
    (call_law : (d : Data) (c : C) (r : Option R) → operation_at d ≡ Some (c, r) → is_call c) where
  pub calls_read : (ds : List Data) (ss : List (List (C × Option R))) → ReadAs operation_at ds ss → EachCall is_call ss
  calls_read [] [] read s i c r here = absurd cc
  calls_read [] (es ∷ ss) read s i c r here = absurd cc
  calls_read (d ∷ ds) [] read s i c r here = absurd cc
  calls_read (d ∷ ds) (es ∷ ss) read zero i c r here =
      let first : session_at operation_at d ≡ Some (map (λ e. Some e) es) = cc in
      let p = option_map_some (map operation_at) (elements d) (map (λ e. Some e) es) first in
      let f = form_at operation_at p.0 es i (c, r) p.2 here in
      call_law f.0 c r f.2
  calls_read (d ∷ ds) (es ∷ ss) read (suc s) i c r here = calls_read ds ss (cc) s i c r here

module _ {C R : Type 0} (operation_at : Data → Option (C × Option R)) (operation_form : C → Option R → Data) (fits : C → R → Bool) where
  -- what reads as operations are their forms
  module _ (read_law : (d : Data) (c : C) (r : Option R) → operation_at d ≡ Some (c, r) → (d ≡ operation_form c r) × Fits fits c r) where
    operations_formed : (ds : List Data) (es : List (C × Option R)) → map operation_at ds ≡ map (λ x. Some x) es → ds ≡ map (λ e. operation_form e.0 e.1) es
    operations_formed [] [] same = refl
    operations_formed [] (x ∷ es) same = absurd cc
    operations_formed (d ∷ ds) [] same = absurd cc
    operations_formed (d ∷ ds) (x ∷ es) same =
        let p : operation_at d ≡ Some (x.0, x.1) = cc in
        let q : map operation_at ds ≡ map (λ y. Some y) es = cc in
        rw ((read_law d x.0 x.1 p).0, operations_formed ds es q) refl

    session_formed : (d : Data) (es : List (C × Option R)) → session_at operation_at d ≡ Some (map (λ e. Some e) es) → d ≡ session_form operation_form es
    session_formed d es read =
        let p = option_map_some (map operation_at) (elements d) (map (λ e. Some e) es) read in
        list_from_elements d p.0 p.1 ∙ ap list (operations_formed p.0 es p.2)

    pub sessions_formed : (ds : List Data) (ss : List (List (C × Option R))) → ReadAs operation_at ds ss → ds ≡ map (session_form operation_form) ss
    sessions_formed [] [] read = refl
    sessions_formed [] (s ∷ ss) read = absurd cc
    sessions_formed (d ∷ ds) [] read = absurd cc
    sessions_formed (d ∷ ds) (s ∷ ss) read =
        let here : session_at operation_at d ≡ Some (map (λ e. Some e) s) = cc in
        let rest : ReadAs operation_at ds ss = cc in
        rw (session_formed d s here, sessions_formed ds ss rest) refl

  -- forms of operations read as these
  module _ (is_call : C → Type 0) (again_law : (c : C) (r : Option R) → is_call c → Fits fits c r → operation_at (operation_form c r) ≡ Some (c, r)) where
    fits_here : (c : C) (r : Option R) → ((v : R) → r ≡ Some v → fits c v ≡ true) → Fits fits c r
    fits_here c None fitting = tt
    fits_here c (Some v) fitting = fitting v refl

    operations_read : (es : List (C × Option R)) → ((i : ℕ) (c : C) (r : R) → slice_get es i ≡ Some (c, Some r) → fits c r ≡ true)
        → ((i : ℕ) (c : C) (r : Option R) → slice_get es i ≡ Some (c, r) → is_call c)
        → map operation_at (map (λ (e : C × Option R). operation_form e.0 e.1) es) ≡ map (λ e. Some e) es
    operations_read [] fitting calls = refl
    operations_read (e ∷ es) fitting calls =
        let fit : Fits fits e.0 e.1 = fits_here e.0 e.1 (λ v same. fitting 0 e.0 v (ap (λ r. Some (e.0, r)) same)) in
        rw (again_law e.0 e.1 (calls 0 e.0 e.1 refl) fit, operations_read es (λ i. fitting (suc i)) (λ i. calls (suc i))) refl

    pub sessions_read : (ss : List (List (C × Option R))) → AreSessions fits ss → EachCall is_call ss → ReadAs operation_at (map (session_form operation_form) ss) ss
    sessions_read [] sessions calls = refl
    sessions_read (s ∷ ss) sessions calls =
        let here : session_at operation_at (session_form operation_form s) ≡ Some (map (λ e. Some e) s) =
        ap (option_map (map operation_at)) (elements-list (map (λ (e : C × Option R). operation_form e.0 e.1) s))
        ∙ ap (λ xs. Some xs) (operations_read s (sessions 0).fitting (calls 0)) in
        rw (here, sessions_read ss (λ i. sessions (suc i)) (λ i. calls (suc i))) refl

-- an entry stands at each place below the length
entry_there : {A : Type 0} (xs : List A) (i : ℕ) → i < length xs → (x : A) × (slice_get xs i ≡ Some x)
entry_there [] i lt = absurd (omega arith)
entry_there (x ∷ xs) zero lt = (x, refl)
entry_there (x ∷ xs) (suc i) lt = entry_there xs i (omega arith)

or_cases : (a b : Bool) → (a || b) ≡ true → (a ≡ true) ⊎ (b ≡ true)
or_cases true b e = inl refl
or_cases false b e = inr e

-- what reads as sessions is not refused
module _ {C R : Type 0} (operation_at : Data → Option (C × Option R)) where
  unknown_at : (ds : List Data) (es : List (C × Option R)) (i : ℕ) → map operation_at ds ≡ map (λ x. Some x) es → unknown_among operation_at (take i ds) ≡ true
      → (j : ℕ) × (c : C) × (j < i) × (slice_get es j ≡ Some (c, None))
  unknown_at [] es zero same unknown = absurd cc
  unknown_at [] es (suc i) same unknown = absurd cc
  unknown_at (d ∷ ds) [] i same unknown = absurd cc
  unknown_at (d ∷ ds) (x ∷ es) zero same unknown = absurd cc
  unknown_at (d ∷ ds) ((c, None) ∷ es) (suc i) same unknown = (0, c, omega arith, refl)
  unknown_at (d ∷ ds) ((c, Some r) ∷ es) (suc i) same unknown =
      let here : operation_at d ≡ Some (c, Some r) = cc in
      let rest : map operation_at ds ≡ map (λ x. Some x) es = cc in
      elim (or_cases (is_unknown_return (operation_at d)) (unknown_among operation_at (take i ds)) unknown) [
        | inl first ↦ let bad : is_unknown_return (operation_at d) ≡ false = rw here refl in absurd cc
        | inr later ↦ let p = unknown_at ds es i rest later in (suc p.0, p.1, omega arith, p.3)
      ]

  fine_entry : (e : C × Option R) (seen : Bool) (op : OpId) → ((c : C) (r : R) → e ≡ (c, Some r) → seen ≡ false) → entry_refusal (Some e) seen op ≡ None
  fine_entry (c, None) seen op none_before = refl
  fine_entry (c, Some r) seen op none_before = rw (none_before c r refl) refl

  operation_fine : (fits : C → R → Bool) (s : ℕ) (ds : List Data) (es : List (C × Option R)) → map operation_at ds ≡ map (λ x. Some x) es → IsSession fits es
      → (i : ℕ) → i < length ds → operation_refusal operation_at s ds i ≡ None
  operation_fine fits s ds es same session i lt =
      let count = simp length-map at (ap length same) in
      let e = entry_there es i (omega arith) in
      let d = form_at operation_at ds es i e.0 same e.1 in
      let seen = unknown_among operation_at (take i ds) in
      rw (d.1, d.2) (fine_entry e.0 seen (record { session = s; index = i }) (λ c r is. elim (cases_Bool seen) [
        | inl found ↦ let p = unknown_at ds es i same found in absurd (session.known_first p.0 i p.1 c r p.2 p.3 (e.1 ∙ ap (λ x. Some x) is))
        | inr none ↦ none
      ]))

  session_fine : (fits : C → R → Bool) (s : ℕ) (d : Data) (es : List (C × Option R)) → session_at operation_at d ≡ Some (map (λ e. Some e) es) → IsSession fits es
      → operations_refusal operation_at s (elements d) ≡ None
  session_fine fits s d es read session =
      let p = option_map_some (map operation_at) (elements d) (map (λ e. Some e) es) read in
      let count = simp length-map at (ap length p.2) in
      let short : length p.0 ≤ 256 = let h = session.short in omega arith in
      rw (p.1, le-ltb 256 (length p.0) short) (all_none (length p.0) (operation_refusal operation_at s p.0) (operation_fine fits s p.0 es p.2 session))

  -- the list at a place of what was read
  session_there : (ds : List Data) (ss : List (List (C × Option R))) (s : ℕ) → ReadAs operation_at ds ss → s < length ds
      → (d : Data) × (slice_get ds s ≡ Some d) × (session_at operation_at d ≡ Some (map (λ e. Some e) (slice_index_or ss s [])))
  session_there [] ss s read lt = absurd (omega arith)
  session_there (d ∷ ds) [] s read lt = absurd cc
  session_there (d ∷ ds) (es ∷ ss) zero read lt = (d, refl, cc)
  session_there (d ∷ ds) (es ∷ ss) (suc s) read lt = session_there ds ss s (cc) (omega arith)

  pub sessions_fine : (fits : C → R → Bool) (ds : List Data) (ss : List (List (C × Option R))) → ReadAs operation_at ds ss → AreSessions fits ss → length ss ≤ 16
      → sessions_refusal operation_at ds ≡ None
  sessions_fine fits ds ss read sessions few =
      let count = simp length-map at (ap length read) in
      let short : length ds ≤ 16 = omega arith in
      rw (le-ltb 16 (length ds) short) (all_none (length ds) (session_refusal operation_at ds) (λ s lt.
      let p = session_there ds ss s read lt in rw p.1 (session_fine fits s p.0 (slice_index_or ss s []) p.2 (sessions s))))
