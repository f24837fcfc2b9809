-- What was written of a history so far, and what is known of the parts that were written.
use Rattle.std.proofs.Common.{◌≡◌, ◌<◌, ◌≤◌, ◌+◌, ℕ, zero, suc, List, [], ◌∷◌, ◌++◌, length, map, take, get_or, Option, sym, ap, ◌∙◌, subst, arith, inl, inr}
use Rattle.std.specs.Prelude.{slice_index_or}
use Rattle.std.proofs.lemmas.Bool.{cases_lt}
use Rattle.std.proofs.lemmas.List.{take_more, map_push, get_or_past}
use Rattle.std.proofs.lemmas.Option.{same_Some}
use Rattle.serde_json.specs.Data.{Data}
use Rattle.serde_json.specs.View.{view}
use Rattle.serde_json.specs.declared.value.Value.{Value}
use Rattle.json_histories.specs.Form.{AreCalls}

front_with : {A : Type 0} (es : List A) (i : ℕ) (e d : A) → e ≡ get_or es i d → i < length es → take (i + 1) es ≡ take i es ++ e ∷ []
front_with es i e d item lt = take_more es i d lt ∙ ap (λ x. take i es ++ x ∷ []) (sym item)

-- the form of one more
pub written_more : {A : Type 0} (form : A → Data) (es : List A) (i : ℕ) (e d : A) (vs : List Value) (v : Value) → e ≡ get_or es i d → i < length es
    → map view vs ≡ map form (take i es) → view v ≡ form e → map view (vs ++ v ∷ []) ≡ map form (take (i + 1) es)
written_more form es i e d vs v item lt before here =
    map_push view vs v
    ∙ ap (λ (ds : List Data). ds ++ view v ∷ []) before
    ∙ ap (λ (x : Data). map form (take i es) ++ x ∷ []) here
    ∙ sym (ap (map form) (front_with es i e d item lt) ∙ map_push form (take i es) e)

-- the parts of a history are its name, its sessions and its start
pub parts_written : (values pushed all : List Value) (v : Value) (name sessions : Data) (written start : List Data) → map view values ≡ name ∷ []
    → pushed ≡ values ++ v ∷ [] → view v ≡ sessions → map view all ≡ map view pushed ++ written → written ≡ start → map view all ≡ name ∷ sessions ∷ start
parts_written values pushed all v name sessions written start named push formed last same =
    let front : map view pushed ≡ name ∷ sessions ∷ [] =
    ap (map view) push ∙ map_push view values v ∙ ap (λ (ds : List Data). ds ++ view v ∷ []) named ∙ ap (λ (d : Data). name ∷ d ∷ []) formed in
    last ∙ ap (λ (ds : List Data). ds ++ written) front ∙ ap (λ (ds : List Data). name ∷ sessions ∷ ds) same

-- one call more
module _ {C R : Type 0} (is_call : C → Type 0) where
  pub no_calls : AreCalls {C = C} {R = R} is_call []
  no_calls i c r here = absurd cc

  one_more_call : (es : List (C × Option R)) (e : C × Option R) → is_call e.0 → AreCalls is_call es → AreCalls is_call (es ++ e ∷ [])
  one_more_call [] e here before zero c r at_it =
      let same : e ≡ (c, r) = same_Some e (c, r) at_it in
      subst (λ (x : C × Option R). is_call x.0) same here
  one_more_call [] e here before (suc i) c r at_it = absurd cc
  one_more_call (x ∷ es) e here before zero c r at_it = before 0 c r at_it
  one_more_call (x ∷ es) e here before (suc i) c r at_it = one_more_call es e here (λ k. before (suc k)) i c r at_it

  pub calls_more : (es : List (C × Option R)) (i : ℕ) (e : C × Option R) → e ≡ get_or es i e → i < length es → is_call e.0
      → AreCalls is_call (take i es) → AreCalls is_call (take (i + 1) es)
  calls_more es i e item lt here before =
      subst (λ (xs : List (C × Option R)). AreCalls is_call xs) (sym (front_with es i e e item lt)) (one_more_call (take i es) e here before)

-- what holds at each place so far, and at the next
pub holds_more : (P : ℕ → Type 0) (n : ℕ) → ((k : ℕ) → k < n → P k) → P n → (k : ℕ) → k < n + 1 → P k
holds_more P n before here k lt =
    elim (cases_lt k n) [
      | inl below ↦ before k below
      | inr above ↦ let same : n ≡ k = omega arith in subst P same here
    ]

-- what holds of each session and of the empty one holds at each place
pub holds_of_each : {A : Type 0} (P : List A → Type 0) (ss : List (List A)) (n : ℕ) → length ss ≤ n → P []
    → ((k : ℕ) → k < n → P (slice_index_or ss k [])) → (k : ℕ) → P (slice_index_or ss k [])
holds_of_each P ss n all none each k =
    elim (cases_lt k n) [
      | inl below ↦ each k below
      | inr above ↦
          let past : slice_index_or ss k [] ≡ [] = get_or_past ss k [] (omega arith) in
          subst P (sym past) none
    ]
