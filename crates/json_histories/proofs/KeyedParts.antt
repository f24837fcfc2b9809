-- The word, the key and the rest of a list of values.
use Rattle.std.proofs.Common.{◌≡◌, ℕ, ◌-◌, ◌<◌, ◌≤◌, List, [], ◌∷◌, length, map, take, drop, get_or, None, refl, arith}
use Rattle.std.specs.Prelude.{option_and_then, option_map}
use Rattle.std.proofs.lemmas.List.{take_all}
use Rattle.serde_json.specs.Data.{Data}
use Rattle.serde_json.specs.Find.{as_str}
use Rattle.json_histories.specs.Spelling.{key_at, word_key_rest}

module _ {V : Type 0} (view : V → Data) where
  pub few_values : (vs : List V) → length vs < 2 → word_key_rest (map view vs) ≡ None
  few_values [] few = refl
  few_values (v ∷ []) few = refl
  few_values (v ∷ w ∷ vs) few = absurd (omega arith)

  pub word_and_key : (vs : List V) (w k : V) → w ≡ get_or vs 0 w → k ≡ get_or vs 1 k → 2 ≤ length vs
      → word_key_rest (map view vs)
      ≡ option_and_then (λ (word : List ℕ). option_map (λ (key : ℕ). (word, key, map view (take (length vs - 2) (drop 2 vs)))) (key_at (view k))) (as_str (view w))
  word_and_key [] w k first second many = absurd (omega arith)
  word_and_key (x ∷ []) w k first second many = absurd (omega arith)
  word_and_key (x ∷ y ∷ vs) w k first second many =
      let all : take (length (x ∷ y ∷ vs) - 2) vs ≡ vs = take_all (length (x ∷ y ∷ vs) - 2) vs (omega arith) in
      rw (first, second, all) refl
