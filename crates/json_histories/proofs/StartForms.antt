-- The table of initial values, from the list that holds its form.
use Rattle.std.proofs.Common.{◌≡◌, ◌<◌, ◌≤◌, List, [], ◌∷◌, length, map, get_or, Option, Some, None, refl, arith}
use Rattle.std.specs.Prelude.{option_and_then}
use Rattle.serde_json.specs.Data.{Data}
use Rattle.json_histories.specs.Spelling.{entries_at, table_at, table_elements}

module _ {V S : Type 0} (view : V → Data) (start_at : Data → Option S) where
  pub no_value : (vs : List V) → length vs < 1 → table_at start_at (map view vs) ≡ Some []
  no_value [] none = refl
  no_value (v ∷ vs) none = absurd (omega arith)

  pub one_value : (vs : List V) (v : V) → v ≡ get_or vs 0 v → 1 ≤ length vs → length vs < 2
      → table_at start_at (map view vs) ≡ option_and_then (entries_at start_at None) (table_elements (view v))
  one_value [] v item some few = absurd (omega arith)
  one_value (w ∷ []) v item some few = rw item refl
  one_value (w ∷ x ∷ vs) v item some few = absurd (omega arith)

  pub more_values : (vs : List V) → 2 ≤ length vs → table_at start_at (map view vs) ≡ None
  more_values [] many = absurd (omega arith)
  more_values (v ∷ []) many = absurd (omega arith)
  more_values (v ∷ w ∷ vs) many = refl
