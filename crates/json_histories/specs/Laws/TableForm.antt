-- Reading undoes the form of a table of initial values, and nothing else is read: for each object by its own laws.
use Rattle.std.specs.Prelude.{◌≡◌, ◌≢◌, ℕ, zero, suc, ◌+◌, ◌<◌, ◌≤◌, ◌^◌, ◌&&◌, nat_lt, nat_le, List, [], ◌∷◌, length, map, All, true, false, Option, Some, None, option_map, option_and_then, if◌then◌else◌, refl}
use Rattle.std.specs.List.Sorted.{IsStrictlyIncreasing}
use Rattle.std.specs.Map.{keys_of}
use Rattle.std.proofs.Common.{ap, ◌∙◌, arith, add-one}
use Rattle.std.proofs.lemmas.Bool.{ltb-true, lt-ltb, leb-true, le-leb, and_parts, and_from}
use Rattle.std.proofs.lemmas.List.{length-map}
use Rattle.std.proofs.lemmas.List.Elements.{All-nil, All-cons, All-head, All-tail, All-weaker}
use Rattle.std.proofs.lemmas.Option.{same_Some}
use Rattle.serde_json.specs.Data.{Data, number, unsigned}
use Rattle.serde_json.specs.Written.{has_float}
use Rattle.model_objects.specs.Table.{IsTable}
use Rattle.model_objects.specs.Laws.Keyed.{empty_is_table}
use Rattle.model_objects.specs.declared.table.TheConstants.{MAX_ENTRIES}
use Rattle.json_histories.specs.Form.{HaveNoFloats}
use Rattle.json_histories.specs.Json.{list, elements}
use Rattle.json_histories.specs.Laws.Json.{elements-list, list_from_elements, and_then_from, map_from, chosen}
use Rattle.json_histories.specs.Laws.KeyedForm.{key_at-read, key_at-again}
use Rattle.json_histories.specs.Spelling.{key_at, is_above, entry_form, table_form, entry_parts_at, entry_at, entries_at, table_elements, table_at}

-- keys that rise from above a key
abbrev pub Rise : {S : Type 0} → Option ℕ → List (ℕ × S) → Type 0
Rise before [] = Unit {0}
Rise before (e ∷ es) = (is_above before e.0 ≡ true) × Rise (Some e.0) es

increasing_tail : (k : ℕ) (ks : List ℕ) → IsStrictlyIncreasing (k ∷ ks) → IsStrictlyIncreasing ks
increasing_tail k ks up i within =
    let outer : suc i + 1 < length (k ∷ ks) = omega arith in
    rw add-one (rw add-one at (up (suc i) outer))

module _ {S : Type 0} where
  rising_from : (before : Option ℕ) (es : List (ℕ × S)) → Rise before es → IsStrictlyIncreasing (keys_of es)
  rising_from before [] rise k within = absurd (omega arith)
  rising_from before (e ∷ []) rise k within = absurd (omega arith)
  rising_from before (e ∷ f ∷ es) rise zero within = ltb-true e.0 f.0 rise.1.0
  rising_from before (e ∷ f ∷ es) rise (suc k) within =
      let inner : k + 1 < length (keys_of (f ∷ es)) = omega arith in
      rw add-one (rw add-one at (rising_from (Some e.0) (f ∷ es) rise.1 k inner))

  rise_from : (before : ℕ) (es : List (ℕ × S)) → IsStrictlyIncreasing (before ∷ keys_of es) → Rise (Some before) es
  rise_from before [] up = tt
  rise_from before (e ∷ es) up =
      let first : before < e.0 = up 0 (omega arith) in
      (lt-ltb before e.0 first, rise_from e.0 es (increasing_tail before (keys_of (e ∷ es)) up))

  rise_from_none : (es : List (ℕ × S)) → IsStrictlyIncreasing (keys_of es) → Rise None es
  rise_from_none [] up = tt
  rise_from_none (e ∷ es) up = (refl, rise_from e.0 es up)

module _ {S : Type 0} (plain : S) (is_start : S → Type 0) (start_form : S → Data) (start_at : Data → Option S) where
  -- what may stand in a table
  pub record IsEntry (e : ℕ × S) : Type 0 where
    pub small : e.0 < 2 ^ 32
    pub good : is_start e.1
    pub other : e.1 ≢ plain

  module _ (start_read : (d : Data) (s : S) → start_at d ≡ Some s → (d ≡ start_form s) × is_start s × (s ≢ plain)) where
    entry_of_parts : (k s : Data) (key : ℕ) (start : S) (e : ℕ × S) → (k ≡ number (unsigned key)) → (key < 2 ^ 32)
        → s ≡ start_form start → is_start start → start ≢ plain → (key, start) ≡ e
        → (k ∷ s ∷ [] ≡ number (unsigned e.0) ∷ start_form e.1 ∷ []) × IsEntry e
    entry_of_parts k s key start e number_is small form good other same =
        rw (← same) (rw (number_is, form) refl, record { small = small; good = good; other = other })

    entry_parts_read : (ds : List Data) (e : ℕ × S) → entry_parts_at start_at ds ≡ Some e
        → (ds ≡ number (unsigned e.0) ∷ start_form e.1 ∷ []) × IsEntry e
    entry_parts_read [] e read = absurd cc
    entry_parts_read (k ∷ []) e read = absurd cc
    entry_parts_read (k ∷ s ∷ []) e read =
        let p = and_then_from (λ (key : ℕ). option_map (λ (start : S). (key, start)) (start_at s)) (key_at k) e read in
        let q = map_from (λ (start : S). (p.0, start)) (start_at s) e p.2 in
        let key = key_at-read k p.0 p.1 in
        let start = start_read s q.0 q.1 in
        entry_of_parts k s p.0 q.0 e key.0 key.1 start.0 start.1 start.2 q.2
    entry_parts_read (k ∷ s ∷ d ∷ ds) e read = absurd cc

    entry_read : (d : Data) (e : ℕ × S) → entry_at start_at d ≡ Some e → (d ≡ entry_form start_form e) × IsEntry e
    entry_read d e read =
        let p = and_then_from (entry_parts_at start_at) (elements d) e read in
        let parts = entry_parts_read p.0 e p.2 in
        (list_from_elements d p.0 p.1 ∙ ap list parts.0, parts.1)

    entries_of_parts : (d : Data) (ds : List Data) (before : Option ℕ) (e : ℕ × S) (rest es : List (ℕ × S))
        → (d ≡ entry_form start_form e) → IsEntry e → is_above before e.0 ≡ true
        → (ds ≡ map (entry_form start_form) rest) → Rise (Some e.0) rest → All IsEntry rest → e ∷ rest ≡ es
        → (d ∷ ds ≡ map (entry_form start_form) es) × Rise before es × All IsEntry es
    entries_of_parts d ds before e rest es form entry above forms rise all same =
        rw (← same) (rw (form, forms) refl, (above, rise), All-cons IsEntry e rest entry all)

    entries_read : (before : Option ℕ) (ds : List Data) (es : List (ℕ × S)) → entries_at start_at before ds ≡ Some es
        → (ds ≡ map (entry_form start_form) es) × Rise before es × All IsEntry es
    entries_read before [] es read = let same : [] ≡ es = same_Some [] es read in rw (← same) (refl, tt, All-nil IsEntry)
    entries_read before (d ∷ ds) es read =
        let p = and_then_from (λ (e : ℕ × S). if is_above before e.0 then option_map (λ (es : List (ℕ × S)). e ∷ es) (entries_at start_at (Some e.0) ds) else None) (entry_at start_at d) es read in
        let q = chosen (is_above before p.0.0) (option_map (λ (es : List (ℕ × S)). p.0 ∷ es) (entries_at start_at (Some p.0.0) ds)) es p.2 in
        let r = map_from (λ (es : List (ℕ × S)). p.0 ∷ es) (entries_at start_at (Some p.0.0) ds) es q.1 in
        let entry = entry_read d p.0 p.1 in
        let rest = entries_read (Some p.0.0) ds r.0 r.1 in
        entries_of_parts d ds before p.0 r.0 es entry.0 entry.1 q.0 rest.0 rest.1 rest.2 r.2

    table_of_entries : (d : Data) (ds : List Data) (es : List (ℕ × S)) → d ≡ list ds → 0 < length ds → length ds ≤ MAX_ENTRIES
        → ds ≡ map (entry_form start_form) es → Rise None es → All IsEntry es
        → (d ∷ [] ≡ table_form start_form es) × IsTable plain is_start es × Unit {0}
    table_of_entries d ds [] is_list some few forms rise all = let none : length ds ≡ 0 = ap length forms in absurd (omega arith)
    table_of_entries d ds (e ∷ es) is_list some few forms rise all =
        let count : length ds ≡ length (e ∷ es) = ap length forms ∙ length-map (e ∷ es) (entry_form start_form) in (
          ap (λ (x : Data). x ∷ []) (is_list ∙ ap list forms),
          record {
            rising = rising_from None (e ∷ es) rise;
            short = omega arith;
            small = All-weaker IsEntry (λ x. x.0 < 2 ^ 32) (λ x entry. entry.small) (e ∷ es) all;
            not_plain = All-weaker IsEntry (λ x. x.1 ≢ plain) (λ x entry. entry.other) (e ∷ es) all;
            each_start = All-weaker IsEntry (λ x. is_start x.1) (λ x entry. entry.good) (e ∷ es) all;
          },
          tt,
        )

    pub table_read : (ds : List Data) (es : List (ℕ × S)) → table_at start_at ds ≡ Some es
        → (ds ≡ table_form start_form es) × IsTable plain is_start es × Unit {0}
    table_read [] es read = let same : [] ≡ es = same_Some [] es read in rw (← same) (refl, empty_is_table plain is_start, tt)
    table_read (d ∷ []) es read =
        let p = and_then_from (entries_at start_at None) (table_elements d) es read in
        let q = and_then_from (λ (ds : List Data). if nat_lt 0 (length ds) && nat_le (length ds) MAX_ENTRIES then Some ds else None) (elements d) p.0 p.1 in
        let r = chosen (nat_lt 0 (length q.0) && nat_le (length q.0) MAX_ENTRIES) (Some q.0) p.0 q.2 in
        let tests = and_parts (nat_lt 0 (length q.0)) (nat_le (length q.0) MAX_ENTRIES) r.0 in
        let same : q.0 ≡ p.0 = same_Some q.0 p.0 r.1 in
        let entries = entries_read None p.0 es p.2 in
        table_of_entries d q.0 es (list_from_elements d q.0 q.1) (ltb-true 0 (length q.0) tests.0) (leb-true (length q.0) MAX_ENTRIES tests.1)
        (same ∙ entries.0) entries.1 entries.2
    table_read (d ∷ e ∷ ds) es read = absurd cc

  module _ (start_again : (s : S) → is_start s → s ≢ plain → start_at (start_form s) ≡ Some s) where
    entry_again : (e : ℕ × S) → IsEntry e → entry_at start_at (entry_form start_form e) ≡ Some e
    entry_again e entry = rw (key_at-again e.0 entry.small) (rw (start_again e.1 entry.good entry.other) refl)

    entries_again : (before : Option ℕ) (es : List (ℕ × S)) → Rise before es → All IsEntry es
        → entries_at start_at before (map (entry_form start_form) es) ≡ Some es
    entries_again before [] rise all = refl
    entries_again before (e ∷ es) rise all =
        rw (entry_again e (All-head IsEntry e es all)) (rw (rise.0) (rw (entries_again (Some e.0) es rise.1 (All-tail IsEntry e es all)) refl))

    all_entries : (es : List (ℕ × S)) → IsTable plain is_start es → All IsEntry es
    all_entries es table k d within = record { small = table.small k d within; good = table.each_start k d within; other = table.not_plain k d within }

    elements_again : (ds : List Data) → 0 < length ds → length ds ≤ MAX_ENTRIES → table_elements (list ds) ≡ Some ds
    elements_again ds some few =
        let fits : (nat_lt 0 (length ds) && nat_le (length ds) MAX_ENTRIES) ≡ true =
        and_from (nat_lt 0 (length ds)) (nat_le (length ds) MAX_ENTRIES) (lt-ltb 0 (length ds) some) (le-leb (length ds) MAX_ENTRIES few) in
        ap (λ (o : Option (List Data)). option_and_then (λ (es : List Data). if nat_lt 0 (length es) && nat_le (length es) MAX_ENTRIES then Some es else None) o) (elements-list ds)
        ∙ rw fits refl

    pub table_again : (es : List (ℕ × S)) → IsTable plain is_start es → Unit {0} → table_at start_at (table_form start_form es) ≡ Some es
    table_again [] table _ = refl
    table_again (e ∷ es) table _ =
        let ds = map (entry_form start_form) (e ∷ es) in
        let count : length ds ≡ length (e ∷ es) = length-map (e ∷ es) (entry_form start_form) in
        let short = table.short in
        rw (elements_again ds (omega arith) (omega arith)) (entries_again None (e ∷ es) (rise_from_none (e ∷ es) table.rising) (all_entries (e ∷ es) table))

module _ {S : Type 0} (start_form : S → Data) (start_has_no_float : (s : S) → has_float (start_form s) ≡ false) where
  entries_have_no_float : (es : List (ℕ × S)) → HaveNoFloats (map (entry_form start_form) es)
  entries_have_no_float [] = refl
  entries_have_no_float (e ∷ es) = rw (start_has_no_float e.1, entries_have_no_float es) refl

  pub table_has_no_float : (es : List (ℕ × S)) → HaveNoFloats (table_form start_form es)
  table_has_no_float [] = refl
  table_has_no_float (e ∷ es) = rw (entries_have_no_float (e ∷ es)) refl
