-- Reading the entries of the start, one after the other.
use Rattle.std.proofs.Common.{◌≡◌, ◌≢◌, ℕ, ◌+◌, ◌<◌, Bool, true, false, List, [], ◌∷◌, ◌++◌, length, Option, Some, None, refl, sym, ap, ◌∙◌, arith}
use Rattle.std.specs.Prelude.{option_map, if◌then◌else◌}
use Rattle.std.proofs.lemmas.List.{append-nil, length_push}
use Rattle.std.proofs.lemmas.Option.{same_Some}
use Rattle.json.specs.Json.{after_end_array}
use Rattle.json.specs.Token.{Token}
use Rattle.serde_json.specs.Data.{Data}
use Rattle.json_bounded.specs.Steps.Behind.{behind_items}
use Rattle.json_histories.specs.Laws.Json.{and_then_from, chosen}
use Rattle.json_histories.specs.RegisterForm as register
use Rattle.json_histories.specs.Spelling.{entries_at, entry_at, is_above}
use Rattle.json_histories.proofs.ListLaws.{then_more}
use Rattle.judge_reader.specs.LongRefusals.{table_of}
use Rattle.judge_reader.specs.Steps.Reading.{entry_above}
use Rattle.json_tokens.specs.Tokens.{IsRest, IsValue}
use Rattle.json_tokens.proofs.Elements.{HasRead, read_none, read_one_more, read_all, rest_passed}
use Rattle.judge_reader.proofs.OperationsRead.{one_then_more}

abbrev entries : Option ℕ → List Data → Option (List (ℕ × ℕ))
entries = entries_at register.start_at

-- what these elements, and any after them, are read as: the table so far, and then what those after them are read as
abbrev pub AreEntries : List Data → List (ℕ × ℕ) → Option ℕ → Type 0
AreEntries elements table before = (more : List Data) → entries None (elements ++ more) ≡ option_map (λ es. table ++ es) (entries before more)

nothing_yet : (o : Option (List (ℕ × ℕ))) → o ≡ option_map (λ es. [] ++ es) o
nothing_yet None = refl
nothing_yet (Some es) = refl

module _ (before : Option ℕ) (d : Data) where
  entries_more : (e : ℕ × ℕ) (more : List Data) → entry_above before d ≡ Some e → entries before (d ∷ more) ≡ option_map (λ es. e ∷ es) (entries (Some e.0) more)
  entries_more e more is =
      let p = and_then_from (λ (x : ℕ × ℕ). if is_above before x.0 then Some x else None) (entry_at register.start_at d) e is in
      let q = chosen (is_above before p.0.0) (Some p.0) e p.2 in
      let same : p.0 ≡ e = cc in
      rw p.1 (rw (q.0) (rw same refl))

  no_entry : (x : Option (ℕ × ℕ)) (more : List Data) → entry_at register.start_at d ≡ x → entry_above before d ≡ None → entries before (d ∷ more) ≡ None
  no_entry None more read is = rw read refl
  no_entry (Some e) more read is = low e more (is_above before e.0) read refl (rw read at is)
    where
      low : (e : ℕ × ℕ) (more : List Data) (b : Bool) → entry_at register.start_at d ≡ Some e → is_above before e.0 ≡ b → (if is_above before e.0 then Some e else None) ≡ None → entries before (d ∷ more) ≡ None
      low e more true read high is = let bad : Some e ≡ None = rw high at is in absurd cc
      low e more false read high is = rw read (rw high refl)

module _ (elements : List Data) (table : List (ℕ × ℕ)) (before : Option ℕ) (so_far : AreEntries elements table before) (d : Data) where
  are_entries-more : (e : ℕ × ℕ) → entry_above before d ≡ Some e → AreEntries (elements ++ d ∷ []) (table ++ e ∷ []) (Some e.0)
  are_entries-more e is more =
      ap (entries None) (one_then_more elements d more) ∙ so_far (d ∷ more) ∙ ap (option_map (λ es. table ++ es)) (entries_more before d e more is)
      ∙ then_more table e (entries (Some e.0) more)

  are_entries-refused : entry_above before d ≡ None → (more : List Data) → entries None ((elements ++ d ∷ []) ++ more) ≡ None
  are_entries-refused is more =
      ap (entries None) (one_then_more elements d more) ∙ so_far (d ∷ more) ∙ ap (option_map (λ es. table ++ es)) (no_entry before d (entry_at register.start_at d) more refl is)

-- ---- a table has an entry

no_table : (ds : List Data) → entries None ds ≡ None → table_of ds ≡ None
no_table [] e = refl
no_table (d ∷ ds) e = e

empty_table : (ds : List Data) → length ds ≡ 0 → table_of ds ≡ None
empty_table [] none = refl
empty_table (d ∷ ds) none = absurd (omega arith)

some_table : (ds : List Data) (table : List (ℕ × ℕ)) → table ≢ [] → entries None ds ≡ Some table → table_of ds ≡ Some table
some_table [] table some read = let same : [] ≡ table = same_Some [] table read in absurd (some (sym same))
some_table (d ∷ ds) table some read = read

no_more : (table : List (ℕ × ℕ)) (ds : List Data) (before : Option ℕ) → AreEntries ds table before → entries None ds ≡ Some table
no_more table ds before so_far = ap (entries None) (sym (append-nil ds)) ∙ so_far [] ∙ ap (λ (es : List (ℕ × ℕ)). Some es) (append-nil table)

-- ---- the loop over them

module _ (depth : ℕ) where
  pub record IsReadingTable (old now : List Token) (table : List (ℕ × ℕ)) (before : Option ℕ) : Type 0 where
    pub elements : List Data
    pub so_far : HasRead depth old now elements
    pub are_entries : AreEntries elements table before
    pub count : length table ≡ length elements

  pub table_begun : (ts : List Token) → IsReadingTable ts ts [] None
  table_begun ts = record { elements = []; so_far = read_none depth ts; are_entries = λ more. nothing_yet (entries None more); count = refl }

  module _ (old now : List Token) (table : List (ℕ × ℕ)) (before : Option ℕ) (inv : IsReadingTable old now table before) where
    pub table_more : (r : List Token) (e : ℕ × ℕ) → after_end_array now ≡ None → IsValue (λ d. entry_above before d ≡ Some e) depth now r → length r < length now
        → IsReadingTable old r (table ++ e ∷ []) (Some e.0)
    table_more r e going one less = record {
      elements = inv.elements ++ one.0 ∷ [];
      so_far = read_one_more depth old now inv.elements inv.so_far r one.0 going one.1 less;
      are_entries = are_entries-more inv.elements table before inv.are_entries one.0 e one.2;
      count = length_push table e ∙ ap (λ n. n + 1) inv.count ∙ sym (length_push inv.elements one.0);
    }

    pub table_refused : (r q : List Token) → after_end_array now ≡ None → IsValue (λ d. entry_above before d ≡ None) depth now r → length r < length now
        → behind_items depth r ≡ Some q → IsRest (λ ds. table_of ds ≡ None) depth old q
    table_refused r q going one less passed =
        rest_passed depth old r (inv.elements ++ one.0 ∷ []) (read_one_more depth old now inv.elements inv.so_far r one.0 going one.1 less)
        (λ ds. table_of ds ≡ None) q passed
        (λ more. no_table ((inv.elements ++ one.0 ∷ []) ++ more) (are_entries-refused inv.elements table before inv.are_entries one.0 one.2 more))

    pub table_empty : (r : List Token) → after_end_array now ≡ Some r → table ≡ [] → IsRest (λ ds. table_of ds ≡ None) depth old r
    table_empty r end none =
        let no_element : length inv.elements ≡ 0 = sym inv.count ∙ ap length none in
        read_all depth old now inv.elements inv.so_far (λ ds. table_of ds ≡ None) r end (empty_table inv.elements no_element)

    pub table_over : (r : List Token) → after_end_array now ≡ Some r → table ≢ [] → IsRest (λ ds. table_of ds ≡ Some table) depth old r
    table_over r end some =
        read_all depth old now inv.elements inv.so_far (λ ds. table_of ds ≡ Some table) r end
        (some_table inv.elements table some (no_more table inv.elements before inv.are_entries))
