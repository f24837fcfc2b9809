-- What reads as a table of initial values is its form, and the form of such a table reads as that table.
use Rattle.std.proofs.Common.{◌≡◌, ◌≢◌, ℕ, zero, suc, ◌+◌, ◌<◌, ◌^◌, true, List, [], ◌∷◌, length, map, Option, Some, None, refl, ap, arith, add-one}
use Rattle.std.specs.Prelude.{All, option_map, if◌then◌else◌}
use Rattle.std.specs.List.Sorted.{IsStrictlyIncreasing}
use Rattle.std.specs.Map.{keys_of}
use Rattle.std.proofs.lemmas.Bool.{ltb-true, lt-ltb}
use Rattle.std.proofs.lemmas.List.Elements.{All-nil, All-cons, All-head, All-tail}
use Rattle.std.proofs.lemmas.Option.{same_Some}
use Rattle.serde_json.specs.Data.{Data}
use Rattle.judge_memory.specs.LongHistories.{IsLongTable}
use Rattle.json_histories.specs.Json.{elements, list}
use Rattle.json_histories.specs.Laws.Json.{and_then_from, chosen, list_from_elements, listed-items_of, map_from}
use Rattle.json_histories.specs.Laws.KeyedForm.{key_at-again}
use Rattle.json_histories.specs.Laws.RegisterForm as register_laws
use Rattle.json_histories.specs.Laws.TableForm.{Rise}
use Rattle.json_histories.specs.RegisterForm as register
use Rattle.json_histories.specs.Spelling.{entries_at, entry_at, entry_form, is_above, table_form}
use Rattle.judge_reader.specs.LongRefusals.{start_of, table_of}
use Rattle.judge_reader.proofs.CutEntries.{IsEntryOf, entry_read}

abbrev Table : Type 0
Table = List (ℕ × ℕ)

abbrev Small : ℕ × ℕ → Type 0
Small e = e.0 < 2 ^ 32

abbrev NotPlain : ℕ × ℕ → Type 0
NotPlain e = e.1 ≢ 0

abbrev form : ℕ × ℕ → Data
form = entry_form register.start_form

-- ---- keys that rise

rest_increases : (k : ℕ) (ks : List ℕ) → IsStrictlyIncreasing (k ∷ ks) → IsStrictlyIncreasing ks
rest_increases k ks up i inside =
    let outside : suc i + 1 < length (k ∷ ks) = omega arith in
    rw add-one (rw add-one at (up (suc i) outside))

keys_rise : (before : Option ℕ) (es : Table) → Rise before es → IsStrictlyIncreasing (keys_of es)
keys_rise before [] rise k inside = absurd (omega arith)
keys_rise before (e ∷ []) rise k inside = absurd (omega arith)
keys_rise before (e ∷ f ∷ es) rise zero inside = ltb-true e.0 f.0 rise.1.0
keys_rise before (e ∷ f ∷ es) rise (suc k) inside =
    let in_rest : k + 1 < length (keys_of (f ∷ es)) = omega arith in
    rw add-one (rw add-one at (keys_rise (Some e.0) (f ∷ es) rise.1 k in_rest))

rise_above : (key : ℕ) (es : Table) → IsStrictlyIncreasing (key ∷ keys_of es) → Rise (Some key) es
rise_above key [] up = tt
rise_above key (e ∷ es) up = (lt-ltb key e.0 (up 0 (omega arith)), rise_above e.0 es (rest_increases key (keys_of (e ∷ es)) up))

all_rise : (es : Table) → IsStrictlyIncreasing (keys_of es) → Rise None es
all_rise [] up = tt
all_rise (e ∷ es) up = (refl, rise_above e.0 es up)

-- ---- what was read

record AreFormed (before : Option ℕ) (ds : List Data) (es : Table) : Type 0 where
  forms : ds ≡ map form es
  rise : Rise before es
  small : All Small es
  not_plain : All NotPlain es

one_formed : (before : Option ℕ) (d : Data) (ds : List Data) (e : ℕ × ℕ) (es : Table) → IsEntryOf d e → is_above before e.0 ≡ true → AreFormed (Some e.0) ds es → AreFormed before (d ∷ ds) (e ∷ es)
one_formed before d ds e es entry above rest = record {
  forms = rw (entry.form, rest.forms) refl;
  rise = (above, rest.rise);
  small = All-cons Small e es entry.small rest.small;
  not_plain = All-cons NotPlain e es entry.not_plain rest.not_plain;
}

entries_formed : (before : Option ℕ) (ds : List Data) (es : Table) → entries_at register.start_at before ds ≡ Some es → AreFormed before ds es
entries_formed before [] es read =
    let same : [] ≡ es = same_Some [] es read in
    rw (← same) (record { forms = refl; rise = tt; small = All-nil Small; not_plain = All-nil NotPlain })
entries_formed before (d ∷ ds) es read =
    let first = and_then_from (λ (e : ℕ × ℕ). if is_above before e.0 then option_map (λ (more : Table). e ∷ more) (entries_at register.start_at (Some e.0) ds) else None) (entry_at register.start_at d) es read in
    let e = first.0 in
    let above = chosen (is_above before e.0) (option_map (λ (more : Table). e ∷ more) (entries_at register.start_at (Some e.0) ds)) es first.2 in
    let rest = map_from (λ (more : Table). e ∷ more) (entries_at register.start_at (Some e.0) ds) es above.1 in
    rw (← rest.2) (one_formed before d ds e rest.0 (entry_read d e first.1) above.0 (entries_formed (Some e.0) ds rest.0 rest.1))

pub record IsStartOf (ds : List Data) (start : Table) : Type 0 where
  pub form : ds ≡ table_form register.start_form start
  pub is_table : IsLongTable start

table_formed : (ds : List Data) (es : Table) → AreFormed None ds es → length ds ≢ 0 → list ds ∷ [] ≡ table_form register.start_form es
table_formed ds [] formed some = absurd (some (ap length formed.forms))
table_formed ds (e ∷ es) formed some = ap (λ (x : List Data). list x ∷ []) formed.forms

table_read : (ds : List Data) (es : Table) → table_of ds ≡ Some es → IsStartOf (list ds ∷ []) es
table_read [] es read = absurd cc
table_read (d ∷ ds) es read =
    let formed = entries_formed None (d ∷ ds) es read in
    record {
      form = table_formed (d ∷ ds) es formed (λ none. omega arith);
      is_table = record { rising = keys_rise None es formed.rise; small = formed.small; not_plain = formed.not_plain };
    }

empty_start : IsStartOf [] []
empty_start = record { form = refl; is_table = record { rising = keys_rise None [] tt; small = All-nil Small; not_plain = All-nil NotPlain } }

pub start_formed : (rest : List Data) (start : Table) → start_of rest ≡ Some start → IsStartOf rest start
start_formed [] start read = let same : [] ≡ start = same_Some [] start read in rw (← same) empty_start
start_formed (d ∷ []) start read =
    let ds = and_then_from table_of (elements d) start read in
    rw (list_from_elements d ds.0 ds.1) (table_read ds.0 start ds.2)
start_formed (d ∷ e ∷ ds) start read = absurd cc

-- ---- and is read again

entry_again : (e : ℕ × ℕ) → Small e → NotPlain e → entry_at register.start_at (form e) ≡ Some e
entry_again e small other = rw (key_at-again e.0 small) (rw (register_laws.start_again e.1 tt other) refl)

entries_again : (before : Option ℕ) (es : Table) → Rise before es → All Small es → All NotPlain es → entries_at register.start_at before (map form es) ≡ Some es
entries_again before [] rise small other = refl
entries_again before (e ∷ es) rise small other =
    rw (entry_again e (All-head Small e es small) (All-head NotPlain e es other)) (rw (rise.0) (rw (entries_again (Some e.0) es rise.1 (All-tail Small e es small) (All-tail NotPlain e es other)) refl))

pub start_again : (start : Table) → IsLongTable start → start_of (table_form register.start_form start) ≡ Some start
start_again [] is = refl
start_again (e ∷ es) is =
    rw (listed-items_of (map form es)) (entries_again None (e ∷ es) (all_rise (e ∷ es) is.rising) is.small is.not_plain)
