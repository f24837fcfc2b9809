-- A list of names, by its first name and the rest after the comma.
use Rattle.std.proofs.Common.{◌≡◌, ◌<◌, ◌∙◌, ℕ, List, [], ◌∷◌, length, get_or, refl, sym, ap, subst, Option, Some, None, MatchOption}
use Rattle.std.specs.Prelude.{◌≢◌, ◌==◌, Bool, true, false, if◌then◌else◌}
use Rattle.std.specs.List.{before_first, after_first, position_or_len}
use Rattle.std.proofs.lemmas.Bool.{ne_eqb}
use Rattle.std.proofs.lemmas.List.Elements.{All-from_get_or}
use Rattle.std.proofs.lemmas.List.Splits.{slice_split_first, slice_split_none}
use Rattle.std.proofs.lemmas.Option.{same_Some}
use Rattle.clap.specs.Words.{Text}
use Rattle.cert_check.specs.declared.criterion.Criterion.{Criterion}
use Rattle.cert_check.specs.CriterionNames.{name_of}
use Rattle.cert_check.proofs.CriterionNames.{named_again, named_of, one_name}
use Rattle.app_orders.specs.declared.expected.Expected.{Expected}
use Rattle.app_command_line.specs.Expected.{AddEach, AddsName, Lists, and_expected, expects, parts, with_expected}
use Rattle.app_orders.specs.Expected.{expecting_nothing}

pub name_added : (before : Expected) (c : Criterion) (name : Text) (r : Option Expected) → name ≡ name_of c → r ≡ and_expected before c
    → MatchOption r ((after : Expected) → ¬ AddsName before name after) (AddsName before name)
name_added before c name None is makes = λ after adds.
    let bad : None ≡ Some after = makes ∙ ap (and_expected before) (one_name c adds.0 (sym is ∙ adds.1)) ∙ adds.2 in absurd (cc)
name_added before c name (Some after) is makes = (c, is, sym makes)

pub no_name_added : (before : Expected) (name : Text) → ((c : Criterion) → name ≢ name_of c) → (after : Expected) → ¬ AddsName before name after
no_name_added before name none after adds = none adds.0 adds.1

-- what comes of names is read off them
abbrev all_of : Expected → List Text → Expected
all_of before [] = before
all_of before (name ∷ names) = all_of (with_expected before (named_of name)) names

abbrev pub listed : Text → Expected
listed list = all_of expecting_nothing (parts list)

added_alone : (held : Bool) (next after : Expected) → (if held then None else Some next) ≡ Some after → after ≡ next
added_alone true next after is = absurd (cc)
added_alone false next after is = sym (same_Some next after is)

name-read : (before : Expected) (name : Text) (after : Expected) → AddsName before name after → after ≡ with_expected before (named_of name)
name-read before name after adds =
    added_alone (expects before adds.0) (with_expected before adds.0) after adds.2
    ∙ ap (with_expected before) (sym (named_again adds.0) ∙ ap named_of (sym adds.1))

names-read : (before : Expected) (names : List Text) (after : Expected) → AddEach before names after → after ≡ all_of before names
names-read before [] after adds = adds
names-read before (name ∷ names) after adds =
    names-read adds.0 names after adds.2 ∙ ap (λ (e : Expected). all_of e names) (name-read before name adds.0 adds.1)

pub list-read : (list : Text) (expected : Expected) → Lists list expected → expected ≡ listed list
list-read list expected lists = names-read expecting_nothing (parts list) expected lists

-- what comes of a last name
each_last : (before : Expected) (name : Text) (r : Option Expected)
    → MatchOption r ((after : Expected) → ¬ AddsName before name after) (AddsName before name)
    → MatchOption r ((after : Expected) → ¬ AddEach before (name ∷ []) after) (AddEach before (name ∷ []))
each_last before name None none = λ after each. none each.0 each.1
each_last before name (Some after) adds = (after, adds, refl)

-- a list with a comma is a name and the list after the comma, and one without is a name
only_part : (list : Text) → ((i : ℕ) → i < length list → get_or list i 0 ≢ 44) → parts list ≡ list ∷ []
only_part list none =
    slice_split_none (λ c. c == 44) list (All-from_get_or (λ c. (c == 44) ≡ false) list 0 (λ i within. ne_eqb (get_or list i 0) 44 (none i within)))

first_part : (list name further : Text) → position_or_len (λ c. c == 44) list < length list → name ≡ before_first (λ c. c == 44) list
    → further ≡ after_first (λ c. c == 44) list → parts list ≡ name ∷ parts further
first_part list name further within first later = slice_split_first (λ c. c == 44) list 0 within ∙ sym (λ i. first i ∷ parts (later i))

pub listed_last : (before : Expected) (list : Text) (r : Option Expected) → ((i : ℕ) → i < length list → get_or list i 0 ≢ 44)
    → MatchOption r ((after : Expected) → ¬ AddsName before list after) (AddsName before list)
    → MatchOption r ((after : Expected) → ¬ AddEach before (parts list) after) (AddEach before (parts list))
listed_last before list r none adds =
    subst (λ (names : List Text). MatchOption r ((after : Expected) → ¬ AddEach before names after) (AddEach before names))
    (sym (only_part list none)) (each_last before list r adds)

pub listed_none : (before : Expected) (list name further : Text) → position_or_len (λ c. c == 44) list < length list
    → name ≡ before_first (λ c. c == 44) list → further ≡ after_first (λ c. c == 44) list → ((after : Expected) → ¬ AddsName before name after)
    → (after : Expected) → ¬ AddEach before (parts list) after
listed_none before list name further within first later none =
    subst (λ (names : List Text). (after : Expected) → ¬ AddEach before names after)
    (sym (first_part list name further within first later)) (λ after each. none each.0 each.1)
