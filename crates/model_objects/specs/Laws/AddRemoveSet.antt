-- What holds of the answers of a set: the laws of an object, and that equality is equality of values.
use Rattle.std.specs.Prelude.{◌≡◌, ℕ, ◌==◌, List, [], ◌∷◌, ◌++◌, filter, unwrap_or, option_map, Bool, true, false, Option, None, Some, refl}
use Rattle.std.specs.List.{last_or}
use Rattle.std.specs.Bool.{beq}
use Rattle.std.proofs.Common.{ap, sym, ◌∙◌}
use Rattle.std.proofs.lemmas.Bool.{cond-false, cond-true}
use Rattle.std.proofs.lemmas.List.Elements.{filter-append}
use Rattle.model_objects.specs.AddRemoveSet.{changes, is_add, has, answer, is_has, depends, matches, settles}
use Rattle.model_objects.specs.Laws.Equal.{same_of_part, same_numbers, same_truths}
use Rattle.model_objects.specs.declared.add_remove_set.SetCall.{SetCall}
use Rattle.model_objects.specs.declared.add_remove_set.SetCall.TheVariants.{Add, Remove, Has}
use Rattle.model_objects.specs.declared.add_remove_set.SetRet.{SetRet}
use Rattle.model_objects.specs.declared.add_remove_set.SetRet.TheVariants.{Done, Has as HasAnswer}

pub answer_fits : (start : Unit {0}) (calls : List SetCall) (call : SetCall) → matches call (answer start calls call) ≡ true
answer_fits start calls (Add e) = refl
answer_fits start calls (Remove e) = refl
answer_fits start calls (Has e) = refl

pub has-query : (element : ℕ) (before after : List SetCall) (q : SetCall) → is_has q ≡ true
    → has element (before ++ q ∷ after) ≡ has element (before ++ after)
has-query element before after (Has u) e =
    ap (λ calls. unwrap_or (option_map is_add (last_or None calls)) false)
    (filter-append (changes element) before (Has u ∷ after) ∙ sym (filter-append (changes element) before after))
has-query element before after (Add u) e = absurd cc
has-query element before after (Remove u) e = absurd cc

pub query_changes_nothing : (start : Unit {0}) (before after : List SetCall) (q call : SetCall) → is_has q ≡ true
    → answer start (before ++ q ∷ after) call ≡ answer start (before ++ after) call
query_changes_nothing start before after q (Add e) h = refl
query_changes_nothing start before after q (Remove e) h = refl
query_changes_nothing start before after q (Has e) h = ap HasAnswer (has-query e before after q h)

pub has-other : (element : ℕ) (before after : List SetCall) (other : SetCall) → changes element other ≡ false
    → has element (before ++ other ∷ after) ≡ has element (before ++ after)
has-other element before after other e =
    ap (λ calls. unwrap_or (option_map is_add (last_or None calls)) false)
    (filter-append (changes element) before (other ∷ after)
    ∙ ap (λ calls. filter (changes element) before ++ calls) (cond-false (changes element other) (other ∷ filter (changes element) after) (filter (changes element) after) e)
    ∙ sym (filter-append (changes element) before after))

pub others_change_nothing : (start : Unit {0}) (before after : List SetCall) (other call : SetCall) → depends call other ≡ false
    → answer start (before ++ other ∷ after) call ≡ answer start (before ++ after) call
others_change_nothing start before after other (Add e) h = refl
others_change_nothing start before after other (Remove e) h = refl
others_change_nothing start before after other (Has e) h = ap HasAnswer (has-other e before after other h)

pub last-settled : (d e : Option SetCall) (before after : List SetCall) (other : SetCall) → last_or d (before ++ other ∷ after) ≡ last_or e (other ∷ after)
last-settled d e [] after other = refl
last-settled d e (c ∷ before) after other = last-settled (Some c) e before after other

pub has-settled : (element : ℕ) (before after : List SetCall) (other : SetCall) → changes element other ≡ true
    → has element (before ++ other ∷ after) ≡ has element (other ∷ after)
has-settled element before after other e =
    let kept : filter (changes element) (other ∷ after) ≡ other ∷ filter (changes element) after = cond-true (changes element other) (other ∷ filter (changes element) after) (filter (changes element) after) e in
    ap (λ last. unwrap_or (option_map is_add last) false)
    (ap (last_or None) (filter-append (changes element) before (other ∷ after) ∙ ap (λ calls. filter (changes element) before ++ calls) kept)
    ∙ last-settled None None (filter (changes element) before) (filter (changes element) after) other
    ∙ ap (last_or None) (sym kept))

pub settled : (start : Unit {0}) (before after : List SetCall) (other call : SetCall) → settles call other ≡ true
    → answer start (before ++ other ∷ after) call ≡ answer start (other ∷ after) call
settled start before after other (Add e) h = refl
settled start before after other (Remove e) h = refl
settled start before after other (Has e) h = ap HasAnswer (has-settled e before after other h)

-- equality of calls and of returns is equality of values, by constructors

abbrev pub variant_of_call : SetCall → ℕ
variant_of_call (Add e) = 0
variant_of_call (Remove e) = 1
variant_of_call (Has e) = 2

abbrev pub variant_of_ret : SetRet → ℕ
variant_of_ret Done = 0
variant_of_ret (HasAnswer b) = 1

pub same_adds : (u v : ℕ) → ((u == v) ≡ true → Add u ≡ Add v) × (Add u ≡ Add v → (u == v) ≡ true)
same_adds = same_of_part Add (λ u v e. cc) same_numbers

pub same_removes : (u v : ℕ) → ((u == v) ≡ true → Remove u ≡ Remove v) × (Remove u ≡ Remove v → (u == v) ≡ true)
same_removes = same_of_part Remove (λ u v e. cc) same_numbers

pub same_hases : (u v : ℕ) → ((u == v) ≡ true → Has u ≡ Has v) × (Has u ≡ Has v → (u == v) ≡ true)
same_hases = same_of_part Has (λ u v e. cc) same_numbers

pub same_answers : (a b : Bool) → (beq a b ≡ true → HasAnswer a ≡ HasAnswer b) × (HasAnswer a ≡ HasAnswer b → beq a b ≡ true)
same_answers = same_of_part HasAnswer (λ a b e. cc) same_truths
