-- One call more of a set: an add or a remove decides its element, and leaves the others.
use Rattle.std.specs.Prelude.{◌≡◌, ℕ, ◌==◌, List, [], ◌∷◌, ◌++◌, filter, unwrap_or, option_map, true, false, cond, Option, Some, None, refl}
use Rattle.std.specs.List.{last_or}
use Rattle.std.specs.Ordering.{nat_cmp}
use Rattle.std.specs.BTreeMap.{is_at}
use Rattle.std.specs.Cmp.{unsigned_tied}
use Rattle.std.proofs.Common.{ap, ◌∙◌, ⊎_elim}
use Rattle.std.proofs.lemmas.Bool.{cases_Bool}
use Rattle.std.proofs.lemmas.List.{append-nil}
use Rattle.std.proofs.lemmas.List.Elements.{filter-append}
use Rattle.model_objects.specs.AddRemoveSet.{changes, is_add, has}
use Rattle.model_objects.specs.declared.add_remove_set.SetCall.{SetCall}
use Rattle.model_objects.specs.declared.add_remove_set.SetCall.TheVariants.{Add, Remove}

last_or-push : {A : Type 0} (o : Option A) (xs : List A) (x : A) → last_or o (xs ++ x ∷ []) ≡ Some x
last_or-push o [] x = refl
last_or-push o (y ∷ xs) x = last_or-push (Some y) xs x

-- a call that changes the element decides
has-changed : (element : ℕ) (calls : List SetCall) (call : SetCall) → changes element call ≡ true
    → has element (calls ++ call ∷ []) ≡ is_add call
has-changed element calls call e =
    let kept : filter (changes element) (call ∷ []) ≡ call ∷ [] = rw e refl in
    let all : filter (changes element) (calls ++ call ∷ []) ≡ filter (changes element) calls ++ call ∷ []
    = filter-append (changes element) calls (call ∷ []) ∙ ap (λ cs. filter (changes element) calls ++ cs) kept in
    ap (λ o. unwrap_or (option_map is_add o) false) (ap (last_or None) all ∙ last_or-push None (filter (changes element) calls) call)

-- any other call leaves the element as it is
has-unchanged : (element : ℕ) (calls : List SetCall) (call : SetCall) → changes element call ≡ false
    → has element (calls ++ call ∷ []) ≡ has element calls
has-unchanged element calls call e =
    let none : filter (changes element) (call ∷ []) ≡ [] = rw e refl in
    let all : filter (changes element) (calls ++ call ∷ []) ≡ filter (changes element) calls
    = filter-append (changes element) calls (call ∷ []) ∙ ap (λ cs. filter (changes element) calls ++ cs) none ∙ append-nil _ in
    ap (λ cs. unwrap_or (option_map is_add (last_or None cs)) false) all

-- one change more, as a map from elements: its element is as the change says, and the others stay
has-change : (calls : List SetCall) (call : SetCall) (element : ℕ) → ((e : ℕ) → changes e call ≡ (element == e))
    → (e : ℕ) → has e (calls ++ call ∷ []) ≡ cond (is_at (nat_cmp element) e) (is_add call) (has e calls)
has-change calls call element at_element e = rw (unsigned_tied element e) (⊎_elim
    (λ (same : (element == e) ≡ true). rw same (has-changed e calls call (at_element e ∙ same)))
    (λ (other : (element == e) ≡ false). rw other (has-unchanged e calls call (at_element e ∙ other)))
    (cases_Bool (element == e)))

pub has_after_add : (calls : List SetCall) (element e : ℕ)
    → has e (calls ++ Add element ∷ []) ≡ cond (is_at (nat_cmp element) e) true (has e calls)
has_after_add calls element = has-change calls (Add element) element (λ e. refl)

pub has_after_remove : (calls : List SetCall) (element e : ℕ)
    → has e (calls ++ Remove element ∷ []) ≡ cond (is_at (nat_cmp element) e) false (has e calls)
has_after_remove calls element = has-change calls (Remove element) element (λ e. refl)
