-- Reading the rest of a list, an element at a time.
use Rattle.std.proofs.Common.{◌≡◌, ℕ, zero, suc, ◌-◌, ◌<◌, ◌≤◌, List, [], ◌∷◌, ◌++◌, length, Option, Some, None, option_and_then, refl, sym, ap, subst, ◌∙◌, arith}
use Rattle.json.specs.Json as json
use Rattle.json.specs.Json.{Parse, parse_map, after_end_array, items_step, items, value}
use Rattle.json.specs.Token.{Token}
use Rattle.json.proofs.Grammar.{Takes, left, left_none, left_some, skip_value-shorter}
use Rattle.serde_json.specs.Data.{Data, Items, no_items, item}
use Rattle.serde_json.specs.Read.{of_json, of_items, converted}
use Rattle.json_bounded.specs.Steps.Behind.{behind_items}
use Rattle.json_bounded.specs.Steps.Reading.{AreRefused, IsRefused}
use Rattle.json_bounded.specs.declared.text_error.TextError.{TextError}
use Rattle.json_bounded.proofs.CutLists.{before, before_one_more}
use Rattle.json_bounded.proofs.Stopping.{stops_too}
use Rattle.json_bounded.proofs.Turns.{item_read, item_refused, items_over}
use Rattle.json_histories.specs.Json.{listed}
use Rattle.json_tokens.specs.Tokens.{IsRest}

-- ---- any number of turns that is large enough gives the same list

module _ (p : Parse json.Json) (takes : Takes p) where
  abbrev SameBehind : ℕ → ℕ → Option (json.Json × List Token) → Type 0
  SameBehind n m first = (j : json.Json) (r : List Token) → first ≡ Some (j, r) → items p n r ≡ items p m r

  turn_same : (n m : ℕ) (first : Option (json.Json × List Token)) → SameBehind n m first
      → option_and_then (λ x. parse_map (json.item x.0) (items p n x.1)) first ≡ option_and_then (λ x. parse_map (json.item x.0) (items p m x.1)) first
  turn_same n m None same = refl
  turn_same n m (Some x) same = ap (parse_map (json.item x.0)) (same x.0 x.1 refl)

  step_same : (n m : ℕ) (ts : List Token) (end : Option (List Token)) → SameBehind n m (p ts) → items_step p (items p n) ts end ≡ items_step p (items p m) ts end
  step_same n m ts None same = turn_same n m (p ts) same
  step_same n m ts (Some r) same = refl

  takes_some : (j : json.Json) (r : List Token) → p [] ≡ Some (j, r) → ⊥
  takes_some j r e = let fewer = takes [] r (ap left e) in omega (arith, fewer)

  no_turn : (n : ℕ) (first : Option (json.Json × List Token)) → ((j : json.Json) (r : List Token) → first ≡ Some (j, r) → ⊥)
      → option_and_then (λ x. parse_map (json.item x.0) (items p n x.1)) first ≡ None
  no_turn n None never = refl
  no_turn n (Some x) never = absurd (never x.0 x.1 refl)

  at_end : (n : ℕ) (ts : List Token) → length ts ≤ 0 → items p n ts ≡ None
  unfolding items
  at_end zero ts none = refl
  at_end (suc n) [] none = no_turn n (p []) takes_some
  at_end (suc n) (t ∷ ts) none = let never : ⊥ = omega arith in absurd never

  enough_turns : (n m : ℕ) (ts : List Token) → length ts ≤ n → length ts ≤ m → items p n ts ≡ items p m ts
  unfolding items
  enough_turns zero m ts a b = sym (at_end m ts a)
  enough_turns (suc n) zero ts a b = at_end (suc n) ts b
  enough_turns (suc n) (suc m) ts a b =
      step_same n m ts (after_end_array ts) (λ j r e. let fewer = takes ts r (ap left e) in enough_turns n m r (omega (arith, fewer)) (omega (arith, fewer)))

-- ---- elements that were read, and the rest

nothing_before : (o : Option (Items × List Token)) → o ≡ parse_map (before []) o
nothing_before None = refl
nothing_before (Some p) = refl

before_more : (ds : List Data) (d : Data) (o : Option (Items × List Token)) → parse_map (before ds) (parse_map (item d) o) ≡ parse_map (before (ds ++ d ∷ [])) o
before_more ds d None = refl
before_more ds d (Some p) = ap (λ es. Some (es, p.1)) (before_one_more ds d p.0)

listed-before : (ds : List Data) (rest : Items) → listed (before ds rest) ≡ ds ++ listed rest
listed-before [] rest = refl
listed-before (d ∷ ds) rest = ap (λ es. d ∷ es) (listed-before ds rest)

listed-all : (ds : List Data) → listed (before ds no_items) ≡ ds
listed-all [] = refl
listed-all (d ∷ ds) = ap (λ es. d ∷ es) (listed-all ds)

module _ (depth : ℕ) where
  -- these elements were read of a list, and what is left is the rest of it
  pub record HasRead (old now : List Token) (elements : List Data) : Type 0 where
    pub turns : ℕ
    pub enough : length now ≤ turns
    pub shorter : length now ≤ length old
    pub read : converted of_items (items (value depth) (length old) old) ≡ parse_map (before elements) (converted of_items (items (value depth) turns now))

  pub read_none : (ts : List Token) → HasRead ts ts []
  read_none ts = record { turns = length ts; enough = omega arith; shorter = omega arith; read = nothing_before (converted of_items (items (value depth) (length ts) ts)) }

  module _ (old now : List Token) (elements : List Data) (so_far : HasRead old now elements) where
    pub read_one_more : (r : List Token) (d : Data) → after_end_array now ≡ None → converted of_json (value depth now) ≡ Some (d, r) → length r < length now → HasRead old r (elements ++ d ∷ [])
    read_one_more r d going one less =
        let n = so_far.turns in
        let some : 0 < n = omega (arith, so_far.enough) in
        let rest = converted of_items (items (value depth) (n - 1) r) in
        record {
          turns = n - 1;
          enough = omega (arith, so_far.enough);
          shorter = omega (arith, so_far.shorter);
          read = so_far.read ∙ ap (parse_map (before elements)) (item_read (value depth) n now r d some going one) ∙ before_more elements d rest;
        }

    -- at the bracket all of them were read
    pub read_all : (P : List Data → Type 0) (r : List Token) → after_end_array now ≡ Some r → P elements → IsRest P depth old r
    read_all P r e holds =
        let read = so_far.read ∙ ap (parse_map (before elements)) (items_over (value depth) so_far.turns now r so_far.enough e) in
        (before elements no_items, read, subst P (sym (listed-all elements)) holds)

    the_rest : converted of_items (items (value depth) so_far.turns now) ≡ converted of_items (items (value depth) (length now) now)
    the_rest = ap (converted of_items) (enough_turns (value depth) (skip_value-shorter depth) so_far.turns (length now) now so_far.enough (omega arith))

    -- those that are read as the rest of it stand behind them
    pub then_rest : (P Q : List Data → Type 0) (r : List Token) → IsRest Q depth now r → ((more : List Data) → Q more → P (elements ++ more)) → IsRest P depth old r
    then_rest P Q r more holds =
        let read = so_far.read ∙ ap (parse_map (before elements)) (the_rest ∙ more.1) in
        (before elements more.0, read, subst P (sym (listed-before elements more.0)) (holds (listed more.0) more.2))

    -- where the rest is passed, some elements more stand there
    pub rest_passed : (P : List Data → Type 0) (r : List Token) → behind_items depth now ≡ Some r → ((more : List Data) → P (elements ++ more)) → IsRest P depth old r
    rest_passed P r e holds =
        let more = left_some (converted of_items (items (value depth) (length now) now)) r e in
        then_rest P (λ _. Unit {0}) r (more.0, more.1, tt) (λ es _. holds es)

    pub element_refused : after_end_array now ≡ None → (e : TextError) → IsRefused depth now e → AreRefused depth old e
    element_refused going =
        stops_too _ _ (λ none. so_far.read ∙ ap (parse_map (before elements)) (item_refused (value depth) so_far.turns now going none))

    pub rest_refused : (e : TextError) → AreRefused depth now e → AreRefused depth old e
    rest_refused = stops_too _ _ (λ none. so_far.read ∙ ap (parse_map (before elements)) (the_rest ∙ none))

    pub no_rest : behind_items depth now ≡ None → converted of_items (items (value depth) (length old) old) ≡ None
    no_rest e = so_far.read ∙ ap (parse_map (before elements)) (the_rest ∙ left_none _ e)

  -- one element more is read, and no rest comes after it
  module _ (old now : List Token) (elements : List Data) (so_far : HasRead old now elements) where
    pub no_rest_after : (r : List Token) (d : Data) → after_end_array now ≡ None → converted of_json (value depth now) ≡ Some (d, r) → length r < length now → behind_items depth r ≡ None
        → converted of_items (items (value depth) (length old) old) ≡ None
    no_rest_after r d going one less e = no_rest old r (elements ++ d ∷ []) (read_one_more old now elements so_far r d going one less) e
