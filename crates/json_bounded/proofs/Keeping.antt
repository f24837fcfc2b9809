-- Reading a list of which the first elements are kept, a turn at a time.
use Rattle.std.proofs.Common.{◌≡◌, ◌≢◌, ℕ, zero, suc, ◌+◌, ◌-◌, ◌<◌, ◌≤◌, List, [], ◌∷◌, ◌++◌, length, Option, Some, None, option_and_then, refl, sym, ap, ap₂, subst, ◌∙◌, arith}
use Rattle.std.proofs.lemmas.List.{length_push}
use Rattle.json.specs.Json as json
use Rattle.json.specs.Json.{Parse, parse_map, after_end_array, items_step, items, value}
use Rattle.json.specs.Token.{Token}
use Rattle.json.proofs.Grammar.{Takes, left, left_none, left_some, skip_value-shorter}
use Rattle.serde_json.specs.Data.{Data, Items, no_items, item}
use Rattle.serde_json.specs.Read.{of_json, of_items, converted}
use Rattle.serde_json.specs.View.{items_of}
use Rattle.json_bounded.specs.Cut.{cut, cut_items}
use Rattle.json_bounded.specs.Steps.Behind.{behind_items}
use Rattle.json_bounded.specs.Steps.Reading.{AreCut, IsCut}
use Rattle.json_bounded.proofs.CutLists.{before, before_one_more, cut_each, length-cut_each, cut_one_more, cut_all, cut_full, IsWithin, none_within, within_one_more}
use Rattle.json_bounded.proofs.Turns.{item_read, item_refused, items_over}

-- ---- the number that bounds the turns plays no part

module _ (p : Parse json.Json) (takes : Takes p) where
  same_more : (n m : ℕ) (q : Option (json.Json × List Token)) → ((j : json.Json) (r : List Token) → q ≡ Some (j, r) → items p n r ≡ items p m r)
      → option_and_then (λ x. parse_map (json.item x.0) (items p n x.1)) q ≡ option_and_then (λ x. parse_map (json.item x.0) (items p m x.1)) q
  same_more n m None same = refl
  same_more n m (Some x) same = ap (parse_map (json.item x.0)) (same x.0 x.1 refl)

  same_step : (n m : ℕ) (ts : List Token) (o : Option (List Token)) → ((j : json.Json) (r : List Token) → p ts ≡ Some (j, r) → items p n r ≡ items p m r)
      → items_step p (items p n) ts o ≡ items_step p (items p m) ts o
  same_step n m ts None same = same_more n m (p ts) same
  same_step n m ts (Some r) same = refl

  nothing_read : (n : ℕ) (q : Option (json.Json × List Token)) → ((j : json.Json) (r : List Token) → q ≡ Some (j, r) → ⊥)
      → option_and_then (λ x. parse_map (json.item x.0) (items p n x.1)) q ≡ None
  nothing_read n None never = refl
  nothing_read n (Some x) never = absurd (never x.0 x.1 refl)

  shorter_than_none : (j : json.Json) (r : List Token) → p [] ≡ Some (j, r) → ⊥
  shorter_than_none j r e = let less = takes [] r (ap left e) in omega (arith, less)

  no_tokens : (n : ℕ) (ts : List Token) → length ts ≤ 0 → items p n ts ≡ None
  unfolding items
  no_tokens zero ts none = refl
  no_tokens (suc n) [] none = nothing_read n (p []) shorter_than_none
  no_tokens (suc n) (t ∷ ts) none = let never : ⊥ = omega arith in absurd never

  pub items_enough : (n m : ℕ) (ts : List Token) → length ts ≤ n → length ts ≤ m → items p n ts ≡ items p m ts
  unfolding items
  items_enough zero m ts a b = sym (no_tokens m ts a)
  items_enough (suc n) zero ts a b = no_tokens (suc n) ts b
  items_enough (suc n) (suc m) ts a b =
      same_step n m ts (after_end_array ts) (λ j r e. let less = takes ts r (ap left e) in items_enough n m r (omega (arith, less)) (omega (arith, less)))

-- ---- elements that are read one after another

before_nothing : (o : Option (Items × List Token)) → o ≡ parse_map (before []) o
before_nothing None = refl
before_nothing (Some p) = refl

before_more : (ds : List Data) (d : Data) (o : Option (Items × List Token)) → parse_map (before ds) (parse_map (item d) o) ≡ parse_map (before (ds ++ d ∷ [])) o
before_more ds d None = refl
before_more ds d (Some p) = ap (λ es. Some (es, p.1)) (before_one_more ds d p.0)

module _ {P : Type 0} (limit : P → Option ℕ) (inside : P → ℕ → P) (place : P) (depth : ℕ) where
  -- these are kept of the elements so far
  pub record IsKeeping (old now : List Token) (kept : List Data) : Type 0 where
    pub turns : ℕ
    pub elements : List Data
    pub enough : length now ≤ turns
    pub shorter : length now ≤ length old
    pub read : converted of_items (items (value depth) (length old) old) ≡ parse_map (before elements) (converted of_items (items (value depth) turns now))
    pub each : kept ≡ cut_each limit inside place 0 elements
    pub within : IsWithin (length kept) (limit place)

  pub keeping_none : (ts : List Token) → IsKeeping ts ts []
  keeping_none ts =
      record {
        turns = length ts;
        elements = [];
        enough = omega arith;
        shorter = omega arith;
        read = before_nothing (converted of_items (items (value depth) (length ts) ts));
        each = refl;
        within = none_within (limit place);
      }

  module _ (old now : List Token) (kept : List Data) (keeping : IsKeeping old now kept) where
    as_many : length kept ≡ length keeping.elements
    as_many = ap length keeping.each ∙ length-cut_each limit inside place 0 keeping.elements

    -- one more element, cut at its place
    one_more : (d v : Data) → v ≡ cut limit inside (inside place (length kept)) d → kept ++ v ∷ [] ≡ cut_each limit inside place 0 (keeping.elements ++ d ∷ [])
    one_more d v e =
        let here : length kept ≡ 0 + length keeping.elements = omega (arith, as_many) in
        ap₂ (λ (ds es : List Data). ds ++ es) keeping.each (ap (λ c. c ∷ []) (e ∙ ap (λ n. cut limit inside (inside place n) d) here)) ∙ sym (cut_one_more limit inside place 0 keeping.elements d)

    pub keeping_element : (r : List Token) (v : Data) → limit place ≢ Some (length kept) → after_end_array now ≡ None → IsCut limit inside (inside place (length kept)) depth now r v → length r < length now
        → IsKeeping old r (kept ++ v ∷ [])
    keeping_element r v room going element less =
        let n = keeping.turns in
        let d = element.0 in
        let some : 0 < n = omega (arith, keeping.enough) in
        let turn = item_read (value depth) n now r d some going element.1 in
        let rest = converted of_items (items (value depth) (n - 1) r) in
        record {
          turns = n - 1;
          elements = keeping.elements ++ d ∷ [];
          enough = omega (arith, keeping.enough);
          shorter = omega (arith, keeping.shorter);
          read = keeping.read ∙ ap (parse_map (before keeping.elements)) turn ∙ before_more keeping.elements d rest;
          each = one_more d v element.2;
          within = subst (λ n. IsWithin n (limit place)) (sym (length_push kept v)) (within_one_more (length kept) (limit place) keeping.within room);
        }

    pub keeping_over : (r : List Token) → after_end_array now ≡ Some r → AreCut limit inside place depth old r (items_of kept)
    keeping_over r e =
        let ds = keeping.elements in
        let read = keeping.read ∙ ap (parse_map (before ds)) (items_over (value depth) keeping.turns now r keeping.enough e) in
        let fits : IsWithin (length ds) (limit place) = subst (λ n. IsWithin n (limit place)) as_many keeping.within in
        (before ds no_items, read, ap items_of keeping.each ∙ sym (cut_all limit inside place 0 (limit place) ds fits))

    -- the rest of a list of which enough is kept
    the_rest : converted of_items (items (value depth) keeping.turns now) ≡ converted of_items (items (value depth) (length now) now)
    the_rest = ap (converted of_items) (items_enough (value depth) (skip_value-shorter depth) keeping.turns (length now) now keeping.enough (omega arith))

    pub keeping_full : (r : List Token) → limit place ≡ Some (length kept) → behind_items depth now ≡ Some r → AreCut limit inside place depth old r (items_of kept)
    keeping_full r full e =
        let ds = keeping.elements in
        let more = left_some (converted of_items (items (value depth) (length now) now)) r e in
        let read = keeping.read ∙ ap (parse_map (before ds)) (the_rest ∙ more.1) in
        let fills : limit place ≡ Some (length ds) = full ∙ ap Some as_many in
        (before ds more.0, read, ap items_of keeping.each ∙ sym (ap (λ room. cut_items limit inside place 0 room (before ds more.0)) fills ∙ cut_full limit inside place 0 ds more.0))

    pub keeping_refused : after_end_array now ≡ None → converted of_json (value depth now) ≡ None → converted of_items (items (value depth) (length old) old) ≡ None
    keeping_refused going e = keeping.read ∙ ap (parse_map (before keeping.elements)) (item_refused (value depth) keeping.turns now going e)

    pub keeping_full_refused : behind_items depth now ≡ None → converted of_items (items (value depth) (length old) old) ≡ None
    keeping_full_refused e = keeping.read ∙ ap (parse_map (before keeping.elements)) (the_rest ∙ left_none _ e)
