-- One call more of a keyed object: the state at its key takes it in, and the others stay.
use denote.Ref.{Bor}
use Rattle.std.specs.Prelude.{◌==◌, MatchOption, IfSome, option_copied, unwrap_or}
use Rattle.std.proofs.Common.{◌≡◌, ℕ, Bool, true, false, cond, List, [], ◌∷◌, ◌++◌, Option, Some, None, nat_cmp, sym, ◌∙◌, ap, subst, ⊎_elim}
use Rattle.std.specs.BTreeMap.{is_at}
use Rattle.std.specs.Map.{lookup}
use Rattle.std.specs.Cmp.{unsigned_tied}
use Rattle.std.proofs.lemmas.Bool.{eqb-true, cases_Bool}
use Rattle.std.proofs.lemmas.List.{append-nil}
use Rattle.std.proofs.lemmas.Map.Entries.{All-lookup}
use Rattle.model_objects.specs.declared.keyed.KeyedCall.{KeyedCall}
use Rattle.model_objects.specs.Table.{value_at, start_at, IsTable}
use Rattle.model_objects.specs.Keyed.{calls_at, Stands}
use Rattle.model_objects.specs.Laws.Keyed.{calls_at-append, calls_at-here, calls_at-apart}
use Rattle.model_objects.proofs.TableLemmas.{value_at-by_cmp}

module _ {S C O : Type 0} (plain : S) (stands : O → S → List C → Type 0) where
  -- what a state and a start say of one key
  abbrev pub StandsAt : Option O → S → List C → Type 0
  StandsAt state start calls = MatchOption state (calls ≡ []) (λ o. stands o start calls)

  -- the state that the map of states has at a key
  pub stands_from_some : (state : List (ℕ × S) × List (ℕ × O)) (table : List (ℕ × S)) (states : List (ℕ × O))
      (start : List (ℕ × S)) (calls : List (KeyedCall C)) (key : ℕ) (o : O)
      → (table, states) ≡ state → Stands plain stands state start calls → Some o ≡ lookup (is_at (nat_cmp key)) states
      → stands o (start_at plain start key) (calls_at key calls)
  stands_from_some state table states start calls key o view_is stood found =
      let here : value_at state.1 key ≡ Some o = ap (λ s. value_at s.1 key) (sym view_is) ∙ sym (value_at-by_cmp states key) ∙ sym found in
      subst (λ (r : Option O). StandsAt r (start_at plain start key) (calls_at key calls)) here (stood.each_key key)

  -- a fresh state, at a key at which the map of states has none
  pub stands_from_none : (state : List (ℕ × S) × List (ℕ × O)) (table : List (ℕ × S)) (states : List (ℕ × O))
      (start : List (ℕ × S)) (calls : List (KeyedCall C)) (key : ℕ) (o : O)
      → (table, states) ≡ state → Stands plain stands state start calls → None ≡ lookup (is_at (nat_cmp key)) states
      → stands o (start_at plain table key) []
      → stands o (start_at plain start key) (calls_at key calls)
  stands_from_none state table states start calls key o view_is stood found fresh =
      let here : value_at state.1 key ≡ None = ap (λ s. value_at s.1 key) (sym view_is) ∙ sym (value_at-by_cmp states key) ∙ sym found in
      let silent : calls_at key calls ≡ [] = subst (λ (r : Option O). StandsAt r (start_at plain start key) (calls_at key calls)) here (stood.each_key key) in
      let same : table ≡ start = ap (λ s. s.0) view_is ∙ stood.start_kept in
      subst (λ (cs : List C). stands o (start_at plain start key) cs) (sym silent)
      (subst (λ (t : List (ℕ × S)). stands o (start_at plain t key) []) same fresh)

  same_stands : {found other : Option O} (start : S) {calls others : List C} → found ≡ other → calls ≡ others
      → StandsAt other start others → StandsAt found start calls
  same_stands {found} {other} start {calls} {others} same_state same_calls stood =
      subst (λ (cs : List C). StandsAt found start cs) (sym same_calls) (subst (λ (o : Option O). StandsAt o start others) (sym same_state) stood)

  -- the states that differ at the call's key alone, where one has taken the call in
  pub stands_after_call : (state : List (ℕ × S) × List (ℕ × O)) (table : List (ℕ × S)) (old new : List (ℕ × O))
      (start : List (ℕ × S)) (calls : List (KeyedCall C)) (c : KeyedCall C) (o : O)
      → (table, old) ≡ state → Stands plain stands state start calls
      → ((key : ℕ) → lookup (is_at (nat_cmp key)) new ≡ cond (is_at (nat_cmp c.key) key) (Some o) (lookup (is_at (nat_cmp key)) old))
      → stands o (start_at plain start c.key) (calls_at c.key calls ++ c.call ∷ [])
      → Stands plain stands (table, new) start (calls ++ c ∷ [])
  stands_after_call state table old new start calls c o view_is stood changed here = record { start_kept = all.start_kept; each_key = at_key }
    where
      all : Stands plain stands (table, old) start calls
      all = subst (λ (s : List (ℕ × S) × List (ℕ × O)). Stands plain stands s start calls) (sym view_is) stood

      now : (key : ℕ) (b : Bool) → (c.key == key) ≡ b → value_at new key ≡ cond b (Some o) (value_at old key)
      now key b is = sym (value_at-by_cmp new key) ∙ changed key
          ∙ (λ i. cond (unsigned_tied c.key key i) (Some o) (value_at-by_cmp old key i))
          ∙ (λ i. cond (is i) (Some o) (value_at old key))

      more : (key : ℕ) (rest : List C) → calls_at key (c ∷ []) ≡ rest → calls_at key (calls ++ c ∷ []) ≡ calls_at key calls ++ rest
      more key rest is = calls_at-append key calls (c ∷ []) ∙ ap (λ cs. calls_at key calls ++ cs) is

      at_same : (key : ℕ) → (c.key == key) ≡ true → StandsAt (value_at new key) (start_at plain start key) (calls_at key (calls ++ c ∷ []))
      at_same key same = same_stands (start_at plain start key) (now key true same) (more key (c.call ∷ []) (calls_at-here key c [] same))
          (subst (λ (k : ℕ). stands o (start_at plain start k) (calls_at k calls ++ c.call ∷ [])) (eqb-true c.key key same) here)

      at_other : (key : ℕ) → (c.key == key) ≡ false → StandsAt (value_at new key) (start_at plain start key) (calls_at key (calls ++ c ∷ []))
      at_other key apart = same_stands (start_at plain start key) (now key false apart)
          (more key [] (calls_at-apart key c [] apart) ∙ append-nil (calls_at key calls)) (all.each_key key)

      at_key : (key : ℕ) → StandsAt (value_at new key) (start_at plain start key) (calls_at key (calls ++ c ∷ []))
      at_key key = ⊎_elim (at_same key) (at_other key) (cases_Bool (c.key == key))

module _ {S : Type 0} (plain : S) (table : List (ℕ × S)) (key : ℕ) where
  -- what was found at a key, or else the plain start, is the start there
  pub start_or_plain : (found : Option (Bor S)) (default chosen : Bor S) → chosen ≡ unwrap_or found default
      → option_copied found ≡ value_at table key → default.now ≡ plain → chosen.now ≡ start_at plain table key
  start_or_plain None default chosen is here same = ap (λ (b : Bor S). b.now) is ∙ same ∙ ap (λ (o : Option S). unwrap_or o plain) here
  start_or_plain (Some there) default chosen is here same = ap (λ (b : Bor S). b.now) is ∙ ap (λ (o : Option S). unwrap_or o plain) here

module _ {S : Type 0} (plain : S) (is_start : S → Type 0) where
  chosen_is_start : (found : Option S) → is_start plain → IfSome found is_start → is_start (unwrap_or found plain)
  chosen_is_start None plain_is here = plain_is
  chosen_is_start (Some s) plain_is here = here

  -- the start at a key of a table is one
  pub start_at_is_start : (table : List (ℕ × S)) (key : ℕ) → is_start plain → IsTable plain is_start table → is_start (start_at plain table key)
  start_at_is_start table key plain_is is =
      chosen_is_start (value_at table key) plain_is (All-lookup is_start (λ k. k == key) table is.each_start)
