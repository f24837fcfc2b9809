-- The part of a keyed object's history at some keys meets what the whole meets.
use Rattle.std.proofs.Common.{◌≡◌, ℕ, Bool, true, false, List, [], ◌∷◌, refl, ap, sym, ◌∙◌, ⊎_elim, eqb-true}
use Rattle.std.specs.Prelude.{◌⊎◌, ◌==◌, Option, Some, None, option_map, unwrap_or, filter}
use Rattle.std.specs.List.{cons_option}
use Rattle.std.proofs.Common.{inl, inr}
use Rattle.std.proofs.lemmas.Bool.{cases_Bool, cond-true, cond-false, both_ways}
use Rattle.std.proofs.lemmas.Option.{same_Some}
use Rattle.model_objects.specs.declared.keyed.KeyedCall.{KeyedCall}
use Rattle.model_objects.specs.Table.{start_at}
use Rattle.model_objects.specs.Keyed.{calls_at, answer}
use Rattle.model_objects.specs.Laws.Keyed.{calls_at-here, calls_at-apart}
use Rattle.model_history.specs.declared.op_id.OpId.{OpId}
use Rattle.model_history.specs.History.{HistoryValue, entry, calls}
use Rattle.cert_check.specs.declared.criterion.Criterion.{Criterion}
use Rattle.cert_check.specs.Criteria.{Meets}
use Rattle.cert_subhistories.specs.Parts.{part_by, kept_of, at_keys}
use Rattle.cert_subhistories.proofs.Cuts.{KeepsAnswers}
use Rattle.cert_subhistories.proofs.PartEmbeddings.{kept_of-parts, meets-part}

module _ {C : Type 0} where
  -- one call in front of lists with the same calls at a key
  front-at_key : (key : ℕ) (c : KeyedCall C) (before after : List (KeyedCall C)) → calls_at key before ≡ calls_at key after
      → calls_at key (c ∷ before) ≡ calls_at key (c ∷ after)
  front-at_key key c before after same = ⊎_elim
      (λ (here : (c.key == key) ≡ true).
      calls_at-here key c before here ∙ ap (λ (cs : List C). c.call ∷ cs) same ∙ sym (calls_at-here key c after here))
      (λ (apart : (c.key == key) ≡ false). calls_at-apart key c before apart ∙ same ∙ sym (calls_at-apart key c after apart))
      (cases_Bool (c.key == key))

module _ {S C R : Type 0} (keys : ℕ → Bool) (h : HistoryValue S (KeyedCall C) R) where
  -- the operations at the keys
  abbrev there : OpId → Bool
  there = kept_of (at_keys keys) h

  entry_cases : (b : OpId) → (entry h b ≡ None) ⊎ ((e : KeyedCall C × Option R) × (entry h b ≡ Some e))
  entry_cases b = elim (entry h b) as (λ (found : Option (KeyedCall C × Option R)). (found ≡ None) ⊎ ((e : KeyedCall C × Option R) × (found ≡ Some e))) [
    | None ↦ inl refl
    | Some e ↦ inr (e, refl)
  ]

  calls-front : (b : OpId) (found : Option (KeyedCall C × Option R)) (ops : List OpId) → entry h b ≡ found
      → calls h (b ∷ ops) ≡ cons_option (option_map (λ (e : KeyedCall C × Option R). e.0) found) (calls h ops)
  calls-front b found ops is = ap (λ (o : Option (KeyedCall C × Option R)). cons_option (option_map (λ (e : KeyedCall C × Option R). e.0) o) (calls h ops)) is

  there-is : (b : OpId) (found : Option (KeyedCall C × Option R)) → entry h b ≡ found
      → there b ≡ unwrap_or (option_map (λ (e : KeyedCall C × Option R). keys e.0.key) found) false
  there-is b found is = ap (λ (o : Option (KeyedCall C × Option R)). unwrap_or (option_map (λ (e : KeyedCall C × Option R). keys e.0.key) o) false) is

  module _ (key : ℕ) (among : keys key ≡ true) where
    abbrev SameAtKey : List OpId → Type 0
    SameAtKey ops = calls_at key (calls h ops) ≡ calls_at key (calls h (filter there ops))

    left_out : (b : OpId) (ops : List OpId) → there b ≡ false → calls_at key (calls h (b ∷ ops)) ≡ calls_at key (calls h ops) → SameAtKey ops
        → SameAtKey (b ∷ ops)
    left_out b ops fails silent rest =
        silent ∙ rest ∙ ap (λ (xs : List OpId). calls_at key (calls h xs)) (sym (cond-false (there b) (b ∷ filter there ops) (filter there ops) fails))

    same-known : (b : OpId) (e : KeyedCall C × Option R) (ops : List OpId) → entry h b ≡ Some e → SameAtKey ops → SameAtKey (b ∷ ops)
    same-known b e ops is rest = ⊎_elim
        (λ (holds : keys e.0.key ≡ true).
        ap (calls_at key) (calls-front b (Some e) ops is)
        ∙ front-at_key key e.0 (calls h ops) (calls h (filter there ops)) rest
        ∙ ap (calls_at key) (sym (calls-front b (Some e) (filter there ops) is))
        ∙ ap (λ (xs : List OpId). calls_at key (calls h xs)) (sym (cond-true (there b) (b ∷ filter there ops) (filter there ops) (there-is b (Some e) is ∙ holds))))
        (λ (fails : keys e.0.key ≡ false).
        let apart : (e.0.key == key) ≡ false = ⊎_elim
        (λ (here : (e.0.key == key) ≡ true). absurd (both_ways (keys key) (ap keys (sym (eqb-true e.0.key key here)) ∙ fails) among))
        (λ (other : (e.0.key == key) ≡ false). other)
        (cases_Bool (e.0.key == key)) in
        left_out b ops (there-is b (Some e) is ∙ fails) (ap (calls_at key) (calls-front b (Some e) ops is) ∙ calls_at-apart key e.0 (calls h ops) apart) rest)
        (cases_Bool (keys e.0.key))

    -- leaving out the operations at other keys leaves the calls at a key as they are
    same-at_key : (ops : List OpId) → SameAtKey ops
    same-at_key [] = refl
    same-at_key (b ∷ ops) = ⊎_elim
        (λ (none : entry h b ≡ None). left_out b ops (there-is b None none) (ap (calls_at key) (calls-front b None ops none)) (same-at_key ops))
        (λ (some : (e : KeyedCall C × Option R) × (entry h b ≡ Some e)). same-known b some.0 ops some.1 (same-at_key ops))
        (entry_cases b)

module _ {S C R : Type 0} (plain : S) (inner : S → List C → C → R) (keys : ℕ → Bool) (h : HistoryValue (List (ℕ × S)) (KeyedCall C) R) where
  at_keys-keep_answers : KeepsAnswers (answer plain inner) h (kept_of (at_keys keys) h)
  at_keys-keep_answers ops o c r holds is answered =
      let found = kept_of-parts (at_keys keys) h o holds in
      let same : found.0 ≡ (c, Some r) = same_Some found.0 (c, Some r) (sym found.1 ∙ is) in
      let among : keys c.key ≡ true = ap (λ (e : KeyedCall C × Option R). keys e.0.key) (sym same) ∙ found.2 in
      answered ∙ ap (λ (cs : List C). inner (start_at plain h.0 c.key) cs c.call) (same-at_key keys h c.key among ops)

  -- the part at some keys meets what the whole meets
  pub part_at_keys-meets : (criterion : Criterion) → Meets (answer plain inner) h criterion → Meets (answer plain inner) (part_by (at_keys keys) h) criterion
  part_at_keys-meets = meets-part (answer plain inner) (at_keys keys) h at_keys-keep_answers
