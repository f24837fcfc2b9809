-- The laws of a keyed object, by those of the object at each key.
use Rattle.std.specs.Prelude.{◌≡◌, ◌↔◌, ℕ, ◌==◌, ◌&&◌, Bool, true, false, List, [], ◌∷◌, ◌++◌, refl}
use Rattle.std.proofs.Common.{ap, arith, eq-eqb, ⊎_elim}
use Rattle.std.proofs.lemmas.Bool.{eqb-true, cases_Bool, and_parts, and_from}
use Rattle.std.proofs.lemmas.List.{map-append}
use Rattle.std.proofs.lemmas.List.Elements.{All-nil, filter-append}
use Rattle.model_objects.specs.declared.keyed.KeyedCall.{KeyedCall}
use Rattle.model_objects.specs.Table.{IsTable, start_at}
use Rattle.model_objects.specs.Keyed.{calls_at, answer, depends, settles}

pub empty_is_table : {S : Type 0} (plain : S) (is_start : S → Type 0) → IsTable plain is_start []
empty_is_table plain is_start = record {
  rising = λ k below. absurd (omega arith);
  short = omega arith;
  small = All-nil _;
  not_plain = All-nil _;
  each_start = All-nil _;
}

module _ {C : Type 0} where
  pub calls_at-append : (key : ℕ) (before after : List (KeyedCall C)) → calls_at key (before ++ after) ≡ calls_at key before ++ calls_at key after
  calls_at-append key before after = rw (filter-append (λ (c : KeyedCall C). c.key == key) before after) (map-append _ _ _)

  pub calls_at-here : (key : ℕ) (c : KeyedCall C) (calls : List (KeyedCall C)) → (c.key == key) ≡ true → calls_at key (c ∷ calls) ≡ c.call ∷ calls_at key calls
  calls_at-here key c calls here = rw here refl

  pub calls_at-apart : (key : ℕ) (c : KeyedCall C) (calls : List (KeyedCall C)) → (c.key == key) ≡ false → calls_at key (c ∷ calls) ≡ calls_at key calls
  calls_at-apart key c calls apart = rw apart refl

module _ {S C R : Type 0} (plain : S) (inner : S → List C → C → R) (query : C → Bool)
    (silent : (s : S) (before after : List C) (q c : C) → query q ≡ true → inner s (before ++ q ∷ after) c ≡ inner s (before ++ after) c) where
  pub keyed_query_changes_nothing : (start : List (ℕ × S)) (before after : List (KeyedCall C)) (q c : KeyedCall C) → query q.call ≡ true
      → answer plain inner start (before ++ q ∷ after) c ≡ answer plain inner start (before ++ after) c
  keyed_query_changes_nothing start before after q c e =
      rw (calls_at-append c.key before (q ∷ after), calls_at-append c.key before after)
      (⊎_elim
      (λ (here : (q.key == c.key) ≡ true). rw (calls_at-here c.key q after here) (silent (start_at plain start c.key) (calls_at c.key before) (calls_at c.key after) q.call c.call e))
      (λ (apart : (q.key == c.key) ≡ false). rw (calls_at-apart c.key q after apart) refl)
      (cases_Bool (q.key == c.key)))

module _ {S C R : Type 0} (plain : S) (inner : S → List C → C → R) (inner_depends : C → C → Bool)
    (silent : (s : S) (before after : List C) (o c : C) → inner_depends c o ≡ false → inner s (before ++ o ∷ after) c ≡ inner s (before ++ after) c) where
  pub keyed_others_change_nothing : (start : List (ℕ × S)) (before after : List (KeyedCall C)) (o c : KeyedCall C) → depends inner_depends c o ≡ false
      → answer plain inner start (before ++ o ∷ after) c ≡ answer plain inner start (before ++ after) c
  keyed_others_change_nothing start before after o c e =
      rw (calls_at-append c.key before (o ∷ after), calls_at-append c.key before after)
      (⊎_elim
      (λ (here : (o.key == c.key) ≡ true).
      let not_inner : inner_depends c.call o.call ≡ false = rw here at e in
      rw (calls_at-here c.key o after here) (silent (start_at plain start c.key) (calls_at c.key before) (calls_at c.key after) o.call c.call not_inner))
      (λ (apart : (o.key == c.key) ≡ false). rw (calls_at-apart c.key o after apart) refl)
      (cases_Bool (o.key == c.key)))

module _ {S C R : Type 0} (plain : S) (inner : S → List C → C → R) (inner_settles : C → C → Bool)
    (final : (s : S) (before after : List C) (o c : C) → inner_settles c o ≡ true → inner s (before ++ o ∷ after) c ≡ inner s (o ∷ after) c) where
  pub keyed_settled : (start : List (ℕ × S)) (before after : List (KeyedCall C)) (o c : KeyedCall C) → settles inner_settles c o ≡ true
      → answer plain inner start (before ++ o ∷ after) c ≡ answer plain inner start (o ∷ after) c
  keyed_settled start before after o c e =
      let parts = and_parts (o.key == c.key) (inner_settles c.call o.call) e in
      rw (calls_at-append c.key before (o ∷ after), calls_at-here c.key o after parts.0)
      (final (start_at plain start c.key) (calls_at c.key before) (calls_at c.key after) o.call c.call parts.1)

module _ {C : Type 0} (eq : C → C → Bool) (decides : (a b : C) → (eq a b ≡ true) ↔ (a ≡ b)) where
  pub equal_keyed_calls : (a b : KeyedCall C) → (((a.key == b.key) && eq a.call b.call) ≡ true) ↔ (a ≡ b)
  equal_keyed_calls a b = (
    (λ (e : ((a.key == b.key) && eq a.call b.call) ≡ true).
        let parts = and_parts (a.key == b.key) (eq a.call b.call) e in
        let keys : a.key ≡ b.key = eqb-true a.key b.key parts.0 in
        let inner_calls : a.call ≡ b.call = (decides a.call b.call).0 parts.1 in
        λ i. record { key = keys i; call = inner_calls i }),
    (λ (e : a ≡ b). and_from (a.key == b.key) (eq a.call b.call) (eq-eqb a.key b.key (ap (λ c. c.key) e)) ((decides a.call b.call).1 (ap (λ c. c.call) e))),
  )
