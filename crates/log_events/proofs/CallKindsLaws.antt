-- What calls came to, as tests of the definition of a history say it.
use Rattle.std.proofs.Common.{◌≡◌, ℕ, suc, Bool, true, false, List, [], ◌∷◌, ◌++◌, length, refl, ap, sym, subst, ◌∙◌, inl, inr, ⊎_elim, eqb-true, eq-eqb}
use Rattle.std.specs.Prelude.{◌⊎◌, ◌↔◌, ◌==◌, ◌&&◌, if◌then◌else◌, Contains, IsTrue, Option, Some, None, filter, slice_get}
use Rattle.std.specs.List.{list_any}
use Rattle.std.proofs.lemmas.List.Elements.{Contains-append_left, Contains-push, Contains-push_cases}
use Rattle.std.proofs.lemmas.Option.{same_Some, some_pair_parts, slice_get-get_or, slice_get_within, get_or_from_slice_get}
use Rattle.log_events.specs.declared.event.ClientCall.{ClientCall}
use Rattle.log_events.specs.declared.event.ClientCall.TheVariants.{WriteTo, ReadOf, DeleteOf}
use Rattle.log_events.specs.declared.event.Ending.{Ending}
use Rattle.log_events.specs.declared.event.Ending.TheVariants.{Answered, Got, GotNothing, Failed, Lost}
use Rattle.log_events.specs.Events.{Call}
use Rattle.log_events.specs.Histories.{gets, deletes}
use Rattle.log_events.proofs.ListPlaces.{filter_map-from, filter_map-to, list_any-from, list_any-to}
use Rattle.log_events.specs.LeftOut.{finds_nothing}
use Rattle.log_events.specs.Steps.CallKinds.{got_pair, deleted_key, missed_key, got_pairs, deleted_keys, missed_keys}
use Rattle.log_events.specs.Steps.Tallies.{count_in}

module _ {X : Type 0} (xs : List X) where
  pub Contains-place : (x : X) → Contains xs x → (k : ℕ) × (slice_get xs k ≡ Some x)
  Contains-place x (k, within, read) = (k, slice_get-get_or xs k x within ∙ ap Some read)

  pub place-Contains : (k : ℕ) (x : X) → slice_get xs k ≡ Some x → Contains xs x
  place-Contains k x at = (k, slice_get_within xs k x at, get_or_from_slice_get xs k x x at)

both : (a b : Bool) → (a && b) ≡ true → (a ≡ true) × (b ≡ true)
both true b is = (refl, is)
both false b is = absurd cc

gets-from : (x v : ℕ) (call : ClientCall) (ending : Option Ending) → gets x v call ending ≡ true → got_pair call ending ≡ Some (x, v)
gets-from x v (WriteTo y u) ending is = absurd cc
gets-from x v (ReadOf y) None is = absurd cc
gets-from x v (ReadOf y) (Some Answered) is = absurd cc
gets-from x v (ReadOf y) (Some (Got u)) is =
    let parts = both (y == x) (u == v) is in
    let key = eqb-true y x parts.0 in
    let value = eqb-true u v parts.1 in
    λ i. Some (key i, value i)
gets-from x v (ReadOf y) (Some GotNothing) is = absurd cc
gets-from x v (ReadOf y) (Some Failed) is = absurd cc
gets-from x v (ReadOf y) (Some Lost) is = absurd cc
gets-from x v (DeleteOf y) ending is = absurd cc

gets-to : (x v : ℕ) (call : ClientCall) (ending : Option Ending) → got_pair call ending ≡ Some (x, v) → gets x v call ending ≡ true
gets-to x v (WriteTo y u) ending is = absurd cc
gets-to x v (ReadOf y) None is = absurd cc
gets-to x v (ReadOf y) (Some Answered) is = absurd cc
gets-to x v (ReadOf y) (Some (Got u)) is =
    let parts = some_pair_parts y x u v is in rw (eq-eqb y x parts.0, eq-eqb u v parts.1) refl
gets-to x v (ReadOf y) (Some GotNothing) is = absurd cc
gets-to x v (ReadOf y) (Some Failed) is = absurd cc
gets-to x v (ReadOf y) (Some Lost) is = absurd cc
gets-to x v (DeleteOf y) ending is = absurd cc

deletes-from : (x : ℕ) (call : ClientCall) (ending : Option Ending) → deletes x call ending ≡ true → deleted_key call ending ≡ Some x
deletes-from x (WriteTo y u) ending is = absurd cc
deletes-from x (ReadOf y) ending is = absurd cc
deletes-from x (DeleteOf y) None is = ap Some (eqb-true y x is)
deletes-from x (DeleteOf y) (Some Answered) is = ap Some (eqb-true y x is)
deletes-from x (DeleteOf y) (Some (Got u)) is = ap Some (eqb-true y x is)
deletes-from x (DeleteOf y) (Some GotNothing) is = ap Some (eqb-true y x is)
deletes-from x (DeleteOf y) (Some Failed) is = absurd cc
deletes-from x (DeleteOf y) (Some Lost) is = ap Some (eqb-true y x is)

deletes-to : (x : ℕ) (call : ClientCall) (ending : Option Ending) → deleted_key call ending ≡ Some x → deletes x call ending ≡ true
deletes-to x (WriteTo y u) ending is = absurd cc
deletes-to x (ReadOf y) ending is = absurd cc
deletes-to x (DeleteOf y) None is = eq-eqb y x (same_Some _ _ is)
deletes-to x (DeleteOf y) (Some Answered) is = eq-eqb y x (same_Some _ _ is)
deletes-to x (DeleteOf y) (Some (Got u)) is = eq-eqb y x (same_Some _ _ is)
deletes-to x (DeleteOf y) (Some GotNothing) is = eq-eqb y x (same_Some _ _ is)
deletes-to x (DeleteOf y) (Some Failed) is = absurd cc
deletes-to x (DeleteOf y) (Some Lost) is = eq-eqb y x (same_Some _ _ is)

module _ (calls : List Call) where
  abbrev of_got : Call → Option (ℕ × ℕ)
  of_got a = got_pair a.call a.ending

  abbrev of_deleted : Call → Option ℕ
  of_deleted a = deleted_key a.call a.ending

  -- a pair was got exactly where some read got the value of the key
  pub got_pairs-any : (x v : ℕ) → Contains (got_pairs calls) (x, v) ↔ IsTrue (list_any (λ (a : Call). gets x v a.call a.ending) calls)
  got_pairs-any x v = (
    λ inside.
        let p = Contains-place (got_pairs calls) (x, v) inside in
        let r = filter_map-from of_got calls p.0 (x, v) p.1 in
        list_any-to (λ (a : Call). gets x v a.call a.ending) calls r.0 r.1 r.2 (gets-to x v r.1.call r.1.ending r.3),
    λ some.
        let r = list_any-from (λ (a : Call). gets x v a.call a.ending) calls some in
        let p = filter_map-to of_got calls r.0 r.1 (x, v) r.2 (gets-from x v r.1.call r.1.ending r.3) in
        place-Contains (got_pairs calls) p.0 (x, v) p.1,
  )

  pub deleted_keys-any : (x : ℕ) → Contains (deleted_keys calls) x ↔ IsTrue (list_any (λ (a : Call). deletes x a.call a.ending) calls)
  deleted_keys-any x = (
    λ inside.
        let p = Contains-place (deleted_keys calls) x inside in
        let r = filter_map-from of_deleted calls p.0 x p.1 in
        list_any-to (λ (a : Call). deletes x a.call a.ending) calls r.0 r.1 r.2 (deletes-to x r.1.call r.1.ending r.3),
    λ some.
        let r = list_any-from (λ (a : Call). deletes x a.call a.ending) calls some in
        let p = filter_map-to of_deleted calls r.0 r.1 x r.2 (deletes-from x r.1.call r.1.ending r.3) in
        place-Contains (deleted_keys calls) p.0 x p.1,
  )

-- a call is no read that got nothing, or one of a key
abbrev IsOfMissed : ℕ → Option ℕ → Bool → Type 0
IsOfMissed x o b = ((o ≡ None) × (b ≡ false)) ⊎ ((y : ℕ) × (o ≡ Some y) × (b ≡ (y == x)))

missed-cases : (x : ℕ) (call : ClientCall) (ending : Option Ending) → IsOfMissed x (missed_key call ending) (finds_nothing x call ending)
missed-cases x (WriteTo y u) ending = inl (refl, refl)
missed-cases x (ReadOf y) None = inl (refl, refl)
missed-cases x (ReadOf y) (Some Answered) = inl (refl, refl)
missed-cases x (ReadOf y) (Some (Got u)) = inl (refl, refl)
missed-cases x (ReadOf y) (Some GotNothing) = inr (y, refl, refl)
missed-cases x (ReadOf y) (Some Failed) = inl (refl, refl)
missed-cases x (ReadOf y) (Some Lost) = inl (refl, refl)
missed-cases x (DeleteOf y) ending = inl (refl, refl)

-- how often a key is among those of reads that got nothing is how many reads of it got nothing
pub count-missed : (x : ℕ) (calls : List Call) → count_in (missed_keys calls) x ≡ length (filter (λ (a : Call). finds_nothing x a.call a.ending) calls)
count-missed x [] = refl
count-missed x (a ∷ calls) = step (count-missed x calls) (missed-cases x a.call a.ending)
  where
    step : count_in (missed_keys calls) x ≡ length (filter (λ (b : Call). finds_nothing x b.call b.ending) calls)
        → IsOfMissed x (missed_key a.call a.ending) (finds_nothing x a.call a.ending)
        → count_in (missed_keys (a ∷ calls)) x ≡ length (filter (λ (b : Call). finds_nothing x b.call b.ending) (a ∷ calls))
    step rest kind = ⊎_elim
        (λ (other : (missed_key a.call a.ending ≡ None) × (finds_nothing x a.call a.ending ≡ false)). rw (other.0, other.1) rest)
        (λ (read : (y : ℕ) × (missed_key a.call a.ending ≡ Some y) × (finds_nothing x a.call a.ending ≡ (y == x))).
        rw (read.1, read.2) (elim (read.0 == x) as (λ b. length (if b then read.0 ∷ filter (λ y. y == x) (missed_keys calls) else filter (λ y. y == x) (missed_keys calls))
        ≡ length (if b then a ∷ filter (λ (b : Call). finds_nothing x b.call b.ending) calls else filter (λ (b : Call). finds_nothing x b.call b.ending) calls)) [
          | true ↦ ap suc rest
          | false ↦ rest
        ]))
        kind

-- pairs that were got, of some: one more that is among these, and one that is not
module _ (lost pairs got : List (ℕ × ℕ)) (y : ℕ × ℕ)
    (same : (x v : ℕ) → Contains lost (x, v) → Contains pairs (x, v) ↔ Contains got (x, v)) where
  pub got-more : (x v : ℕ) → Contains lost (x, v) → Contains (pairs ++ y ∷ []) (x, v) ↔ Contains (got ++ y ∷ []) (x, v)
  got-more x v inside = (
    λ h. ⊎_elim
        (λ (old : Contains pairs (x, v)). Contains-append_left got (y ∷ []) (x, v) ((same x v inside).0 old))
        (λ (here : y ≡ (x, v)). subst (Contains (got ++ y ∷ [])) here (Contains-push got y))
        (Contains-push_cases pairs y (x, v) h),
    λ h. ⊎_elim
        (λ (old : Contains got (x, v)). Contains-append_left pairs (y ∷ []) (x, v) ((same x v inside).1 old))
        (λ (here : y ≡ (x, v)). subst (Contains (pairs ++ y ∷ [])) here (Contains-push pairs y))
        (Contains-push_cases got y (x, v) h),
  )

  pub got-other : ¬ Contains lost y → (x v : ℕ) → Contains lost (x, v) → Contains pairs (x, v) ↔ Contains (got ++ y ∷ []) (x, v)
  got-other none x v inside = (
    λ h. Contains-append_left got (y ∷ []) (x, v) ((same x v inside).0 h),
    λ h. ⊎_elim
        (λ (old : Contains got (x, v)). (same x v inside).1 old)
        (λ (here : y ≡ (x, v)). absurd (none (subst (Contains lost) (sym here) inside)))
        (Contains-push_cases got y (x, v) h),
  )
