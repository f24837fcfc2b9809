-- What some sessions of a list show together.
use Rattle.std.specs.Prelude.{◌≡◌, ◌≢◌, ◌⊎◌, ◌++◌, ◌∷◌, [], ℕ, ◌+◌, ◌<◌, IfSome, List, None, Option, Some, length, slice_get}
use Rattle.std.proofs.Common.{arith, subst, sym, ⊎_elim, ◌∙◌}
use Rattle.std.proofs.lemmas.Bool.{cases_eq}
use Rattle.std.proofs.lemmas.Option.{same_Some}
use Rattle.judge_workers.specs.Numbers.{HasNumber}
use Rattle.judge_workers.proofs.NumberLists.{has-alone, has-cases, has-none}
use Rattle.order_memory.specs.Memory.{MemoryHistory}
use Rattle.judge_session_orders.specs.OnItsWay.{ListsSessions}
use Rattle.judge_session_orders.specs.OrderedSessions.{AreOrderedSessions, IsEarlier, IsOrderedAt}
use Rattle.judge_session_orders.specs.SessionOrders.{AreOrdered, IsOrderedSession}
use Rattle.judge_session_orders.specs.declared.ordering.OrderedSessions.{OrderedSessions}
use Rattle.judge_session_orders.specs.declared.ordering.SessionOrder.TheVariants.{Explained}
use Rattle.judge_session_orders.specs.declared.ordering.Unexplained.{Unexplained}
use Rattle.judge_session_orders.proofs.TurnLaws.{listed-place}

-- what holds of two holds of the one at the lesser place
pub earlier-either : (P : Unexplained → Type 0) (a b r : Option Unexplained) → IsEarlier a b r → IfSome a P → IfSome b P → IfSome r P
earlier-either P a b r is first second = ⊎_elim
    (λ (same : r ≡ a). subst (λ (u : Option Unexplained). IfSome u P) (sym same) first)
    (λ (same : r ≡ b). subst (λ (u : Option Unexplained). IfSome u P) (sym same) second)
    is.one

module _ (h : MemoryHistory) (sessions : List ℕ) where
  -- no places
  pub ordered-none : (found : OrderedSessions) → found.places.items ≡ [] → found.unexplained ≡ None → AreOrderedSessions h sessions found
  ordered-none found places none = record {
    each = λ k has. absurd (has-none k (subst (λ (ns : List ℕ). HasNumber ns k) places has));
    unexplained = subst (λ (u : Option Unexplained). IfSome u (λ (v : Unexplained). AreOrdered h v.order)) (sym none) tt;
  }

  -- the places of two lists
  pub ordered-joined : (xs ys zs : List ℕ) → zs ≡ xs ++ ys → ((k : ℕ) → HasNumber xs k → IsOrderedAt h sessions k)
      → ((k : ℕ) → HasNumber ys k → IsOrderedAt h sessions k) → (k : ℕ) → HasNumber zs k → IsOrderedAt h sessions k
  ordered-joined xs ys zs both first second k has = ⊎_elim
      (λ (one : HasNumber xs k). first k one)
      (λ (other : HasNumber ys k). second k other)
      (has-cases xs ys k (subst (λ (ns : List ℕ). HasNumber ns k) both has))

  -- a place more
  pub ordered-more : (xs zs : List ℕ) (place : ℕ) → zs ≡ xs ++ place ∷ [] → ((k : ℕ) → HasNumber xs k → IsOrderedAt h sessions k)
      → IsOrderedAt h sessions place → (k : ℕ) → HasNumber zs k → IsOrderedAt h sessions k
  ordered-more xs zs place grown was here = ordered-joined xs (place ∷ []) zs grown was
      (λ k has. subst (λ (n : ℕ). IsOrderedAt h sessions n) (sym (has-alone place k has)) here)

  -- one place more of a list of places
  pub places-more : (places : List ℕ) (i n : ℕ) → slice_get places i ≡ Some n
      → ((j k : ℕ) → j < i → slice_get places j ≡ Some k → IsOrderedAt h sessions k) → IsOrderedAt h sessions n
      → (j k : ℕ) → j < i + 1 → slice_get places j ≡ Some k → IsOrderedAt h sessions k
  places-more places i n here was ordered j k below at = ⊎_elim
      (λ (same : j ≡ i).
      let one : n ≡ k = same_Some _ _ (sym here ∙ subst (λ (m : ℕ). slice_get places m ≡ Some k) same at) in
      subst (λ (m : ℕ). IsOrderedAt h sessions m) one ordered)
      (λ (apart : j ≢ i). was j k (omega arith) at)
      (cases_eq j i)

  -- once those at the places that are left are ordered
  pub left-ordered : (places : List ℕ) → ((k : ℕ) → k < length sessions → HasNumber places k ⊎ IsOrderedAt h sessions k)
      → ((k : ℕ) → HasNumber places k → IsOrderedAt h sessions k) → (k : ℕ) → k < length sessions → IsOrderedAt h sessions k
  left-ordered places others each k below = ⊎_elim
      (λ (has : HasNumber places k). each k has)
      (λ (ordered : IsOrderedAt h sessions k). ordered)
      (others k below)

  -- all places
  pub ordered-all : ListsSessions h (length h.1) sessions → ((k : ℕ) → k < length sessions → IsOrderedAt h sessions k)
      → AreOrdered h Explained
  ordered-all lists all s exists i size =
      let place = listed-place h sessions lists s (omega arith) in
      subst (IsOrderedSession h) place.2 (all place.0 place.1) i size
