-- Operations that wait for one another, and the way round them.
use Rattle.std.specs.Prelude.{◌≡◌, ◌≢◌, ◌⊎◌, ℕ, ◌+◌, ◌-◌, ◌<◌, ◌≤◌, List, [], ◌∷◌, ◌++◌, length, Some, slice_get}
use Rattle.std.proofs.Common.{arith, get_or, sym, ap, subst, subst₂, ◌∙◌, inl, inr, ⊎_elim, refl}
use Rattle.std.proofs.lemmas.Bool.{cases_eq, cases_lt}
use Rattle.std.proofs.lemmas.List.{length_push, get_or_append_left, get_or_push, get_or_past}
use Rattle.std.proofs.lemmas.Option.{same_Some, slice_get_within, slice_get-get_or, get_or_from_slice_get}
use Rattle.model_history.specs.declared.op_id.OpId.{OpId}
use Rattle.order_causal.specs.Orders.{op, StandsAt}
use Rattle.order_causal.specs.Steps.Waiting.{AreOfOthers, IsChain, IsOpen, IsRoute, IsStuck, IsUnplaced}
use Rattle.order_causal.specs.Schedules.{placed, next_of}
use Rattle.order_causal.specs.Vectors.{Counts, count, list_of}
use Rattle.order_causal.specs.Waits.{AreWaits, IsAwaited, IsWaitEdge, IsWaitingCycle}
use Rattle.order_causal.proofs.Fronts.{push-at, push-last}
use Rattle.order_causal.proofs.OrdersLaws.{same_op}
use Rattle.order_causal.proofs.PushedLaws.{listed-length}
use Rattle.order_causal.proofs.RepeatsLaws.{repeats}

-- what stands at a place of a list, and at the place behind its last
pub stands-left : (ops : List OpId) (x : OpId) (k : ℕ) (a : OpId) → StandsAt ops k a → StandsAt (ops ++ x ∷ []) k a
stands-left ops x k a at =
    let inside = slice_get_within ops k a at in
    let more = length_push ops x in
    slice_get-get_or (ops ++ x ∷ []) k a (omega arith)
    ∙ ap (λ (b : OpId). Some b) (get_or_append_left ops (x ∷ []) a k inside ∙ get_or_from_slice_get ops k a a at)

pub stands-pushed : (ops : List OpId) (x : OpId) (k : ℕ) → length ops ≡ k → StandsAt (ops ++ x ∷ []) k x
stands-pushed ops x k is =
    let more = length_push ops x in
    slice_get-get_or (ops ++ x ∷ []) k x (omega arith) ∙ ap (λ (b : OpId). Some b) (get_or_push ops x x k is)

-- what stands in a list with one element more
pub stands-cases : (ops : List OpId) (x : OpId) (k : ℕ) (a : OpId) → StandsAt (ops ++ x ∷ []) k a → StandsAt ops k a ⊎ ((k ≡ length ops) × (x ≡ a))
stands-cases ops x k a at = ⊎_elim
    (λ (inside : k < length ops). inl (push-at ops x k a inside at))
    (λ (past : length ops ≤ k).
    let below = slice_get_within (ops ++ x ∷ []) k a at in
    let more = length_push ops x in
    let last : k ≡ length ops = omega arith in
    inr (last, push-last ops x a (subst (λ (n : ℕ). StandsAt (ops ++ x ∷ []) n a) last at)))
    (cases_lt k (length ops))

-- the last of a list is the one that was pushed
pub last-pushed : (ops : List OpId) (x : OpId) (j : ℕ) (a : OpId) → j + 1 ≡ length (ops ++ x ∷ []) → StandsAt (ops ++ x ∷ []) j a → a.session ≡ x.session
last-pushed ops x j a next at =
    let more = length_push ops x in
    ⊎_elim
    (λ (old : StandsAt ops j a). let inside = slice_get_within ops j a old in absurd (omega arith))
    (λ (new : (j ≡ length ops) × (x ≡ a)). ap (λ (b : OpId). b.session) (sym new.1))
    (stands-cases ops x j a at)

module _ (waits : Counts) (schedule : List ℕ) where
  module _ (are : AreWaits waits) (s : ℕ) (is_open : IsOpen waits schedule s) where
    counted-unplaced : (t i : ℕ) → count waits (next_of schedule s) t ≡ i + 1 → placed schedule t ≤ i → IsUnplaced waits schedule (op t i)
    counted-unplaced t i is above = let held = are.held (next_of schedule s) t in (omega arith, above)

    -- the last operation of another session that the next one of s waits for
    pub awaited-other : (t n : ℕ) → t ≢ s → count waits (next_of schedule s) t ≡ n → placed schedule t < n
        → IsAwaited waits (next_of schedule s) (op t (n - 1)) × IsUnplaced waits schedule (op t (n - 1))
    awaited-other t n apart is above = (
      (omega arith, λ same. apart (ap (λ (a : OpId). a.session) same)),
      counted-unplaced t (n - 1) (omega arith) (omega arith),
    )

    -- where those of all other sessions are placed, the next one of s waits for a later one of s
    pub own-missing : IsStuck waits schedule → ((t : ℕ) → t ≢ s → count waits (next_of schedule s) t ≤ placed schedule t)
        → placed schedule s + 1 < count waits (next_of schedule s) s
    own-missing stuck others = ⊎_elim
        (λ (later : placed schedule s + 1 < count waits (next_of schedule s) s). later)
        (λ (none : count waits (next_of schedule s) s ≤ placed schedule s + 1). absurd (stuck s (record {
          there = is_open;
          ready = λ a waits_for.
              let counted = waits_for.0 in
              ⊎_elim
              (λ (same : a.session ≡ s).
              let here : a.index < count waits (next_of schedule s) s = subst (λ (t : ℕ). a.index < count waits (next_of schedule s) t) same counted in
              let other : a.index ≢ placed schedule s = λ index. waits_for.1 (same_op a (next_of schedule s) same index) in
              subst (λ (t : ℕ). a.index < placed schedule t) (sym same) (omega arith))
              (λ (apart : a.session ≢ s). let most = others a.session apart in omega arith)
              (cases_eq a.session s);
        })))
        (cases_lt (placed schedule s + 1) (count waits (next_of schedule s) s))

    pub awaited-own : (n : ℕ) → count waits (next_of schedule s) s ≡ n → placed schedule s + 1 < n
        → IsAwaited waits (next_of schedule s) (op s (n - 1)) × IsUnplaced waits schedule (op s (n - 1))
    awaited-own n is above = (
      (omega arith, λ same. let index : n - 1 ≡ placed schedule s = ap (λ (a : OpId). a.index) same in omega arith),
      counted-unplaced s (n - 1) (omega arith) (omega arith),
    )

    module _ (counts : List ℕ) (read : counts ≡ list_of waits (next_of schedule s)) (from n : ℕ) (is : n ≡ get_or counts from 0) where
      -- the last of so many operations of a session is awaited and isn't placed
      abbrev IsRight : ℕ → ℕ → Type 0
      IsRight t m = IsAwaited waits (next_of schedule s) (op t (m - 1)) × IsUnplaced waits schedule (op t (m - 1))

      at-session : (t : ℕ) → from ≡ t → IsRight t (get_or counts t 0) → IsRight from n
      at-session t same right =
          let value : get_or counts t 0 ≡ n = ap (λ (f : ℕ). get_or counts f 0) (sym same) ∙ sym is in
          subst₂ IsRight (sym same) value right

      pub right-other : (t : ℕ) → from ≡ t → t ≢ s → placed schedule t < get_or counts t 0 → IsRight from n
      right-other t same apart above = at-session t same
          (awaited-other t (get_or counts t 0) apart (ap (λ (xs : List ℕ). get_or xs t 0) (sym read)) above)

      pub right-own : IsStuck waits schedule → from ≡ s → (missing : ℕ) → length counts ≤ missing
          → ((t : ℕ) → 0 ≤ t → t < missing → t ≢ s → get_or counts t 0 ≤ placed schedule t) → IsRight from n
      right-own stuck same missing past seen =
          let value : (t : ℕ) → get_or counts t 0 ≡ count waits (next_of schedule s) t = λ t. ap (λ (xs : List ℕ). get_or xs t 0) read in
          let later = own-missing stuck (λ t apart. ⊎_elim
          (λ (inside : t < missing). let most = seen t (omega arith) inside apart in let here = value t in omega arith)
          (λ (behind : missing ≤ t). let none = get_or_past counts t 0 (omega arith) in let here = value t in omega arith)
          (cases_lt t missing)) in
          at-session s same (awaited-own (get_or counts s 0) (sym (value s)) (let here = value s in omega arith))

  -- the session of an operation that isn't placed has a next one
  pub unplaced-open : (a : OpId) → IsUnplaced waits schedule a → IsOpen waits schedule a.session
  unplaced-open a unplaced = let listed = unplaced.0 in let above = unplaced.1 in omega arith

  pub unplaced-exists : (a : OpId) → IsUnplaced waits schedule a → a.session < length waits
  unplaced-exists a unplaced = listed-length waits a.session a.index unplaced.0

  pub chain-none : IsChain waits schedule []
  chain-none = record {
    unplaced = λ j a at. absurd cc;
    awaited = λ j a b at next. absurd cc;
  }

  -- one operation more
  pub chain-push : (ops : List OpId) (x : OpId) → IsChain waits schedule ops → IsUnplaced waits schedule x
      → ((a : OpId) → (j : ℕ) → j + 1 ≡ length ops → StandsAt ops j a → IsAwaited waits (next_of schedule a.session) x)
      → IsChain waits schedule (ops ++ x ∷ [])
  chain-push ops x chain unplaced awaited = record {
    unplaced = λ j a at. ⊎_elim
        (λ (old : StandsAt ops j a). chain.unplaced j a old)
        (λ (new : (j ≡ length ops) × (x ≡ a)). subst (λ (b : OpId). IsUnplaced waits schedule b) new.1 unplaced)
        (stands-cases ops x j a at);
    awaited = λ j a b at next. ⊎_elim
        (λ (old_b : StandsAt ops (j + 1) b).
        let inside = slice_get_within ops (j + 1) b old_b in
        ⊎_elim
        (λ (old_a : StandsAt ops j a). chain.awaited j a b old_a old_b)
        (λ (new_a : (j ≡ length ops) × (x ≡ a)). let last = new_a.0 in absurd (omega arith))
        (stands-cases ops x j a at))
        (λ (new_b : (j + 1 ≡ length ops) × (x ≡ b)). ⊎_elim
        (λ (old_a : StandsAt ops j a). subst (λ (c : OpId). IsAwaited waits (next_of schedule a.session) c) new_b.1 (awaited a j new_b.0 old_a))
        (λ (new_a : (j ≡ length ops) × (x ≡ a)). let last = new_a.0 in let here = new_b.0 in absurd (omega arith))
        (stands-cases ops x j a at))
        (stands-cases ops x (j + 1) b next);
  }

  -- each is of one of at most 16 sessions
  pub chain-few : AreWaits waits → (ops : List OpId) → IsChain waits schedule ops → (j : ℕ) (d : OpId) → j < length ops → (get_or ops j d).session < 16
  chain-few are ops chain j d inside =
      let exists = unplaced-exists (get_or ops j d) (chain.unplaced j _ (slice_get-get_or ops j d inside)) in
      let few = are.few in
      omega arith

-- what stands at a place, by its number
pub at-place : (ops : List OpId) (i j : ℕ) (a d : OpId) → i ≡ j → StandsAt ops i a → get_or ops j d ≡ a
at-place ops i j a d same at = get_or_from_slice_get ops j a d (subst (λ (n : ℕ). StandsAt ops n a) same at)

-- among more operations than there are sessions two are of one session
pub some-repetition : (ops : List OpId) (sessions : ℕ) → sessions < length ops → ((j : ℕ) (a : OpId) → StandsAt ops j a → a.session < sessions)
    → ((j : ℕ) (b : OpId) → StandsAt ops j b → AreOfOthers ops j b.session) → ⊥
some-repetition ops sessions many few none =
    let d : OpId = op 0 0 in
    let at : (j : ℕ) → j ≤ sessions → StandsAt ops j (get_or ops j d) = λ j up_to. slice_get-get_or ops j d (omega arith) in
    let again = repeats sessions (λ j. (get_or ops j d).session) (λ j up_to. few j (get_or ops j d) (at j up_to)) in
    let below = again.2 in
    let up_to = again.3 in
    none again.1 (get_or ops again.1 d) (at again.1 up_to) again.0 (get_or ops again.0 d) below (at again.0 (omega arith)) again.4

module _ (waits : Counts) where
  -- an operation alone is a route
  pub route-none : (a : OpId) → IsRoute waits (a ∷ []) a a
  route-none a = record {
    joined = λ k x y at next. let inside : k + 1 < 1 = slice_get_within (a ∷ []) (k + 1) y next in absurd (omega arith);
    first = refl;
    last = refl;
  }

  -- an edge more
  pub route-push : (ops : List OpId) (a b x : OpId) → IsRoute waits ops a b → IsWaitEdge waits b x → IsRoute waits (ops ++ x ∷ []) a x
  route-push ops a b x route edge =
      let some = slice_get_within ops 0 a route.first in
      let more = length_push ops x in
      record {
        joined = λ k y z at next. ⊎_elim
            (λ (old_z : StandsAt ops (k + 1) z).
            let inside = slice_get_within ops (k + 1) z old_z in
            ⊎_elim
            (λ (old_y : StandsAt ops k y). route.joined k y z old_y old_z)
            (λ (new_y : (k ≡ length ops) × (x ≡ y)). let end = new_y.0 in absurd (omega arith))
            (stands-cases ops x k y at))
            (λ (new_z : (k + 1 ≡ length ops) × (x ≡ z)). ⊎_elim
            (λ (old_y : StandsAt ops k y).
            let end : length ops - 1 ≡ k = let here = new_z.0 in omega arith in
            let same : b ≡ y = same_Some b y (sym route.last ∙ ap (λ (n : ℕ). slice_get ops n) end ∙ old_y) in
            subst₂ (IsWaitEdge waits) same new_z.1 edge)
            (λ (new_y : (k ≡ length ops) × (x ≡ y)). let here = new_y.0 in let next_here = new_z.0 in absurd (omega arith))
            (stands-cases ops x k y at))
            (stands-cases ops x (k + 1) z next);
        first = stands-left ops x 0 a route.first;
        last = stands-pushed ops x (length (ops ++ x ∷ []) - 1) (omega arith);
      }

  module _ (schedule : List ℕ) (op_a w : OpId) (unplaced : IsUnplaced waits schedule op_a) (awaited : IsAwaited waits w op_a)
      (reached : OpId) (is_next : reached ≡ next_of schedule op_a.session) where
    -- the way on from a next operation over a later one of its session to the one that waits for it
    pub route-later : (ops : List OpId) (a : OpId) → IsRoute waits ops a reached → reached.index < op_a.index
        → IsRoute waits (ops ++ op_a ∷ [] ++ w ∷ []) a w
    route-later ops a route below =
        let same : reached.session ≡ op_a.session = ap (λ (b : OpId). b.session) is_next in
        route-push (ops ++ op_a ∷ []) a op_a w (route-push ops a reached op_a route (inl ((same, below), unplaced.0))) (inr awaited)

    -- or where the next operation is waited for itself
    pub route-same : (ops : List OpId) (a : OpId) → IsRoute waits ops a reached → op_a.index ≤ reached.index
        → IsRoute waits (ops ++ w ∷ []) a w
    route-same ops a route above =
        let session : reached.session ≡ op_a.session = ap (λ (b : OpId). b.session) is_next in
        let index : reached.index ≡ placed schedule op_a.session = ap (λ (b : OpId). b.index) is_next in
        let up_to = unplaced.1 in
        let same : op_a ≡ reached = same_op op_a reached (sym session) (omega arith) in
        route-push ops a reached w route (inr (subst (λ (b : OpId). IsAwaited waits w b) same awaited))

  -- a route of two operations at least that comes back is a cycle
  pub route-cycle : (ops : List OpId) (a b : OpId) → IsRoute waits ops a b → a ≡ b → 1 < length ops → IsWaitingCycle waits ops
  route-cycle ops a b route same some = record {
    joined = route.joined;
    some = some;
    closed = (a, route.first, subst (λ (c : OpId). StandsAt ops (length ops - 1) c) (sym same) route.last);
  }
