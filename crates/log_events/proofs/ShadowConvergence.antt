-- Where a history is causally convergent, one is whose operations are operations of it, but for some whose return is unknown.
use Rattle.std.proofs.Common.{◌≡◌, ℕ, zero, suc, ◌+◌, ◌<◌, ◌≤◌, Bool, true, false, cond, List, [], ◌∷◌, ◌++◌, length, refl, ap, sym, subst, ◌∙◌, inl, inr, ⊎_elim, arith, append-nil}
use Rattle.std.specs.Prelude.{◌⊎◌, IsTrue, Option, Some, None, filter, filter_map, slice_get}
use Rattle.std.specs.List.{range_with_len, cons_option}
use Rattle.std.specs.Option.{is_some}
use Rattle.std.proofs.lemmas.Bool.{cases_Bool, cases_lt}
use Rattle.std.proofs.lemmas.List.Elements.{filter-append}
use Rattle.std.proofs.lemmas.List.FromFn.{get_or-range_with_len, length-range_with_len}
use Rattle.std.proofs.lemmas.Option.{same_Some, slice_get_within, slice_get-get_or}
use Rattle.model_history.specs.declared.op_id.OpId.{OpId}
use Rattle.model_history.specs.History.{IsOp, Precedes, session}
use Rattle.order_causal.specs.Orders.{Ops, Order, only, program_past, past, op, StandsAt, IsLinearization}
use Rattle.order_causal.proofs.OrdersLaws.{session-of_history}
use Rattle.order_memory.specs.Memory.{MemoryHistory, memory_answer}
use Rattle.order_memory.proofs.MemoryLaws.{read-of_history}
use Rattle.order_memory.proofs.RaiseLists.{at-left, at-right}
use Rattle.cert_check.specs.declared.criterion.Criterion.{Criterion}
use Rattle.cert_check.specs.declared.criterion.Criterion.TheVariants.{Cc, Cm, Ccv}
use Rattle.cert_check.specs.Criteria.{every, IsCausalOrder, Explains, IsCausallyConvergent, Meets}
use Rattle.cert_check.proofs.ConvergentLaws.{only-same}
use Rattle.cert_check.proofs.FilteredLaws.{filter_from, filter_keeps}
use Rattle.cert_check.proofs.Pasts.{every-op, op-every, only-itself}
use Rattle.log_events.proofs.InsertedOrders.{past-from}
use Rattle.log_events.proofs.ListPlaces.{append-cases, filter_map-from}
use Rattle.log_events.proofs.GivenPlaces.{giving_before, giving-stands}
use Rattle.log_events.proofs.Shadows.{has_return, is_known, AreReadsAfter, IsShadow, shadow_order, order-from, shadow-causal}
use Rattle.log_events.proofs.ShadowLists.{shadow-linear, shadow-explains}
use Rattle.log_events.proofs.ShadowCriteria.{read-after, each_past, only-alike, program_past-alike, past-to, past-of}

same_tests : (a b : Bool) → (IsTrue a → IsTrue b) → (IsTrue b → IsTrue a) → a ≡ b
same_tests true b to from = sym (to refl)
same_tests false true to from = from refl
same_tests false false to from = refl

-- what a filter map gives, filtered
filter-giving : {X Y : Type 0} (f : X → Option Y) (given : Y → Bool) (kept : X → Bool) (xs : List X)
    → ((x : X) (y : Y) → f x ≡ Some y → given y ≡ kept x) → filter given (filter_map f xs) ≡ filter_map f (filter kept xs)
filter-giving f given kept [] same = refl
filter-giving {X} {Y} f given kept (x ∷ xs) same =
    let rest = filter-giving f given kept xs same in
    elim (f x) as (λ o. f x ≡ o → filter given (cons_option o (filter_map f xs)) ≡ filter_map f (cond (kept x) (x ∷ filter kept xs) (filter kept xs))) [
      | None ↦ λ none. elim (kept x) as (λ b. filter given (filter_map f xs) ≡ filter_map f (cond b (x ∷ filter kept xs) (filter kept xs))) [
        | true ↦ rw none rest
        | false ↦ rest
      ]
      | Some y ↦ λ some. let one = same x y some in
          elim (kept x) as (λ b. kept x ≡ b → filter given (y ∷ filter_map f xs) ≡ filter_map f (cond b (x ∷ filter kept xs) (filter kept xs))) [
            | true ↦ λ is. rw (one ∙ is, some) (ap (λ (ys : List Y). y ∷ ys) rest)
            | false ↦ λ is. rw (one ∙ is) rest
          ] refl
    ] refl

filter-none : {X : Type 0} (p : X → Bool) (xs : List X) → ((k : ℕ) (x : X) → slice_get xs k ≡ Some x → p x ≡ false) → filter p xs ≡ []
filter-none p [] none = refl
filter-none p (x ∷ xs) none = rw (none 0 x refl) (filter-none p xs (λ k. none (suc k)))

range-at : (n s : ℕ) → s < n → slice_get (range_with_len 0 n) s ≡ Some s
range-at n s below =
    let size = length-range_with_len 0 n in
    let first : 0 + s ≡ s = omega arith in
    slice_get-get_or (range_with_len 0 n) s 0 (omega arith) ∙ ap (λ (k : ℕ). Some k) (get_or-range_with_len 0 n s 0 below ∙ first)

range-from : (n m s : ℕ) → slice_get (range_with_len 0 n) m ≡ Some s → m ≡ s
range-from n m s at =
    let within = slice_get_within (range_with_len 0 n) m s at in
    let size = length-range_with_len 0 n in
    let below : m < n = omega arith in
    same_Some _ _ (sym (range-at n m below) ∙ at)

module _ (h c : MemoryHistory) (image origin : OpId → Option OpId) (shadow : IsShadow h c image origin) where
  -- the operations that are not in h: each is the last of its session
  abbrev free_of : Option OpId → OpId → Option OpId
  free_of None o = Some o
  free_of (Some p) o = None

  abbrev free_at : ℕ → ℕ → Option OpId
  free_at s zero = None
  free_at s (suc i) = free_of (image (op s i)) (op s i)

  abbrev free_last : ℕ → Option OpId
  free_last s = free_at s (length (session c s))

  abbrev frees : List OpId
  frees = filter_map free_last (range_with_len 0 (length c.1))

  free_of-from : (o : Option OpId) (b a : OpId) → free_of o b ≡ Some a → (o ≡ None) × (b ≡ a)
  free_of-from None b a is = (refl, same_Some _ _ is)
  free_of-from (Some p) b a is = absurd cc

  free_at-from : (s n : ℕ) (a : OpId) → free_at s n ≡ Some a → (i : ℕ) × (n ≡ suc i) × (image (op s i) ≡ None) × (op s i ≡ a)
  free_at-from s zero a is = absurd cc
  free_at-from s (suc i) a is = let r = free_of-from (image (op s i)) (op s i) a is in (i, refl, r.0, r.1)

  frees-from : (k : ℕ) (a : OpId) → StandsAt frees k a
      → IsOp c a × (image a ≡ None) × (giving_before free_last (range_with_len 0 (length c.1)) a.session ≡ k)
  frees-from k a at =
      let (m, s, there, is, place) = filter_map-from free_last (range_with_len 0 (length c.1)) k a at in
      let (i, long, none, same) = free_at-from s (length (session c s)) a is in
      let inside : i < length (session c s) = omega arith in
      let session_is : m ≡ a.session = range-from (length c.1) m s there ∙ ap (λ (o : OpId). o.session) same in (
        subst (λ (o : OpId). IsOp c o) same inside,
        sym (ap image same) ∙ none,
        ap (giving_before free_last (range_with_len 0 (length c.1))) (sym session_is) ∙ place,
      )

  frees-to : (a : OpId) → IsOp c a → image a ≡ None → (k : ℕ) × StandsAt frees k a
  frees-to a is_op none =
      let last : length (session c a.session) ≡ suc a.index = ⊎_elim
      (λ (more : suc a.index < length (session c a.session)).
      let precedes : Precedes a (op a.session (suc a.index)) = (refl, omega arith) in
      let im = shadow.known a (shadow.first a (op a.session (suc a.index)) more precedes) in
      let wrong : None ≡ Some im.0 = sym none ∙ im.1 in absurd cc)
      (λ (up_to : length (session c a.session) ≤ suc a.index). omega arith)
      (cases_lt (suc a.index) (length (session c a.session))) in
      let below = session-of_history c a is_op in
      let gives : free_last a.session ≡ Some a =
      ap (free_at a.session) last ∙ ap (λ (o : Option OpId). free_of o a) none in (
        giving_before free_last (range_with_len 0 (length c.1)) a.session,
        giving-stands free_last (range_with_len 0 (length c.1)) a.session a.session a (range-at (length c.1) a.session below) gives,
      )

  module _ (co : Order) (causal : IsCausalOrder h co) (after : AreReadsAfter h co) (arb : List OpId) (linear : IsLinearization (every h) co arb) where
    abbrev order : Order
    order = shadow_order c image co

    abbrev first : List OpId
    first = filter_map origin arb

    abbrev in_h : Ops
    in_h a = is_some (image a)

    in_h-from : (o : Option OpId) → IsTrue (is_some o) → (p : OpId) × (o ≡ Some p)
    in_h-from None wrong = let no : false ≡ true = wrong in absurd cc
    in_h-from (Some p) _ = (p, refl)

    first-linear : IsLinearization in_h order first
    first-linear = shadow-linear h c image origin shadow co causal after (every h) in_h
        (λ a inside. let r = in_h-from (image a) inside in (r.0, r.1, op-every h r.0 (shadow.forth a r.0 r.1).1))
        (λ a p im _. ap (λ (o : Option OpId). is_some o) im)
        arb linear

    apart : (a p : OpId) → image a ≡ None → image a ≡ Some p → ⊥
    apart a p none some = let wrong : None ≡ Some p = sym none ∙ some in absurd cc

    first-image : (k : ℕ) (a : OpId) → StandsAt first k a → (p : OpId) × (image a ≡ Some p)
    first-image k a at = in_h-from (image a) (first-linear.no_other k a at)

    list-cases : (k : ℕ) (a : OpId) → StandsAt (first ++ frees) k a
        → ((StandsAt first k a) × (p : OpId) × (image a ≡ Some p)) ⊎ ((m : ℕ) × (k ≡ length first + m) × StandsAt frees m a × (image a ≡ None))
    list-cases k a at = ⊎_elim
        (λ (early : StandsAt first k a). let p = first-image k a early in inl (early, p.0, p.1))
        (λ (late : (m : ℕ) × (k ≡ length first + m) × StandsAt frees m a). inr (late.0, late.1, late.2, (frees-from late.0 a late.2).1))
        (append-cases first frees k a at)

    abbrev IsEarly : ℕ → OpId → Type 0
    IsEarly k a = (StandsAt first k a) × (p : OpId) × (image a ≡ Some p)

    abbrev IsLate : ℕ → OpId → Type 0
    IsLate k a = (m : ℕ) × (k ≡ length first + m) × StandsAt frees m a × (image a ≡ None)

    all-linear : IsLinearization (every c) order (first ++ frees)
    all-linear = record {
      each = λ a inside. elim (image a) as (λ o. image a ≡ o → (k : ℕ) × StandsAt (first ++ frees) k a) [
        | None ↦ λ none.
            let (m, at) = frees-to a (every-op c a inside) none in
            (length first + m, at-right first frees (length first + m) m a refl at)
        | Some p ↦ λ some.
            let (k, at) = first-linear.each a (ap (λ (o : Option OpId). is_some o) some) in
            (k, at-left first frees k a at)
      ] refl;
      no_other = λ k a at. ⊎_elim
          (λ (early : IsEarly k a). op-every c a (shadow.forth a early.1 early.2).0)
          (λ (late : IsLate k a). op-every c a (frees-from late.0 a late.2).0)
          (list-cases k a at);
      once = λ j k a one two. ⊎_elim
          (λ (early : IsEarly j a). ⊎_elim
          (λ (early2 : IsEarly k a). first-linear.once j k a early.0 early2.0)
          (λ (late2 : IsLate k a). absurd (apart a early.1 late2.3 early.2))
          (list-cases k a two))
          (λ (late : IsLate j a). ⊎_elim
          (λ (early2 : IsEarly k a). absurd (apart a early2.1 late.3 early2.2))
          (λ (late2 : IsLate k a).
          let same : late.0 ≡ late2.0 = sym (frees-from late.0 a late.2).2 ∙ (frees-from late2.0 a late2.2).2 in
          late.1 ∙ ap (λ (n : ℕ). length first + n) same ∙ sym late2.1)
          (list-cases k a two))
          (list-cases j a one);
      ordered = λ j k a b one two holds.
          let r = order-from c image co a b holds in
          ⊎_elim
          (λ (early : IsEarly j a). ⊎_elim
          (λ (early2 : IsEarly k b). first-linear.ordered j k a b early.0 early2.0 holds)
          (λ (late2 : IsLate k b). let within = slice_get_within first j a early.0 in let place = late2.1 in omega arith)
          (list-cases k b two))
          (λ (late : IsLate j a). absurd (apart a r.1 late.3 r.2))
          (list-cases j a one);
    }

    all-explains : ((o : OpId) → IsOp h o → Explains memory_answer h (filter (past co o) arb) (only o))
        → (o : OpId) → IsOp c o → Explains memory_answer c (filter (past order o) (first ++ frees)) (only o)
    all-explains each o is_op = ⊎_elim
        (λ (known : is_known c o ≡ true).
        let (p, im) = shadow.known o known in
        let given : filter (past order o) first ≡ filter_map origin (filter (past co p) arb) =
        filter-giving origin (past order o) (past co p) arb (λ q a of_c.
        let there = shadow.back a q of_c in
        same_tests (past order o a) (past co p q)
        (λ inside.
        let r = past-to h c image origin shadow co causal after o p a known im inside in
        subst (λ (t : OpId). IsTrue (past co p t)) (same_Some _ _ (sym r.1 ∙ there)) r.2)
        (λ inside. past-of h c image origin shadow co causal after o p a q known im there inside)) in
        let none : filter (past order o) frees ≡ [] =
        filter-none (past order o) frees (λ k a at.
        let free = (frees-from k a at).1 in
        same_tests (past order o a) false
        (λ inside.
        let r = past-to h c image origin shadow co causal after o p a known im inside in absurd (apart a r.0 free r.1))
        (λ wrong. let no : false ≡ true = wrong in absurd cc)) in
        subst (λ (ops : List OpId). Explains memory_answer c ops (only o))
        (sym (filter-append (past order o) first frees ∙ ap (λ (ops : List OpId). filter (past order o) first ++ ops) none
        ∙ append-nil (filter (past order o) first) ∙ given))
        (shadow-explains h c image origin shadow (only p) (only o) (filter (past co p) arb)
        (λ a q _ there among.
        let same : q ≡ p = same_Some _ _ (sym there ∙ ap image (only-same o a among) ∙ im) in
        subst (λ (t : OpId). IsTrue (only p t)) (sym same) (only-itself p))
        (each p (shadow.forth o p im).1)))
        (λ (unknown : is_known c o ≡ false). λ k a call r at among is.
        let wrong : false ≡ true = sym unknown ∙ ap (is_known c) (sym (only-same o a among)) ∙ ap has_return is in absurd cc)
        (cases_Bool (is_known c o))

  converges : IsCausallyConvergent memory_answer h → IsCausallyConvergent memory_answer c
  converges (co, arb, causal, linear, each) = (
    shadow_order c image co,
    filter_map origin arb ++ frees,
    shadow-causal h c image origin shadow co causal after,
    all-linear co causal after arb linear,
    all-explains co causal after arb linear each,
  )
    where
      after : AreReadsAfter h co
      after r x v reads other =
          let is_op = read-of_history h r x v reads in
          let (k, at) = linear.each r (op-every h r is_op) in
          let (j, there) = filter_keeps (past co r) arb k r at (past-from co r r (inl refl)) in
          read-after h co (only r) (filter (past co r) arb) r x v j
          (λ m a stands. (filter_from (past co r) arb m a stands).2) (each r is_op) there (only-itself r) reads other

  pub shadow-meets : (criterion : Criterion) → Meets memory_answer h criterion → Meets memory_answer c criterion
  shadow-meets Cc = each_past h c image origin shadow only (only-alike h c image origin shadow)
  shadow-meets Cm = each_past h c image origin shadow program_past (program_past-alike h c image origin shadow)
  shadow-meets Ccv = converges
