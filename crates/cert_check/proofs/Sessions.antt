-- A list of operations in program order is what the list of its session numbers names.
use Rattle.std.proofs.Common.{◌≡◌, ℕ, zero, suc, ◌+◌, ◌<◌, ◌≤◌, ◌↔◌, ⊎_elim, List, length, map, take, get_or, ext_get_or, refl, sym, ap, ◌∙◌, subst, arith}
use Rattle.std.specs.Prelude.{Some, option_map, slice_get}
use Rattle.std.proofs.lemmas.Bool.{cases_eq, cases_lt}
use Rattle.std.proofs.lemmas.List.{length-map}
use Rattle.std.proofs.lemmas.Option.{same_Some, slice_get-map, slice_get-get_or, get_or_from_slice_get}
use Rattle.model_history.specs.declared.op_id.OpId.{OpId}
use Rattle.model_history.specs.History.{Precedes}
use Rattle.order_causal.specs.Orders.{op, StandsAt}
use Rattle.order_causal.proofs.OrdersLaws.{same_op}
use Rattle.cert_check.specs.Schedules.{named, StandsBefore}
use Rattle.order_causal.specs.Schedules.{placed}
use Rattle.cert_check.proofs.Named.{placed-one, placed-none, placed-next, length-named, named_at}

-- the session numbers of a list of operations
abbrev pub sessions_of : List OpId → List ℕ
sessions_of ops = map (λ (o : OpId). o.session) ops

-- each operation stands there once, and behind those before it in program order
pub record IsInProgramOrder (ops : List OpId) : Type 0 where
  pub once : (j k : ℕ) (a : OpId) → StandsAt ops j a → StandsAt ops k a → j ≡ k
  pub behind : (k : ℕ) (a b : OpId) → StandsAt ops k b → Precedes a b → StandsBefore ops k a

-- the operations before a place are those that the session numbers before it count
abbrev CountsFront : List OpId → ℕ → Type 0
CountsFront ops k = (a : OpId) → (a.index < placed (take k (sessions_of ops)) a.session) ↔ StandsBefore ops k a

module _ (ops : List OpId) (in_order : IsInProgramOrder ops) where
  session_at : (k : ℕ) (b : OpId) → StandsAt ops k b → slice_get (sessions_of ops) k ≡ Some b.session
  session_at k b stands = slice_get-map (λ (o : OpId). o.session) ops k ∙ ap (option_map (λ (o : OpId). o.session)) stands

  -- an operation's index is how often its session is named before it
  index_is : (k : ℕ) (b : OpId) → StandsAt ops k b → CountsFront ops k → b.index ≡ placed (take k (sessions_of ops)) b.session
  index_is k b stands front =
      let named_before : ℕ = placed (take k (sessions_of ops)) b.session in
      ⊎_elim
      (λ (below : b.index < named_before).
      let r = (front b).0 below in
      let same : r.0 ≡ k = in_order.once r.0 k b r.2 stands in
      let less = r.1 in
      absurd (omega arith))
      (λ (up_to : named_before ≤ b.index). ⊎_elim
      (λ (above : named_before < b.index).
      let r = (front (op b.session named_before)).1 (in_order.behind k (op b.session named_before) b stands (refl, above)) in
      absurd (omega arith))
      (λ (other : b.index ≤ named_before). omega arith)
      (cases_lt named_before b.index))
      (cases_lt b.index named_before)

  front_more : (k : ℕ) (b : OpId) → StandsAt ops k b → CountsFront ops k → CountsFront ops (k + 1)
  front_more k b stands front a =
      let next = placed-next a.session (sessions_of ops) k b.session (session_at k b stands) in
      let index = index_is k b stands front in (
        (λ (counts : a.index < placed (take (k + 1) (sessions_of ops)) a.session). ⊎_elim
            (λ (old : a.index < placed (take k (sessions_of ops)) a.session).
            let r = (front a).0 old in
            let less = r.1 in
            (r.0, omega arith, r.2))
            (λ (new : placed (take k (sessions_of ops)) a.session ≤ a.index). ⊎_elim
            (λ (same : b.session ≡ a.session).
            let one = placed-one a.session b.session same in
            let here : placed (take k (sessions_of ops)) a.session ≡ placed (take k (sessions_of ops)) b.session = ap (λ (s : ℕ). placed (take k (sessions_of ops)) s) (sym same) in
            let equal : b ≡ a = same_op b a same (omega arith) in
            (k, omega arith, stands ∙ ap Some equal))
            (λ (other : b.session ≡ a.session → ⊥).
            let none = placed-none a.session b.session other in
            absurd (omega arith))
            (cases_eq b.session a.session))
            (cases_lt a.index (placed (take k (sessions_of ops)) a.session))),
        (λ (before : StandsBefore ops (k + 1) a).
            let less = before.1 in
            ⊎_elim
            (λ (old : before.0 < k).
            let counts = (front a).1 (before.0, old, before.2) in
            omega arith)
            (λ (up_to : k ≤ before.0).
            let here : before.0 ≡ k = omega arith in
            let equal : b ≡ a = same_Some b a (sym stands ∙ ap (slice_get ops) (sym here) ∙ before.2) in
            let one = placed-one a.session b.session (ap (λ (o : OpId). o.session) equal) in
            let same_index : b.index ≡ a.index = ap (λ (o : OpId). o.index) equal in
            let same_times : placed (take k (sessions_of ops)) b.session ≡ placed (take k (sessions_of ops)) a.session = ap (λ (o : OpId). placed (take k (sessions_of ops)) o.session) equal in
            omega arith)
            (cases_lt before.0 k)),
      )

  counts_front : (k : ℕ) → k ≤ length ops → CountsFront ops k
  counts_front zero within = λ a. ((λ (counts : a.index < 0). absurd (omega arith)), (λ (before : StandsBefore ops 0 a). let less = before.1 in absurd (omega arith)))
  counts_front (suc k) within =
      let on : k + 1 ≡ suc k = omega arith in
      let here = slice_get-get_or ops k (op 0 0) (omega arith) in
      subst (λ (n : ℕ). CountsFront ops n) on (front_more k (get_or ops k (op 0 0)) here (counts_front k (omega arith)))

  named_here : (k : ℕ) (b : OpId) → k < length ops → StandsAt ops k b → StandsAt (named (sessions_of ops)) k b
  named_here k b within stands =
      let index = index_is k b stands (counts_front k (omega arith)) in
      subst (λ (i : ℕ). StandsAt (named (sessions_of ops)) k (op b.session i)) (sym index) (named_at (sessions_of ops) k b.session (session_at k b stands))

  pub named-sessions : named (sessions_of ops) ≡ ops
  named-sessions =
      let long : length (named (sessions_of ops)) ≡ length ops = length-named (sessions_of ops) ∙ length-map ops (λ (o : OpId). o.session) in
      ext_get_or (op 0 0) (named (sessions_of ops)) ops long (λ k below.
      get_or_from_slice_get (named (sessions_of ops)) k (get_or ops k (op 0 0)) (op 0 0)
      (named_here k (get_or ops k (op 0 0)) (omega arith) (slice_get-get_or ops k (op 0 0) (omega arith))))
