-- Routes back through the past of an operation.
use Rattle.std.proofs.Common.{◌≡◌, ℕ, suc, ◌+◌, ◌-◌, ◌<◌, ◌≤◌, List, [], ◌∷◌, ◌++◌, length, inl, inr, ⊎_elim, refl, arith, ap, sym, ◌∙◌, subst, subst₂, eq-or-lt_of_le}
use Rattle.std.specs.Prelude.{◌≢◌, reverse, slice_get}
use Rattle.std.proofs.lemmas.List.{reverse-append}
use Rattle.std.proofs.lemmas.Option.{slice_get_within}
use Rattle.model_history.specs.declared.op_id.OpId.{OpId}
use Rattle.model_history.specs.History.{IsOp, Precedes}
use Rattle.order_memory.specs.Memory.{MemoryHistory}
use Rattle.order_memory.specs.Relations.{IsEdge}
use Rattle.order_memory.specs.SourceOrder.{CountsSourceOrder, IsSource, IsSourceEdge, SourceOrder}
use Rattle.order_causal.specs.Vectors.{Counts, count, IsCounted}
use Rattle.order_memory.proofs.CausalOrders.{counted-past}
use Rattle.order_causal.proofs.OrdersLaws.{same_op}
use Rattle.order_causal.proofs.PathsLaws.{leads-edge, leads-last, path-first}
use Rattle.order_memory.proofs.SourceVectors.{own-count}
use Rattle.pattern_check.specs.Paths.{GoesFrom}
use Rattle.pattern_search.specs.Steps.Routes.{IsFirstCounting, IsPushedApart}

module _ (h : MemoryHistory) where
  -- an operation alone
  pub goes-alone : (a : OpId) → GoesFrom h (a ∷ []) a a
  goes-alone a = record {
    joined = λ k x y first second. let below = slice_get_within (a ∷ []) (k + 1) y second in absurd (omega arith);
    first = refl;
    last = refl;
  }

  -- a path with an edge in front
  goes-first : (path : List OpId) (a b c : OpId) → IsEdge h a b → GoesFrom h path b c → GoesFrom h (a ∷ path) a c
  goes-first path a b c edge goes = record {
    joined = path-first (IsEdge h) a b path edge goes.joined goes.first;
    first = refl;
    last =
        let some = slice_get_within path 0 b goes.first in
        let next : length (a ∷ path) - 1 ≡ suc (length path - 1) = omega arith in
        ap (slice_get (a ∷ path)) next ∙ goes.last;
  }

  -- an edge goes from what is put behind the operations of a path from its last to its first
  pub pushed-goes : (xs : List OpId) (a b c : OpId) → IsEdge h a b → GoesFrom h (reverse xs) b c → GoesFrom h (reverse (xs ++ a ∷ [])) a c
  pushed-goes xs a b c edge goes =
      subst (λ (path : List OpId). GoesFrom h path a c) (sym (reverse-append xs (a ∷ []))) (goes-first (reverse xs) a b c edge goes)

  apart-goes : (xs ys : List OpId) (last o c : OpId) → IsPushedApart last o xs ys → (o ≢ last → IsEdge h o last)
      → GoesFrom h (reverse xs) last c → GoesFrom h (reverse ys) o c
  apart-goes xs ys last o c pushed edge goes = ⊎_elim
      (λ (same : (o ≡ last) × (ys ≡ xs)). subst₂ (λ (a : OpId) (zs : List OpId). GoesFrom h (reverse zs) a c) (sym same.0) (sym same.1) goes)
      (λ (other : (o ≢ last) × (ys ≡ xs ++ o ∷ [])).
      subst (λ (zs : List OpId). GoesFrom h (reverse zs) o c) (sym other.1) (pushed-goes xs o last c (edge other.0) goes))
      pushed

  -- another operation of the session that isn't later comes before
  earlier-precedes : (a b : OpId) → IsOp h b → a.session ≡ b.session → a.index ≤ b.index → a ≢ b → Precedes a b × IsOp h b
  earlier-precedes a b is_op same up_to apart = ⊎_elim
      (λ (here : a.index ≡ b.index). absurd (apart (same_op a b same here)))
      (λ (below : a.index < b.index). ((same, below), is_op))
      (eq-or-lt_of_le up_to)

  module _ (v : Counts) (order : CountsSourceOrder h v) (from reached : OpId) (counted : IsCounted v reached from) where
    reached-of_history : IsOp h reached
    reached-of_history = ((counted-past h v order reached from).0 counted).0

    -- a source by which a session has an operation in its past comes before what is behind it in the session
    pub source-before : (f w : OpId) → IsFirstCounting v from reached f → IsSource h w f → SourceOrder h w reached
    source-before f w first source =
        let up_to = first.up_to in
        let step = leads-edge (IsSourceEdge h) w f (inr source) in
        ⊎_elim
        (λ (here : f.index ≡ reached.index). subst (λ (x : OpId). SourceOrder h w x) (same_op f reached first.session here) step)
        (λ (below : f.index < reached.index).
        leads-last (IsSourceEdge h) w f reached step (inl ((first.session, below), reached-of_history)))
        (eq-or-lt_of_le up_to)

    -- the route goes on to it
    pub source-route : (f w to : OpId) (xs ys : List OpId) → IsFirstCounting v from reached f → IsPushedApart reached f xs ys → IsSource h w f
        → GoesFrom h (reverse xs) reached to → GoesFrom h (reverse (ys ++ w ∷ [])) w to
    source-route f w to xs ys first pushed source goes =
        pushed-goes ys w f to (inr source.0)
        (apart-goes xs ys reached f to pushed (λ apart. inl (earlier-precedes f reached reached-of_history first.session first.up_to apart)) goes)

    -- the route ends in the session that it goes to
    pub end-route : (to : OpId) (xs ys : List OpId) → reached.session ≡ from.session → IsPushedApart reached from xs ys
        → GoesFrom h (reverse xs) reached to → GoesFrom h (reverse ys) from to
    end-route to xs ys same pushed goes =
        let own = own-count h v order reached reached-of_history in
        let there : from.index < reached.index + 1 = subst (λ (n : ℕ). from.index < n) own (subst (λ (s : ℕ). from.index < count v reached s) (sym same) counted) in
        apart-goes xs ys reached from to pushed (λ apart. inl (earlier-precedes from reached reached-of_history (sym same) (omega arith) apart)) goes
