-- Raises that are taken out to be followed.
use Rattle.std.specs.Prelude.{◌≡◌, ℕ, ◌+◌, ◌∷◌, ◌++◌, [], List, length, All, MatchOption, Option, Some, None, slice_index, option_to_list}
use Rattle.std.proofs.Common.{arith, get_or, inr, refl, sym, ap, subst, ◌∙◌, inl, length-append, append-nil}
use Rattle.std.proofs.lemmas.List.{get_or_append_left, get_or_push}
use Rattle.order_memory.specs.declared.growing_order.GrowingOrder.{GrowingOrder}
use Rattle.order_memory.specs.declared.growing_order.Raised.{Raised}
use Rattle.order_memory.specs.Memory.{MemoryHistory}
use Rattle.order_memory.specs.Steps.GrowingOrders.{IsRaisedIn}
use Rattle.order_memory.specs.Steps.GrowthSteps.{Always, IsAtEnd, IsIn, IsGrowing, NoReads, TakesOut}
use Rattle.order_memory.specs.Steps.TakingIn.{DropsRaise}
use Rattle.order_memory.proofs.GrowthLaws.{grows-step}

-- what holds of all of a list holds of all but the last, and of the last
all-front : (P : Raised → Type 0) (xs ys : List Raised) (e : Raised) → ys ≡ xs ++ e ∷ [] → All P ys → All P xs × P e
all-front P xs ys e is all =
    let more = ap (λ (es : List Raised). length es) is ∙ length-append xs (e ∷ []) in (
      (λ k d below. subst P (ap (λ (es : List Raised). get_or es k d) is ∙ get_or_append_left xs (e ∷ []) d k below) (all k d (omega arith))),
      subst P (ap (λ (es : List Raised). get_or es (length xs) e) is ∙ get_or_push xs e e (length xs) refl) (all (length xs) e (omega arith)),
    )

module _ (h : MemoryHistory) (a b : GrowingOrder) (growing : IsGrowing h a) (counts : b.counts ≡ a.counts) (past : b.past.items ≡ a.past.items)
    (added : b.added ≡ a.added) (raises : b.raises.items ≡ a.raises.items) (cyclic : b.is_cyclic ≡ a.is_cyclic) (most : b.most ≡ a.most) where
  released : (e : Raised) → a.pending.items ≡ b.pending.items ++ e ∷ [] → TakesOut h a b e
  released e is =
      let pending = all-front (IsRaisedIn h) b.pending.items a.pending.items e is growing.pending in
      let waiting = all-front (λ (x : Raised). IsIn a x.op) b.pending.items a.pending.items e is growing.waiting in
      record {
        growing = record {
          counts = rw counts growing.counts;
          few = growing.few;
          short = growing.short;
          sessions = rw past growing.sessions;
          past = rw past growing.past;
          pending = pending.0;
          waiting = rw past waiting.0;
          added = rw (added, counts) growing.added;
        };
        is_raised = pending.1;
        is_in = waiting.1;
        release = record { counts = counts; raised = e; pending = is; past = past; added = added; raises = raises; cyclic = cyclic; most = most };
        same = refl;
      }

  -- what comes of taking the last one out, if there is one
  pub released-or_end : (r : Option Raised) → a.pending.items ≡ b.pending.items ++ option_to_list r → (m n : ℕ)
      → MatchOption r ((m ≡ 0) × (n ≡ 0)) (λ _. n + 1 ≡ m) → (n ≡ 0 → length b.pending.items ≡ 0) → MatchOption r (IsAtEnd h a b) (TakesOut h a b)
  released-or_end (Some e) is m n cases empty = released e is
  released-or_end None is m n none empty =
      let same : a.pending.items ≡ b.pending.items = is ∙ append-nil b.pending.items in
      record {
        growing = record {
          counts = rw counts growing.counts;
          few = growing.few;
          short = growing.short;
          sessions = rw past growing.sessions;
          past = rw past growing.past;
          pending = rw (sym same) growing.pending;
          waiting = rw (sym same, past) growing.waiting;
          added = rw (added, counts) growing.added;
        };
        same = record {
          counts = counts;
          pending = sym same;
          past = λ s. let e = ap (λ (es : List ℕ). slice_index es s) past in omega arith;
          added = added;
          raises = raises;
          cyclic = cyclic;
          most = most;
        };
        past = past;
        ended = inl (empty none.1);
      }

-- once one is taken out, it waits no more
pub dropped : (h : MemoryHistory) (a b : GrowingOrder) (r : Option Raised) (m n : ℕ) → MatchOption r ((m ≡ 0) × (n ≡ 0)) (λ _. n + 1 ≡ m)
    → (n ≡ 0 → length b.pending.items ≡ 0) → MatchOption r (IsAtEnd h a b) (TakesOut h a b) → DropsRaise h a b
dropped h a b None m n none empty ended = record {
  grows = grows-step h Always NoReads a b ended.growing (inr (inl ended.same));
  counts = ended.same.counts;
  past = ended.past;
  fewer = λ few. empty none.1;
}
dropped h a b (Some e) m n one empty takes = record {
  grows = grows-step h Always NoReads a b takes.growing (inr (inr (tt, takes.release)));
  counts = takes.release.counts;
  past = takes.release.past;
  fewer = λ few. let more = ap (λ (es : List Raised). length es) takes.release.pending ∙ length-append b.pending.items (takes.release.raised ∷ []) in omega arith;
}
