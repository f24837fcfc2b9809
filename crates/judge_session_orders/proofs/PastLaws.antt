-- The past of an operation, found by going once through an order from its end.
use Rattle.std.specs.Prelude.{◌≡◌, ◌≢◌, ◌⊎◌, ◌↔◌, ℕ, ◌+◌, ◌<◌, ◌≤◌, List, length, max, slice_index_or}
use Rattle.std.proofs.Common.{arith, sym, subst, inl, inr, ⊎_elim, ◌∙◌}
use Rattle.std.proofs.lemmas.Bool.{cases_eq, cases_lt}
use Rattle.std.proofs.lemmas.Option.{same_Some, slice_get_within}
use Rattle.model_history.specs.declared.op_id.OpId.{OpId}
use Rattle.order_causal.proofs.OrdersLaws.{same_op}
use Rattle.order_causal.proofs.PathsLaws.{leads-edge}
use Rattle.order_memory.specs.Memory.{MemoryHistory, Writes, IsDifferentiated}
use Rattle.order_memory.specs.Relations.{ReadsFrom, IsEdge, IsPast}
use Rattle.order_memory.proofs.HappenedBeforeLaws.{past-before, past-of_history}
use Rattle.order_memory.proofs.MemoryLaws.{same_read, write-of_history}
use Rattle.model_history.specs.History.{IsOp, Precedes, number}
use Rattle.judge_memory.specs.Steps.{IsNext, IsStep, StandsAs, IsAfter, IsOrderWith}
use Rattle.judge_session_orders.specs.Backward.{IsLeft}
use Rattle.judge_session_orders.specs.Pasts.{IsPastAfter, IsRaised}
use Rattle.judge_session_orders.specs.Tables.{left_counts}
use Rattle.judge_memory.proofs.Steps.{step-of_history, first-step, program-causal}
use Rattle.judge_memory.proofs.Numbers.{number-once}

-- an operation that is not left or has no source asks for no more
pub raised-none : (h : MemoryHistory) (b : OpId) (left : ℕ → ℕ) → (IsLeft left b → (w : OpId) → ¬ ReadsFrom h w b) → IsRaised h b left left
raised-none h b left none = record {
  more = λ u. omega arith;
  source = λ is_left w from. absurd (none is_left w from);
  only = λ a is_left. inl is_left;
}

-- for one that is left, its source is left too, with what precedes the source
pub raised-source : (h : MemoryHistory) → IsDifferentiated h → (b w : OpId) (left after : ℕ → ℕ) → IsLeft left b → ReadsFrom h w b
    → left w.session ≤ after w.session → w.index < after w.session → (after w.session ≡ left w.session) ⊎ (after w.session ≡ w.index + 1)
    → ((u : ℕ) → u ≢ w.session → after u ≡ left u) → IsRaised h b left after
raised-source h distinct b w left after is_left from up_to raised one others = record {
  more = λ u. ⊎_elim
      (λ (same : u ≡ w.session). subst (λ (s : ℕ). left s ≤ after s) (sym same) up_to)
      (λ (apart : u ≢ w.session). let as_before = others u apart in omega arith)
      (cases_eq u w.session);
  source = λ _ u other.
      let same = same_read h b other.0 other.1 from.0 from.1 other.3 from.3 in
      let wrote : Writes h u from.0 from.1 = rw (same.0, same.1) at (other.2) in
      subst (IsLeft after) (sym (distinct.once u w from.0 from.1 wrote from.2)) raised;
  only = λ a is_after. ⊎_elim
      (λ (same : a.session ≡ w.session).
      let below : a.index < after w.session = subst (λ (s : ℕ). a.index < after s) same is_after in
      ⊎_elim
      (λ (kept : after w.session ≡ left w.session).
      let less : a.index < left w.session = omega arith in
      inl (subst (λ (s : ℕ). a.index < left s) (sym same) less))
      (λ (new : after w.session ≡ w.index + 1). inr (
        is_left,
        (
          w,
          from,
          ⊎_elim
              (λ (here : a.index ≡ w.index). inl (same_op a w same here))
              (λ (apart : a.index ≢ w.index). inr (same, omega arith))
              (cases_eq a.index w.index),
        ),
      ))
      one)
      (λ (apart : a.session ≢ w.session). let as_before = others a.session apart in inl (omega arith))
      (cases_eq a.session w.session);
}

-- the same by the numbers after the last operations that are left
pub ends-raised : (h : MemoryHistory) → IsDifferentiated h → (b w : OpId) (ends after : List ℕ) → IsLeft (left_counts h ends) b
    → ReadsFrom h w b
    → slice_index_or after w.session 0 ≡ max (slice_index_or ends w.session 0) (number h w + 1)
    → ((t : ℕ) → t ≢ w.session → slice_index_or after t 0 ≡ slice_index_or ends t 0) → IsRaised h b (left_counts h ends)
    (left_counts h after)
ends-raised h distinct b w ends after is_left from raised others =
    raised-source h distinct b w (left_counts h ends) (left_counts h after) is_left from
    (omega arith)
    (omega arith)
    (⊎_elim
    (λ (lower : slice_index_or ends w.session 0 < number h w + 1). inr (omega arith))
    (λ (higher : number h w + 1 ≤ slice_index_or ends w.session 0). inl (omega arith))
    (cases_lt (slice_index_or ends w.session 0) (number h w + 1)))
    (λ t apart. let same = others t apart in omega arith)

module _ (h : MemoryHistory) (also : OpId → OpId → Type 0) (order : List ℕ) (ordered : IsOrderWith h also order) where
  -- the operation at the place i is the only one from i on that is not after i
  after-cases : (i : ℕ) (o b : OpId) → IsOp h o → StandsAs h order i o → IsOp h b → IsAfter h order i b
      → IsAfter h order (i + 1) b ⊎ (b ≡ o)
  after-cases i o b is_op at is_b (k, from, at_k) = ⊎_elim
      (λ (more : i < k). inl (k, omega arith, at_k))
      (λ (up_to : k ≤ i).
      let here : k ≡ i = omega arith in
      let both = sym (subst (λ (j : ℕ). StandsAs h order j b) here at_k) ∙ at in
      inr (number-once h b o is_b is_op (same_Some _ _ both)))
      (cases_lt i k)

  -- the steps of an operation lead to later places
  step-after : (i : ℕ) (o d : OpId) → StandsAs h order i o → IsStep h o d → IsAfter h order (i + 1) d
  step-after i o d at step =
      let place = ordered.each d (step-of_history h o d step).1 in
      let before = ordered.after place.0 o d (inl step) place.1 in
      let same = ordered.once before.0 i (number h o) before.2 at in
      let below = before.1 in
      (place.0, omega arith, place.1)

module _ (h : MemoryHistory) (also : OpId → OpId → Type 0) (order : List ℕ) (ordered : IsOrderWith h also order) (o : OpId) where
  -- before the first place, o is left with what precedes it
  pub past-first : IsOp h o → (left : ℕ → ℕ) → left o.session ≡ o.index + 1 → ((u : ℕ) → u ≢ o.session → left u ≡ 0)
      → IsPastAfter h o order (length order) left
  past-first is_op left own others = record {
    own = omega arith;
    within = λ a is_left. ⊎_elim
        (λ (same : a.session ≡ o.session).
        let below : a.index < left o.session = subst (λ (s : ℕ). a.index < left s) same is_left in
        ⊎_elim
        (λ (here : a.index ≡ o.index). inl (same_op a o same here))
        (λ (apart : a.index ≢ o.index). inr (program-causal h a o (same, omega arith) is_op))
        (cases_eq a.index o.index))
        (λ (apart : a.session ≢ o.session). let none = others a.session apart in absurd (omega arith))
        (cases_eq a.session o.session);
    found = λ b is_op behind past.
        let inside = slice_get_within order behind.0 (number h b) behind.2 in
        let above = behind.1 in
        absurd (omega arith);
  }

  module _ (i : ℕ) (b : OpId) (is_b : IsOp h b) (at : StandsAs h order i b) (left after : ℕ → ℕ) (raised : IsRaised h b left after)
      (now : IsPastAfter h o order (i + 1) left) where
    still : (a : OpId) → IsLeft left a → IsLeft after a
    still a is_left = let more = raised.more a.session in omega arith

    -- an operation of the past is left by the time that its place is visited
    here-left : IsPast h o b → IsLeft left b
    here-left (inl same) = subst (IsLeft left) (sym same) now.own
    here-left (inr leads) =
        let first = first-step h b o leads in
        let d : OpId = first.0 in
        let behind = step-after h also order ordered i b d at first.1 in
        ⊎_elim
        (λ (next : IsNext h b d).
        let found = now.found d next.2 behind first.2 in
        let same = next.0 in
        let more = next.1 in
        let below : d.index < left b.session = subst (λ (s : ℕ). d.index < left s) (sym same) found.0 in
        omega arith)
        (λ (from : ReadsFrom h b d). (now.found d (step-of_history h b d first.1).1 behind first.2).1 b from)
        first.1

    pub past-next : IsPastAfter h o order i after
    past-next = record {
      own = still o now.own;
      within = λ a is_after. ⊎_elim
          (λ (is_left : IsLeft left a). now.within a is_left)
          (λ (new : IsLeft left b × ((w : OpId) × ReadsFrom h w b × ((a ≡ w) ⊎ Precedes a w))).
          let w : OpId = new.1.0 in
          let from = new.1.1 in
          let before = past-before h o w b (leads-edge (IsEdge h) w b (inr from)) (now.within b new.0) in
          ⊎_elim
          (λ (same : a ≡ w). subst (IsPast h o) (sym same) before)
          (λ (first : Precedes a w). past-before h o a w (program-causal h a w first (write-of_history h w from.0 from.1 from.2)) before)
          new.1.2)
          (raised.only a is_after);
      found = λ c is_c behind past. ⊎_elim
          (λ (later : IsAfter h order (i + 1) c).
          let found = now.found c is_c later past in
          (still c found.0, λ w from. still w (found.1 w from)))
          (λ (same : c ≡ b).
          let is_left = here-left (subst (IsPast h o) same past) in (
            subst (IsLeft after) (sym same) (still b is_left),
            λ w from. raised.source is_left w (subst (ReadsFrom h w) same from),
          ))
          (after-cases h also order ordered i b c is_b at is_c behind);
    }

  -- after the last place, exactly the past is left
  pub past-whole : IsOp h o → (left : ℕ → ℕ) → IsPastAfter h o order 0 left → (a : OpId) → IsLeft left a ↔ IsPast h o a
  past-whole is_op left now a = (
    now.within a,
    λ past.
        let is_a = past-of_history h o a is_op past in
        let place = ordered.each a is_a in
        (now.found a is_a (place.0, omega arith, place.1) past).0,
  )
