-- One operation more is placed.
use Rattle.std.specs.Prelude.{◌≡◌, ◌≢◌, ◌⊎◌, ℕ, ◌+◌, ◌-◌, ◌<◌, ◌≤◌, List, [], ◌∷◌, ◌++◌, length, Some, slice_get, slice_set}
use Rattle.std.proofs.Common.{arith, refl, ap, sym, ◌∙◌, subst, inl, inr, ⊎_elim, get_or}
use Rattle.std.proofs.lemmas.Bool.{cases_lt, cases_eq}
use Rattle.std.proofs.lemmas.List.{length_push, length-set, get_or_past, get_or-set_same, get_or-set_other}
use Rattle.std.proofs.lemmas.Option.{slice_get_within, slice_get-get_or}
use Rattle.model_history.specs.declared.op_id.OpId.{OpId}
use Rattle.model_history.specs.History.{IsOp, many_before, number}
use Rattle.model_history.proofs.Counting.{many_next}
use Rattle.order_causal.specs.Orders.{op}
use Rattle.order_causal.proofs.Fronts.{push-at, push-last}
use Rattle.order_causal.proofs.OrdersLaws.{same_op, session-of_history}
use Rattle.order_causal.proofs.RepeatsLaws.{repeats}
use Rattle.order_memory.specs.Memory.{MemoryHistory}
use Rattle.order_memory.specs.Relations.{ReadsFrom}
use Rattle.order_memory.proofs.RaiseLists.{at-left, at-last}
use Rattle.judge_memory.specs.Steps.{many, IsNext, IsStep, IsStepWith, IsListedEdge, AreOfHistory, StandsAs, IsVisited, IsOrderWith}
use Rattle.judge_memory.proofs.Numbers.{many-rises, number-all, number-below, number-once}
use Rattle.judge_memory.proofs.Steps.{step_with-of_history}
use Rattle.judge_memory.specs.Placements.{IsPlaced, IsNextToPlace, IsUnfinished, IsReady, IsPlacedNext, IsOrderSoFar, next_of, IsPlacement, IsGrownFrom}
use Rattle.judge_memory.proofs.Orders.{listed-of_history}

-- what stands in a list with one element more
push-cases : (xs : List ℕ) (y k n : ℕ) → slice_get (xs ++ y ∷ []) k ≡ Some n → (slice_get xs k ≡ Some n) ⊎ ((k ≡ length xs) × (y ≡ n))
push-cases xs y k n at = ⊎_elim
    (λ (inside : k < length xs). inl (push-at xs y k n inside at))
    (λ (end : length xs ≤ k).
    let within = slice_get_within (xs ++ y ∷ []) k n at in
    let more = length_push xs y in
    let here : k ≡ length xs = omega arith in
    inr (here, push-last xs y n (subst (λ (j : ℕ). slice_get (xs ++ y ∷ []) j ≡ Some n) here at)))
    (cases_lt k (length xs))

module _ (h : MemoryHistory) (also : OpId → OpId → Type 0) (named : AreOfHistory h also) where
  -- at first nothing is placed
  pub so_far-first : (next : ℕ → ℕ) → ((a : OpId) → ¬ IsPlaced h next a) → IsOrderSoFar h also next []
  so_far-first next none = record {
    each = λ a placed. absurd (none a placed);
    no_other = λ k n at. absurd cc;
    once = λ j k n first second. absurd cc;
    after = λ k a b step at. absurd cc;
    of_history = λ a placed. absurd (none a placed);
  }

  -- the next operation of a session is placed, where its source and those with an edge to it are
  module _ (p : OpId) (next after : ℕ → ℕ) (placing : IsPlacedNext p.session next after) (order : List ℕ)
      (now : IsOrderSoFar h also next order) (is_next : IsNextToPlace h next p) (ready : IsReady h also next p) where
    abbrev longer : List ℕ
    longer = order ++ number h p ∷ []

    placed-cases : (a : OpId) → IsPlaced h after a → IsPlaced h next a ⊎ (a ≡ p)
    placed-cases a placed = ⊎_elim
        (λ (same : a.session ≡ p.session).
        let below : number h a < after p.session = subst (λ (u : ℕ). number h a < after u) same placed in
        let more = placing.here in
        let is = is_next.1 in
        let start = ap (many_before h) same in
        ⊎_elim
        (λ (here : a.index ≡ p.index). inr (same_op a p same here))
        (λ (apart : a.index ≢ p.index).
        inl (subst (λ (u : ℕ). number h a < next u) (sym same) (let less : number h a < next p.session = omega arith in less)))
        (cases_eq a.index p.index))
        (λ (other : a.session ≢ p.session). let kept = placing.others a.session other in inl (omega arith))
        (cases_eq a.session p.session)

    placed-still : (a : OpId) → IsPlaced h next a → IsPlaced h after a
    placed-still a placed = ⊎_elim
        (λ (same : a.session ≡ p.session).
        let below : number h a < next p.session = subst (λ (u : ℕ). number h a < next u) same placed in
        let more = placing.here in
        subst (λ (u : ℕ). number h a < after u) (sym same) (let less : number h a < after p.session = omega arith in less))
        (λ (other : a.session ≢ p.session). let kept = placing.others a.session other in omega arith)
        (cases_eq a.session p.session)

    p-placed : IsPlaced h after p
    p-placed = let more = placing.here in let is = is_next.1 in omega arith

    -- each that steps to it is placed
    steps-placed : (a : OpId) → IsStepWith h also a p → IsPlaced h next a
    steps-placed a step = ⊎_elim
        (λ (plain : IsStep h a p). ⊎_elim
        (λ (before : IsNext h a p).
        let same : a.session ≡ p.session = before.0 in
        let more = before.1 in
        let is = is_next.1 in
        let start = ap (many_before h) same in
        subst (λ (u : ℕ). number h a < next u) (sym same) (let less : number h a < next p.session = omega arith in less))
        (λ (from : ReadsFrom h a p). ready a (inl from))
        plain)
        (λ (edge : also a p). ready a (inr edge))
        step

    -- it did not stand there before
    not_yet : (k : ℕ) → ¬ (slice_get order k ≡ Some (number h p))
    not_yet k at =
        let found = now.no_other k (number h p) at in
        let same = number-once h found.0 p (now.of_history found.0 found.1) is_next.0 found.2 in
        let placed : IsPlaced h next p = subst (IsPlaced h next) same found.1 in
        let is = is_next.1 in
        omega arith

    visited-still : (k : ℕ) (a : OpId) → IsVisited h order k a → IsVisited h longer k a
    visited-still k a visited = (visited.0, visited.1, at-left order (number h p ∷ []) visited.0 (number h a) visited.2)

    once-cases : (j k n : ℕ) → slice_get longer j ≡ Some n → slice_get longer k ≡ Some n → j ≡ k
    once-cases j k n first second = ⊎_elim
        (λ (one : slice_get order j ≡ Some n). ⊎_elim
        (λ (two : slice_get order k ≡ Some n). now.once j k n one two)
        (λ (two : (k ≡ length order) × (number h p ≡ n)).
        absurd (not_yet j (subst (λ (m : ℕ). slice_get order j ≡ Some m) (sym two.1) one)))
        (push-cases order (number h p) k n second))
        (λ (one : (j ≡ length order) × (number h p ≡ n)). ⊎_elim
        (λ (two : slice_get order k ≡ Some n). absurd (not_yet k (subst (λ (m : ℕ). slice_get order k ≡ Some m) (sym one.1) two)))
        (λ (two : (k ≡ length order) × (number h p ≡ n)). one.0 ∙ sym two.0)
        (push-cases order (number h p) k n second))
        (push-cases order (number h p) j n first)

    after-cases : (k : ℕ) (a b : OpId) → IsStepWith h also a b → StandsAs h longer k b → IsVisited h longer k a
    after-cases k a b step at = ⊎_elim
        (λ (before : StandsAs h order k b). visited-still k a (now.after k a b step before))
        (λ (last : (k ≡ length order) × (number h p ≡ number h b)).
        let same = number-once h b p (step_with-of_history h also named a b step).1 is_next.0 (sym last.1) in
        let place = now.each a (steps-placed a (subst (IsStepWith h also a) same step)) in
        let inside = slice_get_within order place.0 (number h a) place.1 in
        let end = last.0 in
        (place.0, omega arith, at-left order (number h p ∷ []) place.0 (number h a) place.1))
        (push-cases order (number h p) k (number h b) at)

    pub so_far-placed : IsOrderSoFar h also after longer
    so_far-placed = record {
      each = λ a placed. ⊎_elim
          (λ (before : IsPlaced h next a).
          let place = now.each a before in (place.0, at-left order (number h p ∷ []) place.0 (number h a) place.1))
          (λ (same : a ≡ p).
          (length order, at-last order (number h p) (length order) refl ∙ ap (λ (q : OpId). Some (number h q)) (sym same)))
          (placed-cases a placed);
      no_other = λ k n at. ⊎_elim
          (λ (before : slice_get order k ≡ Some n). let found = now.no_other k n before in (found.0, placed-still found.0 found.1, found.2))
          (λ (last : (k ≡ length order) × (number h p ≡ n)). (p, p-placed, last.1))
          (push-cases order (number h p) k n at);
      once = once-cases;
      after = after-cases;
      of_history = λ a placed. ⊎_elim
          (λ (before : IsPlaced h next a). now.of_history a before)
          (λ (same : a ≡ p). subst (IsOp h) (sym same) is_next.0)
          (placed-cases a placed);
    }

  module _ (next : ℕ → ℕ) (order : List ℕ) (now : IsOrderSoFar h also next order) where
    -- at the end all are placed
    pub so_far-whole : ((a : OpId) → IsOp h a → IsPlaced h next a) → IsOrderWith h also order
    so_far-whole whole = record {
      each = λ a is_op. now.each a (whole a is_op);
      no_other = λ k n at. let found = now.no_other k n at in (found.0, now.of_history found.0 found.1, found.2);
      once = now.once;
      after = now.after;
    }

    -- what stands in the list is the number of an operation
    pub so_far-below : (k n : ℕ) → slice_get order k ≡ Some n → n < many h
    so_far-below k n at =
        let found = now.no_other k n at in
        let below = number-all h found.0 (now.of_history found.0 found.1) in
        let is = found.2 in
        omega arith

    -- it has at most as many places as there are operations
    pub so_far-few : length order ≤ many h
    so_far-few = ⊎_elim
        (λ (more : many h < length order).
        let here = λ (j : ℕ) (up_to : j ≤ many h). slice_get-get_or order j 0 (let within : j < length order = omega arith in within) in
        let again = repeats (many h) (λ j. get_or order j 0) (λ j up_to. so_far-below j (get_or order j 0) (here j up_to)) in
        let below = again.2 in
        let up_to = again.3 in
        let first = here again.0 (omega arith) in
        let second = here again.1 up_to in
        let same = now.once again.0 again.1 (get_or order again.0 0) first (second ∙ ap (λ (m : ℕ). Some m) (sym again.4)) in
        absurd (omega arith))
        (λ (few : length order ≤ many h). few)
        (cases_lt (many h) (length order))

module _ (h : MemoryHistory) (edges : List (ℕ × ℕ)) where
  -- where each session begins at its first operation, nothing is placed
  pub placement-first : (next : List ℕ) → length next ≡ length h.1 → ((t : ℕ) → t < length h.1 → next_of next t ≡ many_before h t)
      → IsPlacement h edges next []
  placement-first next count starts = record {
    count = count;
    from_start = λ t below. (let same = starts t below in omega arith);
    to_end = λ t below. (let same = starts t below in let rises = many-rises h t (t + 1) (omega arith) in omega arith);
    so_far = so_far-first h (IsListedEdge h edges) (listed-of_history h edges) (next_of next) (λ a placed. ⊎_elim
        (λ (inside : a.session < length h.1). let same = starts a.session inside in omega arith)
        (λ (outside : length h.1 ≤ a.session). let none = get_or_past next a.session 0 (omega arith) in omega arith)
        (cases_lt a.session (length h.1)));
  }

  module _ (next order : List ℕ) (now : IsPlacement h edges next order) where
    -- the first operation of a session that is not placed
    pub next-operation : (t : ℕ) → t < length h.1 → IsUnfinished h (next_of next) t
        → (p : OpId) × IsNextToPlace h (next_of next) p × (p.session ≡ t)
    next-operation t inside unfinished =
        let start = now.from_start t inside in
        let more = many_next h t inside in
        (op t (next_of next t - many_before h t), (omega arith, omega arith), refl)

    -- where no session has one, all are placed
    pub finished-placed : ((t : ℕ) → t < length h.1 → ¬ IsUnfinished h (next_of next) t) → (a : OpId) → IsOp h a
        → IsPlaced h (next_of next) a
    finished-placed finished a is_op = ⊎_elim
        (λ (placed : number h a < next_of next a.session). placed)
        (λ (left : next_of next a.session ≤ number h a).
        let below = number-below h a is_op in
        absurd (finished a.session (session-of_history h a is_op) (omega arith)))
        (cases_lt (number h a) (next_of next a.session))

    module _ (p : OpId) (is_next : IsNextToPlace h (next_of next) p) (ready : IsReady h (IsListedEdge h edges) (next_of next) p)
        (after : List ℕ) (is_after : after ≡ slice_set next p.session (number h p + 1)) where
      placed-inside : p.session < length next
      placed-inside = let inside = session-of_history h p is_next.0 in let count = now.count in omega arith

      placed-next : IsPlacedNext p.session (next_of next) (next_of after)
      placed-next = record {
        here = (let same = get_or-set_same next p.session (number h p + 1) 0 placed-inside in
            let is = ap (λ (xs : List ℕ). next_of xs p.session) is_after in let was = is_next.1 in omega arith);
        others = λ u apart. ap (λ (xs : List ℕ). next_of xs u) is_after ∙ get_or-set_other next p.session u (number h p + 1) 0 apart;
      }

      -- at each session it is what it was, or one more
      placed-cases_next : (t : ℕ) → ((t ≡ p.session) × (next_of after t ≡ number h p + 1) × (next_of next t ≡ number h p))
          ⊎ (next_of after t ≡ next_of next t)
      placed-cases_next t = ⊎_elim
          (λ (here : t ≡ p.session).
          let one = placed-next.here in
          let was = is_next.1 in
          let first = ap (next_of after) here in
          let second = ap (next_of next) here in
          inl (here, omega arith, omega arith))
          (λ (apart : t ≢ p.session). inr (placed-next.others t apart))
          (cases_eq t p.session)

      -- such an operation is placed, where what it has to follow is
      pub placement-placed : IsPlacement h edges after (order ++ number h p ∷ [])
      placement-placed = record {
        count = ap (λ (xs : List ℕ). length xs) is_after ∙ length-set next p.session (number h p + 1) ∙ now.count;
        from_start = λ t below. (let start = now.from_start t below in ⊎_elim
            (λ (here : (t ≡ p.session) × (next_of after t ≡ number h p + 1) × (next_of next t ≡ number h p)).
            let is = here.1 in let was = here.2 in omega arith)
            (λ (same : next_of after t ≡ next_of next t). omega arith)
            (placed-cases_next t));
        to_end = λ t below. (let end = now.to_end t below in ⊎_elim
            (λ (here : (t ≡ p.session) × (next_of after t ≡ number h p + 1) × (next_of next t ≡ number h p)).
            let is = here.1 in
            let inside = number-below h p is_next.0 in
            let last = ap (λ (u : ℕ). many_before h (u + 1)) here.0 in
            omega arith)
            (λ (same : next_of after t ≡ next_of next t). omega arith)
            (placed-cases_next t));
        so_far = so_far-placed h (IsListedEdge h edges) (listed-of_history h edges) p (next_of next) (next_of after) placed-next order
            now.so_far is_next ready;
      }

      pub grown-placed : IsGrownFrom next order after (order ++ number h p ∷ [])
      grown-placed = record {
        rises = λ t. ⊎_elim
            (λ (here : (t ≡ p.session) × (next_of after t ≡ number h p + 1) × (next_of next t ≡ number h p)).
            let is = here.1 in let was = here.2 in omega arith)
            (λ (same : next_of after t ≡ next_of next t). omega arith)
            (placed-cases_next t);
        longer = (let more = length_push order (number h p) in omega arith);
        same = λ as_long. (let more = length_push order (number h p) in absurd (omega arith));
      }

-- an order grows from itself, and from what another grew from
pub grown-first : (next order : List ℕ) → IsGrownFrom next order next order
grown-first next order = record { rises = λ t. omega arith; longer = omega arith; same = λ as_long. refl }

pub grown-grown : (next order mid longer after longest : List ℕ) → IsGrownFrom next order mid longer → IsGrownFrom mid longer after longest
    → IsGrownFrom next order after longest
grown-grown next order mid longer after longest first second = record {
  rises = λ t. (let one = first.rises t in let two = second.rises t in omega arith);
  longer = (let one = first.longer in let two = second.longer in omega arith);
  same = λ as_long. (let one = first.longer in let two = second.longer in first.same (omega arith) ∙ second.same (omega arith));
}
