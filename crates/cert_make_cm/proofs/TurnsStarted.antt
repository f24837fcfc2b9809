-- One turn more behind turns that begin at known places.
use Rattle.std.proofs.Common.{◌≡◌, ℕ, suc, ◌<◌, ◌≤◌, List, [], ◌∷◌, ◌++◌, length, take, get_or, arith, sym, ap, subst, ◌∙◌, ⊎_elim}
use Rattle.std.specs.Prelude.{◌≢◌}
use Rattle.std.proofs.lemmas.Bool.{cases_eq}
use Rattle.std.proofs.lemmas.List.{get_or_append_left, get_or_push, length_push, take-append-le}
use Rattle.order_causal.proofs.FullWalks.{walk-longer}
use Rattle.order_causal.proofs.Fronts.{front-take}
use Rattle.order_causal.specs.Orders.{op}
use Rattle.order_causal.specs.Vectors.{Counts, list_of}
use Rattle.cert_make_cm.specs.Steps.Started.{AreStarted}
use Rattle.cert_make_cm.specs.Turns.{IsTurn, AreTurns}

module _ (v : Counts) (s : ℕ) where
  module _ (n : ℕ) (schedule starts : List ℕ) (started : AreStarted v s n schedule starts) where
    -- one turn more
    module _ (whole : List ℕ) (turn : IsTurn v s n schedule whole) where
      longer : length schedule ≤ length whole
      longer =
          let walked = walk-longer v (list_of v (op s n)) schedule turn.counted turn.walk.walk in
          let size = ap (λ (xs : List ℕ). length xs) turn.last ∙ length_push turn.counted s in
          omega arith

      extends : take (length schedule) whole ≡ schedule
      extends =
          let walked = walk-longer v (list_of v (op s n)) schedule turn.counted turn.walk.walk in
          ap (λ (xs : List ℕ). take (length schedule) xs) turn.last ∙ take-append-le (length schedule) turn.counted (s ∷ []) walked ∙ turn.walk.walk.extends

      -- the starts of earlier turns are as they were
      start-before : (m : ℕ) → m < n → get_or (starts ++ length schedule ∷ []) m 0 ≡ get_or starts m 0
      start-before m below = let size = started.size in get_or_append_left starts (length schedule ∷ []) 0 m (omega arith)

      start-last : get_or (starts ++ length schedule ∷ []) n 0 ≡ length schedule
      start-last = get_or_push starts (length schedule) 0 n started.size

      pub started-next : AreStarted v s (suc n) whole (starts ++ length schedule ∷ [])
      started-next = record {
        size = let size = started.size in let more = length_push starts (length schedule) in omega arith;
        turns = (schedule, started.turns, turn);
        rising = λ m k up_to below. ⊎_elim
            (λ (last : k ≡ n).
            let here = start-last in
            let value : get_or (starts ++ length schedule ∷ []) k 0 ≡ length schedule = subst (λ (i : ℕ). get_or (starts ++ length schedule ∷ []) i 0 ≡ length schedule) (sym last) here in
            ⊎_elim
            (λ (same : m ≡ n). let there : get_or (starts ++ length schedule ∷ []) m 0 ≡ length schedule = subst (λ (i : ℕ). get_or (starts ++ length schedule ∷ []) i 0 ≡ length schedule) (sym same) here in omega arith)
            (λ (apart : m ≢ n). let there = start-before m (omega arith) in let inside = started.inside m (omega arith) in omega arith)
            (cases_eq m n))
            (λ (apart : k ≢ n).
            let first = start-before m (omega arith) in
            let second = start-before k (omega arith) in
            let rises = started.rising m k up_to (omega arith) in
            omega arith)
            (cases_eq k n);
        inside = λ m below. ⊎_elim
            (λ (last : m ≡ n).
            let here : get_or (starts ++ length schedule ∷ []) m 0 ≡ length schedule = subst (λ (i : ℕ). get_or (starts ++ length schedule ∷ []) i 0 ≡ length schedule) (sym last) start-last in
            let more = longer in
            omega arith)
            (λ (apart : m ≢ n). let same = start-before m (omega arith) in let before = started.inside m (omega arith) in let more = longer in omega arith)
            (cases_eq m n);
        each = λ m below. ⊎_elim
            (λ (last : m ≡ n).
            let here : get_or (starts ++ length schedule ∷ []) m 0 ≡ length schedule = subst (λ (i : ℕ). get_or (starts ++ length schedule ∷ []) i 0 ≡ length schedule) (sym last) start-last in
            let front : take (get_or (starts ++ length schedule ∷ []) m 0) whole ≡ schedule = ap (λ (i : ℕ). take i whole) here ∙ extends in
            subst (λ (xs : List ℕ). AreTurns v s m xs) (sym front) (subst (λ (i : ℕ). AreTurns v s i schedule) (sym last) started.turns))
            (λ (apart : m ≢ n).
            let same = start-before m (omega arith) in
            let inside = started.inside m (omega arith) in
            let front : take (get_or (starts ++ length schedule ∷ []) m 0) whole ≡ take (get_or starts m 0) schedule =
            ap (λ (i : ℕ). take i whole) same ∙ front-take schedule whole extends (get_or starts m 0) inside in
            subst (λ (xs : List ℕ). AreTurns v s m xs) (sym front) (started.each m (omega arith)))
            (cases_eq m n);
      }
