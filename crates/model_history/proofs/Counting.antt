-- How many operations sessions have together.
use Rattle.std.specs.Prelude.{◌≡◌, ℕ, ◌+◌, ◌<◌, ◌≤◌, List, [], Option, length, take}
use Rattle.std.specs.List.{sum_by}
use Rattle.std.proofs.Common.{arith, ap, sym, ◌∙◌, take_all}
use Rattle.std.proofs.lemmas.List.{take_more}
use Rattle.std.proofs.lemmas.List.Sums.{sum_by_push, sum_by_more_le}
use Rattle.model_history.specs.History.{HistoryValue, many_before, session}

module _ {S C R : Type 0} (h : HistoryValue S C R) where
  -- those of one session more
  pub many_next : (n : ℕ) → n < length h.1 → many_before h (n + 1) ≡ many_before h n + length (session h n)
  many_next n below =
      ap (λ (xs : List (List (C × Option R))). sum_by (λ (es : List (C × Option R)). length es) xs) (take_more h.1 n [] below)
      ∙ sum_by_push (λ (es : List (C × Option R)). length es) (take n h.1) (session h n)

  -- those of all sessions
  pub many_all : sum_by (λ (es : List (C × Option R)). length es) h.1 ≡ many_before h (length h.1)
  many_all = ap (λ (xs : List (List (C × Option R))). sum_by (λ (es : List (C × Option R)). length es) xs)
      (sym (take_all (length h.1) h.1 (omega arith)))

  -- those of a session are among those of all sessions
  pub many_within : (n : ℕ) → n < length h.1 → many_before h n + length (session h n) ≤ many_before h (length h.1)
  many_within n below =
      let within = sum_by_more_le (λ (es : List (C × Option R)). length es) h.1 n [] below in
      let all = many_all in
      omega arith
