-- The longest receipt of a lane among those seen so far.
use Rattle.std.proofs.Common.{◌≡◌, ℕ, ◌+◌, ◌<◌, ◌≤◌, List, length, inl, inr, sym, ◌∙◌, ap, subst, arith}
use Rattle.std.specs.Prelude.{Some, slice_get}
use Rattle.std.proofs.lemmas.Bool.{cases_lt}
use Rattle.live_recorder.specs.Sessions.{ReceiptState}
use Rattle.live_seals.specs.declared.longest.LongestReceipt.{LongestReceipt}
use Rattle.live_seals.specs.Steps.Tables.{IsLongest}
use Rattle.live_seals.proofs.TableLemmas.{some_same}

-- one receipt more, which is of the lane and longer than the others of it, or else changes nothing
module _ {C R : Type 0} (rs : List (ReceiptState C R)) (s j : ℕ) (best : LongestReceipt) (old : IsLongest rs s j best) (r : ReceiptState C R) (here : slice_get rs j ≡ Some r) where
  most_with : (n : ℕ) → best.count ≤ n → (r.lane ≡ s → length r.operations ≤ n)
      → (k : ℕ) (q : ReceiptState C R) → k < j + 1 → slice_get rs k ≡ Some q → q.lane ≡ s → length q.operations ≤ n
  most_with n more own k q below at of = elim (cases_lt k j) [
    | inl h ↦ let m : length q.operations ≤ best.count = old.most k q h at of in omega (arith, m, more)
    | inr h ↦
        let last : k ≡ j = omega (arith, h, below) in
        let same : q ≡ r = some_same q r (sym at ∙ (ap (slice_get rs) last ∙ here)) in
        subst (λ (x : ReceiptState C R). length x.operations ≤ n) (sym same) (own (ap (λ (x : ReceiptState C R). x.lane) (sym same) ∙ of))
  ]

  pub longest_is_new : (n : ℕ) → r.lane ≡ s → best.count < n → length r.operations ≡ n → length r.cells ≡ n → IsLongest rs s (j + 1) (record { count = n; at = j })
  longest_is_new n of more many cells = record {
    most = most_with n (omega (arith, more)) (λ same. omega (arith, many));
    reached = λ some. (r, here, of, many, cells);
  }

  pub longest_stays : (r.lane ≡ s → length r.operations ≤ best.count) → IsLongest rs s (j + 1) best
  longest_stays short = record { most = most_with best.count (omega arith) short; reached = old.reached }
