-- Sessions of which a vector counts more than another one, and raises of nothing.
use Rattle.std.specs.Prelude.{◌≡◌, ℕ, ◌<◌, ◌≤◌, List, length, Option, Some, None, MatchOption, slice_index_or}
use Rattle.std.proofs.Common.{arith, ap, refl, ⊎_elim, inl}
use Rattle.std.proofs.lemmas.Bool.{cases_lt}
use Rattle.std.proofs.lemmas.List.{get_or_past}
use Rattle.model_history.specs.declared.op_id.OpId.{OpId}
use Rattle.order_memory.specs.Steps.GrowthSteps.{IsRaisedFrom}
use Rattle.order_causal.specs.Vectors.{Counts, count, list_of}

-- vectors in which nothing was raised, since no operation that is in comes so late
pub raised-none : (v : Counts) (past t i u c : ℕ) → past ≤ i → IsRaisedFrom v v past t i u c
raised-none v past t i u c behind = record {
  changes = λ p s. inl refl;
  reached = λ below. absurd (omega arith);
}

-- the first place where one vector counts more than another
module _ (v : Counts) (a b : OpId) (n from : ℕ) (counts others : List ℕ) (is : counts ≡ list_of v a) (are : others ≡ list_of v b) (size : length (list_of v a) ≡ n) where
  less-counted : (z : ℕ) → slice_index_or counts z 0 ≤ slice_index_or others z 0 → count v a z ≤ count v b z
  less-counted z less =
      let one = ap (λ (xs : List ℕ). slice_index_or xs z 0) is in
      let other = ap (λ (xs : List ℕ). slice_index_or xs z 0) are in
      omega arith

  pub next-counted : (found : Option ℕ)
      → MatchOption found ((s : ℕ) → from ≤ s → s < length counts → slice_index_or counts s 0 ≤ slice_index_or others s 0)
      (λ place. (from ≤ place) × (place < length counts) × ((s : ℕ) → from ≤ s → s < place → slice_index_or counts s 0 ≤ slice_index_or others s 0))
      → MatchOption found ((z : ℕ) → from ≤ z → count v a z ≤ count v b z)
      (λ session. (from ≤ session) × (session < n) × ((z : ℕ) → from ≤ z → z < session → count v a z ≤ count v b z))
  next-counted None none = λ z above. ⊎_elim
      (λ (inside : z < length counts). less-counted z (none z above inside))
      (λ (past : length counts ≤ z).
      let nothing = get_or_past counts z 0 past in
      less-counted z (omega arith))
      (cases_lt z (length counts))
  next-counted (Some place) found =
      let same = ap (λ (xs : List ℕ). length xs) is in
      let inside = found.1 in
      (found.0, omega arith, λ z above below. less-counted z (found.2 z above below))
