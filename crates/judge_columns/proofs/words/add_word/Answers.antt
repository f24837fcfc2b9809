use Rattle.std.specs.Prelude.{◌≡◌, ◌⊎◌, ◌↔◌, ◌<◌, ℕ, List, Option, MatchOption, IfSome, bit_or, length, slice_set}
use Rattle.std.proofs.Common.{sym, subst}
use Rattle.std.proofs.lemmas.List.{get_or_read}
use Rattle.judge_columns.specs.Words.{HasBit, HasBitAt}
use Rattle.judge_columns.proofs.Bits.{at-place, or-either}
use Rattle.judge_columns.proofs.words.add_word.Goals as goal

pub returns-in-Some-clause-added : goal.returns-in-Some-clause-added
returns-in-Some-clause-added c =
    let items : List ℕ = c.args.words.now.items in
    let place : ℕ = c.in-Some.place in
    let was : ℕ = c.index_mut.result.now in
    let word : ℕ = c.args.word in
    let inside : place < length items = subst (λ (p : Option ℕ). IfSome p (λ n. n < length items)) c.in-Some.is c.requires in
    let same = get_or_read items place was inside c.index_mut.ensures.value 0 in
    subst (λ (p : Option ℕ). (n k : ℕ) → HasBitAt (slice_set items place (bit_or was word)) n k
    ↔ (HasBitAt items n k ⊎ MatchOption p ⊥ (λ m. (n ≡ m) × HasBit word k))) (sym c.in-Some.is)
    (at-place items place (bit_or was word) (HasBit word) inside
    (λ k. subst (λ (w : ℕ). HasBit (bit_or was word) k ↔ (HasBit w k ⊎ HasBit word k)) same (or-either was word k)))
