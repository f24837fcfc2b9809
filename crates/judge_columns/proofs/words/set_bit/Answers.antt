use Rattle.std.specs.Prelude.{◌≡◌, ◌⊎◌, ◌↔◌, ℕ, ◌*◌, ◌^◌, ◌%◌, List, bit_or}
use Rattle.std.proofs.Common.{subst}
use Rattle.std.proofs.lemmas.List.{get_or_read}
use Rattle.judge_columns.specs.Words.{HasBit}
use Rattle.judge_columns.proofs.Bits.{at-place, set-bit}
use Rattle.judge_columns.proofs.words.set_bit.Goals as goal

pub returns-clause-set : goal.returns-clause-set
returns-clause-set c =
    let items : List ℕ = c.args.words.now.items in
    let place : ℕ = c.args.place in
    let was : ℕ = c.index_mut.result.now in
    let bit : ℕ = c.args.bit in
    let same = get_or_read items place was c.requires.place c.index_mut.ensures.value 0 in
    at-place items place (bit_or was (1 * 2 ^ bit % 2 ^ 128)) (λ k. k ≡ bit) c.requires.place
    (λ k. subst (λ (w : ℕ). HasBit (bit_or was (1 * 2 ^ bit % 2 ^ 128)) k ↔ (HasBit w k ⊎ (k ≡ bit))) same
    (set-bit was bit k c.requires.bit))
