use Rattle.std.specs.Prelude.{◌↔◌, ℕ, List, Some, MatchOption, bit_or}
use Rattle.std.proofs.Common.{sym, subst}
use Rattle.judge_columns.specs.Words.{HasBit, HasBitAt, IsAdded}
use Rattle.judge_columns.proofs.Bits.{or-either}
use Rattle.judge_columns.proofs.WordSteps.{step-taken}
use Rattle.judge_columns.proofs.words.take.Goals as goal

pub returns-clause-taken : goal.returns-clause-taken
returns-clause-taken c o is_op at =
    let h = c.args.index.now.history in
    let words : List ℕ = c.args.words.now.items in
    let first : ℕ = c.word_at-before.result in
    let second : ℕ = c.word_at-source.result in
    step-taken h c.value_is_indexed.ensures.distinct o c.before-2.result c.source.result (c.before-2.ensures.before o is_op at)
    (c.source.ensures.source o is_op at) words c.add_word.new.words.items first second (bit_or first second)
    (subst (λ (xs : List ℕ). (k : ℕ) → HasBit first k ↔ MatchOption c.before-2.result ⊥ (λ n. HasBitAt xs n k)) c.deref.ensures.value
    c.word_at-before.ensures)
    (subst (λ (xs : List ℕ). (k : ℕ) → HasBit second k ↔ MatchOption c.source.result ⊥ (λ n. HasBitAt xs n k)) c.deref-2.ensures.value
    c.word_at-source.ensures)
    (or-either first second)
    (subst (λ (n : ℕ). IsAdded words (Some n) (bit_or first second) c.add_word.new.words.items) (sym at) c.add_word.ensures.added)
