use Rattle.std.specs.Prelude.{◌≡◌, ℕ, List, slice_index_or}
use Rattle.std.proofs.Common.{arith, ap, sym, ◌∙◌, subst}
use Rattle.std.proofs.lemmas.List.{get_or_read}
use Rattle.model_history.specs.History.{number}
use Rattle.judge_columns.specs.Words.{HasBit}
use Rattle.judge_columns.proofs.WordSteps.{step-given}
use Rattle.judge_columns.proofs.words.give.Goals as goal

pub returns-clause-given : goal.returns-clause-given
returns-clause-given c o is_op at =
    let h = c.args.index.now.history in
    let words : List ℕ = c.args.words.now.items in
    let size = c.requires.size in
    let below = c.requires.operation in
    let same : c.index-word.result.now ≡ slice_index_or words (number h o) 0 =
    get_or_read words c.args.operation c.index-word.result.now (omega arith) c.index-word.ensures 0
    ∙ ap (λ (n : ℕ). slice_index_or words n 0) (sym at) in
    step-given h c.value_is_indexed.ensures.distinct o c.before-2.result c.source.result (c.before-2.ensures.before o is_op at)
    (c.source.ensures.source o is_op at) words c.add_word.new.words.items c.add_word-2.new.words.items c.index-word.result.now
    (λ k. ((λ had. subst (λ (w : ℕ). HasBit w k) same had), λ had. subst (λ (w : ℕ). HasBit w k) (sym same) had))
    c.add_word.ensures.added c.add_word-2.ensures.added
