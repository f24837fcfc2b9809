use Rattle.std.specs.Prelude.{◌≡◌, ◌<◌, ◌+◌, ℕ, List, Some, length, slice_get, slice_index_or}
use Rattle.std.proofs.Common.{arith, ap, sym, ◌∙◌, subst}
use Rattle.std.proofs.lemmas.Option.{same_Some, slice_get-get_or, slice_get_within}
use Rattle.model_history.specs.History.{number}
use Rattle.judge_memory.specs.Steps.{many}
use Rattle.judge_memory.proofs.Numbers.{number-all}
use Rattle.judge_columns.specs.Words.{HasBitAt}
use Rattle.judge_columns.proofs.OneMore.{bit-more, bit-same}
use Rattle.judge_columns.proofs.forks.mark_variables.Goals as goal
use Rattle.judge_columns.proofs.forks.mark_variables.Goals.{then-place-writes, else-place-writes}

pub variable-requires : goal.variable-requires
variable-requires c =
    let h = c.args.index.now.history in
    let writes : List ℕ = c.args.writes.now in
    let place : ℕ = c.args.from + c.loop-bit.bit in
    let inside : place < length writes = grind arith in
    let w = c.requires.only place (slice_index_or writes place 0) (slice_get-get_or writes place 0 inside) in
    subst (λ (n : ℕ). n < many h) w.2 (number-all h w.0 w.1)

pub loop-bit-preserved : goal.loop-bit-preserved
loop-bit-preserved c =
    let variables : List ℕ = c.args.index.now.variables in
    let writes : List ℕ = c.args.writes.now in
    let from : ℕ = c.args.from in
    let bit : ℕ = c.loop-bit.bit in
    let place : ℕ = from + bit in
    let Q : ℕ → ℕ → Type 0 = λ x k. (n : ℕ) × (slice_get writes (from + k) ≡ Some n) × (slice_index_or variables n 0 ≡ x) in
    let was = c.loop-bit.invariant in
    elim c.if-place-writes.branch [
      | then-place-writes w ↦ rw (w.words-is) (
          let at = slice_get-get_or writes place 0 w.if-place-writes.true in
          let variable = w.variable.ensures.variable in
          record {
            size = w.set_bit.ensures.size ∙ was.size;
            marked = λ x k. bit-more (HasBitAt c.loop-bit.words.items x k) (Q x) bit k (was.marked x k) (HasBitAt w.set_bit.new.words.items x k)
                (x ≡ w.variable.result) (w.set_bit.ensures.set x k) (
                  (λ same. (slice_index_or writes place 0, at, sym variable ∙ sym same)),
                  λ (n, at_n, is).
                      sym is ∙ ap (λ (m : ℕ). slice_index_or variables m 0) (same_Some _ _ (sym at_n ∙ at)) ∙ sym variable,
                );
          })
      | else-place-writes w ↦ rw (w.words-is) (record {
        size = was.size;
        marked = λ x k. bit-same (HasBitAt c.loop-bit.words.items x k) (Q x) bit k (was.marked x k) (λ (n, at_n, is).
            let within = slice_get_within writes place n at_n in let past = w.if-place-writes.false in omega arith);
      })
    ]

pub returns-clause-words : goal.returns-clause-words
returns-clause-words c k x below =
    let h = c.args.index.now.history in
    let variables : List ℕ = c.args.index.now.variables in
    let end : c.loop-bit.bit ≡ 128 = grind arith in
    let now = c.loop-bit.invariant.marked x k in (
      (λ had.
          let both = now.0 had in
          let n : ℕ = both.1.0 in
          let w = c.requires.only (c.args.from + k) n both.1.1 in
          (w.0, (w.1, both.1.1 ∙ ap (λ (m : ℕ). Some m) (sym w.2)), ap (λ (m : ℕ). slice_index_or variables m 0) w.2 ∙ both.1.2)),
      λ some. now.1 (omega arith, (number h some.0, some.1.1, some.2)),
    )
