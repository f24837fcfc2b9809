use Rattle.std.proofs.Common.{◌≤◌, ◌∙◌, arith, length, sym}
use Rattle.std.proofs.lemmas.Bool.{both_ways}
use Rattle.model_history.specs.History.{session}
use Rattle.order_causal.specs.Vectors.{count}
use Rattle.order_causal.proofs.VectorsLaws.{HasListOf-of_history, vector_ok-made, vector_ok-others}
use Rattle.order_causal.proofs.vectors.vector_ok.Goals as goal
use Rattle.order_causal.proofs.vectors.vector_ok.Goals.{then-counts_itself_last, else-counts_itself_last, then-counts_existing, else-counts_existing}

pub counts_itself_last-requires : goal.counts_itself_last-requires
counts_itself_last-requires g c = HasListOf-of_history c.args.h.now c.args.v.now c.args.op c.requires.shape.one_each c.requires.is_op

pub counts_existing-requires-after_bounds : goal.counts_existing-requires-after_bounds
counts_existing-requires-after_bounds g c = λ _ _. HasListOf-of_history c.args.h.now c.args.v.now c.args.op c.requires.shape.one_each c.requires.is_op

pub counts_with_predecessor-requires : goal.counts_with_predecessor-requires
counts_with_predecessor-requires g c = record { own = HasListOf-of_history c.args.h.now c.args.v.now c.args.op c.requires.shape.one_each c.requires.is_op }

pub counts_with_others-requires-clause-own : goal.counts_with_others-requires-clause-own
counts_with_others-requires-clause-own g c = HasListOf-of_history c.args.h.now c.args.v.now c.args.op c.requires.shape.one_each c.requires.is_op

pub returns-then-counts_with_predecessor : goal.returns-then-counts_with_predecessor
returns-then-counts_with_predecessor g c = elim c.if-counts_existing.branch [
  | then-counts_existing w ↦ elim c.if-counts_itself_last.branch [
    | then-counts_itself_last u ↦ (
      (λ others.
          vector_ok-made c.args.h.now c.args.v.now c.args.op (c.counts_itself_last.ensures.0 u.if-counts_itself_last.true)
          (u.counts_existing.ensures.0 (sym u.value-is ∙ w.if-counts_existing.true))
          (w.counts_with_predecessor.ensures.0 (sym w.value-is ∙ c.if-counts_with_predecessor.true)) (c.counts_with_others.ensures.0 others)),
      λ ok. c.counts_with_others.ensures.1 (vector_ok-others c.args.h.now c.args.v.now c.args.op ok),
    )
    | else-counts_itself_last u ↦ absurd (both_ways c.if-counts_itself_last.value (u.value-is ∙ u.if-counts_itself_last.false) w.if-counts_existing.true)
  ]
  | else-counts_existing w ↦ absurd (both_ways c.if-counts_existing.value (w.value-is ∙ w.if-counts_existing.false) c.if-counts_with_predecessor.true)
]

pub returns-else-counts_with_predecessor : goal.returns-else-counts_with_predecessor
returns-else-counts_with_predecessor g c = (
  (λ is. absurd (both_ways c.if-counts_existing.value c.if-counts_with_predecessor.false is)),
  λ ok. elim c.if-counts_existing.branch [
    | then-counts_existing w ↦ w.value-is ∙ w.counts_with_predecessor.ensures.1 ok.predecessor
    | else-counts_existing w ↦ elim c.if-counts_itself_last.branch [
      | then-counts_itself_last u ↦
          absurd (both_ways c.if-counts_itself_last.value w.if-counts_existing.false (u.value-is ∙ u.counts_existing.ensures.1 ok.existing))
      | else-counts_itself_last u ↦
          absurd (both_ways c.counts_itself_last.result u.if-counts_itself_last.false (c.counts_itself_last.ensures.1 ok.own))
    ]
  ],
)

pub counts_with_others-requires-clause-held : goal.counts_with_others-requires-clause-held
counts_with_others-requires-clause-held g c = elim c.if-counts_existing.branch [
  | then-counts_existing w ↦ elim c.if-counts_itself_last.branch [
    | then-counts_itself_last u ↦ λ s.
        let existing : count c.args.v.now c.args.op s ≤ length (session c.args.h.now s) =
        u.counts_existing.ensures.0 (sym u.value-is ∙ w.if-counts_existing.true) s in
        let same = c.requires.shape.one_each.operations s in
        omega arith
    | else-counts_itself_last u ↦ absurd (both_ways c.if-counts_itself_last.value (u.value-is ∙ u.if-counts_itself_last.false) w.if-counts_existing.true)
  ]
  | else-counts_existing w ↦ absurd (both_ways c.if-counts_existing.value (w.value-is ∙ w.if-counts_existing.false) c.if-counts_with_predecessor.true)
]
