use Rattle.std.proofs.Common.{◌≡◌, ◌-◌, ℕ, arith, sym, length, get_or, List, ap, ◌∙◌}
use Rattle.std.proofs.lemmas.List.{length-replicate}
use Rattle.order_causal.specs.Orders.{op}
use Rattle.order_causal.specs.Vectors.{count}
use Rattle.order_causal.proofs.PushedLaws.{listed-length}
use Rattle.order_memory.proofs.NextVector.{first-raised, first-zeros, both-raised, one-raised}
use Rattle.order_memory.proofs.placing.vector_of.Goals as goal
use Rattle.order_memory.proofs.placing.vector_of.Goals.{then-op-gt0, else-op-gt0, in-Some, in_default}

pub raise-requires : goal.raise-requires
raise-requires c =
    let zeros = c.in_ok-row.ensures.items_if_clones_equal (λ y same. same) in
    let len = ap (λ (xs : List ℕ). length xs) zeros ∙ length-replicate c.sessions.result 0 in
    let before = c.requires.counts (op c.args.op.session (c.args.op.index - 1)) (omega arith) in
    let read = ap (λ (xs : List ℕ). length xs) c.get.ensures in
    len ∙ c.sessions.ensures ∙ sym (read ∙ before)

pub get-requires-in-Some-clause-session : goal.get-requires-in-Some-clause-session
get-requires-in-Some-clause-session c =
    listed-length c.args.vectors.now c.in-Some.source.session c.in-Some.source.index (c.requires.source c.in-Some.source c.in-Some.is)

pub returns-clause-others : goal.returns-clause-others
returns-clause-others c =
    let zeros = c.in_ok-row.ensures.items_if_clones_equal (λ y same. same) in
    let first : (s : ℕ) → get_or c.if-op-gt0.row.items s 0 ≡ count c.args.vectors.now (op c.args.op.session (c.args.op.index - 1)) s = elim c.if-op-gt0.branch [
      | then-op-gt0 w ↦ rw w.row-is
          (first-raised c.args.vectors.now c.args.op.session c.args.op.index _ _ _ c.sessions.result zeros w.get.ensures w.raise.ensures.larger)
      | else-op-gt0 w ↦ rw w.row-is
          (first-zeros c.args.vectors.now c.args.op.session c.args.op.index _ c.sessions.result zeros c.requires.next w.if-op-gt0.false)
    ] in
    elim c.match-source.branch [
      | in-Some w ↦ rw w.row-is (rw c.session_place.ensures
          (both-raised c.args.vectors.now c.args.op.session c.args.op.index _ first c.args.source _ w.in-Some.source _ _ w.in-Some.is w.get-in-Some.ensures w.raise-in-Some.ensures.larger))
      | in_default w ↦ rw c.session_place.ensures
          (one-raised c.args.vectors.now c.args.op.session c.args.op.index _ first c.args.source _ _ w.in_default.is (ap (λ v. v.items) w.row-is))
    ]
