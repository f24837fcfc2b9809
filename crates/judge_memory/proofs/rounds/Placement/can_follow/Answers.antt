use Rattle.std.specs.Prelude.{◌≡◌, ◌⊎◌, ℕ, ◌<◌, true, Some, slice_get}
use Rattle.std.proofs.Common.{arith, sym, subst, inl, ⊎_elim}
use Rattle.std.proofs.lemmas.Bool.{cases_order}
use Rattle.order_memory.specs.Relations.{ReadsFrom}
use Rattle.judge_memory.specs.Steps.{IsListedEdge}
use Rattle.judge_memory.specs.Placements.{IsPassed, next_of}
use Rattle.judge_memory.proofs.Passing.{passed-ready, unpassed-waits}
use Rattle.judge_memory.proofs.rounds.Placement.can_follow.Goals as goal

pub returns-then-not-leads_to-clause-ready : goal.returns-then-not-leads_to-clause-ready
returns-then-not-leads_to-clause-ready c sourced p is_op is a cases =
    let further : (from to : ℕ) → slice_get c.args.edges.now c.args.passed ≡ Some (from, to) → c.args.operation < to =
    λ from to at. ⊎_elim
    (λ (same : to ≡ c.args.operation).
    let leads = c.leads_to.ensures.1 (from, subst (λ (n : ℕ). slice_get c.args.edges.now c.args.passed ≡ Some (from, n)) same at) in
    let no = c.if-not-leads_to.true in
    absurd (let both = rw leads at no in cc))
    (λ (apart : (to < c.args.operation) ⊎ (c.args.operation < to)). ⊎_elim
    (λ (before : to < c.args.operation). absurd (c.requires.stopped from to at (inl before)))
    (λ (behind : c.args.operation < to). behind)
    apart)
    (cases_order to c.args.operation) in
    ⊎_elim
    (λ (source : ReadsFrom c.args.index.now.history a p). c.is_source_placed.ensures.placed sourced a p is_op is source)
    (λ (edge : IsListedEdge c.args.index.now.history c.args.edges.now a p).
    passed-ready c.args.index.now.history c.args.edges.now (next_of c.args.self.now.next.items) c.args.operation c.args.passed
    c.requires.passed c.requires.sorted further a p is edge)
    cases

pub returns-else-not-leads_to-clause-waits : goal.returns-else-not-leads_to-clause-waits
returns-else-not-leads_to-clause-waits c blocked p is_op is =
    let h = c.args.index.now.history in
    let next = next_of c.args.self.now.next.items in
    let leads : c.leads_to.result ≡ true = grind arith in
    let found = c.leads_to.ensures.0 leads in
    unpassed-waits h c.args.edges.now next c.args.passed found.0 p c.requires.from_operations is_op
    (subst (λ (n : ℕ). slice_get c.args.edges.now c.args.passed ≡ Some (found.0, n)) (sym is) found.1)
    (subst (λ (n : ℕ). ¬ IsPassed h next n found.0 n) (sym is) (c.requires.stopped found.0 c.args.operation found.1))
