use Rattle.std.specs.Prelude.{◌<◌, ◌≤◌, ℕ, List, slice_index_or}
use Rattle.std.proofs.Common.{ap, sym, subst, ◌∙◌, ⊎_elim, lt-ltb}
use Rattle.std.proofs.lemmas.Bool.{cases_lt}
use Rattle.judge_session_orders.proofs.WriteCounts.{silent-lone, sourced-lone}
use Rattle.judge_session_orders.proofs.lone_sources.asks.Goals as goal

pub returns-in-SourcedRead : goal.returns-in-SourcedRead
returns-in-SourcedRead c unasked o is_op at =
    let h = c.args.index.now.history in
    let variables : List ℕ = c.args.index.now.variables in
    let counts : List ℕ = c.args.counts.now in
    let x : ℕ = c.variable.result in
    let variable = ap (λ (i : ℕ). slice_index_or variables i 0) at ∙ sym c.variable.ensures.variable in
    let few : slice_index_or counts x 0 ≤ 1 = ⊎_elim
    (λ (more : 1 < slice_index_or counts x 0). absurd (unasked (lt-ltb 1 (slice_index_or counts x 0) more)))
    (λ (up_to : slice_index_or counts x 0 ≤ 1). up_to)
    (cases_lt 1 (slice_index_or counts x 0)) in
    sourced-lone h variables c.value_is_indexed.ensures.variables counts c.requires.counts o _ (c.in-SourcedRead.ensures.part o is_op at)
    (subst (λ (y : ℕ). slice_index_or counts y 0 ≤ 1) (sym variable) few)

pub returns-in-Write : goal.returns-in-Write
returns-in-Write c unasked o is_op at =
    silent-lone c.args.index.now.history o c.part.result (c.part.ensures.part o is_op at) c.in-Write.is
