use Rattle.order_causal.proofs.VectorsLaws.{HasListOf-of_history}
use Rattle.std.proofs.Common.{◌≡◌, List, ℕ, get_or, length, ap, ◌∙◌, sym}
use Rattle.std.proofs.lemmas.Bool.{both_ways}
use Rattle.order_causal.specs.Vectors.{count}
use Rattle.cert_check.proofs.SchedulePieces.{schedule-ends, schedule-from, schedule-named}
use Rattle.cert_check.proofs.scheduled.is_schedule.Goals as goal

pub returns-clause-exact : goal.returns-clause-exact
returns-clause-exact g c =
    let h = c.args.h.now in
    let v = c.args.v.now in
    let o = c.args.op in
    let list = c.args.schedule.now in
    let counts = c.go_on.new.self.counts.items in
    let at = c.go_on.ensures.on c.if-not-go_on.false in
    let vector : (s : ℕ) → get_or c.get.result.now s 0 ≡ count v o s = λ s. ap (λ (xs : List ℕ). get_or xs s 0) c.get.ensures in (
      (λ ended. (
        c.vector_ok.ensures.0 c.if-not-vector_ok.false,
        schedule-from h v o list (c.go_on.ensures.exact.0 c.if-not-go_on.false) (length h.1) counts at (λ s. c.ends_at.ensures.0 ended s ∙ vector s),
      )),
      λ good. c.ends_at.ensures.1 (λ s. schedule-ends h v o list good.1 (length h.1) counts at s ∙ sym (vector s)),
    )

pub returns-then-not-go_on-clause-exact : goal.returns-then-not-go_on-clause-exact
returns-then-not-go_on-clause-exact g c = (
  (λ e. absurd cc),
  λ good. absurd (both_ways c.go_on.result c.if-not-go_on.true (c.go_on.ensures.exact.1 (schedule-named c.args.h.now c.args.v.now c.args.op c.args.schedule.now good.1))),
)

pub get-requires-clause-session : goal.get-requires-clause-session
get-requires-clause-session g c = (HasListOf-of_history c.args.h.now c.args.v.now c.args.op c.requires.shape.one_each c.requires.is_op).session

pub get-requires-clause-index : goal.get-requires-clause-index
get-requires-clause-index g c = (HasListOf-of_history c.args.h.now c.args.v.now c.args.op c.requires.shape.one_each c.requires.is_op).index

pub returns-then-not-vector_ok-clause-exact : goal.returns-then-not-vector_ok-clause-exact
returns-then-not-vector_ok-clause-exact g c = (
  (λ e. absurd cc),
  λ good. absurd (both_ways c.vector_ok.result c.if-not-vector_ok.true (c.vector_ok.ensures.1 good.0)),
)

pub returns-then-not-vector_ok-clause-on : goal.returns-then-not-vector_ok-clause-on
returns-then-not-vector_ok-clause-on g c = λ e. absurd cc

pub returns-then-not-vector_ok-clause-width : goal.returns-then-not-vector_ok-clause-width
returns-then-not-vector_ok-clause-width g c = c.requires.counts.width

pub returns-then-not-go_on-clause-on : goal.returns-then-not-go_on-clause-on
returns-then-not-go_on-clause-on g c = λ e. absurd cc

pub returns-then-not-go_on-clause-width : goal.returns-then-not-go_on-clause-width
returns-then-not-go_on-clause-width g c = c.go_on.ensures.width

pub returns-clause-on : goal.returns-clause-on
returns-clause-on g c = λ _. c.go_on.ensures.on c.if-not-go_on.false

pub returns-clause-width : goal.returns-clause-width
returns-clause-width g c = c.go_on.ensures.width
