use Rattle.std.proofs.Common.{Bool, ℕ, length, take, sym, subst, arith}
use Rattle.std.specs.Prelude.{IsTrue, ◌↔◌, filter}
use Rattle.std.proofs.lemmas.Bool.{both_ways}
use Rattle.std.proofs.lemmas.Result.{IfOk-weaker}
use Rattle.order_causal.proofs.VectorsLaws.{HasListOf-of_history}
use Rattle.cert_check.specs.Certificates.{counted, IsArbitratedPiece}
use Rattle.cert_check.specs.Schedules.{named}
use Rattle.cert_check.specs.Steps.Namings.{AreCountsAt}
use Rattle.cert_check.specs.Steps.Replays.{IsAnsweredAfter}
use Rattle.cert_check.proofs.CutSteps.{arbitrated-tests, arbitrated-within, whole_names}
use Rattle.cert_check.proofs.arbitrated.is_arbitrated_piece.Goals as goal

pub go_behind-place-requires-clause-names : goal.go_behind-place-requires-clause-names
go_behind-place-requires-clause-names g c = λ _ _. whole_names c.args.h.now c.args.list.now c.requires.whole

pub is_answered_there-requires-clause-names : goal.is_answered_there-requires-clause-names
is_answered_there-requires-clause-names g c = λ _ _. whole_names c.args.h.now c.args.list.now c.requires.whole

pub returns-then-not-has_named_all-clause-exact : goal.returns-then-not-has_named_all-clause-exact
returns-then-not-has_named_all-clause-exact g c =
    let good = c.vector_ok.ensures.0 c.if-not-vector_ok.false in
    let reached = c.go_behind-place.ensures in (
      (λ t. absurd cc),
      λ piece. absurd (both_ways c.has_named_all.result c.if-not-has_named_all.true
          (c.has_named_all.ensures.1 (arbitrated-within g.O.SeqObject.answer c.args.h.now c.args.v.now c.args.list.now c.args.op good
          c.go_behind-place.result reached.stands c.go_behind-place.new.self.naming.counts.items reached.counts piece))),
    )

pub returns-clause-exact : goal.returns-clause-exact
returns-clause-exact g c =
    let answer = g.O.SeqObject.answer in
    let h = c.args.h.now in
    let v = c.args.v.now in
    let o = c.args.op in
    let list = c.args.list.now in
    let good = c.vector_ok.ensures.0 c.if-not-vector_ok.false in
    let reached = c.go_behind-place.ensures in
    let place = c.go_behind-place.result in
    IfOk-weaker c.is_answered_there.result
    (λ (yes : Bool). IsTrue yes ↔ IsAnsweredAfter answer h (filter (counted v o) (take place (named list))) o)
    (λ (yes : Bool). IsTrue yes ↔ IsArbitratedPiece answer h v list o)
    (λ yes after.
    let tests = arbitrated-tests answer h v list o good place reached.stands c.go_behind-place.new.self.naming.counts.items reached.counts
    c.has_named_all.result yes c.has_named_all.ensures after in
    ((λ t. tests.0 (c.if-not-has_named_all.false, t)), λ piece. (tests.1 piece).1))
    c.is_answered_there.ensures

pub go_behind-place-requires-clause-named : goal.go_behind-place-requires-clause-named
go_behind-place-requires-clause-named g c = λ _ _.
    let whole = c.requires.whole c.args.op.session in let is_op = c.requires.is_op in omega arith

pub has_named_all-requires : goal.has_named_all-requires
has_named_all-requires g c = HasListOf-of_history c.args.h.now c.args.v.now c.args.op c.requires.shape.one_each c.requires.is_op

pub is_answered_there-requires-clause-counts : goal.is_answered_there-requires-clause-counts
is_answered_there-requires-clause-counts g c = λ _ _. c.go_behind-place.ensures.counts

pub returns-clause-counts : goal.returns-clause-counts
returns-clause-counts g c =
    subst (λ (n : ℕ). AreCountsAt c.args.list.now n (length c.args.h.now.1) c.go_behind-place.new.self.naming.counts.items)
    (sym c.go_behind-place.ensures.place) c.go_behind-place.ensures.counts

pub returns-then-not-has_named_all-clause-counts : goal.returns-then-not-has_named_all-clause-counts
returns-then-not-has_named_all-clause-counts g c =
    subst (λ (n : ℕ). AreCountsAt c.args.list.now n (length c.args.h.now.1) c.go_behind-place.new.self.naming.counts.items)
    (sym c.go_behind-place.ensures.place) c.go_behind-place.ensures.counts

pub returns-then-not-vector_ok-clause-exact : goal.returns-then-not-vector_ok-clause-exact
returns-then-not-vector_ok-clause-exact g c = (
  (λ e. absurd cc),
  λ piece. absurd (both_ways c.vector_ok.result c.if-not-vector_ok.true (c.vector_ok.ensures.1 piece.vector)),
)
