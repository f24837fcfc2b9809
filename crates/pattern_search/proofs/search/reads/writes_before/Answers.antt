use Rattle.std.proofs.Common.{◌≡◌, ◌≤◌, ◌∙◌, length, arith, subst, sym}
use Rattle.std.proofs.lemmas.Option.{same_Some}
use Rattle.model_history.specs.declared.op_id.OpId.{OpId}
use Rattle.pattern_search.specs.Steps.Routes.{IsCountedBefore}
use Rattle.pattern_search.proofs.KnownBefore.{counted-before}
use Rattle.pattern_search.proofs.ReadPatterns.{pair-more, pair-last, pair-ended}
use Rattle.pattern_search.proofs.search.reads.writes_before.Goals as goal
use Rattle.pattern_search.proofs.search.reads.writes_before.Goals.{in-Some+else-has_before, in_default}

pub loop-session-preserved : goal.loop-session-preserved
loop-session-preserved c = elim c.match-last_write.branch [
  | in-Some+else-has_before w ↦
      pair-last c.args.order.now c.args.read.now c.loop-session.session c.in_ok-source.source w.in-Some.write c.loop-session.invariant
      c.in_ok-source.was w.in-Some.ensures
      (λ before. let yes = w.has_before.ensures.before.1 before in let no = w.if-has_before.false in absurd cc)
  | in_default w ↦ pair-more c.args.order.now c.args.read.now c.loop-session.session c.loop-session.invariant w.in_default.ensures
]

pub returns : goal.returns
returns c =
    let ended : length c.args.order.now.1 ≤ c.loop-session.session = omega arith in
    pair-ended c.args.order.now c.args.read.now c.loop-session.session ended c.loop-session.invariant

pub returns-then-not-is_counted_before : goal.returns-then-not-is_counted_before
returns-then-not-is_counted_before c = λ a b writes.
    let of_source : c.in_ok-source.source ≡ a = same_Some _ _ (sym c.in_ok-source.was ∙ writes.source) in
    let counted = counted-before c.args.order.now c.vectors.result.now c.vectors.ensures c.args.read.now c.requires a b writes in
    let yes = c.is_counted_before.ensures.1 (subst (λ (w : OpId). IsCountedBefore c.vectors.result.now c.args.read.now.op w) (sym of_source) counted) in
    let no = c.if-not-is_counted_before.true in
    absurd cc

pub loop-session-init : goal.loop-session-init
loop-session-init c = λ a b below. absurd (omega arith)
