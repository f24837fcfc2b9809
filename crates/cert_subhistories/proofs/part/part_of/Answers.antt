use Rattle.std.proofs.Common.{◌∙◌, arith, map}
use Rattle.std.proofs.lemmas.Grind.{common_steps}
use Rattle.cert_subhistories.proofs.KeptParts.{kept_of_sessions-all, kept_of_sessions-more}
use Rattle.cert_subhistories.proofs.KeptHistories.{made-is_history}
use Rattle.cert_subhistories.proofs.part.part_of.Goals as goal

pub loop-s-preserved : goal.loop-s-preserved
loop-s-preserved g c = grind (arith, common_steps, kept_of_sessions-more (g.K.Keeps.kept c.args.kept.now) c.args.history.now.1 c.loop-s.s (omega arith))

pub of-requires-after_bounds : goal.of-requires-after_bounds
of-requires-after_bounds g c κs within =
    made-is_history (g.K.Keeps.kept c.args.kept.now) c.args.history.now g.O.SeqObject.is_start g.O.SeqObject.matches
    c.in_ok-start.start (map (λ v. v.items) c.loop-s.sessions.items)
    (grind arith)
    (c.loop-s.invariant ∙ kept_of_sessions-all (g.K.Keeps.kept c.args.kept.now) c.args.history.now.1 c.loop-s.s (omega arith))
    c.value_is_history.ensures

pub returns : goal.returns
returns g c = grind (arith, common_steps, kept_of_sessions-all (g.K.Keeps.kept c.args.kept.now) c.args.history.now.1 c.loop-s.s (omega arith))
