use Rattle.std.proofs.Common.{sym, ◌∙◌}
use Rattle.pattern_check.proofs.Distinct.{thin_air-unsourced}
use Rattle.pattern_check.proofs.edges.lacks_source.Goals as goal

pub returns-then-value-initial_value : goal.returns-then-value-initial_value
returns-then-value-initial_value g c =
    thin_air-unsourced (g.M.KnownMemory.history c.args.h.now) c.args.read c.in-Some.key c.in-Some.value c.in-Some.ensures
    (λ same. c.if-value-initial_value.true (same ∙ sym c.initial_value.ensures)) c.source.result c.source.ensures c.is_none.result c.is_none.ensures
