use Rattle.std.proofs.Common.{sym, ◌∙◌}
use Rattle.pattern_check.proofs.Distinct.{thin_air-unwritten}
use Rattle.pattern_check.proofs.thin_air.is_thin_air_read.Goals as goal

pub returns-then-value-initial_value : goal.returns-then-value-initial_value
returns-then-value-initial_value c =
    thin_air-unwritten c.args.h.now c.args.writes.now c.requires.writes c.args.op c.in-Some.key c.in-Some.value c.is_written.result
    c.in-Some.ensures (λ same. c.if-value-initial_value.true (same ∙ sym c.initial_value.ensures)) c.is_written.ensures
