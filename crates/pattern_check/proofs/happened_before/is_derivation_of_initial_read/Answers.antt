use Rattle.std.proofs.Common.{sym, ◌∙◌}
use Rattle.pattern_check.proofs.DerivedEnds.{initial-none, initial-some, initial-apart}
use Rattle.pattern_check.proofs.happened_before.is_derivation_of_initial_read.Goals as goal

pub returns-in_default : goal.returns-in_default
returns-in_default g c =
    let found = rw c.lines.ensures at c.in_ok-pair.ensures in
    initial-none (g.M.KnownMemory.history c.args.h.now) c.args.op c.args.derivation.now (rw c.in_default.is at found)

pub returns-then-is_in_program_past_of : goal.returns-then-is_in_program_past_of
returns-then-is_in_program_past_of g c =
    let found = rw c.lines.ensures at c.in_ok-pair.ensures in
    initial-some (g.M.KnownMemory.history c.args.h.now) c.args.op c.args.derivation.now c.requires c.in-Some.pair (rw c.in-Some.is at found)
    (sym c.is_in_program_past_of.ensures ∙ c.if-is_in_program_past_of.true) c.reads_initial.result c.reads_initial.ensures

pub returns-else-is_in_program_past_of : goal.returns-else-is_in_program_past_of
returns-else-is_in_program_past_of g c =
    let found = rw c.lines.ensures at c.in_ok-pair.ensures in
    let apart = initial-apart (g.M.KnownMemory.history c.args.h.now) c.args.op c.args.derivation.now c.requires c.in-Some.pair (rw c.in-Some.is at found)
    (sym c.is_in_program_past_of.ensures ∙ c.if-is_in_program_past_of.false) in
    rw c.if-is_in_program_past_of.false apart
