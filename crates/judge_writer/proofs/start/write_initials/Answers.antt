use Rattle.std.proofs.Common.{ℕ, get_or, refl, arith}
use Rattle.judge_writer.specs.Steps.{initial_form}
use Rattle.judge_writer.proofs.Written.{all_written, next_written, none_written}
use Rattle.judge_writer.proofs.start.write_initials.Goals as goal

-- what stands in the place of an initial value where there is none
abbrev none : ℕ × ℕ
none = (0, 0)

pub loop-entry-init : goal.loop-entry-init
loop-entry-init c = none_written c.args.out.now

pub loop-entry-preserved : goal.loop-entry-preserved
loop-entry-preserved c =
    let es = c.args.entries.now in
    let i = c.loop-entry.entry-index in
    next_written initial_form es i (get_or es i none) none c.args.out.now c.loop-entry.out c.write_initial.new.out refl c.loop-entry-test.true c.loop-entry.invariant
    c.in_ok-write_initial.ensures

pub returns : goal.returns
returns c = all_written initial_form c.args.entries.now c.loop-entry.entry-index c.args.out.now c.loop-entry.out (omega arith) c.loop-entry.invariant
