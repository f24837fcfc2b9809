use Rattle.std.proofs.Common.{None, get_or, refl, arith}
use Rattle.model_objects.specs.declared.register.RegisterCall.TheVariants.{Write}
use Rattle.judge_writer.specs.Steps.{Entry, operation_form}
use Rattle.judge_writer.proofs.Written.{all_written, next_written, none_written}
use Rattle.judge_writer.proofs.session.write_operations.Goals as goal

-- what stands in the place of an operation where there is none
abbrev none : Entry
none = (record { key = 0; call = Write 0 }, None)

pub loop-entry-init : goal.loop-entry-init
loop-entry-init c = none_written c.args.out.now

pub loop-entry-preserved : goal.loop-entry-preserved
loop-entry-preserved c =
    let es = c.args.entries.now in
    let i = c.loop-entry.entry-index in
    next_written (λ (e : Entry). operation_form e.0 e.1) es i (get_or es i none) none c.args.out.now c.loop-entry.out c.write_operation.new.out refl c.loop-entry-test.true c.loop-entry.invariant
    c.in_ok-write_operation.ensures

pub returns : goal.returns
returns c = all_written (λ (e : Entry). operation_form e.0 e.1) c.args.entries.now c.loop-entry.entry-index c.args.out.now c.loop-entry.out (omega arith) c.loop-entry.invariant
