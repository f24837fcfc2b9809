use Rattle.std.proofs.Common.{arith}
use Rattle.model_history.specs.History.{IsOp}
use Rattle.order_memory.proofs.Conflicting.{last-up_to, none-up_to, none-found, raised-all, raised-last, raised-other, up_to-session}
use Rattle.order_memory.proofs.MemoryLaws.{write-of_history}
use Rattle.order_memory.specs.Steps.Conflicts.{IsUpToWrite}
use Rattle.order_memory.proofs.conflicts.add_past_writes.Goals as goal
use Rattle.order_memory.proofs.conflicts.add_past_writes.Goals.{in-Some, in_default}

pub add-requires-clause-other : goal.add-requires-clause-other
add-requires-clause-other c =
    let h = c.args.order.now in
    let w = c.in-Some.write in
    let last = rw c.in-Some.is at c.last_write.ensures in
    let is_op : IsOp h w = write-of_history h w c.args.read.now.key last.value last.writes in
    let same = c.requires.alike.operations w.session in
    let again = c.loop-session.invariant.alike.operations w.session in
    omega arith

pub loop-session-preserved : goal.loop-session-preserved
loop-session-preserved c =
    let h = c.args.order.now in
    let x = c.args.read.now.key in
    let r = c.args.read.now.op in
    let t = c.loop-session.session in
    let before = c.loop-session.waits in
    let inv = c.loop-session.invariant in
    elim c.match-last_write.branch [
      | in-Some w ↦
          let last = rw w.in-Some.is at c.last_write.ensures in
          rw w.waits-is (raised-last (IsUpToWrite h x r) c.args.source c.args.waits.now t before inv w.in-Some.write last.session
          (last-up_to h x t r w.in-Some.write last) w.add.new.self w.add.ensures)
      | in_default w ↦ rw w.waits-is (raised-other (IsUpToWrite h x r) c.args.source c.args.waits.now t before inv
          (none-up_to h x t r (none-found h x t r c.last_write.result c.last_write.ensures w.in_default.not-Some)))
    ]

pub returns : goal.returns
returns c =
    let h = c.args.order.now in
    let x = c.args.read.now.key in
    let r = c.args.read.now.op in
    let count = c.sessions-session-end.ensures in
    let ended = c.loop-session-test.false in
    raised-all (IsUpToWrite h x r) c.args.source c.args.waits.now c.loop-session.session c.loop-session.waits
    (λ s i up_to. let inside = up_to-session h x r s i up_to in omega arith) c.loop-session.invariant
