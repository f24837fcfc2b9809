use Rattle.std.proofs.Common.{arith}
use Rattle.order_memory.proofs.last_writes.end_of_writes.Goals as goal

pub overflow_cast-result : goal.overflow_cast-result
overflow_cast-result c =
    let last = rw c.from.ensures at (rw c.at-end.ensures at c.in-Some.ensures.last) in
    let below = (last c.in-Some.last.index).0 (omega arith) in
    let from = below.2 in
    let up_to = below.3 in
    omega arith

pub overflow_add-result : goal.overflow_add-result
overflow_add-result c =
    let last = rw c.from.ensures at (rw c.at-end.ensures at c.in-Some.ensures.last) in
    let below = (last c.in-Some.last.index).0 (omega arith) in
    let from = below.2 in
    let up_to = below.3 in
    omega arith

pub returns-in-Some : goal.returns-in-Some
returns-in-Some c = rw c.from.ensures at (rw c.at-end.ensures at c.in-Some.ensures.last)

pub returns-in-None : goal.returns-in-None
returns-in-None c = rw c.from.ensures at (rw c.at-end.ensures at c.in-None.ensures.last)
