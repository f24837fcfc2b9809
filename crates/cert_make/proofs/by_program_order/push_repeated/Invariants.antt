use Rattle.std.proofs.Common.{◌≡◌, ◌++◌, replicate}
use Rattle.cert_make.proofs.by_program_order.push_repeated.Given as goal

-- the number has been put so many times behind the others
abbrev pub invariant-loop-index : goal.invariant-loop-index
invariant-loop-index l = l.list.items ≡ l.fn.list.items ++ replicate l._index l.number
