-- The bytes so far were noticed.
use Rattle.std.proofs.Common.{fold, take, ◌≡◌}
use Rattle.app_process.specs.Steps.Noticing.{noticed_byte}
use Rattle.app_process.proofs.noticing.Noticed.see_all.Given as goal

abbrev pub invariant-loop-byte : goal.invariant-loop-byte
invariant-loop-byte l = l.self ≡ fold noticed_byte l.initial.self (take l.byte-index l.bytes)
