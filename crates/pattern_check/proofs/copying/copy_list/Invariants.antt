use Rattle.std.proofs.Common.{◌≡◌, take}
use Rattle.pattern_check.proofs.copying.copy_list.Given as goal

-- the copies so far
abbrev pub invariant-loop-item : goal.invariant-loop-item
invariant-loop-item g l = l.copies.items ≡ take l.item-index l.items
