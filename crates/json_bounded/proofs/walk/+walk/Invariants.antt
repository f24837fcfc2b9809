use Rattle.std.proofs.Common.{◌+◌, ◌*◌, length}
use Rattle.json_bounded.proofs.Walking.{IsPassing, IsPassingMembers}
use Rattle.json_bounded.proofs.walk.+walk.Given as goal

abbrev pub decreases-walk : goal.decreases-walk
decreases-walk l = 2 * l.depth

abbrev pub decreases-walk_items : goal.decreases-walk_items
decreases-walk_items l = 2 * l.depth + 1

abbrev pub decreases-walk_members : goal.decreases-walk_members
decreases-walk_members l = 2 * l.depth + 1

abbrev pub invariant-walk_items-items : goal.invariant-walk_items-items
invariant-walk_items-items l = IsPassing l.depth l.initial.reader l.reader

abbrev pub decreases-walk_items-items : goal.decreases-walk_items-items
decreases-walk_items-items l = length l.reader

abbrev pub invariant-walk_members-members : goal.invariant-walk_members-members
invariant-walk_members-members l = IsPassingMembers l.depth l.initial.reader l.reader

abbrev pub decreases-walk_members-members : goal.decreases-walk_members-members
decreases-walk_members-members l = length l.reader
