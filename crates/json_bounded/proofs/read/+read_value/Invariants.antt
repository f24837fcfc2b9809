use Rattle.std.proofs.Common.{◌+◌, ◌*◌, length, map}
use Rattle.serde_json.specs.View.{view}
use Rattle.json_bounded.proofs.Keeping.{IsKeeping}
use Rattle.json_bounded.proofs.read.+read_value.Given as goal

abbrev pub decreases-read_value : goal.decreases-read_value
decreases-read_value g l = 2 * l.depth

abbrev pub decreases-read_elements : goal.decreases-read_elements
decreases-read_elements g l = 2 * l.depth + 1

abbrev pub invariant-read_elements-items : goal.invariant-read_elements-items
invariant-read_elements-items g l = IsKeeping g.P.Place.limit g.P.Place.inside l.place l.depth l.initial.reader l.reader (map view l.elements.items)

abbrev pub decreases-read_elements-items : goal.decreases-read_elements-items
decreases-read_elements-items g l = length l.reader
