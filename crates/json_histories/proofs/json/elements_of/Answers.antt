use Rattle.std.proofs.Common.{◌≡◌, Some, map, sym}
use Rattle.serde_json.specs.Find.{as_array}
use Rattle.serde_json.specs.View.{view, items_of}
use Rattle.json_histories.proofs.JsonLists.{elements_from_array}
use Rattle.json_histories.proofs.json.elements_of.Goals as goal

pub returns-in-Some : goal.returns-in-Some
returns-in-Some c =
    let e : as_array (view c.args.value.now) ≡ Some (items_of (map view c.as_slice.result.now)) = rw c.as_slice.ensures.value (sym c.in-Some.ensures) in
    sym (elements_from_array (view c.args.value.now) (map view c.as_slice.result.now) e)
