-- JSON lists and the lists of their elements.
use Rattle.std.proofs.Common.{◌≡◌, Vec, Global, List, map, Some, ap, ◌∙◌}
use Rattle.serde_json.specs.Data.{Data, null, boolean, number, string, array, object}
use Rattle.serde_json.specs.Find.{as_array}
use Rattle.serde_json.specs.View.{view, items_of}
use Rattle.serde_json.specs.declared.value.Value.{Value, Array}
use Rattle.serde_json.proofs.Views.{view-Array}
use Rattle.json_histories.specs.Json.{list, listed, elements}
pub use Rattle.json_histories.specs.Laws.Json.{listed-items_of, items_of-listed, elements-list, list_from_elements}

pub elements_from_array : (d : Data) (ds : List Data) → as_array d ≡ Some (items_of ds) → elements d ≡ Some ds
elements_from_array null ds e = absurd cc
elements_from_array (boolean b) ds e = absurd cc
elements_from_array (number n) ds e = absurd cc
elements_from_array (string s) ds e = absurd cc
elements_from_array (array es) ds e = let h : es ≡ items_of ds = cc in ap (λ (x : List Data). Some x) (ap listed h ∙ listed-items_of ds)
elements_from_array (object ms) ds e = absurd cc

-- the list of values that represent these
pub view_list : (v : Vec Value Global) (ds : List Data) → map view v.items ≡ ds → view (Array v) ≡ list ds
view_list v ds e = view-Array v ∙ ap list e
