-- What a value that is no list represents.
use Rattle.std.proofs.Common.{◌≡◌, List, [], Bool, BTreeMap, String, Global, string_bytes, ap, ◌∙◌, rules}
use Rattle.serde_json.specs.Data.{null, boolean, number, string, object, no_members}
use Rattle.serde_json.specs.View.{members_view, number_view, view}
use Rattle.serde_json.specs.declared.number.Number.{Number}
use Rattle.serde_json.specs.declared.value.Value as values
use Rattle.serde_json.specs.declared.value.Value.{the_lemmas}
use Rattle.serde_json.proofs.Views.{Entry, view-Object}

pub view-Null : view values.Null ≡ null
view-Null = search (rules, the_lemmas)

pub view-Bool : (b : Bool) → view (values.Bool b) ≡ boolean b
view-Bool b = search (rules, the_lemmas)

pub view-Number : (n : Number) → view (values.Number n) ≡ number (number_view n)
view-Number n = search (rules, the_lemmas)

pub view-String : (s : String Global) → view (values.String s) ≡ string (string_bytes s)
view-String s = search (rules, the_lemmas)

pub view-empty : (m : BTreeMap (String Global) values.Value) → m.entries ≡ [] → view (values.Object m) ≡ object no_members
view-empty m none = view-Object m ∙ ap (λ (es : List Entry). object (members_view es)) none
