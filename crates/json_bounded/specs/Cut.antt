-- What is kept of a JSON value: of a list the first elements, or all, and of an object none of its members.
use Rattle.std.specs.Prelude.{ℕ, zero, suc, Option, Some, None}
use Rattle.serde_json.specs.Data.{Data, null, boolean, number, string, array, object, Items, no_items, item, no_members}

module _ {P : Type 0} (limit : P → Option ℕ) (inside : P → ℕ → P) where
  abbrev mutual
    -- a value, as it is kept at a place
    pub cut : P → Data → Data
    cut place null = null
    cut place (boolean b) = boolean b
    cut place (number n) = number n
    cut place (string s) = string s
    cut place (array ds) = array (cut_items place 0 (limit place) ds)
    cut place (object ms) = object no_members

    -- of elements from an index on, so many, or all of them
    pub cut_items : P → ℕ → Option ℕ → Items → Items
    cut_items place index room no_items = no_items
    cut_items place index None (item d ds) = item (cut (inside place index) d) (cut_items place (suc index) None ds)
    cut_items place index (Some zero) (item d ds) = no_items
    cut_items place index (Some (suc room)) (item d ds) = item (cut (inside place index) d) (cut_items place (suc index) (Some room) ds)

  abbrev mutual
    -- nothing of the value is lost, and a longer list would be seen: each list has fewer elements than are kept at its place
    pub IsKept : P → Data → Type 0
    IsKept place null = Unit {0}
    IsKept place (boolean b) = Unit {0}
    IsKept place (number n) = Unit {0}
    IsKept place (string s) = Unit {0}
    IsKept place (array ds) = AreKept place 0 (limit place) ds
    IsKept place (object ms) = ⊥

    -- elements from an index on, fewer than so many, or any number of them
    pub AreKept : P → ℕ → Option ℕ → Items → Type 0
    AreKept place index None no_items = Unit {0}
    AreKept place index None (item d ds) = IsKept (inside place index) d × AreKept place (suc index) None ds
    AreKept place index (Some zero) ds = ⊥
    AreKept place index (Some (suc room)) no_items = Unit {0}
    AreKept place index (Some (suc room)) (item d ds) = IsKept (inside place index) d × AreKept place (suc index) (Some room) ds
