-- What a search by key finds in entries whose keys rise.
use Rattle.std.specs.Prelude.{◌==◌}
use Rattle.std.proofs.Common.{◌≡◌, ℕ, ◌<◌, ◌+◌, false, List, [], ◌∷◌, length, get_or, cond, Some, None, Equal, Less, Greater, nat_cmp, refl, sym, ◌∙◌, ap, subst, arith, ◌≢◌, ◌≤◌, ◌^◌, ◌++◌, ⊎_elim, length-append, append_assoc, suc, take, take_all}
use Rattle.std.specs.Cmp.{nat_eq_equiv, nat_cmp_total, unsigned_tied, eq_by_cmp_equiv, nat_cmp_is}
use Rattle.std.specs.Ordering.{is_lt, is_eq, eq_by_cmp, ordering_index, ordering_reverse}
use Rattle.std.specs.BTreeMap.{insert_entry, is_at}
use Rattle.std.specs.Map.{lookup, keys_of}
use Rattle.std.specs.List.{slice_get, HoldsAt, IsDistinct, All}
use Rattle.std.specs.List.Sorted.{IsStrictlySortedBy, IsPartitionPoint, IsNonDecreasingBy, IsStrictlyIncreasing}
use Rattle.std.proofs.lemmas.Bool.{eqb-true, cases_lt}
use Rattle.std.proofs.lemmas.List.{append-nil, get_or-map, get_or_append_left, map-append, take_more}
use Rattle.std.proofs.lemmas.List.Elements.{All-nil, All-cons, All-append, All-get_or}
use Rattle.std.proofs.Math.Seq.{get_or-append_seam}
use Rattle.std.proofs.lemmas.List.Sorted.{searchable_from_sorted}
use Rattle.std.proofs.lemmas.Option.{slice_get-get_or, get_or_from_slice_get, slice_get_within}
use Rattle.std.proofs.lemmas.Map.Entries.{All-lookup, lookup_from_place, lookup_at_gap, length-keys_of, place_from_lookup}
use Rattle.std.proofs.lemmas.Map.Keys.{sorted_from_strictly_increasing, sorted_tail, IsDistinct-from_sorted, Less-from_sorted}
use Rattle.model_objects.specs.Table.{IsRising, IsTable, value_at}
use Rattle.model_objects.specs.declared.table.TheConstants.{MAX_ENTRIES}
use Rattle.model_objects.specs.Laws.Keyed.{empty_is_table}

-- comparisons of numbers, by the order that they decide
equal_keys : (a b : ℕ) → nat_cmp a b ≡ Equal → a ≡ b
equal_keys a b e = eqb-true a b (sym (unsigned_tied a b) ∙ ap is_eq e)

turned_less : (a b : ℕ) → nat_cmp a b ≡ Less → nat_cmp b a ≡ Greater
turned_less a b e = nat_cmp_total.antisymm b a ∙ ap ordering_reverse e

turned_greater : (a b : ℕ) → nat_cmp a b ≡ Greater → nat_cmp b a ≡ Less
turned_greater a b e = nat_cmp_total.antisymm b a ∙ ap ordering_reverse e

not_less : (a b : ℕ) → b < a → is_lt (nat_cmp a b) ≡ false
not_less a b above = ap is_lt (sym (nat_cmp_is a b Greater above))

module _ {X : Type 0} where
  -- a map by order finds at a key what `value_at` says
  pub value_at-by_cmp : (entries : List (ℕ × X)) (key : ℕ) → lookup (is_at (nat_cmp key)) entries ≡ value_at entries key
  value_at-by_cmp [] key = refl
  value_at-by_cmp (e ∷ entries) key =
      let test : is_at (nat_cmp key) e.0 ≡ (e.0 == key) = unsigned_tied key e.0 ∙ nat_eq_equiv.symm key e.0 in
      λ i. cond (test i) (Some e.1) (value_at-by_cmp entries key i)

  sorted : (entries : List (ℕ × X)) → IsRising entries → IsStrictlySortedBy nat_cmp (keys_of entries)
  sorted entries rising = sorted_from_strictly_increasing (keys_of entries) rising

  -- the keys compare with another key in rising order
  searchable : (entries : List (ℕ × X)) (key : ℕ) → IsRising entries → IsNonDecreasingBy (λ y. ordering_index (nat_cmp y.0 key)) entries
  searchable entries key rising = searchable_from_sorted nat_cmp_total (λ e. e.0) entries key (λ k d low within.
      let lower : k < length entries = omega arith in
      let here : get_or (keys_of entries) k 0 ≡ (get_or entries k d).0 = get_or-map (λ e. e.0) entries k d 0 lower in
      let next : get_or (keys_of entries) (k + 1) 0 ≡ (get_or entries (k + 1) d).0 = get_or-map (λ e. e.0) entries (k + 1) d 0 within in
      let many : k + 1 < length (keys_of entries) = rw (length-keys_of entries) within in
      let rises : get_or (keys_of entries) k 0 < get_or (keys_of entries) (k + 1) 0 = rising k many in
      not_less (get_or entries (k + 1) d).0 (get_or entries k d).0 (omega arith))

  -- the entry at a place is what its key finds
  pub value_at-place : (entries : List (ℕ × X)) (key i : ℕ) (e : ℕ × X) → IsRising entries → i < length entries
      → HoldsAt (λ y. nat_cmp y.0 key ≡ Equal) entries i → e ≡ get_or entries i e → Some e.1 ≡ value_at entries key
  value_at-place entries key i e rising within equal is =
      let key_is : e.0 ≡ key = equal_keys e.0 key (subst (λ (y : ℕ × X). nat_cmp y.0 key ≡ Equal) (sym is) (equal e)) in
      let stands : slice_get entries i ≡ Some (e.0, e.1) = slice_get-get_or entries i e within ∙ ap Some (sym is) in
      let distinct : IsDistinct (eq_by_cmp nat_cmp) (keys_of entries) = IsDistinct-from_sorted nat_cmp (keys_of entries) (sorted entries rising) in
      let found : lookup (is_at (nat_cmp e.0)) entries ≡ Some e.1 = lookup_from_place (eq_by_cmp_equiv nat_cmp_total) entries i e.0 e.1 distinct stands in
      sym found ∙ value_at-by_cmp entries e.0 ∙ ap (value_at entries) key_is

  -- a search that ends between the lower and the higher keys
  pub value_at-gap : (entries : List (ℕ × X)) (key i : ℕ) → IsRising entries
      → (IsNonDecreasingBy (λ y. ordering_index (nat_cmp y.0 key)) entries → IsPartitionPoint (λ y. nat_cmp y.0 key ≡ Less) (λ y. nat_cmp y.0 key ≡ Greater) entries i)
      → None ≡ value_at entries key
  value_at-gap entries key i rising split =
      let parts = split (searchable entries key rising) in
      let below : (j : ℕ) (e : ℕ × X) → j < i → slice_get entries j ≡ Some e → nat_cmp key e.0 ≡ Greater =
      (λ j e lower is. turned_less e.0 key (rw (get_or_from_slice_get entries j e e is) at (parts.0 j e (omega arith) lower))) in
      let above : (e : ℕ × X) → slice_get entries i ≡ Some e → nat_cmp key e.0 ≡ Less =
      (λ e is. turned_greater e.0 key (rw (get_or_from_slice_get entries i e e is) at (parts.1 i e (omega arith) (slice_get_within entries i e is)))) in
      sym (lookup_at_gap nat_cmp_total key entries i (sorted entries rising) below above) ∙ value_at-by_cmp entries key

-- one number more, above the last
increasing_more : (ks : List ℕ) (k : ℕ) → IsStrictlyIncreasing ks → ((i : ℕ) → i + 1 ≡ length ks → get_or ks i 0 < k)
    → IsStrictlyIncreasing (ks ++ k ∷ [])
increasing_more ks k rising above i within =
    let size : length (ks ++ k ∷ []) ≡ length ks + 1 = length-append ks (k ∷ []) in
    let here : get_or (ks ++ k ∷ []) i 0 ≡ get_or ks i 0 = get_or_append_left ks (k ∷ []) 0 i (omega arith) in
    ⊎_elim
    (λ (inner : i + 1 < length ks).
    let next : get_or (ks ++ k ∷ []) (i + 1) 0 ≡ get_or ks (i + 1) 0 = get_or_append_left ks (k ∷ []) 0 (i + 1) inner in
    let rises : get_or ks i 0 < get_or ks (i + 1) 0 = rising i inner in
    omega arith)
    (λ (last : length ks ≤ i + 1).
    let at_end : i + 1 ≡ length ks = omega arith in
    let next : get_or (ks ++ k ∷ []) (i + 1) 0 ≡ k = rw at_end (get_or-append_seam ks k [] 0) in
    let rises : get_or ks i 0 < k = above i at_end in
    omega arith)
    (cases_lt (i + 1) (length ks))

All-more : {X : Type 0} (P : X → Type 0) (xs : List X) (x : X) → All P xs → P x → All P (xs ++ x ∷ [])
All-more P xs x all one = All-append P xs (x ∷ []) all (All-cons P x [] one (All-nil P))

-- a table with one entry more, above the last key
pub pushed_is_table : {S : Type 0} (plain : S) (is_start : S → Type 0) (table : List (ℕ × S)) (key : ℕ) (start : S)
    → IsTable plain is_start table → length table < MAX_ENTRIES → key < 2 ^ 32
    → ((i : ℕ) → i + 1 ≡ length table → get_or (keys_of table) i 0 < key)
    → start ≢ plain → is_start start
    → IsTable plain is_start (table ++ (key, start) ∷ [])
pushed_is_table {S} plain is_start table key start is few fits above other good = record {
  rising = rw (map-append (λ (e : ℕ × S). e.0) table ((key, start) ∷ []))
      (increasing_more (keys_of table) key is.rising (λ i last. above i (last ∙ length-keys_of table)));
  short = let size : length (table ++ (key, start) ∷ []) ≡ length table + 1 = length-append table ((key, start) ∷ []) in omega arith;
  small = All-more (λ e. e.0 < 2 ^ 32) table (key, start) is.small fits;
  not_plain = All-more (λ e. e.1 ≢ plain) table (key, start) is.not_plain other;
  each_start = All-more (λ e. is_start e.1) table (key, start) is.each_start good;
}

-- a key of a table
key_fits : {S : Type 0} (table : List (ℕ × S)) (key : ℕ) (start : S) → All (λ e. e.0 < 2 ^ 32) table → value_at table key ≡ Some start
    → key < 2 ^ 32
key_fits {S} table key start small here =
    let found = place_from_lookup (λ k. k == key) table start here in
    let entry : ℕ × S = (found.1, start) in
    let within = slice_get_within table found.0 entry found.2 in
    let fits = All-get_or (λ (e : ℕ × S). e.0 < 2 ^ 32) table found.0 entry within small in
    subst (λ k. k < 2 ^ 32) (eqb-true found.1 key found.3) (rw (get_or_from_slice_get table found.0 entry entry found.2) at fits)

-- a table with one entry of another
pub entry_is_table : {S : Type 0} (plain : S) (is_start : S → Type 0) (table : List (ℕ × S)) (key : ℕ) (start : S)
    → IsTable plain is_start table → value_at table key ≡ Some start → IsTable plain is_start ([] ++ (key, start) ∷ [])
entry_is_table plain is_start table key start is here =
    let other = All-lookup (λ s. s ≢ plain) (λ k. k == key) table is.not_plain in
    let good = All-lookup is_start (λ k. k == key) table is.each_start in
    pushed_is_table plain is_start [] key start (empty_is_table plain is_start) (omega arith) (key_fits table key start is.small here) (λ i last. absurd (omega arith))
    (rw here at other) (rw here at good)

-- an entry whose key stands above those before it goes behind them
pub insert_entry-last : {X : Type 0} (es rest : List (ℕ × X)) (k : ℕ) (v : X) → IsStrictlySortedBy nat_cmp (keys_of (es ++ (k, v) ∷ rest))
    → insert_entry nat_cmp es k v ≡ es ++ (k, v) ∷ []
insert_entry-last [] rest k v rising = refl
insert_entry-last {X} (e ∷ es) rest k v rising =
    let keys : keys_of (es ++ (k, v) ∷ rest) ≡ keys_of es ++ k ∷ keys_of rest = map-append (λ (x : ℕ × X). x.0) es ((k, v) ∷ rest) in
    let seam : get_or (keys_of es ++ k ∷ keys_of rest) (length (keys_of es)) 0 ≡ k = get_or-append_seam (keys_of es) k (keys_of rest) 0 in
    let size : length (keys_of es ++ k ∷ keys_of rest) ≡ length (keys_of es) + length (k ∷ keys_of rest) = length-append (keys_of es) (k ∷ keys_of rest) in
    let above : IsStrictlySortedBy nat_cmp (e.0 ∷ (keys_of es ++ k ∷ keys_of rest)) = subst (λ (ks : List ℕ). IsStrictlySortedBy nat_cmp (e.0 ∷ ks)) keys rising in
    let less : nat_cmp e.0 (get_or (keys_of es ++ k ∷ keys_of rest) (length (keys_of es)) 0) ≡ Less =
    Less-from_sorted nat_cmp (e.0 ∷ (keys_of es ++ k ∷ keys_of rest)) 0 (suc (length (keys_of es))) 0 above (omega arith) (omega arith) in
    let greater : nat_cmp k e.0 ≡ Greater = turned_less e.0 k (ap (λ (m : ℕ). nat_cmp e.0 m) (sym seam) ∙ less) in
    rw greater (ap (λ (l : List (ℕ × X)). e ∷ l) (insert_entry-last es rest k v (sorted_tail nat_cmp e.0 (keys_of (es ++ (k, v) ∷ rest)) rising)))

-- entries taken from the front of a map's list go behind those that were taken before
pub entries_more : {X : Type 0} (all es es' left left' : List (ℕ × X)) (k : ℕ) (v w : X) → IsStrictlySortedBy nat_cmp (keys_of all) → es ++ left ≡ all
    → left ≡ (k, v) ∷ left' → w ≡ v → es' ≡ insert_entry nat_cmp es k w → es' ++ left' ≡ all
entries_more {X} all es es' left left' k v w rising so_far next same inserted =
    let whole : es ++ (k, v) ∷ left' ≡ all = ap (λ (l : List (ℕ × X)). es ++ l) (sym next) ∙ so_far in
    let behind : es' ≡ es ++ (k, v) ∷ [] = inserted ∙ ap (λ (x : X). insert_entry nat_cmp es k x) same
    ∙ insert_entry-last es left' k v (subst (λ (l : List (ℕ × X)). IsStrictlySortedBy nat_cmp (keys_of l)) (sym whole) rising) in
    ap (λ (l : List (ℕ × X)). l ++ left') behind ∙ append_assoc es ((k, v) ∷ []) left' ∙ whole

-- the copies of a table's entries, with one more
pub copied_more : {X : Type 0} (all items copy copy' : List (ℕ × X)) (i : ℕ) (item : ℕ × X) (v : X) → items ≡ all → copy ≡ take i all → i < length items
    → item ≡ get_or items i item → v ≡ item.1 → copy' ≡ copy ++ (item.0, v) ∷ [] → copy' ≡ take (i + 1) all
copied_more {X} all items copy copy' i item v same so_far below is value pushed =
    pushed ∙ ap (λ (es : List (ℕ × X)). es ++ (item.0, v) ∷ []) so_far ∙ ap (λ (w : X). take i all ++ (item.0, w) ∷ []) value
    ∙ ap (λ (e : ℕ × X). take i all ++ e ∷ []) (is ∙ ap (λ (es : List (ℕ × X)). get_or es i item) same)
    ∙ sym (take_more all i item (subst (λ (es : List (ℕ × X)). i < length es) same below))

-- all entries are copied
pub copied_all : {X : Type 0} (all items copy : List (ℕ × X)) (i : ℕ) → items ≡ all → copy ≡ take i all → length items ≤ i → copy ≡ all
copied_all {X} all items copy i same so_far ended =
    so_far ∙ take_all i all (subst (λ (es : List (ℕ × X)). length es ≤ i) same ended)

-- the copies with none left
pub copies_all : {S X : Type 0} (value : S × List (ℕ × X)) (start inside : S) (es left inner : List (ℕ × X)) → (inside, inner) ≡ value → start ≡ inside
    → es ++ left ≡ value.1 → left ≡ [] → (start, es) ≡ value
copies_all {S} {X} value start inside es left inner view same so_far none =
    let entries : es ≡ value.1 = sym (append-nil es) ∙ ap (λ (l : List (ℕ × X)). es ++ l) (sym none) ∙ so_far in
    ap (λ (l : List (ℕ × X)). (start, l)) entries ∙ ap (λ (s : S). (s, value.1)) (same ∙ ap (λ (v : S × List (ℕ × X)). v.0) view)
