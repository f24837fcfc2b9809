-- The entries of a table, read one after the other.
use Rattle.std.proofs.Common.{◌≡◌, ℕ, ◌+◌, List, [], ◌∷◌, ◌++◌, drop, true, false, Option, Some, None, ap, ◌∙◌}
use Rattle.std.specs.Prelude.{slice_get, option_map}
use Rattle.serde_json.specs.Data.{Data}
use Rattle.json_histories.proofs.ListLaws.{rest_from, then_more}
use Rattle.json_histories.specs.Spelling.{is_above, entry_at, entries_at}

module _ {S : Type 0} (start_at : Data → Option S) where
  -- what all of these read as is the table so far, and behind it what the rest reads as
  abbrev pub ReadsOn : List Data → List (ℕ × S) → Option ℕ → ℕ → Type 0
  ReadsOn ds table before i =
      entries_at start_at None ds ≡ option_map (λ es. table ++ es) (entries_at start_at before (drop i ds))

  module _ (ds : List Data) (table : List (ℕ × S)) (before : Option ℕ) (i : ℕ) (d : Data)
      (so_far : ReadsOn ds table before i) (here : slice_get ds i ≡ Some d) where
    on_here : entries_at start_at None ds ≡ option_map (λ es. table ++ es) (entries_at start_at before (d ∷ drop (i + 1) ds))
    on_here = so_far ∙ ap (λ rest. option_map (λ es. table ++ es) (entries_at start_at before rest)) (rest_from ds i d here)

    pub no_entry : entry_at start_at d ≡ None → entries_at start_at None ds ≡ None
    no_entry bad = rw bad at on_here

    pub not_above : (e : ℕ × S) → entry_at start_at d ≡ Some e → is_above before e.0 ≡ false → entries_at start_at None ds ≡ None
    not_above e read low = let h = rw read at on_here in rw low at h

    pub reads_on : (e : ℕ × S) → entry_at start_at d ≡ Some e → is_above before e.0 ≡ true → ReadsOn ds (table ++ e ∷ []) (Some e.0) (i + 1)
    reads_on e read high =
        let h = rw read at on_here in
        let k = rw high at h in
        k ∙ then_more table e (entries_at start_at (Some e.0) (drop (i + 1) ds))
