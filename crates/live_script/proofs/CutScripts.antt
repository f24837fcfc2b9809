-- The parts of a script are seen in its value where the steps are left out.
use Rattle.std.proofs.Common.{◌≡◌, ℕ, List, [], ◌∷◌, Bool, true, false, Option, Some, None, refl, ap₂, ◌∙◌}
use Rattle.std.specs.Prelude.{is_some, option_and_then, option_map, if◌then◌else◌}
use Rattle.serde_json.specs.Data.{Data, null, boolean, number, string, array, object, no_items, item}
use Rattle.serde_json.specs.Find.{as_str}
use Rattle.json_bounded.specs.Cut.{cut}
use Rattle.json_bounded.proofs.CutLaws.{alone, kept}
use Rattle.json_histories.specs.Json.{elements, whole_number}
use Rattle.json_histories.specs.declared.history_place.HistoryPlace.TheVariants as histories
use Rattle.live_script.specs.declared.script_place.ScriptPlace.{ScriptPlace}
use Rattle.live_script.specs.declared.script_place.ScriptPlace.TheVariants.{Whole, Start, Scalar}
use Rattle.live_script.specs.Kept.{AreWholeStarts}
use Rattle.live_script.specs.Places.{inside_of, limit_of}
use Rattle.live_script.specs.ScriptForm.{Parts}
use Rattle.live_script.specs.Steps.ScriptParts.{named_parts, parts_at}
use Rattle.live_script.specs.Steps.ScriptsRead.{rest_seen}

abbrev pub cut_at : ScriptPlace → Data → Data
cut_at = cut limit_of inside_of

abbrev pub parts_seen : Parts → Parts
parts_seen p = record { name = p.name; sessions = p.sessions; steps = []; rest = rest_seen p.rest }

text_same : (d : Data) → as_str (cut_at Scalar d) ≡ as_str d
text_same null = refl
text_same (boolean b) = refl
text_same (number n) = refl
text_same (string s) = refl
text_same (array ds) = refl
text_same (object ms) = refl

number_same : (d : Data) → whole_number (cut_at Scalar d) ≡ whole_number d
number_same null = refl
number_same (boolean b) = refl
number_same (number n) = refl
number_same (string s) = refl
number_same (array ds) = refl
number_same (object ms) = refl

abbrev no_steps : List Data → List Data
no_steps ds = []

steps_cut : (d : Data) → elements (cut_at Scalar d) ≡ option_map no_steps (elements d)
steps_cut null = refl
steps_cut (boolean b) = refl
steps_cut (number n) = refl
steps_cut (string s) = refl
steps_cut (array no_items) = refl
steps_cut (array (item d ds)) = refl
steps_cut (object ms) = refl

start_is_list : (d : Data) → is_some (elements (cut_at (Start histories.Start) d)) ≡ is_some (elements d)
start_is_list null = refl
start_is_list (boolean b) = refl
start_is_list (number n) = refl
start_is_list (string s) = refl
start_is_list (array ds) = refl
start_is_list (object ms) = refl

module _ (rest : List Data) where
  abbrev parts_from : Option (List ℕ) → Option ℕ → Option (List Data) → List Data → Option Parts
  parts_from name sessions steps after =
      option_and_then (λ (n : List ℕ).
      option_and_then (λ (k : ℕ). option_map (λ (ss : List Data). record { name = n; sessions = k; steps = ss; rest = after }) steps) sessions) name

  all_seen : (name : Option (List ℕ)) (sessions : Option ℕ) (steps : Option (List Data))
      → parts_from name sessions (option_map no_steps steps) (rest_seen rest) ≡ option_map parts_seen (parts_from name sessions steps rest)
  all_seen None sessions steps = refl
  all_seen (Some n) None steps = refl
  all_seen (Some n) (Some k) None = refl
  all_seen (Some n) (Some k) (Some ss) = refl

  named_seen : (n k ss : Data) → named_parts (cut_at Scalar n) (cut_at Scalar k) (cut_at Scalar ss) (rest_seen rest) ≡ option_map parts_seen (named_parts n k ss rest)
  named_seen n k ss =
      (λ i. parts_from (text_same n i) (number_same k i) (steps_cut ss i) (rest_seen rest)) ∙ all_seen (as_str n) (whole_number k) (elements ss)

if_so : (b : Bool) (o : Option Parts) → (if b then option_map parts_seen o else None) ≡ option_map parts_seen (if b then o else None)
if_so true o = refl
if_so false o = refl

pub parts_cut : (d : Data) → parts_at (cut_at Whole d) ≡ option_map parts_seen (parts_at d)
parts_cut null = refl
parts_cut (boolean b) = refl
parts_cut (number n) = refl
parts_cut (string s) = refl
parts_cut (array no_items) = refl
parts_cut (array (item n no_items)) = refl
parts_cut (array (item n (item k no_items))) = refl
parts_cut (array (item n (item k (item ss no_items)))) = named_seen [] n k ss
parts_cut (array (item n (item k (item ss (item t no_items))))) =
    ap₂ (λ (b : Bool) (o : Option Parts). if b then o else None) (start_is_list t) (named_seen (t ∷ []) n k ss) ∙ if_so (is_some (elements t)) (named_parts n k ss (t ∷ []))
parts_cut (array (item n (item k (item ss (item t (item d ds)))))) = refl
parts_cut (object ms) = refl

-- ---- the values after the steps

-- of what is kept whole nothing is cut off, and nothing else is cut to it
pub start_kept : (form : List Data) → AreWholeStarts form → rest_seen form ≡ form
start_kept [] whole = refl
start_kept (d ∷ ds) whole = ap₂ (λ (e : Data) (es : List Data). e ∷ es) (kept limit_of inside_of (Start histories.Start) d whole.0) (start_kept ds whole.1)

pub start_alone : (rest form : List Data) → AreWholeStarts form → rest_seen rest ≡ form → rest ≡ form
start_alone [] form whole same = same
start_alone (d ∷ ds) [] whole same = absurd cc
start_alone (d ∷ ds) (e ∷ es) whole same =
    let first : cut_at (Start histories.Start) d ≡ e = cc in
    let others : rest_seen ds ≡ es = cc in
    ap₂ (λ (x : Data) (xs : List Data). x ∷ xs) (alone limit_of inside_of (Start histories.Start) d e whole.0 first) (start_alone ds es whole.1 others)
