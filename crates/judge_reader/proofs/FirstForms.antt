-- What reads as a long history that begins a list is its form.
use Rattle.std.proofs.Common.{◌≡◌, ℕ, List, [], ◌∷◌, Option, Some, None, Result, Ok, Err, refl, sym, ap, ◌∙◌}
use Rattle.std.specs.Prelude.{IfOk, IfErr}
use Rattle.std.specs.Str.{IsUtf8}
use Rattle.serde_json.specs.Data.{Data}
use Rattle.json_bounded.specs.Text.{IsJson}
use Rattle.judge_memory.specs.LongHistories.{IsLongHistory}
use Rattle.order_memory.specs.Memory.{MemoryHistory}
use Rattle.json_histories.specs.AnyForm.{form_of}
use Rattle.json_histories.specs.Json.{elements}
use Rattle.json_histories.specs.Reading.{parts_of}
use Rattle.json_histories.specs.declared.any_history.AnyHistory.TheVariants as histories
use Rattle.json_histories.specs.declared.read_error.ReadError.{ReadError}
use Rattle.json_histories.specs.declared.read_error.ReadError.TheVariants as errors
use Rattle.judge_reader.specs.FirstOfList.{BeginsWith, IsRefusedFirst, refusal_of_first}
use Rattle.judge_reader.specs.Steps.Reading.{ArePartsOf, Entry, IsFirstIn, IsJsonList, IsWholeList}
use Rattle.judge_reader.proofs.LongForms.{parts_are_form, parts_are_history, value_not}

-- of the elements of a value the first has these parts, which are those of a history
first_parts : (ds : Option (List Data)) (p : List (ℕ × ℕ) × List (List Entry)) → IsFirstIn ds (Ok p)
    → (d : Data) × (rest : List Data) × (ds ≡ Some (d ∷ rest)) × ArePartsOf (parts_of d) p
first_parts None p is = absurd cc
first_parts (Some []) p is = absurd cc
first_parts (Some (d ∷ rest)) p is = (d, rest, refl, is)

refusal_first : (ds : Option (List Data)) (e : ReadError) → IsFirstIn ds (Err e) → refusal_of_first ds ≡ Some e
refusal_first None e is = let same : e ≡ errors.BadShape = cc in ap Some (sym same)
refusal_first (Some []) e is = let same : e ≡ errors.BadShape = cc in ap Some (sym same)
refusal_first (Some (d ∷ rest)) e is = is

not_json : (ds : Option (List Data)) → refusal_of_first ds ≡ Some errors.NotJson → ⊥
not_json None is = absurd cc
not_json (Some []) is = absurd cc
not_json (Some (d ∷ rest)) is = value_not (parts_of d) is

module _ (text : List ℕ) where
  pub first_is_history : (p : List (ℕ × ℕ) × List (List Entry)) → IsJsonList text p → IsLongHistory p
  first_is_history p of = let first = first_parts (elements of.0) p of.2 in parts_are_history first.0 p first.3

  pub begins_with : (p h : MemoryHistory) → IsJsonList text p → h ≡ p → BeginsWith text h
  begins_with p h of same =
      let first = first_parts (elements of.0) p of.2 in
      let formed : first.0 ≡ form_of (histories.Memory p) = parts_are_form first.0 p first.3 in
      rw same (of.0, first.1, of.1, first.2 ∙ ap (λ (d : Data). Some (d ∷ first.1)) formed)

  refused_for : (d : Data) (e : ReadError) → IsJson text d → refusal_of_first (elements d) ≡ Some e → IsRefusedFirst text e
  refused_for d errors.NotJson json is = absurd (not_json (elements d) is)
  refused_for d errors.BadShape json is = (d, json, is)
  refused_for d errors.UnknownObject json is = (d, json, is)
  refused_for d (errors.BadOp op) json is = (d, json, is)
  refused_for d (errors.ReturnAfterUnknown op) json is = (d, json, is)
  refused_for d errors.TooManySessions json is = (d, json, is)
  refused_for d errors.TooManyOps json is = (d, json, is)
  refused_for d errors.Memory json is = tt
  refused_for d errors.BadInitial json is = (d, json, is)

  module _ (r : Result (List (ℕ × ℕ) × List (List Entry)) ReadError) (utf8 : IsUtf8 text) (whole : IsWholeList text r) where
    pub json_if_read : IfOk r (IsJsonList text)
    json_if_read = of_result r whole
      where
        of_result : (x : Result (List (ℕ × ℕ) × List (List Entry)) ReadError) → IsWholeList text x → IfOk x (IsJsonList text)
        of_result (Ok p) is = (is.0, (utf8, is.1), is.2)
        of_result (Err e) is = tt

    pub refused_if_not : IfErr r (IsRefusedFirst text)
    refused_if_not = of_result r whole
      where
        of_result : (x : Result (List (ℕ × ℕ) × List (List Entry)) ReadError) → IsWholeList text x → IfErr x (IsRefusedFirst text)
        of_result (Ok p) is = tt
        of_result (Err e) is = refused_for is.0 e (utf8, is.1) (refusal_first (elements is.0) e is.2)
