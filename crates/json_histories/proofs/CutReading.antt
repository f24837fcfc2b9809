-- What is read of a text whose value is cut at the places of a history is what is read of the whole of it.
use Rattle.std.proofs.Common.{◌≡◌, ℕ, List, Option, Result, Ok, Err, sym, ap, subst, ◌∙◌}
use Rattle.std.specs.Prelude.{IfOk}
use Rattle.std.proofs.lemmas.Option.{same_Some}
use Rattle.serde_json.specs.Data.{Data}
use Rattle.json_bounded.specs.Cut.{cut}
use Rattle.json_bounded.proofs.CutLaws.{alone, kept}
use Rattle.json_histories.specs.declared.any_history.AnyHistory.{AnyHistory}
use Rattle.json_histories.specs.declared.history_place.HistoryPlace.TheVariants.{Whole}
use Rattle.json_histories.specs.declared.read_error.ReadError.{ReadError}
use Rattle.json_histories.specs.AnyForm.{IsAnyHistory, IsJson, IsRefusedFor, first_refusal, form_of}
use Rattle.json_histories.specs.Places.{inside_of, limit_of}
use Rattle.json_histories.specs.Refusals.{IsFirst}
use Rattle.json_histories.proofs.AnyForms.{refused_for}
use Rattle.json_histories.proofs.CutRefusals.{same_refusal}
use Rattle.json_histories.proofs.KeptForms.{any_form_is_kept}

module _ (text : List ℕ) (seen : Data) (read : (d : Data) × IsJson text d × (seen ≡ cut limit_of inside_of Whole d)) where
  -- where a form is seen, the text is that form
  form_of_text : (h : AnyHistory) → IsAnyHistory h → seen ≡ form_of h → IsJson text (form_of h)
  form_of_text h is form =
      let same : read.0 ≡ form_of h = alone limit_of inside_of Whole read.0 (form_of h) (any_form_is_kept h is) (sym read.2 ∙ form) in
      subst (IsJson text) same read.1

  pub form_if_read : (r : Result AnyHistory ReadError) → IfOk r IsAnyHistory → IfOk r (λ h. seen ≡ form_of h) → IfOk r (λ h. IsJson text (form_of h))
  form_if_read (Ok h) is form = form_of_text h is form
  form_if_read (Err e) is form = tt

  -- where the text is a form, it is seen
  pub form_seen : (h : AnyHistory) → IsAnyHistory h → IsJson text (form_of h) → seen ≡ form_of h
  form_seen h is json =
      let same : read.0 ≡ form_of h = same_Some read.0 (form_of h) (sym read.1.1 ∙ json.1) in
      read.2 ∙ ap (cut limit_of inside_of Whole) same ∙ kept limit_of inside_of Whole (form_of h) (any_form_is_kept h is)

  pub refused_for_text : (e : ReadError) → IsFirst (first_refusal seen) e → IsRefusedFor text e
  refused_for_text e first =
      let same : first_refusal seen ≡ first_refusal read.0 = ap first_refusal read.2 ∙ same_refusal read.0 in
      refused_for text read.0 e read.1 (subst (λ (o : Option ReadError). IsFirst o e) same first)
