-- What is read of a history, as it is kept, is read of the whole of it.
use Rattle.std.proofs.Common.{◌≡◌, Option, Result, Ok, Err, sym, ap, subst, ◌∙◌}
use Rattle.std.specs.Prelude.{IfErr, IfOk}
use Rattle.serde_json.specs.Data.{Data}
use Rattle.json_bounded.specs.Cut.{cut}
use Rattle.json_bounded.proofs.CutLaws.{alone}
use Rattle.json_histories.specs.declared.any_history.AnyHistory.{AnyHistory}
use Rattle.json_histories.specs.declared.history_place.HistoryPlace.TheVariants.{Whole}
use Rattle.json_histories.specs.declared.read_error.ReadError.{ReadError}
use Rattle.json_histories.specs.AnyForm.{first_refusal, form_of, IsAnyHistory}
use Rattle.json_histories.specs.Places.{inside_of, limit_of}
use Rattle.json_histories.specs.Refusals.{IsFirst}
use Rattle.json_histories.proofs.CutRefusals.{same_refusal}
use Rattle.json_histories.proofs.KeptForms.{any_form_is_kept}
use Rattle.json_tokens.specs.Histories.{IsHistoryIn}

pub history_read : (d kept : Data) (read : Result AnyHistory ReadError) → kept ≡ cut limit_of inside_of Whole d → IfOk read IsAnyHistory → IfOk read (λ h. kept ≡ form_of h)
    → IfErr read (IsFirst (first_refusal kept)) → IsHistoryIn d read
history_read d kept (Ok h) cut_is is form refused = (alone limit_of inside_of Whole d (form_of h) (any_form_is_kept h is) (sym cut_is ∙ form), is)
history_read d kept (Err e) cut_is is form refused = subst (λ (o : Option ReadError). IsFirst o e) (ap first_refusal cut_is ∙ same_refusal d) refused
