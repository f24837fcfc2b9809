-- Reading a history by the name of its object.
use Rattle.std.proofs.Common.{◌≡◌, List, Option, Ok, Err, sym, ap}
use Rattle.serde_json.specs.Data.{Data}
use Rattle.json_histories.specs.declared.object_name.ObjectName.{ObjectName}
use Rattle.json_histories.specs.declared.read_error.ReadError.{ReadError}
use Rattle.json_histories.specs.declared.read_error.ReadError.TheVariants.{Memory}
use Rattle.json_histories.specs.AnyForm.{IsAnyHistory, IsReadAs}
use Rattle.json_histories.specs.ObjectNames.{text_of}
use Rattle.json_histories.specs.Refusals.{IsFirst}
use Rattle.json_histories.proofs.AnyHistories.{RecordOf, history_from, form_from, sessions_of, rest_of, only_with_name}
use Rattle.json_histories.proofs.PartsForm.{formed}

module _ (name : ObjectName) (ss rest : List Data) (refusal : Option ReadError) where
  -- each history of the object with these parts
  abbrev pub Each : (RecordOf name → Type 0) → Type 0
  Each P = (h : RecordOf name) → IsAnyHistory (history_from name h) → ss ≡ sessions_of (history_from name h) → rest ≡ rest_of (history_from name h) → P h

  pub read : (h : RecordOf name) → IsAnyHistory (history_from name h) → ss ≡ sessions_of (history_from name h) → rest ≡ rest_of (history_from name h) → Each (λ x. h ≡ x)
      → IsReadAs (formed (text_of name, ss, rest)) refusal (Ok (history_from name h))
  read h is_history sessions behind only = record {
    is_history = is_history;
    form = rw (sessions, behind) (sym (form_from name h));
    only = only_with_name name ss rest (λ x. history_from name h ≡ x) (λ x is s t. ap (history_from name) (only x is s t));
    refused = tt;
  }

  pub refused : (e : ReadError) → IsFirst refusal e → Each (λ x. e ≡ Memory) → IsReadAs (formed (text_of name, ss, rest)) refusal (Err e)
  refused e first only = record {
    is_history = tt;
    form = tt;
    only = only_with_name name ss rest (λ x. e ≡ Memory) only;
    refused = first;
  }
