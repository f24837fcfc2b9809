-- What is read of an entry of the start, whose value is cut at its place, is what is read of the whole of it.
use Rattle.std.proofs.Common.{◌≡◌, ◌≢◌, ℕ, ◌<◌, ◌^◌, [], ◌∷◌, Some, refl, sym, subst}
use Rattle.std.proofs.lemmas.List.Elements.{All-head}
use Rattle.serde_json.specs.Data.{Data}
use Rattle.json_bounded.specs.Cut.{cut}
use Rattle.json_bounded.proofs.CutLaws.{unseen}
use Rattle.json_histories.specs.Json.{list}
use Rattle.json_histories.specs.Laws.RegisterForm as register_laws
use Rattle.json_histories.specs.Laws.TableForm.{table_read}
use Rattle.json_histories.specs.Places.{inside_of, limit_of}
use Rattle.json_histories.specs.RegisterForm as register
use Rattle.json_histories.specs.Spelling.{entry_at, entry_form, table_at}
use Rattle.json_histories.specs.declared.history_place.HistoryPlace.TheVariants as places
use Rattle.json_histories.proofs.KeptForms.{IsWholeAt}

-- an entry alone is a table
table_alone : (d : Data) (e : ℕ × ℕ) → entry_at register.start_at d ≡ Some e → table_at register.start_at (list (d ∷ []) ∷ []) ≡ Some (e ∷ [])
table_alone d e read = rw read refl

-- what reads as an entry is its form, and may stand in a table
pub record IsEntryOf (d : Data) (e : ℕ × ℕ) : Type 0 where
  pub form : d ≡ entry_form register.start_form e
  pub small : e.0 < 2 ^ 32
  pub not_plain : e.1 ≢ 0

pub entry_read : (d : Data) (e : ℕ × ℕ) → entry_at register.start_at d ≡ Some e → IsEntryOf d e
entry_read d e read =
    let all = table_read 0 (λ _. Unit {0}) register.start_form register.start_at register_laws.start_read (list (d ∷ []) ∷ []) (e ∷ []) (table_alone d e read) in
    let forms : list (d ∷ []) ∷ [] ≡ list (entry_form register.start_form e ∷ []) ∷ [] = all.0 in
    let same : d ≡ entry_form register.start_form e = cc in
    record {
      form = same;
      small = All-head (λ (x : ℕ × ℕ). x.0 < 2 ^ 32) e [] all.1.small;
      not_plain = All-head (λ (x : ℕ × ℕ). x.1 ≢ 0) e [] all.1.not_plain;
    }

pub entry_same : (d : Data) → entry_at register.start_at (cut limit_of inside_of places.Entry d) ≡ entry_at register.start_at d
entry_same =
    unseen limit_of inside_of places.Entry (entry_at register.start_at)
    (λ d e read. subst (IsWholeAt places.Entry) (sym ((entry_read d e read).form)) (tt, (tt, tt)))
