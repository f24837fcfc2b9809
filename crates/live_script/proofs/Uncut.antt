-- What is read of a value that is cut at the place of an operation is read of the whole of it.
use Rattle.std.proofs.Common.{◌≡◌, Option, Some, None, ap, sym, ◌∙◌}
use Rattle.serde_json.specs.Data.{Data}
use Rattle.json_bounded.specs.Cut.{cut}
use Rattle.json_bounded.proofs.CutLaws.{alone, kept}
use Rattle.json_histories.specs.declared.history_place.HistoryPlace.TheVariants as histories
use Rattle.json_histories.specs.Places.{inside_of, limit_of}
use Rattle.json_histories.specs.Reads.{IsRead, IsReadWithin}
use Rattle.live_script.specs.Kept.{IsWholeOperation}

module _ {A : Type 0} (form : A → Data) (d : Data) where
  abbrev cut_there : Data → Data
  cut_there = cut limit_of inside_of histories.Operation

  whole : (a : A) → IsWholeOperation (form a) → cut_there d ≡ form a → d ≡ form a
  whole a is same = alone limit_of inside_of histories.Operation d (form a) is same

  seen : (a : A) → IsWholeOperation (form a) → d ≡ form a → cut_there d ≡ form a
  seen a is same = ap cut_there same ∙ kept limit_of inside_of histories.Operation (form a) is

module _ {A : Type 0} (fits : A → Type 0) (form : A → Data) (d : Data) (forms : (a : A) → fits a → IsWholeOperation (form a)) where
  pub read_uncut : (e : Data) → e ≡ cut limit_of inside_of histories.Operation d → (read : Option A) → IsReadWithin fits form e read → IsReadWithin fits form d read
  read_uncut e is None none = λ a good same. none a good (is ∙ seen form d a (forms a good) same)
  read_uncut e is (Some a) there = (whole form d a (forms a there.1) (sym is ∙ there.0), there.1)

module _ {A : Type 0} (form : A → Data) (d : Data) (forms : (a : A) → IsWholeOperation (form a)) where
  pub any_uncut : (e : Data) → e ≡ cut limit_of inside_of histories.Operation d → (read : Option A) → IsRead form e read → IsRead form d read
  any_uncut e is None none = λ a same. none a (is ∙ seen form d a (forms a) same)
  any_uncut e is (Some a) there = whole form d a (forms a) (sym is ∙ there)
