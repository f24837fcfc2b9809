-- The lists that name the criteria that are expected to be met. Text is bytes.
use Rattle.std.specs.Prelude.{◌≡◌, ◌==◌, List, [], ◌∷◌, Option, Some, None, Bool, true, if◌then◌else◌}
use Rattle.std.specs.List.{slice_split}
use Rattle.clap.specs.Words.{Text}
use Rattle.cert_check.specs.declared.criterion.Criterion.{Criterion}
use Rattle.cert_check.specs.declared.criterion.Criterion.TheVariants.{Cc, Cm, Ccv}
use Rattle.cert_check.specs.CriterionNames.{name_of}
use Rattle.app_orders.specs.Expected.{expecting_nothing}
use Rattle.app_orders.specs.declared.expected.Expected.{Expected}

-- whether a criterion is expected, and what is expected with one more
abbrev pub expects : Expected → Criterion → Bool
expects e Cc = e.cc
expects e Cm = e.cm
expects e Ccv = e.ccv

abbrev pub with_expected : Expected → Criterion → Expected
with_expected e Cc = record e { cc = true }
with_expected e Cm = record e { cm = true }
with_expected e Ccv = record e { ccv = true }

-- what is expected, and one criterion more, which was not expected before
abbrev pub and_expected : Expected → Criterion → Option Expected
and_expected e criterion = if expects e criterion then None else Some (with_expected e criterion)

-- a name adds its criterion
abbrev pub AddsName : Expected → Text → Expected → Type 0
AddsName before name after = (criterion : Criterion) × (name ≡ name_of criterion) × (and_expected before criterion ≡ Some after)

abbrev pub AddEach : Expected → List Text → Expected → Type 0
AddEach before [] after = after ≡ before
AddEach before (name ∷ names) after = (between : Expected) × AddsName before name between × AddEach between names after

-- the parts of a text between its commas
abbrev pub parts : Text → List Text
parts text = slice_split (λ c. c == 44) text

-- a list says which criteria are expected: its parts are names, each of another criterion
abbrev pub Lists : Text → Expected → Type 0
Lists list expected = AddEach expecting_nothing (parts list) expected
