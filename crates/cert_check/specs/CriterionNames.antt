-- The names of the criteria.
use Rattle.std.specs.Prelude.{ℕ, List, codes}
use Rattle.cert_check.specs.declared.criterion.Criterion.{Criterion}
use Rattle.cert_check.specs.declared.criterion.Criterion.TheVariants.{Cc, Cm, Ccv}

abbrev pub name_of : Criterion → List ℕ
name_of Cc = codes "cc"
name_of Cm = codes "cm"
name_of Ccv = codes "ccv"
