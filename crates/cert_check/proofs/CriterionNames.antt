-- A criterion by its name.
use Rattle.std.proofs.Common.{◌≡◌, ℕ, List, refl, ap, sym, ◌∙◌}
use Rattle.std.specs.Prelude.{codes, nat_eq, if◌then◌else◌}
use Rattle.std.specs.Cmp.Lexicographic.{pointwise}
use Rattle.cert_check.specs.declared.criterion.Criterion.{Criterion}
use Rattle.cert_check.specs.declared.criterion.Criterion.TheVariants.{Cc, Cm, Ccv}
use Rattle.cert_check.specs.CriterionNames.{name_of}

-- the criterion of a name
abbrev pub named_of : List ℕ → Criterion
named_of name = if pointwise nat_eq name (codes "cc") then Cc else (if pointwise nat_eq name (codes "cm") then Cm else Ccv)

pub named_again : (c : Criterion) → named_of (name_of c) ≡ c
named_again Cc = refl
named_again Cm = refl
named_again Ccv = refl

pub one_name : (a b : Criterion) → name_of a ≡ name_of b → a ≡ b
one_name a b same = sym (named_again a) ∙ ap named_of same ∙ named_again b
