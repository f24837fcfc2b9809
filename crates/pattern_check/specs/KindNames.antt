-- The names of the kinds of bad patterns.
use Rattle.std.specs.Prelude.{ℕ, List, codes}
use Rattle.pattern_check.specs.declared.kind.Kind.{Kind}
use Rattle.pattern_check.specs.declared.kind.Kind.TheVariants.{CyclicCO, ThinAirRead, WriteCOInitRead, WriteCORead, WriteHBInitRead, CyclicHB, CyclicCF}

abbrev pub kind_name : Kind → List ℕ
kind_name CyclicCO = codes "CyclicCO"
kind_name ThinAirRead = codes "ThinAirRead"
kind_name WriteCOInitRead = codes "WriteCOInitRead"
kind_name WriteCORead = codes "WriteCORead"
kind_name WriteHBInitRead = codes "WriteHBInitRead"
kind_name CyclicHB = codes "CyclicHB"
kind_name CyclicCF = codes "CyclicCF"
