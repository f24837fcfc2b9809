-- Where no witness is said to be found, nothing has to be shown.
use Rattle.std.specs.Prelude.{false}
use Rattle.order_memory.specs.Memory.{MemoryHistory}
use Rattle.cert_check.specs.declared.criterion.Criterion.TheVariants.{Cc, Ccv, Cm}
use Rattle.judge_witnesses.specs.Witnesses.{AreWitnessed}

pub none-witnessed : (h : MemoryHistory) → AreWitnessed h (record { cc = false; cm = false; ccv = false })
none-witnessed h Cc found = absurd cc
none-witnessed h Cm found = absurd cc
none-witnessed h Ccv found = absurd cc
