use Rattle.std.specs.Prelude.{[], ◌∷◌, ◌+◌, length}
use Rattle.std.specs.List.{filter}
use Rattle.std.proofs.Common.{arith, ap}
use Rattle.show_faults.specs.declared.counts.FaultCounts.{FaultCounts}
use Rattle.show_faults.specs.declared.fault.Fault.{Fault}
use Rattle.show_faults.specs.Tallies.{is_read, is_start, is_thin_air}
use Rattle.show_faults.proofs.Tallying.{counts-more}
use Rattle.show_faults.proofs.counts.FaultCounts.add.Goals as goal

pub returns-in-ThinAirRead : goal.returns-in-ThinAirRead
returns-in-ThinAirRead c all are =
    let old : FaultCounts = c.args.self.now in
    let made : FaultCounts = record { thin_air = old.thin_air + 1; start = old.start; read = old.read } in
    let a = ap (λ (f : Fault). length (filter is_thin_air (f ∷ []))) c.in-ThinAirRead.is in
    let b = ap (λ (f : Fault). length (filter is_start (f ∷ []))) c.in-ThinAirRead.is in
    let d = ap (λ (f : Fault). length (filter is_read (f ∷ []))) c.in-ThinAirRead.is in
    counts-more all c.args.fault old made (omega arith) (omega arith) (omega arith) are

pub returns-in-WriteCOInitRead : goal.returns-in-WriteCOInitRead
returns-in-WriteCOInitRead c all are =
    let old : FaultCounts = c.args.self.now in
    let made : FaultCounts = record { thin_air = old.thin_air; start = old.start + 1; read = old.read } in
    let a = ap (λ (f : Fault). length (filter is_thin_air (f ∷ []))) c.in-WriteCOInitRead.is in
    let b = ap (λ (f : Fault). length (filter is_start (f ∷ []))) c.in-WriteCOInitRead.is in
    let d = ap (λ (f : Fault). length (filter is_read (f ∷ []))) c.in-WriteCOInitRead.is in
    counts-more all c.args.fault old made (omega arith) (omega arith) (omega arith) are

pub returns-in-WriteCORead : goal.returns-in-WriteCORead
returns-in-WriteCORead c all are =
    let old : FaultCounts = c.args.self.now in
    let made : FaultCounts = record { thin_air = old.thin_air; start = old.start; read = old.read + 1 } in
    let a = ap (λ (f : Fault). length (filter is_thin_air (f ∷ []))) c.in-WriteCORead.is in
    let b = ap (λ (f : Fault). length (filter is_start (f ∷ []))) c.in-WriteCORead.is in
    let d = ap (λ (f : Fault). length (filter is_read (f ∷ []))) c.in-WriteCORead.is in
    counts-more all c.args.fault old made (omega arith) (omega arith) (omega arith) are
