use Rattle.std.proofs.Common.{arith, Option, Some, false, rules, subst, sym, true, true≢false}
use Rattle.std.proofs.lemmas.Grind.{common_steps}
use Rattle.json_lines.specs.declared.fault.Fault.{Fault}
use Rattle.json_lines.proofs.TakingLaws.{further_more}
use Rattle.json_line_workers.specs.Calls.{IsRead}
use Rattle.json_line_workers.proofs.CallLaws.{fault_other, if-some, read_fault, read_next}
use Rattle.json_line_workers.proofs.intake.Intake.take.Goals as goal

pub invariant_of-self : goal.invariant_of-self
invariant_of-self g c =
    let called = g.R.Source.called in
    let old = c.self.inside.reader in
    let new = c.next_lines-taken.new.reader in
    let last = c.in-Ok.next.last in (
      search rules,
      search rules,
      grind (arith, common_steps),
      search rules,
      search rules,
      c.self.invariant.5,
      further_more _ _ _ c.self.invariant.6 c.in-Ok.ensures.further,
      if-some g.J.ReadFrom.reader _ (λ first. IsRead called first new last last c.self.inside.fault)
          (λ first so_far.
          let (none, n, before) = so_far.on c.if-self.false in
          subst (λ (f : Option Fault). IsRead called first new last last f) (sym none) (read_next called first old new last (n, before) c.in-Ok.ensures.calls))
          c.self.invariant.7,
    )

pub invariant_of-self-in-Err : goal.invariant_of-self-in-Err
invariant_of-self-in-Err g c =
    let called = g.R.Source.called in
    let old = c.self.inside.reader in
    let new = c.next_lines-taken.new.reader in (
      search rules,
      search rules,
      grind (arith, common_steps),
      λ is. absurd (true≢false is),
      λ is. absurd (true≢false (sym is)),
      fault_other called c.in-Err.fault old new c.in-Err.ensures.calls,
      further_more _ _ _ c.self.invariant.6 c.in-Err.ensures.further,
      if-some g.J.ReadFrom.reader _ (λ first. IsRead called first new true false (Some c.in-Err.fault))
          (λ first so_far. let (none, n, before) = so_far.on c.if-self.false in read_fault called first old new c.in-Err.fault (n, before) c.in-Err.ensures.calls) c.self.invariant.7,
    )
