use Rattle.std.proofs.Common.{◌≡◌, List, ℕ, None, Option, refl, rules, subst, sym, false}
use Rattle.json_lines.specs.ReadCalls.{IsFurther}
use Rattle.json_lines.proofs.TakingLaws.{further_none}
use Rattle.json_line_workers.specs.Calls.{IsRead}
use Rattle.json_line_workers.proofs.CallLaws.{if-some, none_write, read_first}
use Rattle.json_line_workers.proofs.intake.Intake.new.Goals as goal

pub invariant_of-result : goal.invariant_of-result
invariant_of-result g c = (
  c.requires.room,
  c.requires.most,
  search rules,
  search rules,
  search rules,
  none_write None refl,
  subst (λ (o : Option (List ℕ)). IsFurther o (g.R.Source.remaining c.args.reader)) c.requires.input (further_none (g.R.Source.remaining c.args.reader)),
  if-some g.J.ReadFrom.reader (λ first. first ≡ c.args.reader) (λ first. IsRead g.R.Source.called first c.args.reader false false None)
      (λ first same. subst (λ s. IsRead g.R.Source.called s c.args.reader false false None) (sym same) (read_first g.R.Source.called c.args.reader)) c.requires.first,
)
