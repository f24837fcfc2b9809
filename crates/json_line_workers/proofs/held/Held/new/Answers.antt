use Rattle.std.proofs.Common.{List, ℕ, sym, subst}
use Rattle.json_line_workers.specs.Pieces.{IsCut}
use Rattle.json_line_workers.proofs.CutLaws.{cut-nothing}
use Rattle.json_line_workers.proofs.held.Held.new.Goals as goal

pub returns-clause-cut : goal.returns-clause-cut
returns-clause-cut c = subst (λ (xs : List ℕ). IsCut 0 xs) (sym c.new.ensures.items) cut-nothing
