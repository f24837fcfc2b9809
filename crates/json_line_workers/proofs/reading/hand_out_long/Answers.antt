use Rattle.std.proofs.Common.{List, ℕ, refl, rules, sym, subst}
use Rattle.json_line_workers.specs.Pieces.{IsCut}
use Rattle.json_line_workers.proofs.CutLaws.{cut-nothing}
use Rattle.json_line_workers.proofs.reading.hand_out_long.Goals as goal

pub returns-clause-handed : goal.returns-clause-handed
returns-clause-handed c = record {
  left = c.clear.ensures.items;
  at = search rules;
  inside = refl;
  cut = subst (λ (xs : List ℕ). IsCut 0 xs) (sym c.clear.ensures.items) cut-nothing;
  long = refl;
  last_is = refl;
}
