use Rattle.std.proofs.Common.{List, ℕ, refl, rules, sym, subst}
use Rattle.json_line_workers.specs.Pieces.{IsCut}
use Rattle.json_line_workers.proofs.CutLaws.{cut-free}
use Rattle.json_line_workers.proofs.reading.hand_out.Goals as goal

pub returns-clause-handed : goal.returns-clause-handed
returns-clause-handed c = record {
  bytes = search rules;
  left = c.drop_front.ensures;
  at = search rules;
  inside = c.requires.outside;
  cut = subst (λ (xs : List ℕ). IsCut 0 xs) (sym c.drop_front.ensures) (cut-free _ c.requires.free);
  long = refl;
  last_is = refl;
}
