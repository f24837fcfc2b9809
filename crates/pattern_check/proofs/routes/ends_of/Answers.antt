use Rattle.std.proofs.Common.{◌≡◌, true, false, sym, ◌∙◌}
use Rattle.pattern_check.proofs.routes.ends_of.Goals as goal

pub returns-then-not-is_path : goal.returns-then-not-is_path
returns-then-not-is_path g c = λ a b goes.
    let yes = c.is_path.ensures.1 (rw c.ops-ops.ensures goes.joined) in
    let no : false ≡ true = sym c.if-not-is_path.true ∙ yes in absurd cc
