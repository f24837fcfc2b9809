use Rattle.std.proofs.Common.{◌≡◌, ℕ, ◌+◌, ◌<◌, subst}
use Rattle.std.specs.Prelude.{Some}
use Rattle.live_driver.proofs.input.ended_calls.Goals as goal

pub returns-clause-but_one : goal.returns-clause-but_one
returns-clause-but_one g c = subst (λ n. (i : ℕ) → i < n → ¬ ((c.args.stop ≡ Some c.args.s) × (i + 1 ≡ n)) → i < c.ended_of.result) c.len.ensures.count c.ended_of.ensures.but_one
