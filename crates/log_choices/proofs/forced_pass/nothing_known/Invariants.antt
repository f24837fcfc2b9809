use Rattle.std.proofs.Common.{◌≡◌, ℕ}
use Rattle.std.specs.Prelude.{All, slice_index}
use Rattle.log_choices.proofs.forced_pass.nothing_known.Given as goal

-- all counts so far are 0
abbrev pub invariant-loop : goal.invariant-loop
invariant-loop l = All (λ past. (c : ℕ) → slice_index past.items c ≡ 0) l.pasts.items
