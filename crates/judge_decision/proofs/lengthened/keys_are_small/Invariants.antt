use Rattle.std.proofs.Common.{◌≡◌, ◌<◌, ◌^◌, ℕ, Option, Some}
use Rattle.std.specs.Prelude.{slice_get}
use Rattle.model_objects.specs.declared.register.RegisterRet.{RegisterRet}
use Rattle.order_memory.specs.Memory.{MemoryCall}
use Rattle.judge_decision.proofs.lengthened.keys_are_small.Given as goal

-- the keys so far are small
abbrev pub invariant-loop-i : goal.invariant-loop-i
invariant-loop-i l = (j : ℕ) (c : MemoryCall) (r : Option RegisterRet) → j < l.i → slice_get l.session j ≡ Some (c, r) → c.key < 2 ^ 32
