use Rattle.std.proofs.Common.{ℕ, List, ap, sym, subst, ◌∙◌}
use Rattle.std.specs.Prelude.{◌↔◌, Contains, IsTrue}
use Rattle.std.specs.List.Sorted.{IsStrictlyIncreasing}
use Rattle.std.specs.Map.{keys_of}
use Rattle.log_events.specs.Histories.{is_deleted}
use Rattle.log_choices.proofs.MissedKeys.{missed-deleted}
use Rattle.log_choices.proofs.null_reads.NullReads.of.Goals as goal

pub invariant_of-result : goal.invariant_of-result
invariant_of-result c =
    let left = c.in_ok-left_out.ensures in
    let keys = c.in_ok-keys.ensures ∙ ap (λ (l : List (ℕ × ℕ)). keys_of l) c.deref.ensures.value in record {
      entries_rise = c.requires;
      keys_rise = subst IsStrictlyIncreasing (sym keys) left.rising;
      keys_are = λ x missed. subst (λ (l : List ℕ). Contains l x ↔ IsTrue (is_deleted c.args.log.now x)) (sym keys)
          (missed-deleted c.args.log.now c.in_ok-left_out.left_out.items left x missed);
    }
