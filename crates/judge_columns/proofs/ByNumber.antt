-- What is raised or lowered by a number is so by the operation that has it.
use Rattle.std.specs.Prelude.{◌≡◌, ℕ, ◌≤◌, Option, None, Some, MatchOption}
use Rattle.std.proofs.Common.{ap, arith, inl, inr, ◌∙◌, subst, sym}
use Rattle.model_history.specs.declared.op_id.OpId.{OpId}
use Rattle.model_history.specs.History.{number}
use Rattle.order_memory.specs.Memory.{MemoryHistory}
use Rattle.judge_memory.specs.Parts.{IsNumberOf}
use Rattle.judge_columns.specs.Visits.{IsGreater, IsLoweredAt, IsLoweredBy, IsLoweredTo, IsRaisedBy, IsRaisedTo}

module _ (h : MemoryHistory) (related : OpId → OpId → Type 0) (o : OpId) where
  pub raised-by : (e : Option ℕ) (ends : ℕ → ℕ) (a m : ℕ) → IsNumberOf h related o e → IsRaisedTo ends a e m
      → IsRaisedBy h o related ends a m
  raised-by None ends a m none same = inl (none, same)
  raised-by (Some n) ends a m (p, is_op, is, at) raised = inr (p, is, subst (λ (k : ℕ). IsGreater a (ends k) m) (sym at) raised)

  -- the same where no number is below the first one
  pub taken-by : (e : Option ℕ) (ends : ℕ → ℕ) (a m : ℕ) → IsNumberOf h related o e → MatchOption e (m ≡ a) (λ n. m ≡ ends n)
      → ((p : OpId) → related p o → a ≤ ends (number h p)) → IsRaisedBy h o related ends a m
  taken-by None ends a m none same from = inl (none, same)
  taken-by (Some n) ends a m (p, is_op, is, at) same from =
      let low = from p is in
      let here : m ≡ ends (number h p) = same ∙ sym (ap ends at) in
      inr (p, is, record { first = omega arith; second = omega arith; one = inr here })

  pub lowered-by : (e : Option ℕ) (firsts lowered : ℕ → ℕ) (m : ℕ) → IsNumberOf h related o e → IsLoweredTo firsts e m lowered
      → IsLoweredBy h o related firsts lowered m
  lowered-by None firsts lowered m none same = inl (none, same)
  lowered-by (Some n) firsts lowered m (p, is_op, is, at) down =
      inr (p, is, subst (λ (k : ℕ). IsLoweredAt firsts lowered k m) (sym at) down)
