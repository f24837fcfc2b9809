-- Facts about a history of any object.
use Rattle.std.proofs.Common.{List}
use Rattle.model_history.specs.History.{HistoryValue}
use Rattle.json_histories.specs.declared.any_history.AnyHistory.{AnyHistory}
use Rattle.json_histories.specs.declared.any_history.AnyHistory.TheVariants as histories
use Rattle.app_findings.specs.Answers.{Fact, HoldsOf}

-- what follows from a fact, whatever the object, follows of any history
pub follows : (f g : Fact) → ((S C R : Type 0) (answer : S → List C → C → R) (h : HistoryValue S C R) → f S C R answer h → g S C R answer h)
    → (history : AnyHistory) → HoldsOf f history → HoldsOf g history
follows f g step (histories.Register h) holds = step _ _ _ _ h holds
follows f g step (histories.Counter h) holds = step _ _ _ _ h holds
follows f g step (histories.Set h) holds = step _ _ _ _ h holds
follows f g step (histories.Queue h) holds = step _ _ _ _ h holds
follows f g step (histories.Memory h) holds = step _ _ _ _ h holds
follows f g step (histories.Counters h) holds = step _ _ _ _ h holds
follows f g step (histories.Sets h) holds = step _ _ _ _ h holds
follows f g step (histories.Queues h) holds = step _ _ _ _ h holds

-- two facts hold together
pub both : (f g : Fact) (history : AnyHistory) → HoldsOf f history → HoldsOf g history
    → HoldsOf (λ S C R answer h. f S C R answer h × g S C R answer h) history
both f g (histories.Register h) holds too = (holds, too)
both f g (histories.Counter h) holds too = (holds, too)
both f g (histories.Set h) holds too = (holds, too)
both f g (histories.Queue h) holds too = (holds, too)
both f g (histories.Memory h) holds too = (holds, too)
both f g (histories.Counters h) holds too = (holds, too)
both f g (histories.Sets h) holds too = (holds, too)
both f g (histories.Queues h) holds too = (holds, too)

-- a fact that never holds holds of no history
pub never : (history : AnyHistory) → HoldsOf (λ S C R answer h. ⊥) history → ⊥
never (histories.Register h) holds = holds
never (histories.Counter h) holds = holds
never (histories.Set h) holds = holds
never (histories.Queue h) holds = holds
never (histories.Memory h) holds = holds
never (histories.Counters h) holds = holds
never (histories.Sets h) holds = holds
never (histories.Queues h) holds = holds
