-- What holds of the answers of a queue: the laws of an object, and that equality is equality of values.
use Rattle.std.specs.Prelude.{◌≡◌, ℕ, List, ◌∷◌, ◌++◌, true, false, Option, refl}
use Rattle.std.specs.Option.{option_eq}
use Rattle.std.proofs.Common.{◌==◌}
use Rattle.model_objects.specs.Laws.Equal.{same_of_part, same_numbers, same_options}
use Rattle.model_objects.specs.Queue.{answer, is_query, depends, matches, settles}
use Rattle.model_objects.specs.declared.queue.QueueCall.{QueueCall}
use Rattle.model_objects.specs.declared.queue.QueueCall.TheVariants.{Push, Pop}
use Rattle.model_objects.specs.declared.queue.QueueRet.{QueueRet}
use Rattle.model_objects.specs.declared.queue.QueueRet.TheVariants.{Done, Popped}

pub answer_fits : (start : Unit {0}) (calls : List QueueCall) (call : QueueCall) → matches call (answer start calls call) ≡ true
answer_fits start calls (Push v) = refl
answer_fits start calls Pop = refl

pub query_changes_nothing : (start : Unit {0}) (before after : List QueueCall) (q call : QueueCall) → is_query q ≡ true
    → answer start (before ++ q ∷ after) call ≡ answer start (before ++ after) call
query_changes_nothing start before after q call e = absurd cc

pub others_change_nothing : (start : Unit {0}) (before after : List QueueCall) (other call : QueueCall) → depends call other ≡ false
    → answer start (before ++ other ∷ after) call ≡ answer start (before ++ after) call
others_change_nothing start before after other (Push v) e = refl
others_change_nothing start before after other Pop e = absurd cc

pub settled : (start : Unit {0}) (before after : List QueueCall) (other call : QueueCall) → settles call other ≡ true
    → answer start (before ++ other ∷ after) call ≡ answer start (other ∷ after) call
settled start before after other call e = absurd cc

-- equality of calls and of returns is equality of values, by constructors

abbrev pub variant_of_call : QueueCall → ℕ
variant_of_call (Push v) = 0
variant_of_call Pop = 1

abbrev pub variant_of_ret : QueueRet → ℕ
variant_of_ret Done = 0
variant_of_ret (Popped item) = 1

pub same_pushes : (u v : ℕ) → ((u == v) ≡ true → Push u ≡ Push v) × (Push u ≡ Push v → (u == v) ≡ true)
same_pushes = same_of_part Push (λ u v e. cc) same_numbers

pub same_popped : (a b : Option ℕ) → (option_eq (λ u v. u == v) a b ≡ true → Popped a ≡ Popped b) × (Popped a ≡ Popped b → option_eq (λ u v. u == v) a b ≡ true)
same_popped = same_of_part Popped (λ a b e. cc) (same_options same_numbers)
