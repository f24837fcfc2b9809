-- What holds of the answers of a counter: the laws of an object, and that equality is equality of values.
use Rattle.std.specs.Prelude.{◌≡◌, min, ℕ, List, ◌∷◌, ◌++◌, true, false, refl}
use Rattle.std.proofs.Common.{ap, cond, ◌+◌, ◌==◌}
use Rattle.std.proofs.lemmas.List.Sums.{sum_by-append, sum_by-cons}
use Rattle.model_objects.specs.Counter.{GREATEST, is_increment, increments, answer, is_get, depends, matches, settles}
use Rattle.model_objects.specs.Laws.Equal.{same_of_part, same_numbers}
use Rattle.model_objects.specs.declared.counter.CounterCall.{CounterCall}
use Rattle.model_objects.specs.declared.counter.CounterCall.TheVariants.{Increment, Get}
use Rattle.model_objects.specs.declared.counter.CounterRet.{CounterRet}
use Rattle.model_objects.specs.declared.counter.CounterRet.TheVariants.{Done, Value}

pub answer_fits : (start : Unit {0}) (calls : List CounterCall) (call : CounterCall) → matches call (answer start calls call) ≡ true
answer_fits start calls Increment = refl
answer_fits start calls Get = refl

pub increments-append : (before after : List CounterCall) → increments (before ++ after) ≡ increments before + increments after
increments-append before after = sum_by-append _ before after

pub increments-query : (before after : List CounterCall) (q : CounterCall) → is_get q ≡ true
    → increments (before ++ q ∷ after) ≡ increments (before ++ after)
increments-query before after Get e = rw (increments-append before (Get ∷ after), increments-append before after, sum_by-cons (λ c. cond (is_increment c) 1 0) Get after) refl
increments-query before after Increment e = absurd cc

pub query_changes_nothing : (start : Unit {0}) (before after : List CounterCall) (q call : CounterCall) → is_get q ≡ true
    → answer start (before ++ q ∷ after) call ≡ answer start (before ++ after) call
query_changes_nothing start before after q Increment e = refl
query_changes_nothing start before after q Get e = ap (λ n. Value (min n GREATEST)) (increments-query before after q e)

pub others_change_nothing : (start : Unit {0}) (before after : List CounterCall) (other call : CounterCall) → depends call other ≡ false
    → answer start (before ++ other ∷ after) call ≡ answer start (before ++ after) call
others_change_nothing start before after other Increment e = refl
others_change_nothing start before after Get Get e = query_changes_nothing start before after Get Get refl
others_change_nothing start before after Increment Get e = absurd cc

pub settled : (start : Unit {0}) (before after : List CounterCall) (other call : CounterCall) → settles call other ≡ true
    → answer start (before ++ other ∷ after) call ≡ answer start (other ∷ after) call
settled start before after other call e = absurd cc

-- equality of calls and of returns is equality of values, by constructors

abbrev pub variant_of_call : CounterCall → ℕ
variant_of_call Increment = 0
variant_of_call Get = 1

abbrev pub variant_of_ret : CounterRet → ℕ
variant_of_ret Done = 0
variant_of_ret (Value n) = 1

pub same_values : (u v : ℕ) → ((u == v) ≡ true → Value u ≡ Value v) × (Value u ≡ Value v → (u == v) ≡ true)
same_values = same_of_part Value (λ u v e. cc) same_numbers
