-- The forms of histories are kept whole by a reader that reads of each list one element more than a form can have.
use Rattle.std.proofs.Common.{◌≡◌, ℕ, zero, suc, ◌<◌, ◌≤◌, Bool, List, [], ◌∷◌, ◌++◌, length, map, Option, Some, None, refl, subst, arith}
use Rattle.std.specs.Prelude.{slice_index_or}
use Rattle.std.proofs.lemmas.Option.{get_or_from_slice_get}
use Rattle.serde_json.specs.Data.{Data}
use Rattle.serde_json.specs.View.{items_of}
use Rattle.json_bounded.specs.Cut.{IsKept, AreKept}
use Rattle.json_bounded.proofs.CutLists.{forms_kept}
use Rattle.model_history.specs.History.{IsHistory, HistoryValue}
use Rattle.model_objects.specs.declared.add_remove_set.SetCall.{SetCall}
use Rattle.model_objects.specs.declared.add_remove_set.SetCall.TheVariants.{Add, Remove, Has}
use Rattle.model_objects.specs.declared.add_remove_set.SetRet.{SetRet}
use Rattle.model_objects.specs.declared.add_remove_set.SetRet.TheVariants as set_rets
use Rattle.model_objects.specs.declared.counter.CounterRet.{CounterRet}
use Rattle.model_objects.specs.declared.counter.CounterRet.TheVariants as counter_rets
use Rattle.model_objects.specs.declared.keyed.KeyedCall.{KeyedCall}
use Rattle.model_objects.specs.declared.queue.QueueCall.{QueueCall}
use Rattle.model_objects.specs.declared.queue.QueueCall.TheVariants.{Push, Pop}
use Rattle.model_objects.specs.declared.queue.QueueRet.{QueueRet}
use Rattle.model_objects.specs.declared.queue.QueueRet.TheVariants as queue_rets
use Rattle.model_objects.specs.declared.register.RegisterCall.{RegisterCall}
use Rattle.model_objects.specs.declared.register.RegisterCall.TheVariants.{Write, Read}
use Rattle.model_objects.specs.declared.register.RegisterRet.{RegisterRet}
use Rattle.model_objects.specs.declared.register.RegisterRet.TheVariants as register_rets
use Rattle.json_histories.specs.declared.any_history.AnyHistory.{AnyHistory}
use Rattle.json_histories.specs.declared.any_history.AnyHistory.TheVariants as histories
use Rattle.json_histories.specs.declared.history_place.HistoryPlace.{HistoryPlace}
use Rattle.json_histories.specs.declared.history_place.HistoryPlace.TheVariants.{Whole, Sessions, Session, Operation, Start, Entry, Scalar}
use Rattle.json_histories.specs.declared.object_name.ObjectName.TheVariants as names
use Rattle.json_histories.specs.AnyForm.{IsAnyHistory, form_of}
use Rattle.json_histories.specs.CounterForm as counter
use Rattle.json_histories.specs.Form.{AreSessions, session_form}
use Rattle.json_histories.specs.Json.{list, unknown}
use Rattle.json_histories.specs.ObjectNames.{text_of}
use Rattle.json_histories.specs.Places.{inside_of, limit_of}
use Rattle.json_histories.specs.QueueForm as queue
use Rattle.json_histories.specs.RegisterForm as register
use Rattle.json_histories.specs.SetForm as set
use Rattle.json_histories.specs.Spelling.{rest_form, plain_form, keyed_form, entry_form, table_form, no_start_form}
use Rattle.json_histories.proofs.PartsForm.{formed}

abbrev pub IsWholeAt : HistoryPlace → Data → Type 0
IsWholeAt = IsKept limit_of inside_of

-- at most so many values, none of them a list
abbrev AreScalars : ℕ → List Data → Type 0
AreScalars most [] = Unit {0}
AreScalars zero (d ∷ ds) = ⊥
AreScalars (suc most) (d ∷ ds) = IsWholeAt Scalar d × AreScalars most ds

one_and_one : (ds es : List Data) → AreScalars 1 ds → AreScalars 1 es → AreScalars 2 (ds ++ es)
one_and_one [] [] first second = tt
one_and_one [] (e ∷ []) first second = (second.0, tt)
one_and_one [] (e ∷ f ∷ es) first second = absurd second.1
one_and_one (d ∷ []) [] first second = (first.0, tt)
one_and_one (d ∷ []) (e ∷ []) first second = (first.0, (second.0, tt))
one_and_one (d ∷ []) (e ∷ f ∷ es) first second = absurd second.1
one_and_one (d ∷ c ∷ ds) es first second = absurd first.1

-- they fit into an operation
scalars_kept : (most index room : ℕ) (ds : List Data) → most < room → AreScalars most ds → AreKept limit_of inside_of Operation index (Some room) (items_of ds)
scalars_kept most index zero ds fits scalars = let never : ⊥ = omega arith in absurd never
scalars_kept most index (suc room) [] fits scalars = tt
scalars_kept zero index (suc room) (d ∷ ds) fits scalars = absurd scalars
scalars_kept (suc most) index (suc room) (d ∷ ds) fits scalars = (scalars.0, scalars_kept most (suc index) room ds (omega arith) scalars.1)

-- ---- an operation takes at most one argument, and its return is at most one value

module _ {C R : Type 0} (word_of : C → List ℕ) (arguments : C → List Data) (ret_form : R → List Data)
    (one_argument : (c : C) → AreScalars 1 (arguments c)) (one_return : (r : R) → AreScalars 1 (ret_form r)) where
  rest_is_short : (c : C) (r : Option R) → AreScalars 2 (rest_form arguments ret_form c r)
  rest_is_short c None = one_and_one (arguments c) (unknown ∷ []) (one_argument c) (tt, tt)
  rest_is_short c (Some r) = one_and_one (arguments c) (ret_form r) (one_argument c) (one_return r)

  pub plain_kept : (c : C) (r : Option R) → IsWholeAt Operation (plain_form word_of arguments ret_form c r)
  plain_kept c r = (tt, scalars_kept 2 1 4 (rest_form arguments ret_form c r) (omega arith) (rest_is_short c r))

  pub keyed_kept : (c : KeyedCall C) (r : Option R) → IsWholeAt Operation (keyed_form word_of arguments ret_form c r)
  keyed_kept c r = (tt, (tt, scalars_kept 2 2 3 (rest_form arguments ret_form c.call r) (omega arith) (rest_is_short c.call r)))

-- ---- sessions, starts and whole histories

module _ {C R : Type 0} (operation_form : C → Option R → Data) (operation_kept : (c : C) (r : Option R) → IsWholeAt Operation (operation_form c r)) where
  session_kept : (es : List (C × Option R)) → length es ≤ 256 → IsWholeAt Session (session_form operation_form es)
  session_kept es short =
      forms_kept limit_of inside_of Session Operation (λ i. refl) (λ (e : C × Option R). operation_form e.0 e.1) es (omega arith) (λ i e here. operation_kept e.0 e.1)

  sessions_kept : (fits : C → R → Bool) (ss : List (List (C × Option R))) → length ss ≤ 16 → AreSessions fits ss → IsWholeAt Sessions (list (map (session_form operation_form) ss))
  sessions_kept fits ss few each =
      forms_kept limit_of inside_of Sessions Session (λ i. refl) (session_form operation_form) ss (omega arith) (λ i es here.
      let same : slice_index_or ss i [] ≡ es = get_or_from_slice_get ss i es [] here in
      session_kept es (subst (λ (x : List (C × Option R)). length x ≤ 256) same ((each i).short)))

  pub form_kept : {S : Type 0} (name : List ℕ) (is_start : S → Type 0) (fits : C → R → Bool) (h : HistoryValue S C R) (rest : List Data) → IsHistory is_start fits h
      → AreKept limit_of inside_of Whole 2 (Some 2) (items_of rest) → IsWholeAt Whole (formed (name, map (session_form operation_form) h.1, rest))
  form_kept name is_start fits h rest is behind = (tt, (sessions_kept fits h.1 is.few is.each, behind))

module _ {S : Type 0} (start_form : S → Data) (start_is_scalar : (s : S) → IsWholeAt Scalar (start_form s)) where
  pub entries_kept : (es : List (ℕ × S)) → length es ≤ 4096 → IsWholeAt Start (list (map (entry_form start_form) es))
  entries_kept es short =
      forms_kept limit_of inside_of Start Entry (λ i. refl) (entry_form start_form) es (omega arith) (λ i e here. (tt, (start_is_scalar e.1, tt)))

  table_kept : (es : List (ℕ × S)) → length es ≤ 4096 → AreKept limit_of inside_of Whole 2 (Some 2) (items_of (table_form start_form es))
  table_kept [] short = tt
  table_kept (e ∷ es) short = (entries_kept (e ∷ es) short, tt)

-- ---- the objects

pub register_argument : (c : RegisterCall) → AreScalars 1 (register.arguments c)
register_argument (Write v) = (tt, tt)
register_argument Read = tt

pub register_return : (r : RegisterRet) → AreScalars 1 (register.ret_form r)
register_return register_rets.Done = tt
register_return (register_rets.Value v) = (tt, tt)

pub counter_return : (r : CounterRet) → AreScalars 1 (counter.ret_form r)
counter_return counter_rets.Done = tt
counter_return (counter_rets.Value n) = (tt, tt)

pub set_argument : (c : SetCall) → AreScalars 1 (set.arguments c)
set_argument (Add e) = (tt, tt)
set_argument (Remove e) = (tt, tt)
set_argument (Has e) = (tt, tt)

pub set_return : (r : SetRet) → AreScalars 1 (set.ret_form r)
set_return set_rets.Done = tt
set_return (set_rets.Has b) = (tt, tt)

pub queue_argument : (c : QueueCall) → AreScalars 1 (queue.arguments c)
queue_argument (Push v) = (tt, tt)
queue_argument Pop = tt

pub queue_return : (r : QueueRet) → AreScalars 1 (queue.ret_form r)
queue_return queue_rets.Done = tt
queue_return (queue_rets.Popped None) = (tt, tt)
queue_return (queue_rets.Popped (Some v)) = (tt, tt)

pub any_form_is_kept : (h : AnyHistory) → IsAnyHistory h → IsWholeAt Whole (form_of h)
any_form_is_kept (histories.Register h) is =
    form_kept (plain_form register.word_of register.arguments register.ret_form) (plain_kept register.word_of register.arguments register.ret_form register_argument register_return)
    (text_of names.Register) _ _ h [] is.0 tt
any_form_is_kept (histories.Counter h) is =
    form_kept (plain_form counter.word_of counter.arguments counter.ret_form) (plain_kept counter.word_of counter.arguments counter.ret_form (λ c. tt) counter_return)
    (text_of names.Counter) _ _ h [] is.0 tt
any_form_is_kept (histories.Set h) is =
    form_kept (plain_form set.word_of set.arguments set.ret_form) (plain_kept set.word_of set.arguments set.ret_form set_argument set_return)
    (text_of names.Set) _ _ h [] is.0 tt
any_form_is_kept (histories.Queue h) is =
    form_kept (plain_form queue.word_of queue.arguments queue.ret_form) (plain_kept queue.word_of queue.arguments queue.ret_form queue_argument queue_return)
    (text_of names.Queue) _ _ h [] is.0 tt
any_form_is_kept (histories.Memory h) is =
    form_kept (keyed_form register.word_of register.arguments register.ret_form) (keyed_kept register.word_of register.arguments register.ret_form register_argument register_return)
    (text_of names.Memory) _ _ h (table_form register.start_form h.0) is.0 (table_kept register.start_form (λ s. tt) h.0 is.0.start.short)
any_form_is_kept (histories.Counters h) is =
    form_kept (keyed_form counter.word_of counter.arguments counter.ret_form) (keyed_kept counter.word_of counter.arguments counter.ret_form (λ c. tt) counter_return)
    (text_of names.Counters) _ _ h (table_form no_start_form h.0) is.0 (table_kept no_start_form (λ s. tt) h.0 is.0.start.short)
any_form_is_kept (histories.Sets h) is =
    form_kept (keyed_form set.word_of set.arguments set.ret_form) (keyed_kept set.word_of set.arguments set.ret_form set_argument set_return)
    (text_of names.Sets) _ _ h (table_form no_start_form h.0) is.0 (table_kept no_start_form (λ s. tt) h.0 is.0.start.short)
any_form_is_kept (histories.Queues h) is =
    form_kept (keyed_form queue.word_of queue.arguments queue.ret_form) (keyed_kept queue.word_of queue.arguments queue.ret_form queue_argument queue_return)
    (text_of names.Queues) _ _ h (table_form no_start_form h.0) is.0 (table_kept no_start_form (λ s. tt) h.0 is.0.start.short)
