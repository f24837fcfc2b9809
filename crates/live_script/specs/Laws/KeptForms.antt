-- Calls, returns and starts of the objects are kept whole where a reader of scripts cuts them.
use Rattle.std.proofs.Common.{ℕ, ◌≤◌, List, [], ◌∷◌, length, map, Some, None, refl}
use Rattle.serde_json.specs.Data.{Data}
use Rattle.json_bounded.proofs.CutPlaces.{kept_in}
use Rattle.model_objects.specs.declared.add_remove_set.SetCall.{SetCall}
use Rattle.model_objects.specs.declared.add_remove_set.SetCall.TheVariants.{Add, Remove, Has}
use Rattle.model_objects.specs.declared.add_remove_set.SetRet.{SetRet}
use Rattle.model_objects.specs.declared.add_remove_set.SetRet.TheVariants as set_rets
use Rattle.model_objects.specs.declared.counter.CounterCall.{CounterCall}
use Rattle.model_objects.specs.declared.counter.CounterRet.{CounterRet}
use Rattle.model_objects.specs.declared.counter.CounterRet.TheVariants as counter_rets
use Rattle.model_objects.specs.declared.keyed.KeyedCall.{KeyedCall}
use Rattle.model_objects.specs.declared.queue.QueueCall.{QueueCall}
use Rattle.model_objects.specs.declared.queue.QueueCall.TheVariants.{Push, Pop}
use Rattle.model_objects.specs.declared.queue.QueueRet.{QueueRet}
use Rattle.model_objects.specs.declared.queue.QueueRet.TheVariants as queue_rets
use Rattle.model_objects.specs.declared.register.RegisterCall.{RegisterCall}
use Rattle.model_objects.specs.declared.register.RegisterCall.TheVariants.{Write, Read}
use Rattle.model_objects.specs.declared.register.RegisterRet.{RegisterRet}
use Rattle.model_objects.specs.declared.register.RegisterRet.TheVariants as register_rets
use Rattle.json_histories.specs.declared.history_place.HistoryPlace.TheVariants as histories
use Rattle.json_histories.specs.CounterForm as counter
use Rattle.json_histories.specs.Json.{list}
use Rattle.json_histories.specs.LoneForm.{keyed_call_form, lone_return_form, plain_call_form}
use Rattle.json_histories.specs.Places as history_places
use Rattle.json_histories.specs.QueueForm as queue
use Rattle.json_histories.specs.RegisterForm as register
use Rattle.json_histories.specs.SetForm as set
use Rattle.json_histories.specs.Spelling.{entry_form, table_form}
use Rattle.json_histories.proofs.KeptForms.{entries_kept, IsWholeAt as IsWholeInHistory}
use Rattle.live_script.specs.declared.script_place.ScriptPlace.TheVariants.{Start}
use Rattle.live_script.specs.Kept.{AreWholeStarts, IsWholeOperation}
use Rattle.live_script.specs.Places.{inside_of, limit_of}

pub table_kept : {S : Type 0} (start_form : S → Data) → ((s : S) → IsWholeInHistory histories.Scalar (start_form s)) → (es : List (ℕ × S)) → length es ≤ 4096
    → AreWholeStarts (table_form start_form es)
table_kept start_form scalars [] short = tt
table_kept start_form scalars (e ∷ es) short = (
  kept_in history_places.limit_of history_places.inside_of limit_of inside_of Start (λ place. refl) (λ place index. refl) histories.Start
      (list (map (entry_form start_form) (e ∷ es))) (entries_kept start_form scalars (e ∷ es) short),
  tt,
)

-- ---- calls and returns of the objects

pub register_call : (c : RegisterCall) → IsWholeOperation (plain_call_form register.word_of register.arguments c)
register_call (Write v) = (tt, (tt, tt))
register_call Read = (tt, tt)

pub memory_call : (c : KeyedCall RegisterCall) → IsWholeOperation (keyed_call_form register.word_of register.arguments c)
memory_call c = with_key c.call
  where
    with_key : (call : RegisterCall) → IsWholeOperation (keyed_call_form register.word_of register.arguments (record { key = c.key; call = call }))
    with_key (Write v) = (tt, (tt, (tt, tt)))
    with_key Read = (tt, (tt, tt))

pub set_call : (c : SetCall) → IsWholeOperation (plain_call_form set.word_of set.arguments c)
set_call (Add e) = (tt, (tt, tt))
set_call (Remove e) = (tt, (tt, tt))
set_call (Has e) = (tt, (tt, tt))

pub sets_call : (c : KeyedCall SetCall) → IsWholeOperation (keyed_call_form set.word_of set.arguments c)
sets_call c = with_key c.call
  where
    with_key : (call : SetCall) → IsWholeOperation (keyed_call_form set.word_of set.arguments (record { key = c.key; call = call }))
    with_key (Add e) = (tt, (tt, (tt, tt)))
    with_key (Remove e) = (tt, (tt, (tt, tt)))
    with_key (Has e) = (tt, (tt, (tt, tt)))

pub queue_call : (c : QueueCall) → IsWholeOperation (plain_call_form queue.word_of queue.arguments c)
queue_call (Push v) = (tt, (tt, tt))
queue_call Pop = (tt, tt)

pub queues_call : (c : KeyedCall QueueCall) → IsWholeOperation (keyed_call_form queue.word_of queue.arguments c)
queues_call c = with_key c.call
  where
    with_key : (call : QueueCall) → IsWholeOperation (keyed_call_form queue.word_of queue.arguments (record { key = c.key; call = call }))
    with_key (Push v) = (tt, (tt, (tt, tt)))
    with_key Pop = (tt, (tt, tt))

pub register_return : (r : RegisterRet) → IsWholeOperation (lone_return_form register.ret_form r)
register_return register_rets.Done = tt
register_return (register_rets.Value v) = tt

pub counter_call : (c : CounterCall) → IsWholeOperation (plain_call_form counter.word_of counter.arguments c)
counter_call c = (tt, tt)

pub counters_call : (c : KeyedCall CounterCall) → IsWholeOperation (keyed_call_form counter.word_of counter.arguments c)
counters_call c = (tt, (tt, tt))

pub counter_return : (r : CounterRet) → IsWholeOperation (lone_return_form counter.ret_form r)
counter_return counter_rets.Done = tt
counter_return (counter_rets.Value n) = tt

pub set_return : (r : SetRet) → IsWholeOperation (lone_return_form set.ret_form r)
set_return set_rets.Done = tt
set_return (set_rets.Has b) = tt

pub queue_return : (r : QueueRet) → IsWholeOperation (lone_return_form queue.ret_form r)
queue_return queue_rets.Done = tt
queue_return (queue_rets.Popped None) = tt
queue_return (queue_rets.Popped (Some v)) = tt
