-- How deep the forms of histories nest: little enough that what is written for one is read.
use Rattle.std.proofs.Common.{◌≡◌, ◌≤◌, ℕ, List, [], ◌∷◌, ◌++◌, map, Option, Some, None, refl, arith}
use Rattle.serde_json.specs.Data.{Data, depth, items_depth}
use Rattle.serde_json.specs.Read.{max_depth}
use Rattle.serde_json.specs.View.{items_of}
use Rattle.model_objects.specs.declared.add_remove_set.SetCall.{SetCall}
use Rattle.model_objects.specs.declared.add_remove_set.SetCall.TheVariants.{Add, Remove, Has}
use Rattle.model_objects.specs.declared.add_remove_set.SetRet.{SetRet}
use Rattle.model_objects.specs.declared.add_remove_set.SetRet.TheVariants as set_rets
use Rattle.model_objects.specs.declared.counter.CounterRet.{CounterRet}
use Rattle.model_objects.specs.declared.counter.CounterRet.TheVariants as counter_rets
use Rattle.model_objects.specs.declared.queue.QueueCall.{QueueCall}
use Rattle.model_objects.specs.declared.queue.QueueCall.TheVariants.{Push, Pop}
use Rattle.model_objects.specs.declared.queue.QueueRet.{QueueRet}
use Rattle.model_objects.specs.declared.queue.QueueRet.TheVariants as queue_rets
use Rattle.model_objects.specs.declared.register.RegisterCall.{RegisterCall}
use Rattle.model_objects.specs.declared.register.RegisterCall.TheVariants.{Write, Read}
use Rattle.model_objects.specs.declared.register.RegisterRet.{RegisterRet}
use Rattle.model_objects.specs.declared.register.RegisterRet.TheVariants as register_rets
use Rattle.model_objects.specs.declared.keyed.KeyedCall.{KeyedCall}
use Rattle.json_histories.specs.declared.any_history.AnyHistory.{AnyHistory}
use Rattle.json_histories.specs.declared.any_history.AnyHistory.TheVariants as histories
use Rattle.json_histories.specs.declared.object_name.ObjectName.TheVariants as names
use Rattle.json_histories.specs.AnyForm.{form_of}
use Rattle.json_histories.specs.CounterForm as counter
use Rattle.json_histories.specs.Form.{session_form}
use Rattle.json_histories.specs.Json.{unknown}
use Rattle.json_histories.specs.ObjectNames.{text_of}
use Rattle.json_histories.specs.QueueForm as queue
use Rattle.json_histories.specs.RegisterForm as register
use Rattle.json_histories.specs.SetForm as set
use Rattle.json_histories.specs.Spelling.{rest_form, plain_form, keyed_form, entry_form, table_form, no_start_form}
use Rattle.json_histories.proofs.PartsForm.{formed}

-- how deep the elements of a list nest
abbrev pub deepest : List Data → ℕ
deepest ds = items_depth (items_of ds)

deepest-append : (ds es : List Data) → deepest ds ≡ 0 → deepest es ≡ 0 → deepest (ds ++ es) ≡ 0
deepest-append [] es first second = second
deepest-append (d ∷ ds) es first second =
    let rest : deepest ds ≡ 0 = omega arith in
    let more = deepest-append ds es rest second in
    omega arith

deepest-map : {A : Type 0} (f : A → Data) (n : ℕ) → ((x : A) → depth (f x) ≤ n) → (xs : List A) → deepest (map f xs) ≤ n
deepest-map f n each [] = omega arith
deepest-map f n each (x ∷ xs) =
    let here = each x in
    let more = deepest-map f n each xs in
    omega arith

module _ {C R : Type 0} (word_of : C → List ℕ) (arguments : C → List Data) (ret_form : R → List Data)
    (flat_arguments : (c : C) → deepest (arguments c) ≡ 0) (flat_ret : (r : R) → deepest (ret_form r) ≡ 0) where
  rest_is_flat : (c : C) (r : Option R) → deepest (rest_form arguments ret_form c r) ≡ 0
  rest_is_flat c None = deepest-append (arguments c) (unknown ∷ []) (flat_arguments c) refl
  rest_is_flat c (Some r) = deepest-append (arguments c) (ret_form r) (flat_arguments c) (flat_ret r)

  plain_depth : (c : C) (r : Option R) → depth (plain_form word_of arguments ret_form c r) ≤ 1
  plain_depth c r = let rest = rest_is_flat c r in omega arith

  keyed_depth : (c : KeyedCall C) (r : Option R) → depth (keyed_form word_of arguments ret_form c r) ≤ 1
  keyed_depth c r = let rest = rest_is_flat c.call r in omega arith

-- a history whose operations are lists of flat values
form_depth : {C R : Type 0} (name : List ℕ) (operation_form : C → Option R → Data) (ss : List (List (C × Option R))) (rest : List Data)
    → ((c : C) (r : Option R) → depth (operation_form c r) ≤ 1) → deepest rest ≤ 2 → depth (formed (name, map (session_form operation_form) ss, rest)) ≤ max_depth
form_depth name operation_form ss rest operations behind =
    let sessions : deepest (map (session_form operation_form) ss) ≤ 2 =
    deepest-map (session_form operation_form) 2
    (λ es. let each = deepest-map (λ (e : _). operation_form e.0 e.1) 1 (λ e. operations e.0 e.1) es in omega arith) ss in
    omega arith

table_depth : {S : Type 0} (start_form : S → Data) → ((s : S) → depth (start_form s) ≡ 0) → (es : List (ℕ × S)) → deepest (table_form start_form es) ≤ 2
table_depth start_form flat [] = omega arith
table_depth start_form flat (e ∷ es) =
    let entries : deepest (map (entry_form start_form) (e ∷ es)) ≤ 1 =
    deepest-map (entry_form start_form) 1 (λ x. let start = flat x.1 in omega arith) (e ∷ es) in
    omega arith

-- ---- the objects

flat_register_call : (c : RegisterCall) → deepest (register.arguments c) ≡ 0
flat_register_call (Write v) = refl
flat_register_call Read = refl

flat_register_ret : (r : RegisterRet) → deepest (register.ret_form r) ≡ 0
flat_register_ret register_rets.Done = refl
flat_register_ret (register_rets.Value v) = refl

flat_counter_ret : (r : CounterRet) → deepest (counter.ret_form r) ≡ 0
flat_counter_ret counter_rets.Done = refl
flat_counter_ret (counter_rets.Value n) = refl

flat_set_call : (c : SetCall) → deepest (set.arguments c) ≡ 0
flat_set_call (Add e) = refl
flat_set_call (Remove e) = refl
flat_set_call (Has e) = refl

flat_set_ret : (r : SetRet) → deepest (set.ret_form r) ≡ 0
flat_set_ret set_rets.Done = refl
flat_set_ret (set_rets.Has b) = refl

flat_queue_call : (c : QueueCall) → deepest (queue.arguments c) ≡ 0
flat_queue_call (Push v) = refl
flat_queue_call Pop = refl

flat_queue_ret : (r : QueueRet) → deepest (queue.ret_form r) ≡ 0
flat_queue_ret queue_rets.Done = refl
flat_queue_ret (queue_rets.Popped None) = refl
flat_queue_ret (queue_rets.Popped (Some v)) = refl

pub any_form_depth : (h : AnyHistory) → depth (form_of h) ≤ max_depth
any_form_depth (histories.Register h) =
    form_depth (text_of names.Register) (plain_form register.word_of register.arguments register.ret_form) h.1 []
    (plain_depth register.word_of register.arguments register.ret_form flat_register_call flat_register_ret) (omega arith)
any_form_depth (histories.Counter h) =
    form_depth (text_of names.Counter) (plain_form counter.word_of counter.arguments counter.ret_form) h.1 []
    (plain_depth counter.word_of counter.arguments counter.ret_form (λ c. refl) flat_counter_ret) (omega arith)
any_form_depth (histories.Set h) =
    form_depth (text_of names.Set) (plain_form set.word_of set.arguments set.ret_form) h.1 []
    (plain_depth set.word_of set.arguments set.ret_form flat_set_call flat_set_ret) (omega arith)
any_form_depth (histories.Queue h) =
    form_depth (text_of names.Queue) (plain_form queue.word_of queue.arguments queue.ret_form) h.1 []
    (plain_depth queue.word_of queue.arguments queue.ret_form flat_queue_call flat_queue_ret) (omega arith)
any_form_depth (histories.Memory h) =
    form_depth (text_of names.Memory) (keyed_form register.word_of register.arguments register.ret_form) h.1 (table_form register.start_form h.0)
    (keyed_depth register.word_of register.arguments register.ret_form flat_register_call flat_register_ret) (table_depth register.start_form (λ s. refl) h.0)
any_form_depth (histories.Counters h) =
    form_depth (text_of names.Counters) (keyed_form counter.word_of counter.arguments counter.ret_form) h.1 (table_form no_start_form h.0)
    (keyed_depth counter.word_of counter.arguments counter.ret_form (λ c. refl) flat_counter_ret) (table_depth no_start_form (λ s. refl) h.0)
any_form_depth (histories.Sets h) =
    form_depth (text_of names.Sets) (keyed_form set.word_of set.arguments set.ret_form) h.1 (table_form no_start_form h.0)
    (keyed_depth set.word_of set.arguments set.ret_form flat_set_call flat_set_ret) (table_depth no_start_form (λ s. refl) h.0)
any_form_depth (histories.Queues h) =
    form_depth (text_of names.Queues) (keyed_form queue.word_of queue.arguments queue.ret_form) h.1 (table_form no_start_form h.0)
    (keyed_depth queue.word_of queue.arguments queue.ret_form flat_queue_call flat_queue_ret) (table_depth no_start_form (λ s. refl) h.0)
