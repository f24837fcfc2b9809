-- The text that a script is answered: the lines of the replies of a run of its steps.
use Rattle.std.specs.Prelude.{◌≡◌, ℕ, Bool, List, Option, codes, length}
use Rattle.std.specs.List.{flat_map, zip}
use Rattle.serde_json.specs.Data.{Data}
use Rattle.model_objects.specs.AddRemoveSet.{answer as set_answer, matches as set_matches}
use Rattle.model_objects.specs.Counter.{answer as counter_answer, matches as counter_matches}
use Rattle.model_objects.specs.Keyed.{answer as keyed_answer}
use Rattle.model_objects.specs.Queue.{answer as queue_answer, matches as queue_matches}
use Rattle.model_objects.specs.Register.{answer as register_answer, matches as register_matches}
use Rattle.model_objects.specs.declared.keyed.KeyedCall.{KeyedCall}
use Rattle.model_history.specs.History.{HistoryValue}
use Rattle.json_histories.specs.CounterForm as counter
use Rattle.json_histories.specs.QueueForm as queue
use Rattle.json_histories.specs.RegisterForm as register
use Rattle.json_histories.specs.SetForm as set
use Rattle.json_histories.specs.Spelling.{keyed_form, no_start_form, plain_form, plain_start_form, table_form}
use Rattle.order_memory.specs.Memory.{memory_answer}
use Rattle.cert_check.specs.declared.criterion.Criterion.{Criterion}
use Rattle.pattern_check.specs.declared.pattern.Pattern.{Pattern}
use Rattle.pattern_check.specs.Patterns.{IsBadPattern}
use Rattle.live_simulation.specs.declared.reply.ReplyOf.{ReplyOf}
use Rattle.live_simulation.specs.Runs.{IsRun}
use Rattle.live_script.specs.ReplyLines.{line_for}
use Rattle.live_script.specs.ScriptForm.{ScriptValue}
use Rattle.live_script.specs.StepForm.{written_out}
use Rattle.live_script.specs.declared.any_script.AnyScript.{AnyScript}
use Rattle.live_script.specs.declared.any_script.AnyScript.TheVariants as scripts

-- the replies of a run of the script, one for each step, and their lines one after the other
pub record IsReplayOf {S C R : Type 0} (fits : C → R → Bool) (answer : S → List C → C → R) (passes : HistoryValue S C R → Criterion → Pattern → Type 0)
    (name : List ℕ) (operation_form : C → Option R → Data) (start_form : S → List Data) (script : ScriptValue S C R) (text : List ℕ) : Type 0 where
  pub replies : List (ReplyOf (HistoryValue S C R))
  pub many : length replies ≡ length (written_out script.sessions script.steps)
  pub run : IsRun fits answer passes script.start script.sessions (zip (written_out script.sessions script.steps) replies)
  pub lines : text ≡ flat_map (line_for name operation_form start_form) replies

module _ {S C R : Type 0} (fits : C → R → Bool) (answer : S → List C → C → R) (word_of : C → List ℕ) (arguments : C → List Data) (ret_form : R → List Data) where
  -- the same for an object without keys, and for one under keys that no pattern is against
  abbrev pub IsPlainReplay : List ℕ → ScriptValue S C R → List ℕ → Type 0
  IsPlainReplay name script text =
      IsReplayOf fits answer (λ h criterion pattern. ⊥) name (plain_form word_of arguments ret_form) plain_start_form script text

  abbrev pub IsKeyedReplay : S → (S → Data) → List ℕ → ScriptValue (List (ℕ × S)) (KeyedCall C) R → List ℕ → Type 0
  IsKeyedReplay plain start_form name script text =
      IsReplayOf (λ c r. fits c.call r) (keyed_answer plain answer) (λ h criterion pattern. ⊥)
      name (keyed_form word_of arguments ret_form) (table_form start_form) script text

-- the same for any object that has a name
abbrev pub IsReplay : AnyScript → List ℕ → Type 0
IsReplay (scripts.Register s) = IsPlainReplay register_matches register_answer register.word_of register.arguments register.ret_form (codes "register") s
IsReplay (scripts.Counter s) = IsPlainReplay counter_matches counter_answer counter.word_of counter.arguments counter.ret_form (codes "counter") s
IsReplay (scripts.Set s) = IsPlainReplay set_matches set_answer set.word_of set.arguments set.ret_form (codes "set") s
IsReplay (scripts.Queue s) = IsPlainReplay queue_matches queue_answer queue.word_of queue.arguments queue.ret_form (codes "queue") s
IsReplay (scripts.Memory s) =
    IsReplayOf (λ c r. register_matches c.call r) memory_answer IsBadPattern
    (codes "memory") (keyed_form register.word_of register.arguments register.ret_form) (table_form register.start_form) s
IsReplay (scripts.Counters s) =
    IsKeyedReplay counter_matches counter_answer counter.word_of counter.arguments counter.ret_form tt no_start_form (codes "counters") s
IsReplay (scripts.Sets s) =
    IsKeyedReplay set_matches set_answer set.word_of set.arguments set.ret_form tt no_start_form (codes "sets") s
IsReplay (scripts.Queues s) =
    IsKeyedReplay queue_matches queue_answer queue.word_of queue.arguments queue.ret_form tt no_start_form (codes "queues") s
