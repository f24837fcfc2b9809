use Rattle.std.proofs.Common.{◌∙◌, ap, refl}
use Rattle.json_histories.specs.ObjectNames.{text_of}
use Rattle.json_histories.specs.declared.object_name.ObjectName.TheVariants as names
use Rattle.live_script.specs.declared.any_script.AnyScript.TheVariants as scripts
use Rattle.live_script.proofs.ScriptsRead.{any_kept_of}
use Rattle.live_script.proofs.reader.read_named.Goals as goal

pub returns-in_ok-script_of-in-Register : goal.returns-in_ok-script_of-in-Register
returns-in_ok-script_of-in-Register c = λ p json named sessions after.
    any_kept_of _ _ _ _ _ _ scripts.Register (text_of names.Register) (λ s. refl) (λ s is. is) (λ s. refl) p (named ∙ ap text_of c.in-Register.is) _
    (c.in_ok-script_of-in-Register.ensures p json sessions after)

pub returns-in_ok-script_of-in-Counter : goal.returns-in_ok-script_of-in-Counter
returns-in_ok-script_of-in-Counter c = λ p json named sessions after.
    any_kept_of _ _ _ _ _ _ scripts.Counter (text_of names.Counter) (λ s. refl) (λ s is. is) (λ s. refl) p (named ∙ ap text_of c.in-Counter.is) _
    (c.in_ok-script_of-in-Counter.ensures p json sessions after)

pub returns-in_ok-script_of-in-Set : goal.returns-in_ok-script_of-in-Set
returns-in_ok-script_of-in-Set c = λ p json named sessions after.
    any_kept_of _ _ _ _ _ _ scripts.Set (text_of names.Set) (λ s. refl) (λ s is. is) (λ s. refl) p (named ∙ ap text_of c.in-Set.is) _
    (c.in_ok-script_of-in-Set.ensures p json sessions after)

pub returns-in_ok-script_of-in-Queue : goal.returns-in_ok-script_of-in-Queue
returns-in_ok-script_of-in-Queue c = λ p json named sessions after.
    any_kept_of _ _ _ _ _ _ scripts.Queue (text_of names.Queue) (λ s. refl) (λ s is. is) (λ s. refl) p (named ∙ ap text_of c.in-Queue.is) _
    (c.in_ok-script_of-in-Queue.ensures p json sessions after)

pub returns-in_ok-script_of-in-Memory : goal.returns-in_ok-script_of-in-Memory
returns-in_ok-script_of-in-Memory c = λ p json named sessions after.
    any_kept_of _ _ _ _ _ _ scripts.Memory (text_of names.Memory) (λ s. refl) (λ s is. is) (λ s. refl) p (named ∙ ap text_of c.in-Memory.is) _
    (c.in_ok-script_of-in-Memory.ensures p json sessions after)

pub returns-in_ok-script_of-in-Counters : goal.returns-in_ok-script_of-in-Counters
returns-in_ok-script_of-in-Counters c = λ p json named sessions after.
    any_kept_of _ _ _ _ _ _ scripts.Counters (text_of names.Counters) (λ s. refl) (λ s is. is) (λ s. refl) p (named ∙ ap text_of c.in-Counters.is) _
    (c.in_ok-script_of-in-Counters.ensures p json sessions after)

pub returns-in_ok-script_of-in-Sets : goal.returns-in_ok-script_of-in-Sets
returns-in_ok-script_of-in-Sets c = λ p json named sessions after.
    any_kept_of _ _ _ _ _ _ scripts.Sets (text_of names.Sets) (λ s. refl) (λ s is. is) (λ s. refl) p (named ∙ ap text_of c.in-Sets.is) _
    (c.in_ok-script_of-in-Sets.ensures p json sessions after)

pub returns-in_ok-script_of-in-Queues : goal.returns-in_ok-script_of-in-Queues
returns-in_ok-script_of-in-Queues c = λ p json named sessions after.
    any_kept_of _ _ _ _ _ _ scripts.Queues (text_of names.Queues) (λ s. refl) (λ s is. is) (λ s. refl) p (named ∙ ap text_of c.in-Queues.is) _
    (c.in_ok-script_of-in-Queues.ensures p json sessions after)
