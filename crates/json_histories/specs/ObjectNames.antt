-- The names of the objects whose histories have a form.
use Rattle.std.specs.Prelude.{ℕ, nat_eq, List, codes, Option, Some, None, if◌then◌else◌}
use Rattle.std.specs.Cmp.Lexicographic.{pointwise}
use Rattle.json_histories.specs.declared.object_name.ObjectName.{ObjectName}
use Rattle.json_histories.specs.declared.object_name.ObjectName.TheVariants.{Register, Counter, Set, Queue, Memory, Counters, Sets, Queues}

abbrev pub text_of : ObjectName → List ℕ
text_of Register = codes "register"
text_of Counter = codes "counter"
text_of Set = codes "set"
text_of Queue = codes "queue"
text_of Memory = codes "memory"
text_of Counters = codes "counters"
text_of Sets = codes "sets"
text_of Queues = codes "queues"

-- the name that a text is, where it is one
abbrev pub keyed_name_at : List ℕ → Option ObjectName
keyed_name_at text =
    if pointwise nat_eq text (codes "memory") then Some Memory
    else (if pointwise nat_eq text (codes "counters") then Some Counters
    else (if pointwise nat_eq text (codes "sets") then Some Sets
    else (if pointwise nat_eq text (codes "queues") then Some Queues else None)))

abbrev pub name_at : List ℕ → Option ObjectName
name_at text =
    if pointwise nat_eq text (codes "register") then Some Register
    else (if pointwise nat_eq text (codes "counter") then Some Counter
    else (if pointwise nat_eq text (codes "set") then Some Set
    else (if pointwise nat_eq text (codes "queue") then Some Queue else keyed_name_at text)))
