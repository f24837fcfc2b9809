use Rattle.std.specs.Prelude.{◌≡◌, ◌⊎◌, ◌↔◌, ◌+◌, ◌<◌, ◌||◌, ℕ, Bool, IsTrue, List}
use Rattle.std.proofs.Common.{arith, sym, subst}
use Rattle.std.proofs.lemmas.List.{get_or_read}
use Rattle.model_history.specs.History.{number}
use Rattle.judge_memory.proofs.Numbers.{number-found}
use Rattle.judge_columns.specs.Forks.{AreForksFound, ShowsReadOf, ShowsStartOf}
use Rattle.judge_columns.specs.Words.{HasBit, HasBitAt, IsMarked}
use Rattle.judge_columns.proofs.ForkSights.{found-none, found-read, found-start, left-added, quiet-none, read-shown, seen-words, set-either, set-or, start-shown, three-apart}
use Rattle.judge_columns.proofs.forks.look_at.Goals as goal

pub returns-in-InitialRead-clause-found : goal.returns-in-InitialRead-clause-found
returns-in-InitialRead-clause-found c now =
    let h = c.args.index.now.history in
    let variables : List ℕ = c.args.index.now.variables in
    let n : ℕ = c.args.operation in
    let ws = c.requires.words in
    let writes : List ℕ = c.args._writes.now in
    let from : ℕ = c.args._from in
    let past : List ℕ = c.args.words.now.past.items in
    let future : List ℕ = c.args.words.now.future.items in
    let of_variable : List ℕ = c.args.words.now.of_variable.items in
    let start : Bool = c.args.overwritten.now.start in
    let read : Bool = c.args.overwritten.now.read in
    let late : List ℕ = c.args.late.now.items in
    let more : Bool = c.has_some.result in
    let a = number-found h n c.requires.operation in
    let x : ℕ = c.variable-variable.result in
    let below = c.requires.operation in
    let past_size = ws.past_size in
    let variable_size = ws.variable_size in
    let variable_below = c.variable-variable.ensures.below in
    let seen : ℕ = c.shared-seen.result in
    let exact = seen-words past of_variable variables n x c.index.result.now c.index-2.result.now seen
    (get_or_read past n c.index.result.now (omega arith) c.index.ensures 0)
    (get_or_read of_variable x c.index-2.result.now (omega arith) c.index-2.ensures 0)
    c.variable-variable.ensures.variable c.shared-seen.ensures (number h a.0) a.2 in
    let reads = c.in-InitialRead.ensures.part a.0 a.1 a.2 in
    let shown = start-shown h writes from c.requires.straight c.value_is_indexed.ensures.distinct c.requires.only variables past future of_variable
    c.value_is_indexed.ensures.variables ws.past ws.future ws.of_variable a.0 a.1 seen exact reads.0 reads.1 in
    subst (λ (m : ℕ). AreForksFound h writes from (m + 1) (start || more) read late) a.2
    (found-start h writes from a.0 a.1 start read late (subst (λ (m : ℕ). AreForksFound h writes from m start read late) (sym a.2) now)
    (start || more) reads.0 reads.1
    (set-or start more ((k : ℕ) × (k < 128) × HasBit seen k) ((k : ℕ) × (k < 128) × ShowsStartOf h (IsMarked h writes from k) a.0)
    c.has_some.ensures shown))

pub returns-in-SourcedRead-clause-found : goal.returns-in-SourcedRead-clause-found
returns-in-SourcedRead-clause-found c now =
    let h = c.args.index.now.history in
    let variables : List ℕ = c.args.index.now.variables in
    let n : ℕ = c.args.operation in
    let ws = c.requires.words in
    let writes : List ℕ = c.args._writes.now in
    let from : ℕ = c.args._from in
    let past : List ℕ = c.args.words.now.past.items in
    let future : List ℕ = c.args.words.now.future.items in
    let of_variable : List ℕ = c.args.words.now.of_variable.items in
    let start : Bool = c.args.overwritten.now.start in
    let read : Bool = c.args.overwritten.now.read in
    let late : List ℕ = c.args.late.now.items in
    let a = number-found h n c.requires.operation in
    let x : ℕ = c.variable-variable.result in
    let below = c.requires.operation in
    let past_size = ws.past_size in
    let variable_size = ws.variable_size in
    let variable_below = c.variable-variable.ensures.below in
    let seen : ℕ = c.shared-seen.result in
    let exact = seen-words past of_variable variables n x c.index.result.now c.index-2.result.now seen
    (get_or_read past n c.index.result.now (omega arith) c.index.ensures 0)
    (get_or_read of_variable x c.index-2.result.now (omega arith) c.index-2.ensures 0)
    c.variable-variable.ensures.variable c.shared-seen.ensures (number h a.0) a.2 in
    let source = c.in-SourcedRead.ensures.part a.0 a.1 a.2 in
    let read_now : Bool = c.leave.new.overwritten.read in
    let late_now : List ℕ = c.leave.new.late.items in
    let shown = read-shown h writes from c.requires.straight c.value_is_indexed.ensures.distinct c.requires.only variables past future of_variable
    c.value_is_indexed.ensures.variables ws.past ws.future ws.of_variable a.0 a.1 seen exact source.0 source.1 in
    let added = left-added h writes from c.requires.straight c.value_is_indexed.ensures.distinct c.requires.only variables past future of_variable
    c.value_is_indexed.ensures.variables ws.past ws.future ws.of_variable a.0 a.1 seen exact source.0 source.1 late late_now
    (subst (λ (m : ℕ). (i k : ℕ) → k < 128
    → HasBitAt late_now i k ↔ (HasBitAt late i k ⊎ ((i ≡ m) × (HasBit seen k × (¬ HasBitAt past m k))))) (sym source.2) c.leave.ensures.left) in
    let set = set-either (IsTrue read_now) (IsTrue read)
    ((k : ℕ) × (k < 128) × (HasBit seen k × (¬ HasBitAt past (number h source.0) k) × HasBitAt future (number h source.0) k))
    ((k : ℕ) × (k < 128) × ShowsReadOf h (IsMarked h writes from k) a.0)
    (subst (λ (m : ℕ). IsTrue read_now
    ↔ (IsTrue read ⊎ ((k : ℕ) × (k < 128) × (HasBit seen k × (¬ HasBitAt past m k) × HasBitAt future m k)))) (sym source.2) c.leave.ensures.read)
    shown in
    subst (λ (b : Bool). AreForksFound h writes from (n + 1) b read_now late_now) (sym c.leave.ensures.start)
    (subst (λ (m : ℕ). AreForksFound h writes from (m + 1) start read_now late_now) a.2
    (found-read h writes from a.0 a.1 start read late (subst (λ (m : ℕ). AreForksFound h writes from m start read late) (sym a.2) now)
    read_now late_now source.0 source.1 set added))

pub returns-in-Write : goal.returns-in-Write
returns-in-Write c =
    let h = c.args.index.now.history in
    let writes : List ℕ = c.args._writes.now in
    let from : ℕ = c.args._from in
    let start : Bool = c.args.overwritten.now.start in
    let read : Bool = c.args.overwritten.now.read in
    let late : List ℕ = c.args.late.now.items in
    let a = number-found h c.args.operation c.requires.operation in
    let apart = three-apart c.part.result c.in-Write.is in
    record {
      size = c.requires.size;
      found = λ now. subst (λ (m : ℕ). AreForksFound h writes from (m + 1) start read late) a.2
          (found-none h writes from a.0 a.1 start read late (subst (λ (m : ℕ). AreForksFound h writes from m start read late) (sym a.2) now)
          (quiet-none h writes from a.0 c.part.result (c.part.ensures.part a.0 a.1 a.2) apart.0 apart.1));
    }
