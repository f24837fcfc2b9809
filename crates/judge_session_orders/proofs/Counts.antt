-- The counts where an operation is placed, and what they say.
use Rattle.std.specs.Prelude.{◌≡◌, ◌≢◌, ◌↔◌, ℕ, ◌+◌, ◌<◌, List, length}
use Rattle.std.proofs.Common.{arith, sym, ap, subst, refl, ⊎_elim}
use Rattle.std.proofs.lemmas.Bool.{cases_eq}
use Rattle.model_history.specs.declared.op_id.OpId.{OpId}
use Rattle.model_history.specs.History.{IsOp, number}
use Rattle.order_memory.specs.Memory.{MemoryHistory, IsDifferentiated, Writes}
use Rattle.order_memory.specs.Relations.{ReadsFrom}
use Rattle.order_memory.proofs.MemoryLaws.{same_read, write-of_history, write-or_read}
use Rattle.judge_memory.proofs.Numbers.{number-once}
use Rattle.judge_session_orders.specs.Backward.{IsLeft, IsOpen, last_left, HasReadLeft, IsPlacing}
use Rattle.judge_session_orders.specs.Tables.{IsTest, CountsLeft, variable, WritesNumber, AreCounts}
use Rattle.judge_session_orders.proofs.LeftSums.{left-some, left-item, left-none, left-placed, left-same}
use Rattle.judge_session_orders.proofs.Tests.{test-of, writes_number-decided, reads_from-decided}

-- a known read has one source
pub source-once : (h : MemoryHistory) → IsDifferentiated h → (u w r : OpId) → ReadsFrom h u r → ReadsFrom h w r → u ≡ w
source-once h distinct u w r first second =
    let same = same_read h r first.0 first.1 second.0 second.1 first.3 second.3 in
    let wrote : Writes h u second.0 second.1 = rw (same.0, same.1) at (first.2) in
    distinct.once u w second.0 second.1 wrote second.2

module _ (k : ℕ) (has : OpId → Type 0) (t : ℕ) (left after : ℕ → ℕ) (placing : IsPlacing t left after) (below : t < k) where
  -- of what is placed, one fewer is left
  count-with : has (last_left left t) → (n m : ℕ) → n ≡ m + 1 → CountsLeft k left has n ↔ CountsLeft k after has m
  count-with held n m more = (
    λ counted item test.
        let old = counted item test in
        let placed = left-placed k item t left after placing below in
        let one = test.one (last_left left t) held in
        omega arith,
    λ counted item test.
        let old = counted item test in
        let placed = left-placed k item t left after placing below in
        let one = test.one (last_left left t) held in
        omega arith,
  )

  not-counted : ¬ has (last_left left t) → (item : OpId → ℕ) → IsTest has item → item (last_left left t) ≡ 0
  not-counted other item test = ⊎_elim
      (λ (none : item (last_left left t) ≡ 0). none)
      (λ (some : item (last_left left t) ≢ 0). absurd (other (test.only (last_left left t) some)))
      (cases_eq (item (last_left left t)) 0)

  -- of the rest, as many
  count-without : ¬ has (last_left left t) → (n m : ℕ) → n ≡ m → CountsLeft k left has n ↔ CountsLeft k after has m
  count-without other n m same = (
    λ counted item test.
        let old = counted item test in
        let placed = left-placed k item t left after placing below in
        let none = not-counted other item test in
        omega arith,
    λ counted item test.
        let old = counted item test in
        let placed = left-placed k item t left after placing below in
        let none = not-counted other item test in
        omega arith,
  )

module _ (h : MemoryHistory) (variables : List ℕ) (t : ℕ) (left after : ℕ → ℕ) (placing : IsPlacing t left after) (below : t < length h.1)
    (readers readers_after writes writes_after : ℕ → ℕ) where
  abbrev p : OpId
  p = last_left left t

  abbrev AreMoved : Type 0
  AreMoved = AreCounts h variables left readers writes ↔ AreCounts h variables after readers_after writes_after

  moved : ((w : OpId) → IsOp h w
      → CountsLeft (length h.1) left (ReadsFrom h w) (readers (number h w)) ↔ CountsLeft (length h.1) after (ReadsFrom h w)
      (readers_after (number h w)))
      → ((x : ℕ) → CountsLeft (length h.1) left (WritesNumber h variables x) (writes x)
      ↔ CountsLeft (length h.1) after (WritesNumber h variables x) (writes_after x)) → AreMoved
  moved of_readers of_writes = (
    λ now. record {
      reads_left = λ w is_w. (of_readers w is_w).0 (now.reads_left w is_w);
      writes_left = λ x. (of_writes x).0 (now.writes_left x);
    },
    λ now. record {
      reads_left = λ w is_w. (of_readers w is_w).1 (now.reads_left w is_w);
      writes_left = λ x. (of_writes x).1 (now.writes_left x);
    },
  )

  -- of a write the count of its variable is one less
  pub counts-write : (x v : ℕ) → Writes h p x v → ((n : ℕ) → readers n ≡ readers_after n)
      → writes (variable h variables p) ≡ writes_after (variable h variables p) + 1
      → ((y : ℕ) → y ≢ variable h variables p → writes y ≡ writes_after y) → AreMoved
  counts-write x v wrote same one others = moved
      (λ w is_w. count-without (length h.1) (ReadsFrom h w) t left after placing below
      (λ from. write-or_read h p p x v from.0 from.1 wrote from.3 refl) _ _ (same (number h w)))
      (λ y. ⊎_elim
      (λ (here : y ≡ variable h variables p). count-with (length h.1) (WritesNumber h variables y) t left after placing below
      ((x, v, wrote), sym here) (writes y) (writes_after y)
      (subst (λ (z : ℕ). writes z ≡ writes_after z + 1) (sym here) one))
      (λ (apart : y ≢ variable h variables p). count-without (length h.1) (WritesNumber h variables y) t left after placing below
      (λ number. apart (sym number.1)) _ _ (others y apart))
      (cases_eq y (variable h variables p)))

  -- of a read the count of its source is one less
  pub counts-read : IsDifferentiated h → (u : OpId) → ReadsFrom h u p → readers (number h u) ≡ readers_after (number h u) + 1
      → ((n : ℕ) → n ≢ number h u → readers n ≡ readers_after n) → ((x : ℕ) → writes x ≡ writes_after x) → AreMoved
  counts-read distinct u from one others same = moved
      (λ w is_w. ⊎_elim
      (λ (here : number h w ≡ number h u).
      let source : u ≡ w = number-once h u w (write-of_history h u from.0 from.1 from.2) is_w (sym here) in
      count-with (length h.1) (ReadsFrom h w) t left after placing below (subst (λ (q : OpId). ReadsFrom h q p) source from)
      (readers (number h w)) (readers_after (number h w)) (subst (λ (n : ℕ). readers n ≡ readers_after n + 1) (sym here) one))
      (λ (apart : number h w ≢ number h u). count-without (length h.1) (ReadsFrom h w) t left after placing below
      (λ read. apart (ap (number h) (source-once h distinct w u p read from))) _ _ (others (number h w) apart))
      (cases_eq (number h w) (number h u)))
      (λ x. count-without (length h.1) (WritesNumber h variables x) t left after placing below
      (λ number. write-or_read h p p number.0.0 number.0.1 from.0 from.1 number.0.2 from.3 refl) _ _ (same x))

  -- of any other operation no count changes
  pub counts-other : ((x v : ℕ) → ¬ Writes h p x v) → ((w : OpId) → ¬ ReadsFrom h w p) → ((n : ℕ) → readers n ≡ readers_after n)
      → ((x : ℕ) → writes x ≡ writes_after x) → AreMoved
  counts-other no_write no_read same_readers same_writes = moved
      (λ w is_w. count-without (length h.1) (ReadsFrom h w) t left after placing below (no_read w) _ _ (same_readers (number h w)))
      (λ x. count-without (length h.1) (WritesNumber h variables x) t left after placing below
      (λ number. no_write number.0.0 number.0.1 number.0.2) _ _ (same_writes x))

module _ (h : MemoryHistory) (variables : List ℕ) (left : ℕ → ℕ) (readers writes : ℕ → ℕ) where
  -- where nothing is left, it is so wherever nothing is left
  pub counts-none : ((t : ℕ) → ¬ IsOpen left t) → (after : ℕ → ℕ) → ((t : ℕ) → ¬ IsOpen after t)
      → AreCounts h variables left readers writes → AreCounts h variables after readers writes
  counts-none none after still counts = record {
    reads_left = λ w is_w item test.
        let old = counts.reads_left w is_w item test in
        let first = left-none (length h.1) item left none in
        let second = left-none (length h.1) item after still in
        omega arith;
    writes_left = λ x item test.
        let old = counts.writes_left x item test in
        let first = left-none (length h.1) item left none in
        let second = left-none (length h.1) item after still in
        omega arith;
  }

  -- counts are those of equal numbers
  pub counts-same : (after : ℕ → ℕ) → ((t : ℕ) → left t ≡ after t) → AreCounts h variables left readers writes
      → AreCounts h variables after readers writes
  counts-same after same counts = record {
    reads_left = λ w is_w item test.
        let old = counts.reads_left w is_w item test in
        let sums = left-same (length h.1) item left after same in
        omega arith;
    writes_left = λ x item test.
        let old = counts.writes_left x item test in
        let sums = left-same (length h.1) item left after same in
        omega arith;
  }

  pub counts-zero : ((t : ℕ) → ¬ IsOpen left t) → ((n : ℕ) → readers n ≡ 0) → ((x : ℕ) → writes x ≡ 0)
      → AreCounts h variables left readers writes
  counts-zero none no_reader no_writer = record {
    reads_left = λ w is_w item test. let zero = no_reader (number h w) in let sum = left-none (length h.1) item left none in omega arith;
    writes_left = λ x item test. let zero = no_writer x in let sum = left-none (length h.1) item left none in omega arith;
  }

  module _ (counts : AreCounts h variables left readers writes) where
    -- no read of a write with no readers is left, and of one with readers some read is
    pub unread : ((a : OpId) → IsLeft left a → a.session < length h.1) → (w : OpId) → IsOp h w → readers (number h w) ≡ 0
        → ¬ HasReadLeft h left w
    unread inside w is_w none (q, is_left, from) =
        let test = test-of (ReadsFrom h w) (reads_from-decided h w) in
        let counted = left-item (length h.1) test.0 left q (inside q is_left) is_left in
        let one = test.1.one q from in
        let sum = counts.reads_left w is_w test.0 test.1 in
        omega arith

    pub read : (w : OpId) → IsOp h w → readers (number h w) ≢ 0 → HasReadLeft h left w
    read w is_w some =
        let test = test-of (ReadsFrom h w) (reads_from-decided h w) in
        let sum = counts.reads_left w is_w test.0 test.1 in
        let found = left-some (length h.1) test.0 left (λ none. some (omega arith)) in
        (found.0, found.1, test.1.only found.0 found.2)

    -- the same of the writes of a variable
    pub unwritten : ((a : OpId) → IsLeft left a → a.session < length h.1) → (x : ℕ) → writes x ≡ 0 → (b : OpId)
        → WritesNumber h variables x b
        → ¬ IsLeft left b
    unwritten inside x none b wrote is_left =
        let test = test-of (WritesNumber h variables x) (writes_number-decided h variables x) in
        let counted = left-item (length h.1) test.0 left b (inside b is_left) is_left in
        let one = test.1.one b wrote in
        let sum = counts.writes_left x test.0 test.1 in
        omega arith

    pub written : (x : ℕ) → writes x ≢ 0 → (b : OpId) × IsLeft left b × WritesNumber h variables x b
    written x some =
        let test = test-of (WritesNumber h variables x) (writes_number-decided h variables x) in
        let sum = counts.writes_left x test.0 test.1 in
        let found = left-some (length h.1) test.0 left (λ none. some (omega arith)) in
        (found.0, found.1, test.1.only found.0 found.2)

    -- what is left is counted
    pub some-reader : ((a : OpId) → IsLeft left a → a.session < length h.1) → (w q : OpId) → IsOp h w → IsLeft left q → ReadsFrom h w q
        → readers (number h w) ≢ 0
    some-reader inside w q is_w is_left from none = unread inside w is_w none (q, is_left, from)

    pub some-writer : ((a : OpId) → IsLeft left a → a.session < length h.1) → (x : ℕ) (b : OpId) → IsLeft left b
        → WritesNumber h variables x b
        → writes x ≢ 0
    some-writer inside x b is_left wrote none = unwritten inside x none b wrote is_left
