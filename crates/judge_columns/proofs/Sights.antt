-- What an operation shows of the last write of a session in its past.
use Rattle.std.specs.Prelude.{◌≡◌, ◌≢◌, ◌↔◌, ℕ, ◌+◌, ◌-◌, ◌<◌, ◌≤◌, List, length, slice_index_or, slice_set}
use Rattle.std.proofs.Common.{arith, refl, ap, sym, inl, inr, ◌∙◌, subst}
use Rattle.std.proofs.lemmas.List.{get_or-set_same, get_or-set_other}
use Rattle.model_history.specs.declared.op_id.OpId.{OpId}
use Rattle.model_history.specs.History.{IsOp, many_before, number}
use Rattle.order_memory.specs.Memory.{MemoryHistory, initial, Reads, Writes, IsDifferentiated}
use Rattle.order_memory.specs.Relations.{ReadsFrom}
use Rattle.order_memory.proofs.MemoryLaws.{same_read, write-of_history, write-or_read}
use Rattle.judge_memory.proofs.Numbers.{number-once}
use Rattle.judge_memory.specs.Parts.{AreVariables, IsPart}
use Rattle.judge_memory.specs.declared.part.Part.{Part}
use Rattle.judge_memory.specs.declared.part.Part.TheVariants as parts
use Rattle.judge_columns.specs.Columns.{AreWithinSession}
use Rattle.judge_columns.specs.declared.sight.Sight.{Sight}
use Rattle.judge_columns.specs.declared.sight.Sight.TheVariants as sights
use Rattle.judge_columns.specs.LastWrites.{AreWrites, IsLastBeside, IsLastIn, ShowsStart, WritesTo}
use Rattle.judge_columns.specs.Sights.{IsComparison, IsSight, IsTable, WritesNumbered}
use Rattle.judge_columns.proofs.LastWrites.{are-writes, last-once, last-renamed, look-some, look-none, table-other, table-write}
use Rattle.judge_columns.proofs.LateWrites.{beside-once}
use Rattle.judge_columns.proofs.Visits.{one-source}

module _ (h : MemoryHistory) (t : ℕ) (ends firsts : ℕ → ℕ) (r : OpId) where
  -- a read of an initial value has no source
  pub start-apart : (x : ℕ) → Reads h r x (initial h x) → (w a : OpId) → ¬ IsLastBeside h t ends w r a
  start-apart x reads w a (from, is, apart) =
      let same = same_read h r from.0 from.1 x (initial h x) from.3 reads in
      from.4 (same.1 ∙ ap (initial h) (sym same.0))

  pub source-apart : (w : OpId) → ReadsFrom h w r → ¬ ShowsStart h t ends r
  source-apart w from (a, x, reads, is) =
      let same = same_read h r from.0 from.1 x (initial h x) from.3 reads in
      from.4 (same.1 ∙ ap (initial h) (sym same.0))

  -- nothing is shown where no read has a write of its variable in its past
  sight-none : ((x v : ℕ) → Reads h r x v → (a : OpId) → ¬ IsLastIn h (WritesTo h) t x (ends (number h r)) a)
      → IsSight h t ends firsts r sights.Nothing
  sight-none none = (
    (λ shows. none shows.1 (initial h shows.1) shows.2 shows.0 shows.3),
    λ w a beside. absurd (none beside.0.0 beside.0.1 beside.0.3 a beside.1),
  )

  -- a write shows nothing
  pub looks-write : IsPart h r parts.Write → IsSight h t ends firsts r sights.Nothing
  looks-write (y, v, wrote) = sight-none (λ x u reads a is. write-or_read h r r y v x u wrote reads refl)

  module _ (distinct : IsDifferentiated h) (w a : OpId) (from : ReadsFrom h w r)
      (last : IsLastIn h (WritesTo h) t from.0 (ends (number h r)) a) where
    -- the last write is the source
    sight-own : a ≡ w → IsSight h t ends firsts r sights.Nothing
    sight-own same = (
      source-apart w from,
      λ u b (other, is, apart).
          let source = one-source h distinct u w r other from in
          let variable = (same_read h r other.0 other.1 from.0 from.1 other.3 from.3).0 in
          let here = last-once h (WritesTo h) (are-writes h) t from.0 (ends (number h r)) b a
          (subst (λ (x : ℕ). IsLastIn h (WritesTo h) t x (ends (number h r)) b) variable is) last in
          absurd (apart (here ∙ same ∙ sym source)),
    )

    -- the last write comes before the source
    sight-before : a ≢ w → number h a < firsts (number h w) → number h a < ends (number h w) → IsSight h t ends firsts r sights.Nothing
    sight-before apart ahead first = (
      source-apart w from,
      λ u b other.
          let same = beside-once h t ends distinct w r a (from, last, apart) u b other in
          let low = ap (λ (q : OpId). firsts (number h q)) same.0 in
          let high = ap (λ (q : OpId). ends (number h q)) same.0 in
          let place = ap (number h) same.1 in
          (omega arith, omega arith),
    )

    -- what comparing it with the source shows
    sight-beside : (s : Sight) → IsComparison (ends (number h w)) (firsts (number h w)) (number h a) (number h w) s
        → IsSight h t ends firsts r s
    sight-beside sights.Nothing (inl same) =
        sight-own (number-once h a w (write-of_history h a from.0 last.wrote.0 last.wrote.1)
        (write-of_history h w from.0 from.1 from.2) same)
    sight-beside sights.Nothing (inr (apart, ahead, first)) = sight-before (λ same. apart (ap (number h) same)) ahead first
    sight-beside sights.OverwrittenStart bad = absurd bad
    sight-beside sights.OverwrittenRead (apart, up_to) = (w, a, (from, last, λ same. apart (ap (number h) same)), up_to)
    sight-beside (sights.Conflict n m) (apart, ahead, at_a, at_w) =
        (w, a, (from, last, λ same. apart (ap (number h) same)), ahead, sym at_a, sym at_w)

-- what an operation that is no write has for its part
pub unwritten : (h : MemoryHistory) (o : OpId) (p : Part) → IsPart h o p → p ≢ parts.Write → (x v : ℕ) → ¬ Writes h o x v
unwritten h o parts.Write is apart x v wrote = apart refl
unwritten h o (parts.SourcedRead n) (w, from, at) apart x v wrote = write-or_read h o o x v from.0 from.1 wrote from.3 refl
unwritten h o parts.InitialRead (y, reads) apart x v wrote = write-or_read h o o x v y (initial h y) wrote reads refl
unwritten h o parts.ThinAirRead (y, u, reads, other, none) apart x v wrote = write-or_read h o o x v y u wrote reads refl
unwritten h o parts.UnknownRead (none, unread) apart x v wrote = none x v wrote

-- writes by the numbers of variables
pub are-numbered : (h : MemoryHistory) (variables : List ℕ) → AreWrites h (WritesNumbered h variables)
are-numbered h variables = record {
  is_op = λ x a wrote. write-of_history h a wrote.0.0 wrote.0.1 wrote.0.2;
  one = λ x y a first second. sym first.1 ∙ second.1;
}

module _ (h : MemoryHistory) (variables : List ℕ) (are : AreVariables h variables) where
  -- the variable of a known read has the number that its writes have
  pub numbered-same : (r : OpId) (y u : ℕ) → Reads h r y u → (a : OpId)
      → WritesNumbered h variables (slice_index_or variables (number h r) 0) a ↔ WritesTo h y a
  numbered-same r y u reads a = (
    (λ wrote.
        let same = (are a r wrote.0.0 y (wrote.0.1, inl wrote.0.2) (u, inr reads)).0 wrote.1 in
        (wrote.0.1, subst (λ (x : ℕ). Writes h a x wrote.0.1) same wrote.0.2)),
    λ wrote. ((y, wrote.0, wrote.1), (are a r y y (wrote.0, inl wrote.1) (u, inr reads)).1 refl),
  )

  module _ (t : ℕ) (ends firsts last : List ℕ) (start n x : ℕ) (begins : start ≡ many_before h t) (r : OpId) (is_op : IsOp h r)
      (at_n : number h r ≡ n) (variable : x ≡ slice_index_or variables n 0) (within : AreWithinSession h t (λ k. slice_index_or ends k 0))
      (table : IsTable h variables t (slice_index_or ends n 0) last) where
    abbrev E : ℕ → ℕ
    E k = slice_index_or ends k 0

    abbrev F : ℕ → ℕ
    F k = slice_index_or firsts k 0

    abbrev z : ℕ
    z = slice_index_or variables (number h r) 0

    in_place : IsTable h variables t (E (number h r)) last
    in_place = subst (λ (k : ℕ). IsTable h variables t (E k) last) (sym at_n) table

    inside : E (number h r) ≤ many_before h (t + 1)
    inside = (within r is_op).1

    place : z ≡ x
    place = ap (λ (k : ℕ). slice_index_or variables k 0) at_n ∙ sym variable

    after_same : slice_index_or last z 0 ≡ slice_index_or last x 0
    after_same = ap (λ (k : ℕ). slice_index_or last k 0) place

    end_same : E (number h r) ≡ E n
    end_same = ap E at_n

    -- nothing is shown where the table has no write of the session in the past of the operation
    pub looks-none : ¬ ((start < slice_index_or last x 0) × (slice_index_or last x 0 ≤ slice_index_or ends n 0))
        → IsSight h t (λ k. slice_index_or ends k 0) (λ k. slice_index_or firsts k 0) r sights.Nothing
    looks-none none = sight-none h t E F r (λ y u reads a is.
        look-none h (WritesNumbered h variables) (are-numbered h variables) t (E (number h r)) (λ k. slice_index_or last k 0) in_place
        inside z
        (λ both.
        let from = both.0 in let to = both.1 in let one = after_same in let two = end_same in
        none (omega arith, omega arith)) a
        (last-renamed h (WritesTo h) (WritesNumbered h variables) y z (λ b. let same = numbered-same r y u reads b in (same.1, same.0)) t
        (E (number h r)) a is))

    module _ (from : start < slice_index_or last x 0) (to : slice_index_or last x 0 ≤ slice_index_or ends n 0) where
      -- else it is the last write of the variable that the operation reads
      seen : (y u : ℕ) → Reads h r y u
          → (a : OpId) × IsLastIn h (WritesTo h) t y (E (number h r)) a × (number h a ≡ slice_index_or last x 0 - 1)
      seen y u reads =
          let one = after_same in
          let two = end_same in
          let found = look-some h (WritesNumbered h variables) (are-numbered h variables) t (E (number h r)) (λ k. slice_index_or last k 0)
          in_place inside z (slice_index_or last x 0 - 1) (omega arith) (omega arith) (omega arith) in (
            found.0,
            last-renamed h (WritesNumbered h variables) (WritesTo h) z y (numbered-same r y u reads) t (E (number h r)) found.0 found.1,
            found.2,
          )

      pub looks-start : IsPart h r parts.InitialRead → ShowsStart h t (λ k. slice_index_or ends k 0) r
      looks-start (y, reads) =
          let found = seen y (initial h y) reads in (found.0, y, reads, found.1)

      pub looks-beside : IsDifferentiated h → (source : ℕ) (s : Sight) → IsPart h r (parts.SourcedRead source)
          → IsComparison (slice_index_or ends source 0) (slice_index_or firsts source 0) (slice_index_or last x 0 - 1) source s
          → IsSight h t (λ k. slice_index_or ends k 0) (λ k. slice_index_or firsts k 0) r s
      looks-beside distinct source s (w, reads_from, at_w) comparison =
          let found = seen reads_from.0 reads_from.1 reads_from.3 in
          sight-beside h t E F r distinct w found.0 reads_from found.1 s
          (subst (λ (k : ℕ). IsComparison (E k) (F k) (number h found.0) k s) (sym at_w)
          (subst (λ (k : ℕ). IsComparison (E source) (F source) k source s) (sym found.2) comparison))

module _ (h : MemoryHistory) (variables : List ℕ) (t n x : ℕ) (last : List ℕ) (o : OpId) (is_op : IsOp h o) (at_n : number h o ≡ n) where
  -- an operation more is passed
  pub passed-write : IsPart h o parts.Write → x ≡ slice_index_or variables n 0 → x < length last → IsTable h variables t n last
      → IsTable h variables t (n + 1) (slice_set last x (n + 1))
  passed-write (y, v, wrote) variable in_table now =
      table-write h (WritesNumbered h variables) (are-numbered h variables) t n (λ k. slice_index_or last k 0) now o is_op at_n
      (λ k. slice_index_or (slice_set last x (n + 1)) k 0) x
      ((y, v, wrote), ap (λ (k : ℕ). slice_index_or variables k 0) at_n ∙ sym variable)
      (get_or-set_same last x (n + 1) 0 in_table)
      (λ k apart. get_or-set_other last x k (n + 1) 0 apart)

  pub passed-other : (p : Part) → IsPart h o p → p ≢ parts.Write → IsTable h variables t n last → IsTable h variables t (n + 1) last
  passed-other p is apart now =
      table-other h (WritesNumbered h variables) (are-numbered h variables) t n (λ k. slice_index_or last k 0) now o is_op at_n
      (λ k wrote. unwritten h o p is apart wrote.0.0 wrote.0.1 wrote.0.2)
