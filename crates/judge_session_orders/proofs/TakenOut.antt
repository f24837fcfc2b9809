-- The counts of a state, where the last operation of a session that is left is taken out of it.
use Rattle.std.specs.Prelude.{◌≡◌, ◌≢◌, ℕ, ◌+◌, ◌-◌, ◌<◌, ◌≤◌, List, length, slice_index_or}
use Rattle.std.proofs.Common.{arith, refl, ap, ⊎_elim}
use Rattle.std.proofs.lemmas.Bool.{cases_lt}
use Rattle.std.proofs.lemmas.List.{get_or_past}
use Rattle.model_history.specs.declared.op_id.OpId.{OpId}
use Rattle.model_history.specs.History.{IsOp, many_before, number}
use Rattle.order_memory.specs.Memory.{MemoryHistory, IsDifferentiated, Writes}
use Rattle.order_memory.specs.Relations.{ReadsFrom}
use Rattle.order_memory.proofs.MemoryLaws.{write-of_history}
use Rattle.judge_memory.proofs.Numbers.{one_more}
use Rattle.judge_memory.specs.Indexed.{Indexed}
use Rattle.judge_session_orders.specs.declared.backward.Backward.{Backward}
use Rattle.judge_session_orders.specs.Backward.{IsLeft, IsPlacing, last_left}
use Rattle.judge_session_orders.specs.OnItsWay.{HasCounts, HasSizes, left_of}
use Rattle.judge_session_orders.specs.Beginnings.{IsLeftOnly}
use Rattle.judge_session_orders.specs.Tables.{left_counts, variable}
use Rattle.judge_session_orders.proofs.Counts.{counts-write, counts-read, counts-other, some-reader, some-writer}

module _ (index : Indexed) (b : Backward) (t : ℕ) (exists : t < length index.history.1) (sizes : HasSizes index b)
    (counts : HasCounts index (left_of index.history b) b) (some : many_before index.history t < slice_index_or b.ends.items t 0)
    (within : slice_index_or b.ends.items t 0 ≤ many_before index.history (t + 1)) where
  abbrev h : MemoryHistory
  h = index.history

  abbrev left : ℕ → ℕ
  left = left_of index.history b

  abbrev p : OpId
  p = last_left left t

  abbrev readers_in : Backward → ℕ → ℕ
  readers_in d n = slice_index_or d.readers.items n 0

  abbrev writes_in : Backward → ℕ → ℕ
  writes_in d x = slice_index_or d.writes.items x 0

  pub last-of_history : IsOp h p
  last-of_history = let more = one_more h t exists in omega arith

  pub last-number : number h p ≡ slice_index_or b.ends.items t 0 - 1
  last-number = omega arith

  is_left : IsLeft left p
  is_left = omega arith

  inside : (a : OpId) → IsLeft left a → a.session < length h.1
  inside a left_too = ⊎_elim
      (λ (below : a.session < length h.1). below)
      (λ (past : length h.1 ≤ a.session).
      let size = sizes.ends in
      let none = get_or_past b.ends.items a.session 0 (omega arith) in
      absurd (omega arith))
      (cases_lt a.session (length h.1))

  -- the operation itself is counted, if it is a write or reads from one
  pub last-written : (x v : ℕ) → Writes h p x v → writes_in b (variable h index.variables p) ≢ 0
  last-written x v wrote =
      some-writer h index.variables left (readers_in b) (writes_in b) counts inside (variable h index.variables p) p is_left
      ((x, v, wrote), refl)

  pub last-read : (u : OpId) → ReadsFrom h u p → readers_in b (number h u) ≢ 0
  last-read u from =
      some-reader h index.variables left (readers_in b) (writes_in b) counts inside u p (write-of_history h u from.0 from.1 from.2)
      is_left from

  module _ (d : Backward) (less : slice_index_or b.ends.items t 0 ≡ slice_index_or d.ends.items t 0 + 1)
      (others : (u : ℕ) → u ≢ t → slice_index_or d.ends.items u 0 ≡ slice_index_or b.ends.items u 0) where
    abbrev after : ℕ → ℕ
    after = left_of index.history d

    placing : IsPlacing t left after
    placing = record { placed = omega arith; others = λ u apart. ap (λ (n : ℕ). n - many_before h u) (others u apart) }

    pub taken-write : (x v : ℕ) → Writes h p x v → ((n : ℕ) → readers_in b n ≡ readers_in d n)
        → writes_in b (variable h index.variables p) ≡ writes_in d (variable h index.variables p) + 1
        → ((y : ℕ) → y ≢ variable h index.variables p → writes_in b y ≡ writes_in d y) → HasCounts index after d
    taken-write x v wrote same one apart =
        (counts-write h index.variables t left after placing exists (readers_in b) (readers_in d) (writes_in b) (writes_in d) x v wrote
        same one apart).0 counts

    pub taken-read : IsDifferentiated h → (u : OpId) → ReadsFrom h u p → readers_in b (number h u) ≡ readers_in d (number h u) + 1
        → ((n : ℕ) → n ≢ number h u → readers_in b n ≡ readers_in d n) → ((x : ℕ) → writes_in b x ≡ writes_in d x) → HasCounts index after d
    taken-read distinct u from one apart same =
        (counts-read h index.variables t left after placing exists (readers_in b) (readers_in d) (writes_in b) (writes_in d) distinct u from
        one apart same).0 counts

    pub taken-other : ((x v : ℕ) → ¬ Writes h p x v) → ((w : OpId) → ¬ ReadsFrom h w p) → ((n : ℕ) → readers_in b n ≡ readers_in d n)
        → ((x : ℕ) → writes_in b x ≡ writes_in d x) → HasCounts index after d
    taken-other no_write no_read same_readers same_writes =
        (counts-other h index.variables t left after placing exists (readers_in b) (readers_in d) (writes_in b) (writes_in d) no_write no_read
        same_readers same_writes).0 counts

-- where of each session is left what is before a number, as many operations are left as these numbers say
pub left-only : (h : MemoryHistory) (pasts ends : List ℕ) → length pasts ≡ length h.1 → length ends ≡ length h.1
    → IsLeftOnly h (length h.1) pasts ends → (t : ℕ) → left_counts h ends t ≡ left_counts h pasts t
left-only h pasts ends size_pasts size_ends only t = ⊎_elim
    (λ (below : t < length h.1). let end = only t below in omega arith)
    (λ (past : length h.1 ≤ t).
    let first = get_or_past pasts t 0 (omega arith) in
    let second = get_or_past ends t 0 (omega arith) in
    omega arith)
    (cases_lt t (length h.1))
