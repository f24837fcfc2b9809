-- What is on its way stays so where one operation more is placed.
use Rattle.std.specs.Prelude.{◌≡◌, ◌≢◌, ℕ, ◌+◌, ◌<◌, Bool, true, IsTrue, ◌∷◌, Option, Some, None, length, slice_index_or}
use Rattle.std.proofs.Common.{arith, refl, sym, ap, subst, inl, inr, ◌∙◌}
use Rattle.model_history.specs.declared.op_id.OpId.{OpId}
use Rattle.model_history.specs.History.{IsOp, number}
use Rattle.order_causal.specs.Orders.{program_past}
use Rattle.order_causal.proofs.PathsLaws.{leads-edge}
use Rattle.order_memory.specs.Memory.{MemoryHistory, initial, Writes, Reads}
use Rattle.order_memory.specs.Relations.{ReadsFrom, IsEdge}
use Rattle.order_memory.proofs.HappenedBeforeLaws.{program_past-parts}
use Rattle.order_memory.proofs.MemoryLaws.{same_read, write-of_history, write-or_read}
use Rattle.judge_memory.specs.Indexed.{Indexed}
use Rattle.judge_session_orders.specs.declared.backward.Backward.{Backward}
use Rattle.judge_session_orders.specs.Backward.{IsLeft, last_left, IsPlacing}
use Rattle.judge_session_orders.specs.OnItsWay.{CanBePlaced, HasSizes, IsKnown, IsPlaced, left_of}
use Rattle.judge_session_orders.specs.SessionOrders.{last_op}
use Rattle.judge_session_orders.specs.SessionStates.{IsSessionState, OverwritesStart}
use Rattle.judge_session_orders.specs.Tables.{AreCounts, AreLocks, IsUnsourced, variable}
use Rattle.judge_session_orders.proofs.Counts.{counts-write, counts-read, counts-other, some-reader, some-writer, unwritten, written}
use Rattle.judge_session_orders.proofs.FreeLaws.{last-op, left-session}
use Rattle.judge_session_orders.proofs.Locks.{other-locks, read-locks, written-locks}
use Rattle.judge_session_orders.proofs.SessionSteps.{state-placed, state-overwritten}
use Rattle.judge_session_orders.proofs.Stuck.{past-own}

module _ (index : Indexed) (b : Backward) (t : ℕ) (can : CanBePlaced index b t) where
  abbrev h : MemoryHistory
  h = index.history

  abbrev o : OpId
  o = last_op index.history b.own

  abbrev left : ℕ → ℕ
  left = left_of index.history b

  abbrev p : OpId
  p = last_left left t

  abbrev readers_in : Backward → ℕ → ℕ
  readers_in d n = slice_index_or d.readers.items n 0

  abbrev writes_in : Backward → ℕ → ℕ
  writes_in d x = slice_index_or d.writes.items x 0

  abbrev lock_in : Backward → ℕ → Option ℕ
  lock_in d x = slice_index_or d.locks.items x None

  p-left : IsLeft left p
  p-left = let is_open = can.free.0 in omega arith

  p-op : IsOp h p
  p-op = last-op index b can.on_its_way t can.free.0

  inside : (a : OpId) → IsLeft left a → a.session < length h.1
  inside = left-session index b can.on_its_way

  -- the operation itself is counted, if it is a write or reads from one
  pub writer-some : (x v : ℕ) → Writes h p x v → writes_in b (variable h index.variables p) ≢ 0
  writer-some x v wrote =
      some-writer h index.variables left (readers_in b) (writes_in b) can.on_its_way.counts inside (variable h index.variables p) p
      p-left ((x, v, wrote), refl)

  pub reader-some : (u : OpId) → ReadsFrom h u p → readers_in b (number h u) ≢ 0
  reader-some u from =
      some-reader h index.variables left (readers_in b) (writes_in b) can.on_its_way.counts inside u p
      (write-of_history h u from.0 from.1 from.2) p-left from

  -- only an operation of the session itself overwrites the start, and only a read of an initial value
  pub other-kept : t ≢ b.own → ¬ OverwritesStart h o left p
  other-kept other (w, x, v, kept, reads, wrote, is_left) = other (program_past-parts o p kept).0

  pub unread-kept : ((x : ℕ) → ¬ Reads h p x (initial h x)) → ¬ OverwritesStart h o left p
  unread-kept none (w, x, v, kept, reads, wrote, is_left) = none x reads

  -- where no write of its variable is counted, none is left
  pub unwritten-kept : (x : ℕ) → Reads h p x (initial h x) → writes_in b (variable h index.variables p) ≡ 0 → ¬ OverwritesStart h o left p
  unwritten-kept x reads none (w, y, v, kept, read, wrote, is_left) =
      let same = same_read h p x (initial h x) y (initial h y) reads read in
      unwritten h index.variables left (readers_in b) (writes_in b) can.on_its_way.counts inside (variable h index.variables p) none w
      ((y, v, wrote), (can.on_its_way.known.variables w p y x (v, inl wrote) (initial h x, inr reads)).1 (sym same.0)) is_left

  kept-own : t ≡ b.own → IsTrue (program_past o p)
  kept-own same = past-own h o can.on_its_way.known.operation (λ before. can.on_its_way.known.straight (o, before)) p
      (can.on_its_way.state.backward.within p p-left) same

  -- else one is
  pub written-overwrites : t ≡ b.own → (x : ℕ) → Reads h p x (initial h x) → writes_in b (variable h index.variables p) ≢ 0
      → OverwritesStart h o left p
  written-overwrites same x reads some =
      let found = written h index.variables left (readers_in b) (writes_in b) can.on_its_way.counts (variable h index.variables p) some in
      let w : OpId = found.0 in
      let number_of = found.2 in
      let y : ℕ = number_of.0.0 in
      let v : ℕ = number_of.0.1 in
      let key : y ≡ x = (can.on_its_way.known.variables w p y x (v, inl number_of.0.2) (initial h x, inr reads)).0 number_of.1 in
      (w, x, v, kept-own same, reads, subst (λ (z : ℕ). Writes h w z v) key number_of.0.2, found.1)

  module _ (c : Backward) (mine : c.own ≡ b.own) (sizes : HasSizes index c) (less : slice_index_or b.ends.items t 0 ≡ slice_index_or
      c.ends.items t 0 + 1)
      (others : (u : ℕ) → u ≢ t → slice_index_or c.ends.items u 0 ≡ slice_index_or b.ends.items u 0) where
    abbrev after : ℕ → ℕ
    after = left_of index.history c

    pub placing : IsPlacing t left after
    placing = record {
      placed = (let is_open = can.free.0 in omega arith);
      others = λ u apart. (let same = others u apart in omega arith);
    }

    placed-as : (start : Bool) → c.start ≡ start → IsSessionState h o after (p ∷ can.on_its_way.ops) start
        → AreCounts h index.variables after (readers_in c) (writes_in c) → AreLocks h index.variables o after (lock_in c)
        → IsPlaced index b c t
    placed-as start same state counts locks = record {
      on_its_way = record {
        known = subst (IsKnown index) (sym mine) can.on_its_way.known;
        sizes = sizes;
        ops = p ∷ can.on_its_way.ops;
        state = subst (λ (s : ℕ). IsSessionState h (last_op h s) after (p ∷ can.on_its_way.ops) c.start) (sym mine)
            (subst (IsSessionState h o after (p ∷ can.on_its_way.ops)) (sym same) state);
        counts = counts;
        locks = subst (λ (s : ℕ). AreLocks h index.variables (last_op h s) after (lock_in c)) (sym mine) locks;
      };
      own = mine;
      placing = placing;
    }

    state-kept : ¬ OverwritesStart h o left p → IsSessionState h o after (p ∷ can.on_its_way.ops) b.start
    state-kept right =
        state-placed h can.on_its_way.known.straight o can.on_its_way.known.operation t left after placing can.free.1 can.turn
        can.on_its_way.ops b.start
        can.on_its_way.state right

    pub write-placed : (x v : ℕ) → Writes h p x v → ((n : ℕ) → readers_in b n ≡ readers_in c n)
        → writes_in b (variable h index.variables p) ≡ writes_in c (variable h index.variables p) + 1
        → ((y : ℕ) → y ≢ variable h index.variables p → writes_in b y ≡ writes_in c y)
        → lock_in c (variable h index.variables p) ≡ None → ((y : ℕ) → y ≢ variable h index.variables p → lock_in c y ≡ lock_in b y)
        → c.start ≡ b.start → IsPlaced index b c t
    write-placed x v wrote same one fewer opened locks start = placed-as b.start start
        (state-kept (λ overwrites. write-or_read h p p x v overwrites.1 (initial h overwrites.1) wrote overwrites.4 refl))
        ((counts-write h index.variables t left after placing can.exists (readers_in b) (readers_in c) (writes_in b) (writes_in c) x v
        wrote same one fewer).0
        can.on_its_way.counts)
        (written-locks h o t left after placing index.variables can.on_its_way.known.variables (lock_in b) can.on_its_way.locks
        can.free.1 x v wrote (lock_in c) opened
        locks)

    source-kept : (u : OpId) → ReadsFrom h u p → ¬ OverwritesStart h o left p
    source-kept u from overwrites =
        let same = same_read h p from.0 from.1 overwrites.1 (initial h overwrites.1) from.3 overwrites.4 in
        from.4 (same.1 ∙ ap (initial h) (sym same.0))

    no-write : (u : OpId) → ReadsFrom h u p → (x v : ℕ) → ¬ Writes h p x v
    no-write u from x v wrote = write-or_read h p p x v from.0 from.1 wrote from.3 refl

    read-counts : (u : OpId) → ReadsFrom h u p → readers_in b (number h u) ≡ readers_in c (number h u) + 1
        → ((n : ℕ) → n ≢ number h u → readers_in b n ≡ readers_in c n) → ((x : ℕ) → writes_in b x ≡ writes_in c x)
        → AreCounts h index.variables after (readers_in c) (writes_in c)
    read-counts u from one fewer same =
        (counts-read h index.variables t left after placing can.exists (readers_in b) (readers_in c) (writes_in b) (writes_in c)
        can.on_its_way.known.distinct u from one fewer same).0 can.on_its_way.counts

    pub own_read-placed : t ≡ b.own → (u : OpId) → ReadsFrom h u p → readers_in b (number h u) ≡ readers_in c (number h u) + 1
        → ((n : ℕ) → n ≢ number h u → readers_in b n ≡ readers_in c n) → ((x : ℕ) → writes_in b x ≡ writes_in c x)
        → lock_in c (variable h index.variables p) ≡ Some (number h u)
        → ((y : ℕ) → y ≢ variable h index.variables p → lock_in c y ≡ lock_in b y) → c.start ≡ b.start → IsPlaced index b c t
    own_read-placed same u from one fewer writes locked locks start = placed-as b.start start (state-kept (source-kept u from))
        (read-counts u from one fewer writes)
        (read-locks h o t left after placing index.variables can.on_its_way.known.variables (lock_in b) can.on_its_way.locks can.free.1
        can.on_its_way.known.distinct u from same (kept-own same)
        (can.on_its_way.state.order.causes u p (leads-edge (IsEdge h) u p (inr from)) p-left) (lock_in c) locked locks)

    pub other_read-placed : t ≢ b.own → (u : OpId) → ReadsFrom h u p → readers_in b (number h u) ≡ readers_in c (number h u) + 1
        → ((n : ℕ) → n ≢ number h u → readers_in b n ≡ readers_in c n) → ((x : ℕ) → writes_in b x ≡ writes_in c x)
        → ((y : ℕ) → lock_in c y ≡ lock_in b y) → c.start ≡ b.start → IsPlaced index b c t
    other_read-placed other u from one fewer writes locks start = placed-as b.start start (state-kept (source-kept u from))
        (read-counts u from one fewer writes)
        (other-locks h o t left after placing index.variables can.on_its_way.known.variables (lock_in b) can.on_its_way.locks can.free.1
        (no-write u from) (λ kept w read. other (program_past-parts o p kept).0) (lock_in c) locks)

    module _ (none : IsUnsourced h p) (readers : (n : ℕ) → readers_in b n ≡ readers_in c n) (writes : (x : ℕ)
        → writes_in b x ≡ writes_in c x)
        (locks : (y : ℕ) → lock_in c y ≡ lock_in b y) where
      same-counts : AreCounts h index.variables after (readers_in c) (writes_in c)
      same-counts =
          (counts-other h index.variables t left after placing can.exists (readers_in b) (readers_in c) (writes_in b) (writes_in c)
          none.0 none.1 readers writes).0
          can.on_its_way.counts

      same-locks : AreLocks h index.variables o after (lock_in c)
      same-locks = other-locks h o t left after placing index.variables can.on_its_way.known.variables (lock_in b) can.on_its_way.locks
          can.free.1
          none.0 (λ kept w. none.1 w) (lock_in c) locks

      pub other-placed : ¬ OverwritesStart h o left p → c.start ≡ b.start → IsPlaced index b c t
      other-placed right start = placed-as b.start start (state-kept right) same-counts same-locks

      pub overwritten-placed : OverwritesStart h o left p → c.start ≡ true → IsPlaced index b c t
      overwritten-placed overwrites start = placed-as true start
          (state-overwritten h can.on_its_way.known.straight o can.on_its_way.known.operation t left after placing can.free.1 can.turn
          can.on_its_way.ops b.start
          can.on_its_way.state overwrites)
          same-counts same-locks
