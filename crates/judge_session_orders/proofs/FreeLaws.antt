-- What the counts and locks say of whether a session can go on.
use Rattle.std.specs.Prelude.{◌≡◌, ◌≢◌, ℕ, ◌-◌, ◌<◌, length, Option, Some, None, slice_index_or}
use Rattle.std.proofs.Common.{arith, refl, sym, ap, subst, inl, inr, ◌∙◌}
use Rattle.std.proofs.lemmas.Option.{same_Some}
use Rattle.model_history.specs.declared.op_id.OpId.{OpId}
use Rattle.model_history.specs.History.{IsOp, number}
use Rattle.order_causal.proofs.OrdersLaws.{session-of_history}
use Rattle.order_memory.specs.Memory.{MemoryHistory, Writes}
use Rattle.order_memory.specs.Relations.{ReadsFrom}
use Rattle.order_memory.proofs.HappenedBeforeLaws.{past-of_history}
use Rattle.order_memory.proofs.MemoryLaws.{write-or_read}
use Rattle.judge_memory.specs.Indexed.{Indexed}
use Rattle.judge_session_orders.specs.declared.backward.Backward.{Backward}
use Rattle.judge_session_orders.specs.Backward.{IsLeft, IsOpen, last_left, HasReadLeft, IsLockedOut}
use Rattle.judge_session_orders.specs.OnItsWay.{IsOnItsWay, IsShutOut, IsStopped, left_of}
use Rattle.judge_session_orders.specs.SessionOrders.{last_op}
use Rattle.judge_session_orders.specs.Tables.{IsUnsourced, variable}
use Rattle.judge_session_orders.proofs.Counts.{source-once, unread, read}
use Rattle.judge_session_orders.proofs.Locks.{admitted, locked-out, source-same}

module _ (index : Indexed) (b : Backward) (now : IsOnItsWay index b) where
  abbrev h : MemoryHistory
  h = index.history

  abbrev o : OpId
  o = last_op index.history b.own

  abbrev left : ℕ → ℕ
  left = left_of index.history b

  -- what is left is of the history
  pub left-op : (a : OpId) → IsLeft left a → IsOp h a
  left-op a is_left = past-of_history h o a now.known.operation (now.state.backward.within a is_left)

  pub left-session : (a : OpId) → IsLeft left a → a.session < length h.1
  left-session a is_left = session-of_history h a (left-op a is_left)

  pub last-op : (t : ℕ) → IsOpen left t → IsOp h (last_left left t)
  last-op t is_open = left-op (last_left left t) (omega arith)

  pub no-reader : (w : OpId) → IsOp h w → slice_index_or b.readers.items (number h w) 0 ≡ 0 → ¬ HasReadLeft h left w
  no-reader w is_w none = unread h index.variables left (λ n. slice_index_or b.readers.items n 0) (λ x. slice_index_or b.writes.items x 0)
      now.counts left-session w is_w none

  pub some-reader : (w : OpId) → IsOp h w → slice_index_or b.readers.items (number h w) 0 ≢ 0 → HasReadLeft h left w
  some-reader w is_w some = read h index.variables left (λ n. slice_index_or b.readers.items n 0) (λ x. slice_index_or b.writes.items x 0)
      now.counts w is_w some

  module _ (t : ℕ) (a : OpId) where
    -- a write is shut out exactly where its variable is locked for another one
    pub write-admitted : (x v : ℕ) → Writes h a x v → ((n : ℕ) → slice_index_or b.locks.items (variable h index.variables a) None ≡ Some
        n → n ≡ number h a)
        → ¬ IsShutOut index b t a
    write-admitted x v wrote admits (inl out) = admitted h index.variables now.known.variables o left (λ y. slice_index_or b.locks.items
        y None) now.locks a x v wrote admits out
    write-admitted x v wrote admits (inr (is, (u, from, out))) = write-or_read h a a x v from.0 from.1 wrote from.3 (λ i. a)

    pub write-shut_out : (x v n : ℕ) → Writes h a x v → slice_index_or b.locks.items (variable h index.variables a) None ≡ Some n
        → n ≢ number h a
        → IsShutOut index b t a
    write-shut_out x v n wrote is_lock apart =
        inl (locked-out h index.variables now.known.variables o left (λ y. slice_index_or b.locks.items y None) now.locks a x v n wrote
        is_lock apart)

    -- a read of the session exactly where its variable is locked for another write than its source
    pub read-admitted : (u : OpId) → ReadsFrom h u a → ((n : ℕ) → slice_index_or b.locks.items (variable h index.variables a) None ≡
        Some n → n ≡ number h u)
        → ¬ IsShutOut index b t a
    read-admitted u from admits (inl (w, locked, (apart, (x, v, t, wrote, other)))) = write-or_read h a a x v from.0 from.1 wrote from.3
        (λ i. a)
    read-admitted u from admits (inr (is, (w, read, out))) =
        let same = source-once h now.known.distinct u w a from read in
        let place = source-same h index.variables now.known.variables u a from in
        admitted h index.variables now.known.variables o left (λ y. slice_index_or b.locks.items y None) now.locks u from.0 from.1 from.2
        (λ n is_lock. admits n (ap (λ (x : ℕ). slice_index_or b.locks.items x None) (sym place) ∙ is_lock))
        (subst (IsLockedOut h o left) (sym same) out)

    pub read-shut_out : t ≡ b.own → (u : OpId) (n : ℕ) → ReadsFrom h u a → slice_index_or b.locks.items (variable h index.variables a)
        None ≡ Some n → n ≢ number h u
        → IsShutOut index b t a
    read-shut_out is u n from is_lock apart =
        let place = source-same h index.variables now.known.variables u a from in
        inr (
          is,
          (
            u,
            from,
            locked-out h index.variables now.known.variables o left (λ y. slice_index_or b.locks.items y None) now.locks u from.0 from.1
                n from.2
                (ap (λ (x : ℕ). slice_index_or b.locks.items x None) place ∙ is_lock) apart,
          ),
        )

    -- a read of another session, and what neither writes nor read from a write, is not
    pub other-admitted : t ≢ b.own → ((x v : ℕ) → ¬ Writes h a x v) → ¬ IsShutOut index b t a
    other-admitted other no_write (inl (w, locked, (apart, (x, u, v, wrote, wrote_locked)))) = no_write x u wrote
    other-admitted other no_write (inr (is, _)) = other is

    pub unsourced-admitted : IsUnsourced h a → ¬ IsShutOut index b t a
    unsourced-admitted none (inl (w, locked, (apart, (x, u, v, wrote, wrote_locked)))) = none.0 x u wrote
    unsourced-admitted none (inr (is, (u, from, out))) = none.1 u from

  module _ (t : ℕ) (is_open : IsOpen left t) where
    abbrev p : OpId
    p = last_left left t

    pub last-number : number h p ≡ slice_index_or b.ends.items t 0 - 1
    last-number = omega arith

    -- its last operation is free where it has no readers and is not shut out
    pub free-from : slice_index_or b.readers.items (number h p) 0 ≡ 0 → ¬ IsShutOut index b t p → ¬ IsStopped index b t
    free-from none admits (inl read) = no-reader p (last-op t is_open) none read
    free-from none admits (inr out) = admits out

    pub stopped-read : slice_index_or b.readers.items (number h p) 0 ≢ 0 → IsStopped index b t
    stopped-read some = inl (some-reader p (last-op t is_open) some)

    pub stopped-out : IsShutOut index b t p → IsStopped index b t
    stopped-out out = inr out

-- a lock that is not this write alone is another one
pub other-lock : (e : Option ℕ) (m : ℕ) → ¬ ((n : ℕ) → e ≡ Some n → n ≡ m) → (n : ℕ) × (e ≡ Some n) × (n ≢ m)
other-lock None m other = absurd (other (λ n bad. absurd cc))
other-lock (Some k) m other = (k, refl, λ same. other (λ n is. sym (same_Some _ _ is) ∙ same))
