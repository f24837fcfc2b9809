-- The locks where an operation is placed: a write opens its variable, and a read of the session of o locks it for its source.
use Rattle.std.specs.Prelude.{◌≡◌, ◌≢◌, ◌⊎◌, ℕ, ◌<◌, ◌≤◌, IsTrue, List, [], ◌∷◌, ◌++◌, Option, Some, None, slice_index_or}
use Rattle.std.proofs.Common.{zero, suc, arith, refl, sym, ap, subst, inl, inr, ⊎_elim, ◌∙◌}
use Rattle.std.proofs.lemmas.Bool.{cases_eq, cases_lt}
use Rattle.std.proofs.lemmas.Option.{same_Some}
use Rattle.model_history.specs.declared.op_id.OpId.{OpId}
use Rattle.model_history.specs.History.{IsOp, number}
use Rattle.order_causal.specs.Orders.{program_past}
use Rattle.order_causal.proofs.Items.{cases-op}
use Rattle.order_memory.specs.Memory.{MemoryHistory, IsDifferentiated, Writes}
use Rattle.order_memory.specs.Relations.{ReadsFrom, AreRivalWrites, IsPast}
use Rattle.order_memory.proofs.HappenedBeforeLaws.{past-program}
use Rattle.order_memory.proofs.MemoryLaws.{write-of_history, write-or_read}
use Rattle.judge_memory.proofs.Numbers.{number-once}
use Rattle.judge_memory.specs.Parts.{AreVariables}
use Rattle.judge_session_orders.specs.Backward.{IsLeft, IsOpen, last_left, IsLocked, IsLockedOut, IsBlocked, IsPlacing}
use Rattle.judge_session_orders.specs.Tables.{variable, AreLocks}
use Rattle.judge_session_orders.proofs.Counts.{source-once}
use Rattle.judge_session_orders.proofs.Placing.{still-left, just-placed, left-still}

-- what is no value is none
none-if : {A : Type 0} (e : Option A) → ((a : A) → ¬ (e ≡ Some a)) → e ≡ None
none-if None fails = refl
none-if (Some a) fails = absurd (fails a refl)

-- a list that has none at each place has none at each place with one more
pub none-push : {A : Type 0} (es : List (Option A)) → ((x : ℕ) → slice_index_or es x None ≡ None)
    → (x : ℕ) → slice_index_or (es ++ None ∷ []) x None ≡ None
none-push [] none zero = refl
none-push [] none (suc x) = refl
none-push (e ∷ es) none zero = none 0
none-push (e ∷ es) none (suc x) = none-push es (λ n. none (suc n)) x

module _ (h : MemoryHistory) (variables : List ℕ) (are : AreVariables h variables) where
  -- writes of one key have one number of their variable, and the other way round; so has a read that of its source
  pub written-alike : (a b : OpId) (x y u v : ℕ) → Writes h a x u → Writes h b y v → variable h variables a ≡ variable h variables b → x ≡ y
  written-alike a b x y u v first second = (are a b x y (u, inl first) (v, inl second)).0

  pub written-same : (a b : OpId) (x u v : ℕ) → Writes h a x u → Writes h b x v → variable h variables a ≡ variable h variables b
  written-same a b x u v first second = (are a b x x (u, inl first) (v, inl second)).1 refl

  pub source-same : (w r : OpId) → ReadsFrom h w r → variable h variables w ≡ variable h variables r
  source-same w r from = (are w r from.0 from.0 (from.1, inl from.2) (from.1, inr from.3)).1 refl

  -- two writes of a variable are one or rivals
  rivals : (a b : OpId) (x y u v : ℕ) → a ≢ b → Writes h a x u → Writes h b y v → variable h variables a ≡ variable h variables b
      → AreRivalWrites h a b
  rivals a b x y u v apart first second same =
      let key = written-alike a b x y u v first second same in
      (apart, (y, u, v, subst (λ (z : ℕ). Writes h a z u) key first, second))

  module _ (o : OpId) (left : ℕ → ℕ) (lock : ℕ → Option ℕ) (locks : AreLocks h variables o left lock) where
    -- a write is not locked out where the lock of its variable is its own number or none
    pub admitted : (a : OpId) (x v : ℕ) → Writes h a x v → ((n : ℕ) → lock (variable h variables a) ≡ Some n → n ≡ number h a)
        → ¬ IsLockedOut h o left a
    admitted a x v wrote admits (w, locked, (apart, (y, u, t, first, second))) =
        let from = locked.1.2 in
        let same = written-same w a y t u second first in
        let is_lock = ap lock (sym same) ∙ locks.known w locked in
        let one = admits (number h w) is_lock in
        apart (number-once h a w (write-of_history h a x v wrote) (write-of_history h w y t second) (sym one))

    -- and is where it is another one
    pub locked-out : (a : OpId) (x v n : ℕ) → Writes h a x v → lock (variable h variables a) ≡ Some n → n ≢ number h a
        → IsLockedOut h o left a
    locked-out a x v n wrote is_lock apart =
        let found = locks.locked (variable h variables a) n is_lock in
        let w : OpId = found.0 in
        let from = found.2.1.2 in
        (w, found.2, rivals a w x from.0 v from.1 (λ same. apart (sym found.1 ∙ ap (number h) (sym same))) wrote from.2 (sym found.3))

    -- where nothing is left, nothing is locked
    pub ended-unlocked : ((t : ℕ) → ¬ IsOpen left t) → (x : ℕ) → lock x ≡ None
    ended-unlocked ended x = none-if (lock x) (λ n is_lock.
        let found = locks.locked x n is_lock in
        let w : OpId = found.0 in
        let is_left = found.2.0 in
        ended w.session (omega arith))

-- where nothing of the session of o is placed, nothing is locked
pub first-locks : (h : MemoryHistory) (variables : List ℕ) (o : OpId) → IsOp h o → (left : ℕ → ℕ)
    → ((a : OpId) → IsPast h o a → IsLeft left a)
    → (lock : ℕ → Option ℕ) → ((x : ℕ) → lock x ≡ None) → AreLocks h variables o left lock
first-locks h variables o is_op left whole lock none = record {
  locked = λ x n is_lock. (let both : None ≡ Some n = sym (none x) ∙ is_lock in absurd cc);
  known = λ w locked. absurd (locked.1.1.1 (whole locked.1.0 (past-program h o locked.1.0 is_op locked.1.1.0)));
}

module _ (h : MemoryHistory) (o : OpId) (t : ℕ) (left after : ℕ → ℕ) (placing : IsPlacing t left after) where
  abbrev p : OpId
  p = last_left left t

  -- what is locked stays locked until it is placed
  still-locked : (w : OpId) → IsLocked h o left w → w ≢ p → IsLocked h o after w
  still-locked w (is_left, (r, (kept, placed), from)) apart =
      (left-still t left after placing w is_left apart, (r, (kept, λ there. placed (still-left t left after placing r there).0), from))

  -- what is locked then was locked, or is the source of what is placed
  was-locked : (w : OpId) → IsLocked h o after w → IsLocked h o left w ⊎ (IsTrue (program_past o p) × ReadsFrom h w p)
  was-locked w (is_left, (r, (kept, placed), from)) = ⊎_elim
      (λ (there : r.index < left r.session).
      let here = just-placed t left after placing r there placed in
      inr (subst (λ (q : OpId). IsTrue (program_past o q)) here kept, subst (ReadsFrom h w) here from))
      (λ (above : left r.session ≤ r.index).
      inl ((still-left t left after placing w is_left).0, (r, (kept, λ below. omega arith), from)))
      (cases_lt r.index (left r.session))

  module _ (variables : List ℕ) (are : AreVariables h variables) (lock : ℕ → Option ℕ) (locks : AreLocks h variables o left lock)
      (free : ¬ IsBlocked h o left t) where
    -- p stands in the way of no locked write of its own variable
    none-locked : (x v : ℕ) → Writes h p x v → (w : OpId) → IsLocked h o left w → w ≢ p → variable h variables w ≢ variable h variables p
    none-locked x v wrote w locked apart same =
        let from = locked.1.2 in
        free (inr (inl (w, locked, rivals h variables are p w x from.0 v from.1 (λ is. apart (sym is)) wrote from.2 (sym same))))

    -- a write opens its variable
    pub written-locks : (x v : ℕ) → Writes h p x v → (next : ℕ → Option ℕ) → next (variable h variables p) ≡ None
        → ((y : ℕ) → y ≢ variable h variables p → next y ≡ lock y) → AreLocks h variables o after next
    written-locks x v wrote next opened others = record {
      locked = λ y n is_lock. ⊎_elim
          (λ (same : y ≡ variable h variables p). (let both : None ≡ Some n = sym opened ∙ ap next (sym same) ∙ is_lock in absurd cc))
          (λ (apart : y ≢ variable h variables p).
          let old = locks.locked y n (sym (others y apart) ∙ is_lock) in (
            old.0,
            old.1,
            still-locked old.0 old.2 (λ is. apart (sym old.3 ∙ ap (variable h variables) is)),
            old.3,
          ))
          (cases_eq y (variable h variables p));
      known = λ w locked. ⊎_elim
          (λ (was : IsLocked h o left w).
          let apart = none-locked x v wrote w was (still-left t left after placing w locked.0).1 in
          others (variable h variables w) apart ∙ locks.known w was)
          (λ (read : IsTrue (program_past o p) × ReadsFrom h w p). absurd (write-or_read h p p x v read.1.0 read.1.1 wrote read.1.3 refl))
          (was-locked w locked);
    }

    -- a read of the session of o locks its variable for its source, which is left
    pub read-locks : IsDifferentiated h → (u : OpId) → ReadsFrom h u p → t ≡ o.session → IsTrue (program_past o p) → IsLeft left u
        → (next : ℕ → Option ℕ) → next (variable h variables p) ≡ Some (number h u)
        → ((y : ℕ) → y ≢ variable h variables p → next y ≡ lock y) → AreLocks h variables o after next
    read-locks distinct u from own kept u_left next locks_u others =
        let u_not_p : u ≢ p = write-or_read h u p from.0 from.1 from.0 from.1 from.2 from.3 in
        let same_u = source-same h variables are u p from in
        record {
          locked = λ y n is_lock. ⊎_elim
              (λ (same : y ≡ variable h variables p). (
                u,
                same_Some _ _ (sym locks_u ∙ ap next (sym same) ∙ is_lock),
                (
                  left-still t left after placing u u_left u_not_p,
                  (
                    p,
                    (
                      kept,
                      λ there. (still-left t left after placing p there).1
                          refl,
                    ),
                    from,
                  ),
                ),
                same_u ∙ sym same,
              ))
              (λ (apart : y ≢ variable h variables p).
              let old = locks.locked y n (sym (others y apart) ∙ is_lock) in (
                old.0,
                old.1,
                still-locked old.0 old.2 (λ is. apart (sym old.3 ∙ ap (variable h variables) is)),
                old.3,
              ))
              (cases_eq y (variable h variables p));
          known = λ w locked. ⊎_elim
              (λ (was : IsLocked h o left w). ⊎_elim
              (λ (same : variable h variables w ≡ variable h variables p). ⊎_elim
              (λ (one : u ≡ w). ap next same ∙ locks_u ∙ ap (λ (q : OpId). Some (number h q)) one)
              (λ (apart : u ≢ w).
              let read = was.1.2 in
              absurd (free (inr (inr (
                own,
                (
                  u,
                  from,
                  (
                    w,
                    was,
                    rivals h variables are u w from.0 read.0 from.1 read.1 apart from.2 read.2
                        (same_u ∙ sym same),
                  ),
                ),
              )))))
              (cases-op u w))
              (λ (apart : variable h variables w ≢ variable h variables p). others (variable h variables w) apart ∙ locks.known w was)
              (cases_eq (variable h variables w) (variable h variables p)))
              (λ (read : IsTrue (program_past o p) × ReadsFrom h w p).
              let one : u ≡ w = source-once h distinct u w p from read.1 in
              let same : variable h variables w ≡ variable h variables p = ap (variable h variables) (sym one) ∙ same_u in
              ap next same ∙ locks_u ∙ ap (λ (q : OpId). Some (number h q)) one)
              (was-locked w locked);
        }

    -- any other operation leaves the locks as they are
    pub other-locks : ((x v : ℕ) → ¬ Writes h p x v) → (IsTrue (program_past o p) → (w : OpId) → ¬ ReadsFrom h w p)
        → (next : ℕ → Option ℕ) → ((y : ℕ) → next y ≡ lock y) → AreLocks h variables o after next
    other-locks no_write no_read next same = record {
      locked = λ y n is_lock.
          let old = locks.locked y n (sym (same y) ∙ is_lock) in (
            old.0,
            old.1,
            still-locked old.0 old.2 (λ is. no_write old.2.1.2.0 old.2.1.2.1 (subst (λ (q : OpId). Writes h q old.2.1.2.0 old.2.1.2.1)
                is old.2.1.2.2)),
            old.3,
          );
      known = λ w locked. ⊎_elim
          (λ (was : IsLocked h o left w). same (variable h variables w) ∙ locks.known w was)
          (λ (read : IsTrue (program_past o p) × ReadsFrom h w p). absurd (no_read read.0 w read.1))
          (was-locked w locked);
    }
