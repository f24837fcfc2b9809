-- Which writes of a session a read missed, by the session's last write of its variable in its past.
use Rattle.std.specs.Prelude.{◌≡◌, ◌≢◌, ◌⊎◌, ℕ, ◌+◌, ◌-◌, ◌<◌, ◌≤◌, List, slice_index_or}
use Rattle.std.proofs.Common.{arith, refl, ap, sym, subst, inl, inr, ⊎_elim}
use Rattle.model_history.specs.declared.op_id.OpId.{OpId}
use Rattle.model_history.specs.History.{IsOp, Precedes, many_before, number}
use Rattle.order_memory.specs.Memory.{MemoryHistory, initial, Reads, IsDifferentiated}
use Rattle.order_memory.specs.Relations.{CO}
use Rattle.order_memory.specs.SourceOrder.{IsCyclic}
use Rattle.order_memory.proofs.MemoryLaws.{same_read, write-of_history}
use Rattle.judge_memory.specs.Parts.{AreVariables}
use Rattle.judge_columns.specs.Columns.{AreFirsts, ArePastEnds, AreWithinSession}
use Rattle.judge_columns.specs.LastWrites.{IsLastBeside, IsLastIn, ShowsStart, WritesTo}
use Rattle.judge_columns.specs.Sights.{IsSight, IsTable, WritesNumbered}
use Rattle.judge_columns.specs.declared.sight.Sight.{Sight}
use Rattle.judge_columns.specs.declared.sight.Sight.TheVariants as sights
use Rattle.judge_columns.proofs.LastWrites.{are-writes, last-once, last-renamed, look-some}
use Rattle.judge_columns.proofs.LateWrites.{beside-once}
use Rattle.judge_columns.proofs.Overwrites.{before-later, last-after, last-before, rival-writes}
use Rattle.judge_columns.proofs.Sights.{are-numbered, numbered-same, source-apart, start-apart}
use Rattle.show_faults.specs.Faults.{Misses, MissesAfter, MissesAtStart}
use Rattle.show_faults.specs.Noted.{IsLastMissed}

-- b is a, or before it in its session
abbrev IsUpTo : OpId → OpId → Type 0
IsUpTo b a = (b ≡ a) ⊎ Precedes b a

module _ (h : MemoryHistory) (t : ℕ) (ends firsts : ℕ → ℕ) (r : OpId) where
  -- the last write of the session of the variable that r reads has the number before m
  abbrev pub IsValue : ℕ → Type 0
  IsValue m = (x v : ℕ) → Reads h r x v → (a : OpId) → IsLastIn h (WritesTo h) t x (ends (number h r)) a → m ≡ number h a + 1

  -- what the table of last writes has for the variable
  pub table-value : (variables last : List ℕ) → AreVariables h variables → IsTable h variables t (ends (number h r)) last
      → AreWithinSession h t ends → IsOp h r → IsValue (slice_index_or last (slice_index_or variables (number h r) 0) 0)
  table-value variables last are table within is_op x v reads a is =
      let z : ℕ = slice_index_or variables (number h r) 0 in
      let named : IsLastIn h (WritesNumbered h variables) t z (ends (number h r)) a =
      last-renamed h (WritesTo h) (WritesNumbered h variables) x z
      (λ b. let same = numbered-same h variables are r x v reads b in (same.1, same.0)) t (ends (number h r)) a is in
      let latest = table.latest z a named.of_session named.wrote named.below in
      let above = latest.0 in
      let up_to = latest.1 in
      let start = ap (many_before h) named.of_session in
      let found = look-some h (WritesNumbered h variables) (are-numbered h variables) t (ends (number h r)) (λ k. slice_index_or last k 0)
      table (within r is_op).1 z (slice_index_or last z 0 - 1) (omega arith) (omega arith) (omega arith) in
      let same = last-once h (WritesNumbered h variables) (are-numbered h variables) t z (ends (number h r)) found.0 a found.1 named in
      let value = subst (λ (q : OpId). number h q ≡ slice_index_or last z 0 - 1) same found.2 in
      omega arith

  module _ (column : ArePastEnds h t ends) (are_firsts : AreFirsts h t firsts) (straight : ¬ IsCyclic h) where
    -- of the session's writes that a read of an initial value missed, none is after the last one in its past
    start-missed : (b : OpId) → b.session ≡ t → MissesAtStart h r b
        → (a : OpId) × (x : ℕ) × Reads h r x (initial h x) × IsLastIn h (WritesTo h) t x (ends (number h r)) a × IsUpTo b a
    start-missed b of_t (x, v, reads, wrote, leads) =
        let found = last-after h t ends column b r x x (initial h x) (v, wrote) reads of_t leads in
        (found.0, x, reads, found.1, found.2)

    -- the same of a read of a source
    after-missed : (w b : OpId) → b.session ≡ t → MissesAfter h w r b
        → (a : OpId) × IsLastBeside h t ends w r a × (firsts (number h w) ≤ number h a) × IsUpTo b a
    after-missed w b of_t (from, (apart, (x, u, v, first, second)), w_b, b_r) =
        let wrote = rival-writes h b w from.0 from.1 from.2 ((λ same. apart (sym same)), (x, v, u, second, first)) in
        let found = last-after h t ends column b r from.0 from.0 from.1 wrote from.3 of_t b_r in
        let is_op = write-of_history h found.0 from.0 found.1.wrote.0 found.1.wrote.1 in
        let leads = before-later h t ends column w b found.0 is_op found.2 w_b in
        let up_to = (are_firsts w found.0 (write-of_history h w from.0 from.1 from.2) is_op found.1.of_session).1 (inr leads) in
        (found.0, (from, found.1, λ same. straight (w, subst (CO h w) same leads)), up_to, found.2)

    none-missed : ¬ ShowsStart h t ends r
        → ((w a : OpId) → IsLastBeside h t ends w r a → number h a < firsts (number h w)) → (b : OpId) → b.session ≡ t → Misses h r b → ⊥
    none-missed no_start ahead b of_t (inl missed) =
        let found = start-missed b of_t missed in
        no_start (found.0, found.1, found.2, found.3)
    none-missed no_start ahead b of_t (inr (w, missed)) =
        let found = after-missed w b of_t missed in
        let before = ahead w found.0 found.1 in
        let up_to = found.2 in
        omega arith

    last-none : ((b : OpId) → b.session ≡ t → ¬ Misses h r b) → IsLastMissed h t r 0
    last-none none = record { none = λ zero_. none; some = λ n same. absurd (omega arith) }

    last-some : (m : ℕ) (a : OpId) → m ≡ number h a + 1 → IsOp h a → a.session ≡ t → Misses h r a
        → ((b : OpId) → b.session ≡ t → Misses h r b → IsUpTo b a) → IsLastMissed h t r m
    last-some m a value is_op of_t missed last = record {
      none = λ empty. absurd (omega arith);
      some = λ n same. (a, is_op, omega arith, of_t, missed, last);
    }

    module _ (distinct : IsDifferentiated h) (m : ℕ) (value : IsValue m) where
      last-start : ShowsStart h t ends r → IsLastMissed h t r m
      last-start (a, x, reads, is) =
          let wrote = is.wrote.1 in
          let leads = last-before h t ends column a r x x (initial h x) reads is in
          let last : (b : OpId) → b.session ≡ t → Misses h r b → IsUpTo b a = λ b of_t either. ⊎_elim
          (λ (missed : MissesAtStart h r b).
          let found = start-missed b of_t missed in
          let same = (same_read h r found.1 (initial h found.1) x (initial h x) found.2 reads).0 in
          let here = last-once h (WritesTo h) (are-writes h) t x (ends (number h r)) found.0 a
          (subst (λ (y : ℕ). IsLastIn h (WritesTo h) t y (ends (number h r)) found.0) same found.3) is in
          subst (IsUpTo b) here found.4)
          (λ (missed : (w : OpId) × MissesAfter h w r b).
          let found = after-missed missed.0 b of_t missed.1 in
          absurd (start-apart h t ends firsts r x reads missed.0 found.0 found.1))
          either in
          last-some m a (value x (initial h x) reads a is) (write-of_history h a x is.wrote.0 wrote) is.of_session
          (inl (x, is.wrote.0, reads, wrote, leads)) last

      last-read : (w a : OpId) → IsLastBeside h t ends w r a → firsts (number h w) ≤ number h a → IsLastMissed h t r m
      last-read w a (from, is, apart) up_to =
          let wrote = is.wrote.1 in
          let is_op = write-of_history h a from.0 is.wrote.0 wrote in
          let leads : CO h w a = ⊎_elim
          (λ (same : w ≡ a). absurd (apart (sym same)))
          (λ (before : CO h w a). before)
          ((are_firsts w a (write-of_history h w from.0 from.1 from.2) is_op is.of_session).0 up_to) in
          let last : (b : OpId) → b.session ≡ t → Misses h r b → IsUpTo b a = λ b of_t either. ⊎_elim
          (λ (missed : MissesAtStart h r b).
          let found = start-missed b of_t missed in
          absurd (source-apart h t ends firsts r w from (found.0, found.1, found.2, found.3)))
          (λ (missed : (u : OpId) × MissesAfter h u r b).
          let found = after-missed missed.0 b of_t missed.1 in
          let same = beside-once h t ends distinct w r a (from, is, apart) missed.0 found.0 found.1 in
          subst (IsUpTo b) same.1 found.3)
          either in
          last-some m a (value from.0 from.1 from.3 a is) is_op is.of_session
          (inr (
            w,
            (
              from,
              ((λ same. apart (sym same)), (from.0, from.1, is.wrote.0, from.2, wrote)),
              leads,
              last-before h t ends column a r from.0 from.0 from.1 from.3 is,
            ),
          )) last

      -- what is seen of a column says which write was missed
      pub seen-start : IsSight h t ends firsts r sights.OverwrittenStart → IsLastMissed h t r m
      seen-start = last-start

      pub seen-read : IsSight h t ends firsts r sights.OverwrittenRead → IsLastMissed h t r m
      seen-read (w, a, beside, up_to) = last-read w a beside up_to

    seen-nothing : IsSight h t ends firsts r sights.Nothing → IsLastMissed h t r 0
    seen-nothing (no_start, clear) = last-none (none-missed no_start (λ w a beside. (clear w a beside).0))

    seen-conflict : IsDifferentiated h → (n k : ℕ) → IsSight h t ends firsts r (sights.Conflict n k) → IsLastMissed h t r 0
    seen-conflict distinct n k (w, a, beside, ahead, at_a, at_w) = last-none (none-missed
        (source-apart h t ends firsts r w beside.0)
        (λ u b other.
        let same = beside-once h t ends distinct w r a beside u b other in
        let source = ap (λ (q : OpId). firsts (number h q)) same.0 in
        let last = ap (number h) same.1 in
        omega arith))

    pub seen-other : IsDifferentiated h → (s : Sight) → IsSight h t ends firsts r s → s ≢ sights.OverwrittenStart
        → s ≢ sights.OverwrittenRead → IsLastMissed h t r 0
    seen-other distinct sights.Nothing shows apart other = seen-nothing shows
    seen-other distinct sights.OverwrittenStart shows apart other = absurd (apart refl)
    seen-other distinct sights.OverwrittenRead shows apart other = absurd (other refl)
    seen-other distinct (sights.Conflict n k) shows apart other = seen-conflict distinct n k shows
