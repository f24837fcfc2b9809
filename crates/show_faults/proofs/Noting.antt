-- The latest writes that reads missed, noted one session after the other.
use Rattle.std.specs.Prelude.{◌≡◌, ◌≢◌, ◌⊎◌, ℕ, ◌+◌, ◌-◌, ◌<◌, ◌≤◌, List, Some, length, slice_get, slice_index_or, slice_set}
use Rattle.std.proofs.Common.{arith, ap, sym, ◌∙◌, subst, inl, inr, ⊎_elim}
use Rattle.std.proofs.lemmas.Bool.{cases_eq, cases_lt}
use Rattle.std.proofs.lemmas.List.{get_or-set_same, get_or-set_other, length-set}
use Rattle.std.proofs.lemmas.Option.{same_Some, slice_get_within}
use Rattle.model_history.specs.declared.op_id.OpId.{OpId}
use Rattle.model_history.specs.History.{IsOp, Precedes, number}
use Rattle.order_causal.proofs.PathsLaws.{leads-leads}
use Rattle.order_memory.specs.Memory.{MemoryHistory, Writes}
use Rattle.order_memory.specs.Relations.{CO, IsEdge}
use Rattle.order_memory.specs.SourceOrder.{IsCyclic}
use Rattle.judge_memory.specs.Steps.{many}
use Rattle.judge_memory.proofs.Numbers.{number-all, number-once}
use Rattle.judge_memory.proofs.Steps.{program-causal}
use Rattle.judge_columns.specs.Columns.{AreFirsts}
use Rattle.show_faults.specs.Faults.{Misses}
use Rattle.show_faults.specs.Noted.{AreLatestMissed, AreNoted, AreNotedBelow, IsLastMissed, IsLater, IsNoted, IsOfFirst}

module _ (h : MemoryHistory) (straight : ¬ IsCyclic h) (t : ℕ) (firsts : ℕ → ℕ) (are_firsts : AreFirsts h t firsts) (r : OpId)
    (such more : OpId → Type 0) (cases : (b : OpId) → more b → such b ⊎ (b.session ≡ t)) where
  -- an operation is not before an earlier one of its session
  not-before : (a b : OpId) → IsOp h a → (b ≡ a) ⊎ Precedes b a → ¬ CO h a b
  not-before a b is_op (inl same) leads = straight (a, subst (CO h a) same leads)
  not-before a b is_op (inr before) leads = straight (a, leads-leads (IsEdge h) a b a leads (program-causal h b a before is_op))

  up-to : (c a b : OpId) → IsOp h a → (b ≡ a) ⊎ Precedes b a → CO h c b → CO h c a
  up-to c a b is_op (inl same) leads = subst (CO h c) same leads
  up-to c a b is_op (inr before) leads = leads-leads (IsEdge h) c b a leads (program-causal h b a before is_op)

  -- the last one of the session is noted, where it is not before one of those that are seen
  taken : (write : ℕ) → IsLastMissed h t r write → (write ≡ 0 → (b : OpId) → such b → ¬ Misses h r b)
      → ((n : ℕ) (a : OpId) → write ≡ n + 1 → IsOp h a → number h a ≡ n → a.session ≡ t → (b : OpId) → such b → Misses h r b → ¬ CO h a b)
      → IsNoted h more r write
  taken write last none before = record {
    none = λ empty b is missed. ⊎_elim
        (λ (old : such b). none empty b old missed)
        (λ (new : b.session ≡ t). last.none empty b new missed)
        (cases b is);
    some = λ n same.
        let found = last.some n same in
        let a = found.0 in (
          a,
          found.1,
          found.2,
          found.4,
          λ b is missed leads. ⊎_elim
              (λ (old : such b). before n a same found.1 found.2 found.3 b old missed leads)
              (λ (new : b.session ≡ t). not-before a b found.1 (found.5 b new missed) leads)
              (cases b is),
        );
  }

  -- what is noted stays, where the last one of the session is not after it
  stays : (noted write : ℕ) → IsNoted h such r noted → IsLastMissed h t r write → noted ≢ 0 → write ≤ firsts (noted - 1)
      → IsNoted h more r noted
  stays noted write now last some_noted up_to = record {
    none = λ empty. absurd (some_noted empty);
    some = λ k same.
        let found = now.some k same in
        let c = found.0 in (
          c,
          found.1,
          found.2,
          found.3,
          λ b is missed leads. ⊎_elim
              (λ (old : such b). found.4 b old missed leads)
              (λ (new : b.session ≡ t). ⊎_elim
              (λ (empty : write ≡ 0). last.none empty b new missed)
              (λ (some_write : write ≢ 0).
              let late = last.some (write - 1) (omega arith) in
              let reached = (are_firsts c late.0 found.1 late.1 late.3).1 (inr (up-to c late.0 b late.1 (late.5 b new missed) leads)) in
              let place = late.2 in
              let at = ap firsts (let e : number h c ≡ noted - 1 = (let here = found.2 in omega arith) in e) in
              omega arith)
              (cases_eq write 0))
              (cases b is),
        );
  }

  pub noted-more : (noted write made : ℕ) → IsNoted h such r noted → IsLastMissed h t r write → IsLater firsts noted write made
      → IsNoted h more r made
  noted-more noted write made now last later = ⊎_elim
      (λ (empty : noted ≡ 0). subst (IsNoted h more r) (sym (later.empty empty)) (taken write last
      (λ _. now.none empty)
      (λ n a same is_op at of_t b old missed. absurd (now.none empty b old missed))))
      (λ (some_noted : noted ≢ 0). ⊎_elim
      (λ (reached : firsts (noted - 1) < write). subst (IsNoted h more r) (sym (later.after some_noted reached)) (taken write last
      (λ none. absurd (omega arith))
      (λ n a same is_op at of_t b old missed leads.
      let found = now.some (noted - 1) (omega arith) in
      let c = found.0 in
      let place = ap firsts found.2 in
      let past = (are_firsts c a found.1 is_op of_t).0 (omega arith) in
      found.4 b old missed (⊎_elim
      (λ (one : c ≡ a). subst (λ (q : OpId). CO h q b) (sym one) leads)
      (λ (before : CO h c a). leads-leads (IsEdge h) c a b before leads)
      past))))
      (λ (not_reached : write ≤ firsts (noted - 1)).
      subst (IsNoted h more r) (sym (later.other some_noted not_reached)) (stays noted write now last some_noted not_reached))
      (cases_lt (firsts (noted - 1)) write))
      (cases_eq noted 0)

-- a noted number is below the next one after all operations
pub noted-below : (h : MemoryHistory) (such : OpId → Type 0) (r : OpId) (m : ℕ) → IsNoted h such r m → m ≤ many h
noted-below h such r m now = ⊎_elim
    (λ (empty : m ≡ 0). omega arith)
    (λ (some_noted : m ≢ 0).
    let found = now.some (m - 1) (omega arith) in
    let below = number-all h found.0 found.1 in
    let at = found.2 in
    omega arith)
    (cases_eq m 0)

module _ (h : MemoryHistory) (sessions : List ℕ) where
  pub first-more : (i t : ℕ) → slice_get sessions i ≡ Some t → (b : OpId) → IsOfFirst h sessions (i + 1) b
      → IsOfFirst h sessions i b ⊎ (b.session ≡ t)
  first-more i t here b (k, below, at) = ⊎_elim
      (λ (same : k ≡ i). inr (same_Some b.session t (sym (subst (λ (j : ℕ). slice_get sessions j ≡ Some b.session) same at) ∙ here)))
      (λ (apart : k ≢ i). inl (k, omega arith, at))
      (cases_eq k i)

  pub below-first : (i : ℕ) (missed : List ℕ) → AreNoted h sessions i missed → AreNotedBelow h sessions i 0 missed
  below-first i missed now = record {
    size = now.size;
    below = λ r is_op less. absurd (omega arith);
    rest = λ r is_op _. now.each r is_op;
  }

  pub below-more : (i n : ℕ) (missed : List ℕ) → AreNotedBelow h sessions i n missed → (o : OpId) → IsOp h o → number h o ≡ n → (m : ℕ)
      → IsNoted h (IsOfFirst h sessions (i + 1)) o m → AreNotedBelow h sessions i (n + 1) (slice_set missed n m)
  below-more i n missed now o is_op here m noted =
      let below : n < length missed = (let one = number-all h o is_op in let size = now.size in omega arith) in
      let same = get_or-set_same missed n m 0 below in
      let other : (r : OpId) → number h r ≢ n → slice_index_or (slice_set missed n m) (number h r) 0 ≡ slice_index_or missed (number h r) 0
      = λ r apart. get_or-set_other missed n (number h r) m 0 apart in
      record {
        size = length-set missed n m ∙ now.size;
        below = λ r is_r less. ⊎_elim
            (λ (one : number h r ≡ n).
            let itself = number-once h o r is_op is_r (here ∙ sym one) in
            subst (IsNoted h (IsOfFirst h sessions (i + 1)) r)
            (sym (ap (λ (k : ℕ). slice_index_or (slice_set missed n m) k 0) one ∙ same))
            (subst (λ (q : OpId). IsNoted h (IsOfFirst h sessions (i + 1)) q m) itself noted))
            (λ (apart : number h r ≢ n).
            subst (IsNoted h (IsOfFirst h sessions (i + 1)) r) (sym (other r apart)) (now.below r is_r (omega arith)))
            (cases_eq (number h r) n);
        rest = λ r is_r above.
            subst (IsNoted h (IsOfFirst h sessions i) r) (sym (other r (omega arith))) (now.rest r is_r (omega arith));
      }

  pub below-whole : (i n : ℕ) (missed : List ℕ) → many h ≤ n → AreNotedBelow h sessions i n missed → AreNoted h sessions (i + 1) missed
  below-whole i n missed whole now = record {
    size = now.size;
    each = λ r is_op. let below = number-all h r is_op in now.below r is_op (omega arith);
  }

  -- before the first session nothing is noted
  pub noted-first : (missed : List ℕ) → length missed ≡ many h → ((n : ℕ) → slice_index_or missed n 0 ≡ 0) → AreNoted h sessions 0 missed
  noted-first missed size none = record {
    size = size;
    each = λ r is_op. record {
      none = λ empty b (k, below, at). absurd (omega arith);
      some = λ n same. let empty = none (number h r) in absurd (omega arith);
    };
  }

  -- after the last session
  module _ (i : ℕ) (whole : length sessions ≤ i)
      (writers : (w : OpId) (x v : ℕ) → Writes h w x v → (k : ℕ) × (slice_get sessions k ≡ Some w.session)) where
    write-among : (b : OpId) (x v : ℕ) → Writes h b x v → IsOfFirst h sessions i b
    write-among b x v wrote =
        let place = writers b x v wrote in
        let inside = slice_get_within sessions place.0 b.session place.1 in
        (place.0, omega arith, place.1)

    missed-among : (r b : OpId) → Misses h r b → IsOfFirst h sessions i b
    missed-among r b (inl missed) = write-among b missed.0 missed.1 missed.3
    missed-among r b (inr (w, missed)) = let rivals = missed.1.1 in write-among b rivals.0 rivals.2 rivals.4

    pub noted-whole : ¬ IsCyclic h → (missed : List ℕ) → AreNoted h sessions i missed → AreLatestMissed h missed
    noted-whole straight missed now = record {
      size = now.size;
      none = λ _ r is_op empty b missed_b. (now.each r is_op).none empty b (missed-among r b missed_b) missed_b;
      some = λ r is_op n same.
          let found = (now.each r is_op).some n same in
          (found.0, found.1, found.2, found.3, (λ b missed_b. found.4 b (missed-among r b missed_b) missed_b), straight);
    }
