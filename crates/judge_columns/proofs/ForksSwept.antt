-- What up to 128 writes that are the only ones of their sessions show, these sessions show.
use Rattle.std.specs.Prelude.{◌≡◌, ◌≢◌, ◌⊎◌, ◌↔◌, ℕ, ◌+◌, ◌<◌, ◌≤◌, Bool, IsTrue, List, Some, slice_index_or}
use Rattle.std.specs.Int.{bit_at}
use Rattle.std.proofs.Common.{ap, sym, ◌∙◌, refl, subst, inl, inr, ⊎_elim}
use Rattle.std.proofs.lemmas.Bool.{cases_eq, cases_lt}
use Rattle.model_history.specs.declared.op_id.OpId.{OpId}
use Rattle.model_history.specs.History.{Precedes, number}
use Rattle.order_memory.specs.Memory.{MemoryHistory, Writes}
use Rattle.order_memory.specs.Relations.{CO, CF, IsPast}
use Rattle.order_memory.specs.SourceOrder.{IsCyclic}
use Rattle.order_memory.proofs.MemoryLaws.{read-of_history, write-of_history}
use Rattle.judge_memory.specs.Steps.{many}
use Rattle.judge_memory.proofs.Numbers.{number-all, number-once}
use Rattle.judge_columns.specs.Forks.{AreForksFound, AreOnlyWrites, IsForkAt, IsLeftEdge, LeavesOf}
use Rattle.judge_columns.specs.LastWrites.{HasOverwrittenReadBy, HasOverwrittenStartFrom}
use Rattle.judge_columns.specs.Swept.{AreSwept, IsNumberedEdge}
use Rattle.judge_columns.specs.Words.{ArePastWords, HasBit, IsMarked}
use Rattle.judge_columns.proofs.Bits.{zero-none}
use Rattle.judge_columns.proofs.ForkSights.{marked-once}
use Rattle.judge_columns.proofs.Overwrites.{rival-writes, rivals-turned}

module _ (h : MemoryHistory) (straight : ¬ IsCyclic h) (writes : List ℕ) (from : ℕ) (only : AreOnlyWrites h writes) where
  abbrev is : ℕ → OpId → Type 0
  is k = IsMarked h writes from k

  abbrev Group : ℕ → Type 0
  Group t = (k : ℕ) × (k < 128) × IsForkAt h writes (from + k) t

  of-group : (k : ℕ) (w : OpId) → k < 128 → is k w → Group w.session
  of-group k w below (is_op, at) = (k, below, (w, is_op, at, refl))

  -- a write of such a session is the one with the bit
  group-marked : (t : ℕ) (group : Group t) (w : OpId) (x v : ℕ) → w.session ≡ t → Writes h w x v → is group.0 w
  group-marked t (k, below, (a, is_a, at, of_t)) w x v of wrote =
      let found = only (from + k) (number h a) at in
      let b : OpId = found.0 in
      let one = number-once h b a found.1 is_a found.2 in
      let same = found.3.1 w x v (of ∙ sym of_t ∙ ap (λ (q : OpId). q.session) (sym one)) wrote in
      (write-of_history h w x v wrote, at ∙ ap (λ (q : OpId). Some (number h q)) (sym (same ∙ one)))

  module _ (start read : Bool) (late : List ℕ) (now : AreForksFound h writes from (many h) start read late) where
    edge-left : (a w : OpId) → IsNumberedEdge h (IsLeftEdge writes from late) a w
        → (k : ℕ) × (r : OpId) × (k < 128) × is k a × LeavesOf h (is k) r w
    edge-left a w (is_a, is_w, (k, below, at, had)) =
        let found = (now.left w k is_w below).0 had in (k, found.0, below, (is_a, at), found.2)

    edge-conflict : (a w : OpId) → IsNumberedEdge h (IsLeftEdge writes from late) a w → CF h a w
    edge-conflict a w edge =
        let (k, r, below, is_a, (b, is_b, found, wrote, leads, apart)) = edge-left a w edge in
        subst (λ (q : OpId). CF h q w) (marked-once h writes from k b a is_b is_a) (
          ((λ same. apart (inl same)), (found.0, wrote.0, found.1, wrote.1, found.2)),
          (r, leads, found),
        )

    group-starts : IsTrue start ↔ ((t : ℕ) × Group t × HasOverwrittenStartFrom h t)
    group-starts = (
      (λ set.
          let (r, seen, (k, below, (w, x, is_w, wrote, reads, leads))) = now.starts.0 set in
          (w.session, of-group k w below is_w, (w, r, x, wrote.0, refl, wrote.1, reads, leads))),
      λ (t, group, (w, r, x, v, of_t, wrote, reads, leads)).
          let is_r = read-of_history h r x _ reads in
          now.starts.1 (
            r,
            (is_r, number-all h r is_r),
            (group.0, group.1, (w, x, group-marked t group w x v of_t wrote, (v, wrote), reads, leads)),
          ),
    )

    group-reads : IsTrue read ↔ ((t : ℕ) × Group t × HasOverwrittenReadBy h t)
    group-reads = (
      (λ set.
          let (r, seen, (k, below, (s, w, is_w, found, wrote, first, leads))) = now.reads.0 set in (
            w.session,
            of-group k w below is_w,
            (
              s,
              w,
              r,
              refl,
              found,
              ((λ same. straight (w, subst (λ (q : OpId). CO h q w) same first)), (found.0, found.1, wrote.0, found.2, wrote.1)),
              first,
              leads,
            ),
          )),
      λ (t, group, (a, b, r, of_t, found, rivals, first, leads)).
          let wrote = rival-writes h b a found.0 found.1 found.2 (rivals-turned h a b rivals) in
          let is_r = read-of_history h r found.0 found.1 found.3 in
          now.reads.1 (
            r,
            (is_r, number-all h r is_r),
            (group.0, group.1, (a, b, group-marked t group b found.0 wrote.0 of_t wrote.1, found, wrote, first, leads)),
          ),
    )

    module _ (past : List ℕ) (are_past : ArePastWords h writes from past) (ending : (b : ℕ) → many h ≤ b → slice_index_or late b 0 ≡ 0) where
      each-conflict : (t : ℕ) → Group t → (b w : OpId) → b.session ≡ t → CF h b w
          → CO h b w ⊎ ((a : OpId) × ((b ≡ a) ⊎ Precedes b a) × IsNumberedEdge h (IsLeftEdge writes from late) a w)
      each-conflict t group b w of_t (rivals, (r, leads, found)) =
          let k : ℕ = group.0 in
          let wrote = rival-writes h b w found.0 found.1 found.2 rivals in
          let is_b = group-marked t group b found.0 wrote.0 of_t wrote.1 in
          let is_w = write-of_history h w found.0 found.1 found.2 in
          let is_r = read-of_history h r found.0 found.1 found.3 in
          let inside = are_past k w group.1 is_w in
          ⊎_elim
          (λ (had : bit_at (slice_index_or past (number h w) 0) k ≡ 1).
          let before = inside.0 had in
          ⊎_elim
          (λ (same : b ≡ w). absurd (rivals.0 same))
          (λ (first : CO h b w). inl first)
          (subst (IsPast h w) (marked-once h writes from k before.0 b before.1 is_b) before.2))
          (λ (none : bit_at (slice_index_or past (number h w) 0) k ≢ 1).
          let had = (now.left w k is_w group.1).1 (
            r,
            (is_r, number-all h r is_r),
            (b, is_b, found, wrote, leads, λ before. none (inside.1 (b, is_b, before))),
          ) in
          inr (b, inl refl, (is_b.0, is_w, (k, group.1, is_b.1, had))))
          (cases_eq (bit_at (slice_index_or past (number h w) 0) k) 1)

      edge-below : (a b : ℕ) → IsLeftEdge writes from late a b → (a < many h) × (b < many h)
      edge-below a b (k, below, at, had) =
          let found = only (from + k) a at in (
            subst (λ (n : ℕ). n < many h) found.2 (number-all h found.0 found.1),
            ⊎_elim
                (λ (inside : b < many h). inside)
                (λ (past_end : many h ≤ b). absurd (zero-none k (subst (λ (n : ℕ). HasBit n k) (ending b past_end) had)))
                (cases_lt b (many h)),
          )

      pub group-swept : AreSwept h Group start read (IsLeftEdge writes from late)
      group-swept = record {
        starts = group-starts;
        reads = group-reads;
        sound = λ clear a w edge. edge-conflict a w edge;
        reduced = λ clear t group. record {
          sound = edge-conflict;
          each = λ b w of_t conflict. each-conflict t group b w of_t conflict;
        };
        below = edge-below;
      }
