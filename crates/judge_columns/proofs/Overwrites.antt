-- The last writes of a session show whether its writes overwrote what was read, an initial value or that of another write.
use Rattle.std.specs.Prelude.{◌≡◌, ◌⊎◌, ◌↔◌, ℕ, ◌<◌}
use Rattle.std.proofs.Common.{refl, sym, ◌∙◌, subst, inl, inr, ⊎_elim}
use Rattle.model_history.specs.declared.op_id.OpId.{OpId}
use Rattle.model_history.specs.History.{IsOp, Precedes, number}
use Rattle.order_causal.proofs.PathsLaws.{leads-leads}
use Rattle.order_memory.specs.Memory.{MemoryHistory, initial, Writes, Reads}
use Rattle.order_memory.specs.OverwrittenReads.{HasOverwrittenStart, HasOverwrittenRead}
use Rattle.order_memory.specs.Relations.{IsEdge, CO, AreRivalWrites}
use Rattle.order_memory.specs.SourceOrder.{IsCyclic}
use Rattle.order_memory.proofs.MemoryLaws.{same_written, write-of_history, read-of_history, write-or_read}
use Rattle.judge_columns.specs.Columns.{ArePastEnds, AreFirsts}
use Rattle.judge_columns.specs.LastWrites.{WritesTo, IsLastIn, HasOverwrittenStartFrom, HasOverwrittenReadBy, ShowsStart, ShowsRead}
use Rattle.judge_memory.proofs.Numbers.{number-up_to}
use Rattle.judge_memory.proofs.Steps.{program-causal}
use Rattle.judge_columns.proofs.LastWrites.{are-writes, writes-decided, last-exists}

-- a rival of a write is of its variable
pub rival-writes : (h : MemoryHistory) (a w : OpId) (x v : ℕ) → Writes h w x v → AreRivalWrites h a w → WritesTo h x a
rival-writes h a w x v wrote (apart, (y, u, z, first, second)) =
    (u, subst (λ (n : ℕ). Writes h a n u) (same_written h w y z x v second wrote).0 first)

pub rivals-turned : (h : MemoryHistory) (a b : OpId) → AreRivalWrites h a b → AreRivalWrites h b a
rivals-turned h a b (apart, (x, u, v, first, second)) = (λ same. apart (sym same), (x, v, u, second, first))

module _ (h : MemoryHistory) (t : ℕ) (ends : ℕ → ℕ) (column : ArePastEnds h t ends) where
  -- a write is in CO before a read exactly where its number is below the end for the read
  write-before : (a r : OpId) (x v y u : ℕ) → Writes h a x v → Reads h r y u → a.session ≡ t
      → (number h a < ends (number h r)) ↔ CO h a r
  write-before a r x v y u wrote reads of_t =
      let exact = column r a (read-of_history h r y u reads) (write-of_history h a x v wrote) of_t in (
        (λ below. ⊎_elim
            (λ (same : a ≡ r). absurd (write-or_read h a r x v y u wrote reads same))
            (λ (leads : CO h a r). leads)
            (exact.0 below)),
        λ leads. exact.1 (inr leads),
      )

  -- for a write in CO before a read there is the last write of its session and variable in the past of the read
  pub last-after : (b r : OpId) (x y u : ℕ) → WritesTo h x b → Reads h r y u → b.session ≡ t → CO h b r
      → (a : OpId) × IsLastIn h (WritesTo h) t x (ends (number h r)) a × ((b ≡ a) ⊎ Precedes b a)
  last-after b r x y u wrote reads of_t leads =
      let below = (write-before b r x wrote.0 y u wrote.1 reads of_t).1 leads in
      let found = last-exists h (WritesTo h) (are-writes h) t x (ends (number h r)) (writes-decided h x) b of_t wrote below in
      let up_to = found.1.last b of_t wrote below in
      (found.0, found.1, number-up_to h b found.0 (of_t ∙ sym found.1.of_session) up_to)

  pub last-before : (a r : OpId) (x y u : ℕ) → Reads h r y u → IsLastIn h (WritesTo h) t x (ends (number h r)) a → CO h a r
  last-before a r x y u reads is = (write-before a r x is.wrote.0 y u is.wrote.1 reads is.of_session).0 is.below

  pub start-exact : HasOverwrittenStartFrom h t ↔ ((r : OpId) × ShowsStart h t ends r)
  start-exact = (
    (λ (w, r, x, v, of_t, wrote, reads, leads).
        let found = last-after w r x x (initial h x) (v, wrote) reads of_t leads in
        (r, (found.0, x, reads, found.1))),
    λ (r, (a, x, reads, is)). (a, r, x, is.wrote.0, is.of_session, is.wrote.1, reads, last-before a r x x (initial h x) reads is),
  )

  -- what is before an operation in CO is before the later ones of its session
  pub before-later : (a b l : OpId) → IsOp h l → (b ≡ l) ⊎ Precedes b l → CO h a b → CO h a l
  before-later a b l is_op (inl same) leads = subst (CO h a) same leads
  before-later a b l is_op (inr before) leads = leads-leads (IsEdge h) a b l leads (program-causal h b l before is_op)

  -- what is after an operation in CO is after the earlier ones of its session
  pub after-earlier : (b l w : OpId) → IsOp h l → (b ≡ l) ⊎ Precedes b l → CO h l w → CO h b w
  after-earlier b l w is_op (inl same) leads = subst (λ (q : OpId). CO h q w) (sym same) leads
  after-earlier b l w is_op (inr before) leads = leads-leads (IsEdge h) b l w (program-causal h b l before is_op) leads

  module _ (straight : ¬ IsCyclic h) (firsts : ℕ → ℕ) (are_firsts : AreFirsts h t firsts) where
    pub read-exact : HasOverwrittenReadBy h t ↔ ((r : OpId) × ShowsRead h t ends firsts r)
    read-exact = (
      (λ (w, b, r, of_t, from, rivals, w_b, b_r).
          let wrote = rival-writes h b w from.0 from.1 from.2 (rivals-turned h w b rivals) in
          let found = last-after b r from.0 from.0 from.1 wrote from.3 of_t b_r in
          let is_op = write-of_history h found.0 from.0 found.1.wrote.0 found.1.wrote.1 in
          let leads = before-later w b found.0 is_op found.2 w_b in
          let up_to = (are_firsts w found.0 (write-of_history h w from.0 from.1 from.2) is_op found.1.of_session).1 (inr leads) in
          (r, (w, found.0, (from, found.1, λ same. straight (w, subst (CO h w) same leads)), up_to))),
      λ (r, (w, a, (from, is, apart), up_to)).
          let is_op = write-of_history h a from.0 is.wrote.0 is.wrote.1 in
          let leads : CO h w a = ⊎_elim
          (λ (same : w ≡ a). absurd (apart (sym same)))
          (λ (before : CO h w a). before)
          ((are_firsts w a (write-of_history h w from.0 from.1 from.2) is_op is.of_session).0 up_to) in (
            w,
            a,
            r,
            is.of_session,
            from,
            (λ same. apart (sym same), (from.0, from.1, is.wrote.0, from.2, is.wrote.1)),
            leads,
            last-before a r from.0 from.0 from.1 from.3 is,
          ),
    )

-- a history shows a pattern where a write of some session does
pub starts-by_sessions : (h : MemoryHistory) → HasOverwrittenStart h ↔ ((t : ℕ) × HasOverwrittenStartFrom h t)
starts-by_sessions h = (
  (λ (w, r, x, v, wrote, reads, leads). (w.session, (w, r, x, v, refl, wrote, reads, leads))),
  λ (t, (w, r, x, v, of_t, wrote, reads, leads)). (w, r, x, v, wrote, reads, leads),
)

pub reads-by_sessions : (h : MemoryHistory) → HasOverwrittenRead h ↔ ((t : ℕ) × HasOverwrittenReadBy h t)
reads-by_sessions h = (
  (λ (a, b, r, from, rivals, first, second). (b.session, (a, b, r, refl, from, rivals, first, second))),
  λ (t, (a, b, r, of_t, from, rivals, first, second)). (a, b, r, from, rivals, first, second),
)
