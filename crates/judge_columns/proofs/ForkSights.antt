-- What one read more shows of writes that are the only ones of their sessions.
use Rattle.std.specs.Prelude.{◌≡◌, ◌≢◌, ◌⊎◌, ◌↔◌, ℕ, ◌+◌, ◌<◌, ◌||◌, Bool, IsTrue, List, slice_index_or}
use Rattle.std.proofs.Common.{arith, ap, sym, ◌∙◌, refl, subst, inl, inr, ⊎_elim}
use Rattle.std.proofs.lemmas.Bool.{cases_eq}
use Rattle.std.proofs.lemmas.Option.{same_Some}
use Rattle.model_history.specs.declared.op_id.OpId.{OpId}
use Rattle.model_history.specs.History.{IsOp, number}
use Rattle.order_causal.proofs.PathsLaws.{leads-leads}
use Rattle.order_memory.specs.Memory.{MemoryHistory, initial, IsDifferentiated, Writes, Reads}
use Rattle.order_memory.specs.Relations.{IsEdge, ReadsFrom, CO, IsPast}
use Rattle.order_memory.specs.SourceOrder.{IsCyclic}
use Rattle.order_memory.proofs.MemoryLaws.{same_read, write-or_read, write-of_history}
use Rattle.judge_memory.proofs.Numbers.{number-once}
use Rattle.judge_memory.specs.declared.part.Part.{Part}
use Rattle.judge_memory.specs.declared.part.Part.TheVariants as parts
use Rattle.judge_memory.specs.Parts.{AreVariables, IsPart}
use Rattle.judge_columns.specs.Forks.{AreForksFound, AreOnlyWrites, LeavesOf, ShowsReadOf, ShowsStartOf}
use Rattle.judge_columns.specs.LastWrites.{WritesTo}
use Rattle.judge_columns.specs.Sights.{IsSeen}
use Rattle.judge_columns.specs.Words.{AreFutureWords, ArePastWords, AreVariableWords, HasBit, HasBitAt, IsMarked}
use Rattle.judge_columns.proofs.SessionsSwept.{or-either}
use Rattle.judge_columns.proofs.Visits.{one-source}

-- what sets a flag, said in another way
pub set-either : (now old : Type 0) (first second : Type 0) → now ↔ (old ⊎ first) → first ↔ second → now ↔ (old ⊎ second)
set-either now old first second set same = (
  (λ is. ⊎_elim (λ (was : old). inl was) (λ (one : first). inr (same.0 one)) (set.0 is)),
  λ either. set.1 (⊎_elim (λ (was : old). inl was) (λ (one : second). inr (same.1 one)) either),
)

pub both-ways : (first second third : Type 0) → first ↔ second → second ↔ third → first ↔ third
both-ways first second third one other = ((λ is. other.0 (one.0 is)), λ is. one.1 (other.1 is))

pub set-or : (flag more : Bool) (first second : Type 0) → IsTrue more ↔ first → first ↔ second → IsTrue (flag || more) ↔ (IsTrue flag ⊎ second)
set-or flag more first second is same =
    set-either (IsTrue (flag || more)) (IsTrue flag) (IsTrue more) second (or-either flag more)
    (both-ways (IsTrue more) first second is same)

module _ (h : MemoryHistory) (writes : List ℕ) (from : ℕ) where
  abbrev is : ℕ → OpId → Type 0
  is k = IsMarked h writes from k

  -- a bit represents one write
  pub marked-once : (k : ℕ) (a b : OpId) → is k a → is k b → a ≡ b
  marked-once k a b (is_a, at_a) (is_b, at_b) = number-once h a b is_a is_b (same_Some _ _ (sym at_a ∙ at_b))

  pub marked-write : AreOnlyWrites h writes → (k : ℕ) (w : OpId) → is k w → (x v : ℕ) × Writes h w x v
  marked-write only k w (is_op, at) =
      let found = only (from + k) (number h w) at in
      subst (λ (q : OpId). (x v : ℕ) × Writes h q x v) (number-once h found.0 w found.1 is_op found.2) found.3.0

  module _ (r : OpId) (is_op : IsOp h r) where
    -- one operation more is seen
    seen-more : (shows : OpId → Type 0) (old new : Type 0) → old ↔ ((q : OpId) × IsSeen h (number h r) q × shows q)
        → new ↔ (old ⊎ shows r) → new ↔ ((q : OpId) × IsSeen h (number h r + 1) q × shows q)
    seen-more shows old new was more = (
      (λ now. ⊎_elim
          (λ (before : old).
          let q = was.0 before in let below = q.1.1 in (q.0, (q.1.0, omega arith), q.2))
          (λ (here : shows r). (r, (is_op, omega arith), here))
          (more.0 now)),
      λ q. more.1 (⊎_elim
          (λ (same : number h q.0 ≡ number h r). inr (subst shows (number-once h q.0 r q.1.0 is_op same) q.2))
          (λ (apart : number h q.0 ≢ number h r).
          let below = q.1.1 in inl (was.1 (q.0, (q.1.0, omega arith), q.2)))
          (cases_eq (number h q.0) (number h r))),
    )

    seen-same : (shows : OpId → Type 0) (old : Type 0) → old ↔ ((q : OpId) × IsSeen h (number h r) q × shows q)
        → ¬ shows r → old ↔ ((q : OpId) × IsSeen h (number h r + 1) q × shows q)
    seen-same shows old was none = seen-more shows old old was (
      (λ before. inl before),
      λ either. ⊎_elim (λ (before : old). before) (λ (here : shows r). absurd (none here)) either,
    )

    abbrev Starts : OpId → Type 0
    Starts q = (k : ℕ) × (k < 128) × ShowsStartOf h (is k) q

    abbrev Reading : OpId → Type 0
    Reading q = (k : ℕ) × (k < 128) × ShowsReadOf h (is k) q

    module _ (start read : Bool) (late : List ℕ) (now : AreForksFound h writes from (number h r) start read late) where
      -- it shows nothing
      pub found-none : ((k : ℕ) → k < 128 → (¬ ShowsStartOf h (is k) r) × (¬ ShowsReadOf h (is k) r) × ((s : OpId) → ¬ LeavesOf h (is k) r s))
          → AreForksFound h writes from (number h r + 1) start read late
      found-none none = record {
        starts = seen-same Starts (IsTrue start) now.starts (λ shows. (none shows.0 shows.1).0 shows.2);
        reads = seen-same Reading (IsTrue read) now.reads (λ shows. (none shows.0 shows.1).1 shows.2);
        left = λ s k is_s below. seen-same (λ q. LeavesOf h (is k) q s) (HasBitAt late (number h s) k) (now.left s k is_s below)
            ((none k below).2 s);
      }

      -- it read an initial value
      pub found-start : (start_now : Bool) → (x : ℕ) → Reads h r x (initial h x) → IsTrue start_now ↔ (IsTrue start ⊎ Starts r)
          → AreForksFound h writes from (number h r + 1) start_now read late
      found-start start_now x reads set =
          let sourceless : (s : OpId) → ¬ ReadsFrom h s r = λ s found.
          (let same = same_read h r found.0 found.1 x (initial h x) found.3 reads in
          found.4 (same.1 ∙ sym (ap (initial h) same.0))) in
          record {
            starts = seen-more Starts (IsTrue start) (IsTrue start_now) now.starts set;
            reads = seen-same Reading (IsTrue read) now.reads (λ shows. sourceless shows.2.0 shows.2.3);
            left = λ s k is_s below. seen-same (λ q. LeavesOf h (is k) q s) (HasBitAt late (number h s) k) (now.left s k is_s below)
                (λ leaves. sourceless s leaves.2);
          }

      -- it read a written value
      pub found-read : (read_now : Bool) (late_now : List ℕ) → (s : OpId) → ReadsFrom h s r → IsTrue read_now ↔ (IsTrue read ⊎ Reading r)
          → ((u : OpId) (k : ℕ) → IsOp h u → k < 128
          → HasBitAt late_now (number h u) k ↔ (HasBitAt late (number h u) k ⊎ LeavesOf h (is k) r u))
          → AreForksFound h writes from (number h r + 1) start read_now late_now
      found-read read_now late_now s found set added = record {
        starts = seen-same Starts (IsTrue start) now.starts (λ shows.
            let same = same_read h r found.0 found.1 shows.2.1 (initial h shows.2.1) found.3 shows.2.4 in
            found.4 (same.1 ∙ sym (ap (initial h) same.0)));
        reads = seen-more Reading (IsTrue read) (IsTrue read_now) now.reads set;
        left = λ u k is_u below. seen-more (λ q. LeavesOf h (is k) q u) (HasBitAt late (number h u) k) (HasBitAt late_now (number h u) k)
            (now.left u k is_u below) (added u k is_u below);
      }

  -- what the words say of a read
  module _ (straight : ¬ IsCyclic h) (distinct : IsDifferentiated h) (only : AreOnlyWrites h writes) (variables past future of_variable : List ℕ)
      (by_key : AreVariables h variables) (are_past : ArePastWords h writes from past) (are_future : AreFutureWords h writes from future)
      (are_variable : AreVariableWords h writes from variables of_variable) (r : OpId) (is_op : IsOp h r) (seen : ℕ)
      (is_seen : (k : ℕ) → HasBit seen k
      ↔ (HasBitAt past (number h r) k × HasBitAt of_variable (slice_index_or variables (number h r) 0) k)) where
    -- the bits of the writes of its variable in its past
    seen-exact : (x u : ℕ) → Reads h r x u → (k : ℕ) → k < 128 → HasBit seen k ↔ ((w : OpId) × is k w × WritesTo h x w × CO h w r)
    seen-exact x u reads k below = (
      (λ had.
          let both = (is_seen k).0 had in
          let before = (are_past k r below is_op).0 both.0 in
          let same_variable = (are_variable k (slice_index_or variables (number h r) 0) below).0 both.1 in
          let w : OpId = before.0 in
          let wrote = marked-write only k w before.1 in
          let one = marked-once k same_variable.0 w same_variable.1 before.1 in
          let equal = subst (λ (q : OpId). slice_index_or variables (number h q) 0 ≡ slice_index_or variables (number h r) 0) one
          same_variable.2 in
          let key = (by_key w r wrote.0 x (wrote.1, inl wrote.2) (u, inr reads)).0 equal in (
            w,
            before.1,
            (wrote.1, subst (λ (y : ℕ). Writes h w y wrote.1) key wrote.2),
            ⊎_elim
                (λ (same : w ≡ r). absurd (write-or_read h w r wrote.0 wrote.1 x u wrote.2 reads same))
                (λ (leads : CO h w r). leads)
                before.2,
          )),
      λ (w, is_w, (v, wrote), leads). (is_seen k).1 (
        (are_past k r below is_op).1 (w, is_w, inr leads),
        (are_variable k (slice_index_or variables (number h r) 0) below).1
            (w, is_w, (by_key w r x x (v, inl wrote) (u, inr reads)).1 refl),
      ),
    )

    start-seen : (k : ℕ) → k < 128 → ShowsStartOf h (is k) r → HasBit seen k
    start-seen k below (w, x, is_w, wrote, reads, leads) = (seen-exact x (initial h x) reads k below).1 (w, is_w, wrote, leads)

    read-seen : (k : ℕ) → k < 128 → ShowsReadOf h (is k) r → HasBit seen k
    read-seen k below (s, w, is_w, found, wrote, first, leads) = (seen-exact found.0 found.1 found.3 k below).1 (w, is_w, wrote, leads)

    leaves-seen : (s : OpId) (k : ℕ) → k < 128 → LeavesOf h (is k) r s → HasBit seen k
    leaves-seen s k below (w, is_w, found, wrote, leads, apart) = (seen-exact found.0 found.1 found.3 k below).1 (w, is_w, wrote, leads)

    -- where no bit is seen, it shows nothing
    pub nothing-seen : (¬ ((k : ℕ) × (k < 128) × HasBit seen k))
        → (k : ℕ) → k < 128 → (¬ ShowsStartOf h (is k) r) × (¬ ShowsReadOf h (is k) r) × ((s : OpId) → ¬ LeavesOf h (is k) r s)
    nothing-seen none k below = (
      (λ shows. none (k, below, start-seen k below shows)),
      (λ shows. none (k, below, read-seen k below shows)),
      λ s leaves. none (k, below, leaves-seen s k below leaves),
    )

    -- of an initial value
    pub start-shown : (x : ℕ) → Reads h r x (initial h x)
        → ((k : ℕ) × (k < 128) × HasBit seen k) ↔ ((k : ℕ) × (k < 128) × ShowsStartOf h (is k) r)
    start-shown x reads = (
      (λ (k, below, had).
          let found = (seen-exact x (initial h x) reads k below).0 had in
          (k, below, (found.0, x, found.1, found.2, reads, found.3))),
      λ (k, below, shows). (k, below, start-seen k below shows),
    )

    -- of a written value
    module _ (s : OpId) (found : ReadsFrom h s r) where
      is_s : IsOp h s
      is_s = write-of_history h s found.0 found.1 found.2

      leaves-exact : (k : ℕ) → k < 128 → (HasBit seen k × (¬ HasBitAt past (number h s) k)) ↔ LeavesOf h (is k) r s
      leaves-exact k below = (
        (λ parts.
            let w = (seen-exact found.0 found.1 found.3 k below).0 parts.0 in
            (w.0, w.1, found, w.2, w.3, λ inside. parts.1 ((are_past k s below is_s).1 (w.0, w.1, inside)))),
        λ (w, is_w, other, wrote, leads, apart). (
          (seen-exact other.0 other.1 other.3 k below).1 (w, is_w, wrote, leads),
          λ had.
              let inside = (are_past k s below is_s).0 had in
              apart (subst (IsPast h s) (marked-once k inside.0 w inside.1 is_w) inside.2),
        ),
      )

      pub read-shown : ((k : ℕ) × (k < 128) × (HasBit seen k × (¬ HasBitAt past (number h s) k) × HasBitAt future (number h s) k))
          ↔ ((k : ℕ) × (k < 128) × ShowsReadOf h (is k) r)
      read-shown = (
        (λ (k, below, had).
            let left = (leaves-exact k below).0 (had.0, had.1) in
            let w : OpId = left.0 in
            let after = (are_future k s below is_s).0 had.2 in
            let inside = subst (λ (q : OpId). IsPast h q s) (marked-once k after.0 w after.1 left.1) after.2 in (
              k,
              below,
              (
                s,
                w,
                left.1,
                left.2,
                left.3,
                ⊎_elim
                    (λ (same : s ≡ w). absurd (left.5 (inl (sym same))))
                    (λ (leads : CO h s w). leads)
                    inside,
                left.4,
              ),
            )),
        λ (k, below, (u, w, is_w, other, wrote, first, leads)).
            let one = one-source h distinct u s r other found in
            let first_s = subst (λ (q : OpId). CO h q w) one first in
            let apart : ¬ IsPast h s w = λ inside. straight (
              s,
              ⊎_elim
                  (λ (same : w ≡ s). subst (CO h s) same first_s)
                  (λ (back : CO h w s). leads-leads (IsEdge h) s w s first_s back)
                  inside,
            ) in
            let parts = (leaves-exact k below).1 (
              w,
              is_w,
              subst (λ (q : OpId). ReadsFrom h q r) one other,
              wrote,
              leads,
              apart,
            ) in
            (k, below, (parts.0, parts.1, (are_future k s below is_s).1 (w, is_w, inr first_s))),
      )

      pub left-added : (late made : List ℕ)
          → ((n k : ℕ) → k < 128
          → HasBitAt made n k ↔ (HasBitAt late n k ⊎ ((n ≡ number h s) × (HasBit seen k × (¬ HasBitAt past (number h s) k)))))
          → (u : OpId) (k : ℕ) → IsOp h u → k < 128
          → HasBitAt made (number h u) k ↔ (HasBitAt late (number h u) k ⊎ LeavesOf h (is k) r u)
      left-added late made added u k is_u below = (
        (λ had. ⊎_elim
            (λ (old : HasBitAt late (number h u) k). inl old)
            (λ (new : (number h u ≡ number h s) × (HasBit seen k × (¬ HasBitAt past (number h s) k))).
            inr (subst (LeavesOf h (is k) r) (number-once h s u is_s is_u (sym new.0)) ((leaves-exact k below).0 new.1)))
            ((added (number h u) k below).0 had)),
        λ either. (added (number h u) k below).1 (⊎_elim
            (λ (old : HasBitAt late (number h u) k). inl old)
            (λ (new : LeavesOf h (is k) r u).
            let one = one-source h distinct u s r new.2 found in
            inr (ap (number h) one, (leaves-exact k below).1 (subst (LeavesOf h (is k) r) one new)))
            either),
      )

  -- an operation of another part than a read of an initial or a written value shows nothing
  quiet : (r : OpId) (p : Part) → IsPart h r p → p ≢ parts.InitialRead → ((n : ℕ) → p ≢ parts.SourcedRead n)
      → ((x : ℕ) → ¬ Reads h r x (initial h x)) × ((s : OpId) → ¬ ReadsFrom h s r)
  quiet r parts.Write (y, u, writes) first second = (
    (λ x reads. write-or_read h r r y u x (initial h x) writes reads refl),
    λ s found. write-or_read h r r y u found.0 found.1 writes found.3 refl,
  )
  quiet r (parts.SourcedRead n) found first second = absurd (second n refl)
  quiet r parts.InitialRead reads first second = absurd (first refl)
  quiet r parts.ThinAirRead (y, u, reads, apart, unwritten) first second = (
    (λ x again. let same = same_read h r x (initial h x) y u again reads in apart (sym same.1 ∙ ap (initial h) same.0)),
    λ s found.
        let same = same_read h r found.0 found.1 y u found.3 reads in
        unwritten s (subst (λ (z : ℕ). Writes h s z u) same.0 (subst (λ (z : ℕ). Writes h s found.0 z) same.1 found.2)),
  )
  quiet r parts.UnknownRead (unwrites, unreads) first second = (
    (λ x reads. unreads x (initial h x) reads),
    λ s found. unreads found.0 found.1 found.3,
  )

  pub quiet-none : (r : OpId) (p : Part) → IsPart h r p → p ≢ parts.InitialRead → ((n : ℕ) → p ≢ parts.SourcedRead n)
      → (k : ℕ) → k < 128 → (¬ ShowsStartOf h (is k) r) × (¬ ShowsReadOf h (is k) r) × ((s : OpId) → ¬ LeavesOf h (is k) r s)
  quiet-none r p part first second k below =
      let none = quiet r p part first second in (
        (λ shows. none.0 shows.1 shows.4),
        (λ shows. none.1 shows.0 shows.3),
        λ s leaves. none.1 s leaves.2,
      )

pub three-apart : (p : Part) → (p ≡ parts.Write) ⊎ ((p ≡ parts.ThinAirRead) ⊎ (p ≡ parts.UnknownRead))
    → (p ≢ parts.InitialRead) × ((n : ℕ) → p ≢ parts.SourcedRead n)
three-apart p (inl write) = ((λ same. absurd (let e : parts.Write ≡ parts.InitialRead = sym write ∙ same in cc)), λ n same. absurd (let e : parts.Write ≡ parts.SourcedRead n = sym write ∙ same in cc))
three-apart p (inr (inl thin)) = ((λ same. absurd (let e : parts.ThinAirRead ≡ parts.InitialRead = sym thin ∙ same in cc)), λ n same. absurd (let e : parts.ThinAirRead ≡ parts.SourcedRead n = sym thin ∙ same in cc))
three-apart p (inr (inr unknown)) = ((λ same. absurd (let e : parts.UnknownRead ≡ parts.InitialRead = sym unknown ∙ same in cc)), λ n same. absurd (let e : parts.UnknownRead ≡ parts.SourcedRead n = sym unknown ∙ same in cc))

-- the bits that are seen, by what was read of the words
pub seen-words : (past of_variable variables : List ℕ) (n x a b seen : ℕ) → a ≡ slice_index_or past n 0 → b ≡ slice_index_or of_variable x 0
    → x ≡ slice_index_or variables n 0 → ((k : ℕ) → HasBit seen k ↔ (HasBit a k × HasBit b k)) → (m : ℕ) → m ≡ n
    → (k : ℕ) → HasBit seen k ↔ (HasBitAt past m k × HasBitAt of_variable (slice_index_or variables m 0) k)
seen-words past of_variable variables n x a b seen first second variable shared m same k =
    subst (λ (j : ℕ). HasBit seen k ↔ (HasBitAt past j k × HasBitAt of_variable (slice_index_or variables j 0) k)) (sym same)
    (subst (λ (y : ℕ). HasBit seen k ↔ (HasBitAt past n k × HasBitAt of_variable y k)) variable
    (subst (λ (p : ℕ). HasBit seen k ↔ (HasBit p k × HasBitAt of_variable x k)) first
    (subst (λ (q : ℕ). HasBit seen k ↔ (HasBit a k × HasBit q k)) second (shared k))))
