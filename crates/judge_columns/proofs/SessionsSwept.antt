-- The columns of sessions show together what each shows alone.
use Rattle.std.specs.Prelude.{◌≡◌, ◌⊎◌, ◌↔◌, ℕ, ◌+◌, ◌<◌, ◌≤◌, ◌||◌, Bool, false, IsTrue, List, []}
use Rattle.std.proofs.Common.{arith, ap, sym, ◌∙◌, refl, subst, inl, inr, ⊎_elim}
use Rattle.std.proofs.lemmas.Bool.{cases_lt, or_cases, or_left, or_right}
use Rattle.std.proofs.lemmas.Option.{slice_get_within}
use Rattle.model_history.specs.declared.op_id.OpId.{OpId}
use Rattle.model_history.specs.History.{IsOp, Precedes, number}
use Rattle.order_memory.specs.Memory.{MemoryHistory, Writes}
use Rattle.order_memory.specs.OverwrittenReads.{HasOverwrittenStart, HasOverwrittenRead}
use Rattle.order_memory.specs.Relations.{CO, CF}
use Rattle.judge_memory.specs.Steps.{IsListedEdge, many}
use Rattle.judge_memory.proofs.Numbers.{number-found}
use Rattle.judge_columns.specs.Conflicts.{IsLateEdge, IsReducedIn}
use Rattle.judge_columns.specs.LastWrites.{HasOverwrittenStartFrom, HasOverwrittenReadBy}
use Rattle.judge_columns.specs.Swept.{AreEdgesOf, AreSwept, HasEdge, IsNumberedEdge}
use Rattle.judge_columns.proofs.Overwrites.{starts-by_sessions, reads-by_sessions}

-- one of two flags is set
pub or-either : (a b : Bool) → IsTrue (a || b) ↔ (IsTrue a ⊎ IsTrue b)
or-either a b = (
  or_cases a b,
  λ either. ⊎_elim (λ (first : IsTrue a). or_left a b first) (λ (second : IsTrue b). or_right a b second) either,
)

flag-one : (shows : ℕ → Type 0) (t : ℕ) (flag : Bool) → IsTrue flag ↔ shows t → IsTrue flag ↔ ((u : ℕ) × (u ≡ t) × shows u)
flag-one shows t flag is = ((λ set. (t, refl, is.0 set)), λ some. is.1 (subst shows some.1 some.2))

no-edge : (from to : ℕ) → ¬ HasEdge [] from to
no-edge from to (j, at) = let within = slice_get_within {A = ℕ × ℕ} [] j (from, to) at in omega arith

module _ (h : MemoryHistory) where
  no-numbered : (a w : OpId) → ¬ IsNumberedEdge h (HasEdge []) a w
  no-numbered a w (is_a, is_w, between) = no-edge (number h a) (number h w) between

  -- no session shows anything
  pub swept-none : (sessions : ℕ → Type 0) → ((t : ℕ) → ¬ sessions t) → AreSwept h sessions false false (HasEdge [])
  swept-none sessions none = record {
    starts = ((λ bad. absurd cc), λ some. absurd (none some.0 some.1));
    reads = ((λ bad. absurd cc), λ some. absurd (none some.0 some.1));
    sound = λ clear a w edge. absurd (no-numbered a w edge);
    reduced = λ clear t is. absurd (none t is);
    below = λ from to edge. absurd (no-edge from to edge);
  }

  -- a session shows what its column does
  module _ (t : ℕ) (start read : Bool) (late : ℕ → ℕ) (start_shows : IsTrue start ↔ HasOverwrittenStartFrom h t)
      (read_shows : IsTrue read ↔ HasOverwrittenReadBy h t) (reduced : ¬ IsTrue read → IsReducedIn h t (IsLateEdge h late))
      (ending : (to : ℕ) → many h ≤ to → late to ≡ 0)
      (small : (w : OpId) (n : ℕ) → IsOp h w → late (number h w) ≡ n + 1 → n < many h) where
    pub swept-column : AreSwept h (λ u. u ≡ t) start read (λ from to. late to ≡ from + 1)
    swept-column = record {
      starts = flag-one (HasOverwrittenStartFrom h) t start start_shows;
      reads = flag-one (HasOverwrittenReadBy h) t read read_shows;
      sound = λ clear a w edge. (reduced clear).sound a w edge;
      reduced = λ clear u same. subst (λ (s : ℕ). IsReducedIn h s (IsLateEdge h late)) (sym same) (reduced clear);
      below = λ from to new. ⊎_elim
          (λ (inside : to < many h).
          let found = number-found h to inside in
          (small found.0 from found.1 (ap late found.2 ∙ new), inside))
          (λ (past : many h ≤ to). let none = ending to past in absurd (omega arith))
          (cases_lt to (many h));
    }

  -- some sessions and others show together what each of the two shows
  module _ (first second both : ℕ → Type 0) (split : (t : ℕ) → both t ↔ (first t ⊎ second t)) where
    flag-both : (shows : ℕ → Type 0) (flag other made : Bool) → IsTrue flag ↔ ((t : ℕ) × first t × shows t)
        → IsTrue other ↔ ((t : ℕ) × second t × shows t) → IsTrue made ↔ (IsTrue flag ⊎ IsTrue other)
        → IsTrue made ↔ ((t : ℕ) × both t × shows t)
    flag-both shows flag other made was is either = (
      (λ set. ⊎_elim
          (λ (old : IsTrue flag). let some = was.0 old in (some.0, (split some.0).1 (inl some.1), some.2))
          (λ (new : IsTrue other). let some = is.0 new in (some.0, (split some.0).1 (inr some.1), some.2))
          (either.0 set)),
      λ some. either.1 (⊎_elim
          (λ (old : first some.0). inl (was.1 (some.0, old, some.2)))
          (λ (new : second some.0). inr (is.1 (some.0, new, some.2)))
          ((split some.0).0 some.1)),
    )

    module _ (start read : Bool) (edge : ℕ → ℕ → Type 0) (was : AreSwept h first start read edge)
        (more_start more_read : Bool) (more : ℕ → ℕ → Type 0) (is : AreSwept h second more_start more_read more)
        (start_now read_now : Bool) (now : ℕ → ℕ → Type 0) (starts : IsTrue start_now ↔ (IsTrue start ⊎ IsTrue more_start))
        (reads : IsTrue read_now ↔ (IsTrue read ⊎ IsTrue more_read))
        (edges : (from to : ℕ) → now from to ↔ (edge from to ⊎ more from to)) where
      sound-both : ¬ IsTrue read_now → (a w : OpId) → IsNumberedEdge h now a w → CF h a w
      sound-both clear a w (is_a, is_w, between) = ⊎_elim
          (λ (old : edge (number h a) (number h w)). was.sound (λ set. clear (reads.1 (inl set))) a w (is_a, is_w, old))
          (λ (new : more (number h a) (number h w)). is.sound (λ set. clear (reads.1 (inr set))) a w (is_a, is_w, new))
          ((edges (number h a) (number h w)).0 between)

      module _ (narrow : ℕ → ℕ → Type 0) (wider : (from to : ℕ) → narrow from to → now from to) where
        widened : (b w : OpId) → ((a : OpId) × ((b ≡ a) ⊎ Precedes b a) × IsNumberedEdge h narrow a w)
            → (a : OpId) × ((b ≡ a) ⊎ Precedes b a) × IsNumberedEdge h now a w
        widened b w (a, from, (is_a, is_w, between)) = (a, from, (is_a, is_w, wider (number h a) (number h w) between))

        reduced-wider : ¬ IsTrue read_now → (t : ℕ) → IsReducedIn h t (IsNumberedEdge h narrow) → IsReducedIn h t (IsNumberedEdge h now)
        reduced-wider clear t old = record {
          sound = sound-both clear;
          each = λ b w of_t conflict. ⊎_elim
              (λ (before : CO h b w). inl before)
              (λ (some : (a : OpId) × ((b ≡ a) ⊎ Precedes b a) × IsNumberedEdge h narrow a w). inr (widened b w some))
              (old.each b w of_t conflict);
        }

      pub swept-both : AreSwept h both start_now read_now now
      swept-both = record {
        starts = flag-both (HasOverwrittenStartFrom h) start more_start start_now was.starts is.starts starts;
        reads = flag-both (HasOverwrittenReadBy h) read more_read read_now was.reads is.reads reads;
        sound = sound-both;
        reduced = λ clear t among. ⊎_elim
            (λ (old : first t).
            reduced-wider edge (λ from to has. (edges from to).1 (inl has)) clear t
            (was.reduced (λ set. clear (reads.1 (inl set))) t old))
            (λ (new : second t).
            reduced-wider more (λ from to has. (edges from to).1 (inr has)) clear t
            (is.reduced (λ set. clear (reads.1 (inr set))) t new))
            ((split t).0 among);
        below = λ from to has. ⊎_elim
            (λ (old : edge from to). was.below from to old)
            (λ (new : more from to). is.below from to new)
            ((edges from to).0 has);
      }

  -- the same sessions, said in another way
  module _ (sessions others : ℕ → Type 0) (same : (t : ℕ) → others t ↔ sessions t) (start read : Bool) (edge : ℕ → ℕ → Type 0)
      (was : AreSwept h sessions start read edge) where
    flag-same : (shows : ℕ → Type 0) (flag : Bool) → IsTrue flag ↔ ((t : ℕ) × sessions t × shows t)
        → IsTrue flag ↔ ((t : ℕ) × others t × shows t)
    flag-same shows flag is = (
      (λ set. let some = is.0 set in (some.0, (same some.0).1 some.1, some.2)),
      λ some. is.1 (some.0, (same some.0).0 some.1, some.2),
    )

    pub swept-same : AreSwept h others start read edge
    swept-same = record {
      starts = flag-same (HasOverwrittenStartFrom h) start was.starts;
      reads = flag-same (HasOverwrittenReadBy h) read was.reads;
      sound = was.sound;
      reduced = λ clear t is. was.reduced clear t ((same t).0 is);
      below = was.below;
    }

  -- all sessions that write
  module _ (sessions : ℕ → Type 0) (writers : (w : OpId) (x v : ℕ) → Writes h w x v → sessions w.session)
      (start read : Bool) (edges : List (ℕ × ℕ)) (now : AreSwept h sessions start read (HasEdge edges)) where
    among-all : (w : OpId) (x v t : ℕ) → Writes h w x v → w.session ≡ t → sessions t
    among-all w x v t wrote of_t = subst sessions of_t (writers w x v wrote)

    pub all-starts : IsTrue start ↔ HasOverwrittenStart h
    all-starts = (
      (λ set. let some = now.starts.0 set in (starts-by_sessions h).1 (some.0, some.2)),
      λ has.
          let some = (starts-by_sessions h).0 has in
          let (w, r, x, v, of_t, wrote, reads, leads) = some.1 in
          now.starts.1 (some.0, among-all w x v some.0 wrote of_t, some.1),
    )

    pub all-reads : IsTrue read ↔ HasOverwrittenRead h
    all-reads = (
      (λ set. let some = now.reads.0 set in (reads-by_sessions h).1 (some.0, some.2)),
      λ has.
          let some = (reads-by_sessions h).0 has in
          let (a, b, r, of_t, from, rivals, first, second) = some.1 in
          now.reads.1 (some.0, among-all b rivals.1.0 rivals.1.2 some.0 rivals.1.4 of_t, some.1),
    )

    listed : (b w : OpId) → ((a : OpId) × ((b ≡ a) ⊎ Precedes b a) × IsNumberedEdge h (HasEdge edges) a w)
        → (a : OpId) × ((b ≡ a) ⊎ Precedes b a) × IsListedEdge h edges a w
    listed b w (a, from, (is_a, is_w, (j, at))) = (a, from, (j, at, is_a, is_w))

    sound-listed : ¬ IsTrue read → (a w : OpId) → IsListedEdge h edges a w → CF h a w
    sound-listed clear a w (j, at, is_a, is_w) = now.sound clear a w (is_a, is_w, (j, at))

    pub all-reduced : ¬ IsTrue read → (t : ℕ) → IsReducedIn h t (IsListedEdge h edges)
    all-reduced clear t = record {
      sound = sound-listed clear;
      each = λ b w of_t conflict.
          let rivals = conflict.0.1 in
          let among = among-all b rivals.0 rivals.1 t rivals.3 of_t in
          ⊎_elim
          (λ (before : CO h b w). inl before)
          (λ (some : (a : OpId) × ((b ≡ a) ⊎ Precedes b a) × IsNumberedEdge h (HasEdge edges) a w). inr (listed b w some))
          ((now.reduced clear t among).each b w of_t conflict);
    }

  pub all-below : (sessions : ℕ → Type 0) (start read : Bool) (edges : List (ℕ × ℕ)) → AreSwept h sessions start read (HasEdge edges)
      → AreEdgesOf h edges
  all-below sessions start read edges now j from to at = now.below from to (j, at)
