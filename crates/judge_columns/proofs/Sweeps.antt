-- How a sweep begins, sees one operation more, and ends.
use Rattle.std.specs.Prelude.{◌≡◌, ◌≢◌, ◌⊎◌, ◌↔◌, ℕ, ◌+◌, ◌<◌, ◌≤◌, Bool, true, false, IsTrue}
use Rattle.std.proofs.Common.{arith, ap, sym, ◌∙◌, subst, inl, inr, ⊎_elim}
use Rattle.std.proofs.lemmas.Bool.{cases_eq}
use Rattle.model_history.specs.declared.op_id.OpId.{OpId}
use Rattle.model_history.specs.History.{IsOp, number}
use Rattle.order_memory.specs.Memory.{MemoryHistory, initial, IsDifferentiated}
use Rattle.order_memory.specs.SourceOrder.{IsCyclic}
use Rattle.order_memory.proofs.MemoryLaws.{read-of_history}
use Rattle.judge_memory.specs.Steps.{many}
use Rattle.judge_memory.proofs.Numbers.{number-all, number-once}
use Rattle.judge_columns.specs.Columns.{ArePastEnds, AreFirsts}
use Rattle.judge_columns.specs.Conflicts.{IsLateEdge, IsLateTable, IsReducedIn}
use Rattle.judge_columns.specs.LastWrites.{ShowsStart, ShowsRead, IsLastBeside, HasOverwrittenStartFrom, HasOverwrittenReadBy}
use Rattle.judge_columns.specs.Sights.{IsNoted, IsSeen, IsSight}
use Rattle.judge_columns.specs.Sweeps.{IsSwept}
use Rattle.judge_columns.specs.Visits.{IsGreater}
use Rattle.judge_columns.specs.declared.sight.Sight.{Sight}
use Rattle.judge_columns.specs.declared.sight.Sight.TheVariants as sights
use Rattle.judge_columns.proofs.LateWrites.{beside-once, late-first, late-kept, late-raised, late-same, reduced-made}
use Rattle.judge_columns.proofs.Overwrites.{start-exact, read-exact}
use Rattle.judge_columns.proofs.Sights.{start-apart, source-apart}

module _ (h : MemoryHistory) (t : ℕ) (ends firsts : ℕ → ℕ) where
  -- before any operation is seen
  pub swept-first : (late : ℕ → ℕ) → ((n : ℕ) → late n ≡ 0) → IsSwept h t ends firsts (IsSeen h 0) false false late
  swept-first late none =
      let unseen : (r : OpId) → ¬ IsSeen h 0 r = λ r is. (let below = is.1 in omega arith) in
      record {
        starts = ((λ bad. absurd cc), λ found. absurd (unseen found.0 found.1));
        reads = ((λ bad. absurd cc), λ found. absurd (unseen found.0 found.1));
        edges = late-first h t ends firsts (IsSeen h 0) unseen late none;
      }

  module _ (r : OpId) (is_op : IsOp h r) where
    abbrev before : OpId → Type 0
    before = IsSeen h (number h r)

    abbrev now_seen : OpId → Type 0
    now_seen = IsSeen h (number h r + 1)

    more : (q : OpId) → now_seen q → before q ⊎ (q ≡ r)
    more q (is_q, below) = ⊎_elim
        (λ (same : number h q ≡ number h r). inr (number-once h q r is_q is_op same))
        (λ (apart : number h q ≢ number h r). inl (is_q, omega arith))
        (cases_eq (number h q) (number h r))

    still : (q : OpId) → before q → now_seen q
    still q (is_q, below) = (is_q, omega arith)

    is_seen : now_seen r
    is_seen = (is_op, omega arith)

    flag-more : (shows : OpId → Type 0) (flag made : Bool) → IsTrue flag ↔ ((q : OpId) × before q × shows q)
        → IsTrue made ↔ (IsTrue flag ⊎ shows r) → IsTrue made ↔ ((q : OpId) × now_seen q × shows q)
    flag-more shows flag made was is = (
      (λ set. ⊎_elim
          (λ (old : IsTrue flag). let found = was.0 old in (found.0, still found.0 found.1, found.2))
          (λ (here : shows r). (r, is_seen, here))
          (is.0 set)),
      λ found. is.1 (⊎_elim
          (λ (old : before found.0). inl (was.1 (found.0, old, found.2)))
          (λ (same : found.0 ≡ r). inr (subst shows same found.2))
          (more found.0 found.1)),
    )

    flag-same : (shows : OpId → Type 0) (flag made : Bool) → made ≡ flag → IsTrue flag ↔ ((q : OpId) × before q × shows q) → ¬ shows r
        → IsTrue made ↔ ((q : OpId) × now_seen q × shows q)
    flag-same shows flag made same was none = flag-more shows flag made was (
      (λ set. inl (subst IsTrue same set)),
      λ either. ⊎_elim (λ (set : IsTrue flag). subst IsTrue (sym same) set) (λ (here : shows r). absurd (none here)) either,
    )

    flag-set : (shows : OpId → Type 0) (flag made : Bool) → made ≡ true → IsTrue flag ↔ ((q : OpId) × before q × shows q) → shows r
        → IsTrue made ↔ ((q : OpId) × now_seen q × shows q)
    flag-set shows flag made set was here = flag-more shows flag made was ((λ is. inr here), λ either. set)

    late-still : (late made : ℕ → ℕ) → ((n : ℕ) → made n ≡ late n) → IsLateTable h t ends firsts before late
        → ((w a : OpId) → IsLastBeside h t ends w r a → (firsts (number h w) ≤ number h a) ⊎ (number h a < ends (number h w)))
        → IsLateTable h t ends firsts now_seen made
    late-still late made same was clear =
        late-same h t ends firsts now_seen late made same (late-kept h t ends firsts before now_seen late was r more clear)

    module _ (distinct : IsDifferentiated h) (start read : Bool) (late : ℕ → ℕ) (was : IsSwept h t ends firsts before start read late)
        (start_now read_now : Bool) (late_now : ℕ → ℕ) where
      -- what an operation shows is noted
      pub swept-noted : (s : Sight) → IsSight h t ends firsts r s → IsNoted s start read late start_now read_now late_now
          → IsSwept h t ends firsts now_seen start_now read_now late_now
      swept-noted sights.Nothing (no_start, clear) (same_start, same_read, same_late) = record {
        starts = flag-same (ShowsStart h t ends) start start_now same_start was.starts no_start;
        reads = flag-same (ShowsRead h t ends firsts) read read_now same_read was.reads (λ shows.
            let ahead = (clear shows.0 shows.1 shows.2).0 in let up_to = shows.3 in omega arith);
        edges = late-still late late_now same_late was.edges (λ w a beside. inr (clear w a beside).1);
      }
      swept-noted sights.OverwrittenStart shows (set, same_read, same_late) = record {
        starts = flag-set (ShowsStart h t ends) start start_now set was.starts shows;
        reads = flag-same (ShowsRead h t ends firsts) read read_now same_read was.reads
            (λ reads. start-apart h t ends firsts r shows.1 shows.2 reads.0 reads.1 reads.2);
        edges = late-still late late_now same_late was.edges
            (λ w a beside. absurd (start-apart h t ends firsts r shows.1 shows.2 w a beside));
      }
      swept-noted sights.OverwrittenRead (w, a, beside, up_to) (same_start, set, same_late) = record {
        starts = flag-same (ShowsStart h t ends) start start_now same_start was.starts (source-apart h t ends firsts r w beside.0);
        reads = flag-set (ShowsRead h t ends firsts) read read_now set was.reads (w, a, beside, up_to);
        edges = late-still late late_now same_late was.edges (λ u b other.
            let same = beside-once h t ends distinct w r a beside u b other in
            let source = ap (λ (q : OpId). firsts (number h q)) same.0 in
            let last = ap (number h) same.1 in
            inl (omega arith));
      }
      swept-noted (sights.Conflict n m) (w, a, beside, ahead, at_a, at_w) (same_start, same_read, raised) = record {
        starts = flag-same (ShowsStart h t ends) start start_now same_start was.starts (source-apart h t ends firsts r w beside.0);
        reads = flag-same (ShowsRead h t ends firsts) read read_now same_read was.reads (λ (u, b, other, up_to).
            let same = beside-once h t ends distinct w r a beside u b other in
            let source = ap (λ (q : OpId). firsts (number h q)) same.0 in
            let last = ap (number h) same.1 in
            omega arith);
        edges = late-raised h t ends firsts before now_seen late was.edges r more distinct w a beside late_now
            (subst (λ (k : ℕ). IsGreater (late (number h w)) (k + 1) (late_now (number h w))) (sym at_a)
            (subst (λ (k : ℕ). IsGreater (late k) (n + 1) (late_now k)) (sym at_w) raised.here))
            (λ k apart. raised.others k (λ same. apart (same ∙ sym at_w)));
      }

  -- once every operation is seen
  module _ (column : ArePastEnds h t ends) (n : ℕ) (whole : many h ≤ n) (start read : Bool) (late : ℕ → ℕ)
      (now : IsSwept h t ends firsts (IsSeen h n) start read late) where
    seen-all : (r : OpId) → IsOp h r → IsSeen h n r
    seen-all r is_op = let below = number-all h r is_op in (is_op, omega arith)

    pub swept-starts : IsTrue start ↔ HasOverwrittenStartFrom h t
    swept-starts = (
      (λ set. let found = now.starts.0 set in (start-exact h t ends column).1 (found.0, found.2)),
      λ has.
          let shows = (start-exact h t ends column).0 has in
          let is_op = read-of_history h shows.0 shows.1.1 (initial h shows.1.1) shows.1.2 in
          now.starts.1 (shows.0, seen-all shows.0 is_op, shows.1),
    )

    all-seen : (w r a : OpId) → IsLastBeside h t ends w r a → IsSeen h n r
    all-seen w r a (from, is, apart) = seen-all r (read-of_history h r from.0 from.1 from.3)

    module _ (straight : ¬ IsCyclic h) (are_firsts : AreFirsts h t firsts) where
      pub swept-reads : IsTrue read ↔ HasOverwrittenReadBy h t
      swept-reads = (
        (λ set. let found = now.reads.0 set in (read-exact h t ends column straight firsts are_firsts).1 (found.0, found.2)),
        λ has.
            let shows = (read-exact h t ends column straight firsts are_firsts).0 has in
            now.reads.1 (shows.0, all-seen shows.1.0 shows.0 shows.1.1 shows.1.2, shows.1),
      )

      pub swept-edges : ¬ IsTrue read → IsReducedIn h t (IsLateEdge h late)
      swept-edges clear = reduced-made h t ends firsts straight column are_firsts (λ has. clear (swept-reads.1 has)) (IsSeen h n)
          all-seen late now.edges
