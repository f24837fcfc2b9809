-- What follows for what a search of happened-before relations comes to.
use Rattle.std.proofs.Common.{◌≡◌, ℕ, ◌+◌, ◌-◌, ◌<◌, ◌≤◌, List, Ok, Err, Result, length, inl, inr, ⊎_elim, refl, sym, arith, lt-ltb, ltb-true, subst, eq-or-lt_of_le}
use Rattle.std.specs.Prelude.{◌⊎◌, IfOk, IsTrue, None, Option, Some}
use Rattle.std.proofs.lemmas.Bool.{cases_lt}
use Rattle.model_history.specs.declared.op_id.OpId.{OpId}
use Rattle.model_history.specs.History.{IsOp, session}
use Rattle.order_memory.specs.declared.growing_order.Raise.{Raise}
use Rattle.order_memory.specs.HappenedBeforePatterns.{HasHBCycle, HasStartOverwrittenInHB}
use Rattle.order_memory.specs.Memory.{MemoryHistory, IsDifferentiated}
use Rattle.order_memory.specs.Relations.{HB}
use Rattle.order_causal.specs.Orders.{op, program_past}
use Rattle.order_causal.specs.Vectors.{Counts, count}
use Rattle.order_memory.specs.Steps.HappenedBefores.{HasMorePairs}
use Rattle.order_memory.proofs.HappenedBeforeLaws.{HB-earlier, HB-of_history, in_past-from, in_past-true, past-of_history, past-past, past-program, program_past-earlier, program_past-from}
use Rattle.order_memory.proofs.HappenedBeforeVectors.{supported-strict}
use Rattle.order_causal.proofs.OrdersLaws.{session-of_history}
use Rattle.pattern_check.specs.declared.derivation.Line.{Line}
use Rattle.pattern_check.specs.declared.kind.Kind.{Kind}
use Rattle.pattern_check.specs.declared.kind.Kind.TheVariants.{WriteHBInitRead, CyclicHB}
use Rattle.pattern_check.specs.declared.pattern.Pattern.TheVariants as patterns
use Rattle.pattern_check.specs.declared.pattern.Pattern.{Pattern as BadPattern}
use Rattle.pattern_check.specs.Derivations.{IsDerivation}
use Rattle.pattern_check.specs.Kinds.{is_against}
use Rattle.pattern_check.specs.Patterns.{IsBadPattern, kind_of}
use Rattle.cert_check.specs.declared.criterion.Criterion.{Criterion}
use Rattle.cert_check.specs.declared.criterion.Criterion.TheVariants.{Cc, Cm, Ccv}
use Rattle.pattern_search.specs.declared.searched.Searched.{Searched}
use Rattle.pattern_search.specs.declared.searched.Searched.TheVariants.{Pattern, Present, Open, Nothing}
use Rattle.pattern_search.specs.declared.searched.SearchedKinds.{SearchedKinds}
use Rattle.pattern_search.specs.Searches.{AreSearched, ComesTo, HasLargeHB, HasPattern, either}
use Rattle.pattern_search.specs.Steps.Found.{IsFirstHappened}
use Rattle.pattern_search.specs.Steps.Relations.{HasLarge, HasNoCycle, HasNoCycleBefore, HasNoRelation, HasNoStart, HasNoStartBefore}
use Rattle.pattern_search.specs.Steps.Relations.{IsRelation, IsStartOverwritten}

-- what holds of each result holds of a result
pub ok-weaker : {A E : Type 0} (r : Result A E) (P Q : A → Type 0) → ((x : A) → P x → Q x) → IfOk r P → IfOk r Q
ok-weaker (Ok x) P Q weaker p = weaker x p
ok-weaker (Err e) P Q weaker p = p

-- a pattern that is shown stays
pub either-pattern : (s t : Searched) → HasPattern s → HasPattern (either s t)
either-pattern (Pattern pattern) t shown = shown
either-pattern Present t shown = absurd shown
either-pattern Open t shown = absurd shown
either-pattern Nothing t shown = absurd shown

-- what is no pattern
pub not-pattern : (s : Searched) → (s ≡ Present) ⊎ ((s ≡ Open) ⊎ (s ≡ Nothing)) → ¬ HasPattern s
not-pattern s found shown = ⊎_elim
    (λ (is : s ≡ Present). subst (λ (t : Searched). HasPattern t) is shown)
    (λ (other : (s ≡ Open) ⊎ (s ≡ Nothing)). ⊎_elim
    (λ (is : s ≡ Open). subst (λ (t : Searched). HasPattern t) is shown)
    (λ (is : s ≡ Nothing). subst (λ (t : Searched). HasPattern t) is shown)
    other)
    found

module _ (h : MemoryHistory) where
  pub comes-weaker : (kind : Kind) (A B C D : Type 0) → (A → C) → (B → D) → (s : Searched) → ComesTo h kind A B s → ComesTo h kind C D s
  comes-weaker kind A B C D undecided nothing (Pattern pattern) comes = comes
  comes-weaker kind A B C D undecided nothing Present comes = comes
  comes-weaker kind A B C D undecided nothing Open comes = undecided comes
  comes-weaker kind A B C D undecided nothing Nothing comes = nothing comes

  pub comes-pattern : (kind : Kind) (A B C D : Type 0) (s : Searched) → HasPattern s → ComesTo h kind A B s → ComesTo h kind C D s
  comes-pattern kind A B C D (Pattern pattern) shown comes = comes
  comes-pattern kind A B C D Present shown comes = absurd shown
  comes-pattern kind A B C D Open shown comes = absurd shown
  comes-pattern kind A B C D Nothing shown comes = absurd shown

  -- two searches come to nothing where both do
  pub comes-either : (kind : Kind) (A B C : Type 0) (s t : Searched) → ComesTo h kind A B s → ComesTo h kind A C t
      → ComesTo h kind A (B × C) (either s t)
  comes-either kind A B C (Pattern pattern) t first second = first
  comes-either kind A B C Present (Pattern pattern) first second = second
  comes-either kind A B C Present Present first second = first
  comes-either kind A B C Present Open first second = first
  comes-either kind A B C Present Nothing first second = first
  comes-either kind A B C Open (Pattern pattern) first second = second
  comes-either kind A B C Open Present first second = second
  comes-either kind A B C Open Open first second = first
  comes-either kind A B C Open Nothing first second = first
  comes-either kind A B C Nothing (Pattern pattern) first second = second
  comes-either kind A B C Nothing Present first second = second
  comes-either kind A B C Nothing Open first second = second
  comes-either kind A B C Nothing Nothing first second = (first, second)

  -- a relation that has so many pairs has them later in its session too
  more-later : IsDifferentiated h → (o p : OpId) → IsOp h o → IsTrue (program_past o p) → (n : ℕ) → HasMorePairs h p n → HasMorePairs h o n
  more-later distinct o p is_op before n more =
      let p_past = past-program h o p is_op before in
      let p_is_op = past-of_history h o p is_op p_past in
      let v = more.causal in
      record {
        causal = v;
        counts = more.counts;
        strict = more.strict;
        begun = more.begun;
        now = more.now;
        held = more.held;
        supported = λ a b in_b counted. ⊎_elim
            (λ (inside : b.index < count v p b.session).
            let in_p = in_past-true h v more.counts distinct p p_is_op b (lt-ltb b.index (count v p b.session) inside) in
            HB-earlier h o p is_op before a b (more.supported a b in_p counted))
            (λ (out : count v p b.session ≤ b.index).
            let same = more.outside b a.session (λ in_p.
            let inside = ltb-true b.index (count v p b.session) (in_past-from h v more.counts distinct p p_is_op b in_p) in omega arith) in
            supported-strict h v more.counts distinct o is_op more.strict more.begun a b in_b (omega arith))
            (cases_lt b.index (count v p b.session));
        outside = λ q s not. more.outside q s (λ in_p. not (past-past h o p q p_past in_p));
        more = more.more;
      }

  -- a relation of the session that is given up leaves none for its last operation
  given-up-last : IsDifferentiated h → (s i j : ℕ) → i ≤ j → j + 1 ≡ length (session h s) → (most : Option ℕ) → HasLarge h most (op s i) → HasLarge h most (op s j)
  given-up-last distinct s i j up_to last None more = more
  given-up-last distinct s i j up_to last (Some n) more =
      more-later distinct (op s j) (op s i) (omega arith) (program_past-from (op s j) (op s i) refl up_to) n more

  pub given-up : IsDifferentiated h → (s i : ℕ) → IsOp h (op s i) → (most : Option ℕ) → HasLarge h most (op s i) → HasNoRelation h most s
  given-up distinct s i is_op most more =
      let j : ℕ = length (session h s) - 1 in
      let last : j + 1 ≡ length (session h s) = omega arith in
      inr (j, last, given-up-last distinct s i j (omega arith) last most more)

  -- a session with operations and no relation leaves the search open
  large-open : (most : Option ℕ) (o : OpId) → IsOp h o → HasLarge h most o → HasLargeHB h most
  large-open None o is_op more = more
  large-open (Some n) o is_op more = (o, is_op, more)

  pub no-relation : (most : Option ℕ) (s : ℕ) → ¬ (length (session h s) ≡ 0) → HasNoRelation h most s → HasLargeHB h most
  no-relation most s some none = ⊎_elim
      (λ (empty : length (session h s) ≡ 0). absurd (some empty))
      (λ (large : (i : ℕ) × (i + 1 ≡ length (session h s)) × HasLarge h most (op s i)).
      let last = large.1 in large-open most (op s large.0) (omega arith) large.2)
      none

  -- the relation of an operation has nothing where that of the last of its session has nothing
  earlier-start : (o p : OpId) → IsOp h o → p.session ≡ o.session → p.index ≤ o.index → HasNoStart h o → HasNoStart h p
  earlier-start o p is_op same up_to none w r (x, v, writes, reads, kept, before) =
      let within = program_past-from o p same up_to in
      none w r (x, v, writes, reads, program_past-earlier o p r within kept, HB-earlier h o p is_op within w r before)

  earlier-cycle : (o p : OpId) → IsOp h o → p.session ≡ o.session → p.index ≤ o.index → HasNoCycle h o → HasNoCycle h p
  earlier-cycle o p is_op same up_to none a before = none a (HB-earlier h o p is_op (program_past-from o p same up_to) a a before)

  -- nothing is in the relation of what is no operation
  absent-start : (o : OpId) → ¬ IsOp h o → HasNoStart h o
  absent-start o absent w r (x, v, writes, reads, kept, before) = absent (HB-of_history h o w r before)

  absent-cycle : (o : OpId) → ¬ IsOp h o → HasNoCycle h o
  absent-cycle o absent a before = absent (HB-of_history h o a a before)

  -- what is so of what is no operation, and of an operation where it is so of a later one of its session, is so of one session
  -- more: of one without operations, and of one of whose last operation it is so
  module _ (P : OpId → Type 0) (absent : (o : OpId) → ¬ IsOp h o → P o)
      (earlier : (o p : OpId) → IsOp h o → p.session ≡ o.session → p.index ≤ o.index → P o → P p) where
    one-empty : (s : ℕ) → length (session h s) ≡ 0 → ((o : OpId) → o.session < s → P o) → (o : OpId) → o.session < s + 1 → P o
    one-empty s empty before p below = ⊎_elim
        (λ (same : p.session ≡ s).
        let none : ¬ IsOp h p = λ is_op.
        let size : length (session h p.session) ≡ 0 = subst (λ (t : ℕ). length (session h t) ≡ 0) (sym same) empty in omega arith in
        absent p none)
        (λ (lower : p.session < s). before p lower)
        (let up_to : p.session ≤ s = omega arith in eq-or-lt_of_le up_to)

    one-last : (o : OpId) → IsOp h o → o.index + 1 ≡ length (session h o.session) → P o → ((p : OpId) → p.session < o.session → P p)
        → (p : OpId) → p.session < o.session + 1 → P p
    one-last o is_op last holds before p below = ⊎_elim
        (λ (same : p.session ≡ o.session). ⊎_elim
        (λ (inside : p.index < length (session h p.session)).
        let size : p.index < length (session h o.session) = subst (λ (t : ℕ). p.index < length (session h t)) same inside in
        earlier o p is_op same (omega arith) holds)
        (λ (past : length (session h p.session) ≤ p.index).
        let none : ¬ IsOp h p = λ is. omega arith in
        absent p none)
        (cases_lt p.index (length (session h p.session))))
        (λ (lower : p.session < o.session). before p lower)
        (let up_to : p.session ≤ o.session = omega arith in eq-or-lt_of_le up_to)

  -- all sessions
  pub no-start-all : (n : ℕ) → length h.1 ≤ n → HasNoStartBefore h n → ¬ HasStartOverwrittenInHB h
  no-start-all n ended none (o, w, r, x, v, writes, reads, kept, before) =
      let below = session-of_history h o (HB-of_history h o w r before) in
      none o (omega arith) w r (x, v, writes, reads, kept, before)

  pub no-cycle-all : (n : ℕ) → length h.1 ≤ n → HasNoCycleBefore h n → ¬ HasHBCycle h
  no-cycle-all n ended none (o, a, before) =
      let below = session-of_history h o (HB-of_history h o a a before) in
      none o (omega arith) a before

  -- both searches of all sessions
  pub searched-all : (most : Option ℕ) (n : ℕ) → length h.1 ≤ n → (kinds : SearchedKinds)
      → AreSearched h most (HasNoStartBefore h n) (HasNoCycleBefore h n) kinds
      → AreSearched h most (¬ HasStartOverwrittenInHB h) (¬ HasHBCycle h) kinds
  searched-all most n ended kinds searched = record {
    starts = comes-weaker WriteHBInitRead (HasLargeHB h most) (HasNoStartBefore h n) (HasLargeHB h most) (¬ HasStartOverwrittenInHB h)
        (λ is. is) (no-start-all n ended) kinds.starts searched.starts;
    cycles = ⊎_elim
        (λ (shown : HasPattern kinds.starts). inl shown)
        (λ (comes : ComesTo h CyclicHB (HasLargeHB h most) (HasNoCycleBefore h n) kinds.cycles).
        inr (comes-weaker CyclicHB (HasLargeHB h most) (HasNoCycleBefore h n) (HasLargeHB h most) (¬ HasHBCycle h)
        (λ is. is) (no-cycle-all n ended) kinds.cycles comes))
        searched.cycles;
  }

  -- a read that is shown ends them
  pub searched-shown : (most : Option ℕ) (A B C D : Type 0) (kinds : SearchedKinds) → HasPattern kinds.starts
      → AreSearched h most A B kinds → AreSearched h most C D kinds
  searched-shown most A B C D kinds shown searched = record {
    starts = comes-pattern WriteHBInitRead (HasLargeHB h most) A (HasLargeHB h most) C kinds.starts shown searched.starts;
    cycles = inl shown;
  }

  -- a session without operations
  pub searched-empty : (most : Option ℕ) (s : ℕ) → length (session h s) ≡ 0 → (kinds : SearchedKinds)
      → AreSearched h most (HasNoStartBefore h s) (HasNoCycleBefore h s) kinds
      → AreSearched h most (HasNoStartBefore h (s + 1)) (HasNoCycleBefore h (s + 1)) kinds
  searched-empty most s empty kinds searched = record {
    starts = comes-weaker WriteHBInitRead (HasLargeHB h most) (HasNoStartBefore h s) (HasLargeHB h most) (HasNoStartBefore h (s + 1))
        (λ is. is) (one-empty (HasNoStart h) absent-start earlier-start s empty) kinds.starts searched.starts;
    cycles = ⊎_elim
        (λ (shown : HasPattern kinds.starts). inl shown)
        (λ (comes : ComesTo h CyclicHB (HasLargeHB h most) (HasNoCycleBefore h s) kinds.cycles).
        inr (comes-weaker CyclicHB (HasLargeHB h most) (HasNoCycleBefore h s) (HasLargeHB h most) (HasNoCycleBefore h (s + 1))
        (λ is. is) (one-empty (HasNoCycle h) absent-cycle earlier-cycle s empty) kinds.cycles comes))
        searched.cycles;
  }

  -- a search that is left open
  pub comes-open : (kind : Kind) (most : Option ℕ) (A B : Type 0) (s : Searched) → HasLargeHB h most
      → ComesTo h kind (HasLargeHB h most) A s → ComesTo h kind (HasLargeHB h most) B (either s Open)
  comes-open kind most A B s undecided first =
      comes-weaker kind (HasLargeHB h most) (A × ⊥) (HasLargeHB h most) B (λ is. is) (λ (is : A × ⊥). absurd is.1) (either s Open)
      (comes-either kind (HasLargeHB h most) A ⊥ s Open first undecided)

  pub searched-open : (most : Option ℕ) (A B C D : Type 0) → HasLargeHB h most → (so_far kinds : SearchedKinds)
      → kinds.starts ≡ either so_far.starts Open → kinds.cycles ≡ either so_far.cycles Open
      → AreSearched h most A B so_far → AreSearched h most C D kinds
  searched-open most A B C D large so_far kinds starts cycles searched = record {
    starts = rw starts (comes-open WriteHBInitRead most A C so_far.starts large searched.starts);
    cycles = ⊎_elim
        (λ (shown : HasPattern so_far.starts). inl (rw starts (either-pattern so_far.starts Open shown)))
        (λ (comes : ComesTo h CyclicHB (HasLargeHB h most) B so_far.cycles).
        inr (rw cycles (comes-open CyclicHB most B D so_far.cycles large comes)))
        searched.cycles;
  }

  -- what a search of sessions and one of a relation come to
  pub comes-last : (kind : Kind) (most : Option ℕ) (A B C : Type 0) → (A → B → C) → (s t : Searched)
      → ComesTo h kind (HasLargeHB h most) A s → ComesTo h kind ⊥ B t → ComesTo h kind (HasLargeHB h most) C (either s t)
  comes-last kind most A B C both s t first second =
      comes-weaker kind (HasLargeHB h most) (A × B) (HasLargeHB h most) C (λ is. is) (λ (is : A × B). both is.0 is.1) (either s t)
      (comes-either kind (HasLargeHB h most) A B s t first
      (comes-weaker kind ⊥ B (HasLargeHB h most) B (λ large. absurd large) (λ none. none) t second))

  module _ (most : Option ℕ) (o : OpId) (is_op : IsOp h o) (last : o.index + 1 ≡ length (session h o.session)) where
    pub starts-last : (s t : Searched) → ComesTo h WriteHBInitRead (HasLargeHB h most) (HasNoStartBefore h o.session) s
        → ComesTo h WriteHBInitRead ⊥ (HasNoStart h o) t → ComesTo h WriteHBInitRead (HasLargeHB h most) (HasNoStartBefore h (o.session + 1)) (either s t)
    starts-last = comes-last WriteHBInitRead most (HasNoStartBefore h o.session) (HasNoStart h o) (HasNoStartBefore h (o.session + 1))
        (λ before none. one-last (HasNoStart h) absent-start earlier-start o is_op last none before)

    pub cycles-last : (s : Searched) → ComesTo h CyclicHB (HasLargeHB h most) (HasNoCycleBefore h o.session × HasNoCycle h o) s
        → ComesTo h CyclicHB (HasLargeHB h most) (HasNoCycleBefore h (o.session + 1)) s
    cycles-last = comes-weaker CyclicHB (HasLargeHB h most) (HasNoCycleBefore h o.session × HasNoCycle h o) (HasLargeHB h most) (HasNoCycleBefore h (o.session + 1))
        (λ is. is)
        (λ (clear : HasNoCycleBefore h o.session × HasNoCycle h o). one-last (HasNoCycle h) absent-cycle earlier-cycle o is_op last clear.1 clear.0)

    -- a session whose relation shows a read, and one whose relation is searched whole
    pub searched-start : (A : Type 0) (so_far kinds : SearchedKinds) (start : Searched) → kinds.starts ≡ either so_far.starts start → HasPattern kinds.starts
        → AreSearched h most (HasNoStartBefore h o.session) A so_far → ComesTo h WriteHBInitRead ⊥ (HasNoStart h o) start
        → AreSearched h most (HasNoStartBefore h (o.session + 1)) (HasNoCycleBefore h (o.session + 1)) kinds
    searched-start A so_far kinds start starts shown searched found = record {
      starts = rw starts (starts-last so_far.starts start searched.starts found);
      cycles = inl shown;
    }

    pub searched-last : (so_far kinds : SearchedKinds) (start : Searched) → kinds.starts ≡ either so_far.starts start
        → AreSearched h most (HasNoStartBefore h o.session) (HasNoCycleBefore h o.session) so_far → ComesTo h WriteHBInitRead ⊥ (HasNoStart h o) start
        → (ComesTo h CyclicHB (HasLargeHB h most) (HasNoCycleBefore h o.session) so_far.cycles
        → ComesTo h CyclicHB (HasLargeHB h most) (HasNoCycleBefore h o.session × HasNoCycle h o) kinds.cycles)
        → AreSearched h most (HasNoStartBefore h (o.session + 1)) (HasNoCycleBefore h (o.session + 1)) kinds
    searched-last so_far kinds start starts searched found cycles = record {
      starts = rw starts (starts-last so_far.starts start searched.starts found);
      cycles = ⊎_elim
          (λ (shown : HasPattern so_far.starts). inl (rw starts (either-pattern so_far.starts start shown)))
          (λ (comes : ComesTo h CyclicHB (HasLargeHB h most) (HasNoCycleBefore h o.session) so_far.cycles). inr (cycles-last kinds.cycles (cycles comes)))
          searched.cycles;
    }

  -- two searches for a cycle
  pub comes-cycle : (most : Option ℕ) (A : Type 0) (o : OpId) (s t : Searched) → ComesTo h CyclicHB (HasLargeHB h most) A s
      → ComesTo h CyclicHB ⊥ (HasNoCycle h o) t → ComesTo h CyclicHB (HasLargeHB h most) (A × HasNoCycle h o) (either s t)
  comes-cycle most A o = comes-last CyclicHB most A (HasNoCycle h o) (A × HasNoCycle h o) (λ first second. (first, second))

  -- a relation with so many pairs has fewer too
  pub large-less : (m n : ℕ) → m ≤ n → HasLargeHB h (Some n) → HasLargeHB h (Some m)
  large-less m n up (o, is_op, large) = (
    o,
    is_op,
    record {
      causal = large.causal;
      counts = large.counts;
      strict = large.strict;
      begun = large.begun;
      now = large.now;
      held = large.held;
      supported = large.supported;
      outside = large.outside;
      more = let more = large.more in omega arith;
    },
  )

  -- no read is shown: then none is present, or some relation is large
  pub start-left : (s : Searched) → ¬ HasPattern s → ComesTo h WriteHBInitRead (HasLargeHB h (Some 100000)) (¬ HasStartOverwrittenInHB h) s
      → (¬ HasStartOverwrittenInHB h) ⊎ HasLargeHB h (Some 19999)
  start-left (Pattern pattern) none comes = absurd (none tt)
  start-left Present none comes = inr comes.1
  start-left Open none comes = inr (large-less 19999 100000 (omega arith) comes)
  start-left Nothing none comes = inl comes

  -- what is against causal memory for a cycle is so for the criterion that such cycles are against
  bad-for : (criterion : Criterion) → IsTrue (is_against CyclicHB criterion) → (pattern : BadPattern) → IsBadPattern h Cm pattern
      → IsBadPattern h criterion pattern
  bad-for Cc against pattern bad = absurd cc
  bad-for Cm against pattern bad = bad
  bad-for Ccv against pattern bad = absurd cc

  -- a cycle that is shown
  pub cycle-found : (criterion : Criterion) (starts : Searched) (pattern : BadPattern) → IsTrue (is_against CyclicHB criterion) → ¬ HasPattern starts
      → ComesTo h WriteHBInitRead (HasLargeHB h (Some 100000)) (¬ HasStartOverwrittenInHB h) starts
      → HasPattern starts ⊎ ComesTo h CyclicHB (HasLargeHB h (Some 100000)) (¬ HasHBCycle h) (Pattern pattern)
      → IsBadPattern h criterion pattern × IsFirstHappened h (kind_of pattern)
  cycle-found criterion starts pattern against none comes cycles = ⊎_elim
      (λ (shown : HasPattern starts). absurd (none shown))
      (λ (found : IsBadPattern h Cm pattern × (kind_of pattern ≡ CyclicHB)).
      (bad-for criterion against pattern found.0, inr (found.1, start-left starts none comes)))
      cycles

  module _ (distinct : IsDifferentiated h) (relation : OpId × Counts × List Raise) (is : IsRelation h relation) (A B : Type 0) where
    -- each raise added a pair
    large-raises : 19999 < length relation.2 → HasLargeHB h (Some 19999)
    large-raises many = (relation.0, is.is_op, is.more 19999 many)

    -- a read of the initial value after a write is shown by a derivation, or its kind is present
    pub start-shown : (w r : OpId) → IsStartOverwritten h relation.0 w r → (lines : List Line) → IsDerivation h relation.0 lines w r
        → ComesTo h WriteHBInitRead A B (Pattern (patterns.WriteHBInitRead relation.0 lines))
    start-shown w r (x, v, writes, reads, kept, before) lines derivation =
        (record { differentiated = distinct; against = refl; shown = (w, r, x, v, writes, reads, kept, derivation) }, refl)

    pub start-present : (w r : OpId) → IsStartOverwritten h relation.0 w r → 19999 < length relation.2 → ComesTo h WriteHBInitRead A B Present
    start-present w r (x, v, writes, reads, kept, before) many =
        ((distinct, (relation.0, w, r, x, v, writes, reads, kept, before)), large-raises many)

    -- so is a cycle
    pub cycle-shown : (a : OpId) (lines : List Line) → IsDerivation h relation.0 lines a a
        → ComesTo h CyclicHB A B (Pattern (patterns.CyclicHB relation.0 lines))
    cycle-shown a lines derivation = (record { differentiated = distinct; against = refl; shown = (a, derivation) }, refl)

    pub cycle-present : (a : OpId) → HB h relation.0 a a → 19999 < length relation.2 → ComesTo h CyclicHB A B Present
    cycle-present a before many = ((distinct, (relation.0, a, before)), large-raises many)
