-- The lines of a derivation while they are made.
use Rattle.std.proofs.Common.{◌≡◌, ℕ, ◌+◌, ◌-◌, ◌<◌, ◌≤◌, List, [], ◌∷◌, ◌++◌, Bool, true, false, length, ⊎_elim, inl, inr, refl, sym, ◌∙◌, ap, subst, arith, length-append, eq-or-lt_of_le}
use Rattle.std.specs.Prelude.{◌≢◌, Some, slice_get}
use Rattle.std.proofs.lemmas.Bool.{cases_lt, true≢false}
use Rattle.std.proofs.lemmas.Option.{same_Some, slice_get_within}
use Rattle.model_history.specs.declared.op_id.OpId.{OpId}
use Rattle.order_memory.specs.declared.growing_order.Raise.{Raise}
use Rattle.order_memory.specs.Memory.{MemoryHistory}
use Rattle.order_memory.specs.SourceOrder.{SourceOrder}
use Rattle.order_causal.proofs.Fronts.{push-at}
use Rattle.pattern_check.specs.declared.derivation.Line.{Line}
use Rattle.pattern_check.specs.declared.derivation.Line.TheVariants.{Co}
use Rattle.pattern_check.specs.Derivations.{Pair, Gives, GivePairs, IsDerivation}
use Rattle.pattern_check.specs.Paths.{GoesFrom, HasEdge}
use Rattle.pattern_check.proofs.Derived.{pairs-more, pairs-none}
use Rattle.pattern_search.specs.Steps.Drafts.{AreWritten, EndsIn, EndsWithin, GivesWithin, IsDraft, IsRaiseWritten, IsWritten, Lines}
use Rattle.pattern_search.specs.Steps.Reasons.{IsBefore, IsFirstRaise, IsMarked, IsRaisedBy, Raises, last_of}
use Rattle.pattern_search.proofs.PlacedLists.{pushed-before, pushed-here}

module _ (h : MemoryHistory) (o : OpId) where
  -- no lines
  pub draft-none : IsDraft h o ([], [])
  draft-none = pairs-none h o []

  module _ (lines : List Line) (pairs : List Pair) (line : Line) (p : Pair) (draft : IsDraft h o (lines, pairs)) (gives : Gives h o pairs line p.0 p.1) where
    before-more : GivePairs h o (lines ++ line ∷ []) (length lines) pairs
    before-more = record {
      count = draft.count;
      each = λ k l q at_line at_pair.
          let inside = slice_get_within pairs k q at_pair in
          let count = draft.count in
          draft.each k l q (push-at lines line k l (omega arith) at_line) at_pair;
    }

    draft-more : IsDraft h o (lines ++ line ∷ [], pairs ++ p ∷ [])
    draft-more =
        let size : length lines + 1 ≡ length (lines ++ line ∷ []) = sym (length-append lines (line ∷ [])) in
        subst (λ (n : ℕ). GivePairs h o (lines ++ line ∷ []) n (pairs ++ p ∷ [])) size
        (pairs-more h o (lines ++ line ∷ []) (length lines) pairs line p before-more (pushed-here lines line) gives)

    -- a line more
    pub line-more : EndsWithin h o 1 p (lines, pairs) (lines ++ line ∷ [], pairs ++ p ∷ []) (length lines)
    line-more =
        let count = draft.count in
        let sizes = length-append lines (line ∷ []) in
        let pairs_size = length-append pairs (p ∷ []) in
        record {
          line = record {
            draft = draft-more;
            kept = λ i q at. pushed-before pairs p i q at;
            bounded = omega arith;
            gives = subst (λ (n : ℕ). slice_get (pairs ++ p ∷ []) n ≡ Some p) count (pushed-here pairs p);
          };
          last = omega arith;
        }

  -- lines of a pair, and lines of another behind them
  pub within-more : (m n : ℕ) (p q : Pair) (before between after : Lines) (i j : ℕ) → GivesWithin h o m p before between i
      → GivesWithin h o n q between after j → GivesWithin h o (m + n) q before after j
  within-more m n p q before between after i j one two = record {
    draft = two.draft;
    kept = λ k r at. two.kept k r (one.kept k r at);
    bounded = let first = one.bounded in let second = two.bounded in omega arith;
    gives = two.gives;
  }

  pub within-wider : (m n : ℕ) (p : Pair) (before after : Lines) (i : ℕ) → m ≤ n → GivesWithin h o m p before after i → GivesWithin h o n p before after i
  within-wider m n p before after i up one = record {
    draft = one.draft;
    kept = one.kept;
    bounded = let first = one.bounded in omega arith;
    gives = one.gives;
  }

  -- a last line behind others
  pub ends-more : (m n k : ℕ) (p q : Pair) (before between after : Lines) (i j : ℕ) → m + n ≤ k → GivesWithin h o m p before between i
      → EndsWithin h o n q between after j → EndsWithin h o k q before after j
  ends-more m n k p q before between after i j up one two = record {
    line = within-wider (m + n) k q before after j up (within-more m n p q before between after i j one two.line);
    last = two.last;
  }

  -- a line that is there
  pub within-there : (n : ℕ) (p : Pair) (draft : Lines) (i : ℕ) → IsDraft h o draft → slice_get draft.1 i ≡ Some p → GivesWithin h o n p draft draft i
  within-there n p draft i is at = record { draft = is; kept = λ k q there. there; bounded = omega arith; gives = at }

  -- a path between two operations has an edge
  path-edge : (path : List OpId) (a b : OpId) → a ≢ b → GoesFrom h path a b → HasEdge path
  path-edge path a b apart goes = ⊎_elim
      (λ (edge : 1 < length path). edge)
      (λ (short : length path ≤ 1).
      let one : length path - 1 ≡ 0 = omega arith in
      absurd (apart (same_Some a b (sym goes.first ∙ ap (slice_get path) (sym one) ∙ goes.last))))
      (cases_lt 1 (length path))

  pub gives-causal : (pairs : List Pair) (above below : List OpId) (a b : OpId) → a ≢ b → GoesFrom h above a b → GoesFrom h below b o
      → Gives h o pairs (Co above below) a b
  gives-causal pairs above below a b apart first second = record { edge = path-edge above a b apart first; above = first; below = second }

  -- a derivation ends with the pair
  pub ends-derivation : (p : Pair) (draft : Lines) (i : ℕ) → EndsIn h o 100000 p draft i → IsDerivation h o draft.0 p.0 p.1
  ends-derivation p draft i ends =
      let last = ends.last in
      let count = ends.draft.count in
      let place : i ≡ length draft.1 - 1 = omega arith in
      record {
        some = omega arith;
        bounded = ends.bounded;
        pairs = draft.1;
        given = ends.draft;
        last = subst (λ (n : ℕ). slice_get draft.1 n ≡ Some p) place ends.gives;
      }

  pub ends-in : (n m k : ℕ) (p : Pair) (before after : Lines) (i : ℕ) → length before.0 ≤ k → k + m ≤ n → EndsWithin h o m p before after i → EndsIn h o n p after i
  ends-in n m k p before after i short up ends = record {
    draft = ends.line.draft;
    bounded = let more = ends.line.bounded in omega arith;
    gives = ends.line.gives;
    last = ends.last;
  }

  -- the line of a raise that is looked up twice
  pub ends-same : (n : ℕ) (d e : Raise) (made : Lines) (i : ℕ) → d ≡ e → EndsIn h o n (last_of d, d.op) made i → EndsIn h o n (last_of e, e.op) made i
  ends-same n d e made i same ends = subst (λ (r : Raise). EndsIn h o n (last_of r, r.op) made i) same ends

  -- a line that is reached back from the last one
  pub ends-reached : (n m k : ℕ) (p : Pair) (before after : Lines) (i j : ℕ) (q : Pair) → k + m ≤ n → EndsIn h o k q before i → GivesWithin h o m p before after j
      → j + 1 ≡ length after.1 → EndsIn h o n p after j
  ends-reached n m k p before after i j q up was one last = record {
    draft = one.draft;
    bounded = let first = was.bounded in let more = one.bounded in omega arith;
    gives = one.gives;
    last = last;
  }

  module _ (raises : List Raise) where
    -- what is listed stays listed
    pub raise-kept : (written more : List ℕ) (before after : List Pair) (n : ℕ)
        → ((i : ℕ) (x : ℕ) → slice_get written i ≡ Some x → slice_get more i ≡ Some x)
        → ((i : ℕ) (q : Pair) → slice_get before i ≡ Some q → slice_get after i ≡ Some q)
        → IsRaiseWritten raises written before n → IsRaiseWritten raises more after n
    raise-kept written more before after n listed kept (e, line, at, there, gives) = (e, line, at, listed n line there, kept line (last_of e, e.op) gives)

    pub written-kept : (written : List ℕ) (before after : List Pair)
        → ((i : ℕ) (q : Pair) → slice_get before i ≡ Some q → slice_get after i ≡ Some q)
        → (p : Pair) → IsWritten h raises written before p → IsWritten h raises written after p
    written-kept written before after kept p is = ⊎_elim
        (λ (leads : SourceOrder h p.0 p.1). inl leads)
        (λ (r : (n : ℕ) × IsFirstRaise raises p n × IsRaiseWritten raises written before n).
        inr (r.0, r.1, raise-kept written written before after r.0 (λ i x at. at) kept r.2))
        is

    -- no raise is written yet
    pub written-none : (needed : List Bool) (made : Lines) → IsDraft h o made → length made.0 ≡ 0 → AreWritten h o raises needed 0 made []
    written-none needed made is empty = record { draft = is; bounded = omega arith; count = refl; each = λ i below marked. absurd (omega arith) }

    -- a raise that is looked up is the one that gives a pair
    pub raised-there : (p : Pair) (n : ℕ) (e : Raise) → IsRaisedBy raises p n → slice_get raises n ≡ Some e → Raises e p
    raised-there p n e by at = subst (λ (d : Raise). Raises d p) (same_Some by.0 e (sym by.1 ∙ at)) by.2

    module _ (p : Pair) (n : ℕ) (not : ¬ SourceOrder h p.0 p.1) (first : IsFirstRaise raises p n) (written : List ℕ) (pairs : List Pair)
        (is : IsWritten h raises written pairs p) where
      -- the line of the first raise that gives a pair
      first-written : IsRaiseWritten raises written pairs n
      first-written = ⊎_elim
          (λ (leads : SourceOrder h p.0 p.1). absurd (not leads))
          (λ (r : (i : ℕ) × IsFirstRaise raises p i × IsRaiseWritten raises written pairs i).
          let up = r.1.first n first.raised in
          let down = first.first r.0 r.1.raised in
          let same : r.0 ≡ n = omega arith in
          subst (λ (i : ℕ). IsRaiseWritten raises written pairs i) same r.2)
          is

      pub first-listed : n < length written
      first-listed = slice_get_within written n first-written.1 first-written.3

      pub first-stands : n < length raises
      first-stands = slice_get_within raises n first.raised.0 first.raised.1

      -- gives the pair of what the raise counts last and the second of the pair
      module _ (e : Raise) (line : ℕ) (at : slice_get raises n ≡ Some e) (listed : slice_get written n ≡ Some line) where
        same-raise : (d : Raise) → slice_get raises n ≡ Some d → d ≡ e
        same-raise d there = same_Some d e (sym there ∙ at)

        first-gives : Raises e p
        first-gives = raised-there p n e first.raised at

        pub first-line : slice_get pairs line ≡ Some (last_of e, p.1)
        first-line =
            let made : OpId → Pair = λ b. (last_of e, b) in
            let there : slice_get pairs line ≡ Some (last_of e, e.op) =
            subst (λ (d : Raise). slice_get pairs line ≡ Some (last_of d, d.op)) (same-raise first-written.0 first-written.2)
            (subst (λ (i : ℕ). slice_get pairs i ≡ Some (last_of first-written.0, first-written.0.op)) (same_Some first-written.1 line (sym first-written.3 ∙ listed)) first-written.4) in
            there ∙ ap (λ (b : OpId). Some (made b)) first-gives.0

        pub first-session : p.0.session ≡ (last_of e).session
        first-session = sym first-gives.1

        pub first-up_to : p.0.index ≤ (last_of e).index
        first-up_to = let below = first-gives.2 in omega arith

    module _ (needed : List Bool) (n : ℕ) (draft : Lines) (written : List ℕ) (is : AreWritten h o raises needed n draft written) where
      -- what a raise behind these rests on is written, where it is marked
      pub premise-written : (p : Pair) → IsBefore h raises n p → IsMarked h raises needed p → IsWritten h raises written draft.1 p
      premise-written p before marked = ⊎_elim
          (λ (leads : SourceOrder h p.0 p.1). inl leads)
          (λ (r : (i : ℕ) × IsFirstRaise raises p i × (slice_get needed i ≡ Some true)). ⊎_elim
          (λ (leads : SourceOrder h p.0 p.1). inl leads)
          (λ (b : (j : ℕ) × (j < n) × IsRaisedBy raises p j).
          let up = r.1.first b.0 b.2 in
          let below = b.1 in
          inr (r.0, r.1, is.each r.0 (omega arith) r.2))
          before)
          marked

      -- one raise more that is not marked
      pub written-skip : (x : ℕ) → slice_get needed n ≡ Some false → AreWritten h o raises needed (n + 1) draft (written ++ x ∷ [])
      written-skip x not = record {
        draft = is.draft;
        bounded = let bounded = is.bounded in omega arith;
        count = length-append written (x ∷ []) ∙ (let count = is.count in omega arith);
        each = λ i below marked. ⊎_elim
            (λ (same : i ≡ n).
            let here : slice_get needed n ≡ Some true = subst (λ (j : ℕ). slice_get needed j ≡ Some true) same marked in
            absurd (true≢false (same_Some true false (sym here ∙ not))))
            (λ (less : i < n).
            raise-kept written (written ++ x ∷ []) draft.1 draft.1 i (λ k y at. pushed-before written x k y at) (λ k q at. at) (is.each i less marked))
            (let up_to : i ≤ n = omega arith in eq-or-lt_of_le up_to);
      }

      -- one that is written
      pub written-more : (e : Raise) (after : Lines) (line : ℕ) → slice_get raises n ≡ Some e → EndsWithin h o 5 (last_of e, e.op) draft after line
          → AreWritten h o raises needed (n + 1) after (written ++ line ∷ [])
      written-more e after line at ends = record {
        draft = ends.line.draft;
        bounded = let bounded = is.bounded in let more = ends.line.bounded in omega arith;
        count = length-append written (line ∷ []) ∙ (let count = is.count in omega arith);
        each = λ i below marked. ⊎_elim
            (λ (same : i ≡ n).
            let listed : slice_get (written ++ line ∷ []) n ≡ Some line =
            subst (λ (k : ℕ). slice_get (written ++ line ∷ []) k ≡ Some line) is.count (pushed-here written line) in
            subst (λ (k : ℕ). IsRaiseWritten raises (written ++ line ∷ []) after.1 k) (sym same) (e, line, at, listed, ends.line.gives))
            (λ (less : i < n).
            raise-kept written (written ++ line ∷ []) draft.1 after.1 i (λ k y there. pushed-before written line k y there) ends.line.kept (is.each i less marked))
            (let up_to : i ≤ n = omega arith in eq-or-lt_of_le up_to);
      }
