-- What the lines of a derivation give.
use Rattle.std.proofs.Common.{◌≡◌, ℕ, zero, suc, ◌+◌, ◌-◌, ◌<◌, ◌≤◌, List, [], ◌∷◌, ◌++◌, length, take, get_or, sym, ap, subst, subst₂, ◌∙◌, refl, arith, length-append, ap₂, true, false, ⊎_elim}
use Rattle.std.specs.Prelude.{◌≢◌, Option, Some, None, MatchOption, IsTrue, slice_get}
use Rattle.std.proofs.lemmas.Bool.{cases_lt}
use Rattle.std.proofs.lemmas.List.{get_or_append_left, get_or_push, take-append-le, take_all, take_more_same}
use Rattle.std.proofs.lemmas.Option.{same_Some, slice_get_within, slice_get-get_or, get_or_from_slice_get}
use Rattle.model_history.specs.declared.op_id.OpId.{OpId}
use Rattle.order_memory.specs.Memory.{MemoryHistory, IsDifferentiated}
use Rattle.order_causal.specs.Orders.{only, program_past}
use Rattle.order_memory.specs.Relations.{ReadsFrom, AreRivalWrites, HB}
use Rattle.pattern_check.specs.declared.derivation.Line.{Line}
use Rattle.pattern_check.specs.declared.derivation.Line.TheVariants.{Co, Tr, Rf}
use Rattle.pattern_check.specs.Derivations.{Pair, Gives, GivesJoinedPair, GivesRivalPair, GivePairs, IsDerivation}
use Rattle.pattern_check.proofs.Distinct.{same_source}
use Rattle.pattern_check.proofs.Leads.{goes-leads, goes-past, past-before}
use Rattle.order_causal.proofs.Fronts.{take-from}
use Rattle.pattern_check.proofs.ReadPasts.{itself}

module _ (pairs : List Pair) (i : ℕ) (p : Pair) (at : slice_get pairs i ≡ Some p) where
  -- a pair that ends with an operation
  pub ends-with : (r : OpId) → p.1 ≡ r → slice_get pairs i ≡ Some (p.0, r)
  ends-with r same = subst (λ (a : OpId). slice_get pairs i ≡ Some (p.0, a)) same at

  module _ (j : ℕ) (q : Pair) (at_j : slice_get pairs j ≡ Some q) where
    pub joined : p.1 ≡ q.0 → GivesJoinedPair pairs i j p.0 q.1
    joined same = (q.0, ends-with q.0 same, at_j)

    pub joined-ends : (a b : OpId) → GivesJoinedPair pairs i j a b → p.1 ≡ q.0
    joined-ends a b (c, one, two) =
        let first : ◌≡◌ {A = Pair} p (a, c) = same_Some _ _ (sym at ∙ one) in
        let second : ◌≡◌ {A = Pair} q (c, b) = same_Some _ _ (sym at_j ∙ two) in
        ap (λ (e : Pair). e.1) first ∙ sym (ap (λ (e : Pair). e.0) second)

-- two operations that are not equal by their test are not equal
pub only-apart : (o a : OpId) → only o a ≡ false → a ≢ o
only-apart o a test same =
    let yes : IsTrue (only o a) = subst (λ (b : OpId). IsTrue (only o b)) (sym same) (itself o) in
    let no : false ≡ true = sym test ∙ yes in absurd cc

module _ (h : MemoryHistory) (o : OpId) where
  -- no line gives no pair
  pub pairs-none : (lines : List Line) → GivePairs h o lines 0 []
  pairs-none lines = record { count = refl; each = λ k line pair at_line at_pair. absurd cc }

  -- a line more
  pub pairs-more : (lines : List Line) (n : ℕ) (pairs : List Pair) (line : Line) (pair : Pair) → GivePairs h o lines n pairs
      → slice_get lines n ≡ Some line → Gives h o pairs line pair.0 pair.1 → GivePairs h o lines (n + 1) (pairs ++ pair ∷ [])
  pairs-more lines n pairs line pair before at gives = record {
    count = length-append pairs (pair ∷ []) ∙ (let same = before.count in omega arith);
    each = λ k l p at_l at_p.
        let within = slice_get_within (pairs ++ pair ∷ []) k p at_p in
        let len = length-append pairs (pair ∷ []) in
        let count = before.count in
        let here : get_or (pairs ++ pair ∷ []) k p ≡ p = get_or_from_slice_get (pairs ++ pair ∷ []) k p p at_p in
        ⊎_elim
        (λ (old : k < length pairs).
        let up_to : k ≤ length pairs = omega arith in
        let there : slice_get pairs k ≡ Some p =
        slice_get-get_or pairs k p old ∙ (λ j. Some ((sym (get_or_append_left pairs (pair ∷ []) p k old) ∙ here) j)) in
        subst (λ (ps : List Pair). Gives h o ps l p.0 p.1) (sym (take-append-le k pairs (pair ∷ []) up_to)) (before.each k l p at_l there))
        (λ (new : length pairs ≤ k).
        let last : length pairs ≡ k = omega arith in
        let place : n ≡ k = omega arith in
        let up_to : k ≤ length pairs = omega arith in
        let same_line : line ≡ l = same_Some line l (sym at ∙ ap (slice_get lines) place ∙ at_l) in
        let same_pair : pair ≡ p = sym (get_or_push pairs pair p k last) ∙ here in
        let front : take k (pairs ++ pair ∷ []) ≡ pairs = take-append-le k pairs (pair ∷ []) up_to ∙ take_all k pairs new in
        subst (λ (ps : List Pair). Gives h o ps l p.0 p.1) (sym front)
        (subst₂ (λ (m : Line) (q : Pair). Gives h o pairs m q.0 q.1) same_line same_pair gives))
        (cases_lt k (length pairs));
  }

  module _ (before : List Pair) where
    -- a line that rests on pairs of HB gives a pair of HB
    line-sound : ((i : ℕ) (a b : OpId) → slice_get before i ≡ Some (a, b) → HB h o a b) → (line : Line) (a b : OpId) → Gives h o before line a b
        → HB h o a b
    line-sound earlier (Co first second) a b gives order closed =
        let above = goes-leads h first a b gives.edge gives.above in
        let past = goes-past h second o b gives.below in
        closed.causal a b (past-before h o a b above past) past above
    line-sound earlier (Tr i j) a b (c, one, two) order closed =
        closed.transitive a c b (earlier i a c one order closed) (earlier j c b two order closed)
    line-sound earlier (Rf i r) a b gives order closed =
        closed.read a b r gives.rivals gives.reads gives.of_session (earlier i a r gives.before_read order closed)

    line-ends : IsDifferentiated h → (line : Line) (a b c d : OpId) → Gives h o before line a b → Gives h o before line c d → (a ≡ c) × (b ≡ d)
    line-ends distinct (Co first second) a b c d one two =
        (same_Some a c (sym one.above.first ∙ two.above.first), same_Some b d (sym one.above.last ∙ two.above.last))
    line-ends distinct (Tr i j) a b c d (m, one_i, one_j) (n, two_i, two_j) =
        let first : ◌≡◌ {A = Pair} (a, m) (c, n) = same_Some _ _ (sym one_i ∙ two_i) in
        let second : ◌≡◌ {A = Pair} (m, b) (n, d) = same_Some _ _ (sym one_j ∙ two_j) in
        (ap (λ (p : Pair). p.0) first, ap (λ (p : Pair). p.1) second)
    line-ends distinct (Rf i r) a b c d one two =
        let first : ◌≡◌ {A = Pair} (a, r) (c, r) = same_Some _ _ (sym one.before_read ∙ two.before_read) in
        (ap (λ (p : Pair). p.0) first, same_source h distinct b d r one.reads two.reads)

    -- a line gives one pair
    line-same : IsDifferentiated h → (line : Line) (p q : Pair) → Gives h o before line p.0 p.1 → Gives h o before line q.0 q.1 → p ≡ q
    line-same distinct line p q one two =
        let made : OpId → OpId → Pair = λ a b. (a, b) in
        let ends = line-ends distinct line p.0 p.1 q.0 q.1 one two in
        ap₂ made ends.0 ends.1

  -- the parts of a rival pair, from what was looked up
  pub rival-parts : IsDifferentiated h → (pairs : List Pair) (i : ℕ) (r w : OpId) (p : Pair) → slice_get pairs i ≡ Some p → ReadsFrom h w r
      → (a b : OpId) → GivesRivalPair h o pairs i r a b → (p.1 ≡ r) × IsTrue (program_past o r) × AreRivalWrites h p.0 w
  rival-parts distinct pairs i r w p at from a b gives =
      let same : ◌≡◌ {A = Pair} p (a, r) = same_Some _ _ (sym at ∙ gives.before_read) in
      let source = same_source h distinct b w r gives.reads from in (
        ap (λ (q : Pair). q.1) same,
        gives.of_session,
        subst₂ (λ (c d : OpId). AreRivalWrites h c d) (sym (ap (λ (q : Pair). q.0) same)) source gives.rivals,
      )

  module _ (lines : List Line) where
    -- a line of the list, where the lines up to it give pairs
    line-at : (k : ℕ) → k < length lines → slice_get lines k ≡ Some (get_or lines k (Tr 0 0))
    line-at k below = slice_get-get_or lines k (Tr 0 0) below

    pairs-sound : (n : ℕ) (pairs : List Pair) → GivePairs h o lines n pairs → n ≤ length lines
        → (bound k : ℕ) → k < bound → (a b : OpId) → slice_get pairs k ≡ Some (a, b) → HB h o a b
    pairs-sound n pairs given inside zero k below a b at = absurd (omega arith)
    pairs-sound n pairs given inside (suc bound) k below a b at =
        let within = slice_get_within pairs k (a, b) at in
        let count = given.count in
        line-sound (take k pairs)
        (λ i c d there. let earlier = take-from k pairs i (c, d) there in
        pairs-sound n pairs given inside bound i (let first = earlier.0 in omega arith) c d earlier.1)
        (get_or lines k (Tr 0 0)) a b (given.each k _ (a, b) (line-at k (omega arith)) at)

    -- what a derivation gives is in the happened-before relation
    pub derivation-sound : (a b : OpId) → IsDerivation h o lines a b → HB h o a b
    derivation-sound a b is =
        pairs-sound (length lines) is.pairs is.given (omega arith) (length is.pairs) (length is.pairs - 1)
        (let some = is.some in let count = is.given.count in omega arith) a b is.last

    module _ (distinct : IsDifferentiated h) where
      -- lines give one list of pairs
      pairs-agree : (n m : ℕ) (ps qs : List Pair) → GivePairs h o lines n ps → GivePairs h o lines m qs → n ≤ length lines
          → (k : ℕ) → k ≤ n → k ≤ m → take k ps ≡ take k qs
      pairs-agree n m ps qs one two inside zero in_n in_m = refl
      pairs-agree n m ps qs one two inside (suc k) in_n in_m =
          let before = pairs-agree n m ps qs one two inside k (omega arith) (omega arith) in
          let count_p = one.count in
          let count_q = two.count in
          let in_p : k < length ps = omega arith in
          let in_q : k < length qs = omega arith in
          let next : k + 1 ≡ suc k = omega arith in
          let line : slice_get lines k ≡ Some (get_or lines k (Tr 0 0)) = line-at k (omega arith) in
          let of_p = one.each k _ (get_or ps k (o, o)) line (slice_get-get_or ps k (o, o) in_p) in
          let of_q = two.each k _ (get_or qs k (o, o)) line (slice_get-get_or qs k (o, o) in_q) in
          let here = line-same (take k qs) distinct (get_or lines k (Tr 0 0)) (get_or ps k (o, o)) (get_or qs k (o, o))
          (subst (λ (xs : List Pair). Gives h o xs (get_or lines k (Tr 0 0)) (get_or ps k (o, o)).0 (get_or ps k (o, o)).1) before of_p) of_q in
          subst (λ (i : ℕ). take i ps ≡ take i qs) next (take_more_same ps qs k (o, o) in_p in_q before here)

      -- where a line gives nothing after the pairs of those before it, there is no derivation
      pub no_derivation : (n : ℕ) (pairs : List Pair) (line : Line) → GivePairs h o lines n pairs → slice_get lines n ≡ Some line
          → ((a b : OpId) → ¬ Gives h o pairs line a b) → (a b : OpId) → ¬ IsDerivation h o lines a b
      no_derivation n pairs line given at none a b is =
          let below = slice_get_within lines n line at in
          let count = given.count in
          let whole = is.given.count in
          let inside : n < length is.pairs = omega arith in
          let up_to : length pairs ≤ n = omega arith in
          let agree : take n is.pairs ≡ pairs =
          pairs-agree (length lines) n is.pairs pairs is.given given (omega arith) n (omega arith) (omega arith) ∙ take_all n pairs up_to in
          let gives = is.given.each n line (get_or is.pairs n (o, o)) at (slice_get-get_or is.pairs n (o, o) inside) in
          none _ _ (subst (λ (xs : List Pair). Gives h o xs line (get_or is.pairs n (o, o)).0 (get_or is.pairs n (o, o)).1) agree gives)

      -- a derivation gives one pair
      pub derivation-same : (a b c d : OpId) → IsDerivation h o lines a b → IsDerivation h o lines c d → (a ≡ c) × (b ≡ d)
      derivation-same a b c d one two =
          let count_one = one.given.count in
          let count_two = two.given.count in
          let whole_one : length one.pairs ≤ length lines = omega arith in
          let whole_two : length two.pairs ≤ length lines = omega arith in
          let agree : one.pairs ≡ two.pairs =
          sym (take_all (length lines) one.pairs whole_one)
          ∙ pairs-agree (length lines) (length lines) one.pairs two.pairs one.given two.given (omega arith) (length lines) (omega arith) (omega arith)
          ∙ take_all (length lines) two.pairs whole_two in
          let here : slice_get two.pairs (length two.pairs - 1) ≡ Some (a, b) = subst (λ (xs : List Pair). slice_get xs (length xs - 1) ≡ Some (a, b)) agree one.last in
          let same : ◌≡◌ {A = Pair} (a, b) (c, d) = same_Some _ _ (sym here ∙ two.last) in
          (ap (λ (p : Pair). p.0) same, ap (λ (p : Pair). p.1) same)

      -- what the last of all lines gives
      pub derivation-last : (n : ℕ) (pairs : List Pair) → GivePairs h o lines n pairs → n ≡ length lines → length lines ≤ 100000
          → (found : Option Pair) → found ≡ slice_get pairs (length pairs - 1)
          → MatchOption found ((a b : OpId) → ¬ IsDerivation h o lines a b) (λ pair. IsDerivation h o lines pair.0 pair.1)
      derivation-last n pairs given ended bounded (Some p) is =
          let within = slice_get_within pairs (length pairs - 1) p (sym is) in
          let count = given.count in
          record {
            some = omega arith;
            bounded = bounded;
            pairs = pairs;
            given = subst (λ (m : ℕ). GivePairs h o lines m pairs) ended given;
            last = sym is;
          }
      derivation-last n pairs given ended bounded None is = λ a b other.
          let count = given.count in
          let whole = other.given.count in
          let up_to : length pairs ≤ n = omega arith in
          let up_to_whole : length other.pairs ≤ n = omega arith in
          let agree : other.pairs ≡ pairs =
          sym (take_all n other.pairs up_to_whole)
          ∙ pairs-agree (length lines) n other.pairs pairs other.given given (omega arith) n (omega arith) (omega arith) ∙ take_all n pairs up_to in
          let there : slice_get pairs (length pairs - 1) ≡ Some (a, b) = subst (λ (xs : List Pair). slice_get xs (length xs - 1) ≡ Some (a, b)) agree other.last in
          let no : ◌≡◌ {A = Option Pair} None (Some (a, b)) = is ∙ there in absurd cc
