-- Which raises a pair of a happened-before relation rests on.
use Rattle.std.proofs.Common.{◌≡◌, ℕ, ◌+◌, ◌<◌, List, Bool, true, false, length, set, replicate, ⊎_elim, inl, inr, refl, sym, ◌∙◌, subst, arith, eq-or-lt_of_le}
use Rattle.std.specs.Prelude.{MatchOption, None, Option, Some, slice_get, ◌≢◌}
use Rattle.std.proofs.lemmas.Bool.{cases_eq, true≢false}
use Rattle.std.proofs.lemmas.List.{length-set}
use Rattle.std.proofs.lemmas.Option.{same_Some}
use Rattle.model_history.specs.declared.op_id.OpId.{OpId}
use Rattle.order_memory.specs.declared.growing_order.Cause.{Cause}
use Rattle.order_memory.specs.declared.growing_order.Cause.TheVariants.{Through, Read}
use Rattle.order_memory.specs.declared.growing_order.Raise.{Raise}
use Rattle.order_memory.specs.Memory.{MemoryHistory}
use Rattle.order_memory.specs.SourceOrder.{SourceOrder}
use Rattle.pattern_check.specs.Derivations.{Pair}
use Rattle.pattern_search.specs.Steps.Reasons.{AreClosedFrom, ArePremises, IsBefore, IsFirstRaise, IsMarked, IsRaisedBy, MarksBelow, RestsOn, last_of}
use Rattle.pattern_search.proofs.PlacedLists.{none-marked, set-apart, set-kept}

-- what follows of each pair that a raise rests on
pub rests-both : (P Q R : Pair → Type 0) → ((p : Pair) → P p → Q p → R p) → (a b : OpId) (c : Cause) → RestsOn P a b c → RestsOn Q a b c → RestsOn R a b c
rests-both P Q R follows a b (Through m) one two = (follows (a, m) one.0 two.0, follows (m, b) one.1 two.1)
rests-both P Q R follows a b (Read r) one two = follows (a, r) one two

pub rests-each : (P R : Pair → Type 0) → ((p : Pair) → P p → R p) → (a b : OpId) (c : Cause) → RestsOn P a b c → RestsOn R a b c
rests-each P R follows a b (Through m) one = (follows (a, m) one.0, follows (m, b) one.1)
rests-each P R follows a b (Read r) one = follows (a, r) one

-- the pairs that a raise with a known cause rests on
pub through-rests : (P : Pair → Type 0) (e : Raise) (m : OpId) → e.cause ≡ Through m → ArePremises P e → P (last_of e, m) × P (m, e.op)
through-rests P e m is rests = subst (λ (c : Cause). RestsOn P (last_of e) e.op c) is rests

pub read-rests : (P : Pair → Type 0) (e : Raise) (r : OpId) → e.cause ≡ Read r → ArePremises P e → P (last_of e, r)
read-rests P e r is rests = subst (λ (c : Cause). RestsOn P (last_of e) e.op c) is rests

pub marks-none : (n : ℕ) (needed : List Bool) → MarksBelow n needed needed
marks-none n needed = record { size = refl; kept = λ i at. at; marked = λ i at. inl at }

pub marks-more : (n : ℕ) (before between after : List Bool) → MarksBelow n before between → MarksBelow n between after → MarksBelow n before after
marks-more n before between after one two = record {
  size = two.size ∙ one.size;
  kept = λ i at. two.kept i (one.kept i at);
  marked = λ i at. ⊎_elim
      (λ (there : slice_get between i ≡ Some true). one.marked i there)
      (λ (below : i < n). inr below)
      (two.marked i at);
}

pub marks-set : (n i : ℕ) (needed : List Bool) → i < n → i < length needed → MarksBelow n needed (set needed i true)
marks-set n i needed below inside = record {
  size = length-set needed i true;
  kept = λ k at. set-kept needed i k true inside at;
  marked = λ k at. ⊎_elim
      (λ (same : k ≡ i). inr (omega arith))
      (λ (apart : k ≡ i → ⊥). inl (set-apart needed i k true true apart at))
      (cases_eq k i);
}

module _ (h : MemoryHistory) (raises : List Raise) where
  pub marked-more : (n : ℕ) (before after : List Bool) → MarksBelow n before after → (p : Pair) → IsMarked h raises before p → IsMarked h raises after p
  marked-more n before after marks p marked = ⊎_elim
      (λ (leads : SourceOrder h p.0 p.1). inl leads)
      (λ (r : (i : ℕ) × IsFirstRaise raises p i × (slice_get before i ≡ Some true)). inr (r.0, r.1, marks.kept r.0 r.2))
      marked

  -- the first raise that gives a pair is one of those that are known to have one
  pub first-below : (n : ℕ) (p : Pair) (i : ℕ) → ¬ SourceOrder h p.0 p.1 → IsFirstRaise raises p i → IsBefore h raises n p → i < n
  first-below n p i not first before = ⊎_elim
      (λ (leads : SourceOrder h p.0 p.1). absurd (not leads))
      (λ (r : (j : ℕ) × (j < n) × IsRaisedBy raises p j). let up = first.first r.0 r.2 in let below = r.1 in omega arith)
      before

  -- the raise that a pair rests on is found
  pub raise-found : (p : Pair) (found : Option ℕ) → IsBefore h raises (length raises) p → ¬ SourceOrder h p.0 p.1
      → MatchOption found ((i : ℕ) → ¬ IsRaisedBy raises p i) (IsFirstRaise raises p)
      → MatchOption found ((p.0 ≢ p.1) × SourceOrder h p.0 p.1) (λ i. (¬ SourceOrder h p.0 p.1) × IsFirstRaise raises p i)
  raise-found p None before not is = absurd (⊎_elim
      (λ (leads : SourceOrder h p.0 p.1). not leads)
      (λ (r : (j : ℕ) × (j < length raises) × IsRaisedBy raises p j). is r.0 r.2)
      before)
  raise-found p (Some i) before not is = (not, is)

  -- the marks of one raise more are closed
  pub closed-more : (n : ℕ) (e : Raise) (before after : List Bool) → slice_get raises n ≡ Some e → MarksBelow n before after
      → ArePremises (IsMarked h raises after) e → AreClosedFrom h raises before (n + 1) → AreClosedFrom h raises after n
  closed-more n e before after at marks premises closed i d from marked there = ⊎_elim
      (λ (same : n ≡ i).
      let here : slice_get raises n ≡ Some d = subst (λ (j : ℕ). slice_get raises j ≡ Some d) (sym same) there in
      subst (λ (r : Raise). ArePremises (IsMarked h raises after) r) (same_Some e d (sym at ∙ here)) premises)
      (λ (above : n < i).
      let was : slice_get before i ≡ Some true = ⊎_elim
      (λ (was : slice_get before i ≡ Some true). was)
      (λ (below : i < n). absurd (omega arith))
      (marks.marked i marked) in
      rests-each (IsMarked h raises before) (IsMarked h raises after) (marked-more n before after marks) (last_of d) d.op d.cause
      (closed i d (omega arith) was there))
      (eq-or-lt_of_le from)

  -- so are those of one that isn't marked
  pub closed-skip : (n : ℕ) (needed : List Bool) → slice_get needed n ≡ Some false → AreClosedFrom h raises needed (n + 1) → AreClosedFrom h raises needed n
  closed-skip n needed not closed i d from marked there = ⊎_elim
      (λ (same : n ≡ i).
      let here : slice_get needed n ≡ Some true = subst (λ (j : ℕ). slice_get needed j ≡ Some true) (sym same) marked in
      absurd (true≢false (same_Some true false (sym here ∙ not))))
      (λ (above : n < i). closed i d (omega arith) marked there)
      (eq-or-lt_of_le from)

  -- at first one raise is marked
  pub closed-begin : (m n : ℕ) → AreClosedFrom h raises (set (replicate m false) n true) (n + 1)
  closed-begin m n i d from marked there =
      let apart : i ≢ n = λ (same : i ≡ n). absurd (omega arith) in
      absurd (none-marked m i (set-apart (replicate m false) n i true true apart marked))
