-- What is read of a lane, with one more operation, and what is sealed of it.
use Rattle.std.proofs.Common.{◌≡◌, ℕ, zero, suc, ◌+◌, ◌<◌, ◌≤◌, ◌⊎◌, List, [], ◌∷◌, ◌++◌, length, inl, inr, refl, sym, ◌∙◌, ap, subst, arith}
use Rattle.std.specs.Prelude.{Bool, true, false, Option, Some, None, slice_get}
use Rattle.std.proofs.lemmas.Bool.{cases_lt, false≢true}
use Rattle.std.proofs.lemmas.Option.{slice_get_within}
use Rattle.model_history.specs.declared.advice.Advice.{Advice}
use Rattle.live_recorder.specs.Lanes.{Cells, Entry, shown}
use Rattle.live_recorder.proofs.Telling.{length_push, get_pushed, get_push_cases, get_push_before}
use Rattle.live_recorder.specs.Sessions.{ReceiptState}
use Rattle.live_seals.specs.declared.longest.LongestReceipt.{LongestReceipt}
use Rattle.live_seals.specs.Steps.Tables.{IsReturnFound, IsReturnedAs, IsSealedSession, AreNotesOf}
use Rattle.live_seals.specs.Steps.Sealing.{ReadsReturn, ReadsCall, AreReturnsRead, AreCallsRead, IsToldBy}
use Rattle.live_seals.proofs.TableLemmas.{some_same}
use Rattle.live_seals.proofs.Meetings.{get_in}

none_there : {A : Type 0} {x : A} (i : ℕ) → slice_get {X = A} [] i ≡ Some x → ⊥
none_there zero e = cc
none_there (suc i) e = cc

module _ {C R : Type 0} (fits : C → R → Bool) (lane : Cells) where
  pub returns_none : AreReturnsRead {C = C} {R = R} fits lane [] []
  returns_none = record { many = refl; of = λ i n e. absurd (none_there i e); shows = λ i n e. absurd (none_there i e) }

  pub calls_none : (es : List (C × Option R)) → AreCallsRead lane es [] es
  calls_none es = record { many = omega arith; front = λ i h. refl; of = λ i n e. absurd (none_there i e); shows = λ i n e. absurd (none_there i e) }

  pub returns_more : (i : ℕ) (notes notes' : List (ℕ × Option (Entry C R))) (es es' : List (C × Option R)) (ds ds' : List (Option Advice)) → AreReturnsRead fits lane notes es → ReadsReturn fits lane i notes notes' es es' ds ds' → i ≡ length notes → AreReturnsRead fits lane notes' es'
  returns_more i notes notes' es es' ds ds' a b at = record {
    many = ap length b.pushed ∙ (length_push es (b.call, Some b.ret) ∙ (ap (λ (n : ℕ). n + 1) a.many ∙ (sym (length_push notes (b.cell, b.known)) ∙ sym (ap length b.noted))));
    of = λ j n e. elim (cases j n e) [
      | inl h ↦ a.of j n h
      | inr h ↦ subst (λ (x : ℕ). slice_get lane.returns x ≡ Some n.0) (at ∙ sym h.0) (subst (λ (x : ℕ × Option (Entry C R)). slice_get lane.returns i ≡ Some x.0) h.1 b.of)
    ];
    shows = λ j n e. elim (cases j n e) [
      | inl h ↦ kept j n (a.shows j n h)
      | inr h ↦ subst (λ (x : ℕ × Option (Entry C R)). IsReturnedAs fits x.1 (slice_get es' j)) h.1
          (b.call, b.ret, (b.advice, b.shows), ap (λ (x : List (C × Option R)). slice_get x j) b.pushed ∙ (ap (slice_get (es ++ (b.call, Some b.ret) ∷ [])) (h.0 ∙ sym a.many) ∙ get_pushed es (b.call, Some b.ret)), b.fitting)
    ];
  }
    where
      cases : (j : ℕ) (n : ℕ × Option (Entry C R)) → slice_get notes' j ≡ Some n → (slice_get notes j ≡ Some n) ⊎ ((j ≡ length notes) × ((b.cell, b.known) ≡ n))
      cases j n e = get_push_cases notes (b.cell, b.known) j n (subst (λ (x : List (ℕ × Option (Entry C R))). slice_get x j ≡ Some n) b.noted e)

      kept : (j : ℕ) (n : ℕ × Option (Entry C R)) → IsReturnedAs fits n.1 (slice_get es j) → IsReturnedAs fits n.1 (slice_get es' j)
      kept j n s = (s.0, s.1, s.2, ap (λ (x : List (C × Option R)). slice_get x j) b.pushed ∙ get_push_before es (b.call, Some b.ret) j (s.0, Some s.1) s.3, s.4)

  pub calls_more : (i : ℕ) (before : List (C × Option R)) (notes notes' : List (ℕ × Option C)) (es es' : List (C × Option R)) (ds ds' : List (Option Advice)) → AreCallsRead lane before notes es → ReadsCall lane i notes notes' es es' ds ds' → i ≡ length before + length notes → AreCallsRead lane before notes' es'
  calls_more i before notes notes' es es' ds ds' a b at = record {
    many = ap length b.pushed ∙ (length_push es (b.call, None) ∙ (ap (λ (n : ℕ). n + 1) a.many ∙ (let e : length notes' ≡ length notes + 1 = ap length b.noted ∙ length_push notes (b.cell, b.known) in let x : length before + length notes + 1 ≡ length before + length notes' = omega (arith, e) in x)));
    front = λ j h. ap (λ (x : List (C × Option R)). slice_get x j) b.pushed ∙ (push_same es (b.call, None) j (let m : length es ≡ length before + length notes = a.many in let h' : j < length before = h in omega arith) ∙ a.front j h);
    of = λ j n e. elim (cases j n e) [
      | inl h ↦ a.of j n h
      | inr h ↦ subst (λ (x : ℕ). slice_get lane.calls x ≡ Some n.0) (at ∙ ap (λ (k : ℕ). length before + k) (sym h.0)) (subst (λ (x : ℕ × Option C). slice_get lane.calls i ≡ Some x.0) h.1 b.of)
    ];
    shows = λ j n e. elim (cases j n e) [
      | inl h ↦ let s = a.shows j n h in (s.0, s.1, ap (λ (x : List (C × Option R)). slice_get x (length before + j)) b.pushed ∙ get_push_before es (b.call, None) (length before + j) (s.0, None) s.2)
      | inr h ↦ (
        b.call,
        sym (ap (λ (x : ℕ × Option C). x.1) h.1) ∙ b.shows,
        ap (λ (x : List (C × Option R)). slice_get x (length before + j)) b.pushed ∙ (ap (slice_get (es ++ (b.call, None) ∷ [])) (ap (λ (k : ℕ). length before + k) h.0 ∙ sym a.many) ∙ get_pushed es (b.call, None)),
      )
    ];
  }
    where
      cases : (j : ℕ) (n : ℕ × Option C) → slice_get notes' j ≡ Some n → (slice_get notes j ≡ Some n) ⊎ ((j ≡ length notes) × ((b.cell, b.known) ≡ n))
      cases j n e = get_push_cases notes (b.cell, b.known) j n (subst (λ (x : List (ℕ × Option C)). slice_get x j ≡ Some n) b.noted e)

      push_same : (xs : List (C × Option R)) (x : C × Option R) (j : ℕ) → j < length xs → slice_get (xs ++ x ∷ []) j ≡ slice_get xs j
      push_same [] x j h = absurd (let h' : j < 0 = h in omega arith)
      push_same (y ∷ xs) x zero h = refl
      push_same (y ∷ xs) x (suc j) h = push_same xs x j (let h' : suc j < suc (length xs) = h in omega arith)

  module _ (rn : List (ℕ × Option (Entry C R))) (cn : List (ℕ × Option C)) (front es : List (C × Option R)) (a : AreReturnsRead fits lane rn front) (b : AreCallsRead lane front cn es) where
    pub session_sealed : IsSealedSession fits es (record { returns = rn; calls = cn })
    session_sealed = record {
      many = b.many ∙ ap (λ (n : ℕ). n + length cn) a.many;
      returned = λ i n e. let s = a.shows i n e in (s.0, s.1, s.2, b.front i (slice_get_within front i (s.0, Some s.1) s.3) ∙ s.3, s.4);
      called = λ i n e. let s = b.shows i n e in (s.0, s.1, subst (λ (k : ℕ). slice_get es (k + i) ≡ Some (s.0, None)) a.many s.2);
    }

    pub notes_sealed : AreNotesOf lane (record { returns = rn; calls = cn })
    notes_sealed = record {
      returns = a.of;
      calls = λ i n e. subst (λ (k : ℕ). slice_get lane.calls (k + i) ≡ Some n.0) a.many (b.of i n e);
    }

-- a place of which no note was found was not told of
pub not_told : (count i : ℕ) → (i < count → false ≡ true) → count ≤ i
not_told count i f = elim (cases_lt i count) [ inl h ↦ absurd (false≢true (f h)) | inr h ↦ h ]

-- a note that a receipt tells
module _ {C R : Type 0} (rs : List (ReceiptState C R)) (lane : Cells) (best : LongestReceipt) (told : IsToldBy rs lane best) (i : ℕ) (less : i < best.count) where
  some_told : 0 < best.count
  some_told = let l : i < best.count = less in omega arith

  pub told_place : best.at < length rs
  told_place = let r = told some_told in slice_get_within rs best.at r.0 r.1

  pub told_within : (r : ReceiptState C R) → slice_get rs best.at ≡ Some r → i < length r.operations
  told_within r at = let q = told some_told in let e : length r.operations ≡ best.count = ap (λ (x : ReceiptState C R). length x.operations) (some_same r q.0 (sym at ∙ q.1)) ∙ q.2 in let l : i < best.count = less in omega arith

  pub told_found : (r : ReceiptState C R) → slice_get rs best.at ≡ Some r → (cell : ℕ) (known : Option (Entry C R)) → slice_get r.cells i ≡ Some cell → shown known ≡ slice_get r.operations i → IsReturnFound lane i (cell, known)
  told_found r at cell known named shows =
      let q = told some_told in let same : r ≡ q.0 = some_same r q.0 (sym at ∙ q.1) in let o = get_in r.operations i (told_within r at) in
      (q.3 i cell (subst (λ (x : ReceiptState C R). slice_get x.cells i ≡ Some cell) same named), (o.0, shows ∙ o.1))
