-- How a client goes from call to call, and what it leaves.
use Rattle.std.proofs.Common.{◌≡◌, ◌≢◌, ℕ, ◌+◌, ◌<◌, ◌≤◌, List, [], ◌∷◌, ◌++◌, length, inl, inr, sym, ◌∙◌, ap, subst, arith}
use Rattle.std.specs.Prelude.{Option, Some, None, option_map, slice_get, remove}
use Rattle.std.proofs.lemmas.Bool.{cases_eq}
use Rattle.std.proofs.lemmas.Option.{slice_get_within}
use Rattle.model_history.specs.declared.advice.Advice.{Advice}
use Rattle.model_history.specs.History.{HistoryValue, session}
use Rattle.live_recorder.specs.Lanes.{Cells, Returned}
use Rattle.live_recorder.specs.Refusals.{HasPlace}
use Rattle.live_recorder.specs.Sessions.{LanesState, ReceiptState, SessionState, receipt_of}
use Rattle.live_recorder.proofs.Telling.{get_push_before, get_push_cases, get_pushed, length_push}
use Rattle.live_replica.specs.Replicas.{ReplicaState}
use Rattle.live_seals.specs.Seals.{IsReceiptOf, IsSealOf, SealState}
use Rattle.live_driver.specs.Clients.{AreSealsOf, HasReturned, HaveReturned, IsAt, IsFresh, IsLastReceipt, IsPlayed, IsRecorded, PlayedState, StandsFor}
use Rattle.live_driver.proofs.Lists.{get_append_cases, get_removed, get_taken, none_at, some_same}

module _ {C R : Type 0} where
  -- one more call has returned
  one_more : (calls : List (C × Option R)) (n : ℕ) (done done' : List (Returned C R)) (call : C) (r : R) (a : Advice)
      → ((c : C) (known : Option R) → slice_get calls n ≡ Some (c, known) → call ≡ c) → length done ≡ n → done' ≡ done ++ (call, r, a) ∷ []
      → HaveReturned calls n done → HaveReturned calls (n + 1) done'
  one_more calls n done done' call r a at many is before i c known less here = elim (cases_eq i n) [
    | inl e ↦ (r, a, ap (λ (x : List (Returned C R)). slice_get x i) is ∙ (ap (λ (j : ℕ). slice_get (done ++ (call, r, a) ∷ []) j) (e ∙ sym many) ∙ (get_pushed done (call, r, a) ∙ ap (λ (x : C). Some (x, r, a)) (at c known (ap (slice_get calls) (sym e) ∙ here)))))
    | inr e ↦
        let apart : i ≢ n = e in
        let less' : i < n = omega arith in
        let b = before i c known less' here in
        (b.0, b.1, ap (λ (x : List (Returned C R)). slice_get x i) is ∙ get_push_before done (call, r, a) i (c, b.0, b.1) b.2)
  ]

  -- the call that an entry has
  pub called_at : (e : Option (C × Option R)) (call c : C) (known : Option R) → option_map (λ (x : C × Option R). x.0) e ≡ Some call → e ≡ Some (c, known) → call ≡ c
  called_at e call c known has is = some_same call c (sym has ∙ ap (λ (x : Option (C × Option R)). option_map (λ (y : C × Option R). y.0) x) is)

  -- a receipt that is the last is that of the session
  last_is : (own : SessionState C R) (o : Option (ReceiptState C R)) (r : ReceiptState C R) → IsLastReceipt own o → o ≡ Some r → r ≡ receipt_of own
  last_is own None r l e = absurd (cc)
  last_is own (Some x) r l e = sym (some_same x r e) ∙ l

  -- it is there where a call has returned
  last_given : (own : SessionState C R) (o : Option (ReceiptState C R)) (n i : ℕ) → IsLastReceipt own o → length own.done ≡ n → i < n → o ≡ Some (receipt_of own)
  last_given own None n i l many some = let none : length own.done ≡ 0 = l in absurd (omega arith)
  last_given own (Some x) n i l many some = ap Some l

module _ {S C R : Type 0} (lanes : LanesState S) where
  pub no_seals : (xs : List (SealState S C R)) → xs ≡ [] → AreSealsOf lanes xs
  no_seals xs e j x h = absurd (none_at j x (ap (λ (l : List (SealState S C R)). slice_get l j) (sym e) ∙ h))

  pub one_more_seal : (xs ys : List (SealState S C R)) (x : SealState S C R) → ys ≡ xs ++ x ∷ [] → IsSealOf lanes x → AreSealsOf lanes xs → AreSealsOf lanes ys
  one_more_seal xs ys x e is before j y h = elim (get_push_cases xs x j y (ap (λ (l : List (SealState S C R)). slice_get l j) (sym e) ∙ h)) [
    | inl g ↦ before j y g
    | inr g ↦ subst (λ (z : SealState S C R). IsSealOf lanes z) g.1 is
  ]

  pub seals_joined : (xs ys zs : List (SealState S C R)) → zs ≡ xs ++ ys → AreSealsOf lanes xs → AreSealsOf lanes ys → AreSealsOf lanes zs
  seals_joined xs ys zs e a b j x h = elim (get_append_cases xs ys j x (ap (λ (l : List (SealState S C R)). slice_get l j) (sym e) ∙ h)) [ inl g ↦ a j x g | inr g ↦ b g.0 x g.1 ]

  pub seals_left : (xs ys : List (SealState S C R)) (i : ℕ) → ys ≡ remove xs i → AreSealsOf lanes xs → AreSealsOf lanes ys
  seals_left xs ys i e a j x h = let g = get_removed xs i j x (ap (λ (l : List (SealState S C R)). slice_get l j) (sym e) ∙ h) in a g.0 x g.1

module _ {S C R : Type 0} (lanes : LanesState S) (input : HistoryValue S C R) (s : ℕ) where
  -- a client before its first call
  pub at_start : (own : SessionState C R) (replica : ReplicaState S C) → IsFresh lanes input own → own.lane ≡ s → replica.operations ≡ 0 → IsAt lanes input s 0 own replica
  at_start own replica f e none = record {
    lane = e;
    cells = subst (λ (x : ℕ). slice_get lanes.cells x ≡ Some own.cells) e (f.lane ∙ ap Some (sym cells));
    idle = ap (λ (x : SessionState C R). x.pending) f.fresh;
    called = λ i c known less here. absurd (let bad : i < 0 = less in omega arith);
    many = ap (λ (x : SessionState C R). length x.done) f.fresh;
    answered = none;
    places = subst (λ (x : ℕ). length (session input x) ≤ length own.cells.calls) e (subst (λ (x : Cells). length (session input own.lane) ≤ length x.calls) (sym cells) f.places);
  }
    where
      cells : own.cells ≡ f.cells
      cells = ap (λ (x : SessionState C R). x.cells) f.fresh

  -- it has a place for its next call
  pub at_place : (n : ℕ) (own : SessionState C R) (replica : ReplicaState S C) → IsAt lanes input s n own replica → n < length (session input s) → HasPlace own
  at_place n own replica is less = (is.idle, let m : length own.done ≡ n = is.many in let p : length (session input s) ≤ length own.cells.calls = is.places in omega arith)

  -- a client after one more call
  pub at_more : (n : ℕ) (own own' : SessionState C R) (replica replica' : ReplicaState S C) (call : C) → IsAt lanes input s n own replica
      → ((c : C) (known : Option R) → slice_get (session input s) n ≡ Some (c, known) → call ≡ c) → HasReturned own call own' → replica'.operations ≡ replica.operations + 1 → IsAt lanes input s (n + 1) own' replica'
  at_more n own own' replica replica' call is at ret more = record {
    lane = ap (λ (x : SessionState C R). x.lane) ret.2 ∙ is.lane;
    cells = subst (λ (x : Cells). slice_get lanes.cells s ≡ Some x) (sym cells) is.cells;
    idle = ap (λ (x : SessionState C R). x.pending) ret.2;
    called = one_more (session input s) n own.done own'.done call ret.0 ret.1 at is.many (ap (λ (x : SessionState C R). x.done) ret.2) is.called;
    many = ap (λ (x : SessionState C R). length x.done) ret.2 ∙ (length_push own.done (call, ret.0, ret.1) ∙ ap (λ (k : ℕ). k + 1) is.many);
    answered = more ∙ ap (λ (k : ℕ). k + 1) is.answered;
    places = subst (λ (x : Cells). length (session input s) ≤ length x.calls) (sym cells) is.places;
  }
    where
      cells : own'.cells ≡ own.cells
      cells = ap (λ (x : SessionState C R). x.cells) ret.2

  module _ (n : ℕ) (own : SessionState C R) (replica : ReplicaState S C) (is : IsAt lanes input s n own replica) where
    told_of_lanes : IsReceiptOf lanes (receipt_of own)
    told_of_lanes = (own.cells, subst (λ (k : ℕ). slice_get lanes.cells k ≡ Some own.cells) (sym is.lane) is.cells, λ i x h. get_taken own.cells.returns (length own.done) i x h)

    -- what a client leaves that has ended all calls but the open one
    pub played : (stop : Option ℕ) (p : PlayedState S C R) → p.own.lane ≡ s → IsRecorded lanes input p.own → IsLastReceipt own p.receipt → AreSealsOf lanes p.seals
        → ((i : ℕ) → i < length (session input s) → ¬ ((stop ≡ Some s) × (i + 1 ≡ length (session input s))) → i < n) → IsPlayed lanes stop input s p
    played stop p lane recorded last seals but_one = record {
      lane = lane;
      recorded = recorded;
      told = λ r e. subst (λ (x : ReceiptState C R). IsReceiptOf lanes x) (sym (last_is own p.receipt r last e)) told_of_lanes;
      seals = seals;
      calls = λ i c known here not_open. stands i c known here (but_one i (slice_get_within (session input s) i (c, known) here) not_open);
    }
      where
        stands : (i : ℕ) (c : C) (known : Option R) → slice_get (session input s) i ≡ Some (c, known) → i < n → (r : ReceiptState C R) × (p.receipt ≡ Some r) × StandsFor r s i c
        stands i c known here less =
            let b = is.called i c known less here in
            (receipt_of own, last_given own p.receipt n i last is.many less, record { lane = is.lane; ret = b.0; advice = b.1; stands = b.2 })
