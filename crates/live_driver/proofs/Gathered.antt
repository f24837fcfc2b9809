-- What the clients leave, put together.
use Rattle.std.proofs.Common.{◌≡◌, ◌≢◌, ℕ, ◌+◌, ◌<◌, ◌≤◌, List, [], ◌∷◌, ◌++◌, length, inl, inr, sym, ◌∙◌, ap, subst, arith}
use Rattle.std.specs.Prelude.{Option, Some, Result, MatchResult, slice_get}
use Rattle.std.specs.Option.{option_to_list}
use Rattle.std.proofs.lemmas.Bool.{cases_eq, cases_lt}
use Rattle.std.proofs.lemmas.List.{get_or_past}
use Rattle.model_history.specs.declared.op_id.OpId.{OpId}
use Rattle.model_history.specs.History.{HistoryValue, entry, session}
use Rattle.live_recorder.specs.Sessions.{LanesState, ReceiptState}
use Rattle.live_recorder.proofs.Telling.{get_pushed}
use Rattle.live_seals.specs.Seals.{AreReceiptsOf, HoldsAll, IsSealOf, SealState}
use Rattle.live_driver.specs.Clients.{AreAllPlayed, HasFirstCalls, IsGivenUp, IsPlayed, PlayedState, StandForCalls, StandsFor}
use Rattle.live_driver.specs.Drives.{IsOfInput, RepeatsCalls, StaysOpen}
use Rattle.live_driver.specs.declared.drive_error.DriveError.{DriveError}
use Rattle.live_driver.proofs.FirstCalls.{first_calls}
use Rattle.live_driver.proofs.Lists.{get_append_cases, get_front, get_option, none_at, some_same}

module _ {S C R : Type 0} where
  -- an operation of a history is of one of its sessions
  entry_within : (h : HistoryValue S C R) (o : OpId) (e : C × Option R) → entry h o ≡ Some e → o.session < length h.1
  entry_within h o e at = elim (cases_lt o.session (length h.1)) [
    | inl less ↦ less
    | inr past ↦ absurd (none_at o.index e (subst (λ (es : List (C × Option R)). slice_get es o.index ≡ Some e) (get_or_past h.1 o.session [] past) at))
  ]

module _ {S C R : Type 0} (lanes : LanesState S) (stop : Option ℕ) (input : HistoryValue S C R) where
  -- receipts represent the calls of the sessions from this one on
  abbrev pub StandFrom : ℕ → List (ReceiptState C R) → Type 0
  StandFrom n receipts = (o : OpId) (c : C) (known : Option R) → n ≤ o.session → entry input o ≡ Some (c, known) → ¬ StaysOpen stop input o → (j : ℕ) × (r : ReceiptState C R) × (slice_get receipts j ≡ Some r) × StandsFor r o.session o.index c

  pub stand_none : (n : ℕ) (receipts : List (ReceiptState C R)) → n ≡ length input.1 → StandFrom n receipts
  stand_none n receipts e o c known least here not_open = let within : o.session < length input.1 = entry_within input o (c, known) here in absurd (omega arith)

  pub stand_all : (n : ℕ) (receipts : List (ReceiptState C R)) → n ≡ 0 → StandFrom n receipts → StandForCalls stop input receipts
  stand_all n receipts e from o c known here not_open = let least : n ≤ o.session = omega arith in from o c known least here not_open

  module _ (n : ℕ) (p : PlayedState S C R) (is : IsPlayed lanes stop input n p) (receipts receipts' : List (ReceiptState C R)) (e : receipts' ≡ receipts ++ option_to_list p.receipt) where
    pub stand_more : StandFrom (n + 1) receipts → StandFrom n receipts'
    stand_more from o c known least here not_open = elim (cases_eq n o.session) [
      | inl same ↦
          let g = is.calls o.index c known (subst (λ (k : ℕ). slice_get (session input k) o.index ≡ Some (c, known)) (sym same) here) (λ bad. not_open (subst (λ (k : ℕ). (stop ≡ Some k) × (o.index + 1 ≡ length (session input k))) same bad)) in
          (length receipts, g.0, ap (λ (x : List (ReceiptState C R)). slice_get x (length receipts)) (e ∙ ap (λ (q : Option (ReceiptState C R)). receipts ++ option_to_list q) g.1) ∙ get_pushed receipts g.0, subst (λ (k : ℕ). StandsFor g.0 k o.index c) same g.2)
      | inr other ↦
          let apart : n ≢ o.session = other in
          let least' : n + 1 ≤ o.session = omega arith in
          let b = from o c known least' here not_open in
          (b.0, b.1, ap (λ (x : List (ReceiptState C R)). slice_get x b.0) e ∙ get_front receipts (option_to_list p.receipt) b.0 b.1 b.2, b.3)
    ]

    pub told_more : AreReceiptsOf lanes receipts → AreReceiptsOf lanes receipts'
    told_more before j r h = elim (get_append_cases receipts (option_to_list p.receipt) j r (ap (λ (x : List (ReceiptState C R)). slice_get x j) (sym e) ∙ h)) [
      | inl g ↦ before j r g
      | inr g ↦ is.told r (get_option p.receipt g.0 r g.1)
    ]

  module _ (results results' : List (Result (PlayedState S C R) DriveError)) (p : Result (PlayedState S C R) DriveError) (e : results ≡ results' ++ p ∷ []) (all : AreAllPlayed lanes stop input results) where
    -- the clients before the last, and the last one
    pub played_before : AreAllPlayed lanes stop input results'
    played_before s q h = all s q (ap (λ (x : List (Result (PlayedState S C R) DriveError)). slice_get x s) e ∙ get_front results' (p ∷ []) s q h)

    pub played_last : MatchResult p (IsPlayed lanes stop input (length results')) IsGivenUp
    played_last = all (length results') p (ap (λ (x : List (Result (PlayedState S C R) DriveError)). slice_get x (length results')) e ∙ get_pushed results' p)

module _ {S C R : Type 0} where
  -- a history that holds all receipts has the calls for which they stand
  pub repeats : (stop : Option ℕ) (input h : HistoryValue S C R) (receipts : List (ReceiptState C R)) → HoldsAll h receipts → StandForCalls stop input receipts → RepeatsCalls stop input h
  repeats stop input h receipts holds stand o c known here not_open =
      let g = stand o c known here not_open in
      (g.3.ret, subst (λ (k : ℕ). slice_get (session h k) o.index ≡ Some (c, Some g.3.ret)) g.3.lane (holds g.0 g.1 g.2 o.index c g.3.ret g.3.advice g.3.stands))

  -- the last seal is the one that was put there
  pub last_repeats : (stop : Option ℕ) (input : HistoryValue S C R) (xs ys : List (SealState S C R)) (x : SealState S C R) (n : ℕ) → length xs ≡ n → ys ≡ xs ++ x ∷ [] → RepeatsCalls stop input x.history
      → (y : SealState S C R) → slice_get ys n ≡ Some y → RepeatsCalls stop input y.history
  last_repeats stop input xs ys x n many e is y h =
      let here : Some x ≡ Some y = sym (get_pushed xs x) ∙ (ap (λ (k : ℕ). slice_get (xs ++ x ∷ []) k) many ∙ (ap (λ (l : List (SealState S C R)). slice_get l n) (sym e) ∙ h)) in
      subst (λ (z : SealState S C R). RepeatsCalls stop input z.history) (some_same x y here) is

  pub of_input : (lanes : LanesState S) (input : HistoryValue S C R) (x : SealState S C R) → lanes.start ≡ input.0 → length lanes.cells ≡ length input.1
      → IsSealOf lanes x → ((s : ℕ) → s < length input.1 → HasFirstCalls input x.history s) → IsOfInput input x.history
  of_input lanes input x start many is first = record { start = is.start ∙ start; many = is.many ∙ many; calls = first_calls input x.history (is.many ∙ many) first }
