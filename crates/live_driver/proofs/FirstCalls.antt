-- The calls that sessions began, and that seals have of them, are the first of the input's.
use Rattle.std.proofs.Common.{◌≡◌, ◌≢◌, ℕ, zero, suc, ◌+◌, ◌<◌, ◌≤◌, List, [], ◌∷◌, ◌++◌, length, map, inl, inr, refl, sym, ◌∙◌, ap, subst, arith}
use Rattle.std.specs.Prelude.{Option, Some, None, option_map, slice_get}
use Rattle.std.proofs.lemmas.Bool.{cases_eq, cases_lt}
use Rattle.std.proofs.lemmas.List.{get_or_past, length-map}
use Rattle.std.proofs.lemmas.Option.{slice_get-map, slice_get_within}
use Rattle.model_history.specs.History.{HistoryValue, entry, session}
use Rattle.live_recorder.specs.Lanes.{Returned}
use Rattle.live_recorder.specs.Sessions.{LanesState, SessionState, after_begin, begun, session_operation}
use Rattle.live_recorder.proofs.Telling.{get_push_before, get_push_cases, get_pushed}
use Rattle.live_replica.specs.Replicas.{ReplicaState}
use Rattle.live_seals.specs.Cuts.{IsPrefixOf}
use Rattle.live_seals.specs.Seals.{AreOfOne, IsSealOf, SealState}
use Rattle.live_driver.specs.Clients.{AreOfLanesFrom, AreRecorded, HasFirstCalls, HaveCallsOf, HaveFirstCalls, HaveReturned, IsAt, IsRecorded, StandsIn}
use Rattle.live_driver.specs.Drives.{IsOfInput, calls_in}
use Rattle.live_driver.proofs.Lists.{none_at, some_same, there}

module _ {A : Type 0} where
  -- what stands at the same places in another list is how that list begins
  begins : (xs ys : List A) → StandsIn xs ys → IsPrefixOf xs ys
  begins [] ys stands = (ys, refl)
  begins (x ∷ xs) [] stands = absurd (none_at 0 x (stands 0 x refl))
  begins (x ∷ xs) (y ∷ ys) stands =
      let rest = begins xs ys (λ i z here. stands (suc i) z here) in
      let same : y ≡ x = some_same y x (stands 0 x refl) in
      (rest.0, ap (λ (zs : List A). x ∷ zs) rest.1 ∙ ap (λ (z : A). z ∷ ys) (sym same))

  one_more_stands : (xs ys : List A) (x : A) → StandsIn xs ys → slice_get ys (length xs) ≡ Some x → StandsIn (xs ++ x ∷ []) ys
  one_more_stands xs ys x before here i y at = elim (get_push_cases xs x i y at) [
    | inl g ↦ before i y g
    | inr g ↦ subst (λ (j : ℕ). slice_get ys j ≡ Some y) (sym g.0) (here ∙ ap Some g.1)
  ]

  -- what holds of the first items holds of one more, and of all
  pub holds_more : (P : A → Type 0) (xs : List A) (n : ℕ) (x : A) → slice_get xs n ≡ Some x → P x → ((j : ℕ) (y : A) → j < n → slice_get xs j ≡ Some y → P y)
      → (j : ℕ) (y : A) → j < n + 1 → slice_get xs j ≡ Some y → P y
  holds_more P xs n x at is before j y less here = elim (cases_eq j n) [
    | inl same ↦ subst P (some_same x y (sym at ∙ (ap (slice_get xs) (sym same) ∙ here))) is
    | inr other ↦ before j y (let apart : j ≢ n = other in omega arith) here
  ]

  pub holds_of_all : (P : A → Type 0) (xs : List A) (n : ℕ) → length xs ≤ n → ((j : ℕ) (y : A) → j < n → slice_get xs j ≡ Some y → P y)
      → (j : ℕ) (y : A) → slice_get xs j ≡ Some y → P y
  holds_of_all P xs n past first j y here = let within : j < length xs = slice_get_within xs j y here in first j y (omega arith) here

module _ {C R : Type 0} where
  -- the calls that have returned are the first of the session
  returned_stand : (calls : List (C × Option R)) (n : ℕ) (done : List (Returned C R)) → HaveReturned calls n done → length done ≡ n → n ≤ length calls
      → StandsIn (map (λ (o : Returned C R). o.0) done) (map (λ (e : C × Option R). e.0) calls)
  returned_stand calls n done has many within i x here = slice_get-map call_of calls i ∙ (ap (option_map call_of) e.1 ∙ sym same)
    where
      call_of : C × Option R → C
      call_of e = e.0

      returned : Returned C R → C
      returned o = o.0

      less : i < n
      less = let a : i < length (map returned done) = slice_get_within (map returned done) i x here in let b : length (map returned done) ≡ length done = length-map done returned in omega arith

      e : (e : C × Option R) × (slice_get calls i ≡ Some e)
      e = there calls i (let a : i < n = less in omega arith)

      b : (r : R) × (a : _) × (slice_get done i ≡ Some (e.0.0, r, a))
      b = has i e.0.0 e.0.1 less e.1

      same : Some x ≡ Some e.0.0
      same = sym here ∙ (slice_get-map returned done i ∙ ap (option_map returned) b.2)

module _ {S C R : Type 0} (lanes : LanesState S) (input : HistoryValue S C R) (s n : ℕ) (own : SessionState C R) (replica : ReplicaState S C) (is : IsAt lanes input s n own replica) where
  at_cells : slice_get lanes.cells own.lane ≡ Some own.cells
  at_cells = subst (λ (k : ℕ). slice_get lanes.cells k ≡ Some own.cells) (sym is.lane) is.cells

  -- a client between two calls has recorded the first calls of its session
  pub recorded_at : n ≤ length (session input s) → IsRecorded lanes input own
  recorded_at within = record {
    cells = at_cells;
    calls =
        subst (λ (k : ℕ). StandsIn (begun own.done own.pending) (calls_in input k)) (sym is.lane)
        (subst (λ (p : Option C). StandsIn (begun own.done p) (calls_in input s)) (sym is.idle) (returned_stand (session input s) n own.done is.called is.many within));
  }

  -- and so it has where it has begun the next one too
  pub recorded_open : (own' : SessionState C R) (call : C) → n < length (session input s)
      → ((c : C) (known : Option R) → slice_get (session input s) n ≡ Some (c, known) → call ≡ c) → own' ≡ after_begin own call → IsRecorded lanes input own'
  recorded_open own' call less at begins = subst (λ (x : SessionState C R). IsRecorded lanes input x) (sym begins) (record { cells = at_cells; calls = stand })
    where
      e : (e : C × Option R) × (slice_get (session input s) n ≡ Some e)
      e = there (session input s) n less

      many : length (map (λ (o : Returned C R). o.0) own.done) ≡ n
      many = length-map own.done (λ (o : Returned C R). o.0) ∙ is.many

      here : slice_get (calls_in input s) (length (map (λ (o : Returned C R). o.0) own.done)) ≡ Some call
      here =
          ap (slice_get (calls_in input s)) many
          ∙ (slice_get-map (λ (x : C × Option R). x.0) (session input s) n ∙ (ap (option_map (λ (x : C × Option R). x.0)) e.1 ∙ ap Some (sym (at e.0.0 e.0.1 e.1))))

      stand : StandsIn (map (λ (o : Returned C R). o.0) own.done ++ call ∷ []) (calls_in input own.lane)
      stand =
          subst (λ (k : ℕ). StandsIn (map (λ (o : Returned C R). o.0) own.done ++ call ∷ []) (calls_in input k)) (sym is.lane)
          (one_more_stands (map (λ (o : Returned C R). o.0) own.done) (calls_in input s) call
          (returned_stand (session input s) n own.done is.called is.many (omega arith)) here)

module _ {S C R : Type 0} (lanes : LanesState S) (input : HistoryValue S C R) where
  -- a seal of the lanes and a session of the lanes are of one recorder
  pub of_one : (x : SealState S C R) (own : SessionState C R) → IsSealOf lanes x → IsRecorded lanes input own → AreOfOne x own
  of_one x own seal recorded = seal.each own.lane own.cells recorded.cells

  pub recorded_none : (owns : List (SessionState C R)) → owns ≡ [] → AreRecorded lanes input owns
  recorded_none owns e j own h = absurd (none_at j own (ap (λ (l : List (SessionState C R)). slice_get l j) (sym e) ∙ h))

  pub recorded_more : (owns owns' : List (SessionState C R)) (own : SessionState C R) → owns' ≡ owns ++ own ∷ [] → IsRecorded lanes input own → AreRecorded lanes input owns
      → AreRecorded lanes input owns'
  recorded_more owns owns' own e is before j x h = elim (get_push_cases owns own j x (ap (λ (l : List (SessionState C R)). slice_get l j) (sym e) ∙ h)) [
    | inl g ↦ before j x g
    | inr g ↦ subst (λ (z : SessionState C R). IsRecorded lanes input z) g.1 is
  ]

module _ {S C R : Type 0} (input : HistoryValue S C R) where
  pub lanes_none : (n : ℕ) (owns : List (SessionState C R)) → n ≡ length input.1 → AreOfLanesFrom n input owns
  lanes_none n owns e s least within = absurd (omega arith)

  pub lanes_more : (n : ℕ) (owns owns' : List (SessionState C R)) (own : SessionState C R) → owns' ≡ owns ++ own ∷ [] → own.lane ≡ n → AreOfLanesFrom (n + 1) input owns
      → AreOfLanesFrom n input owns'
  lanes_more n owns owns' own e lane from s least within = elim (cases_eq n s) [
    | inl same ↦ (length owns, own, ap (λ (l : List (SessionState C R)). slice_get l (length owns)) e ∙ get_pushed owns own, lane ∙ same)
    | inr other ↦
        let apart : n ≢ s = other in
        let least' : n + 1 ≤ s = omega arith in
        let b = from s least' within in
        (b.0, b.1, ap (λ (l : List (SessionState C R)). slice_get l b.0) e ∙ get_push_before owns own b.0 b.1 b.2, b.3)
  ]

  -- a history that has as many calls of a session as it has in common with it
  pub met_first : (h : HistoryValue S C R) (own : SessionState C R) (calls : ℕ) → calls ≡ length (session h own.lane)
      → ((i : ℕ) → i < calls → option_map (λ (e : C × Option R). e.0) (entry h (session_operation own.lane i)) ≡ slice_get (begun own.done own.pending) i)
      → StandsIn (begun own.done own.pending) (calls_in input own.lane) → HasFirstCalls input h own.lane
  met_first h own calls all same stands i x here = stands i x (sym (same i less) ∙ (sym (slice_get-map (λ (e : C × Option R). e.0) (session h own.lane) i) ∙ here))
    where
      less : i < calls
      less =
          let a : i < length (calls_in h own.lane) = slice_get_within (calls_in h own.lane) i x here in
          let b : length (calls_in h own.lane) ≡ length (session h own.lane) = length-map (session h own.lane) (λ (e : C × Option R). e.0) in
          omega arith

  pub first_of_all : (owns : List (SessionState C R)) (seals : List (SealState S C R)) → AreOfLanesFrom 0 input owns → HaveCallsOf input owns seals → HaveFirstCalls input seals
  first_of_all owns seals lanes have j x at s within =
      let o = lanes s (omega arith) within in
      subst (λ (k : ℕ). HasFirstCalls input x.history k) o.3 (have j x at o.0 o.1 o.2)

  -- in a history with as many sessions, those that the input has begin with the input's calls, and there are no others
  pub first_calls : (h : HistoryValue S C R) → length h.1 ≡ length input.1 → ((s : ℕ) → s < length input.1 → HasFirstCalls input h s) → (s : ℕ) → IsPrefixOf (calls_in h s) (calls_in input s)
  first_calls h many first s = elim (cases_lt s (length input.1)) [
    | inl less ↦ begins (calls_in h s) (calls_in input s) (first s less)
    | inr past ↦
        let beyond : length h.1 ≤ s = omega arith in
        let none : session h s ≡ [] = get_or_past h.1 s [] beyond in
        begins (calls_in h s) (calls_in input s)
        (λ i x here. absurd (none_at i x (subst (λ (es : List (C × Option R)). slice_get (map (λ (e : C × Option R). e.0) es) i ≡ Some x) none here)))
  ]
