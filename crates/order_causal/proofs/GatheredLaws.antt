-- Lists by operation, gathered one after another.
use Rattle.std.specs.Prelude.{◌≡◌, ◌≢◌, ℕ, ◌+◌, ◌<◌, ◌≤◌, List, [], ◌∷◌, ◌++◌, length, IfOk}
use Rattle.std.proofs.Common.{arith, get_or, sym, ap, subst, subst₂, ◌∙◌, ⊎_elim, refl, Result, Ok, Err}
use Rattle.std.proofs.lemmas.Bool.{cases_eq, cases_lt}
use Rattle.std.proofs.lemmas.List.{get_or_append_left, get_or_past, length_push, get_or_push, length-set}
use Rattle.std.proofs.lemmas.Result.{IfOk-weaker}
use Rattle.model_history.specs.declared.op_id.OpId.{OpId}
use Rattle.model_history.specs.History.{HistoryValue, IsOp, session}
use Rattle.order_causal.specs.Orders.{op}
use Rattle.order_causal.specs.Vectors.{IsListed, ByOperation, Counts, list_of, AreVectorsOf, HasOneEach}
use Rattle.order_causal.specs.BySession.{AreMadeBy}
use Rattle.order_causal.specs.Steps.Gathered.{AreGatheredBefore, AreGatheredUpTo, AreListsOf, AreListsUpTo}
use Rattle.order_causal.proofs.PushedLaws.{pushed, listed-length, pushed-other, pushed-length, pushed-cases, pushed-value_old, pushed-value_next}

module _ {S C R A : Type 0} (h : HistoryValue S C R) (holds : OpId → List A → Type 0) where
  -- no list at all
  pub gathered-none : AreGatheredBefore h holds 0 []
  gathered-none = record {
    sessions = refl;
    operations = λ t below. absurd (omega arith);
    each = λ o listed. absurd (omega arith);
  }

  -- a session more, with no list
  pub gathered-session : (s : ℕ) (lists : ByOperation A) → AreGatheredBefore h holds s lists → AreGatheredUpTo h holds s 0 (lists ++ [] ∷ [])
  gathered-session s lists before = record {
    sessions = length_push lists [] ∙ ap (λ n. n + 1) before.sessions;
    operations = λ t below.
        let inside : t < length lists = let same = before.sessions in omega arith in
        ap (λ (xs : List (List A)). length xs) (get_or_append_left lists ([] ∷ []) [] t inside) ∙ before.operations t below;
    here = ap (λ (xs : List (List A)). length xs) (get_or_push lists [] [] s before.sessions);
    each = λ o listed. ⊎_elim
        (λ (below : o.session < s).
        let inside : o.session < length lists = let same = before.sessions in omega arith in
        let left = get_or_append_left lists ([] ∷ []) [] o.session inside in
        subst (λ (xs : List (List A)). holds o (get_or xs o.index [])) (sym left)
        (before.each o (subst (λ (xs : List (List A)). o.index < length xs) left listed)))
        (λ (above : s ≤ o.session). absurd (⊎_elim
        (λ (same : o.session ≡ s).
        let none = ap (λ (t : ℕ). get_or (lists ++ [] ∷ []) t []) same ∙ get_or_push lists [] [] s before.sessions in
        let below = subst (λ (xs : List (List A)). o.index < length xs) none listed in
        omega arith)
        (λ (apart : o.session ≢ s).
        let inside = listed-length (lists ++ [] ∷ []) o.session o.index listed in
        let more = length_push lists [] in
        let same = before.sessions in
        omega arith)
        (cases_eq o.session s)))
        (cases_lt o.session s);
  }

  -- a list more
  pub gathered-push : (s i : ℕ) (lists : ByOperation A) (x : List A) → AreGatheredUpTo h holds s i lists → holds (op s i) x
      → AreGatheredUpTo h holds s (i + 1) (pushed lists s x)
  gathered-push s i lists x before new =
      let inside : s < length lists = let same = before.sessions in omega arith in
      record {
        sessions = length-set lists s _ ∙ before.sessions;
        operations = λ t below.
            let apart : t ≢ s = omega arith in
            ap (λ (xs : List (List A)). length xs) (pushed-other lists s x inside t apart) ∙ before.operations t below;
        here = pushed-length lists s x inside ∙ ap (λ n. n + 1) before.here;
        each = λ o listed. ⊎_elim
            (λ (old : IsListed lists o).
            subst (λ (xs : List A). holds o xs) (sym (pushed-value_old lists s x inside o [] old)) (before.each o old))
            (λ (next : o ≡ op s (length (get_or lists s []))).
            let this : o ≡ op s i = next ∙ ap (λ (n : ℕ). op s n) before.here in
            let value : list_of (pushed lists s x) (op s i) ≡ x =
            ap (λ (n : ℕ). get_or (get_or (pushed lists s x) s []) n []) (sym before.here) ∙ pushed-value_next lists s x inside [] in
            subst (λ (p : OpId). holds p (list_of (pushed lists s x) p)) (sym this)
            (subst (λ (xs : List A). holds (op s i) xs) (sym value) new))
            (pushed-cases lists s x inside o listed);
      }

  -- the end of a session
  pub gathered-end : (s i : ℕ) (lists : ByOperation A) → AreGatheredUpTo h holds s i lists → i ≡ length (session h s)
      → AreGatheredBefore h holds (s + 1) lists
  gathered-end s i lists up_to ended = record {
    sessions = up_to.sessions;
    operations = λ t below. ⊎_elim
        (λ (same : t ≡ s). subst (λ (n : ℕ). length (get_or lists n []) ≡ length (session h n)) (sym same) (up_to.here ∙ ended))
        (λ (apart : t ≢ s). up_to.operations t (omega arith))
        (cases_eq t s);
    each = up_to.each;
  }

  -- the end of the last session
  pub gathered-shape : (s : ℕ) (lists : ByOperation A) → s ≡ length h.1 → AreGatheredBefore h holds s lists → HasOneEach h lists
  gathered-shape s lists ended before = record {
    sessions = before.sessions ∙ ended;
    operations = λ t. ⊎_elim
        (λ (below : t < s). before.operations t below)
        (λ (above : s ≤ t).
        let no_list : length lists ≤ t = let same = before.sessions in omega arith in
        let none = ap (λ (xs : List (List A)). length xs) (get_or_past lists t [] no_list) in
        let no_session = ap (λ (es : _). length es) (get_or_past h.1 t [] (omega arith)) in
        none ∙ sym no_session)
        (cases_lt t s);
  }

  -- what holds of each list
  pub gathered-each : (s : ℕ) (lists : ByOperation A) → s ≡ length h.1 → AreGatheredBefore h holds s lists
      → (o : OpId) → IsOp h o → holds o (list_of lists o)
  gathered-each s lists ended before o is_op =
      let same = (gathered-shape s lists ended before).operations o.session in
      before.each o (omega arith)

module _ {A : Type 0} (holds : OpId → List A → Type 0) (s : ℕ) where
  -- no list at all
  pub lists-none : AreListsUpTo holds s 0 []
  lists-none = record { operations = refl; each = λ j below. absurd (omega arith) }

  -- a list more
  pub lists-push : (i : ℕ) (lists : List (List A)) (x : List A) → AreListsUpTo holds s i lists → holds (op s i) x
      → AreListsUpTo holds s (i + 1) (lists ++ x ∷ [])
  lists-push i lists x before new = record {
    operations = length_push lists x ∙ ap (λ n. n + 1) before.operations;
    each = λ j below. ⊎_elim
        (λ (same : j ≡ i).
        let value = get_or_push lists x [] j (before.operations ∙ sym same) in
        subst (λ (n : ℕ). holds (op s n) (get_or (lists ++ x ∷ []) j [])) (sym same) (subst (λ (xs : List A). holds (op s i) xs) (sym value) new))
        (λ (apart : j ≢ i).
        let inside : j < length lists = let same = before.operations in omega arith in
        subst (λ (xs : List A). holds (op s j) xs) (sym (get_or_append_left lists (x ∷ []) [] j inside)) (before.each j (omega arith)))
        (cases_eq j i);
  }

module _ {S C R A : Type 0} (h : HistoryValue S C R) (holds : OpId → List A → Type 0) (lists : ByOperation A) (sessions : length lists ≡ length h.1)
    (each : (s : ℕ) → s < length h.1 → AreListsOf h holds s (get_or lists s [])) where
  pub sessions-shape : HasOneEach h lists
  sessions-shape = record {
    sessions = sessions;
    operations = λ t. ⊎_elim
        (λ (below : t < length h.1). (each t below).operations)
        (λ (above : length h.1 ≤ t).
        let none = ap (λ (xs : List (List A)). length xs) (get_or_past lists t [] (omega arith)) in
        let no_session = ap (λ (es : _). length es) (get_or_past h.1 t [] above) in
        none ∙ sym no_session)
        (cases_lt t (length h.1));
  }

  pub sessions-each : (o : OpId) → IsOp h o → holds o (list_of lists o)
  sessions-each o is_op = (each o.session (listed-length h.1 o.session o.index is_op)).each o.index is_op

-- the lists of one session more
pub made-push : {A E : Type 0} (gives : ℕ → Result (List (List A)) E → Type 0) (n : ℕ) (lists : ByOperation A) (rows : List (List A))
    → AreMadeBy gives n lists → gives n (Ok rows) → AreMadeBy gives (n + 1) (lists ++ rows ∷ [])
made-push {A} gives n lists rows before made = record {
  sessions = length_push lists rows ∙ ap (λ k. k + 1) before.sessions;
  each = λ s below. ⊎_elim
      (λ (same : s ≡ n).
      subst₂ (λ (k : ℕ) (xs : List (List A)). gives k (Ok xs)) (sym same) (sym (get_or_push lists rows [] s (before.sessions ∙ sym same))) made)
      (λ (apart : s ≢ n).
      let inside : s < length lists = let same = before.sessions in omega arith in
      subst (λ (xs : List (List A)). gives s (Ok xs)) (sym (get_or_append_left lists (rows ∷ []) [] s inside)) (before.each s (omega arith)))
      (cases_eq s n);
}

-- lists that were made session by session
module _ {S C R A E : Type 0} (h : HistoryValue S C R) (holds : OpId → List A → Type 0) (gives : ℕ → Result (List (List A)) E → Type 0) (n : ℕ)
    (every : n ≡ length h.1) (made : Result (ByOperation A) E) (by : IfOk made (AreMadeBy gives n))
    (given : (s : ℕ) (lists : List (List A)) → s < n → gives s (Ok lists) → AreListsOf h holds s lists) where
  made-lists : (lists : ByOperation A) → AreMadeBy gives n lists → (s : ℕ) → s < length h.1 → AreListsOf h holds s (get_or lists s [])
  made-lists lists so s below = let inside : s < n = omega arith in given s (get_or lists s []) inside (so.each s inside)

  pub made-shape : IfOk made (HasOneEach h)
  made-shape = IfOk-weaker made (AreMadeBy gives n) (HasOneEach h)
      (λ lists so. sessions-shape h holds lists (so.sessions ∙ every) (made-lists lists so)) by

  pub made-each : IfOk made (λ lists. (o : OpId) → IsOp h o → holds o (list_of lists o))
  made-each = IfOk-weaker made (AreMadeBy gives n) (λ lists. (o : OpId) → IsOp h o → holds o (list_of lists o))
      (λ lists so. sessions-each h holds lists (so.sessions ∙ every) (made-lists lists so)) by

module _ {S C R E : Type 0} (h : HistoryValue S C R) (holds : OpId → List ℕ → Type 0)
    (size : (o : OpId) (counts : List ℕ) → holds o counts → length counts ≡ length h.1) where
  -- vectors
  pub made-vectors : (made : Result Counts E) → IfOk made (HasOneEach h)
      → IfOk made (λ lists. (o : OpId) → IsOp h o → holds o (list_of lists o)) → IfOk made (AreVectorsOf h)
  made-vectors (Ok v) one_each each = record { one_each = one_each; counts = λ o is_op. size o (list_of v o) (each o is_op) }
  made-vectors (Err e) one_each each = one_each
