-- One operation more that a list of session numbers names: what the running counts say of it.
use Rattle.std.proofs.Common.{◌≡◌, ◌≢◌, ℕ, zero, suc, ◌+◌, ◌-◌, ◌<◌, ◌≤◌, List, [], ◌∷◌, ◌++◌, length, take, get_or, set, refl, sym, ap, ◌∙◌, subst, arith, ⊎_elim, get_or-set_same, get_or-set_other}
use Rattle.std.specs.Prelude.{Some, slice_get}
use Rattle.std.proofs.lemmas.Bool.{cases_eq, cases_lt}
use Rattle.std.proofs.lemmas.List.{length-set, get_or_past}
use Rattle.std.proofs.lemmas.Option.{same_Some, slice_get-get_or}
use Rattle.model_history.specs.declared.op_id.OpId.{OpId}
use Rattle.model_history.specs.History.{HistoryValue, IsOp}
use Rattle.order_causal.proofs.Fronts.{take-stands, take-from}
use Rattle.order_causal.proofs.Placed.{placed-up}
use Rattle.order_causal.specs.Orders.{op, StandsAt}
use Rattle.order_causal.proofs.OrdersLaws.{same_op, session-of_history}
use Rattle.order_causal.specs.Vectors.{Counts, count, IsCounted}
use Rattle.cert_check.specs.Schedules.{named, StandsBefore}
use Rattle.order_causal.specs.Schedules.{placed}
use Rattle.cert_check.specs.Steps.Namings.{AreCountsAt, AreNamedWell, IsNamedWell}
use Rattle.cert_check.proofs.Named.{placed-next, placed-one, placed-none, named_at, named_is, take_next, take-named, counted_from_before, before_from_counted}

module _ (list : List ℕ) (i n s : ℕ) (here : slice_get list i ≡ Some s) (counts : List ℕ) (at : AreCountsAt list i n counts) where
  -- the operation that is named next
  pub next_stands : StandsAt (named list) i (op s (get_or counts s 0))
  next_stands = subst (λ (k : ℕ). StandsAt (named list) i (op s k)) (sym (at.each s)) (named_at list i s here)

  -- and no other
  pub next_is : (o : OpId) → StandsAt (named list) i o → op s (get_or counts s 0) ≡ o
  next_is o stands = same_Some (op s (get_or counts s 0)) o (sym next_stands ∙ stands)

  -- with it counted in, the counts are those at the next place
  pub counted_in : s < n → AreCountsAt list (i + 1) n (set counts s (get_or counts s 0 + 1))
  counted_in inside = record {
    width = length-set counts s (get_or counts s 0 + 1) ∙ at.width;
    each = λ t.
        let width = at.width in
        let before = at.each t in
        let next = placed-next t list i s here in
        ⊎_elim
        (λ (same : t ≡ s).
        let one = placed-one t s (sym same) in
        let counted = get_or-set_same counts s (get_or counts s 0 + 1) 0 (omega arith) in
        let place = ap (λ (k : ℕ). get_or (set counts s (get_or counts s 0 + 1)) k 0) same in
        let own = ap (λ (k : ℕ). get_or counts k 0) same in
        omega arith)
        (λ (other : t ≡ s → ⊥).
        let none = placed-none t s (λ e. other (sym e)) in
        let kept = get_or-set_other counts s t (get_or counts s 0 + 1) 0 other in
        omega arith)
        (cases_eq t s);
  }

-- with an operation itself counted in, its vector is at most the running counts exactly where all others that it counts
-- were named
module _ (v : Counts) (list : List ℕ) (i n : ℕ) (o : OpId) (stands : StandsAt (named list) i o) (counts : List ℕ) (at : AreCountsAt list (i + 1) n counts) where
  pub after_from_within : ((s : ℕ) → count v o s ≤ get_or counts s 0) → (a : OpId) → IsCounted v o a → a ≢ o → StandsBefore (named list) i a
  after_from_within within a counts_a apart =
      let is = named_is list i o stands in
      let index = is.1 in
      let next = placed-next a.session list i o.session is.0 in
      let now = at.each a.session in
      let most = within a.session in
      before_from_counted list i a (
      ⊎_elim
      (λ (same : a.session ≡ o.session).
      let one = placed-one a.session o.session (sym same) in
      let own = ap (λ (s : ℕ). placed (take i list) s) same in
      ⊎_elim
      (λ (equal : a.index ≡ o.index). absurd (apart (same_op a o same equal)))
      (λ (other : a.index ≡ o.index → ⊥). omega arith)
      (cases_eq a.index o.index))
      (λ (other : a.session ≡ o.session → ⊥).
      let none = placed-none a.session o.session (λ e. other (sym e)) in
      omega arith)
      (cases_eq a.session o.session))

  pub within_from_after : ((a : OpId) → IsCounted v o a → a ≢ o → StandsBefore (named list) i a) → (s : ℕ) → count v o s ≤ get_or counts s 0
  within_from_after after s =
      let is = named_is list i o stands in
      let index = is.1 in
      let next = placed-next s list i o.session is.0 in
      let now = at.each s in
      ⊎_elim
      (λ (below : get_or counts s 0 < count v o s).
      let apart : op s (get_or counts s 0) ≢ o = λ e.
      let same : s ≡ o.session = ap (λ (x : OpId). x.session) e in
      let equal : get_or counts s 0 ≡ o.index = ap (λ (x : OpId). x.index) e in
      let one = placed-one s o.session (sym same) in
      let own = ap (λ (t : ℕ). placed (take i list) t) same in
      omega arith in
      let before = counted_from_before list i (op s (get_or counts s 0)) (after (op s (get_or counts s 0)) below apart) in
      let up_to = placed-up list i (i + 1) s (omega arith) in
      absurd (omega arith))
      (λ (most : count v o s ≤ get_or counts s 0). most)
      (cases_lt (get_or counts s 0) (count v o s))

-- the next operation of a session, where the list names it
module _ {S C R : Type 0} (h : HistoryValue S C R) (v : Counts) (list : List ℕ) (i s : ℕ) (here : slice_get list i ≡ Some s) (counts : List ℕ) (at : AreCountsAt list i (length h.1) counts) where
  pub naming-absent : ¬ IsOp h (op s (get_or counts s 0)) → ¬ IsNamedWell h v list i
  naming-absent absent = λ well.
      absent (well.existing (op s (get_or counts s 0)) (next_stands list i (length h.1) s here counts at))

  module _ (o : OpId) (is : o ≡ op s (get_or counts s 0)) (is_op : IsOp h o) (later : List ℕ) (counted : later ≡ set counts s (get_or counts s 0 + 1)) where
    pub named_here : StandsAt (named list) i o
    named_here = subst (λ (x : OpId). StandsAt (named list) i x) (sym is) (next_stands list i (length h.1) s here counts at)

    only_here : (x : OpId) → StandsAt (named list) i x → o ≡ x
    only_here x there = is ∙ next_is list i (length h.1) s here counts at x there

    pub counting : AreCountsAt list (i + 1) (length h.1) later
    counting =
        let inside = session-of_history h o is_op in
        let same : o.session ≡ s = ap (λ (x : OpId). x.session) is in
        subst (AreCountsAt list (i + 1) (length h.1)) (sym counted) (counted_in list i (length h.1) s here counts at (omega arith))

    pub naming-well : ((a : OpId) → IsCounted v o a → a ≢ o → StandsBefore (named list) i a) → IsNamedWell h v list i
    naming-well after = record {
      existing = λ x there. subst (IsOp h) (only_here x there) is_op;
      after_counted = λ x a there.
          subst (λ (y : OpId). IsCounted v y a → a ≢ y → StandsBefore (named list) i a) (only_here x there) (after a);
    }

-- the number that the running counts have counted last
module _ (list : List ℕ) (i n s : ℕ) (here : slice_get list i ≡ Some s) (counts : List ℕ) (at : AreCountsAt list (i + 1) n counts) where
  last_counted : 1 ≤ get_or counts s 0
  last_counted =
      let next = placed-next s list i s here in
      let one = placed-one s s refl in
      let now = at.each s in
      omega arith

  last_inside : s < length counts
  last_inside = ⊎_elim
      (λ (inside : s < length counts). inside)
      (λ (past : length counts ≤ s).
      let none = get_or_past counts s 0 past in
      let counted = last_counted in
      absurd (omega arith))
      (cases_lt s (length counts))

  counted_off : AreCountsAt list i n (set counts s (get_or counts s 0 - 1))
  counted_off = record {
    width = length-set counts s (get_or counts s 0 - 1) ∙ at.width;
    each = λ t.
        let inside = last_inside in
        let counted = last_counted in
        let now = at.each t in
        let next = placed-next t list i s here in
        ⊎_elim
        (λ (same : t ≡ s).
        let one = placed-one t s (sym same) in
        let lowered = get_or-set_same counts s (get_or counts s 0 - 1) 0 inside in
        let place = ap (λ (k : ℕ). get_or (set counts s (get_or counts s 0 - 1)) k 0) same in
        let own = ap (λ (k : ℕ). get_or counts k 0) same in
        omega arith)
        (λ (other : t ≡ s → ⊥).
        let none = placed-none t s (λ e. other (sym e)) in
        let kept = get_or-set_other counts s t (get_or counts s 0 - 1) 0 other in
        omega arith)
        (cases_eq t s);
  }

-- one step back from a place of a list
module _ (list : List ℕ) (k n s : ℕ) (past_start : 0 < k) (within : k ≤ length list) (is : s ≡ get_or list (k - 1) 0) (counts : List ℕ) (at : AreCountsAt list k n counts) where
  there : slice_get list (k - 1) ≡ Some s
  there = slice_get-get_or list (k - 1) 0 (omega arith) ∙ ap (λ (t : ℕ). Some t) (sym is)

  before_it : AreCountsAt list ((k - 1) + 1) n counts
  before_it = let again : k ≡ (k - 1) + 1 = omega arith in subst (λ (j : ℕ). AreCountsAt list j n counts) again at

  pub back_counted : 1 ≤ get_or counts s 0
  back_counted = last_counted list (k - 1) n s there counts before_it

  pub back_inside : s < length counts
  back_inside = last_inside list (k - 1) n s there counts before_it

  pub counting_back : (m : ℕ) → m ≡ get_or counts s 0 → AreCountsAt list (k - 1) n (set counts s (m - 1))
  counting_back m same = subst (λ (c : ℕ). AreCountsAt list (k - 1) n (set counts s (c - 1))) (sym same) (counted_off list (k - 1) n s there counts before_it)

-- what stands at the place before one
module _ (list : List ℕ) (i n s : ℕ) (within : i < length list) (is : s ≡ get_or list i 0) (counts : List ℕ) (at : AreCountsAt list (i + 1) n counts) where
  stands_here : slice_get list i ≡ Some s
  stands_here = slice_get-get_or list i 0 within ∙ ap (λ (t : ℕ). Some t) (sym is)

  pub session_inside : s < length counts
  session_inside = last_inside list i n s stands_here counts at

  pub session_counted : 1 ≤ get_or counts s 0
  session_counted = last_counted list i n s stands_here counts at

  module _ (later : List ℕ) (off : later ≡ set counts s (get_or counts s 0 - 1)) where
    pub counts_here : AreCountsAt list i n later
    counts_here = subst (AreCountsAt list i n) (sym off) (counted_off list i n s stands_here counts at)

    pub named_last : StandsAt (named list) i (op s (get_or later s 0))
    named_last = next_stands list i n s stands_here later counts_here

-- an operation that is named up to a place, but not there, is named before it
pub named_before : (list : List ℕ) (i : ℕ) (next o : OpId) → StandsAt (named list) i next → next ≢ o
    → o.index < placed (take (i + 1) list) o.session → o.index < placed (take i list) o.session
named_before list i next o stands apart named_by =
    let is = named_is list i next stands in
    let index = is.1 in
    let one_more = placed-next o.session list i next.session is.0 in
    ⊎_elim
    (λ (same : next.session ≡ o.session).
    let one = placed-one o.session next.session same in
    let own = ap (λ (t : ℕ). placed (take i list) t) same in
    ⊎_elim
    (λ (equal : next.index ≡ o.index). absurd (apart (same_op next o same equal)))
    (λ (other : next.index ≡ o.index → ⊥). omega arith)
    (cases_eq next.index o.index))
    (λ (other : next.session ≡ o.session → ⊥). let none = placed-none o.session next.session other in omega arith)
    (cases_eq next.session o.session)

-- two lists with the same front and the same block behind it
pub take_block : (xs ys : List ℕ) (n m : ℕ) → n + m ≤ length xs → n + m ≤ length ys → take n xs ≡ take n ys
    → ((k : ℕ) → n ≤ k → k < n + m → slice_get xs k ≡ slice_get ys k) → take (n + m) xs ≡ take (n + m) ys
take_block xs ys n zero long also same each =
    let none : n + 0 ≡ n = omega arith in
    subst (λ (k : ℕ). take k xs ≡ take k ys) (sym none) same
take_block xs ys n (suc m) long also same each =
    let next : n + suc m ≡ (n + m) + 1 = omega arith in
    let front = take_block xs ys n m (omega arith) (omega arith) same (λ k from below. each k from (omega arith)) in
    let x = get_or xs (n + m) 0 in
    let here : slice_get xs (n + m) ≡ Some x = slice_get-get_or xs (n + m) 0 (omega arith) in
    let there : slice_get ys (n + m) ≡ Some x = sym (each (n + m) (omega arith) (omega arith)) ∙ here in
    subst (λ (k : ℕ). take k xs ≡ take k ys) (sym next)
    (take_next xs (n + m) x here ∙ ap (λ (zs : List ℕ). zs ++ x ∷ []) front ∙ sym (take_next ys (n + m) x there))

-- two lists with the same front name the same operations in it
module _ (xs ys : List ℕ) (n : ℕ) (same : take n xs ≡ take n ys) where
  pub stands_in_front : (k : ℕ) (o : OpId) → k < n → StandsAt (named xs) k o → StandsAt (named ys) k o
  stands_in_front k o below there =
      let front = take-stands n (named xs) k o below there in
      let shared : take n (named xs) ≡ take n (named ys) = take-named xs n ∙ ap named same ∙ sym (take-named ys n) in
      (take-from n (named ys) k o (subst (λ (ops : List OpId). StandsAt ops k o) shared front)).1

  pub counts_in_front : (m : ℕ) (counts : List ℕ) → AreCountsAt xs n m counts → AreCountsAt ys n m counts
  counts_in_front m counts at = record {
    width = at.width;
    each = λ s. at.each s ∙ ap (λ (zs : List ℕ). placed zs s) same;
  }

module _ {S C R : Type 0} (h : HistoryValue S C R) (v : Counts) (xs ys : List ℕ) (n : ℕ) (same : take n xs ≡ take n ys) where
  -- and name them as well
  pub well_in_front : n ≤ length xs → AreNamedWell h v xs (length xs) → AreNamedWell h v ys n
  well_in_front within well = record {
    each = λ j below. let there = well.each j (omega arith) in record {
      existing = λ o stands. there.existing o (stands_in_front ys xs n (sym same) j o below stands);
      after_counted = λ o a stands counts apart.
          let r = there.after_counted o a (stands_in_front ys xs n (sym same) j o below stands) counts apart in
          let up = r.1 in
          (r.0, r.1, stands_in_front xs ys n same r.0 a (omega arith) r.2);
    };
  }
