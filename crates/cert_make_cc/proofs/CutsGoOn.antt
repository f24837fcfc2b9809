-- A cut of a walk that goes on from a cut to other limits.
use Rattle.std.specs.Prelude.{◌≡◌, ◌≢◌, ℕ, ◌+◌, ◌<◌, ◌≤◌, List, [], ◌∷◌, ◌++◌, length, take, Some, slice_get}
use Rattle.std.proofs.Common.{zero, suc, arith, get_or, inl, inr, refl, sym, ap, subst, subst₂, ◌∙◌, ⊎_elim, take_all, length-take, ◌⊎◌}
use Rattle.std.proofs.Math.Seq.{take-length}
use Rattle.std.proofs.lemmas.Bool.{cases_lt, cases_eq}
use Rattle.std.proofs.lemmas.List.{get_or_append_left, get_or_push, get_or-take, length_push, take-append-le}
use Rattle.std.proofs.lemmas.Option.{same_Some, slice_get-get_or, slice_get_within}
use Rattle.order_causal.specs.Schedules.{placed}
use Rattle.order_causal.specs.Vectors.{Counts}
use Rattle.order_causal.proofs.Fronts.{front-take, take-from, take-stands}
use Rattle.order_causal.proofs.Placed.{placed-up}
use Rattle.order_causal.proofs.TopologicalLaws.{placed-same}
use Rattle.cert_check.proofs.Named.{take_next}
use Rattle.cert_make_cc.proofs.CutWalks.{IsCutAt, cut_none, cut_placed, cut_skipped}
use Rattle.cert_make_cc.specs.Steps.Cuts.{AgreeUpTo, AreClosed, IsCut, IsWalkOfAll}

-- what is put behind a list stands there
pushed-last : (xs : List ℕ) (x : ℕ) → slice_get (xs ++ x ∷ []) (length xs) ≡ Some x
pushed-last [] x = refl
pushed-last (y ∷ ys) x = pushed-last ys x

module _ (whole limits starts schedule : List ℕ) (cut : IsCut whole limits starts schedule) where
  -- the operation at a place is placed behind so many, or left out
  module _ (i : ℕ) (below : i + 1 < length starts) where
    named : slice_get whole i ≡ Some (get_or whole i 0)
    named = let within = cut.within in slice_get-get_or whole i 0 (omega arith)

    start-rises : get_or starts i 0 ≤ get_or starts (i + 1) 0
    start-rises =
        let s : ℕ = get_or whole i 0 in
        ⊎_elim
        (λ (free : placed (take i whole) s < get_or limits s 0). let more = (cut.kept i s below named free).1 in omega arith)
        (λ (reached : get_or limits s 0 ≤ placed (take i whole) s). let same = cut.left_out i s below named reached in omega arith)
        (cases_lt (placed (take i whole) s) (get_or limits s 0))

    start-inside : get_or starts i 0 ≤ length schedule → get_or starts (i + 1) 0 ≤ length schedule
    start-inside before =
        let s : ℕ = get_or whole i 0 in
        ⊎_elim
        (λ (free : placed (take i whole) s < get_or limits s 0).
        let next = cut.kept i s below named free in
        let more = next.1 in
        let inside = slice_get_within schedule (get_or starts i 0) s next.0 in
        omega arith)
        (λ (reached : get_or limits s 0 ≤ placed (take i whole) s). let same = cut.left_out i s below named reached in omega arith)
        (cases_lt (placed (take i whole) s) (get_or limits s 0))

  -- the starts rise
  pub starts-rise : (j i : ℕ) → i ≤ j → j < length starts → get_or starts i 0 ≤ get_or starts j 0
  starts-rise zero i up_to inside = let none : i ≡ 0 = omega arith in subst (λ (n : ℕ). get_or starts n 0 ≤ get_or starts zero 0) (sym none) (omega arith)
  starts-rise (suc j) i up_to inside = ⊎_elim
      (λ (last : i ≡ suc j). subst (λ (n : ℕ). get_or starts n 0 ≤ get_or starts (suc j) 0) (sym last) (omega arith))
      (λ (apart : i ≢ suc j).
      let one : j + 1 ≡ suc j = omega arith in
      let before = starts-rise j i (omega arith) (omega arith) in
      let next = start-rises j (omega arith) in
      subst (λ (n : ℕ). get_or starts i 0 ≤ get_or starts n 0) one (omega arith))
      (cases_eq i (suc j))

  -- up to what is placed
  pub starts-inside : (i : ℕ) → i < length starts → get_or starts i 0 ≤ length schedule
  starts-inside zero inside = let first = cut.first in omega arith
  starts-inside (suc i) inside =
      let one : i + 1 ≡ suc i = omega arith in
      subst (λ (n : ℕ). get_or starts n 0 ≤ length schedule) one (start-inside i (omega arith) (starts-inside i (omega arith)))

  -- what is placed before the i-th start is what is cut from the first i operations
  module _ (v : Counts) (all : IsWalkOfAll v whole) (closed : AreClosed v limits) where
    module _ (i : ℕ) (below : i + 1 < length starts) (at : IsCutAt v whole limits i (take (get_or starts i 0) schedule)) where
      cut-next : IsCutAt v whole limits (i + 1) (take (get_or starts (i + 1) 0) schedule)
      cut-next =
          let s : ℕ = get_or whole i 0 in
          let here = named i below in
          let counts = at.counts s in
          ⊎_elim
          (λ (free : placed (take i whole) s < get_or limits s 0).
          let next = cut.kept i s below here free in
          let more : take (get_or starts (i + 1) 0) schedule ≡ take (get_or starts i 0) schedule ++ s ∷ [] =
          ap (λ (n : ℕ). take n schedule) next.1 ∙ take_next schedule (get_or starts i 0) s next.0 in
          subst (IsCutAt v whole limits (i + 1)) (sym more)
          (cut_placed v whole all limits closed i s here (take (get_or starts i 0) schedule) at (omega arith)))
          (λ (reached : get_or limits s 0 ≤ placed (take i whole) s).
          let same = ap (λ (n : ℕ). take n schedule) (cut.left_out i s below here reached) in
          subst (IsCutAt v whole limits (i + 1)) (sym same)
          (cut_skipped v whole all limits closed i s here (take (get_or starts i 0) schedule) at (omega arith)))
          (cases_lt (placed (take i whole) s) (get_or limits s 0))

    pub cut_at : (i : ℕ) → i < length starts → IsCutAt v whole limits i (take (get_or starts i 0) schedule)
    cut_at zero inside =
        let none = ap (λ (n : ℕ). take n schedule) cut.first in
        subst (IsCutAt v whole limits 0) (sym none) (cut_none v whole all limits closed)
    cut_at (suc i) inside =
        let one : i + 1 ≡ suc i = omega arith in
        subst (λ (n : ℕ). IsCutAt v whole limits n (take (get_or starts n 0) schedule)) one
        (cut-next i (omega arith) (cut_at i (omega arith)))

    -- and at the last start it is all
    pub cut_now : (i : ℕ) → i < length starts → length schedule ≡ get_or starts i 0 → IsCutAt v whole limits i schedule
    cut_now i inside end =
        let every : take (get_or starts i 0) schedule ≡ schedule = take_all (get_or starts i 0) schedule (omega arith) in
        subst (IsCutAt v whole limits i) every (cut_at i inside)

  -- what comes behind the cut changes nothing
  pub cut_behind : (longer : List ℕ) → take (length schedule) longer ≡ schedule → IsCut whole limits starts longer
  cut_behind longer extends = record {
    begins = cut.begins;
    within = cut.within;
    first = cut.first;
    kept = λ i s below here free.
        let next = cut.kept i s below here free in (
          (take-from (length schedule) longer (get_or starts i 0) s (subst (λ (xs : List ℕ). slice_get xs (get_or starts i 0) ≡ Some s) (sym extends) next.0)).1,
          next.1,
        );
    left_out = cut.left_out;
  }

  -- one operation more of the whole walk is looked at
  module _ (i s : ℕ) (last : i + 1 ≡ length starts) (end : length schedule ≡ get_or starts i 0) (here : slice_get whole i ≡ Some s)
      (longer : List ℕ) (free : placed (take i whole) s < get_or limits s 0 → longer ≡ schedule ++ s ∷ [])
      (reached : get_or limits s 0 ≤ placed (take i whole) s → longer ≡ schedule) where
    extends : take (length schedule) longer ≡ schedule
    extends = ⊎_elim
        (λ (below : placed (take i whole) s < get_or limits s 0).
        ap (λ (xs : List ℕ). take (length schedule) xs) (free below)
        ∙ take-append-le (length schedule) schedule (s ∷ []) (omega arith)
        ∙ take-length schedule)
        (λ (over : get_or limits s 0 ≤ placed (take i whole) s).
        ap (λ (xs : List ℕ). take (length schedule) xs) (reached over) ∙ take-length schedule)
        (cases_lt (placed (take i whole) s) (get_or limits s 0))

    abbrev more : List ℕ
    more = starts ++ length longer ∷ []

    before : (j : ℕ) → j < length starts → get_or more j 0 ≡ get_or starts j 0
    before j inside = get_or_append_left starts (length longer ∷ []) 0 j inside

    starts-size : length (starts ++ length longer ∷ []) ≡ i + 1 + 1
    starts-size = let size = length_push starts (length longer) in omega arith

    starts-end : get_or (starts ++ length longer ∷ []) (i + 1) 0 ≡ length longer
    starts-end = get_or_push starts (length longer) 0 (i + 1) (sym last)

    cut_longer : IsCut whole limits (starts ++ length longer ∷ []) longer
    cut_longer = record {
      begins = let size = length_push starts (length longer) in omega arith;
      within = let size = length_push starts (length longer) in let inside = slice_get_within whole i s here in omega arith;
      first = before 0 cut.begins ∙ cut.first;
      kept = λ j t below there kept.
          let size = length_push starts (length longer) in
          let start = before j (omega arith) in
          ⊎_elim
          (λ (same : j ≡ i).
          let there_i : slice_get whole i ≡ Some t = subst (λ (n : ℕ). slice_get whole n ≡ Some t) same there in
          let is : s ≡ t = same_Some s t (sym here ∙ there_i) in
          let kept_i : placed (take i whole) s < get_or limits s 0 =
          subst₂ (λ (n r : ℕ). placed (take n whole) r < get_or limits r 0) same (sym is) kept in
          let grown = free kept_i in
          let at : get_or more i 0 ≡ length schedule = before i (omega arith) ∙ sym end in
          let found : slice_get longer (length schedule) ≡ Some s =
          ap (λ (xs : List ℕ). slice_get xs (length schedule)) grown ∙ pushed-last schedule s in
          let long : length longer ≡ length schedule + 1 = ap (λ (xs : List ℕ). length xs) grown ∙ length_push schedule s in
          let both : (slice_get longer (get_or more i 0) ≡ Some s) × (get_or more (i + 1) 0 ≡ get_or more i 0 + 1) =
          (ap (λ (n : ℕ). slice_get longer n) at ∙ found, let end_now = starts-end in omega arith) in
          subst₂ (λ (n r : ℕ). (slice_get longer (get_or more n 0) ≡ Some r) × (get_or more (n + 1) 0 ≡ get_or more n 0 + 1)) (sym same) is both)
          (λ (apart : j ≢ i).
          let next = (cut_behind longer extends).kept j t (omega arith) there kept in
          let after = before (j + 1) (omega arith) in
          let rises = next.1 in
          (ap (λ (n : ℕ). slice_get longer n) start ∙ next.0, omega arith))
          (cases_eq j i);
      left_out = λ j t below there over.
          let size = length_push starts (length longer) in
          let start = before j (omega arith) in
          ⊎_elim
          (λ (same : j ≡ i).
          let there_i : slice_get whole i ≡ Some t = subst (λ (n : ℕ). slice_get whole n ≡ Some t) same there in
          let is : s ≡ t = same_Some s t (sym here ∙ there_i) in
          let over_i : get_or limits s 0 ≤ placed (take i whole) s =
          subst₂ (λ (n r : ℕ). get_or limits r 0 ≤ placed (take n whole) r) same (sym is) over in
          let long : length longer ≡ length schedule = ap (λ (xs : List ℕ). length xs) (reached over_i) in
          let at : get_or more i 0 ≡ length schedule = before i (omega arith) ∙ sym end in
          let none : get_or more (i + 1) 0 ≡ get_or more i 0 = let end_now = starts-end in omega arith in
          subst (λ (n : ℕ). get_or more (n + 1) 0 ≡ get_or more n 0) (sym same) none)
          (λ (apart : j ≢ i).
          let same = cut.left_out j t (omega arith) there over in
          let after = before (j + 1) (omega arith) in
          omega arith)
          (cases_eq j i);
    }

    -- behind the starts stands how many are placed then
    pub cut_more : (items : List ℕ) → items ≡ starts ++ length longer ∷ []
        → IsCut whole limits items longer × (length items ≡ i + 1 + 1) × (length longer ≡ get_or items (i + 1) 0)
    cut_more items is = (
      subst (λ (xs : List ℕ). IsCut whole limits xs longer) (sym is) cut_longer,
      ap (λ (xs : List ℕ). length xs) is ∙ starts-size,
      sym (ap (λ (xs : List ℕ). get_or xs (i + 1) 0) is ∙ starts-end),
    )

  -- other limits that agree up to a place: up to there the cut is one to them
  module _ (others : List ℕ) (n : ℕ) (inside : n < length starts) (agree : AgreeUpTo whole limits others n) where
    -- what stands there is below both limits, or they are the same
    both-below : (i s : ℕ) → i < n → slice_get whole i ≡ Some s
        → (get_or limits s 0 ≡ get_or others s 0) ⊎ ((placed (take i whole) s < get_or limits s 0) × (placed (take i whole) s < get_or others s 0))
    both-below i s below here = ⊎_elim
        (λ (same : get_or limits s 0 ≡ get_or others s 0). inl same)
        (λ (apart : get_or limits s 0 ≢ get_or others s 0).
        let bound = agree s apart in
        let up = placed-up whole (i + 1) n s (omega arith) in
        let next : placed (take (i + 1) whole) s ≡ placed (take i whole) s + 1 =
        ap (λ (xs : List ℕ). placed xs s) (take_next whole i s here) ∙ placed-same (take i whole) s in
        inr (omega arith, omega arith))
        (cases_eq (get_or limits s 0) (get_or others s 0))

    pub cut_back : IsCut whole others (take (n + 1) starts) (take (get_or starts n 0) schedule)
    cut_back = record {
      begins = let size = length-take (n + 1) starts in omega arith;
      within = let size = length-take (n + 1) starts in let within = cut.within in omega arith;
      first = get_or-take (n + 1) starts 0 0 (omega arith) ∙ cut.first;
      kept = λ i s below here free.
          let size = length-take (n + 1) starts in
          let both = both-below i s (omega arith) here in
          let was : placed (take i whole) s < get_or limits s 0 = ⊎_elim
          (λ (same : get_or limits s 0 ≡ get_or others s 0). omega arith)
          (λ (each : (placed (take i whole) s < get_or limits s 0) × (placed (take i whole) s < get_or others s 0)). each.0)
          both in
          let next = cut.kept i s (omega arith) here was in
          let start = get_or-take (n + 1) starts i 0 (omega arith) in
          let after = get_or-take (n + 1) starts (i + 1) 0 (omega arith) in
          let rises = next.1 in
          let up = starts-rise n (i + 1) (omega arith) inside in (
            ap (λ (k : ℕ). slice_get (take (get_or starts n 0) schedule) k) start
                ∙ take-stands (get_or starts n 0) schedule (get_or starts i 0) s (omega arith) next.0,
            omega arith,
          );
      left_out = λ i s below here over.
          let size = length-take (n + 1) starts in
          let both = both-below i s (omega arith) here in
          let was : get_or limits s 0 ≤ placed (take i whole) s = ⊎_elim
          (λ (same : get_or limits s 0 ≡ get_or others s 0). omega arith)
          (λ (each : (placed (take i whole) s < get_or limits s 0) × (placed (take i whole) s < get_or others s 0)). absurd (let less = each.1 in omega arith))
          both in
          let same = cut.left_out i s (omega arith) here was in
          let start = get_or-take (n + 1) starts i 0 (omega arith) in
          let after = get_or-take (n + 1) starts (i + 1) 0 (omega arith) in
          omega arith;
    }

    -- and no more is placed
    pub back-end : length (take (get_or starts n 0) schedule) ≡ get_or (take (n + 1) starts) n 0
    back-end =
        let size = length-take (get_or starts n 0) schedule in
        let up_to = starts-inside n inside in
        let start = get_or-take (n + 1) starts n 0 (omega arith) in
        omega arith

-- what goes on from a schedule with one operation more goes on from it
pub behind-push : (schedule longer : List ℕ) (s : ℕ) → take (length (schedule ++ s ∷ [])) longer ≡ schedule ++ s ∷ [] → take (length schedule) longer ≡ schedule
behind-push schedule longer s extends =
    let size = length_push schedule s in
    front-take (schedule ++ s ∷ []) longer extends (length schedule) (omega arith)
    ∙ take-append-le (length schedule) schedule (s ∷ []) (omega arith)
    ∙ take-length schedule

-- limits that agree up to a place agree up to an earlier one
pub agree-before : (whole limits others : List ℕ) (m n : ℕ) → m ≤ n → AgreeUpTo whole limits others n → AgreeUpTo whole limits others m
agree-before whole limits others m n up_to agree = λ s apart.
    let bound = agree s apart in
    let fewer = placed-up whole m n s up_to in
    omega arith
