-- What is told of a list of faults, with one fault more.
use Rattle.std.specs.Prelude.{◌≡◌, ◌≢◌, ◌⊎◌, ℕ, ◌+◌, ◌-◌, ◌<◌, ◌≤◌, List, [], ◌∷◌, ◌++◌}
use Rattle.std.specs.Prelude.{Bool, true, false, length, Some, slice_get, slice_index_or, slice_set, take}
use Rattle.std.specs.List.{filter}
use Rattle.std.proofs.Common.{arith, refl, ap, sym, ◌∙◌, subst, inl, inr, ⊎_elim, take_all, length-append}
use Rattle.std.proofs.lemmas.Bool.{cases_eq, eq-eqb, ne_eqb}
use Rattle.std.proofs.lemmas.List.{append-nil, length-take, length_push}
use Rattle.std.proofs.lemmas.List.Elements.{filter-append}
use Rattle.std.proofs.lemmas.List.Sums.{count_by-le-length, length-filter}
use Rattle.std.proofs.lemmas.Option.{same_Some, slice_get-get_or, slice_get_within}
use Rattle.show_faults.specs.declared.counts.FaultCounts.{FaultCounts}
use Rattle.show_faults.specs.declared.counts.SessionFaults.{SessionFaults}
use Rattle.show_faults.specs.declared.fault.Fault.{Fault}
use Rattle.show_faults.specs.Faults.{IsListed, read_of}
use Rattle.show_faults.specs.Tallies.{AreCounts, AreSessionCounts, IsBelow, is_of, is_read, is_start, is_thin_air}
use Rattle.show_faults.proofs.Pushes.{filter-nothing, push-cases, push-end, push-still, set-other, set-same}

filter-short : (p : Fault → Bool) (all : List Fault) → length (filter p all) ≤ length all
filter-short p all = let same = length-filter p all in let few = count_by-le-length p all in omega arith

-- the counts of no more faults than these are below a greater number
pub counts-below : (all : List Fault) (counts : FaultCounts) (n : ℕ) → AreCounts all counts → length all < n → IsBelow counts n
counts-below all counts n are few =
    let thin_air = filter-short is_thin_air all in
    let start = filter-short is_start all in
    let read = filter-short is_read all in
    let a = are.thin_air in
    let b = are.start in
    let c = are.read in
    record { thin_air = omega arith; start = omega arith; read = omega arith }

-- and those of the rows
pub rows-below : (all : List Fault) (rows : List SessionFaults) (n : ℕ) → AreSessionCounts all rows → length all < n
    → (j : ℕ) (row : SessionFaults) → slice_get rows j ≡ Some row → IsBelow row.counts n
rows-below all rows n are few j row at =
    let short = filter-short (is_of row.session) all in
    counts-below (filter (is_of row.session) all) row.counts n (are.counts j row at) (omega arith)

-- one fault more is counted
pub how-many-more : (p : Fault → Bool) (all : List Fault) (f : Fault)
    → length (filter p (all ++ f ∷ [])) ≡ length (filter p all) + length (filter p (f ∷ []))
how-many-more p all f = ap length (filter-append p all (f ∷ [])) ∙ length-append (filter p all) (filter p (f ∷ []))

pub counts-more : (all : List Fault) (f : Fault) (counts made : FaultCounts)
    → made.thin_air ≡ counts.thin_air + length (filter is_thin_air (f ∷ []))
    → made.start ≡ counts.start + length (filter is_start (f ∷ []))
    → made.read ≡ counts.read + length (filter is_read (f ∷ []))
    → AreCounts all counts → AreCounts (all ++ f ∷ []) made
counts-more all f counts made thin_air start read are =
    let a = how-many-more is_thin_air all f in
    let b = how-many-more is_start all f in
    let c = how-many-more is_read all f in
    let d = are.thin_air in
    let e = are.start in
    let g = are.read in
    record { thin_air = omega arith; start = omega arith; read = omega arith }

-- the first ones, with one more
pub taken-more : (most : ℕ) (all listed : List Fault) (f : Fault) → length listed < most → listed ≡ take most all
    → listed ++ f ∷ [] ≡ take most (all ++ f ∷ [])
taken-more most all listed f room same =
    let size : length listed ≡ length (take most all) = ap length same in
    let short = length-take most all in
    let whole : take most all ≡ all = take_all most all (omega arith) in
    let long = length_push all f in
    ap (λ (xs : List Fault). xs ++ f ∷ []) (same ∙ whole) ∙ sym (take_all most (all ++ f ∷ []) (omega arith))

module _ (all : List Fault) (f : Fault) where
  abbrev s : ℕ
  s = (read_of f).session

  abbrev whole : List Fault
  whole = all ++ f ∷ []

  of-other : (t : ℕ) → s ≢ t → filter (is_of t) whole ≡ filter (is_of t) all
  of-other t apart =
      let fails : is_of t f ≡ false = ne_eqb s t apart in
      let none : filter (is_of t) (f ∷ []) ≡ [] = rw fails in
      filter-append (is_of t) all (f ∷ []) ∙ ap (λ (xs : List Fault). filter (is_of t) all ++ xs) none
      ∙ append-nil (filter (is_of t) all)

  of-this : (t : ℕ) → s ≡ t → filter (is_of t) whole ≡ filter (is_of t) all ++ f ∷ []
  of-this t same =
      let passes : is_of t f ≡ true = eq-eqb s t same in
      let one : filter (is_of t) (f ∷ []) ≡ f ∷ [] = rw passes in
      filter-append (is_of t) all (f ∷ []) ∙ ap (λ (xs : List Fault). filter (is_of t) all ++ xs) one

  still : (g : Fault) → IsListed all g → IsListed whole g
  still g (k, at) = (k, push-still all f k g at)

  itself : IsListed whole f
  itself = (length all, push-end all f)

  listed-cases : (g : Fault) → IsListed whole g → IsListed all g ⊎ (f ≡ g)
  listed-cases g (k, at) = ⊎_elim
      (λ (old : slice_get all k ≡ Some g). inl (k, old))
      (λ (new : (k ≡ length all) × (f ≡ g)). inr new.1)
      (push-cases all f k g at)

  module _ (rows : List SessionFaults) (are : AreSessionCounts all rows) where
    -- the row of its session is the last one
    module _ (place : ℕ) (row made : SessionFaults) (at_end : length rows ≡ place + 1) (at : slice_get rows place ≡ Some row)
        (of_session : row.session ≡ s) (kept : made.session ≡ row.session)
        (counted : (xs : List Fault) → AreCounts xs row.counts → AreCounts (xs ++ f ∷ []) made.counts) where
      abbrev raised : List SessionFaults
      raised = slice_set rows place made

      raised-here : slice_get raised place ≡ Some made
      raised-here = set-same rows place made (omega arith)

      raised-other : (j : ℕ) → j ≢ place → slice_get raised j ≡ slice_get rows j
      raised-other j apart = set-other rows place j made apart

      raised-cases : (j : ℕ) (r : SessionFaults) → slice_get raised j ≡ Some r
          → ((j ≡ place) × (r ≡ made)) ⊎ ((j ≢ place) × (slice_get rows j ≡ Some r))
      raised-cases j r at_j = ⊎_elim
          (λ (here : j ≡ place). inl (here, same_Some r made (sym at_j ∙ ap (slice_get raised) here ∙ raised-here)))
          (λ (apart : j ≢ place). inr (apart, sym (raised-other j apart) ∙ at_j))
          (cases_eq j place)

      -- each row is as it was, but for its counts
      was-row : (j : ℕ) (r : SessionFaults) → slice_get raised j ≡ Some r
          → (q : SessionFaults) × (slice_get rows j ≡ Some q) × (r.session ≡ q.session)
      was-row j r at_j = ⊎_elim
          (λ (here : (j ≡ place) × (r ≡ made)). (row, ap (slice_get rows) here.0 ∙ at, ap (λ (q : SessionFaults). q.session) here.1 ∙ kept))
          (λ (old : (j ≢ place) × (slice_get rows j ≡ Some r)). (r, old.1, refl))
          (raised-cases j r at_j)

      is-row : (j : ℕ) (q : SessionFaults) → slice_get rows j ≡ Some q
          → (r : SessionFaults) × (slice_get raised j ≡ Some r) × (r.session ≡ q.session)
      is-row j q at_j = ⊎_elim
          (λ (here : j ≡ place).
          let one = same_Some row q (sym at ∙ sym (ap (slice_get rows) here) ∙ at_j) in
          (made, ap (slice_get raised) here ∙ raised-here, kept ∙ ap (λ (r : SessionFaults). r.session) one))
          (λ (apart : j ≢ place). (q, raised-other j apart ∙ at_j, refl))
          (cases_eq j place)

      pub rows-raised : AreSessionCounts whole raised
      rows-raised = record {
        each = λ g listed. ⊎_elim
            (λ (old : IsListed all g).
            let was = are.each g old in
            let now = is-row was.0 was.1 was.2 in
            (was.0, now.0, now.1, now.2 ∙ was.3))
            (λ (same : f ≡ g). (place, made, raised-here, kept ∙ of_session ∙ ap (λ (e : Fault). (read_of e).session) same))
            (listed-cases g listed);
        counts = λ j r at_j. ⊎_elim
            (λ (here : (j ≡ place) × (r ≡ made)).
            subst (λ (q : SessionFaults). AreCounts (filter (is_of q.session) whole) q.counts) (sym here.1)
            (subst (λ (xs : List Fault). AreCounts xs made.counts)
            (sym (of-this made.session (sym of_session ∙ sym kept) ∙ ap (λ (n : ℕ). filter (is_of n) all ++ f ∷ []) kept))
            (counted (filter (is_of row.session) all) (are.counts place row at))))
            (λ (old : (j ≢ place) × (slice_get rows j ≡ Some r)).
            let apart : s ≢ r.session = λ (same : s ≡ r.session).
            let inside = slice_get_within rows j r old.1 in
            let other = old.0 in
            let before = are.in_order j place r row (omega arith) old.1 at in
            let here = of_session in
            omega arith in
            subst (λ (xs : List Fault). AreCounts xs r.counts) (sym (of-other r.session apart)) (are.counts j r old.1))
            (raised-cases j r at_j);
        no_other = λ j r at_j.
            let was = was-row j r at_j in
            let some = are.no_other j was.0 was.1 in
            (some.0, still some.0 some.1, was.2 ∙ some.2);
        in_order = λ i j first second below at_i at_j.
            let one = was-row i first at_i in
            let two = was-row j second at_j in
            let order = are.in_order i j one.0 two.0 below one.1 two.1 in
            let first_same = one.2 in
            let second_same = two.2 in
            omega arith;
      }

    -- its session has no row
    module _ (late : (g : Fault) → IsListed all g → (read_of g).session ≤ s)
        (no_last : (j : ℕ) (row : SessionFaults) → length rows ≡ j + 1 → slice_get rows j ≡ Some row → row.session ≢ s)
        (made : SessionFaults) (of_session : made.session ≡ s) (counted : AreCounts (f ∷ []) made.counts) where
      abbrev pushed : List SessionFaults
      pushed = rows ++ made ∷ []

      before-this : (j : ℕ) (row : SessionFaults) → slice_get rows j ≡ Some row → row.session < s
      before-this j row at =
          let inside = slice_get_within rows j row at in
          let some = are.no_other j row at in
          let up_to = late some.0 some.1 in
          let same = some.2 in
          ⊎_elim
          (λ (last : length rows ≡ j + 1). let apart = no_last j row last at in omega arith)
          (λ (more : length rows ≢ j + 1).
          let end : SessionFaults = slice_index_or rows (length rows - 1) row in
          let at_end = slice_get-get_or rows (length rows - 1) row (omega arith) in
          let of_end = are.no_other (length rows - 1) end at_end in
          let end_up_to = late of_end.0 of_end.1 in
          let end_same = of_end.2 in
          let order = are.in_order j (length rows - 1) row end (omega arith) at at_end in
          omega arith)
          (cases_eq (length rows) (j + 1))

      none-here : filter (is_of s) all ≡ []
      none-here = filter-nothing (is_of s) all (λ k g at. ne_eqb (read_of g).session s (λ same.
          let some = are.each g (k, at) in
          let before = before-this some.0 some.1 some.2 in
          let of_row = some.3 in
          omega arith))

      pub rows-pushed : AreSessionCounts whole pushed
      rows-pushed = record {
        each = λ g listed. ⊎_elim
            (λ (old : IsListed all g). let was = are.each g old in (was.0, was.1, push-still rows made was.0 was.1 was.2, was.3))
            (λ (same : f ≡ g). (length rows, made, push-end rows made, of_session ∙ ap (λ (e : Fault). (read_of e).session) same))
            (listed-cases g listed);
        counts = λ j r at_j. ⊎_elim
            (λ (old : slice_get rows j ≡ Some r).
            let before = before-this j r old in
            let apart : s ≢ r.session = omega arith in
            subst (λ (xs : List Fault). AreCounts xs r.counts) (sym (of-other r.session apart)) (are.counts j r old))
            (λ (new : (j ≡ length rows) × (made ≡ r)).
            subst (λ (q : SessionFaults). AreCounts (filter (is_of q.session) whole) q.counts) new.1
            (subst (λ (n : ℕ). AreCounts (filter (is_of n) whole) made.counts) (sym of_session)
            (subst (λ (xs : List Fault). AreCounts xs made.counts)
            (sym (of-this s refl ∙ ap (λ (xs : List Fault). xs ++ f ∷ []) none-here)) counted)))
            (push-cases rows made j r at_j);
        no_other = λ j r at_j. ⊎_elim
            (λ (old : slice_get rows j ≡ Some r). let some = are.no_other j r old in (some.0, still some.0 some.1, some.2))
            (λ (new : (j ≡ length rows) × (made ≡ r)).
            (f, itself, sym (ap (λ (q : SessionFaults). q.session) new.1) ∙ of_session))
            (push-cases rows made j r at_j);
        in_order = λ i j first second below at_i at_j. ⊎_elim
            (λ (old_j : slice_get rows j ≡ Some second). ⊎_elim
            (λ (old_i : slice_get rows i ≡ Some first). are.in_order i j first second below old_i old_j)
            (λ (new_i : (i ≡ length rows) × (made ≡ first)).
            let inside = slice_get_within rows j second old_j in let last = new_i.0 in absurd (omega arith))
            (push-cases rows made i first at_i))
            (λ (new_j : (j ≡ length rows) × (made ≡ second)). ⊎_elim
            (λ (old_i : slice_get rows i ≡ Some first).
            let before = before-this i first old_i in
            let same = ap (λ (q : SessionFaults). q.session) new_j.1 in
            let here = of_session in
            omega arith)
            (λ (new_i : (i ≡ length rows) × (made ≡ first)). let one = new_i.0 in let two = new_j.0 in absurd (omega arith))
            (push-cases rows made i first at_i))
            (push-cases rows made j second at_j);
      }
