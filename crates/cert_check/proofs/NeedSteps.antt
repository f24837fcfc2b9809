-- What an operation needs to have been named before it: where all that was named came after what its own vector counts,
-- the need is met exactly where all others that the vector counts were named.
use Rattle.std.proofs.Common.{◌≡◌, ◌≢◌, ℕ, zero, suc, ◌+◌, ◌<◌, ◌≤◌, ◌↔◌, ◌⊎◌, List, [], ◌∷◌, ◌++◌, length, take, get_or, set, sym, ap, refl, subst, subst₂, arith, ◌∙◌, ⊎_elim}
use Rattle.std.specs.Prelude.{Some, slice_get}
use Rattle.std.proofs.lemmas.Bool.{cases_eq, cases_lt}
use Rattle.std.proofs.lemmas.List.{get_or_append_left, get_or_past, get_or_push, length_push}
use Rattle.model_history.specs.declared.op_id.OpId.{OpId}
use Rattle.model_history.specs.History.{HistoryValue, IsOp}
use Rattle.order_causal.proofs.Placed.{placed-up}
use Rattle.order_causal.specs.Orders.{op, StandsAt}
use Rattle.order_causal.proofs.OrdersLaws.{same_op}
use Rattle.order_causal.specs.Vectors.{Counts, count, list_of, IsCounted}
use Rattle.order_causal.specs.Schedules.{placed}
use Rattle.cert_check.specs.declared.need.Need.{Need}
use Rattle.cert_check.specs.declared.need.Need.TheVariants.{Nothing, After, Everything}
use Rattle.cert_check.specs.Schedules.{named, StandsBefore}
use Rattle.cert_check.specs.Steps.Needs.{vector_before, AreNeedsOf, IsCovered, IsMet, IsNeedOf}
use Rattle.cert_check.specs.Steps.Namings.{AreCountsAt, AreNamedWell, IsNamedWell}
use Rattle.cert_check.proofs.Named.{placed-next, placed-none, named_is, counted_from_before, before_from_counted}
use Rattle.cert_check.proofs.NamingSteps.{after_from_within, within_from_after, counting, named_here, naming-well}

-- the need of one operation of a session more
pub needs-push : (v : Counts) (s n : ℕ) (needs : List Need) (need : Need) → length needs ≡ n
    → ((i : ℕ) → i < n → IsNeedOf v (op s i) (get_or needs i Everything)) → IsNeedOf v (op s n) need
    → (length (needs ++ need ∷ []) ≡ n + 1) × ((i : ℕ) → i < n + 1 → IsNeedOf v (op s i) (get_or (needs ++ need ∷ []) i Everything))
needs-push v s n needs need size before here = (
  length_push needs need ∙ ap (λ (k : ℕ). k + 1) size,
  λ i below. ⊎_elim
      (λ (old : i < n). subst (IsNeedOf v (op s i)) (sym (get_or_append_left needs (need ∷ []) Everything i (let same = size in omega arith))) (before i old))
      (λ (new : n ≤ i).
      let last : n ≡ i = omega arith in
      subst₂ (λ (k : ℕ) (x : Need). IsNeedOf v (op s k) x) last (sym (get_or_push needs need Everything i (size ∙ last))) here)
      (cases_lt i n),
)

-- the needs of one session more
pub session-push : (v : Counts) (n : ℕ) (listed : List (List Need)) (row : List Need) → length listed ≡ n
    → ((s i : ℕ) → s < n → i < length (get_or listed s []) → IsNeedOf v (op s i) (get_or (get_or listed s []) i Everything))
    → ((i : ℕ) → i < length row → IsNeedOf v (op n i) (get_or row i Everything))
    → (length (listed ++ row ∷ []) ≡ n + 1) × ((s i : ℕ) → s < n + 1 → i < length (get_or (listed ++ row ∷ []) s [])
    → IsNeedOf v (op s i) (get_or (get_or (listed ++ row ∷ []) s []) i Everything))
session-push v n listed row size before here = (
  length_push listed row ∙ ap (λ (k : ℕ). k + 1) size,
  λ s i below. ⊎_elim
      (λ (old : s < n).
      subst (λ (xs : List Need). i < length xs → IsNeedOf v (op s i) (get_or xs i Everything))
      (sym (get_or_append_left listed (row ∷ []) [] s (let same = size in omega arith))) (before s i old))
      (λ (new : n ≤ s).
      let last : n ≡ s = omega arith in
      subst₂ (λ (k : ℕ) (xs : List Need). i < length xs → IsNeedOf v (op k i) (get_or xs i Everything)) last
      (sym (get_or_push listed row [] s (size ∙ last))) (here i))
      (cases_lt s n),
)

-- what is listed for no operation needs nothing to be known
pub needs_from_lists : (v : Counts) (needs : List (List Need))
    → ((s i : ℕ) → s < length needs → i < length (get_or needs s []) → IsNeedOf v (op s i) (get_or (get_or needs s []) i Everything))
    → AreNeedsOf v needs
needs_from_lists v needs each = record {
  each = λ o.
      let row : List Need = get_or needs o.session [] in
      ⊎_elim
      (λ (inside : o.session < length needs). ⊎_elim
      (λ (within : o.index < length row). each o.session o.index inside within)
      (λ (past : length row ≤ o.index). subst (IsNeedOf v o) (sym (get_or_past row o.index Everything past)) tt)
      (cases_lt o.index (length row)))
      (λ (past : length needs ≤ o.session).
      let none : row ≡ [] = get_or_past needs o.session [] past in
      subst (λ (xs : List Need). IsNeedOf v o (get_or xs o.index Everything)) (sym none) tt)
      (cases_lt o.session (length needs));
}

-- the vector before an operation is that of the one before it in its session, or has no counts where it is the first
pub list_before : (v : Counts) (o b : OpId) → b.session ≡ o.session → b.index + 1 ≡ o.index → list_of v b ≡ vector_before v o.session o.index
list_before v o b same next =
    let after : o.index ≡ suc b.index = omega arith in
    subst (λ (s : ℕ). list_of v b ≡ vector_before v s o.index) same (sym (ap (λ (i : ℕ). vector_before v b.session i) after))

pub none_before : (v : Counts) (o : OpId) → o.index ≡ 0 → [] ≡ vector_before v o.session o.index
none_before v o first = ap (λ (i : ℕ). vector_before v o.session i) (sym first)

-- what a vector counts stands before a place
abbrev ComesBefore : Counts → List ℕ → ℕ → OpId → Type 0
ComesBefore v list i b = (a : OpId) → IsCounted v b a → a ≢ b → StandsBefore (named list) i a

module _ (v : Counts) (list : List ℕ) (i : ℕ) (o : OpId) (stands : StandsAt (named list) i o)
    (well : (j : ℕ) (b : OpId) → j < i → StandsAt (named list) j b → ComesBefore v list j b) where
  -- an operation that stands before, with all that it counts
  counted_by : (m a : OpId) → StandsBefore (named list) i m → IsCounted v m a → StandsBefore (named list) i a
  counted_by m a (j, below, there) counts = ⊎_elim
      (λ (same : a.session ≡ m.session). ⊎_elim
      (λ (equal : a.index ≡ m.index). let is = same_op m a (sym same) (sym equal) in subst (StandsBefore (named list) i) is (j, below, there))
      (λ (other : a.index ≢ m.index). let r = well j m below there a counts (λ e. other (ap (λ (x : OpId). x.index) e)) in (r.0, omega arith, r.2))
      (cases_eq a.index m.index))
      (λ (other : a.session ≢ m.session). let r = well j m below there a counts (λ e. other (ap (λ (x : OpId). x.session) e)) in (r.0, omega arith, r.2))
      (cases_eq a.session m.session)

  -- an operation before it in its own session stands before
  own_before : (a : OpId) → a.session ≡ o.session → a.index < o.index → StandsBefore (named list) i a
  own_before a same below =
      let index = (named_is list i o stands).1 in
      let here : placed (take i list) a.session ≡ placed (take i list) o.session = ap (λ (s : ℕ). placed (take i list) s) same in
      before_from_counted list i a (omega arith)

  -- what the vector of the operation before it counts stands before
  before_before : (n : ℕ) → n ≡ o.index → (a : OpId) → a.index < get_or (vector_before v o.session n) a.session 0 → StandsBefore (named list) i a
  before_before zero is a below = absurd (omega arith)
  before_before (suc n) is a below = counted_by (op o.session n) a (own_before (op o.session n) refl (omega arith)) below

  covered_before : (other : List ℕ) → IsCovered (list_of v o) (vector_before v o.session o.index) other o
      → ((a : OpId) → a.index < get_or other a.session 0 → StandsBefore (named list) i a)
      → ComesBefore v list i o
  covered_before other covered others a counts apart =
      ⊎_elim
      (λ (first : count v o a.session ≤ get_or (vector_before v o.session o.index) a.session 0). before_before o.index refl a (omega arith))
      (λ (rest : (count v o a.session ≤ get_or other a.session 0) ⊎ ((a.session ≡ o.session) × (count v o a.session ≤ o.index + 1))).
      ⊎_elim
      (λ (second : count v o a.session ≤ get_or other a.session 0). others a (omega arith))
      (λ (own : (a.session ≡ o.session) × (count v o a.session ≤ o.index + 1)).
      let most = own.1 in
      ⊎_elim
      (λ (equal : a.index ≡ o.index). absurd (apart (same_op a o own.0 equal)))
      (λ (different : a.index ≢ o.index). own_before a own.0 (omega arith))
      (cases_eq a.index o.index))
      rest)
      (covered.each a.session)

  module _ (n : ℕ) (counts : List ℕ) (at : AreCountsAt list (i + 1) n counts) where
    pub met-before : (need : Need) → IsNeedOf v o need → IsMet v o counts need → ComesBefore v list i o
    met-before Nothing covered met = covered_before [] covered (λ a below. absurd (omega arith))
    met-before (After s m) (apart, last, covered) met =
        covered_before (list_of v (op s m)) covered (λ a below.
        let now = at.each s in
        let next = placed-next s list i o.session (named_is list i o stands).0 in
        let none = placed-none s o.session (λ (e : o.session ≡ s). apart (sym e)) in
        counted_by (op s m) a (before_from_counted list i (op s m) (omega arith)) below)
    met-before Everything covered met = after_from_within v list i n o stands counts at met

    pub before-met : (need : Need) → IsNeedOf v o need → ComesBefore v list i o → IsMet v o counts need
    before-met Nothing covered before = tt
    before-met (After s m) (apart, last, covered) before =
        let there = before (op s m) (omega arith) (λ e. apart (ap (λ (x : OpId). x.session) e)) in
        let counted = counted_from_before list i (op s m) there in
        let now = at.each s in
        let up = placed-up list i (i + 1) s (omega arith) in
        omega arith
    before-met Everything covered before = within_from_after v list i n o stands counts at before

-- the next operation of a session is named well exactly where its need is met
module _ {S C R : Type 0} (h : HistoryValue S C R) (v : Counts) (list : List ℕ) (i s : ℕ) (here : slice_get list i ≡ Some s) (counts : List ℕ) (at : AreCountsAt list i (length h.1) counts)
    (o : OpId) (is : o ≡ op s (get_or counts s 0)) (is_op : IsOp h o) (later : List ℕ) (counted : later ≡ set counts s (get_or counts s 0 + 1)) where
  pub met-exactly : (need : Need) → IsNeedOf v o need → AreNamedWell h v list i → IsMet v o later need ↔ IsNamedWell h v list i
  met-exactly need is_need well =
      let stands = named_here h v list i s here counts at o is is_op later counted in
      let now = counting h v list i s here counts at o is is_op later counted in
      let earlier : (j : ℕ) (b : OpId) → j < i → StandsAt (named list) j b → ComesBefore v list j b =
      λ j b below there a. (well.each j below).after_counted b a there in (
        (λ met. naming-well h v list i s here counts at o is is_op later counted (met-before v list i o stands earlier (length h.1) later now need is_need met)),
        λ good. before-met v list i o stands earlier (length h.1) later now need is_need (λ a. good.after_counted o a stands),
      )
