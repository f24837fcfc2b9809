-- The operations of a case whose rows have no verdict, each once.
use Rattle.std.proofs.Common.{◌≡◌, ◌⊎◌, ℕ, zero, suc, ◌+◌, inl, inr, List, [], ◌∷◌, ◌++◌, length, length-append, refl, sym, ◌∙◌, ap, subst, arith}
use Rattle.std.specs.Prelude.{Option, Some, None, is_none, if◌then◌else◌, slice_get}
use Rattle.std.specs.List.{count_by, sum_by}
use Rattle.std.proofs.lemmas.List.Sums.{sum_by-cons}
use Rattle.std.proofs.lemmas.Option.{same_Some}
use Rattle.model_history.specs.declared.op_id.OpId.{OpId}
use Rattle.order_causal.specs.Orders.{op}
use Rattle.order_causal.proofs.OrdersLaws.{same_op}
use Rattle.live_case_board.specs.Boards.{SessionRows, Row, open_of}
use Rattle.live_simulation.proofs.SealsKept.{get_front}

-- a list in which each of these operations stands once, and no other
pub record IsListOf (P : OpId → Type 0) (ops : List OpId) : Type 0 where
  pub each : (o : OpId) → P o → (i : ℕ) × (slice_get ops i ≡ Some o)
  pub no_other : (i : ℕ) (o : OpId) → slice_get ops i ≡ Some o → P o
  pub once : (i j : ℕ) (o : OpId) → slice_get ops i ≡ Some o → slice_get ops j ≡ Some o → i ≡ j

no_item : {A : Type 0} (i : ℕ) (x : A) → slice_get [] i ≡ Some x → ⊥
no_item zero x e = cc
no_item (suc i) x e = cc

get_append : {A : Type 0} (xs ys : List A) (k : ℕ) (y : A) → slice_get (xs ++ ys) k ≡ Some y → (slice_get xs k ≡ Some y) ⊎ ((j : ℕ) × (k ≡ length xs + j) × (slice_get ys j ≡ Some y))
get_append [] ys k y e = inr (k, omega arith, e)
get_append (x ∷ xs) ys zero y e = inl e
get_append (x ∷ xs) ys (suc k) y e = elim (get_append xs ys k y e) [
  | inl h ↦ inl h
  | inr h ↦ inr (h.0, (let s : k ≡ length xs + h.0 = h.1 in omega arith), h.2)
]

get_right : {A : Type 0} (xs ys : List A) (k j : ℕ) → k ≡ length xs + j → slice_get (xs ++ ys) k ≡ slice_get ys j
get_right [] ys k j e = let same : k ≡ j = omega arith in ap (λ (n : ℕ). slice_get ys n) same
get_right (x ∷ xs) ys zero j e = absurd (omega arith)
get_right (x ∷ xs) ys (suc k) j e = get_right xs ys k j (omega arith)

empty_list : (P : OpId → Type 0) → ((o : OpId) → P o → ⊥) → IsListOf P []
empty_list P none = record {
  each = λ o p. absurd (none o p);
  no_other = λ i o at. absurd (no_item i o at);
  once = λ i j o at at'. absurd (no_item i o at);
}

one_item : (a : OpId) (i : ℕ) (o : OpId) → slice_get (a ∷ []) i ≡ Some o → (i ≡ 0) × (o ≡ a)
one_item a zero o e = (refl, sym (same_Some a o e))
one_item a (suc i) o e = absurd (no_item i o e)

one_list : (a : OpId) → IsListOf (λ o. o ≡ a) (a ∷ [])
one_list a = record {
  each = λ o e. (0, ap {B = Option OpId} (λ (x : OpId). Some x) (sym e));
  no_other = λ i o at. (one_item a i o at).1;
  once = λ i j o at at'. (one_item a i o at).0 ∙ sym (one_item a j o at').0;
}

relisted : (P Q : OpId → Type 0) (ops : List OpId) → ((o : OpId) → P o → Q o) → ((o : OpId) → Q o → P o) → IsListOf P ops → IsListOf Q ops
relisted P Q ops to from l = record {
  each = λ o q. l.each o (from o q);
  no_other = λ i o at. to o (l.no_other i o at);
  once = l.once;
}

module _ (P Q U : OpId → Type 0) (xs ys : List OpId) (lx : IsListOf P xs) (ly : IsListOf Q ys) (apart : (o : OpId) → P o → Q o → ⊥) (split : (o : OpId) → U o → P o ⊎ Q o) (from_first : (o : OpId) → P o → U o)
    (from_second : (o : OpId) → Q o → U o) where
  joined_each : (o : OpId) → U o → (i : ℕ) × (slice_get (xs ++ ys) i ≡ Some o)
  joined_each o u = elim (split o u) [
    | inl p ↦ let i = lx.each o p in (i.0, get_front xs ys i.0 o i.1)
    | inr q ↦ let j = ly.each o q in (length xs + j.0, get_right xs ys (length xs + j.0) j.0 refl ∙ j.1)
  ]

  joined_no_other : (i : ℕ) (o : OpId) → slice_get (xs ++ ys) i ≡ Some o → U o
  joined_no_other i o at = elim (get_append xs ys i o at) [ inl h ↦ from_first o (lx.no_other i o h) | inr h ↦ from_second o (ly.no_other h.0 o h.2) ]

  joined_once : (i j : ℕ) (o : OpId) → slice_get (xs ++ ys) i ≡ Some o → slice_get (xs ++ ys) j ≡ Some o → i ≡ j
  joined_once i j o at at' = elim (get_append xs ys i o at) [
    | inl h ↦
        elim (get_append xs ys j o at') [
          | inl h' ↦ lx.once i j o h h'
          | inr h' ↦ absurd (apart o (lx.no_other i o h) (ly.no_other h'.0 o h'.2))
        ]
    | inr h ↦
        elim (get_append xs ys j o at') [
          | inl h' ↦ absurd (apart o (lx.no_other j o h') (ly.no_other h.0 o h.2))
          | inr h' ↦ h.1 ∙ (ap (λ (n : ℕ). length xs + n) (ly.once h.0 h'.0 o h.2 h'.2) ∙ sym h'.1)
        ]
  ]

  joined : IsListOf U (xs ++ ys)
  joined = record { each = joined_each; no_other = joined_no_other; once = joined_once }

-- of a session, from an index on
abbrev pub open_from : ℕ → ℕ → List Row → List OpId
open_from s i [] = []
open_from s i (None ∷ rs) = op s i ∷ open_from s (suc i) rs
open_from s i (Some x ∷ rs) = open_from s (suc i) rs

abbrev IsOpenFrom : ℕ → ℕ → List Row → OpId → Type 0
IsOpenFrom s i rs o = (m : ℕ) × (o.session ≡ s) × (o.index ≡ i + m) × (slice_get rs m ≡ Some None)

module _ (s i : ℕ) (rs : List Row) (o : OpId) where
  open_later : (x : Row) → IsOpenFrom s (suc i) rs o → IsOpenFrom s i (x ∷ rs) o
  open_later x p = (suc p.0, p.1, (let e : o.index ≡ suc i + p.0 = p.2 in omega arith), p.3)

  open_first : o ≡ op s i → IsOpenFrom s i (None ∷ rs) o
  open_first e = (0, ap (λ (a : OpId). a.session) e, (let x : o.index ≡ i = ap (λ (a : OpId). a.index) e in omega arith), refl)

  open_split_none : (m : ℕ) → o.session ≡ s → o.index ≡ i + m → slice_get {X = Row} (None ∷ rs) m ≡ Some None → (o ≡ op s i) ⊎ IsOpenFrom s (suc i) rs o
  open_split_none zero ses e at = inl (same_op o (op s i) ses (omega arith))
  open_split_none (suc m) ses e at = inr (m, ses, omega arith, at)

  open_split_some : (x : _) (m : ℕ) → o.session ≡ s → o.index ≡ i + m → slice_get {X = Row} (Some x ∷ rs) m ≡ Some None → IsOpenFrom s (suc i) rs o
  open_split_some x zero ses e at = absurd (cc)
  open_split_some x (suc m) ses e at = (m, ses, omega arith, at)

open_list : (s i : ℕ) (rs : List Row) → IsListOf (IsOpenFrom s i rs) (open_from s i rs)
open_list s i [] = empty_list (IsOpenFrom s i []) (λ o p. no_item p.0 None p.3)
open_list s i (None ∷ rs) =
    joined (λ o. o ≡ op s i) (IsOpenFrom s (suc i) rs) (IsOpenFrom s i (None ∷ rs)) (op s i ∷ []) (open_from s (suc i) rs) (one_list (op s i)) (open_list s (suc i) rs)
    (λ o e p. let x : o.index ≡ i = ap (λ (a : OpId). a.index) e in let y : o.index ≡ suc i + p.0 = p.2 in omega arith)
    (λ o u. open_split_none s i rs o u.0 u.1 u.2 u.3) (λ o e. open_first s i rs o e) (λ o p. open_later s i rs o None p)
open_list s i (Some x ∷ rs) =
    relisted (IsOpenFrom s (suc i) rs) (IsOpenFrom s i (Some x ∷ rs)) (open_from s (suc i) rs) (λ o p. open_later s i rs o (Some x) p) (λ o u. open_split_some s i rs o x u.0 u.1 u.2 u.3)
    (open_list s (suc i) rs)

open_many : (s i : ℕ) (rs : List Row) → length (open_from s i rs) ≡ count_by is_none rs
open_many s i [] = refl
open_many s i (None ∷ rs) =
    let more : count_by is_none (None ∷ rs) ≡ 1 + count_by is_none rs = sum_by-cons (λ (r : Row). if is_none r then 1 else 0) None rs in
    let rest : length (open_from s (suc i) rs) ≡ count_by is_none rs = open_many s (suc i) rs in
    let one : suc (length (open_from s (suc i) rs)) ≡ 1 + length (open_from s (suc i) rs) = omega arith in
    one ∙ (ap (λ (n : ℕ). 1 + n) rest ∙ sym more)
open_many s i (Some x ∷ rs) =
    let more : count_by is_none (Some x ∷ rs) ≡ 0 + count_by is_none rs = sum_by-cons (λ (r : Row). if is_none r then 1 else 0) (Some x) rs in
    let none : 0 + count_by is_none rs ≡ count_by is_none rs = omega arith in
    open_many s (suc i) rs ∙ (sym none ∙ sym more)

-- of all sessions from one on
abbrev pub open_in : ℕ → List SessionRows → List OpId
open_in s [] = []
open_in s (t ∷ ts) = open_from s 0 t.rows ++ open_in (suc s) ts

abbrev pub IsOpenIn : ℕ → List SessionRows → OpId → Type 0
IsOpenIn s ts o = (m : ℕ) × (t : SessionRows) × (o.session ≡ s + m) × (slice_get ts m ≡ Some t) × (slice_get t.rows o.index ≡ Some None)

module _ (s : ℕ) (t : SessionRows) (ts : List SessionRows) (o : OpId) where
  in_first : IsOpenFrom s 0 t.rows o → IsOpenIn s (t ∷ ts) o
  in_first p =
      let same : p.0 ≡ o.index = (let e : o.index ≡ 0 + p.0 = p.2 in omega arith) in
      (0, t, (let e : o.session ≡ s = p.1 in omega arith), refl, subst (λ (n : ℕ). slice_get t.rows n ≡ Some None) same p.3)

  in_later : IsOpenIn (suc s) ts o → IsOpenIn s (t ∷ ts) o
  in_later p = (suc p.0, p.1, (let e : o.session ≡ suc s + p.0 = p.2 in omega arith), p.3, p.4)

  in_split : (m : ℕ) (u : SessionRows) → o.session ≡ s + m → slice_get (t ∷ ts) m ≡ Some u → slice_get u.rows o.index ≡ Some None → IsOpenFrom s 0 t.rows o ⊎ IsOpenIn (suc s) ts o
  in_split zero u ses at row =
      let same : u ≡ t = sym (same_Some t u at) in
      inl (o.index, omega arith, omega arith, subst (λ (x : SessionRows). slice_get x.rows o.index ≡ Some None) same row)
  in_split (suc m) u ses at row = inr (m, u, omega arith, at, row)

pub open_lists : (s : ℕ) (ts : List SessionRows) → IsListOf (IsOpenIn s ts) (open_in s ts)
open_lists s [] = empty_list (IsOpenIn s []) (λ o p. no_item p.0 p.1 p.3)
open_lists s (t ∷ ts) =
    joined (IsOpenFrom s 0 t.rows) (IsOpenIn (suc s) ts) (IsOpenIn s (t ∷ ts)) (open_from s 0 t.rows) (open_in (suc s) ts) (open_list s 0 t.rows) (open_lists (suc s) ts)
    (λ o p q. let x : o.session ≡ s = p.1 in let y : o.session ≡ suc s + q.0 = q.2 in omega arith) (λ o u. in_split s t ts o u.0 u.1 u.2 u.3 u.4) (λ o p. in_first s t ts o p)
    (λ o p. in_later s t ts o p)

pub open_total : (s : ℕ) (ts : List SessionRows) → length (open_in s ts) ≡ sum_by open_of ts
open_total s [] = refl
open_total s (t ∷ ts) =
    length-append (open_from s 0 t.rows) (open_in (suc s) ts)
    ∙ (ap (λ (n : ℕ). n + length (open_in (suc s) ts)) (open_many s 0 t.rows) ∙ (ap (λ (n : ℕ). open_of t + n) (open_total (suc s) ts) ∙ sym (sum_by-cons open_of t ts)))
