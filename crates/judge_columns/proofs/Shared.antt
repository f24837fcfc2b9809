-- How the share of a part grows, and what it is in the end.
use Rattle.std.specs.Prelude.{◌≡◌, ◌≢◌, ◌⊎◌, ◌↔◌, ◌++◌, ℕ, ◌+◌, ◌<◌, ◌≤◌, List, [], ◌∷◌, Some, length, slice_get}
use Rattle.std.proofs.Common.{zero, suc, arith, refl, ap, sym, ◌∙◌, subst, inl, inr, ⊎_elim}
use Rattle.std.proofs.lemmas.Bool.{cases_lt, cases_eq}
use Rattle.std.proofs.lemmas.Option.{same_Some, slice_get_within}
use Rattle.model_history.specs.declared.op_id.OpId.{OpId}
use Rattle.model_history.specs.History.{IsOp, many_before, number}
use Rattle.order_memory.specs.Memory.{MemoryHistory}
use Rattle.order_memory.proofs.MemoryLaws.{write-of_history}
use Rattle.judge_memory.proofs.Numbers.{number-below, number-once, number-session}
use Rattle.judge_columns.specs.Forks.{AreNoWrites, AreOnlyWrites, IsFirstWrite, IsForkAt, IsForkBelow, IsOnlyWrite}
use Rattle.judge_columns.specs.Swept.{IsListed}

-- no number stands in an empty list
pub none-at : (xs : List ℕ) → xs ≡ [] → (k y : ℕ) → ¬ (slice_get xs k ≡ Some y)
none-at xs none k y at = let within = slice_get_within xs k y at in let size = ap (λ (ys : List ℕ). length ys) none in omega arith

-- a list with one number more
pub pushed-cases : (xs : List ℕ) (x k y : ℕ) → slice_get (xs ++ x ∷ []) k ≡ Some y → (slice_get xs k ≡ Some y) ⊎ (y ≡ x)
pushed-cases [] x zero y at = inr (sym (same_Some _ _ at))
pushed-cases [] x (suc k) y at = absurd (let within = slice_get_within {A = ℕ} [] k y at in omega arith)
pushed-cases (z ∷ zs) x zero y at = inl at
pushed-cases (z ∷ zs) x (suc k) y at = pushed-cases zs x k y at

pub pushed-old : (xs : List ℕ) (x k y : ℕ) → slice_get xs k ≡ Some y → slice_get (xs ++ x ∷ []) k ≡ Some y
pushed-old [] x k y at = absurd (let within = slice_get_within {A = ℕ} [] k y at in omega arith)
pushed-old (z ∷ zs) x zero y at = at
pushed-old (z ∷ zs) x (suc k) y at = pushed-old zs x k y at

pub pushed-last : (xs : List ℕ) (x : ℕ) → (k : ℕ) × (slice_get (xs ++ x ∷ []) k ≡ Some x)
pushed-last [] x = (0, refl)
pushed-last (z ∷ zs) x = let last = pushed-last zs x in (suc last.0, last.1)

-- a session more that is swept alone
pub pushed-below : (sessions made : List ℕ) (t m : ℕ) → made ≡ sessions ++ t ∷ [] → t < m
    → ((k u : ℕ) → slice_get sessions k ≡ Some u → u < m) → (k u : ℕ) → slice_get made k ≡ Some u → u < m
pushed-below sessions made t m grown below now k u at = ⊎_elim
    (λ (old : slice_get sessions k ≡ Some u). now k u old)
    (λ (new : u ≡ t). omega arith)
    (pushed-cases sessions t k u (subst (λ (xs : List ℕ). slice_get xs k ≡ Some u) grown at))

module _ (h : MemoryHistory) where
  abbrev Shares : List ℕ → List ℕ → ℕ → Type 0
  Shares sessions forks u = ((k : ℕ) × (slice_get sessions k ≡ Some u)) ⊎ ((k : ℕ) × IsForkAt h forks k u)

  pub session-shared : (sessions forks made : List ℕ) (t : ℕ) → made ≡ sessions ++ t ∷ []
      → (u : ℕ) → Shares made forks u ↔ (Shares sessions forks u ⊎ (u ≡ t))
  session-shared sessions forks made t grown u = (
    (λ now. ⊎_elim
        (λ (some : (k : ℕ) × (slice_get made k ≡ Some u)). ⊎_elim
        (λ (old : slice_get sessions some.0 ≡ Some u). inl (inl (some.0, old)))
        (λ (new : u ≡ t). inr new)
        (pushed-cases sessions t some.0 u (subst (λ (xs : List ℕ). slice_get xs some.0 ≡ Some u) grown some.1)))
        (λ (fork : (k : ℕ) × IsForkAt h forks k u). inl (inr fork))
        now),
    λ either. ⊎_elim
        (λ (old : Shares sessions forks u). ⊎_elim
        (λ (some : (k : ℕ) × (slice_get sessions k ≡ Some u)).
        inl (some.0, subst (λ (xs : List ℕ). slice_get xs some.0 ≡ Some u) (sym grown) (pushed-old sessions t some.0 u some.1)))
        (λ (fork : (k : ℕ) × IsForkAt h forks k u). inr fork)
        old)
        (λ (new : u ≡ t).
        let last = pushed-last sessions t in
        inl (last.0, subst (λ (xs : List ℕ). slice_get xs last.0 ≡ Some u) (sym grown) (last.1 ∙ ap (λ (v : ℕ). Some v) (sym new))))
        either,
  )

  -- a session more whose only write is known
  module _ (sessions forks made : List ℕ) (n t : ℕ) (grown : made ≡ forks ++ n ∷ []) (w : OpId) (is_op : IsOp h w) (at_n : number h w ≡ n)
      (of_t : w.session ≡ t) where
    pub fork-shared : (u : ℕ) → Shares sessions made u ↔ (Shares sessions forks u ⊎ (u ≡ t))
    fork-shared u = (
      (λ now. ⊎_elim
          (λ (some : (k : ℕ) × (slice_get sessions k ≡ Some u)). inl (inl some))
          (λ (fork : (k : ℕ) × IsForkAt h made k u).
          let a : OpId = fork.1.0 in
          ⊎_elim
          (λ (old : slice_get forks fork.0 ≡ Some (number h a)). inl (inr (fork.0, (a, fork.1.1, old, fork.1.3))))
          (λ (new : number h a ≡ n).
          let one = number-once h a w fork.1.1 is_op (new ∙ sym at_n) in
          inr (sym fork.1.3 ∙ ap (λ (q : OpId). q.session) one ∙ of_t))
          (pushed-cases forks n fork.0 (number h a) (subst (λ (xs : List ℕ). slice_get xs fork.0 ≡ Some (number h a)) grown fork.1.2)))
          now),
      λ either. ⊎_elim
          (λ (old : Shares sessions forks u). ⊎_elim
          (λ (some : (k : ℕ) × (slice_get sessions k ≡ Some u)). inl some)
          (λ (fork : (k : ℕ) × IsForkAt h forks k u).
          let a : OpId = fork.1.0 in
          inr (
            fork.0,
            (
              a,
              fork.1.1,
              subst (λ (xs : List ℕ). slice_get xs fork.0 ≡ Some (number h a)) (sym grown)
                  (pushed-old forks n fork.0 (number h a) fork.1.2),
              fork.1.3,
            ),
          ))
          old)
          (λ (new : u ≡ t).
          let last = pushed-last forks n in
          inr (
            last.0,
            (
              w,
              is_op,
              subst (λ (xs : List ℕ). slice_get xs last.0 ≡ Some (number h w)) (sym grown)
                  (last.1 ∙ ap (λ (v : ℕ). Some v) (sym at_n)),
              of_t ∙ sym new,
            ),
          ))
          either,
    )

    pub fork-only : AreOnlyWrites h forks → IsOnlyWrite h w → AreOnlyWrites h made
    fork-only now only k m at = ⊎_elim
        (λ (old : slice_get forks k ≡ Some m). now k m old)
        (λ (new : m ≡ n). (w, is_op, at_n ∙ sym new, only))
        (pushed-cases forks n k m (subst (λ (xs : List ℕ). slice_get xs k ≡ Some m) grown at))

  -- in the end
  pub shares-whole : (sessions forks : List ℕ) (D : ℕ → Type 0) → ((u : ℕ) → Shares sessions forks u ↔ D u)
      → (u : ℕ) → D u ↔ (IsListed sessions (length sessions) u ⊎ IsForkBelow h forks (length forks) u)
  shares-whole sessions forks D same u = (
    (λ dealt. ⊎_elim
        (λ (some : (k : ℕ) × (slice_get sessions k ≡ Some u)). inl (some.0, slice_get_within sessions some.0 u some.1, some.1))
        (λ (fork : (k : ℕ) × IsForkAt h forks k u).
        inr (fork.0, slice_get_within forks fork.0 (number h fork.1.0) fork.1.2, fork.1))
        ((same u).1 dealt)),
    λ either. (same u).0 (⊎_elim
        (λ (some : IsListed sessions (length sessions) u). inl (some.0, some.2))
        (λ (fork : IsForkBelow h forks (length forks) u). inr (fork.0, fork.2))
        either),
  )

  -- a first write after which no other comes is the only one of its session
  pub only-write : (t from end n : ℕ) → from ≡ many_before h t → end ≡ many_before h (t + 1) → IsFirstWrite h from end n
      → AreNoWrites h (n + 1) end
      → (w : OpId) × IsOp h w × (number h w ≡ n) × (w.session ≡ t) × IsOnlyWrite h w
  only-write t from end n start stop first none =
      let w : OpId = first.write.0 in
      let at_n = first.write.1 in
      let wrote = first.write.2 in
      let is_w = write-of_history h w wrote.0 wrote.1 wrote.2 in
      let low = first.first in
      let high = first.below in
      let of_t = number-session h w t is_w (omega arith) (omega arith) in (
        w,
        is_w,
        at_n,
        of_t,
        (
          wrote,
          λ b x v same writes.
              let is_b = write-of_history h b x v writes in
              let inside = number-below h b is_b in
              let begin = ap (many_before h) (same ∙ of_t) in
              let finish = ap (λ (s : ℕ). many_before h (s + 1)) (same ∙ of_t) in
              ⊎_elim
              (λ (before : number h b < n). absurd (first.none b x v writes (omega arith) before))
              (λ (up_to : n ≤ number h b). ⊎_elim
              (λ (here : number h b ≡ n). number-once h b w is_b is_w (here ∙ sym at_n))
              (λ (apart : number h b ≢ n). absurd (none b x v writes (omega arith) (omega arith)))
              (cases_eq (number h b) n))
              (cases_lt (number h b) n),
        ),
      )
