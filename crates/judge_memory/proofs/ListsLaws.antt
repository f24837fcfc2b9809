-- What follows for lists by the numbers of operations.
use Rattle.std.specs.Prelude.{◌≡◌, ℕ, ◌+◌, ◌<◌, ◌≤◌, List, [], ◌∷◌, ◌++◌, Option, Some, length, option_map, slice_get}
use Rattle.std.proofs.Common.{arith, ap, get_or, length-append, refl, subst, sym, ◌∙◌, ⊎_elim}
use Rattle.std.proofs.lemmas.Bool.{cases_lt}
use Rattle.std.proofs.lemmas.List.{get_or_append_left, get_or_push}
use Rattle.std.proofs.lemmas.Option.{same_Some, slice_get-get_or, slice_get_within}
use Rattle.model_objects.specs.declared.register.RegisterRet.{RegisterRet}
use Rattle.model_history.specs.declared.op_id.OpId.{OpId}
use Rattle.model_history.specs.History.{IsOp, entry, many_before, number, session}
use Rattle.model_history.proofs.Counting.{many_next}
use Rattle.order_causal.specs.Orders.{op}
use Rattle.order_memory.specs.Memory.{MemoryCall, MemoryHistory}
use Rattle.judge_memory.specs.Steps.{many}
use Rattle.judge_memory.proofs.Numbers.{number-all, number-once}
use Rattle.judge_memory.specs.Lists.{IsKeyOf, ListsEach, ListsStarts}

module _ (h : MemoryHistory) (es : List (MemoryCall × Option RegisterRet)) (s i : ℕ) (read : es ≡ session h s) (below : i < length es) where
  -- what stands in a session is an operation
  pub op-at : IsOp h (op s i)
  op-at = let same = ap (λ (xs : List (MemoryCall × Option RegisterRet)). length xs) read in omega arith

  pub entry-at : (d : MemoryCall × Option RegisterRet) → entry h (op s i) ≡ Some (get_or es i d)
  entry-at d = ap (λ (xs : List (MemoryCall × Option RegisterRet)). slice_get xs i) (sym read) ∙ slice_get-get_or es i d below

  pub key-at : (d : MemoryCall × Option RegisterRet) → IsKeyOf h (op s i) (get_or es i d).0.key
  key-at d = ap (option_map (λ (e : MemoryCall × Option RegisterRet). e.0.key)) (entry-at d)

module _ {X : Type 0} (h : MemoryHistory) (is_of : OpId → X → Type 0) where
  -- before the first session there is no entry
  pub each-none : ListsEach h is_of (many_before h 0) []
  each-none = record { count = refl; each = λ o x is_op at. absurd cc }

  -- those of all sessions
  pub each-all : (s : ℕ) (xs : List X) → s ≡ length h.1 → ListsEach h is_of (many_before h s) xs → ListsEach h is_of (many h) xs
  each-all s xs ended before = subst (λ (n : ℕ). ListsEach h is_of (many_before h n) xs) ended before

  -- the entry of one operation more
  pub each-push : (s i : ℕ) (x : X) (xs : List X) → IsOp h (op s i) → is_of (op s i) x → ListsEach h is_of (many_before h s + i) xs
      → ListsEach h is_of (many_before h s + (i + 1)) (xs ++ x ∷ [])
  each-push s i x xs is_op this before = record {
    count = let count = before.count in length-append xs (x ∷ []) ∙ omega arith;
    each = λ o y is_o at.
        let within = slice_get_within (xs ++ x ∷ []) (number h o) y at in
        let size = length-append xs (x ∷ []) in
        let count = before.count in
        let here : get_or (xs ++ x ∷ []) (number h o) y ≡ y =
        same_Some _ _ (sym (slice_get-get_or (xs ++ x ∷ []) (number h o) y within) ∙ at) in
        ⊎_elim
        (λ (old : number h o < length xs).
        let same = sym (get_or_append_left xs (x ∷ []) y (number h o) old) ∙ here in
        before.each o y is_o (slice_get-get_or xs (number h o) y old ∙ ap (λ z. Some z) same))
        (λ (new : length xs ≤ number h o).
        let one : op s i ≡ o = number-once h (op s i) o is_op is_o (omega arith) in
        let same : x ≡ y = sym (get_or_push xs x y (number h o) (omega arith)) ∙ here in
        subst (λ (p : OpId). is_of p y) one (subst (is_of (op s i)) same this))
        (cases_lt (number h o) (length xs));
  }

  -- those of a session whose last operation has one
  pub each-session : (es : List (MemoryCall × Option RegisterRet)) (s i : ℕ) (xs : List X) → s < length h.1 → es ≡ session h s
      → i ≡ length es → ListsEach h is_of (many_before h s + i) xs → ListsEach h is_of (many_before h (s + 1)) xs
  each-session es s i xs exists read ended before =
      let next = many_next h s exists in
      let same = ap (λ (ys : List (MemoryCall × Option RegisterRet)). length ys) read in
      subst (λ (n : ℕ). ListsEach h is_of n xs) (omega arith) before

  module _ (xs : List X) (lists : ListsEach h is_of (many h) xs) where
    -- the entry of an operation, at its number
    pub each-at : (o : OpId) (n : ℕ) (x : X) → IsOp h o → number h o ≡ n → x ≡ get_or xs n x → is_of o x
    each-at o n x is_op at is =
        let below = number-all h o is_op in
        let count = lists.count in
        let inside : n < length xs = omega arith in
        lists.each o x is_op (ap (slice_get xs) at ∙ slice_get-get_or xs n x inside ∙ ap (λ y. Some y) (sym is))

module _ (h : MemoryHistory) where
  -- before the first session there is no operation
  pub starts-first : ListsStarts h 0 (0 ∷ [])
  starts-first = record {
    count = omega arith;
    start = λ t up_to.
        let first : t ≡ 0 = omega arith in
        ap (λ (k : ℕ). get_or (0 ∷ []) k 0) first ∙ sym (ap (many_before h) first);
  }

  -- the start of one session more
  pub starts-push : (n next : ℕ) (starts : List ℕ) → next ≡ many_before h (n + 1) → ListsStarts h n starts
      → ListsStarts h (n + 1) (starts ++ next ∷ [])
  starts-push n next starts is before = record {
    count = let count = before.count in length-append starts (next ∷ []) ∙ omega arith;
    start = λ t up_to.
        let count = before.count in
        ⊎_elim
        (λ (old : t < length starts). get_or_append_left starts (next ∷ []) 0 t old ∙ before.start t (omega arith))
        (λ (new : length starts ≤ t).
        let last : n + 1 ≡ t = omega arith in
        get_or_push starts next 0 t (omega arith) ∙ is ∙ ap (many_before h) last)
        (cases_lt t (length starts));
  }
