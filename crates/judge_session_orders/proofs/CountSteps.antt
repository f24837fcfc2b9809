-- One number more of those that are counted.
use Rattle.std.specs.Prelude.{◌≡◌, ◌≢◌, ◌⊎◌, ℕ, ◌+◌, ◌-◌, ◌<◌, ◌≤◌, List, slice_index_or}
use Rattle.std.proofs.Common.{arith, ap, sym, subst, ⊎_elim, ◌∙◌}
use Rattle.std.proofs.lemmas.Bool.{cases_eq, cases_lt, cases_order}
use Rattle.model_history.specs.declared.op_id.OpId.{OpId}
use Rattle.model_history.specs.History.{IsOp, many_before, number}
use Rattle.order_causal.specs.Orders.{op}
use Rattle.order_causal.proofs.OrdersLaws.{session-of_history}
use Rattle.order_memory.specs.Memory.{MemoryHistory, IsDifferentiated, Writes}
use Rattle.order_memory.specs.Relations.{ReadsFrom}
use Rattle.judge_memory.specs.Steps.{many}
use Rattle.judge_memory.proofs.Numbers.{many-rises, number-below, number-bound, one_more}
use Rattle.judge_session_orders.specs.Backward.{IsLeft, IsOpen, last_left, IsPlacing}
use Rattle.judge_session_orders.specs.Tables.{AreCounts, left_counts, left_under, variable}
use Rattle.judge_session_orders.proofs.Counts.{counts-write, counts-read, counts-other}

-- where only operations are left, no end is above that of its session
pub ends-within : (h : MemoryHistory) (ends : List ℕ) → ((a : OpId) → IsLeft (left_counts h ends) a → IsOp h a)
    → (t : ℕ) → slice_index_or ends t 0 ≤ many_before h (t + 1)
ends-within h ends inside t = ⊎_elim
    (λ (is_open : many_before h t < slice_index_or ends t 0).
    let a : OpId = op t (slice_index_or ends t 0 - many_before h t - 1) in
    let is_op = inside a (omega arith) in
    let more = one_more h t (session-of_history h a is_op) in
    omega arith)
    (λ (closed : slice_index_or ends t 0 ≤ many_before h t). let rises = many-rises h t (t + 1) (omega arith) in omega arith)
    (cases_lt (many_before h t) (slice_index_or ends t 0))

module _ (h : MemoryHistory) (ends : List ℕ) where
  pub under-first : (t : ℕ) → ¬ IsOpen (left_under h ends 0) t
  under-first t is_open = omega arith

  module _ (within : (t : ℕ) → slice_index_or ends t 0 ≤ many_before h (t + 1)) where
    pub under-whole : (t : ℕ) → left_under h ends (many h) t ≡ left_counts h ends t
    under-whole t = ⊎_elim
        (λ (above : many h < slice_index_or ends t 0).
        let up_to = within t in
        let below = number-bound h t (many h) (omega arith) in
        absurd (omega arith))
        (λ (up_to : slice_index_or ends t 0 ≤ many h). omega arith)
        (cases_lt (many h) (slice_index_or ends t 0))

    module _ (a : OpId) (is_op : IsOp h a) where
      abbrev n : ℕ
      n = number h a

      -- in the other sessions nothing changes
      under-others : (u : ℕ) → u ≢ a.session → left_under h ends n u ≡ left_under h ends (n + 1) u
      under-others u apart = ⊎_elim
          (λ (same : u ≡ a.session). absurd (apart same))
          (λ (other : (u < a.session) ⊎ (a.session < u)). ⊎_elim
          (λ (before : u < a.session).
          let up_to = within u in
          let rises = many-rises h (u + 1) a.session (omega arith) in
          omega arith)
          (λ (later : a.session < u).
          let inside = number-below h a is_op in
          let rises = many-rises h (a.session + 1) u (omega arith) in
          omega arith)
          other)
          (cases_order u a.session)

      pub under-placing : n < slice_index_or ends a.session 0 → IsPlacing a.session (left_under h ends (n + 1)) (left_under h ends n)
      under-placing is_left = record {
        placed = omega arith;
        others = under-others;
      }

      pub under-last : n < slice_index_or ends a.session 0 → last_left (left_under h ends (n + 1)) a.session ≡ a
      under-last is_left = let here : left_under h ends (n + 1) a.session - 1 ≡ a.index = omega arith in ap (op a.session) here

      pub under-same : slice_index_or ends a.session 0 ≤ n → (u : ℕ) → left_under h ends n u ≡ left_under h ends (n + 1) u
      under-same placed u = ⊎_elim
          (λ (same : u ≡ a.session). let end = ap (λ (s : ℕ). slice_index_or ends s 0) same in omega arith)
          (λ (apart : u ≡ a.session → ⊥). under-others u apart)
          (cases_eq u a.session)

      -- a write that is left is counted for its variable, a read for its source, and any other operation not at all
      module _ (variables : List ℕ) (is_left : n < slice_index_or ends a.session 0) (readers more_readers writes more_writes : ℕ → ℕ) where
        abbrev IsCounted : Type 0
        IsCounted = AreCounts h variables (left_under h ends n) readers writes → AreCounts h variables (left_under h ends (n + 1))
            more_readers more_writes

        abbrev last : last_left (left_under h ends (n + 1)) a.session ≡ a
        last = under-last is_left

        pub counted-write : (x v : ℕ) → Writes h a x v → ((m : ℕ) → more_readers m ≡ readers m)
            → more_writes (variable h variables a) ≡ writes (variable h variables a) + 1
            → ((y : ℕ) → y ≢ variable h variables a → more_writes y ≡ writes y) → IsCounted
        counted-write x v wrote same one others =
            (counts-write h variables a.session (left_under h ends (n + 1)) (left_under h ends n) (under-placing is_left)
            (session-of_history h a is_op)
            more_readers readers more_writes writes x v (subst (λ (q : OpId). Writes h q x v) (sym last) wrote) same
            (subst (λ (q : OpId). more_writes (variable h variables q) ≡ writes (variable h variables q) + 1) (sym last) one)
            (λ y apart. others y (λ same_y. apart (same_y ∙ ap (variable h variables) (sym last))))).1

        pub counted-read : IsDifferentiated h → (u : OpId) → ReadsFrom h u a → more_readers (number h u) ≡ readers (number h u) + 1
            → ((m : ℕ) → m ≢ number h u → more_readers m ≡ readers m) → ((x : ℕ) → more_writes x ≡ writes x) → IsCounted
        counted-read distinct u from one others same =
            (counts-read h variables a.session (left_under h ends (n + 1)) (left_under h ends n) (under-placing is_left)
            (session-of_history h a is_op)
            more_readers readers more_writes writes distinct u (subst (λ (q : OpId). ReadsFrom h u q) (sym last) from) one others same).1

        pub counted-other : ((x v : ℕ) → ¬ Writes h a x v) → ((w : OpId) → ¬ ReadsFrom h w a) → ((m : ℕ) → more_readers m ≡ readers m)
            → ((x : ℕ) → more_writes x ≡ writes x) → IsCounted
        counted-other no_write no_read same_readers same_writes =
            (counts-other h variables a.session (left_under h ends (n + 1)) (left_under h ends n) (under-placing is_left)
            (session-of_history h a is_op)
            more_readers readers more_writes writes (λ x v wrote. no_write x v (subst (λ (q : OpId). Writes h q x v) last wrote))
            (λ w from. no_read w (subst (λ (q : OpId). ReadsFrom h w q) last from)) same_readers same_writes).1
