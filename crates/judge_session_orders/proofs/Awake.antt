-- The sessions that are asked in turn: what is not among them cannot go on.
use Rattle.std.specs.Prelude.{◌≡◌, ◌≢◌, ◌⊎◌, ℕ, ◌-◌, ◌<◌, ◌≤◌, List, Option, None, Some, IfSome, length, slice_get, slice_index_or, slice_set, take}
use Rattle.std.proofs.Common.{arith, refl, sym, ap, subst, inl, inr, ⊎_elim, ◌∙◌}
use Rattle.std.proofs.lemmas.Bool.{cases_eq, cases_lt}
use Rattle.std.proofs.lemmas.List.{get_or-set_same, get_or-set_other, get_or-take, length-set, length-take-le}
use Rattle.std.proofs.lemmas.Option.{get_or_from_slice_get, slice_get-get_or, slice_get_within}
use Rattle.model_history.specs.declared.op_id.OpId.{OpId}
use Rattle.model_history.specs.History.{session}
use Rattle.order_causal.specs.Orders.{op}
use Rattle.order_causal.proofs.OrdersLaws.{session-of_history}
use Rattle.order_memory.specs.Memory.{MemoryHistory}
use Rattle.order_memory.specs.Relations.{ReadsFrom}
use Rattle.judge_memory.specs.Indexed.{Indexed}
use Rattle.judge_session_orders.specs.declared.backward.Backward.{Backward}
use Rattle.judge_session_orders.specs.Backward.{AreOthersBlocked, HasReadLeft, IsOpen, last_left}
use Rattle.judge_session_orders.specs.OnItsWay.{AreStopped, CanBePlaced, IsAwake, IsFreed, IsOnItsWay, IsPlaced, IsStopped, ListsSessions, left_of}
use Rattle.judge_session_orders.specs.SessionOrders.{last_op}
use Rattle.judge_session_orders.specs.Turns.{IsTakenOut, IsWoken}
use Rattle.judge_session_orders.proofs.FreeLaws.{last-op}
use Rattle.judge_session_orders.proofs.Placing.{just-placed}
use Rattle.judge_session_orders.proofs.TurnLaws.{pushed-cases, pushed-last, pushed-old}

-- one number taken out of a list
module _ (list : List ℕ) (place : ℕ) (inside : place < length list) where
  abbrev end : ℕ
  end = length list - 1

  abbrev rest : List ℕ
  rest = take end (slice_set list place (slice_index_or list end 0))

  rest-size : length rest ≡ end
  rest-size =
      let size = length-set list place (slice_index_or list end 0) in
      length-take-le end (slice_set list place (slice_index_or list end 0)) (omega arith)

  rest-get : (k : ℕ) → k < end → slice_get rest k ≡ Some (slice_index_or (slice_set list place (slice_index_or list end 0)) k 0)
  rest-get k below =
      let size = rest-size in
      slice_get-get_or rest k 0 (omega arith)
      ∙ ap (λ (n : ℕ). Some n) (get_or-take end (slice_set list place (slice_index_or list end 0)) k 0 below)

  rest-kept : (k t : ℕ) → k ≢ place → slice_get list k ≡ Some t → (j : ℕ) × (slice_get rest j ≡ Some t)
  rest-kept k t apart at =
      let within = slice_get_within list k t at in
      let value = get_or_from_slice_get list k t 0 at in
      ⊎_elim
      (λ (before : k < end).
      (k, rest-get k before ∙ ap (λ (n : ℕ). Some n) (get_or-set_other list place k (slice_index_or list end 0) 0 apart ∙ value)))
      (λ (up_to : end ≤ k).
      let last : k ≡ end = omega arith in
      let here : place < end = omega arith in
      let same = ap (λ (n : ℕ). slice_index_or list n 0) last in (
        place,
        rest-get place here ∙ ap (λ (n : ℕ). Some n)
            (get_or-set_same list place (slice_index_or list end 0) 0 inside ∙ sym same ∙ value),
      ))
      (cases_lt k end)

  rest-old : (k t : ℕ) → slice_get rest k ≡ Some t → (j : ℕ) × (slice_get list j ≡ Some t)
  rest-old k t at =
      let size = rest-size in
      let within = slice_get_within rest k t at in
      let below : k < end = omega arith in
      let value = sym (get_or-take end (slice_set list place (slice_index_or list end 0)) k 0 below) ∙ get_or_from_slice_get rest k t 0 at in
      ⊎_elim
      (λ (here : k ≡ place).
      let moved = ap (λ (n : ℕ). slice_index_or (slice_set list place (slice_index_or list end 0)) n 0) here in (
        end,
        slice_get-get_or list end 0 (omega arith) ∙ ap (λ (n : ℕ). Some n)
            (sym (get_or-set_same list place (slice_index_or list end 0) 0 inside) ∙ sym moved ∙ value),
      ))
      (λ (apart : k ≢ place). (
        k,
        slice_get-get_or list k 0 (omega arith) ∙ ap (λ (n : ℕ). Some n)
            (sym (get_or-set_other list place k (slice_index_or list end 0) 0 apart) ∙ value),
      ))
      (cases_eq k place)

  pub taken-out : IsTakenOut list place rest
  taken-out = record { size = (let size = rest-size in omega arith); kept = rest-kept; no_other = rest-old }

module _ (index : Indexed) (b : Backward) where
  abbrev h : MemoryHistory
  h = index.history

  abbrev left : ℕ → ℕ
  left = left_of index.history b

  -- all sessions are asked
  pub awake-all : IsOnItsWay index b → (sessions : List ℕ) → ListsSessions h (length h.1) sessions → IsAwake index b sessions
  awake-all now sessions lists = record {
    below = λ k t at. (lists.below k t at).0;
    each = λ t apart is_open.
        let is_op = last-op index b now t is_open in
        let has : 0 < length (session h t) = omega arith in
        inl (lists.each t (session-of_history h (op t 0) has) has);
  }

  module _ (awake : List ℕ) (is : IsAwake index b awake) where
    pub awake-exists : (i : ℕ) → i < length awake → slice_index_or awake i 0 < length h.1
    awake-exists i below = is.below i (slice_index_or awake i 0) (slice_get-get_or awake i 0 below)

    -- where all that are asked were passed, no other session can go on
    pub awake-stopped : (at : ℕ) → AreStopped index b awake at (length awake) → AreStopped index b awake 0 at
        → AreOthersBlocked h (last_op h b.own) left
    awake-stopped at behind before t other is_open = ⊎_elim
        (λ (listed : (k : ℕ) × (slice_get awake k ≡ Some t)).
        let place : ℕ = listed.0 in
        let inside = slice_get_within awake place t listed.1 in
        let same = get_or_from_slice_get awake place t 0 listed.1 in
        subst (IsStopped index b) same (⊎_elim
        (λ (lower : place < at).
        before place (omega arith) lower (λ own. other (sym same ∙ own)) (subst (IsOpen left) (sym same) is_open))
        (λ (higher : at ≤ place).
        behind place higher inside (λ own. other (sym same ∙ own)) (subst (IsOpen left) (sym same) is_open))
        (cases_lt place at)))
        (λ (read : HasReadLeft h left (last_left left t)). inl read)
        (is.each t other is_open)

    -- a session that sleeps need not be asked
    pub awake-without : (place s : ℕ) → slice_get awake place ≡ Some s → (IsOpen left s → HasReadLeft h left (last_left left s))
        → (fewer : List ℕ) → IsTakenOut awake place fewer → IsAwake index b fewer
    awake-without place s at sleeps fewer out = record {
      below = λ k t at_k. let old = out.no_other k t at_k in is.below old.0 t old.1;
      each = λ t apart is_open. ⊎_elim
          (λ (listed : (k : ℕ) × (slice_get awake k ≡ Some t)). ⊎_elim
          (λ (here : listed.0 ≡ place).
          let same = sym (get_or_from_slice_get awake listed.0 t 0 listed.1) ∙ ap (λ (n : ℕ). slice_index_or awake n 0) here
          ∙ get_or_from_slice_get awake place s 0 at in
          inr (subst (λ (u : ℕ). HasReadLeft h left (last_left left u)) (sym same) (sleeps (subst (IsOpen left) same is_open))))
          (λ (other : listed.0 ≢ place). inl (out.kept listed.0 t other listed.1))
          (cases_eq listed.0 place))
          (λ (read : HasReadLeft h left (last_left left t)). inr read)
          (is.each t apart is_open);
    }

  -- nor any, where the session itself can't
  pub none-go_on : AreOthersBlocked h (last_op h b.own) left → (IsOpen left b.own → IsStopped index b b.own)
      → (t : ℕ) → IsOpen left t → IsStopped index b t
  none-go_on others own_stopped t is_open = ⊎_elim
      (λ (same : t ≡ b.own). subst (IsStopped index b) (sym same) (own_stopped (subst (IsOpen left) same is_open)))
      (λ (apart : t ≢ b.own). others t apart is_open)
      (cases_eq t b.own)

-- hints and what was asked before are asked
woken-old : (hint : Option ℕ) (awake woken : List ℕ) → IsWoken awake hint woken → (k t : ℕ) → slice_get awake k ≡ Some t
    → (j : ℕ) × (slice_get woken j ≡ Some t)
woken-old None awake woken same k t at = (k, subst (λ (xs : List ℕ). slice_get xs k ≡ Some t) (sym same) at)
woken-old (Some s) awake woken grown k t at = (k, subst (λ (xs : List ℕ). slice_get xs k ≡ Some t) (sym grown) (pushed-old awake s k t at))

woken-hint : (hint : Option ℕ) (awake woken : List ℕ) → IsWoken awake hint woken → (t : ℕ) → hint ≡ Some t
    → (j : ℕ) × (slice_get woken j ≡ Some t)
woken-hint None awake woken same t bad = absurd cc
woken-hint (Some s) awake woken grown t is =
    let last = pushed-last awake s in
    (last.0, subst (λ (xs : List ℕ). slice_get xs last.0 ≡ Some t) (sym grown) (last.1 ∙ is))

woken-below : (hint : Option ℕ) (awake woken : List ℕ) (m : ℕ) → IsWoken awake hint woken → IfSome hint (λ s. s < m)
    → ((k t : ℕ) → slice_get awake k ≡ Some t → t < m) → (k t : ℕ) → slice_get woken k ≡ Some t → t < m
woken-below None awake woken m same small below k t at = below k t (subst (λ (xs : List ℕ). slice_get xs k ≡ Some t) same at)
woken-below (Some s) awake woken m grown small below k t at = ⊎_elim
    (λ (old : slice_get awake k ≡ Some t). below k t old)
    (λ (new : t ≡ s). let less : s < m = small in omega arith)
    (pushed-cases awake s k t (subst (λ (xs : List ℕ). slice_get xs k ≡ Some t) grown at))

-- an operation more is placed
module _ (index : Indexed) (b after : Backward) (t : ℕ) (can : CanBePlaced index b t) (placed : IsPlaced index b after t) (hint : Option ℕ)
    (small : IfSome hint (λ s. s < length index.history.1)) (freed : IsFreed index (last_left (left_of index.history b) t) after hint)
    (awake woken : List ℕ) (is : IsAwake index b awake) (grown : IsWoken awake hint woken) where
  abbrev was : ℕ → ℕ
  was = left_of index.history b

  abbrev now : ℕ → ℕ
  now = left_of index.history after

  -- the session of the operation is still asked
  of-placed : t ≢ b.own → (j : ℕ) × (slice_get woken j ≡ Some t)
  of-placed other = ⊎_elim
      (λ (listed : (k : ℕ) × (slice_get awake k ≡ Some t)). woken-old hint awake woken grown listed.0 t listed.1)
      (λ (read : HasReadLeft index.history was (last_left was t)). absurd (can.free.1 (inl read)))
      (is.each t other can.free.0)

  -- another one is, unless a read of its last operation is left
  of-other : (u : ℕ) → u ≢ t → u ≢ b.own → IsOpen now u → ((j : ℕ) × (slice_get woken j ≡ Some u)) ⊎ HasReadLeft index.history now (last_left now u)
  of-other u apart other is_open =
      let same : now u ≡ was u = placed.placing.others u apart in
      ⊎_elim
      (λ (listed : (k : ℕ) × (slice_get awake k ≡ Some u)). inl (woken-old hint awake woken grown listed.0 u listed.1))
      (λ (read : HasReadLeft index.history was (last_left was u)).
      let w : OpId = last_left now u in
      let from : ReadsFrom index.history w read.0 =
      subst (λ (n : ℕ). ReadsFrom index.history (op u (n - 1)) read.0) (sym same) read.2 in
      ⊎_elim
      (λ (still : read.0.index < now read.0.session). inr (read.0, still, from))
      (λ (gone : now read.0.session ≤ read.0.index).
      let one = just-placed t was now placed.placing read.0 read.1 (λ is_left. omega arith) in
      ⊎_elim
      (λ (left_now : HasReadLeft index.history now w). inr left_now)
      (λ (hinted : hint ≡ Some u). inl (woken-hint hint awake woken grown u hinted))
      (freed w (subst (ReadsFrom index.history w) one from) is_open refl))
      (cases_lt read.0.index (now read.0.session)))
      (is.each u other (subst (λ (n : ℕ). 0 < n) same is_open))

  pub awake-next : IsAwake index after woken
  awake-next = record {
    below = woken-below hint awake woken (length index.history.1) grown small is.below;
    each = λ u other is_open.
        let apart_own : u ≢ b.own = λ own. other (own ∙ sym placed.own) in
        ⊎_elim
        (λ (same : u ≡ t).
        let listed = of-placed (λ own. apart_own (same ∙ own)) in
        inl (listed.0, listed.1 ∙ ap (λ (s : ℕ). Some s) (sym same)))
        (λ (apart : u ≢ t). of-other u apart apart_own is_open)
        (cases_eq u t);
  }
