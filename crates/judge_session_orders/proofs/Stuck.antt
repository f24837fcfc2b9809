-- The stuck lemma: an order that cannot be finished shows a cycle of the happened-before relation.
use Rattle.std.specs.Prelude.{◌≡◌, ◌≢◌, ◌⊎◌, ℕ, ◌-◌, ◌<◌, ◌≤◌, Bool, IsTrue, length}
use Rattle.std.proofs.Common.{true, false, arith, sym, subst, inl, inr, ⊎_elim, refl}
use Rattle.std.proofs.lemmas.Bool.{cases_eq, cases_lt}
use Rattle.model_history.specs.declared.op_id.OpId.{OpId}
use Rattle.model_history.specs.History.{IsOp, Precedes}
use Rattle.order_causal.specs.Orders.{program_past}
use Rattle.order_causal.proofs.Items.{cases-op}
use Rattle.order_causal.proofs.OrdersLaws.{same_op, session-of_history}
use Rattle.order_causal.proofs.PathsLaws.{leads-edge, leads-leads}
use Rattle.order_causal.proofs.WaitingCycles.{waiting-cycle}
use Rattle.order_memory.specs.Memory.{MemoryHistory}
use Rattle.order_memory.specs.Relations.{ReadsFrom, IsEdge, CO, AreRivalWrites, IsPast, HB}
use Rattle.order_memory.proofs.HappenedBeforeLaws.{
  HB-causal,
  HB-transitive,
  HB-read,
  past-before,
  past-of_history,
  past-program,
  program_past-from,
  program_past-parts,
}
use Rattle.order_memory.proofs.MemoryLaws.{write-or_read}
use Rattle.judge_session_orders.specs.Backward.{
  IsLeft,
  IsOpen,
  last_left,
  IsAcyclic,
  IsOwnPlaced,
  IsLockedOut,
  IsBlocked,
  AreOthersBlocked,
  IsBackward,
}

-- a test that cannot fail holds
bool-stable : (b : Bool) → ¬ (¬ IsTrue b) → IsTrue b
bool-stable true twice = refl
bool-stable false twice = absurd (twice (λ t. absurd cc))

rivals-back : (h : MemoryHistory) (a b : OpId) → AreRivalWrites h a b → AreRivalWrites h b a
rivals-back h a b (apart, (x, u, v, first, second)) = (λ same. apart (sym same), (x, v, u, second, first))

-- where o is not before itself, the operations of its session that are in its past are o and those before it in program order
pub past-own : (h : MemoryHistory) (o : OpId) → IsOp h o → ¬ CO h o o → (a : OpId) → IsPast h o a → a.session ≡ o.session
    → IsTrue (program_past o a)
past-own h o is_op straight a in_past same = ⊎_elim
    (λ (above : o.index < a.index).
    let behind = leads-edge (IsEdge h) o a (inl ((sym same, above), past-of_history h o a is_op in_past)) in
    absurd (⊎_elim
    (λ (itself : a ≡ o). straight (subst (CO h o) itself behind))
    (λ (before : CO h a o). straight (leads-leads (IsEdge h) o a o behind before))
    in_past))
    (λ (up_to : a.index ≤ o.index). program_past-from o a same up_to)
    (cases_lt o.index a.index)

module _ (h : MemoryHistory) (o : OpId) where
  -- so does HB, which every closed order has
  pub HB-stable : (a b : OpId) → ¬ (¬ HB h o a b) → HB h o a b
  HB-stable a b twice order closed = bool-stable (order a b) (λ none. twice (λ happened. none (happened order closed)))

  -- turned round, as a session waits for another one whose last operation comes later
  abbrev HB-back : OpId → OpId → Type 0
  HB-back a b = HB h o b a

  HB-back-transitive : (a b c : OpId) → HB-back a b → HB-back b c → HB-back a c
  HB-back-transitive a b c first second = HB-transitive h o c b a second first

  edge-happened : (a b : OpId) → IsEdge h a b → IsPast h o b → HB h o a b
  edge-happened a b edge in_b =
      let leads = leads-edge (IsEdge h) a b edge in HB-causal h o a b (past-before h o a b leads in_b) in_b leads

  source-happened : (w r : OpId) → ReadsFrom h w r → IsPast h o r → HB h o w r
  source-happened w r from in_r = edge-happened w r (inr from) in_r

module _ (h : MemoryHistory) (o : OpId) (is_op : IsOp h o) (left : ℕ → ℕ) (now : IsBackward h o left) where
  abbrev last : ℕ → OpId
  last t = last_left left t

  program-happened : (a b : OpId) → Precedes a b → IsPast h o b → HB h o a b
  program-happened a b before in_b = edge-happened h o a b (inl (before, past-of_history h o b is_op in_b)) in_b

  last-left : (t : ℕ) → IsOpen left t → IsLeft left (last t)
  last-left t is_open = omega arith

  last-past : (t : ℕ) → IsOpen left t → IsPast h o (last t)
  last-past t is_open = now.within (last t) (last-left t is_open)

  last-session : (t : ℕ) → IsOpen left t → t < length h.1
  last-session t is_open = session-of_history h (last t) (past-of_history h o (last t) is_op (last-past t is_open))

  -- each operation that is left is the last one of its session, or happened before that one
  up_to_last : (a : OpId) → IsLeft left a → (a ≡ last a.session) ⊎ HB h o a (last a.session)
  up_to_last a is_left = ⊎_elim
      (λ (same : a.index ≡ left a.session - 1). inl (same_op a (last a.session) refl same))
      (λ (apart : a.index ≢ left a.session - 1). inr (program-happened a (last a.session) (refl, omega arith)
      (last-past a.session (omega arith))))
      (cases_eq a.index (left a.session - 1))

  to_last : (a b : OpId) → IsLeft left b → HB h o a b → HB h o a (last b.session)
  to_last a b is_left before = ⊎_elim
      (λ (same : b ≡ last b.session). subst (λ (c : OpId). HB h o a c) same before)
      (λ (later : HB h o b (last b.session)). HB-transitive h o a b (last b.session) before later)
      (up_to_last b is_left)

  from_last : (a b : OpId) → IsLeft left a → HB h o (last a.session) b → HB h o a b
  from_last a b is_left before = ⊎_elim
      (λ (same : a ≡ last a.session). subst (λ (c : OpId). HB h o c b) (sym same) before)
      (λ (earlier : HB h o a (last a.session)). HB-transitive h o a (last a.session) b earlier before)
      (up_to_last a is_left)

  -- what is locked out happened before the locked write, if it happened before the read that locks it
  before-locked : (a : OpId) (out : IsLockedOut h o left a) → HB h o a out.1.1.0 → HB h o a out.0
  before-locked a (w, (is_left, (r, placed, from)), rivals) before = HB-read h o a w r rivals from placed.0 before

  module _ (acyclic : IsAcyclic h o) where
    -- the last operation of the session t happened before that of some open session
    abbrev WaitsForOpen : ℕ → Type 0
    WaitsForOpen t = (u : ℕ) × IsOpen left u × HB h o (last t) (last u)

    waits-for : (t : ℕ) (b : OpId) → IsLeft left b → HB h o (last t) b → WaitsForOpen t
    waits-for t b is_left before = (b.session, omega arith, to_last (last t) b is_left before)

    -- so it is of each blocked session but that of o
    pub blocked-waits : (t : ℕ) → t ≢ o.session → IsOpen left t → IsBlocked h o left t → WaitsForOpen t
    blocked-waits t other is_open (inl (q, is_left, from)) =
        waits-for t q is_left (source-happened h o (last t) q from (now.within q is_left))
    blocked-waits t other is_open (inr (inl out)) =
        waits-for t out.0 out.1.0
        (before-locked (last t) out (now.before acyclic (last t) out.0 out.1.1.0 (last-left t is_open) out.1.1.1 out.1.1.2))
    blocked-waits t other is_open (inr (inr (same, reads))) = absurd (other same)

    module _ (blocked : AreOthersBlocked h o left) (own_open : IsOpen left o.session) where
      abbrev own : OpId
      own = last o.session

      -- t is open, and its last operation did not happen before the next one of the session of o
      abbrev IsAstray : ℕ → Type 0
      IsAstray t = IsOpen left t × (t ≢ o.session) × ¬ HB h o (last t) own

      astray-waits : (t : ℕ) → IsAstray t → (u : ℕ) × IsAstray u × HB h o (last t) (last u)
      astray-waits t (is_open, other, apart) =
          let next = blocked-waits t other is_open (blocked t other is_open) in (
            next.0,
            (
              next.1,
              λ same. apart (subst (λ (u : ℕ). HB h o (last t) (last u)) same next.2),
              λ before. apart (HB-transitive h o (last t) (last next.0) own next.2 before),
            ),
            next.2,
          )

      none-astray : (t : ℕ) → ¬ IsAstray t
      none-astray t astray =
          let cycle = waiting-cycle IsAstray last (HB-back h o) (length h.1) (λ u found. last-session u found.0) astray-waits
          (HB-back-transitive h o) t astray in
          acyclic cycle.0 cycle.1

      -- where all other sessions are blocked, all else that is left happened before the next operation of the session of o
      pub left-before : (a : OpId) → IsLeft left a → a ≢ own → HB h o a own
      left-before a is_left apart = ⊎_elim
          (λ (same : a.session ≡ o.session). ⊎_elim
          (λ (is_last : a ≡ last a.session). absurd (apart (subst (λ (t : ℕ). a ≡ last t) same is_last)))
          (λ (before : HB h o a (last a.session)). subst (λ (t : ℕ). HB h o a (last t)) same before)
          (up_to_last a is_left))
          (λ (other : a.session ≢ o.session).
          from_last a own is_left (HB-stable h o (last a.session) own (λ none. none-astray a.session (omega arith, other, none))))
          (cases_eq a.session o.session)

      -- and nothing that is left happened after it
      none-behind : (b : OpId) → IsLeft left b → ¬ HB h o own b
      none-behind b is_left behind = ⊎_elim
          (λ (same : own ≡ b). acyclic own (subst (λ (c : OpId). HB h o own c) (sym same) behind))
          (λ (apart : own ≢ b). acyclic own (HB-transitive h o own b own behind (left-before b is_left (λ same. apart (sym same)))))
          (cases-op own b)

      -- being left, it is in the program past of o
      own-past : IsTrue (program_past o own)
      own-past = past-own h o is_op (λ before. acyclic o (HB-causal h o o o (inl refl) (inl refl) before)) own
          (last-past o.session own_open) refl

      -- and it happened before what is placed of its session
      own-before : (r : OpId) → IsOwnPlaced h o left r → HB h o own r
      own-before r (kept, placed) =
          let parts = program_past-parts o r kept in
          let behind : ¬ (r.index < left o.session) = subst (λ (t : ℕ). ¬ (r.index < left t)) parts.0 placed in
          program-happened own r (sym parts.0, omega arith) (past-program h o r is_op kept)

      -- therefore nothing blocks it
      pub own-free : ¬ IsBlocked h o left o.session
      own-free (inl (q, is_left, from)) = none-behind q is_left (source-happened h o own q from (now.within q is_left))
      own-free (inr (inl out)) = none-behind out.0 out.1.0 (before-locked own out (own-before out.1.1.0 out.1.1.1))
      own-free (inr (inr (same, (u, from, out)))) =
          let w = out.0 in
          let u_own = source-happened h o u own from (last-past o.session own_open) in
          let u_w = before-locked u out (HB-transitive h o u own out.1.1.0 u_own (own-before out.1.1.0 out.1.1.1)) in
          let apart : w ≢ own = write-or_read h w own out.2.1.0 out.2.1.2 from.0 from.1 out.2.1.4 from.3 in
          let w_u = HB-read h o w u own (rivals-back h u w out.2) from own-past (left-before w out.1.0 apart) in
          acyclic w (HB-transitive h o w u w w_u u_w)

-- where all open sessions are blocked, and there is one, something happened before itself
pub stuck-cyclic : (h : MemoryHistory) (o : OpId) → IsOp h o → (left : ℕ → ℕ) → IsBackward h o left
    → ((t : ℕ) → IsOpen left t → IsBlocked h o left t) → (t : ℕ) → IsOpen left t → ¬ IsAcyclic h o
stuck-cyclic h o is_op left now blocked t is_open acyclic = ⊎_elim
    (λ (own_open : 0 < left o.session).
    own-free h o is_op left now acyclic (λ u other open_u. blocked u open_u) own_open (blocked o.session own_open))
    (λ (none : left o.session ≤ 0).
    let other : (u : ℕ) → IsOpen left u → u ≢ o.session =
    λ u open_u same. (let more : 0 < left o.session = subst (λ (v : ℕ). 0 < left v) same open_u in omega arith) in
    let cycle = waiting-cycle (IsOpen left) (last_left left) (HB-back h o) (length h.1)
    (λ u open_u. last-session h o is_op left now u open_u)
    (λ u open_u. blocked-waits h o is_op left now acyclic u (other u open_u) open_u (blocked u open_u))
    (HB-back-transitive h o) t is_open in
    acyclic cycle.0 cycle.1)
    (cases_lt 0 (left o.session))
