-- What a session keeps, as it begins a call and as the call returns.
use Rattle.std.proofs.Common.{◌≡◌, ℕ, ◌+◌, ◌<◌, ◌≤◌, List, [], ◌∷◌, ◌++◌, length, take, refl, sym, ◌∙◌, ap, subst, subst₂, arith}
use Rattle.std.specs.Prelude.{Bool, true, map, Option, Some, None, option_map, slice_get}
use Rattle.std.proofs.lemmas.List.{map-append}
use Rattle.model_history.specs.declared.limits.TheConstants.{MAX_OPERATIONS}
use Rattle.model_history.specs.declared.advice.Advice.{Advice}
use Rattle.live_recorder.specs.Lanes.{Cells, Entry, Notes, Returned, Tells, IsLane, known, operation, operations}
use Rattle.live_recorder.specs.Sessions.{SessionState, ReceiptState, CanReturn, HasFinished, Begun, IsSession}
use Rattle.live_recorder.specs.Sessions.{begun, after_begin, after_finish, receipt_of, session_operation}
use Rattle.std.proofs.lemmas.Option.{slice_get_within}
use Rattle.live_recorder.proofs.Telling.{length_map, length_push, tells_many, tells_more, tells_none, operations_more, returned_more}

module _ {C R : Type 0} where
  -- no call is pending where none is seen
  pub none_pending : (p : Option (Begun C R)) → option_map (λ (b : Begun C R). b.call) p ≡ None → p ≡ None
  none_pending None e = refl
  none_pending (Some b) e = absurd (cc)

  -- the session that is seen, as its notes say
  abbrev pub seen : ℕ → Cells → List (ℕ × Option (Entry C R)) → Option C → SessionState C R
  seen lane cells notes pending = record { lane = lane; cells = cells; done = operations notes; pending = pending }

  module _ (fits : C → R → Bool) (lane : ℕ) (cells : Cells) (notes notes' : List (ℕ × Option (Entry C R))) (p p' : Option (Begun C R)) (b : Begun C R) (some : p ≡ Some b) (none : p' ≡ None) (old : SessionState C R)
      (view : seen lane cells notes (option_map (λ (q : Begun C R). q.call) p) ≡ old) (r : R) (a : Advice) (can : CanReturn fits old r) (more : operations notes' ≡ operations notes ++ (b.call, r, a) ∷ []) where
    was_pending : old.pending ≡ Some b.call
    was_pending = sym (ap (λ (s : SessionState C R). s.pending) view) ∙ ap (option_map (λ (q : Begun C R). q.call)) some

    same_call : can.0 ≡ b.call
    same_call = let e : Some can.0 ≡ Some b.call = sym can.1 ∙ was_pending in cc

    pub seen_finished : HasFinished fits old r a (seen lane cells notes' (option_map (λ (q : Begun C R). q.call) p'))
    seen_finished = (
      b.call,
      was_pending,
      subst (λ (c : C). fits c r ≡ true) same_call can.2,
      (λ i. record { lane = lane; cells = cells; done = more i; pending = option_map (λ (q : Begun C R). q.call) (none i) }) ∙ ap (λ (s : SessionState C R). after_finish s b.call r a) view,
    )

  module _ (lane : ℕ) (cells : Cells) (notes : List (ℕ × Option (Entry C R))) (pending : Option C) (old : SessionState C R)
      (view : seen lane cells notes pending ≡ old) where
    -- the session that is seen where the notes say the same, and after a call began
    pub seen_again : (notes' : List (ℕ × Option (Entry C R))) → notes' ≡ notes → seen lane cells notes' pending ≡ old
    seen_again notes' same = ap (λ (l : List (ℕ × Option (Entry C R))). seen lane cells l pending) same ∙ view

    pub seen_begun : (notes' : List (ℕ × Option (Entry C R))) → notes' ≡ notes → (c d : C) → c ≡ d
        → seen lane cells notes' (Some c) ≡ after_begin old d
    seen_begun notes' same c d is = (λ i. seen lane cells (same i) (Some (is i))) ∙ ap (λ (s : SessionState C R). after_begin s d) view

    -- the operation that begins
    pub seen_next : (at : ℕ) → at ≡ length (operations notes) → session_operation lane at ≡ session_operation old.lane (length old.done)
    seen_next at many =
        ap (λ (n : ℕ). session_operation lane n) many ∙ ap (λ (s : SessionState C R). session_operation s.lane (length s.done)) view

    -- fewer operations returned than there are places
    pub seen_room : length old.done < length old.cells.calls → length (operations notes) < length cells.calls
    seen_room room = subst (λ (s : SessionState C R). length s.done < length s.cells.calls) (sym view) room

  pub seen_receipt : (lane : ℕ) (cells others : Cells) (notes made notes' : List (ℕ × Option (Entry C R))) (c : C) (r : R) (a : Advice) (pending : Option C) → operations notes' ≡ operations notes ++ (c, r, a) ∷ [] → made ≡ notes → length notes ≡ length (operations notes) → others ≡ cells
      → ◌≡◌ {A = ReceiptState C R} (record { lane = lane; cells = take (length made + 1) others.returns; operations = operations made ++ (c, r, a) ∷ [] }) (receipt_of (seen lane cells notes' pending))
  seen_receipt lane cells others notes made notes' c r a pending e same many lanes =
      let count : length made + 1 ≡ length (operations notes') = ap (λ (l : List (ℕ × Option (Entry C R))). length l + 1) same ∙ (ap (λ (n : ℕ). n + 1) many ∙ (sym (length_push (operations notes) (c, r, a)) ∙ sym (ap length e))) in
      λ i. record { lane = lane; cells = take (count i) (lanes i).returns; operations = (ap (λ (l : List (ℕ × Option (Entry C R))). operations l ++ (c, r, a) ∷ []) same ∙ sym e) i }

module _ {C R : Type 0} (cells : Cells) (calls : Notes C) (returns : Notes (Entry C R)) where
  -- a session with no call pending has as many notes of calls as it has operations
  pub quiet_calls : IsSession {C = C} {R = R} cells calls returns None → length calls.list ≡ length (operations returns.list)
  quiet_calls s = tells_many known cells.calls calls.list _ s.called ∙ length_map (λ (o : Returned C R). o.0) (operations returns.list)

  pub return_count : (p : Option (Begun C R)) → IsSession cells calls returns p → length returns.list ≡ length (operations returns.list)
  return_count p s = tells_many operation cells.returns returns.list _ s.returned

  -- the pending call's return has a place
  pub return_place : (b : Begun C R) → IsSession cells calls returns (Some b) → length returns.list < length cells.returns
  return_place b s =
      let e : length calls.list ≡ length (map (λ (o : Returned C R). o.0) (operations returns.list) ++ b.call ∷ []) = tells_many known cells.calls calls.list _ s.called in
      let f : length (map (λ (o : Returned C R). o.0) (operations returns.list) ++ b.call ∷ []) ≡ length (map (λ (o : Returned C R). o.0) (operations returns.list)) + 1 = length_push (map (λ (o : Returned C R). o.0) (operations returns.list)) b.call in
      let g : length (map (λ (o : Returned C R). o.0) (operations returns.list)) ≡ length (operations returns.list) = length_map (λ (o : Returned C R). o.0) (operations returns.list) in
      let h : length returns.list ≡ length (operations returns.list) = return_count (Some b) s in
      let w : length calls.list ≤ length cells.calls = s.within in
      let v : length cells.returns ≡ length cells.calls = s.lane.even in
      omega arith

  -- a session with no call pending, and fewer operations that returned than places
  module _ (p : Option (Begun C R)) (none : p ≡ None) (s : IsSession cells calls returns p) where
    pub call_count : length calls.list ≡ length (operations returns.list)
    call_count = quiet_calls (subst (λ (q : Option (Begun C R)). IsSession cells calls returns q) none s)

    pub call_place : length (operations returns.list) < length cells.calls
        → (lane : Cells) → lane ≡ cells → (at : ℕ) → at ≡ length calls.list → at < length lane.calls
    call_place room lane same at many = subst₂ (λ (n : ℕ) (l : Cells). n < length l.calls) (sym (many ∙ call_count)) (sym same) room

    pub few_returns : length (operations returns.list) < length cells.calls → length returns.list ≤ MAX_OPERATIONS
    few_returns room =
        let short : length cells.calls ≤ MAX_OPERATIONS = s.lane.short in
        let many : length returns.list ≡ length (operations returns.list) = return_count p s in
        omega arith

    -- it stays where the notes say the same
    pub session_kept : (calls' : Notes C) (returns' : Notes (Entry C R)) → calls'.list ≡ calls.list
        → returns'.list ≡ returns.list → IsSession cells calls' returns' p
    session_kept calls' returns' e f = record {
      lane = s.lane;
      within = subst (λ (l : List (ℕ × Option C)). length l ≤ length cells.calls) (sym e) s.within;
      called = subst₂
          (λ (l : List (ℕ × Option C)) (k : List (ℕ × Option (Entry C R))).
          Tells known cells.calls l (begun (operations k) (option_map (λ (b : Begun C R). b.call) p)))
          (sym e) (sym f) s.called;
      returned = subst (λ (l : List (ℕ × Option (Entry C R))). Tells operation cells.returns l (operations l)) (sym f) s.returned;
      ready = λ d h. absurd (let e : None ≡ Some d = sym none ∙ h in cc);
    }

  -- the session after it began a call
  session_begun_at : (calls' : Notes C) (returns' : Notes (Entry C R)) (b : Begun C R) (x : ℕ) → IsSession {C = C} {R = R} cells calls returns None → slice_get cells.calls (length calls.list) ≡ Some x
      → calls'.list ≡ calls.list ++ (x, Some b.call) ∷ [] → returns'.list ≡ returns.list → b.notes ≡ returns.list → 0 < returns'.room → IsSession cells calls' returns' (Some b)
  session_begun_at calls' returns' b x s at e f n room = record {
    lane = s.lane;
    within = subst (λ (l : List (ℕ × Option C)). length l ≤ length cells.calls) (sym e) (let p : length (calls.list ++ (x, Some b.call) ∷ []) ≡ length calls.list + 1 = length_push calls.list (x, Some b.call) in let q : length calls.list < length cells.calls = slice_get_within cells.calls (length calls.list) x at in omega arith);
    called = subst (λ (l : List (ℕ × Option C)). Tells known cells.calls l (begun (operations returns'.list) (Some b.call))) (sym e) (subst (λ (l : List (ℕ × Option (Entry C R))). Tells known cells.calls (calls.list ++ (x, Some b.call) ∷ []) (begun (operations l) (Some b.call))) (sym f)
        (tells_more known cells.calls calls.list (map (λ (o : Returned C R). o.0) (operations returns.list)) x (Some b.call) b.call s.called at refl));
    returned = subst (λ (l : List (ℕ × Option (Entry C R))). Tells operation cells.returns l (operations l)) (sym f) s.returned;
    ready = λ d h. let same : b ≡ d = cc in (ap (λ (q : Begun C R). q.notes) (sym same) ∙ (n ∙ sym f), room);
  }

  pub session_begun : (p : Option (Begun C R)) → p ≡ None → IsSession cells calls returns p → (calls' : Notes C) (returns' : Notes (Entry C R)) (b : Begun C R) (lane : Cells) → lane ≡ cells → (at x : ℕ) (k : Option C) → at ≡ length calls.list → slice_get lane.calls at ≡ Some x
      → calls'.list ≡ calls.list ++ (x, k) ∷ [] → k ≡ Some b.call → returns'.list ≡ returns.list → b.notes ≡ returns.list → 0 < returns'.room → IsSession cells calls' returns' (Some b)
  session_begun p none s calls' returns' b lane same at x k many cell e is f n room =
      session_begun_at calls' returns' b x (subst (λ (q : Option (Begun C R)). IsSession cells calls returns q) none s)
      (ap (λ (l : Cells). slice_get l.calls (length calls.list)) (sym same) ∙ (ap (λ (j : ℕ). slice_get lane.calls j) (sym many) ∙ cell))
      (e ∙ ap (λ (y : Option C). calls.list ++ (x, y) ∷ []) is) f n room

  -- the session after the pending call returned
  session_done_at : (returns' : Notes (Entry C R)) (b : Begun C R) (x : ℕ) (r : R) (a : Advice) → IsSession cells calls returns (Some b) → slice_get cells.returns (length returns.list) ≡ Some x
      → returns'.list ≡ returns.list ++ (x, Some (b.call, Some (r, a))) ∷ [] → IsSession {C = C} {R = R} cells calls returns' None
  session_done_at returns' b x r a s at e = record {
    lane = s.lane;
    within = s.within;
    called = subst (λ (ops : List (Returned C R)). Tells known cells.calls calls.list (map (λ (o : Returned C R). o.0) ops)) (sym (ap operations e ∙ operations_more returns.list x b.call r a))
        (subst (λ (cs : List C). Tells known cells.calls calls.list cs) (sym (map-append (λ (o : Returned C R). o.0) (operations returns.list) ((b.call, r, a) ∷ []))) s.called);
    returned = subst (λ (l : List (ℕ × Option (Entry C R))). Tells operation cells.returns l (operations l)) (sym e) (returned_more cells.returns returns.list s.returned x at b.call r a);
    ready = λ d h. absurd (cc);
  }

  module _ (p : Option (Begun C R)) (b : Begun C R) (some : p ≡ Some b) (s : IsSession cells calls returns p) where
    pub with_pending : IsSession cells calls returns (Some b)
    with_pending = subst (λ (q : Option (Begun C R)). IsSession cells calls returns q) some s

    -- what was made ready for the return
    pub pending_notes : b.notes ≡ returns.list
    pending_notes = (with_pending.ready b refl).0

    pub pending_place : (lane : Cells) → lane ≡ cells → length b.notes < length lane.returns
    pending_place lane same = subst (λ (l : Cells). length b.notes < length l.returns) (sym same) (subst (λ (l : List (ℕ × Option (Entry C R))). length l < length cells.returns) (sym pending_notes) (return_place b with_pending))

    pub pending_told : (lane : Cells) → lane ≡ cells → Tells operation lane.returns b.notes (operations b.notes)
    pending_told lane same = subst (λ (l : Cells). Tells operation l.returns b.notes (operations b.notes)) (sym same) (subst (λ (l : List (ℕ × Option (Entry C R))). Tells operation cells.returns l (operations l)) (sym pending_notes) with_pending.returned)

    module _ (returns' : Notes (Entry C R)) (x : ℕ) (k : Option (Entry C R)) (e : returns'.list ≡ returns.list ++ (x, k) ∷ []) (r : R) (a : Advice) (is : k ≡ Some (b.call, Some (r, a))) where
      pushed : returns'.list ≡ returns.list ++ (x, Some (b.call, Some (r, a))) ∷ []
      pushed = e ∙ ap (λ (y : Option (Entry C R)). returns.list ++ (x, y) ∷ []) is

      pub session_done : (lane : Cells) → lane ≡ cells → slice_get lane.returns (length b.notes) ≡ Some x → IsSession {C = C} {R = R} cells calls returns' None
      session_done lane same cell = session_done_at returns' b x r a with_pending (ap (λ (l : Cells). slice_get l.returns (length returns.list)) (sym same) ∙ (ap (λ (l : List (ℕ × Option (Entry C R))). slice_get lane.returns (length l)) (sym pending_notes) ∙ cell)) pushed

      pub done_pushed : operations returns'.list ≡ operations returns.list ++ (b.call, r, a) ∷ []
      done_pushed = ap operations pushed ∙ operations_more returns.list x b.call r a

-- a session that has recorded nothing
module _ {C R : Type 0} where
  pub session_new : (cells : Cells) (calls : Notes C) (returns : Notes (Entry C R)) → IsLane cells → calls.list ≡ [] → returns.list ≡ [] → IsSession {C = C} {R = R} cells calls returns None
  session_new cells calls returns l e f = record {
    lane = l;
    within = subst (λ (ns : List (ℕ × Option C)). length ns ≤ length cells.calls) (sym e) (omega arith);
    called = subst (λ (ns : List (ℕ × Option C)). Tells known cells.calls ns (map (λ (o : Returned C R). o.0) (operations returns.list))) (sym e) (subst (λ (ns : List (ℕ × Option (Entry C R))). Tells known cells.calls [] (map (λ (o : Returned C R). o.0) (operations ns))) (sym f) (tells_none known cells.calls));
    returned = subst (λ (ns : List (ℕ × Option (Entry C R))). Tells operation cells.returns ns (operations ns)) (sym f) (tells_none operation cells.returns);
    ready = λ d h. absurd (cc);
  }
