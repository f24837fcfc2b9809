-- How far a seal and a session hold the same, and what a seal holds of receipts.
use Rattle.std.proofs.Common.{◌≡◌, ℕ, zero, suc, ◌+◌, ◌-◌, ◌<◌, ◌≤◌, List, [], ◌∷◌, ◌++◌, length, inl, inr, refl, sym, ◌∙◌, ap, subst, arith, length-append}
use Rattle.std.specs.Prelude.{Bool, Option, Some, None, option_map, slice_get, map, min, nat_lt, if◌then◌else◌}
use Rattle.std.specs.List.{filter_map}
use Rattle.std.proofs.lemmas.Bool.{cases_lt, lt-ltb, le-ltb}
use Rattle.std.proofs.Math.Nat.{min-eq_left, min-eq_right}
use Rattle.std.proofs.lemmas.List.Elements.{filter_map-append}
use Rattle.model_history.specs.History.{session, entry}
use Rattle.live_recorder.specs.Lanes.{Cells, Entry, Returned}
use Rattle.live_recorder.specs.Sessions.{SessionState, begun, session_operation}
use Rattle.live_recorder.proofs.Telling.{get_map, length_map, length_push, get_push_before}
use Rattle.live_seals.specs.Seals.{SealState, AreReadFrom, known_returns, met_calls, AreOfOne}
use Rattle.live_seals.specs.Steps.Tables.{SealedNotes, IsSealedSession, AreNotesOf, names}
use Rattle.live_seals.specs.Steps.Comparing.{ReturnAgrees, CallAgrees, IsReturnOf, IsCallOf}

module _ {A : Type 0} where
  some_is : (x y : A) → Some x ≡ Some y → x ≡ y
  some_is x y e = cc

  pub get_in : (xs : List A) (i : ℕ) → i < length xs → (x : A) × (slice_get xs i ≡ Some x)
  get_in [] i h = absurd (let h' : i < 0 = h in omega arith)
  get_in (x ∷ xs) zero h = (x, refl)
  get_in (x ∷ xs) (suc i) h = get_in xs i (let h' : suc i < suc (length xs) = h in omega arith)

module _ {C R : Type 0} where
  ret_of : C × Option R → Option R
  ret_of e = e.1

  filtered : (e : C × Option R) (es : List (C × Option R)) → length (filter_map (λ (x : C × Option R). x.1) (e ∷ es)) ≡ length (filter_map (λ (x : C × Option R). x.1) (e ∷ [])) + length (filter_map (λ (x : C × Option R). x.1) es)
  filtered e es = ap length (filter_map-append (λ (x : C × Option R). x.1) (e ∷ []) es) ∙ length-append (filter_map (λ (x : C × Option R). x.1) (e ∷ [])) (filter_map (λ (x : C × Option R). x.1) es)

  -- the returns that are known are those of the first entries
  knowns : (es : List (C × Option R)) (n m : ℕ) → length es ≡ n + m → ((i : ℕ) → i < n → (c : C) × (r : R) × (slice_get es i ≡ Some (c, Some r))) → ((i : ℕ) → i < m → (c : C) × (slice_get es (n + i) ≡ Some (c, None))) → length (filter_map (λ (x : C × Option R). x.1) es) ≡ n
  knowns [] n m e f g = let e' : 0 ≡ n + m = e in omega arith
  knowns (x ∷ es) (suc n) m e f g =
      let h = f 0 (omega arith) in let is : x ≡ (h.0, Some h.1) = some_is x (h.0, Some h.1) h.2 in
      filtered x es ∙ (subst (λ (y : C × Option R). length (filter_map (λ (z : C × Option R). z.1) (y ∷ [])) + length (filter_map (λ (z : C × Option R). z.1) es) ≡ suc n) (sym is)
      (let ih : length (filter_map (λ (z : C × Option R). z.1) es) ≡ n = knowns es n m (let e' : suc (length es) ≡ suc n + m = e in omega arith) (λ i l. f (suc i) (let l' : i < n = l in omega arith)) (λ i l. let k = g i l in (k.0, subst (λ (y : ℕ). slice_get (x ∷ es) y ≡ Some (k.0, None)) (let y : suc n + i ≡ suc (n + i) = omega arith in y) k.1)) in
      let y : 1 + length (filter_map (λ (z : C × Option R). z.1) es) ≡ suc n = omega arith in y))
  knowns (x ∷ es) zero m e f g =
      let some_m : 0 < m = (let e' : suc (length es) ≡ 0 + m = e in omega arith) in
      let h = g 0 some_m in let is : x ≡ (h.0, None) = some_is x (h.0, None) h.1 in
      filtered x es ∙ (subst (λ (y : C × Option R). length (filter_map (λ (z : C × Option R). z.1) (y ∷ [])) + length (filter_map (λ (z : C × Option R). z.1) es) ≡ 0) (sym is)
      (let ih : length (filter_map (λ (z : C × Option R). z.1) es) ≡ 0 = knowns es 0 (m - 1) (let e' : suc (length es) ≡ 0 + m = e in omega arith) (λ i l. absurd (let l' : i < 0 = l in omega arith))
      (λ i l. let k = g (i + 1) (let l' : i < m - 1 = l in omega arith) in (k.0, subst (λ (y : ℕ). slice_get (x ∷ es) y ≡ Some (k.0, None)) (let y : 0 + (i + 1) ≡ suc (0 + i) = omega arith in y) k.1)) in
      let y : 0 + length (filter_map (λ (z : C × Option R). z.1) es) ≡ 0 = omega arith in y))

  module _ (fits : C → R → Bool) (es : List (C × Option R)) (l : SealedNotes C R) (is : IsSealedSession fits es l) where
    pub knowns_are : length (filter_map (λ (x : C × Option R). x.1) es) ≡ length l.returns
    knowns_are = knowns es (length l.returns) (length l.calls) is.many
        (λ i h. let n = get_in l.returns i h in let s = is.returned i n.0 n.1 in (s.0, s.1, s.3))
        (λ i h. let n = get_in l.calls i h in let s = is.called i n.0 n.1 in (s.0, s.2))

    -- what is sealed at a place is what an agreeing note shows
    pub return_at : (i : ℕ) (o : Option (Returned C R)) → i < length l.returns → ReturnAgrees l.returns i o → slice_get es i ≡ option_map (λ (x : Returned C R). (x.0, Some x.1)) o
    return_at i o h a = let n = get_in l.returns i h in let s = is.returned i n.0 n.1 in s.3 ∙ ap (option_map (λ (x : Returned C R). (x.0, Some x.1))) (sym s.2.1 ∙ a n.0 n.1)

    pub call_at : (i : ℕ) (c : Option C) → i < length l.calls → CallAgrees l.calls i c → option_map (λ (x : C × Option R). x.0) (slice_get es (length l.returns + i)) ≡ c
    call_at i c h a = let n = get_in l.calls i h in let s = is.called i n.0 n.1 in ap (option_map (λ (x : C × Option R). x.0)) s.2 ∙ (sym s.1 ∙ a n.0 n.1)

  -- the calls of a session that returned are the first that it began
  pub begun_first : (done : List (Returned C R)) (pending : Option C) (i : ℕ) → i < length done → slice_get (begun done pending) i ≡ option_map (λ (o : Returned C R). o.0) (slice_get done i)
  begun_first done None i h = get_map (λ (o : Returned C R). o.0) done i
  begun_first done (Some c) i h =
      let o = get_in done i h in
      let e : slice_get (map (λ (x : Returned C R). x.0) done) i ≡ Some o.0.0 = get_map (λ (x : Returned C R). x.0) done i ∙ ap (option_map (λ (x : Returned C R). x.0)) o.1 in
      get_push_before (map (λ (x : Returned C R). x.0) done) c i o.0.0 e ∙ ap (option_map (λ (x : Returned C R). x.0)) (sym o.1)

  pub begun_many : (done : List (Returned C R)) (pending : Option C) → length done ≤ length (begun done pending)
  begun_many done None = let e : length (map (λ (o : Returned C R). o.0) done) ≡ length done = length_map (λ (o : Returned C R). o.0) done in omega (arith, e)
  begun_many done (Some c) =
      let e : length (map (λ (o : Returned C R). o.0) done) ≡ length done = length_map (λ (o : Returned C R). o.0) done in
      let f : length (map (λ (o : Returned C R). o.0) done ++ c ∷ []) ≡ length (map (λ (o : Returned C R). o.0) done) + 1 = length_push (map (λ (o : Returned C R). o.0) done) c in omega (arith, e, f)

  -- calls of returns that agree agree
  pub calls_of_returns : (x : Option (C × Option R)) (o : Option (Returned C R)) → x ≡ option_map (λ (y : Returned C R). (y.0, Some y.1)) o → option_map (λ (y : C × Option R). y.0) x ≡ option_map (λ (y : Returned C R). y.0) o
  calls_of_returns x None e = ap (option_map (λ (y : C × Option R). y.0)) e
  calls_of_returns x (Some o) e = ap (option_map (λ (y : C × Option R). y.0)) e

  -- a note with a name among the names
  pub name_at : (ns : List (ℕ × Option (Entry C R))) (i : ℕ) (n : ℕ × Option (Entry C R)) → slice_get ns i ≡ Some n → slice_get (map (λ (m : ℕ × Option (Entry C R)). m.0) ns) i ≡ Some n.0
  name_at ns i n e = get_map (λ (m : ℕ × Option (Entry C R)). m.0) ns i ∙ ap (option_map (λ (m : ℕ × Option (Entry C R)). m.0)) e

pub call_name_at : {C : Type 0} (ns : List (ℕ × Option C)) (i : ℕ) (n : ℕ × Option C) → slice_get ns i ≡ Some n → slice_get (map (λ (m : ℕ × Option C). m.0) ns) i ≡ Some n.0
call_name_at {C} ns i n e = get_map (λ (m : ℕ × Option C). m.0) ns i ∙ ap (option_map (λ (m : ℕ × Option C). m.0)) e

-- the name at a place is one of a note there
named_note : {A : Type 0} (ns : List (ℕ × Option A)) (i x : ℕ) → slice_get (map (λ (m : ℕ × Option A). m.0) ns) i ≡ Some x → (n : ℕ × Option A) × (slice_get ns i ≡ Some n) × (n.0 ≡ x)
named_note {A} ns i x e = by (slice_get ns i) refl
  where
    by : (y : Option (ℕ × Option A)) → slice_get ns i ≡ y → (n : ℕ × Option A) × (slice_get ns i ≡ Some n) × (n.0 ≡ x)
    by None f = let z : option_map (λ (m : ℕ × Option A). m.0) None ≡ Some x = sym (get_map (λ (m : ℕ × Option A). m.0) ns i ∙ ap (option_map (λ (m : ℕ × Option A). m.0)) f) ∙ e in absurd (cc)
    by (Some n) f = let z : Some n.0 ≡ Some x = sym (get_map (λ (m : ℕ × Option A). m.0) ns i ∙ ap (option_map (λ (m : ℕ × Option A). m.0)) f) ∙ e in (n, f, some_is n.0 x z)

module _ {C R : Type 0} where
  -- notes of a lane are named as its cells
  pub read_from : (lane : Cells) (l : SealedNotes C R) → AreNotesOf lane l → AreReadFrom lane (names l)
  read_from lane l a = record {
    returns = λ i x e. let n = named_note l.returns i x e in subst (λ (y : ℕ). slice_get lane.returns i ≡ Some y) n.2 (a.returns i n.0 n.1);
    calls = λ i x e. let n = named_note l.calls i x e in
        subst (λ (y : ℕ). slice_get lane.calls (y + i) ≡ Some x) (sym (length_map (λ (m : ℕ × Option (Entry C R)). m.0) l.returns)) (subst (λ (y : ℕ). slice_get lane.calls (length l.returns + i) ≡ Some y) n.2 (a.calls i n.0 n.1));
  }

  -- a session's cells are those of the notes of its lane
  module _ (fits : C → R → Bool) (es : List (C × Option R)) (l : SealedNotes C R) (cells : Cells) (is : IsSealedSession fits es l) (from : AreReadFrom cells (names l)) where
    pub shares_return : (i : ℕ) → IsReturnOf l.returns i (slice_get cells.returns i)
    shares_return i n e = let s = is.returned i n e in (from.returns i n.0 (name_at l.returns i n e), ((s.0, s.1, s.2.0), s.2.1))

    pub shares_call : (i : ℕ) → IsCallOf l.calls i (slice_get cells.calls (length l.returns + i))
    shares_call i n e =
        let s = is.called i n e in
        (subst (λ (y : ℕ). slice_get cells.calls (y + i) ≡ Some n.0) (length_map (λ (m : ℕ × Option (Entry C R)). m.0) l.returns) (from.calls i n.0 (call_name_at l.calls i n e)), (s.0, s.1))

-- how a seal and a session of one recorder meet, where l has the notes of the session's lane
module _ {S C R : Type 0} (fits : C → R → Bool) (seal : SealState S C R) (mine : SessionState C R) (k : ℕ) (l : SealedNotes C R) (lane : k ≡ mine.lane) (sealed : IsSealedSession fits (session seal.history k) l) (cells : slice_get seal.cells k ≡ Some (names l)) (of : AreOfOne seal mine) where
  es : List (C × Option R)
  es = session seal.history mine.lane

  is_sealed : IsSealedSession fits (session seal.history mine.lane) l
  is_sealed = subst (λ (s : ℕ). IsSealedSession fits (session seal.history s) l) lane sealed

  read_it : AreReadFrom mine.cells (names l)
  read_it = subst (λ (c : Cells). AreReadFrom mine.cells c) (some_is of.0 (names l) (sym of.1 ∙ (ap (slice_get seal.cells) (sym lane) ∙ cells))) of.2

  pub meet_shares_return : (i : ℕ) → IsReturnOf l.returns i (slice_get mine.cells.returns i)
  meet_shares_return i = shares_return fits (session seal.history mine.lane) l mine.cells is_sealed read_it i

  pub meet_shares_call : (i : ℕ) → IsCallOf l.calls i (slice_get mine.cells.calls (length l.returns + i))
  meet_shares_call i = shares_call fits (session seal.history mine.lane) l mine.cells is_sealed read_it i

  known : known_returns seal.history mine.lane ≡ length l.returns
  known = knowns_are fits (session seal.history mine.lane) l is_sealed

  -- the first returns that agree
  module _ (many : ℕ) (held : many ≤ length l.returns) (done : many ≤ length mine.done) (agree : (i : ℕ) → i < many → ReturnAgrees l.returns i (slice_get mine.done i)) where
    pub meet_returns : (i : ℕ) → i < many → entry seal.history (session_operation mine.lane i) ≡ option_map (λ (o : Returned C R). (o.0, Some o.1)) (slice_get mine.done i)
    meet_returns i h = return_at fits (session seal.history mine.lane) l is_sealed i (slice_get mine.done i) (let a : i < many = h in let b : many ≤ length l.returns = held in omega arith) (agree i h)

    pub meet_first_calls : (i : ℕ) → i < many → option_map (λ (e : C × Option R). e.0) (entry seal.history (session_operation mine.lane i)) ≡ slice_get (begun mine.done mine.pending) i
    meet_first_calls i h = calls_of_returns (entry seal.history (session_operation mine.lane i)) (slice_get mine.done i) (meet_returns i h) ∙ sym (begun_first mine.done mine.pending i (let a : i < many = h in let b : many ≤ length mine.done = done in omega arith))

  -- the seal holds more returns than the session
  module _ (d e : ℕ) (is_d : d ≡ length mine.done) (is_e : e ≡ length l.returns) (less : d < e) where
    pub fewer_returns : d ≡ min (known_returns seal.history mine.lane) (length mine.done)
    fewer_returns = is_d ∙ (sym (min-eq_right (let a : d ≡ length mine.done = is_d in let b : e ≡ length l.returns = is_e in let c : d < e = less in let x : length mine.done ≤ length l.returns = omega arith in x)) ∙ ap (λ (n : ℕ). min n (length mine.done)) (sym known))

    pub fewer_calls : d ≡ met_calls seal.history mine
    fewer_calls = is_d ∙ sym (ap (λ (t : Bool). if t then length mine.done else min (length (session seal.history mine.lane)) (length (begun mine.done mine.pending)))
        (ap (nat_lt (length mine.done)) known ∙ lt-ltb (length mine.done) (length l.returns) (let a : d ≡ length mine.done = is_d in let b : e ≡ length l.returns = is_e in let c : d < e = less in omega arith)))

  -- and where it does not
  module _ (d e : ℕ) (is_d : d ≡ length mine.done) (is_e : e ≡ length l.returns) (more : e ≤ d) where
    pub more_returns : e ≡ min (known_returns seal.history mine.lane) (length mine.done)
    more_returns = is_e ∙ (sym (min-eq_left (let a : d ≡ length mine.done = is_d in let b : e ≡ length l.returns = is_e in let c : e ≤ d = more in let x : length l.returns ≤ length mine.done = omega arith in x)) ∙ ap (λ (n : ℕ). min n (length mine.done)) (sym known))

    begun_more : length l.returns ≤ length (begun mine.done mine.pending)
    begun_more = let a : d ≡ length mine.done = is_d in let b : e ≡ length l.returns = is_e in let c : e ≤ d = more in let f : length mine.done ≤ length (begun mine.done mine.pending) = begun_many mine.done mine.pending in omega arith

    sum_min : (r a b : ℕ) → r ≤ b → r + min a (b - r) ≡ min (r + a) b
    sum_min r a b h = elim (cases_lt a (b - r)) [
      | inl c ↦ ap (λ (n : ℕ). r + n) (min-eq_left (let c' : a < b - r = c in let x : a ≤ b - r = omega arith in x)) ∙ sym (min-eq_left (let c' : a < b - r = c in let h' : r ≤ b = h in let x : r + a ≤ b = omega arith in x))
      | inr c ↦ ap (λ (n : ℕ). r + n) (min-eq_right (let c' : b - r ≤ a = c in c')) ∙ ((let h' : r ≤ b = h in let x : r + (b - r) ≡ b = omega arith in x) ∙ sym (min-eq_right (let c' : b - r ≤ a = c in let h' : r ≤ b = h in let x : b ≤ r + a = omega arith in x)))
    ]

    pub more_calls : (n m b : ℕ) → n ≡ length l.calls → m ≡ length (begun mine.done mine.pending) → b ≡ min n (m - e) → e + b ≡ met_calls seal.history mine
    more_calls n m b is_n is_m is_b =
        ap (λ (x : ℕ). e + x) (is_b ∙ (λ i. min (is_n i) (is_m i - is_e i))) ∙ (ap (λ (x : ℕ). x + min (length l.calls) (length (begun mine.done mine.pending) - length l.returns)) is_e
        ∙ (sum_min (length l.returns) (length l.calls) (length (begun mine.done mine.pending)) begun_more
        ∙ (ap (λ (x : ℕ). min x (length (begun mine.done mine.pending))) (sym is_sealed.many)
        ∙ sym (ap (λ (t : Bool). if t then length mine.done else min (length (session seal.history mine.lane)) (length (begun mine.done mine.pending)))
        (ap (nat_lt (length mine.done)) known ∙ le-ltb (length mine.done) (length l.returns) (let a : d ≡ length mine.done = is_d in let f : e ≡ length l.returns = is_e in let c : e ≤ d = more in omega arith))))))

    -- calls of returns, and those behind them
    pub meet_calls : (n b : ℕ) → n ≡ length l.calls → b ≤ n → ((i : ℕ) → i < e → ReturnAgrees l.returns i (slice_get mine.done i)) → ((i : ℕ) → i < b → CallAgrees l.calls i (slice_get (begun mine.done mine.pending) (length l.returns + i)))
        → (i : ℕ) → i < e + b → option_map (λ (x : C × Option R). x.0) (entry seal.history (session_operation mine.lane i)) ≡ slice_get (begun mine.done mine.pending) i
    meet_calls n b is_n within first behind i h = elim (cases_lt i e) [
      | inl c ↦ meet_first_calls e (let f : e ≡ length l.returns = is_e in let x : e ≤ length l.returns = omega arith in x) (let a : d ≡ length mine.done = is_d in let m : e ≤ d = more in let x : e ≤ length mine.done = omega arith in x) first i c
      | inr c ↦
          let at : length l.returns + (i - e) ≡ i = (let f : e ≡ length l.returns = is_e in let c' : e ≤ i = c in omega arith) in
          let place : i - e < b = (let h' : i < e + b = h in let c' : e ≤ i = c in omega arith) in
          let there : i - e < length l.calls = (let p : i - e < b = place in let w : b ≤ n = within in let q : n ≡ length l.calls = is_n in omega arith) in
          subst (λ (j : ℕ). option_map (λ (x : C × Option R). x.0) (entry seal.history (session_operation mine.lane j)) ≡ slice_get (begun mine.done mine.pending) j) at
          (call_at fits (session seal.history mine.lane) l is_sealed (i - e) (slice_get (begun mine.done mine.pending) (length l.returns + (i - e))) there (behind (i - e) place))
    ]
