-- The advice of the operations that a seal holds.
use Rattle.std.proofs.Common.{◌≡◌, ℕ, zero, suc, ◌+◌, ◌-◌, ◌<◌, ◌≤◌, List, [], ◌∷◌, ◌++◌, length, inl, inr, refl, sym, ◌∙◌, ap, subst, arith, append_assoc, length-append}
use Rattle.std.specs.Prelude.{Bool, Option, Some, None, option_map, slice_get, slice_index_or, map}
use Rattle.std.specs.List.{flat_map}
use Rattle.std.proofs.lemmas.Bool.{cases_lt}
use Rattle.std.proofs.lemmas.List.{map-append, append-nil, get_or_past}
use Rattle.std.proofs.lemmas.Option.{slice_get_within, get_or_from_slice_get}
use Rattle.std.proofs.lemmas.Grind.{flat_map-append}
use Rattle.model_history.specs.History.{HistoryValue, session, entry}
use Rattle.model_history.specs.declared.advice.Advice.{Advice}
use Rattle.model_history.specs.declared.op_id.OpId.{OpId}
use Rattle.live_recorder.specs.Lanes.{Entry, Returned}
use Rattle.live_recorder.specs.Sessions.{SessionState, session_operation}
use Rattle.live_recorder.proofs.Telling.{get_map, length_map}
use Rattle.live_seals.specs.Seals.{SealState, IsAdvised, advice_of}
use Rattle.live_seals.specs.Steps.Tables.{SealedNotes, IsSealedSession, advice_shown, no_advice, advised, names}
use Rattle.live_seals.specs.Steps.Sealing.{AreSealedSessions}
use Rattle.live_seals.specs.Steps.Comparing.{ReturnAgrees}
use Rattle.live_seals.proofs.TableLemmas.{none_past}
use Rattle.live_seals.proofs.Meetings.{get_in}

module _ {A : Type 0} where
  front_is : (xs ys : List A) (i : ℕ) → i < length xs → slice_get (xs ++ ys) i ≡ slice_get xs i
  front_is [] ys i h = absurd (let h' : i < 0 = h in omega arith)
  front_is (x ∷ xs) ys zero h = refl
  front_is (x ∷ xs) ys (suc i) h = front_is xs ys i (let h' : suc i < suc (length xs) = h in omega arith)

  behind_is : (xs ys : List A) (i : ℕ) → slice_get (xs ++ ys) (length xs + i) ≡ slice_get ys i
  behind_is [] ys i = ap (λ (k : ℕ). slice_get ys k) (let e : 0 + i ≡ i = omega arith in e)
  behind_is (x ∷ xs) ys i = ap (λ (k : ℕ). slice_get (x ∷ (xs ++ ys)) k) (let e : suc (length xs) + i ≡ suc (length xs + i) = omega arith in e) ∙ behind_is xs ys i

  -- one more image behind the others
  pub mapped_more : {B : Type 0} (f : A → B) (before ds ds' : List B) (xs xs' : List A) (x : A) (d : B) → ds ≡ before ++ map f xs → xs' ≡ xs ++ x ∷ [] → ds' ≡ ds ++ d ∷ [] → f x ≡ d → ds' ≡ before ++ map f xs'
  mapped_more f before ds ds' xs xs' x d old more pushed is =
      pushed ∙ (ap (λ l. l ++ d ∷ []) old ∙ (append_assoc before (map f xs) (d ∷ []) ∙ ap (λ l. before ++ l) (ap (λ y. map f xs ++ y ∷ []) (sym is) ∙ sym (ap (map f) more ∙ map-append f xs (x ∷ [])))))

  pub mapped_none : {B : Type 0} (f : A → B) (before : List B) (xs : List A) → xs ≡ [] → before ≡ before ++ map f xs
  mapped_none f before xs e = sym (append-nil before) ∙ ap (λ l. before ++ map f l) (sym e)

module _ {C R : Type 0} where
  advised_return : (l : SealedNotes C R) (i : ℕ) (n : ℕ × Option (Entry C R)) → slice_get l.returns i ≡ Some n → slice_get (advised l) i ≡ Some (advice_shown n)
  advised_return l i n e =
      let w : i < length l.returns = slice_get_within l.returns i n e in
      front_is (map advice_shown l.returns) (map no_advice l.calls) i (subst (λ (k : ℕ). i < k) (sym (length_map advice_shown l.returns)) w) ∙ (get_map advice_shown l.returns i ∙ ap (option_map advice_shown) e)

  advised_call : (l : SealedNotes C R) (i : ℕ) (n : ℕ × Option C) → slice_get l.calls i ≡ Some n → slice_get (advised l) (length l.returns + i) ≡ Some None
  advised_call l i n e =
      ap (λ (k : ℕ). slice_get (advised l) (k + i)) (sym (length_map advice_shown l.returns)) ∙ (behind_is (map advice_shown l.returns) (map no_advice l.calls) i ∙ (get_map no_advice l.calls i ∙ ap (option_map no_advice) e))

  -- what a lane that was sealed advises of a return that agrees
  pub advised_at : (l : SealedNotes C R) (i : ℕ) (o : Option (Returned C R)) → i < length l.returns → ReturnAgrees l.returns i o → (x : Returned C R) → o ≡ Some x → slice_get (advised l) i ≡ Some (Some x.2)
  advised_at l i o h agree x is = let n = get_in l.returns i h in advised_return l i n.0 n.1 ∙ ap (λ (y : Option (Returned C R)). Some (option_map (λ (z : Returned C R). z.2) y)) (agree n.0 n.1 ∙ is)

  pub many_advised : (l : SealedNotes C R) → length (advised l) ≡ length l.returns + length l.calls
  many_advised l = length-append (map advice_shown l.returns) (map no_advice l.calls) ∙ (ap (λ (n : ℕ). n + length (map no_advice l.calls)) (length_map advice_shown l.returns) ∙ ap (λ (n : ℕ). length l.returns + n) (length_map no_advice l.calls))

  -- one more lane
  pub lanes_advised_more : (ds ds' : List (Option Advice)) (ls ls' : List (SealedNotes C R)) (l : SealedNotes C R) → ds ≡ flat_map advised ls → ls' ≡ ls ++ l ∷ [] → ds' ≡ ds ++ advised l → ds' ≡ flat_map advised ls'
  lanes_advised_more ds ds' ls ls' l old more pushed =
      pushed ∙ (ap (λ (x : List (Option Advice)). x ++ advised l) old ∙ (ap (λ (x : List (Option Advice)). flat_map advised ls ++ x) (sym (append-nil (advised l))) ∙ sym (ap (flat_map advised) more ∙ flat_map-append advised ls (l ∷ []))))

  -- the advice of a session
  pub lane_advised : (ls : List (SealedNotes C R)) (s : ℕ) (l : SealedNotes C R) → slice_get ls s ≡ Some l → slice_index_or (map advised ls) s [] ≡ advised l
  lane_advised ls s l e = get_or_from_slice_get (map advised ls) s (advised l) [] (get_map advised ls s ∙ ap (option_map advised) e)

-- the advice that a seal and a session of one recorder both have
pub meet_advice : {S C R : Type 0} (seal : SealState S C R) (mine : SessionState C R) (k : ℕ) (l : SealedNotes C R) → k ≡ mine.lane → slice_get seal.advice k ≡ Some (advised l) → (many : ℕ) → many ≤ length l.returns → many ≤ length mine.done
    → ((i : ℕ) → i < many → ReturnAgrees l.returns i (slice_get mine.done i)) → (i : ℕ) → i < many → advice_of seal (session_operation mine.lane i) ≡ option_map (λ (o : Returned C R). Some o.2) (slice_get mine.done i)
meet_advice {C = C} {R = R} seal mine k l lane at many held done agree i h =
    let w : i < many = h in let p : many ≤ length l.returns = held in let q : many ≤ length mine.done = done in
    let o = get_in mine.done i (omega arith) in
    ap (λ (x : List (Option Advice)). slice_get x i) (get_or_from_slice_get seal.advice mine.lane (advised l) [] (ap (slice_get seal.advice) (sym lane) ∙ at))
    ∙ (advised_at l i (slice_get mine.done i) (omega arith) (agree i h) o.0 o.1 ∙ sym (ap (option_map (λ (x : Returned C R). Some x.2)) o.1))

module _ {S C R : Type 0} (fits : C → R → Bool) (h : HistoryValue S C R) (ls : List (SealedNotes C R)) (a : AreSealedSessions fits h ls) where
  many_at : (s : ℕ) (x : Option (SealedNotes C R)) → slice_get ls s ≡ x → length (slice_index_or (map advised ls) s []) ≡ length (session h s)
  many_at s None e =
      let p : length ls ≤ s = none_past ls s e in let m : length ls ≡ length h.1 = a.many in let n : length (map advised ls) ≡ length ls = length_map advised ls in
      ap length (get_or_past (map advised ls) s [] (omega arith)) ∙ sym (ap length (get_or_past h.1 s [] (omega arith)))
  many_at s (Some l) e = ap length (lane_advised ls s l e) ∙ (many_advised l ∙ sym (a.each s l e).many)

  lane_with : (o : OpId) (e : C × Option R) → entry h o ≡ Some e → (l : SealedNotes C R) × (slice_get ls o.session ≡ Some l)
  lane_with o e at = by (slice_get ls o.session) refl
    where
      by : (x : Option (SealedNotes C R)) → slice_get ls o.session ≡ x → (l : SealedNotes C R) × (slice_get ls o.session ≡ Some l)
      by (Some l) q = (l, q)
      by None q =
          let w : o.index < length (session h o.session) = slice_get_within (session h o.session) o.index e at in
          let p : length ls ≤ o.session = none_past ls o.session q in let m : length ls ≡ length h.1 = a.many in
          let z : length (session h o.session) ≡ 0 = ap length (get_or_past h.1 o.session [] (omega arith)) in absurd (omega arith)

  some_of : (x y : C × Option R) → Some x ≡ Some y → x ≡ y
  some_of x y e = cc

  module _ (o : OpId) (e : C × Option R) (at : entry h o ≡ Some e) (its_lane : SealedNotes C R) (lane : slice_get ls o.session ≡ Some its_lane) where
    advice_is : slice_get (slice_index_or (map advised ls) o.session []) o.index ≡ slice_get (advised its_lane) o.index
    advice_is = ap (λ (x : List (Option Advice)). slice_get x o.index) (lane_advised ls o.session its_lane lane)

    is : IsSealedSession fits (session h o.session) its_lane
    is = a.each o.session its_lane lane

    of_return : o.index < length its_lane.returns → ((r : R) × (e.1 ≡ Some r)) × ((d : Advice) × (slice_get (advised its_lane) o.index ≡ Some (Some d)))
    of_return w =
        let n = get_in its_lane.returns o.index w in let s = is.returned o.index n.0 n.1 in
        ((s.1, sym (ap (λ (x : C × Option R). x.1) (some_of (s.0, Some s.1) e (sym s.3 ∙ at)))), (s.2.0, advised_return its_lane o.index n.0 n.1 ∙ ap (λ (y : Option (Returned C R)). Some (option_map (λ (z : Returned C R). z.2) y)) s.2.1))

    of_call : length its_lane.returns ≤ o.index → (e.1 ≡ None) × (slice_get (advised its_lane) o.index ≡ Some None)
    of_call w =
        let k : o.index < length (session h o.session) = slice_get_within (session h o.session) o.index e at in let m : length (session h o.session) ≡ length its_lane.returns + length its_lane.calls = is.many in
        let w' : length its_lane.returns ≤ o.index = w in
        let n = get_in its_lane.calls (o.index - length its_lane.returns) (omega arith) in let s = is.called (o.index - length its_lane.returns) n.0 n.1 in
        let x : length its_lane.returns + (o.index - length its_lane.returns) ≡ o.index = omega arith in (
          sym (ap (λ (y : C × Option R). y.1) (some_of (s.0, None) e (sym (subst (λ (y : ℕ). slice_get (session h o.session) y ≡ Some (s.0, None)) x s.2) ∙ at))),
          subst (λ (y : ℕ). slice_get (advised its_lane) y ≡ Some None) x (advised_call its_lane (o.index - length its_lane.returns) n.0 n.1),
        )

  returned_with : (o : OpId) (c : C) (x : R) → entry h o ≡ Some (c, Some x) → (d : Advice) × (slice_get (slice_index_or (map advised ls) o.session []) o.index ≡ Some (Some d))
  returned_with o c x at = let l = lane_with o (c, Some x) at in elim (cases_lt o.index (length l.0.returns)) [
    | inl w ↦ let q = (of_return o (c, Some x) at l.0 l.1 w).1 in (q.0, advice_is o (c, Some x) at l.0 l.1 ∙ q.1)
    | inr w ↦ let q : Some x ≡ None = (of_call o (c, Some x) at l.0 l.1 w).0 in absurd (cc)
  ]

  called_with : (o : OpId) (c : C) → entry h o ≡ Some (c, None) → slice_get (slice_index_or (map advised ls) o.session []) o.index ≡ Some None
  called_with o c at = let l = lane_with o (c, None) at in elim (cases_lt o.index (length l.0.returns)) [
    | inl w ↦ let q = (of_return o (c, None) at l.0 l.1 w).0 in let z : None ≡ Some q.0 = q.1 in absurd (cc)
    | inr w ↦ advice_is o (c, None) at l.0 l.1 ∙ (of_call o (c, None) at l.0 l.1 w).1
  ]

  pub is_advised : IsAdvised {S = S} {C = C} {R = R} (record { history = h; cells = map names ls; advice = map advised ls })
  is_advised = record {
    many = λ s. many_at s (slice_get ls s) refl;
    returned = returned_with;
    called = called_with;
  }
