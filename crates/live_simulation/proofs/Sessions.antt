-- Sessions begin and end operations: what the state shows behind these steps.
use Rattle.std.proofs.Common.{◌≡◌, ◌≢◌, ℕ, ◌+◌, ◌<◌, ◌≤◌, inl, inr, List, [], ◌∷◌, ◌++◌, length, refl, sym, ◌∙◌, ap, arith, subst, length-set}
use Rattle.std.specs.Prelude.{Bool, true, false, Option, Some, None, if◌then◌else◌, slice_get, nat_lt}
use Rattle.std.proofs.lemmas.Bool.{cases_eq, ltb-true}
use Rattle.std.proofs.lemmas.Grind.{get_or-set_at}
use Rattle.std.proofs.lemmas.List.{get_or-set_other}
use Rattle.std.proofs.lemmas.Option.{slice_get_within}
use Rattle.model_history.specs.declared.op_id.OpId.{OpId}
use Rattle.model_history.specs.History.{HistoryValue}
use Rattle.order_causal.specs.Orders.{op}
use Rattle.live_cut_plan.specs.Plans.{Look, fresh_plan, after_looks}
use Rattle.live_cut_plan.specs.Walks.{Stands}
use Rattle.live_seals.specs.Runs.{Event, call_of, return_of, counts_of, look_of, begun, ended, CanFollow, IsRun}
use Rattle.live_seals.specs.Runs.Event.{Began, Ended}
use Rattle.live_seals.proofs.RunPlaces.{ended_fewer, one_pending}
use Rattle.live_seals.proofs.TableLemmas.{none_past}
use Rattle.live_simulation.specs.declared.step.StepOf.TheVariants.{Begin, End}
use Rattle.live_simulation.specs.declared.reply.ReplyOf.{ReplyOf}
use Rattle.live_simulation.specs.declared.reply.ReplyOf.TheVariants.{Done, Refused}
use Rattle.live_simulation.specs.declared.refusal.Refusal.{Refusal}
use Rattle.live_simulation.specs.declared.refusal.Refusal.TheVariants.{LaneFull, WrongReturn, NoSuch}
use Rattle.live_simulation.specs.LaneReplies.{unless, begin_within, end_within, begin_refusal, end_refusal}
use Rattle.live_simulation.specs.Steps.Recordings.{State, Shows, Takes, lane_of, with_lane, with_call, with_return}
use Rattle.live_simulation.proofs.Picked.{picked_not, begun_here, begun_elsewhere, ended_here, ended_elsewhere}
use Rattle.live_simulation.proofs.Recorded.{IsNamed, recorded_more}

-- what it says that nothing refuses a step
if_none : {A : Type 0} (b : Bool) (x : Option A) (y : A) → (if b then x else Some y) ≡ None → (b ≡ true) × (x ≡ None)
if_none true x y e = (refl, e)
if_none false x y e = absurd (cc)

none_if : {A : Type 0} (b : Bool) (y : A) → (if b then None else Some y) ≡ None → b ≡ true
none_if true y e = refl
none_if false y e = absurd (cc)

within_begin : {C : Type 0} (x : Option C) (n : ℕ) → begin_within x n ≡ None → (x ≡ None) × (n < 256)
within_begin (Some c) n e = absurd (cc)
within_begin None n e = (refl, ltb-true n 256 (none_if (nat_lt n 256) LaneFull e))

within_end : {C R : Type 0} (fits : C → R → Bool) (r : R) (x : Option C) → end_within fits r x ≡ None → (c : C) × (x ≡ Some c) × (fits c r ≡ true)
within_end fits r None e = absurd (cc)
within_end fits r (Some c) e = (c, refl, none_if (fits c r) WrongReturn e)

module _ {C R : Type 0} (k s : ℕ) (cs : List C) (rs : List R) where
  pub begin_ok : begin_refusal k s cs rs ≡ None → (s < k) × (slice_get cs (length rs) ≡ None) × (length cs < 256)
  begin_ok e =
      let there = if_none (nat_lt s k) (begin_within (slice_get cs (length rs)) (length cs)) NoSuch e in
      let rest = within_begin (slice_get cs (length rs)) (length cs) there.1 in
      (ltb-true s k there.0, rest.0, rest.1)

  pub end_ok : (fits : C → R → Bool) (r : R) → end_refusal k s cs rs fits r ≡ None → (s < k) × ((c : C) × (slice_get cs (length rs) ≡ Some c) × (fits c r ≡ true))
  end_ok fits r e =
      let there = if_none (nat_lt s k) (end_within fits r (slice_get cs (length rs))) NoSuch e in
      (ltb-true s k there.0, within_end fits r (slice_get cs (length rs)) there.1)

module _ {C R : Type 0} (k : ℕ) (es : List (Event C R)) (run : IsRun k 256 es) (s : ℕ) where
  -- what nothing refuses may happen
  pub begin_can : (c : C) → begin_refusal k s (begun s es) (ended s es) ≡ None → CanFollow k 256 es (Began (op s (length (begun s es))) c)
  begin_can c none =
      let ok = begin_ok k s (begun s es) (ended s es) none in
      let fewer : length (ended s es) ≤ length (begun s es) = ended_fewer k 256 es run s in
      let all : length (begun s es) ≤ length (ended s es) = none_past (begun s es) (length (ended s es)) ok.1 in
      let same : length (ended s es) ≡ length (begun s es) = omega arith in
      (ok.0, ok.2, refl, same)

  pub end_can : (fits : C → R → Bool) (r : R) → end_refusal k s (begun s es) (ended s es) fits r ≡ None → CanFollow k 256 es (Ended (op s (length (ended s es))) r)
  end_can fits r none =
      let ok = end_ok k s (begun s es) (ended s es) fits r none in
      let less : length (ended s es) < length (begun s es) = slice_get_within (begun s es) (length (ended s es)) ok.1.0 ok.1.1 in
      let one : length (begun s es) ≤ length (ended s es) + 1 = one_pending k 256 es run s in
      let next : length (begun s es) ≡ length (ended s es) + 1 = omega arith in
      (next, refl)

module _ {S C R : Type 0} (start : S) (k : ℕ) (es : List (Event C R)) (w : State S C R) (shows : Shows start k es w) where
  -- behind an event of a session
  lane_moved : (e : Event C R) (s : ℕ) (lane : List C × List R) → CanFollow k 256 es e → IsNamed k es e → counts_of e ≡ None → ((z : ℕ) → look_of z e ≡ None)
      → s < k → lane ≡ (begun s (es ++ e ∷ []), ended s (es ++ e ∷ []))
      → ((t : ℕ) → t ≢ s → (begun t (es ++ e ∷ []) ≡ begun t es) × (ended t (es ++ e ∷ []) ≡ ended t es))
      → Shows start k (es ++ e ∷ []) (with_lane w s lane)
  lane_moved e s lane can named no_start no_look below here elsewhere = record {
    begins = shows.begins;
    many = length-set w.lanes s lane ∙ shows.many;
    lanes = λ t. elim (cases_eq t s) [
      | inl same ↦
          get_or-set_at w.lanes s t lane ([], []) same (let many : length w.lanes ≡ k = shows.many in let l : s < k = below in omega arith)
          ∙ (here ∙ ap {B = List C × List R} (λ (x : ℕ). (begun x (es ++ e ∷ []), ended x (es ++ e ∷ []))) (sym same))
      | inr other ↦
          let cs : begun t es ≡ begun t (es ++ e ∷ []) = sym (elsewhere t other).0 in
          let rs : ended t es ≡ ended t (es ++ e ∷ []) = sym (elsewhere t other).1 in
          get_or-set_other w.lanes s t lane ([], []) other ∙ (shows.lanes t ∙ (λ i. (cs i, rs i)))
    ];
    recorded = recorded_more k es shows.recorded e can named;
    as_many = shows.as_many ∙ ap length (sym (picked_not counts_of es e no_start));
    plans = λ z st told at start_at.
        subst (λ (ls : List Look). Stands st (after_looks (fresh_plan k 256 told) ls)) (sym (picked_not (look_of z) es e (no_look z)))
        (shows.plans z st told at (subst (λ (ts : List (List ℕ)). slice_get ts z ≡ Some told) (picked_not counts_of es e no_start) start_at));
  }

  -- why an operation may not begin or end is the same of the state as of what happened
  begin_same : (s : ℕ) → begin_refusal (length w.lanes) s (lane_of w s).0 (lane_of w s).1 ≡ begin_refusal k s (begun s es) (ended s es)
  begin_same s =
      ap (λ (n : ℕ). begin_refusal n s (lane_of w s).0 (lane_of w s).1) shows.many
      ∙ ap (λ (l : List C × List R). begin_refusal k s l.0 l.1) (shows.lanes s)

  end_same : (s : ℕ) (fits : C → R → Bool) (r : R) → end_refusal (length w.lanes) s (lane_of w s).0 (lane_of w s).1 fits r ≡ end_refusal k s (begun s es) (ended s es) fits r
  end_same s fits r =
      ap (λ (n : ℕ). end_refusal n s (lane_of w s).0 (lane_of w s).1 fits r) shows.many
      ∙ ap (λ (l : List C × List R). end_refusal k s l.0 l.1 fits r) (shows.lanes s)

  begin_shows : (s : ℕ) (c : C) → begin_refusal k s (begun s es) (ended s es) ≡ None → Shows start k (es ++ Began (op s (length (begun s es))) c ∷ []) (with_call w s c)
  begin_shows s c none =
      let o : OpId = op s (length (begun s es)) in
      let lane : List C × List R = ((lane_of w s).0 ++ c ∷ [], (lane_of w s).1) in
      let cs : (lane_of w s).0 ++ c ∷ [] ≡ begun s (es ++ Began o c ∷ []) = ap (λ (l : List C × List R). l.0 ++ c ∷ []) (shows.lanes s) ∙ sym (begun_here es o c s refl) in
      let rs : (lane_of w s).1 ≡ ended s (es ++ Began o c ∷ []) = ap (λ (l : List C × List R). l.1) (shows.lanes s) ∙ sym (picked_not (return_of s) es (Began o c) refl) in
      lane_moved (Began o c) s lane (begin_can k es shows.recorded.run s c none) tt refl (λ z. refl) (begin_ok k s (begun s es) (ended s es) none).0 (λ i. (cs i, rs i))
      (λ t other. (begun_elsewhere es o c t (λ e. other (sym e)), picked_not (return_of t) es (Began o c) refl))

  end_shows : (fits : C → R → Bool) (s : ℕ) (r : R) → end_refusal k s (begun s es) (ended s es) fits r ≡ None → Shows start k (es ++ Ended (op s (length (ended s es))) r ∷ []) (with_return w s r)
  end_shows fits s r none =
      let o : OpId = op s (length (ended s es)) in
      let lane : List C × List R = ((lane_of w s).0, (lane_of w s).1 ++ r ∷ []) in
      let cs : (lane_of w s).0 ≡ begun s (es ++ Ended o r ∷ []) = ap (λ (l : List C × List R). l.0) (shows.lanes s) ∙ sym (picked_not (call_of s) es (Ended o r) refl) in
      let rs : (lane_of w s).1 ++ r ∷ [] ≡ ended s (es ++ Ended o r ∷ []) = ap (λ (l : List C × List R). l.1 ++ r ∷ []) (shows.lanes s) ∙ sym (ended_here es o r s refl) in
      lane_moved (Ended o r) s lane (end_can k es shows.recorded.run s fits r none) tt refl (λ z. refl) (end_ok k s (begun s es) (ended s es) fits r none).0 (λ i. (cs i, rs i))
      (λ t other. (picked_not (call_of t) es (Ended o r) refl, ended_elsewhere es o r t (λ e. other (sym e))))

module _ {S C R : Type 0} (fits : C → R → Bool) (w : State S C R) (s : ℕ) where
  pub begin_refused : (c : C) (x : Refusal) → begin_refusal (length w.lanes) s (lane_of w s).0 (lane_of w s).1 ≡ Some x → Takes fits (Begin s c) w (Refused x) w
  begin_refused c x e start k es shows = (
    sym (ap {B = ReplyOf (HistoryValue S C R)} (λ (o : Option Refusal). unless o (Done (op s (length (begun s es))))) (sym (begin_same start k es w shows s) ∙ e)),
    shows,
  )

  pub begin_done : (c : C) (v : State S C R) → begin_refusal (length w.lanes) s (lane_of w s).0 (lane_of w s).1 ≡ None → v ≡ with_call w s c
      → Takes fits (Begin s c) w (Done (op s (length (lane_of w s).0))) v
  begin_done c v e is start k es shows =
      let none : begin_refusal k s (begun s es) (ended s es) ≡ None = sym (begin_same start k es w shows s) ∙ e in
      let many : length (lane_of w s).0 ≡ length (begun s es) = ap (λ (l : List C × List R). length l.0) (shows.lanes s) in (
        ap {B = ReplyOf (HistoryValue S C R)} (λ (n : ℕ). Done (op s n)) many ∙ sym (ap {B = ReplyOf (HistoryValue S C R)} (λ (o : Option Refusal). unless o (Done (op s (length (begun s es))))) none),
        subst (λ (u : State S C R). Shows start k (es ++ Began (op s (length (lane_of w s).0)) c ∷ []) u) (sym is)
            (subst (λ (n : ℕ). Shows start k (es ++ Began (op s n) c ∷ []) (with_call w s c)) (sym many) (begin_shows start k es w shows s c none)),
      )

  pub end_refused : (r : R) (x : Refusal) → end_refusal (length w.lanes) s (lane_of w s).0 (lane_of w s).1 fits r ≡ Some x → Takes fits (End s r) w (Refused x) w
  end_refused r x e start k es shows = (
    sym (ap {B = ReplyOf (HistoryValue S C R)} (λ (o : Option Refusal). unless o (Done (op s (length (ended s es))))) (sym (end_same start k es w shows s fits r) ∙ e)),
    shows,
  )

  pub end_done : (r : R) (v : State S C R) → end_refusal (length w.lanes) s (lane_of w s).0 (lane_of w s).1 fits r ≡ None → v ≡ with_return w s r
      → Takes fits (End s r) w (Done (op s (length (lane_of w s).1))) v
  end_done r v e is start k es shows =
      let none : end_refusal k s (begun s es) (ended s es) fits r ≡ None = sym (end_same start k es w shows s fits r) ∙ e in
      let many : length (lane_of w s).1 ≡ length (ended s es) = ap (λ (l : List C × List R). length l.1) (shows.lanes s) in (
        ap {B = ReplyOf (HistoryValue S C R)} (λ (n : ℕ). Done (op s n)) many ∙ sym (ap {B = ReplyOf (HistoryValue S C R)} (λ (o : Option Refusal). unless o (Done (op s (length (ended s es))))) none),
        subst (λ (u : State S C R). Shows start k (es ++ Ended (op s (length (lane_of w s).1)) r ∷ []) u) (sym is)
            (subst (λ (n : ℕ). Shows start k (es ++ Ended (op s n) r ∷ []) (with_return w s r)) (sym many) (end_shows start k es w shows fits s r none)),
      )

  -- the same, of the operation that is answered
  pub begin_at : (c : C) (v : State S C R) (o : OpId) (n : ℕ) → None ≡ begin_refusal (length w.lanes) s (lane_of w s).0 (lane_of w s).1 → o ≡ op s n → n ≡ length (lane_of w s).0 → v ≡ with_call w s c
      → Takes fits (Begin s c) w (Done o) v
  begin_at c v o n none is many new = subst (λ (x : OpId). Takes fits (Begin s c) w (Done x) v) (sym (is ∙ ap (op s) many)) (begin_done c v (sym none) new)

  pub end_at : (r : R) (v : State S C R) (o : OpId) (n : ℕ) → None ≡ end_refusal (length w.lanes) s (lane_of w s).0 (lane_of w s).1 fits r → o ≡ op s n → n ≡ length (lane_of w s).1 → v ≡ with_return w s r
      → Takes fits (End s r) w (Done o) v
  end_at r v o n none is many new = subst (λ (x : OpId). Takes fits (End s r) w (Done x) v) (sym (is ∙ ap (op s) many)) (end_done r v (sym none) new)
