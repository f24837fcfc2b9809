-- What steps say of cases and verdicts, with one step more.
use Rattle.std.proofs.Common.{◌≡◌, ℕ, zero, suc, ◌+◌, ◌<◌, ◌≤◌, ◌⊎◌, inl, inr, List, [], ◌∷◌, ◌++◌, length, length-append, refl, sym, ◌∙◌, ap, subst, arith}
use Rattle.std.specs.Prelude.{Option, Some, None, slice_get}
use Rattle.std.specs.List.{filter_map}
use Rattle.model_history.specs.declared.op_id.OpId.{OpId}
use Rattle.pattern_check.specs.declared.pattern.Pattern.{Pattern}
use Rattle.live_case_board.specs.declared.piece.Piece.{Piece}
use Rattle.live_recorder.proofs.Telling.{get_pushed, get_push_cases, get_push_before}
use Rattle.live_simulation.specs.declared.step.StepOf.{StepOf}
use Rattle.live_simulation.specs.declared.reply.ReplyOf.{ReplyOf}
use Rattle.live_simulation.specs.Cases.{filed, given, put, refuted, took, filings}
use Rattle.live_simulation.specs.Steps.Recordings.{after}
use Rattle.live_simulation.specs.Steps.KeptCases.{Log, log_of, with_given, with_put, with_taken, with_pattern, WasTakenIn, HasVerdictIn, IsKnown}
use Rattle.live_simulation.proofs.Picked.{picked_not, picked_too, if_same, if_other}

module _ {X Y : Type 0} (f : X → Option Y) where
  -- what is picked out of a list with one item more
  pub picked_after : (xs : List X) (x : X) → filter_map f (xs ++ x ∷ []) ≡ after (filter_map f xs) (f x)
  picked_after xs x = by (f x) refl
    where
      by : (o : Option Y) → f x ≡ o → filter_map f (xs ++ x ∷ []) ≡ after (filter_map f xs) o
      by None e = picked_not f xs x e
      by (Some y) e = picked_too f xs x y e

-- what one step adds
abbrev pub log_after : {C R H : Type 0} → StepOf C R → ReplyOf H → Log → Log
log_after step reply l = record {
  puts = after l.puts (put step reply);
  verdicts = after l.verdicts (given step reply);
  patterns = λ c. after (l.patterns c) (refuted c step reply);
  taken = after l.taken (took step reply);
}

module _ {C R H : Type 0} (es : List (StepOf C R × ReplyOf H)) (step : StepOf C R) (reply : ReplyOf H) where
  pub log_more : log_of (es ++ (step, reply) ∷ []) ≡ log_after step reply (log_of es)
  log_more =
      let e_puts = picked_after (λ (e : StepOf C R × ReplyOf H). put e.0 e.1) es (step, reply) in
      let e_verdicts = picked_after (λ (e : StepOf C R × ReplyOf H). given e.0 e.1) es (step, reply) in
      let e_patterns = λ (c : ℕ). picked_after (λ (e : StepOf C R × ReplyOf H). refuted c e.0 e.1) es (step, reply) in
      let e_taken = picked_after (λ (e : StepOf C R × ReplyOf H). took e.0 e.1) es (step, reply) in
      λ i. record { puts = e_puts i; verdicts = e_verdicts i; patterns = λ c. e_patterns c i; taken = e_taken i }

  pub filings_more : filings (es ++ (step, reply) ∷ []) ≡ after (filings es) (filed step reply)
  filings_more = picked_after (λ (e : StepOf C R × ReplyOf H). filed e.0 e.1) es (step, reply)

-- what stands in the front of a longer list
pub get_left : {A : Type 0} (xs ys : List A) (i : ℕ) → i < length xs → slice_get (xs ++ ys) i ≡ slice_get xs i
get_left [] ys i below = absurd (omega arith)
get_left (x ∷ xs) ys zero below = refl
get_left (x ∷ xs) ys (suc i) below = get_left xs ys i (let l : suc i < length (x ∷ xs) = below in omega arith)

-- what stands at a place of a list that is long enough
pub there : {A : Type 0} (xs : List A) (n : ℕ) → n < length xs → (x : A) × (slice_get xs n ≡ Some x)
there [] n below = absurd (omega arith)
there (x ∷ xs) zero below = (x, refl)
there (x ∷ xs) (suc n) below = there xs n (omega arith)

-- two logs say the same of a case
pub record IsSameOf (l m : Log) (c : ℕ) : Type 0 where
  pub to_verdict : (o : OpId) → HasVerdictIn l c o → HasVerdictIn m c o
  pub from_verdict : (o : OpId) → HasVerdictIn m c o → HasVerdictIn l c o
  pub patterns : l.patterns c ≡ m.patterns c
  pub to_taken : (o : OpId) → WasTakenIn l c o → WasTakenIn m c o
  pub from_taken : (o : OpId) → WasTakenIn m c o → WasTakenIn l c o

module _ (l : Log) (n : ℕ) (known : IsKnown l n) where
  -- one more verdict is given: it was not put yet
  module _ (p : Piece) where
    pub given_same : (c : ℕ) → IsSameOf l (with_given l p) c
    given_same c = record {
      to_verdict = λ o h. (h.0, h.1, h.2, get_push_before l.verdicts p h.1 record { number = c; op = o } h.3);
      from_verdict = λ o h. (h.0, h.1, h.2, sym (get_left l.verdicts (p ∷ []) h.1 (known.puts h.0 c h.1 h.2).1) ∙ h.3);
      patterns = refl;
      to_taken = λ o t. t;
      from_taken = λ o t. t;
    }

    pub given_known : IsKnown (with_given l p) n
    given_known = record {
      puts = λ i c v at.
          let k = known.puts i c v at in
          let below : v < length l.verdicts = k.1 in
          let many : length (l.verdicts ++ p ∷ []) ≡ length l.verdicts + 1 = length-append l.verdicts (p ∷ []) in
          (k.0, omega arith);
      patterns = known.patterns;
      taken = known.taken;
    }

  -- a verdict is put to a case
  module _ (c v : ℕ) where
    put_before : (d : ℕ) (o : OpId) → HasVerdictIn l d o → HasVerdictIn (with_put l c v) d o
    put_before d o h = (h.0, h.1, get_push_before l.puts (c, v) h.0 (d, h.1) h.2, h.3)

    pub put_here : (o : OpId) → slice_get l.verdicts v ≡ Some record { number = c; op = o } → HasVerdictIn (with_put l c v) c o
    put_here o is = (length l.puts, v, get_pushed {A = ℕ × ℕ} l.puts (c, v), is)

    pub put_from : (d : ℕ) (o : OpId) → HasVerdictIn (with_put l c v) d o → HasVerdictIn l d o ⊎ ((c ≡ d) × (slice_get l.verdicts v ≡ Some record { number = d; op = o }))
    put_from d o h = elim (get_push_cases l.puts (c, v) h.0 (d, h.1) h.2) [
      | inl before ↦ inl (h.0, h.1, before, h.3)
      | inr last ↦
          let same_case : c ≡ d = ap (λ (p : ℕ × ℕ). p.0) last.1 in
          let same : v ≡ h.1 = ap (λ (p : ℕ × ℕ). p.1) last.1 in
          inr (same_case, ap (λ (w : ℕ). slice_get l.verdicts w) same ∙ h.3)
    ]

    pub put_to : (d : ℕ) (o : OpId) → HasVerdictIn l d o → HasVerdictIn (with_put l c v) d o
    put_to d o h = put_before d o h

    pub put_same : (d : ℕ) → (c ≡ d → ⊥) → IsSameOf l (with_put l c v) d
    put_same d other = record {
      to_verdict = put_before d;
      from_verdict = λ o h. elim (put_from d o h) [ inl before ↦ before | inr last ↦ absurd (other last.0) ];
      patterns = refl;
      to_taken = λ o t. t;
      from_taken = λ o t. t;
    }

    pub put_known : c < n → v < length l.verdicts → IsKnown (with_put l c v) n
    put_known filed given = record {
      puts = λ i d w at.
          elim (get_push_cases l.puts (c, v) i (d, w) at) [
            | inl before ↦ known.puts i d w before
            | inr last ↦ (
              subst (λ (x : ℕ). x < n) (ap (λ (p : ℕ × ℕ). p.0) last.1) filed,
              subst (λ (x : ℕ). x < length l.verdicts) (ap (λ (p : ℕ × ℕ). p.1) last.1) given,
            )
          ];
      patterns = known.patterns;
      taken = known.taken;
    }

  -- a piece is taken
  module _ (p : Piece) where
    pub taken_to : (d : ℕ) (o : OpId) → WasTakenIn l d o → WasTakenIn (with_taken l p) d o
    taken_to d o t = (t.0, get_push_before l.taken p t.0 record { number = d; op = o } t.1)

    pub taken_here : (d : ℕ) (o : OpId) → ◌≡◌ {A = Piece} p record { number = d; op = o } → WasTakenIn (with_taken l p) d o
    taken_here d o e = (length l.taken, get_pushed l.taken p ∙ ap {B = Option Piece} (λ (q : Piece). Some q) e)

    pub taken_from : (d : ℕ) (o : OpId) → WasTakenIn (with_taken l p) d o → WasTakenIn l d o ⊎ (◌≡◌ {A = Piece} p record { number = d; op = o })
    taken_from d o t = elim (get_push_cases l.taken p t.0 record { number = d; op = o } t.1) [
      | inl before ↦ inl (t.0, before)
      | inr last ↦ inr last.1
    ]

    pub taken_same : (d : ℕ) → (p.number ≡ d → ⊥) → IsSameOf l (with_taken l p) d
    taken_same d other = record {
      to_verdict = λ o h. h;
      from_verdict = λ o h. h;
      patterns = refl;
      to_taken = taken_to d;
      from_taken = λ o t. elim (taken_from d o t) [ inl before ↦ before | inr last ↦ absurd (other (ap (λ (q : Piece). q.number) last)) ];
    }

    pub taken_known : p.number < n → IsKnown (with_taken l p) n
    taken_known filed = record {
      puts = known.puts;
      patterns = known.patterns;
      taken = λ i q at.
          elim (get_push_cases l.taken p i q at) [
            | inl before ↦ known.taken i q before
            | inr last ↦ subst (λ (x : Piece). x.number < n) last.1 filed
          ];
    }

  -- a pattern is accepted against a case
  module _ (c : ℕ) (p : Pattern) where
    pub pattern_here : (with_pattern l c p).patterns c ≡ l.patterns c ++ p ∷ []
    pattern_here = ap (λ (o : Option Pattern). after (l.patterns c) o) (if_same c c p refl)

    pattern_elsewhere : (d : ℕ) → (c ≡ d → ⊥) → (with_pattern l c p).patterns d ≡ l.patterns d
    pattern_elsewhere d other = ap (λ (o : Option Pattern). after (l.patterns d) o) (if_other c d p other)

    pub pattern_same : (d : ℕ) → (c ≡ d → ⊥) → IsSameOf l (with_pattern l c p) d
    pattern_same d other = record {
      to_verdict = λ o h. h;
      from_verdict = λ o h. h;
      patterns = sym (pattern_elsewhere d other);
      to_taken = λ o t. t;
      from_taken = λ o t. t;
    }

    pub pattern_known : c < n → IsKnown (with_pattern l c p) n
    pattern_known filed = record {
      puts = known.puts;
      patterns = λ d late. pattern_elsewhere d (λ (e : c ≡ d). absurd (omega arith)) ∙ known.patterns d late;
      taken = known.taken;
    }

  -- one more case is filed
  pub filed_known : (m : ℕ) → n ≤ m → IsKnown l m
  filed_known m more = record {
    puts = λ i c v at. let k = known.puts i c v at in let below : c < n = k.0 in (omega arith, k.1);
    patterns = λ c late. known.patterns c (let l' : m ≤ c = late in omega arith);
    taken = λ i p at. let below : p.number < n = known.taken i p at in omega arith;
  }
