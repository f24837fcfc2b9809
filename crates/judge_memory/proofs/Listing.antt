-- The sessions that are not finished are listed, one after the other.
use Rattle.std.specs.Prelude.{◌≡◌, ◌≢◌, ℕ, ◌+◌, ◌<◌, ◌≤◌, List, [], ◌∷◌, ◌++◌, length, Some, slice_get}
use Rattle.std.proofs.Common.{arith, refl, sym, ◌∙◌, subst, ⊎_elim}
use Rattle.std.proofs.lemmas.Bool.{cases_lt, cases_eq}
use Rattle.std.proofs.lemmas.List.{length_push}
use Rattle.std.proofs.lemmas.Option.{slice_get_within}
use Rattle.model_history.specs.declared.op_id.OpId.{OpId}
use Rattle.model_history.specs.History.{many_before}
use Rattle.order_causal.proofs.Fronts.{push-at, push-last}
use Rattle.order_memory.specs.Memory.{MemoryHistory}
use Rattle.order_memory.proofs.RaiseLists.{at-left, at-last}
use Rattle.judge_memory.proofs.Numbers.{many-rises}
use Rattle.judge_memory.specs.declared.rounds.Unfinished.{Unfinished}
use Rattle.judge_memory.specs.Placements.{ArePassed, IsPlaced, IsPlacement, IsUnfinished, next_of}
use Rattle.judge_memory.specs.Sessions.{AreUnfinished, IsGoneThrough, IsListed}
use Rattle.judge_memory.proofs.Passing.{passed-more}

-- of the sessions below s those that are not finished are listed, and the edges to their operations that are placed are passed
pub record AreUnfinishedBelow (h : MemoryHistory) (edges : List (ℕ × ℕ)) (next : ℕ → ℕ) (s at : ℕ) (sessions : List Unfinished)
    : Type 0 where
  pub right : (j : ℕ) (u : Unfinished) → slice_get sessions j ≡ Some u → IsGoneThrough h edges next u
  pub each : (t : ℕ) → t < s → IsUnfinished h next t → IsListed sessions t
  pub passed : ArePassed h edges next (many_before h s) at

module _ (h : MemoryHistory) (edges : List (ℕ × ℕ)) (next order : List ℕ) (placement : IsPlacement h edges next order) where
  pub listed-first : AreUnfinishedBelow h edges (next_of next) 0 0 []
  listed-first = record {
    right = λ j u at. absurd cc;
    each = λ t below unfinished. absurd (omega arith);
    passed = λ j from to below at. absurd (omega arith);
  }

  -- the edges that are passed at a number are passed at a greater one
  pub passed-on : (n m at : ℕ) → n ≤ m → ArePassed h edges (next_of next) n at → ArePassed h edges (next_of next) m at
  passed-on n m at up_to passed =
      passed-more h edges (next_of next) (next_of next) n m at (λ (a : OpId) (placed : IsPlaced h (next_of next) a). placed) up_to passed

  module _ (s at : ℕ) (sessions : List Unfinished) (now : AreUnfinishedBelow h edges (next_of next) s at sessions) where
    -- the edges before those to its next operation
    pub listed-passed : s < length h.1 → ArePassed h edges (next_of next) (next_of next s) at
    listed-passed inside = passed-on (many_before h s) (next_of next s) at (placement.from_start s inside) now.passed

    -- a session that is finished is left out
    pub listed-finished : ¬ IsUnfinished h (next_of next) s → AreUnfinishedBelow h edges (next_of next) (s + 1) at sessions
    listed-finished finished = record {
      right = now.right;
      each = λ t below unfinished. ⊎_elim
          (λ (before : t < s). now.each t before unfinished)
          (λ (behind : s ≤ t).
          let here : t ≡ s = omega arith in
          absurd (finished (subst (IsUnfinished h (next_of next)) here unfinished)))
          (cases_lt t s);
      passed = passed-on (many_before h s) (many_before h (s + 1)) at (many-rises h s (s + 1) (omega arith)) now.passed;
    }

    -- another is put at the end
    module _ (u : Unfinished) (is_s : u.session ≡ s) (inside : s < length h.1) (unfinished : IsUnfinished h (next_of next) s)
        (more : ArePassed h edges (next_of next) (next_of next s) u.passed) where
      pub listed-more : AreUnfinishedBelow h edges (next_of next) (s + 1) u.passed (sessions ++ u ∷ [])
      listed-more = record {
        right = λ j v at. ⊎_elim
            (λ (before : j < length sessions). now.right j v (push-at sessions u j v before at))
            (λ (behind : length sessions ≤ j).
            let within = slice_get_within (sessions ++ u ∷ []) j v at in
            let size = length_push sessions u in
            let here : j ≡ length sessions = omega arith in
            let same : u ≡ v = push-last sessions u v (subst (λ (i : ℕ). slice_get (sessions ++ u ∷ []) i ≡ Some v) here at) in
            subst (IsGoneThrough h edges (next_of next)) same (record {
              session = (let is = is_s in omega arith);
              passed = subst (λ (t : ℕ). ArePassed h edges (next_of next) (next_of next t) u.passed) (sym is_s) more;
            }))
            (cases_lt j (length sessions));
        each = λ t below left. ⊎_elim
            (λ (here : t ≡ s). (length sessions, u, at-last sessions u (length sessions) refl, is_s ∙ sym here))
            (λ (apart : t ≢ s).
            let found = now.each t (omega arith) left in
            (found.0, found.1, at-left sessions (u ∷ []) found.0 found.1 found.2, found.3))
            (cases_eq t s);
        passed = passed-on (next_of next s) (many_before h (s + 1)) u.passed (omega arith) more;
      }

    -- at the end all are listed
    pub listed-whole : length h.1 ≤ s → AreUnfinished h edges (next_of next) sessions
    listed-whole whole = record { right = now.right; each = λ t inside unfinished. now.each t (omega arith) unfinished }
