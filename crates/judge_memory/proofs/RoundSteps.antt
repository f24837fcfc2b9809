-- A round over the sessions that are not finished: those before a place have been run, and some of these are kept.
use Rattle.std.specs.Prelude.{◌≡◌, ◌≢◌, ◌⊎◌, ℕ, ◌+◌, ◌<◌, ◌≤◌, List, length, take, Some, slice_get, slice_set}
use Rattle.std.proofs.Common.{arith, ap, sym, ◌∙◌, subst, inl, inr, ⊎_elim, get_or}
use Rattle.std.proofs.lemmas.Bool.{cases_eq}
use Rattle.std.proofs.lemmas.List.{length-set, get_or-set_same, get_or-set_other}
use Rattle.std.proofs.lemmas.Option.{same_Some, slice_get_within, slice_get-get_or, get_or_from_slice_get}
use Rattle.model_history.specs.declared.op_id.OpId.{OpId}
use Rattle.order_causal.proofs.Fronts.{take-from, take-stands}
use Rattle.order_memory.specs.Memory.{MemoryHistory}
use Rattle.judge_memory.specs.declared.rounds.Unfinished.{Unfinished}
use Rattle.judge_memory.specs.Placements.{IsPlaced, IsUnfinished, IsPlacement, IsGrownFrom, next_of}
use Rattle.judge_memory.specs.Sessions.{AreStuck, AreUnfinished, IsGoneThrough, IsStuck}
use Rattle.judge_memory.proofs.Passing.{passed-more}
use Rattle.judge_memory.proofs.Placings.{grown-first, grown-grown}

-- what stands in a list with another element at a place
module _ {X : Type 0} (xs : List X) (i : ℕ) (y : X) where
  set-here : i < length xs → slice_get (slice_set xs i y) i ≡ Some y
  set-here below =
      let size = length-set xs i y in
      slice_get-get_or (slice_set xs i y) i y (omega arith) ∙ ap (λ (x : X). Some x) (get_or-set_same xs i y y below)

  set-other : (k : ℕ) (x : X) → k ≢ i → slice_get xs k ≡ Some x → slice_get (slice_set xs i y) k ≡ Some x
  set-other k x apart at =
      let size = length-set xs i y in
      let within = slice_get_within xs k x at in
      slice_get-get_or (slice_set xs i y) k x (omega arith)
      ∙ ap (λ (z : X). Some z) (get_or-set_other xs i k y x apart ∙ get_or_from_slice_get xs k x x at)

  set-cases : (k : ℕ) (x : X) → i < length xs → slice_get (slice_set xs i y) k ≡ Some x
      → ((k ≡ i) × (y ≡ x)) ⊎ ((k ≢ i) × (slice_get xs k ≡ Some x))
  set-cases k x below at =
      let size = length-set xs i y in
      let within = slice_get_within (slice_set xs i y) k x at in
      let is = get_or_from_slice_get (slice_set xs i y) k x x at in
      ⊎_elim
      (λ (here : k ≡ i). inl (here, sym (get_or-set_same xs i y x below) ∙ subst (λ (j : ℕ). get_or (slice_set xs i y) j x ≡ x) here is))
      (λ (apart : k ≢ i). inr (
        apart,
        slice_get-get_or xs k x (omega arith) ∙ ap (λ (z : X). Some z) (sym (get_or-set_other xs i k y x apart) ∙ is),
      ))
      (cases_eq k i)

-- the session t is listed among the kept ones, or at the place or after it
abbrev pub IsLeft : List Unfinished → ℕ → ℕ → ℕ → Type 0
IsLeft sessions kept place t =
    (j : ℕ) × (u : Unfinished) × (slice_get sessions j ≡ Some u) × (u.session ≡ t) × ((j < kept) ⊎ (place ≤ j))

-- the sessions before the place have been run, and of these the kept ones stand first
pub record IsRound (h : MemoryHistory) (edges : List (ℕ × ℕ)) (begun first next order : List ℕ) (sessions : List Unfinished) (kept place : ℕ)
    : Type 0 where
  pub few : kept ≤ place
  pub placement : IsPlacement h edges next order
  pub grown : IsGrownFrom begun first next order
  pub right : (j : ℕ) (u : Unfinished) → slice_get sessions j ≡ Some u → IsGoneThrough h edges (next_of next) u
  pub each : (t : ℕ) → t < length h.1 → IsUnfinished h (next_of next) t → IsLeft sessions kept place t
  pub stuck : length first ≡ length order → (j : ℕ) (u : Unfinished) → j < kept → slice_get sessions j ≡ Some u
      → IsStuck h edges (next_of next) u.session

module _ (h : MemoryHistory) (edges : List (ℕ × ℕ)) where
  pub round-first : (next order : List ℕ) (sessions : List Unfinished) → IsPlacement h edges next order
      → AreUnfinished h edges (next_of next) sessions → IsRound h edges next order next order sessions 0 0
  round-first next order sessions placement are = record {
    few = omega arith;
    placement = placement;
    grown = grown-first next order;
    right = are.right;
    each = λ t inside unfinished. (let found = are.each t inside unfinished in (found.0, found.1, found.2, found.3, inr (omega arith)));
    stuck = λ as_long j u below at. absurd (omega arith);
  }

  module _ (begun first next order : List ℕ) (sessions : List Unfinished) (kept place : ℕ)
      (now : IsRound h edges begun first next order sessions kept place) where
    -- more is placed
    pub round-more : (after longer : List ℕ) → IsPlacement h edges after longer → IsGrownFrom next order after longer
        → IsRound h edges begun first after longer sessions kept place
    round-more after longer placement grown = record {
      few = now.few;
      placement = placement;
      grown = grown-grown begun first next order after longer now.grown grown;
      right = λ j u at. (let was = now.right j u at in record {
        session = was.session;
        passed = passed-more h edges (next_of next) (next_of after) (next_of next u.session) (next_of after u.session) u.passed
            (λ (a : OpId) (placed : IsPlaced h (next_of next) a). let more = grown.rises a.session in omega arith)
            (grown.rises u.session) was.passed;
      });
      each = λ t inside unfinished. (let more = grown.rises t in now.each t inside (omega arith));
      stuck = λ as_long j u below at. (
          let one = now.grown.longer in
          let two = grown.longer in
          subst (λ (xs : List ℕ). IsStuck h edges (next_of xs) u.session) (grown.same (omega arith)) (now.stuck (omega arith) j u below at)
          );
    }

    module _ (u : Unfinished) (at_place : slice_get sessions place ≡ Some u) where
      -- a session that is looked for stands elsewhere, or it is this one
      each-cases : (t : ℕ) → t < length h.1 → IsUnfinished h (next_of next) t → (t ≡ u.session)
          ⊎ IsLeft sessions kept (place + 1) t
      each-cases t inside unfinished =
          let found = now.each t inside unfinished in
          let j : ℕ = found.0 in
          let v : Unfinished = found.1 in
          ⊎_elim
          (λ (before : j < kept). inr (j, v, found.2, found.3, inl before))
          (λ (behind : place ≤ j). ⊎_elim
          (λ (here : j ≡ place).
          let same : u ≡ v = same_Some u v (sym at_place ∙ subst (λ (i : ℕ). slice_get sessions i ≡ Some v) here found.2) in
          inl (sym found.3 ∙ ap (λ (w : Unfinished). w.session) (sym same)))
          (λ (apart : j ≢ place). inr (j, v, found.2, found.3, inr (omega arith)))
          (cases_eq j place))
          found.4

      -- the session at the place is finished
      pub round-finished : ¬ IsUnfinished h (next_of next) u.session → IsRound h edges begun first next order sessions kept (place + 1)
      round-finished finished = record {
        few = (let up_to = now.few in omega arith);
        placement = now.placement;
        grown = now.grown;
        right = now.right;
        each = λ t inside unfinished. ⊎_elim
            (λ (same : t ≡ u.session). absurd (finished (subst (IsUnfinished h (next_of next)) same unfinished)))
            (λ (found : IsLeft sessions kept (place + 1) t). found)
            (each-cases t inside unfinished);
        stuck = now.stuck;
      }

      -- it waits, and is kept
      module _ (at : Unfinished) (same_session : at.session ≡ u.session) (gone : IsGoneThrough h edges (next_of next) at)
          (waits : IsStuck h edges (next_of next) at.session) where
        kept-within : kept < length sessions
        kept-within = let up_to = now.few in let within = slice_get_within sessions place u at_place in omega arith

        kept-each : (t : ℕ) → t < length h.1 → IsUnfinished h (next_of next) t
            → IsLeft (slice_set sessions kept at) (kept + 1) (place + 1) t
        kept-each t inside unfinished = ⊎_elim
            (λ (same : t ≡ u.session). (kept, at, set-here sessions kept at kept-within, same_session ∙ sym same, inl (omega arith)))
            (λ (found : IsLeft sessions kept (place + 1) t).
            let up_to = now.few in
            let j : ℕ = found.0 in
            let v : Unfinished = found.1 in
            ⊎_elim
            (λ (before : j < kept). (j, v, set-other sessions kept at j v (omega arith) found.2, found.3, inl (omega arith)))
            (λ (behind : place + 1 ≤ j). (j, v, set-other sessions kept at j v (omega arith) found.2, found.3, inr behind))
            found.4)
            (each-cases t inside unfinished)

        pub round-kept : IsRound h edges begun first next order (slice_set sessions kept at) (kept + 1) (place + 1)
        round-kept = record {
          few = (let up_to = now.few in omega arith);
          placement = now.placement;
          grown = now.grown;
          right = λ j v at_j. ⊎_elim
              (λ (here : (j ≡ kept) × (at ≡ v)). subst (IsGoneThrough h edges (next_of next)) here.1 gone)
              (λ (other : (j ≢ kept) × (slice_get sessions j ≡ Some v)). now.right j v other.1)
              (set-cases sessions kept at j v kept-within at_j);
          each = kept-each;
          stuck = λ as_long j v below at_j. ⊎_elim
              (λ (here : (j ≡ kept) × (at ≡ v)). subst (λ (w : Unfinished). IsStuck h edges (next_of next) w.session) here.1 waits)
              (λ (other : (j ≢ kept) × (slice_get sessions j ≡ Some v)).
              let apart = other.0 in
              now.stuck as_long j v (omega arith) other.1)
              (set-cases sessions kept at j v kept-within at_j);
        }

    -- when all have been run, the kept ones are those that are not finished
    pub round-unfinished : length sessions ≤ place → AreUnfinished h edges (next_of next) (take kept sessions)
    round-unfinished whole = record {
      right = λ j u at. now.right j u (take-from kept sessions j u at).1;
      each = λ t inside unfinished. (
          let found = now.each t inside unfinished in
          let within = slice_get_within sessions found.0 found.1 found.2 in
          ⊎_elim
          (λ (before : found.0 < kept). (found.0, found.1, take-stands kept sessions found.0 found.1 before found.2, found.3))
          (λ (behind : place ≤ found.0). absurd (omega arith))
          found.4
          );
    }

    pub round-stuck : length first ≡ length order → AreStuck h edges (next_of next) (take kept sessions)
    round-stuck as_long j u at = let from = take-from kept sessions j u at in now.stuck as_long j u from.0 from.1
