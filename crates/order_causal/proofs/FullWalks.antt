-- What a walk by the topological rule places: no more than its limits, and where limits are closed no less.
use Rattle.std.specs.Prelude.{◌≡◌, ◌≢◌, ◌⊎◌, ℕ, ◌+◌, ◌-◌, ◌<◌, ◌≤◌, List, length, max, take}
use Rattle.std.proofs.Common.{zero, suc, arith, get_or, sym, ap, subst, ◌∙◌, inl, inr, ⊎_elim, length-take, take_all}
use Rattle.std.proofs.lemmas.Bool.{cases_lt, cases_eq}
use Rattle.std.proofs.lemmas.List.{take_more, get_or_past}
use Rattle.std.proofs.lemmas.Option.{slice_get-get_or}
use Rattle.model_history.specs.declared.op_id.OpId.{OpId}
use Rattle.order_causal.proofs.PushedLaws.{listed-length}
use Rattle.order_causal.proofs.WaitingCycles.{waiting-cycle}
use Rattle.order_causal.proofs.Walked.{within-push}
use Rattle.order_causal.specs.Vectors.{IsListed, Counts, count, list_of}
use Rattle.order_causal.specs.Topological.{IsWalk, IsFullWalk}
use Rattle.order_causal.specs.Schedules.{placed, next_of}

module _ (v : Counts) (limits before whole : List ℕ) (walk : IsWalk v limits before whole) where
  -- a walk is no shorter than the schedule that it goes on from
  pub walk-longer : length before ≤ length whole
  walk-longer =
      let cut = ap (λ (xs : List ℕ). length xs) walk.extends in
      let len = length-take (length before) whole in
      omega arith

  front-within : (n : ℕ) → length before + n ≤ length whole
      → (s : ℕ) → placed (take (length before + n) whole) s ≤ max (placed before s) (get_or limits s 0)
  front-within zero up_to s =
      let none : length before ≡ length before + zero = omega arith in
      let here : placed (take (length before) whole) s ≤ max (placed before s) (get_or limits s 0) =
      subst (λ (xs : List ℕ). placed xs s ≤ max (placed before s) (get_or limits s 0)) (sym walk.extends) (omega arith) in
      subst (λ (n : ℕ). placed (take n whole) s ≤ max (placed before s) (get_or limits s 0)) none here
  front-within (suc n) up_to s =
      let k : ℕ = length before + n in
      let inside : k < length whole = omega arith in
      let t : ℕ = get_or whole k 0 in
      let step = walk.each k t (omega arith) (slice_get-get_or whole k 0 inside) in
      let pushed = within-push limits before (take k whole) t (front-within n (omega arith)) step.can.below s in
      let next : k + 1 ≡ length before + suc n = omega arith in
      subst (λ (m : ℕ). placed (take m whole) s ≤ max (placed before s) (get_or limits s 0)) next
      (subst (λ (xs : List ℕ). placed xs s ≤ max (placed before s) (get_or limits s 0)) (sym (take_more whole k 0 inside)) pushed)

  -- a walk places no more than its limits, or than what was placed before
  pub walk-within : (s : ℕ) → placed whole s ≤ max (placed before s) (get_or limits s 0)
  walk-within s =
      let longer = walk-longer in
      let end : length before + (length whole - length before) ≡ length whole = omega arith in
      let all : take (length before + (length whole - length before)) whole ≡ whole = take_all _ whole (omega arith) in
      subst (λ (xs : List ℕ). placed xs s ≤ max (placed before s) (get_or limits s 0)) all
      (front-within (length whole - length before) (omega arith) s)

-- a session other than s of which more is counted than is placed, or none below n
pub missing : (whole : List ℕ) (s : ℕ) (counts : List ℕ) (n : ℕ)
    → ((t : ℕ) × (t ≢ s) × (placed whole t < get_or counts t 0)) ⊎ ((t : ℕ) → t < n → t ≢ s → get_or counts t 0 ≤ placed whole t)
missing whole s counts zero = inr (λ t below apart. absurd (omega arith))
missing whole s counts (suc n) = ⊎_elim
    (λ (found : (t : ℕ) × (t ≢ s) × (placed whole t < get_or counts t 0)). inl found)
    (λ (none : (t : ℕ) → t < n → t ≢ s → get_or counts t 0 ≤ placed whole t). ⊎_elim
    (λ (own : n ≡ s). inr (λ t below apart. none t (let other : t ≢ n = λ same. apart (same ∙ own) in omega arith) apart))
    (λ (other : n ≢ s). ⊎_elim
    (λ (more : placed whole n < get_or counts n 0). inl (n, other, more))
    (λ (enough : get_or counts n 0 ≤ placed whole n). inr (λ t below apart. ⊎_elim
    (λ (same : t ≡ n). subst (λ (r : ℕ). get_or counts r 0 ≤ placed whole r) (sym same) enough)
    (λ (before : t ≢ n). none t (omega arith) apart)
    (cases_eq t n)))
    (cases_lt (placed whole n) (get_or counts n 0)))
    (cases_eq n s))
    (missing whole s counts n)

module _ (v : Counts) (limits before whole : List ℕ) (full : IsFullWalk v limits before whole) where
  -- the session s has an operation below its limit that isn't placed
  abbrev pub IsOpen : ℕ → Type 0
  IsOpen s = placed whole s < get_or limits s 0

  -- where a next operation below its limit waits only for next operations below theirs, and none waits for itself, all
  -- limits are reached
  module _ (related : OpId → OpId → Type 0) (irreflexive : (a : OpId) → ¬ related a a)
      (transitive : (a b c : OpId) → related a b → related b c → related a c)
      (listed : (s : ℕ) → IsOpen s → IsListed v (next_of whole s))
      (waits : (s t : ℕ) → IsOpen s → t ≢ s → placed whole t < count v (next_of whole s) t
      → IsOpen t × related (next_of whole t) (next_of whole s)) where
    waits-for : (s : ℕ) → IsOpen s → (t : ℕ) × IsOpen t × related (next_of whole t) (next_of whole s)
    waits-for s open_s =
        let counts = list_of v (next_of whole s) in
        ⊎_elim
        (λ (found : (t : ℕ) × (t ≢ s) × (placed whole t < get_or counts t 0)).
        let there = waits s found.0 open_s found.1 found.2 in (found.0, there.0, there.1))
        (λ (none : (t : ℕ) → t < length counts → t ≢ s → get_or counts t 0 ≤ placed whole t).
        absurd (full.ended s (record {
          there = listed s open_s;
          below = open_s;
          ready = λ t apart. ⊎_elim
              (λ (inside : t < length counts). none t inside apart)
              (λ (past : length counts ≤ t). let nothing = get_or_past counts t 0 past in omega arith)
              (cases_lt t (length counts));
        })))
        (missing whole s counts (length counts))

    pub full-walk_reaches : (s : ℕ) → get_or limits s 0 ≤ placed whole s
    full-walk_reaches s = ⊎_elim
        (λ (open_s : placed whole s < get_or limits s 0).
        let cycle = waiting-cycle IsOpen (next_of whole) related (length v)
        (λ t open_t. listed-length v t _ (listed t open_t)) waits-for transitive s open_s in
        absurd (irreflexive cycle.0 cycle.1))
        (λ (reached : get_or limits s 0 ≤ placed whole s). reached)
        (cases_lt (placed whole s) (get_or limits s 0))
