-- Why null reads can't have seen what would be a candidate.
use Rattle.std.proofs.Common.{◌≡◌, ℕ, [], inl, inr, sym, subst, ◌∙◌, arith}
use Rattle.std.specs.Prelude.{◌≢◌, Bool, List, All, Some, slice_get}
use Rattle.std.proofs.lemmas.Option.{same_Some}
use Rattle.log_events.specs.declared.event.Event.{Event}
use Rattle.log_choices.specs.Exclusions.{IsExclusion, IsReason}
use Rattle.log_choices.specs.Choices.{BeginsKeptDelete}
use Rattle.log_choices.specs.Forced.{BeginsWriteOf, Comes, replaced}
use Rattle.log_choices.specs.ForcedSteps.{GetsNothing, IsExcluded, IsKeptWrite, IsReplacing}
use Rattle.log_choices.specs.declared.exclusions.Reason.{Reason}
use Rattle.log_choices.specs.declared.exclusions.Reason.TheVariants.{Later, AfterRead, ReplacedBy}
use Rattle.log_choices.specs.declared.forced_kept.Kept.{Kept}
use Rattle.log_choices.specs.declared.forced_looks.NullRead.{NullRead}
use Rattle.log_choices.specs.declared.seen.Seen.TheVariants.{Start, Delete}
use Rattle.log_choices.proofs.ForcedCalls.{all-at}
use Rattle.log_choices.proofs.ForcedLooks.{after-out, begins-write, null-read}

module _ (in_time : Bool) (es : List Event) (read : NullRead) (writes : List Kept) (all : All (IsKeptWrite in_time es) writes) where
  -- a write of the key that comes before the read
  before-read : (n : ℕ) → IsReplacing in_time es writes read.key read.place n → (w : Kept) → slice_get writes n ≡ Some w
      → BeginsWriteOf es read.key w.place × Comes in_time es w.place read.place
  before-read n (v, at, key, before) w there =
      let same : v ≡ w = same_Some _ _ (sym at ∙ there) in (
        subst (λ (x : ℕ). BeginsWriteOf es x w.place) (subst (λ (u : Kept). u.key ≡ read.key) same key)
            (begins-write in_time es w (all-at (IsKeptWrite in_time es) writes n w all there)),
        subst (λ (u : Kept). Comes in_time es u.place read.place) same before,
      )

  -- it replaced a delete that it comes after
  pub by-replacing : (p n b : ℕ) → IsReplacing in_time es writes read.key read.place n → (w : Kept) → slice_get writes n ≡ Some w → w.place ≡ b → b ≢ p
      → Comes in_time es p b → IsReason in_time es read.place read.key read.end (Some p) (ReplacedBy b)
  by-replacing p n b replacing w there place other comes =
      let (begins, before) = before-read n replacing w there in (
        subst (λ (m : ℕ). BeginsWriteOf es read.key m) place begins,
        other,
        comes,
        subst (λ (m : ℕ). Comes in_time es m read.place) place before,
      )

  -- and the start
  pub start-by-replacing : (n : ℕ) → GetsNothing es read → IsReplacing in_time es writes read.key read.place n → (w : Kept) → slice_get writes n ≡ Some w
      → IsExclusion in_time es read.place (record { seen = Start; reason = ReplacedBy w.place })
  start-by-replacing n gets replacing w there =
      let reason = before-read n replacing w there in
      record { client = read.client; key = read.key; ends = read.end; ended = gets.ended; reason = reason }

-- a reason makes an exclusion
pub excluded-by : (in_time : Bool) (es : List Event) (read : NullRead) → GetsNothing es read → (p : ℕ) (reason : Reason)
    → IsReason in_time es read.place read.key read.end (Some p) reason
    → IsExclusion in_time es read.place (record { seen = Delete p; reason = reason })
excluded-by in_time es read gets p reason is = record { client = read.client; key = read.key; ends = read.end; ended = gets.ended; reason = is }

-- of a read nothing is excluded yet
pub none-excluded : (in_time : Bool) (es : List Event) (r : ℕ) → All (IsExclusion in_time es r) []
none-excluded in_time es r k e below = absurd (omega arith)

-- what can't have been seen for a reason is excluded
pub reason-excludes : (in_time : Bool) (es : List Event) (read : NullRead) → GetsNothing es read → (p : ℕ) → BeginsKeptDelete es read.key p → (reason : Reason)
    → IsReason in_time es read.place read.key read.end (Some p) reason → IsExcluded in_time es read.place read.end p
reason-excludes in_time es read gets p kept Later late = inr late
reason-excludes in_time es read gets p kept AfterRead comes = inl (after-out in_time es read gets p p kept comes)
reason-excludes in_time es read gets p kept (ReplacedBy b) (begins, other, comes, before) =
    inl (replaced read.client read.key read.end b (null-read in_time es read gets p kept) begins other comes before)
