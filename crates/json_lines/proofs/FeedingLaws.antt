-- Where the first line of some bytes ends.
use Rattle.std.proofs.Common.{◌≡◌, ◌≢◌, inl, inr, ◌<◌, ◌≤◌, ◌+◌, ◌-◌, drop, ℕ, List, ◌++◌, Some, None, length, take}
use Rattle.std.proofs.Common.{slice_index, sym, ap, subst, ◌∙◌, arith, eqb-true, le_refl, take_all}
use Rattle.std.proofs.lemmas.List.{get_or-append-add, length-append, length-drop}
use Rattle.std.proofs.lemmas.Bool.{cases_lt}
use Rattle.std.proofs.Math.Seq.{take-append-add}
use Rattle.std.proofs.lemmas.List.Elements.{All-append}
use Rattle.memchr.specs.Find.{IsFirstByte, is_byte}
use Rattle.json_lines.specs.declared.feeding.LineEnd.{LineEnd}
use Rattle.json_lines.specs.declared.feeding.LineEnd.TheVariants.{Feed, TooLong}
use Rattle.json_lines.specs.Steps.{EndsIn, IsFree}
use Rattle.json_lines.proofs.FeedLaws.{free-all, free-before}

all_taken : (xs : List ℕ) → take (length xs) xs ≡ xs
all_taken xs = take_all (length xs) xs (le_refl (length xs))

-- a free text of more bytes than are read of a line
pub free_long : (most : ℕ) (xs : List ℕ) → IsFree xs → most < length xs → EndsIn most xs TooLong
free_long most xs free long = (length xs, long, le_refl (length xs), subst IsFree (sym (all_taken xs)) free)

-- the first line feed
pub feed_found : (most : ℕ) (xs : List ℕ) (k : ℕ) (end : LineEnd) → IsFirstByte (is_byte 10) xs (Some k) → k ≤ most → end ≡ Feed k → EndsIn most xs end
feed_found most xs k end found few is =
    let high : k < length xs = found.0.high in
    subst (λ (e : LineEnd). EndsIn most xs e) (sym is)
    (high, eqb-true (slice_index xs k) 10 found.1, free-before xs k found.0.before (omega arith), few)

-- it comes too late
pub feed_late : (most : ℕ) (xs : List ℕ) (k : ℕ) (end : LineEnd) → IsFirstByte (is_byte 10) xs (Some k) → most < k → end ≡ TooLong → EndsIn most xs end
feed_late most xs k end found late is =
    let high : k < length xs = found.0.high in
    subst (λ (e : LineEnd). EndsIn most xs e) (sym is) (k, late, omega arith, free-before xs k found.0.before (omega arith))

-- the bytes from a place on
pub bytes_from : (xs ys : List ℕ) (at : ℕ) → xs ≡ ys → take (length xs - at) (drop at xs) ≡ drop at ys
bytes_from xs ys at same = take_all (length xs - at) (drop at xs) (let size = length-drop at xs in omega arith) ∙ ap (drop at) same

-- it is in bytes that are all there
pub feed_within : (most : ℕ) (xs : List ℕ) (k : ℕ) (end : LineEnd) → IsFirstByte (is_byte 10) xs (Some k)
    → (k ≤ most → end ≡ Feed k) → (most < k → end ≡ TooLong) → EndsIn most xs end
feed_within most xs k end found near late =
    elim (cases_lt most k) [
      | inr few ↦ feed_found most xs k end found few (near few)
      | inl long ↦ feed_late most xs k end found long (late long)
    ]

-- no line is longer than one read call and the most bytes of a line
pub few_after : (most room : ℕ) (xs more ys : List ℕ) → ys ≡ xs ++ more → length xs ≤ most → length more ≤ room → length ys ≤ most + room
few_after most room xs more ys whole few small = omega (arith, ap length whole, length-append xs more)

pub none_free : (xs : List ℕ) → IsFirstByte (is_byte 10) xs None → IsFree xs
none_free xs none = free-all xs none

-- the first line feed in further bytes after free ones
module _ (most : ℕ) (xs more ys : List ℕ) (whole : ys ≡ xs ++ more) (free : IsFree xs) where
  module _ (k : ℕ) (found : IsFirstByte (is_byte 10) more (Some k)) where
    high : length xs + k < length ys
    high = let low : k < length more = found.0.high in omega (arith, ap length whole, length-append xs more)

    feed : slice_index ys (length xs + k) ≡ 10
    feed = ap (λ l. slice_index l (length xs + k)) whole ∙ get_or-append-add xs more k 0 ∙ eqb-true (slice_index more k) 10 found.1

    before : IsFree (take (length xs + k) ys)
    before =
        let low : k < length more = found.0.high in
        let front : IsFree (take k more) = free-before more k found.0.before (omega arith) in
        subst IsFree (sym (ap (take (length xs + k)) whole ∙ take-append-add xs more k)) (All-append (λ b. b ≢ 10) xs (take k more) free front)

    pub feed_after : (end : LineEnd) → (length xs + k ≤ most → end ≡ Feed (length xs + k)) → (most < length xs + k → end ≡ TooLong) → EndsIn most ys end
    feed_after end near late =
        elim (cases_lt most (length xs + k)) [
          | inr few ↦ subst (λ (e : LineEnd). EndsIn most ys e) (sym (near few)) (high, feed, before, few)
          | inl long ↦ subst (λ (e : LineEnd). EndsIn most ys e) (sym (late long)) (length xs + k, long, omega (arith, high), before)
        ]

  pub free_after : IsFirstByte (is_byte 10) more None → IsFree ys
  free_after none = subst IsFree (sym whole) (All-append (λ b. b ≢ 10) xs more free (free-all more none))
