use Rattle.std.proofs.Common.{◌≡◌, ℕ, length, subst, arith}
use Rattle.json_tokens.proofs.FewDigits.{AreDigitsOf, number_of_digits, one_more_digit, room_for_digit}
use Rattle.json_tokens.proofs.digits.number_of_few.Goals as goal

pub overflow_mul-number : goal.overflow_mul-number
overflow_mul-number c =
    let room = room_for_digit c.args.bytes.now c.loop-byte.byte-index c.loop-byte.number (omega arith) c.requires.few c.loop-byte.invariant in
    omega (arith, room)

pub overflow_add-number : goal.overflow_add-number
overflow_add-number c =
    let room = room_for_digit c.args.bytes.now c.loop-byte.byte-index c.loop-byte.number (omega arith) c.requires.few c.loop-byte.invariant in
    omega (arith, room, c.in_ok-number.ensures.small)

pub loop-byte-preserved : goal.loop-byte-preserved
loop-byte-preserved c =
    rw c.in_ok-number.ensures.value (one_more_digit c.args.bytes.now c.loop-byte.byte-index c.loop-byte.number (omega arith) c.loop-byte.invariant (rw (← c.in_ok-number.ensures.value) c.in_ok-number.ensures.small))

pub returns : goal.returns
returns c =
    let s = c.args.bytes.now in
    let n = c.loop-byte.number in
    let over : c.loop-byte.byte-index ≡ length s = omega arith in
    number_of_digits s n c.requires.some c.requires.few (subst (λ (i : ℕ). AreDigitsOf s i n) over c.loop-byte.invariant)
