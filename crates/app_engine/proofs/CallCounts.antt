-- How many read calls are made, where those that bring no byte are bounded in a row.
use Rattle.std.proofs.Common.{◌≡◌, ◌<◌, ◌≤◌, ◌+◌, ◌*◌, ℕ, zero, suc, Ok, Err, ap, arith, add-mul, mul-le-mul_right, inl, inr}
use Rattle.json_lines.specs.ReadCalls.{CallOutcome, Calls, CallsAtMost, GoesOn}
use Rattle.app_engine.specs.ReadCalls.{GivesBytes, GoOnIdle, IdlesAtMost, idle_after}

module _ {S : Type 0} (called : S → CallOutcome → S → Type 0) (most : ℕ) (count : S → ℕ)
    (keeps : (a : S) (outcome : CallOutcome) (b : S) → called a outcome b → count a ≤ count b)
    (grows : (a : S) (outcome : CallOutcome) (b : S) → called a outcome b → GivesBytes outcome → count a < count b) where
  -- so many calls, of which the last ones brought no byte
  record IsCounted (n idle : ℕ) (old new : S) : Type 0 where
    few : idle ≤ most
    calls : Calls called n old new
    counted : n + count old * most ≤ count new * most + idle

  module _ (n before : ℕ) (old between new : S) (is : IsCounted n before old between) (room : before < most) where
    after : (outcome : CallOutcome) → GoesOn outcome → called between outcome new → (idle : ℕ) → idle ≡ idle_after outcome before → IsCounted (suc n) idle old new
    unfolding Calls
    after (Ok bytes) on call idle same =
        let more : count between < count new = grows between (Ok bytes) new call on in
        let more_times : (count between + 1) * most ≤ count new * most = mul-le-mul_right most (omega (arith, more)) in
        let apart : (count between + 1) * most ≡ count between * most + 1 * most = add-mul (count between) 1 most in
        let counted = is.counted in
        record { few = omega (arith, same); calls = (between, is.calls, (Ok bytes, call)); counted = omega (arith, more_times, apart, counted, room, same) }
    after (Err e) on call idle same =
        let no_less : count between * most ≤ count new * most = mul-le-mul_right most (keeps between (Err e) new call) in
        let counted = is.counted in
        record { few = omega (arith, room, same); calls = (between, is.calls, (Err e, call)); counted = omega (arith, no_less, counted, same) }

  counted_idle : (n idle : ℕ) (old new : S) → GoOnIdle called most n idle old new → IsCounted n idle old new
  unfolding GoOnIdle Calls
  counted_idle zero idle old new gone =
      let same : count old * most ≡ count new * most = ap (λ (s : S). count s * most) gone.0 in
      record { few = omega (arith, gone.1); calls = gone.0; counted = omega (arith, same, gone.1) }
  counted_idle (suc n) idle old new gone =
      let outcome = gone.1 in
      after n gone.2 old gone.0 new (counted_idle n gone.2 old gone.0 gone.3) gone.4 outcome gone.5 gone.6 idle gone.7

  -- the growth of the count bounds the calls, with one more at the end
  module _ (bytes : ℕ) (old new : S) (growth : count new ≤ count old + bytes) where
    bound : count new * most ≤ count old * most + bytes * most
    bound =
        let times : count new * most ≤ (count old + bytes) * most = mul-le-mul_right most growth in
        let apart : (count old + bytes) * most ≡ count old * most + bytes * most = add-mul (count old) bytes most in
        omega (arith, times, apart)

    one_more : (bytes + 1) * most ≡ bytes * most + 1 * most
    one_more = add-mul bytes 1 most

    pub idles_bounded : IdlesAtMost called most old new → CallsAtMost called ((bytes + 1) * most) old new
    unfolding Calls
    idles_bounded (inl going) =
        let is = counted_idle going.0 going.1 old new going.2 in
        (going.0, omega (arith, is.counted, is.few, bound, one_more), is.calls)
    idles_bounded (inr ended) =
        let is = counted_idle ended.0 ended.1 old ended.2 ended.4 in
        let no_less : count ended.2 * most ≤ count new * most = mul-le-mul_right most (keeps ended.2 ended.3 new ended.7) in
        (suc ended.0, omega (arith, is.counted, no_less, bound, one_more, ended.5), (ended.2, is.calls, (ended.3, ended.7)))
