-- The numbers that words write. Text is bytes.
use Rattle.std.specs.Prelude.{◌≡◌, ◌≤◌, ℕ}
use Rattle.std.specs.Str.Parse.{IsNumeral, digits_value, without_leading_plus}
use Rattle.clap.specs.Words.{Text}
use Rattle.app_orders.specs.declared.listing.TheConstants.{MAX_LISTED}
use Rattle.app_orders.specs.declared.log_order.TheConstants.{MAX_EVERY}
use Rattle.app_orders.specs.declared.manner.TheConstants.{MAX_LEAST_READS}

-- a text writes a number: decimal digits, and perhaps a plus before them
abbrev pub Writes : Text → ℕ → Type 0
Writes text n = IsNumeral 10 (without_leading_plus text) × (digits_value 10 (without_leading_plus text) ≡ n)

-- so many reads may be listed
abbrev pub IsListed : ℕ → Type 0
IsListed n = (1 ≤ n) × (n ≤ MAX_LISTED)

-- a log may be judged after each so many events
abbrev pub IsEvery : ℕ → Type 0
IsEvery n = (1 ≤ n) × (n ≤ MAX_EVERY)

-- at least so many reads may be asked for
abbrev pub IsLeast : ℕ → Type 0
IsLeast n = (1 ≤ n) × (n ≤ MAX_LEAST_READS)
