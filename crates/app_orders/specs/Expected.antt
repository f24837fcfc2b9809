-- The criteria that are expected to be met.
use Rattle.std.specs.Prelude.{false}
use Rattle.app_orders.specs.declared.expected.Expected.{Expected}

abbrev pub expecting_nothing : Expected
expecting_nothing = record { cc = false; cm = false; ccv = false }
