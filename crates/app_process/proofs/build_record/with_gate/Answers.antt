-- The version and the line on the gate.
use Rattle.std.proofs.Common.{rules, string_bytes}
use Rattle.app_process.proofs.UsageLaws.{some_gate}
use Rattle.app_process.proofs.build_record.with_gate.Goals as goal

pub returns-in-Ok : goal.returns-in-Ok
returns-in-Ok g c = some_gate (string_bytes c.args.text) _ _ (search rules) c.line_of.ensures (search rules)
