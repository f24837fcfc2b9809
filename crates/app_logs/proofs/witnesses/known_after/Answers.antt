use Rattle.app_logs.proofs.WitnessLaws.{each_found}
use Rattle.app_logs.proofs.witnesses.known_after.Goals as goal

pub returns : goal.returns
returns c = λ criterion found.
    each_found c.args.witnesses (record { cc = c.found_in.result; cm = c.found_in-2.result; ccv = c.found_in-3.result }) c.args.report.now
    c.found_in.ensures c.found_in-2.ensures c.found_in-3.ensures criterion found
