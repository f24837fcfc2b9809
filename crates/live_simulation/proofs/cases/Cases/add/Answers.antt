use Rattle.live_simulation.proofs.FileSteps.{adds}
use Rattle.live_simulation.proofs.cases.Cases.add.Goals as goal

pub returns : goal.returns
returns g c =
    adds c.args.self.now c.args.file c.in_ok-rows.rows c.filed-number.result c.filed-number.ensures c.in_ok-rows.ensures c.requires c.push_file.new.self c.push_case-number.new.self c.push_case-number.result
    c.in_ok-push_file.ensures c.push_case-number.ensures.filed c.push_case-number.ensures.full
