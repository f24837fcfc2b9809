use Rattle.serde_json.specs.View.{view}
use Rattle.live_script.proofs.Uncut.{any_uncut}
use Rattle.live_script.proofs.arguments.next_return.Goals as goal

pub returns-clause-read : goal.returns-clause-read
returns-clause-read g c =
    let seen = c.in_ok-value.ensures.read in (
      seen.0,
      seen.1,
      any_uncut g.F.StepForms.return_form seen.0 g.met.F.StepForms.return_kept (view c.in_ok-value.value) seen.2
          c.read_return-ret.result c.read_return-ret.ensures,
    )
