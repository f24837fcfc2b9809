use Rattle.serde_json.specs.View.{view}
use Rattle.live_script.proofs.Uncut.{read_uncut}
use Rattle.live_script.proofs.arguments.next_call.Goals as goal

pub returns-clause-read : goal.returns-clause-read
returns-clause-read g c =
    let seen = c.in_ok-value.ensures.read in (
      seen.0,
      seen.1,
      read_uncut g.F.StepForms.is_call g.F.StepForms.call_form seen.0 (λ call is. g.met.F.StepForms.call_kept call) (view c.in_ok-value.value) seen.2
          c.read_call-call.result c.read_call-call.ensures,
    )
