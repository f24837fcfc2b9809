use Rattle.app_logs.proofs.WitnessLaws.{none_wanted}
use Rattle.app_logs.proofs.witnesses.none_wanted.Goals as goal

pub returns : goal.returns
returns c = λ in_time es criterion found.
    absurd (none_wanted c.unwanted.result c.unwanted.ensures.causal_consistency c.unwanted.ensures.causal_memory
    c.unwanted.ensures.causal_convergence criterion found)
