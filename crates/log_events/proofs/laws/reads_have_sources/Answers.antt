use Rattle.log_events.proofs.CutLogs.{cut-allowed, cut-returns}
use Rattle.log_events.proofs.ReadSources.{sources-found}
use Rattle.log_events.proofs.laws.reads_have_sources.Goals as goal

pub returns : goal.returns
returns c = record {
  whole = sources-found;
  cut = λ es n allowed begun. sources-found _ (cut-allowed es n allowed) (cut-returns es n begun);
}
