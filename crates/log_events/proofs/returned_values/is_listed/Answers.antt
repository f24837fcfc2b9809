use Rattle.log_events.proofs.Searching.{pairs-search}
use Rattle.log_events.proofs.returned_values.is_listed.Goals as goal

pub returns : goal.returns
returns c = pairs-search c.args.pairs.now c.args.key c.args.value c.binary_search.result c.is_ok.result c.requires c.binary_search.ensures.bound
    c.binary_search.ensures.position c.is_ok.ensures.value
