use Rattle.std.proofs.lemmas.Option.{slice_get-get_or}
use Rattle.pattern_search.proofs.search.reasons.raise_at.Goals as goal

pub returns : goal.returns
returns c = slice_get-get_or c.args.raises.now c.args.number _ c.requires
