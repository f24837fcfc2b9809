use Rattle.std.proofs.lemmas.Option.{MatchOption-at_some}
use Rattle.cert_check.proofs.considered.is_answered_at.Goals as goal

pub returns : goal.returns
returns g c = MatchOption-at_some _ _ c.unwrap.result c.unwrap.ensures c.in_ok-answered.ensures.exact
