use Rattle.app_engine.proofs.Pairs.{pair_of_other_shape}
use Rattle.app_engine.proofs.checking.pair_in.Goals as goal

pub returns-in-TooLarge-clause-error : goal.returns-in-TooLarge-clause-error
returns-in-TooLarge-clause-error c =
    let ensures = c.in_ok-history.ensures in
    let found = rw c.in-TooLarge.is at ensures.read in
    let large = found.2 in
    pair_of_other_shape c.args.input.now c.in_ok-history.history ensures.history found.0 found.1 large.0 large.1 large.2 large.3
