use Rattle.judge_subhistories.proofs.Wholes.{whole_excluded}
use Rattle.judge_subhistories.proofs.without_variables.excluded_without.Goals as goal

pub returns-in-Some-clause-whole : goal.returns-in-Some-clause-whole
returns-in-Some-clause-whole c = λ meets.
    whole_excluded c.args.history.now c.in_ok-part.part c.args.variables.now c.args.criterion c.in_ok-decision.field-0 c.in-Some.decision c.in-Some.is
    c.in_ok-decision.ensures c.in_ok-part.ensures (λ keys. c.parts_at_keys_meet_what_the_whole_meets.ensures c.args.history.now keys c.args.criterion meets)
