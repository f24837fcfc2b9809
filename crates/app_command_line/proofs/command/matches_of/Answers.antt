-- `clap` takes the words, or finds a kind of fault in them.
use Rattle.std.proofs.Common.{◌≡◌, map, subst, refl, true}
use Rattle.clap.specs.Words.{App, fault_of, is_simple_and_free, FailsBy}
use Rattle.app_command_line.proofs.Usages.{refused_by_a_kind, taken_without_fault}
use Rattle.app_command_line.proofs.command.matches_of.Goals as goal

pub returns-clause-accepted : goal.returns-clause-accepted
returns-clause-accepted g c =
    taken_without_fault _ c.try_get_matches_from.result
    (subst (λ (app : App). is_simple_and_free app ≡ true → FailsBy (fault_of app (map g.S.AsStr.text c.args.words.now)) c.try_get_matches_from.result)
    c.in_ok-program.ensures c.try_get_matches_from.ensures.kinds refl)

pub returns-clause-refused : goal.returns-clause-refused
returns-clause-refused g c =
    refused_by_a_kind _ c.try_get_matches_from.result
    (subst (λ (app : App). is_simple_and_free app ≡ true → FailsBy (fault_of app (map g.S.AsStr.text c.args.words.now)) c.try_get_matches_from.result)
    c.in_ok-program.ensures c.try_get_matches_from.ensures.kinds refl)
