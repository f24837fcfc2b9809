-- The first form on which the words ask for something.
use Rattle.std.proofs.Common.{List, Option, map, string_bytes, subst}
use Rattle.clap.specs.Words.{Text}
use Rattle.app_orders.specs.declared.manner.Asked.{Asked}
use Rattle.app_command_line.specs.declared.sight.Sight.{Sight}
use Rattle.app_command_line.specs.declared.sight.Sight.TheVariants.{Memory, Other, Unseen}
use Rattle.app_process.specs.Steps.Choices.{IsChoice}
use Rattle.app_process.proofs.ChoiceLaws.{by_log}
use Rattle.app_process.proofs.choices.Choices.any.Goals as goal

pub returns-in-None-Some-default : goal.returns-in-None-Some-default
returns-in-None-Some-default c =
    let P : Option Asked → Type 0 = λ choice. IsChoice (map string_bytes c.args.words.now) Other choice in
    (Other, subst P c.in-None-Some-default.is-1 c.requires.other)

pub returns-in-None-None-Some : goal.returns-in-None-None-Some
returns-in-None-None-Some c =
    let P : Option Asked → Type 0 = λ choice. IsChoice (map string_bytes c.args.words.now) Memory choice in
    (Memory, subst P c.in-None-None-Some.is-2 c.requires.memory)

pub returns-in-None-None-None : goal.returns-in-None-None-None
returns-in-None-None-None c =
    let words : List Text = map string_bytes c.args.words.now in
    let P : Sight → Option Asked → Type 0 = λ sight choice. IsChoice words sight choice in
    by_log words c.args.self.now.log (subst (P Unseen) c.in-None-None-None.is-0 c.requires.unseen)
    (subst (P Memory) c.in-None-None-None.is-2 c.requires.memory) (subst (P Other) c.in-None-None-None.is-1 c.requires.other) c.requires.log
