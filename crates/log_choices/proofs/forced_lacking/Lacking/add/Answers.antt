use Rattle.std.proofs.Common.{◌++◌, [], ◌∷◌, ℕ, sym, subst}
use Rattle.std.specs.Prelude.{All, List, Option, IfSome}
use Rattle.std.proofs.lemmas.List.Elements.{All-push}
use Rattle.log_choices.specs.Exclusions.{IsLackingRead}
use Rattle.log_choices.specs.Forced.{LacksCandidates}
use Rattle.log_choices.specs.declared.exclusions.LackingRead.{LackingRead}
use Rattle.log_choices.proofs.forced_lacking.Lacking.add.Goals as goal

pub returns-in_ok-read : goal.returns-in_ok-read
returns-in_ok-read c =
    let es = c.args.timed.now.log.now in let in_time = c.args.timed.now.in_time in
    let P : ℕ → Type 0 = LacksCandidates in_time es in
    record {
      places = subst (λ (l : List ℕ). All P l) (sym c.in_ok-push.ensures.items)
          (All-push P c.args.self.now.places.items c.args.read.place c.requires.known.places c.requires.lacks);
      first = subst (λ (o : Option LackingRead). IfSome o (IsLackingRead in_time es)) (sym c.replace.ensures.after) c.in_ok-read.ensures;
    }

pub returns-else-is_none : goal.returns-else-is_none
returns-else-is_none c =
    let P : ℕ → Type 0 = LacksCandidates c.args.timed.now.in_time c.args.timed.now.log.now in
    record {
      places = subst (λ (l : List ℕ). All P l) (sym c.in_ok-push.ensures.items)
          (All-push P c.args.self.now.places.items c.args.read.place c.requires.known.places c.requires.lacks);
      first = c.requires.known.first;
    }
