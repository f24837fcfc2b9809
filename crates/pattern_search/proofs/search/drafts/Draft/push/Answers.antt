use Rattle.std.proofs.Common.{◌≡◌, length, sym, subst, arith}
use Rattle.pattern_check.specs.Derivations.{Gives}
use Rattle.pattern_search.specs.Steps.Drafts.{IsDraft, Lines}
use Rattle.pattern_search.proofs.DraftLines.{line-more}
use Rattle.pattern_search.proofs.search.drafts.Draft.push.Goals as goal

pub returns : goal.returns
returns c = λ h o draft gives.
    let v = c.self.inside in
    let is_draft = subst (λ (d : Lines). IsDraft h o d) (sym c.self.view_is) draft in
    let gives_pair = subst (λ (d : Lines). Gives h o d.1 c.args.line c.args.pair.0 c.args.pair.1) (sym c.self.view_is) gives in
    let number : length v.lines.items ≡ c.len-number.result = omega arith in
    let made = line-more h o v.lines.items v.pairs.items c.args.line c.args.pair is_draft gives_pair in
    let numbered = rw number at made in
    rw (← c.self.view_is, c.in_ok-push.ensures.items, c.in_ok-push-2.ensures.items) numbered
