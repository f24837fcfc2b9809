use Rattle.std.proofs.Common.{◌≡◌, ◌+◌, length, rules}
use Rattle.pattern_search.specs.Steps.Drafts.{EndsWithin, GivesWithin}
use Rattle.pattern_search.proofs.DraftLines.{within-more}
use Rattle.pattern_search.proofs.RaisedPairs.{apart-before}
use Rattle.pattern_search.proofs.SearchedLaws.{ok-weaker}
use Rattle.pattern_search.proofs.search.drafts.Draft.reach_back.Goals as goal

pub push_causal-requires-clause-before : goal.push_causal-requires-clause-before
push_causal-requires-clause-before c =
    let apart : ¬ (c.args.last ≡ c.args.pair.0) = search rules in
    apart-before c.args.order.now c.args.pair.0 c.args.last c.requires.is_op c.requires.session c.requires.up_to apart

pub returns-clause-line : goal.returns-clause-line
returns-clause-line c =
    let h = c.args.order.now in
    let o = c.args.op in
    let first = c.in_ok-first.ensures in
    ok-weaker c.push.result (EndsWithin h o 1 c.args.pair c.push_causal.new.self c.push.new.self) (GivesWithin h o 2 c.args.pair c.args.self.now c.push.new.self)
    (λ n ends. within-more h o 1 1 (c.args.pair.0, c.args.last) c.args.pair c.args.self.now c.push_causal.new.self c.push.new.self c.in_ok-first.first n first.line ends.line)
    (c.push.ensures h o first.line.draft (c.args.last, first.line.gives, first.line.kept c.args.line (c.args.last, c.args.pair.1) c.requires.given))

pub returns-clause-last : goal.returns-clause-last
returns-clause-last c _ =
    let h = c.args.order.now in
    let o = c.args.op in
    let first = c.in_ok-first.ensures in
    ok-weaker c.push.result (EndsWithin h o 1 c.args.pair c.push_causal.new.self c.push.new.self) (λ n. n + 1 ≡ length c.push.new.self.1)
    (λ n ends. ends.last)
    (c.push.ensures h o first.line.draft (c.args.last, first.line.gives, first.line.kept c.args.line (c.args.last, c.args.pair.1) c.requires.given))
