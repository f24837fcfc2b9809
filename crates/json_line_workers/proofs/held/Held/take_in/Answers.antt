use Rattle.std.proofs.Common.{◌≡◌, ◌+◌, ◌++◌, ℕ, List, length, rules, subst, sym}
use Rattle.memchr.specs.Find.{IsLastByte, is_byte}
use Rattle.json_line_workers.specs.Pieces.{IsCut}
use Rattle.json_line_workers.proofs.CutLaws.{cut-found, cut-unfound}
use Rattle.json_line_workers.proofs.held.Held.take_in.Goals as goal

pub returns-in-Some-clause-cut : goal.returns-in-Some-clause-cut
returns-in-Some-clause-cut c =
    let old = c.args.self.now.bytes.items in
    let at = c.in-Some.at in
    let len : c.len-before.result ≡ length old = search rules in
    let items : c.extend_from_slice.new.self.items ≡ old ++ c.args.bytes.now = c.in_ok-extend_from_slice.ensures.items in
    let found = subst (λ r. IsLastByte (is_byte 10) c.args.bytes.now r) c.in-Some.is c.memrchr.ensures in
    subst (λ (n : ℕ). IsCut (n + at + 1) c.extend_from_slice.new.self.items) (sym len)
    (subst (λ (xs : List ℕ). IsCut (length old + at + 1) xs) (sym items) (cut-found old c.args.bytes.now at found))

pub returns-in_default-clause-cut : goal.returns-in_default-clause-cut
returns-in_default-clause-cut c =
    let old = c.args.self.now.bytes.items in
    let items : c.extend_from_slice.new.self.items ≡ old ++ c.args.bytes.now = c.in_ok-extend_from_slice.ensures.items in
    let none = subst (λ r. IsLastByte (is_byte 10) c.args.bytes.now r) c.in_default.is c.memrchr.ensures in
    subst (λ (xs : List ℕ). IsCut c.args.self.now.whole xs) (sym items) (cut-unfound c.args.self.now.whole old c.args.bytes.now c.requires none)
