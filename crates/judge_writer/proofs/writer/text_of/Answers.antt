use Rattle.std.proofs.Common.{◌≡◌, ◌++◌, sym, ap, ◌∙◌, subst}
use Rattle.std.specs.Str.{IsUtf8}
use Rattle.std.proofs.lemmas.Result.{IfOk-at_ok}
use Rattle.json.specs.Lex.{tokens}
use Rattle.json.specs.Print.{print}
use Rattle.judge_writer.proofs.writer.text_of.Goals as goal

pub unwrap-requires : goal.unwrap-requires
unwrap-requires c =
    let text : c.into_inner.result.items ≡ print c.args.out.tokens = c.into_inner.ensures.items ∙ ap (λ bs. bs ++ print c.args.out.tokens) c.requires in
    c.from_utf8.ensures.succeeds (subst IsUtf8 (sym text) c.into_inner.ensures.utf8)

pub returns-clause-text : goal.returns-clause-text
returns-clause-text c =
    ap (λ v. v.items) (IfOk-at_ok _ c.unwrap.ensures c.from_utf8.ensures.ok)
    ∙ c.into_inner.ensures.items ∙ ap (λ bs. bs ++ print c.args.out.tokens) c.requires

pub returns-clause-tokens : goal.returns-clause-tokens
returns-clause-tokens c = ap tokens (returns-clause-text c) ∙ c.into_inner.ensures.reads_back
