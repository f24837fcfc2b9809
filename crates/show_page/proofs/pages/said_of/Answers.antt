-- The pieces of the part that is seen without a script, one after the other.
use Rattle.std.proofs.Common.{List, [], ◌++◌, ◌∙◌, ap, ℕ}
use Rattle.show_page.specs.Pages.{escaped, more_words, said}
use Rattle.show_page.specs.declared.escaping.Within.TheVariants.{Markup}
use Rattle.show_page.specs.declared.frame.TheConstants.{BEFORE_LIST, BEFORE_MORE, BEFORE_PICTURE, BEFORE_WORDS}
use Rattle.show_page.proofs.Pieces.{eight}
use Rattle.show_page.proofs.pages.said_of.Goals as goal

pub returns : goal.returns
unfolding said
returns c =
    eight [] c.push_text.new.page.items c.push_escaped.new.page.items c.push_text-2.new.page.items c.push_more.new.page.items
    c.push_text-3.new.page.items c.push_escaped-2.new.page.items c.push_text-4.new.page.items c.push_bytes.new.page.items
    BEFORE_WORDS.now (escaped Markup c.args.words.now) BEFORE_MORE.now (more_words c.args.more) BEFORE_LIST.now (escaped Markup c.args.list.now)
    BEFORE_PICTURE.now c.args.picture.now
    (c.in_ok-push_text.ensures ∙ ap (λ (l : List ℕ). l ++ BEFORE_WORDS.now) c.new-bytes.ensures.items)
    c.in_ok-push_escaped.ensures c.in_ok-push_text-2.ensures c.in_ok-push_more.ensures c.in_ok-push_text-3.ensures c.in_ok-push_escaped-2.ensures
    c.in_ok-push_text-4.ensures c.in_ok-push_bytes.ensures
