-- The pieces of a page, one after the other.
use Rattle.std.proofs.Common.{List, [], ◌++◌, ◌∙◌, ap, ℕ}
use Rattle.show_page.specs.Pages.{escaped, head, page, tail}
use Rattle.show_page.specs.declared.escaping.Within.TheVariants.{Json}
use Rattle.show_page.specs.declared.frame.TheConstants.{BEFORE_LINES, BEFORE_NAMES, BEFORE_NOTES, BEFORE_REPORT}
use Rattle.show_page.proofs.Pieces.{twelve}
use Rattle.show_page.proofs.pages.page_of.Goals as goal

pub returns : goal.returns
unfolding page
returns c =
    twelve [] c.push_head.new.page.items c.push_escaped.new.page.items c.push_text.new.page.items c.push_escaped-2.new.page.items
    c.push_text-2.new.page.items c.push_escaped-3.new.page.items c.push_text-3.new.page.items c.push_escaped-4.new.page.items
    c.push_text-4.new.page.items c.push_escaped-5.new.page.items c.push_bytes.new.page.items c.push_tail.new.page.items
    head (escaped Json c.args.texts.history.now) BEFORE_REPORT.now (escaped Json c.args.texts.report.now) BEFORE_NAMES.now
    (escaped Json c.args.texts.names.now) BEFORE_LINES.now (escaped Json c.args.texts.lines.now) BEFORE_NOTES.now
    (escaped Json c.args.texts.notes.now) c.args.part.now tail
    (c.in_ok-push_head.ensures ∙ ap (λ (l : List ℕ). l ++ head) c.new-bytes.ensures.items)
    c.in_ok-push_escaped.ensures c.in_ok-push_text.ensures c.in_ok-push_escaped-2.ensures c.in_ok-push_text-2.ensures c.in_ok-push_escaped-3.ensures
    c.in_ok-push_text-3.ensures c.in_ok-push_escaped-4.ensures c.in_ok-push_text-4.ensures c.in_ok-push_escaped-5.ensures c.in_ok-push_bytes.ensures
    c.in_ok-push_tail.ensures
