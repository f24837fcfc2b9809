-- Three texts one behind the other.
use Rattle.show_page.specs.Pages.{head}
use Rattle.show_page.specs.declared.frame.TheConstants.{BODY, OPENING}
use Rattle.show_page.specs.declared.style.TheConstants.{STYLE}
use Rattle.show_page.proofs.Pieces.{three}
use Rattle.show_page.proofs.pages.push_head.Goals as goal

pub returns : goal.returns
unfolding head
returns c =
    three c.args.page.now.items c.push_text.new.page.items c.push_text-2.new.page.items c.push_text-3.new.page.items OPENING.now STYLE.now BODY.now
    c.in_ok-push_text.ensures c.in_ok-push_text-2.ensures c.in_ok-push_text-3.ensures
