-- Five texts, each after the one before.
use Rattle.show_page.specs.Pages.{tail}
use Rattle.show_page.specs.declared.drawing.TheConstants.{DRAWING}
use Rattle.show_page.specs.declared.frame.TheConstants.{BEFORE_SCRIPT, ENDING}
use Rattle.show_page.specs.declared.script.TheConstants.{SCRIPT}
use Rattle.show_page.specs.declared.zooming.TheConstants.{ZOOMING}
use Rattle.show_page.proofs.Pieces.{five}
use Rattle.show_page.proofs.pages.push_tail.Goals as goal

pub returns : goal.returns
unfolding tail
returns c =
    five c.args.page.now.items c.push_text.new.page.items c.push_text-2.new.page.items c.push_text-3.new.page.items c.push_text-4.new.page.items
    c.push_text-5.new.page.items BEFORE_SCRIPT.now SCRIPT.now ZOOMING.now DRAWING.now ENDING.now
    c.in_ok-push_text.ensures c.in_ok-push_text-2.ensures c.in_ok-push_text-3.ensures c.in_ok-push_text-4.ensures c.in_ok-push_text-5.ensures
