use Rattle.std.proofs.Common.{◌≡◌, ◌++◌, take}
use Rattle.show_page.specs.Pages.{escaped}
use Rattle.show_page.proofs.escaping.push_escaped.Given as goal

-- the text so far
abbrev pub invariant-loop-byte : goal.invariant-loop-byte
invariant-loop-byte l = l.page.items ≡ l.initial.page.items ++ escaped l.within (take l.byte-index l.text)
