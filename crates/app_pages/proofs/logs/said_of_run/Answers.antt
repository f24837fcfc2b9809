use Rattle.std.specs.Prelude.{◌≡◌, ◌-◌, string_bytes}
use Rattle.std.proofs.lemmas.Grind.{common_steps}
use Rattle.std.proofs.Common.{arith}
use Rattle.show_page.specs.Pages.{said}
use Rattle.app_pages.proofs.Joined.{answers_make_said}
use Rattle.app_pages.proofs.logs.said_of_run.Goals as goal

pub returns-clause-said : goal.returns-clause-said
returns-clause-said g c =
    let e : c.in_ok-bytes.bytes.items ≡ said (string_bytes c.in_ok-words.words) (c.in_ok-counted.counted - c.min-most.result)
    (string_bytes c.in_ok-list.list) (string_bytes c.in_ok-picture.picture) = grind (arith, common_steps) in
    answers_make_said c.min-most.result c.in_ok-counted.counted c.args.run.now.saw c.args.run.now.log c.args.report.now (string_bytes c.in_ok-words.words)
    (string_bytes c.in_ok-list.list) (string_bytes c.in_ok-picture.picture) c.in_ok-bytes.bytes.items c.in_ok-counted.ensures
    c.in_ok-words.ensures.answer c.in_ok-list.ensures.answer c.in_ok-picture.ensures.answer e
