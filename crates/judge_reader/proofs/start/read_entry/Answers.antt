use Rattle.std.proofs.Common.{◌≡◌, true, false, Some, None, sym, ap, ◌∙◌}
use Rattle.json_histories.specs.RegisterForm as register
use Rattle.json_histories.specs.Spelling.{entry_at, is_above}
use Rattle.judge_reader.proofs.CutEntries.{entry_same}
use Rattle.judge_reader.proofs.start.read_entry.Goals as goal

pub returns-in_default-clause-read : goal.returns-in_default-clause-read
returns-in_default-clause-read c =
    let found = c.in_ok-value.ensures.read in
    let none : entry_at register.start_at found.0 ≡ None = sym (entry_same found.0) ∙ ap (entry_at register.start_at) (sym found.2) ∙ sym c.read_entry.ensures ∙ c.in_default.is in
    (found.0, found.1, rw none)

pub returns-then-is_above-clause-read : goal.returns-then-is_above-clause-read
returns-then-is_above-clause-read c =
    let found = c.in_ok-value.ensures.read in
    let read : entry_at register.start_at found.0 ≡ Some c.in-Some.entry = sym (entry_same found.0) ∙ ap (entry_at register.start_at) (sym found.2) ∙ sym c.read_entry.ensures ∙ c.in-Some.is in
    let above : is_above c.args.before c.in-Some.entry.0 ≡ true = sym c.is_above.ensures ∙ c.if-is_above.true in
    (found.0, found.1, rw read (rw above))

pub returns-clause-read : goal.returns-clause-read
returns-clause-read c =
    let found = c.in_ok-value.ensures.read in
    let read : entry_at register.start_at found.0 ≡ Some c.in-Some.entry = sym (entry_same found.0) ∙ ap (entry_at register.start_at) (sym found.2) ∙ sym c.read_entry.ensures ∙ c.in-Some.is in
    let above : is_above c.args.before c.in-Some.entry.0 ≡ false = sym c.is_above.ensures ∙ c.if-is_above.false in
    (found.0, found.1, rw read (rw above))
