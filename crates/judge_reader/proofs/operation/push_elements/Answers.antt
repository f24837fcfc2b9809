use Rattle.std.proofs.Common.{[], ◌∷◌, Some, None, refl}
use Rattle.std.proofs.lemmas.Result.{err_from_is_err_and}
use Rattle.judge_reader.specs.Steps.Scalars.{entry_of, operation_in}
use Rattle.judge_reader.specs.Steps.Taking.{IsTaken}
use Rattle.judge_reader.specs.declared.taken.Taken.TheVariants.{NoForm}
use Rattle.json_tokens.proofs.Elements.{no_rest, read_none, rest_passed, rest_refused}
use Rattle.judge_reader.proofs.OperationsTaken.{no_form, only_memory}
use Rattle.judge_reader.proofs.ScalarsRead.{no_form_over, pushed_over, scalar_more}
use Rattle.judge_reader.proofs.SpelledScalars.{four_read, three_read, too_few, too_many}
use Rattle.judge_reader.proofs.operation.push_elements.Goals as goal

pub returns-in_err-key-clause-refused : goal.returns-in_err-key-clause-refused
returns-in_err-key-clause-refused c =
    let depth = c.args.depth in
    let old = c.args.reader.now in
    let w = scalar_more depth old old c.expected_scalar.new.reader [] (read_none depth old) c.in_ok-word.field-0 c.in_ok-word.ensures.read c.in-Some.word c.in-Some.is c.in_ok-word.ensures.shorter in
    let p = err_from_is_err_and c.from_residual-in_err-key.result c.from_residual-in_err-key.ensures.1 in
    rw (p.1, p.2) (rest_refused depth old c.expected_scalar.new.reader (w.0 ∷ []) w.1 c.in_err-key.field-0.0 c.in_err-key.ensures.refused)

pub returns-in_err-first-clause-refused : goal.returns-in_err-first-clause-refused
returns-in_err-first-clause-refused c =
    let depth = c.args.depth in
    let old = c.args.reader.now in
    let w = scalar_more depth old old c.expected_scalar.new.reader [] (read_none depth old) c.in_ok-word.field-0 c.in_ok-word.ensures.read c.in-Some.word c.in-Some.is c.in_ok-word.ensures.shorter in
    let k = scalar_more depth old c.expected_scalar.new.reader c.expected_scalar-2.new.reader (w.0 ∷ []) w.1 c.in_ok-key.field-0 c.in_ok-key.ensures.read c.in-Some-2.key c.in-Some-2.is c.in_ok-key.ensures.shorter in
    let p = err_from_is_err_and c.from_residual-in_err-first.result c.from_residual-in_err-first.ensures.1 in
    rw (p.1, p.2) (rest_refused depth old c.expected_scalar-2.new.reader (w.0 ∷ k.0 ∷ []) k.1 c.in_err-first.field-0.0 c.in_err-first.ensures.refused)

pub returns-in_err-second-clause-refused : goal.returns-in_err-second-clause-refused
returns-in_err-second-clause-refused c =
    let depth = c.args.depth in
    let old = c.args.reader.now in
    let w = scalar_more depth old old c.expected_scalar.new.reader [] (read_none depth old) c.in_ok-word.field-0 c.in_ok-word.ensures.read c.in-Some.word c.in-Some.is c.in_ok-word.ensures.shorter in
    let k = scalar_more depth old c.expected_scalar.new.reader c.expected_scalar-2.new.reader (w.0 ∷ []) w.1 c.in_ok-key.field-0 c.in_ok-key.ensures.read c.in-Some-2.key c.in-Some-2.is c.in_ok-key.ensures.shorter in
    let f = scalar_more depth old c.expected_scalar-2.new.reader c.expected_scalar-3.new.reader (w.0 ∷ k.0 ∷ []) k.1 c.in_ok-first.field-0 c.in_ok-first.ensures.read c.in-Some-3.first c.in-Some-3.is c.in_ok-first.ensures.shorter in
    let p = err_from_is_err_and c.from_residual-in_err-second.result c.from_residual-in_err-second.ensures.1 in
    rw (p.1, p.2) (rest_refused depth old c.expected_scalar-3.new.reader (w.0 ∷ k.0 ∷ f.0 ∷ []) f.1 c.in_err-second.field-0.0 c.in_err-second.ensures.refused)

pub returns-in_err-_third-clause-refused : goal.returns-in_err-_third-clause-refused
returns-in_err-_third-clause-refused c =
    let depth = c.args.depth in
    let old = c.args.reader.now in
    let w = scalar_more depth old old c.expected_scalar.new.reader [] (read_none depth old) c.in_ok-word.field-0 c.in_ok-word.ensures.read c.in-Some.word c.in-Some.is c.in_ok-word.ensures.shorter in
    let k = scalar_more depth old c.expected_scalar.new.reader c.expected_scalar-2.new.reader (w.0 ∷ []) w.1 c.in_ok-key.field-0 c.in_ok-key.ensures.read c.in-Some-2.key c.in-Some-2.is c.in_ok-key.ensures.shorter in
    let f = scalar_more depth old c.expected_scalar-2.new.reader c.expected_scalar-3.new.reader (w.0 ∷ k.0 ∷ []) k.1 c.in_ok-first.field-0 c.in_ok-first.ensures.read c.in-Some-3.first c.in-Some-3.is c.in_ok-first.ensures.shorter in
    let g = scalar_more depth old c.expected_scalar-3.new.reader c.next_scalar.new.reader (w.0 ∷ k.0 ∷ f.0 ∷ []) f.1 c.in_ok-second.field-0 c.in_ok-second.ensures.read c.in-Some-4.second c.in-Some-4.is c.in_ok-second.ensures.shorter in
    let p = err_from_is_err_and c.from_residual-in_err-_third.result c.from_residual-in_err-_third.ensures.1 in
    rw (p.1, p.2) (rest_refused depth old c.next_scalar.new.reader (w.0 ∷ k.0 ∷ f.0 ∷ g.0 ∷ []) g.1 c.in_err-_third.field-0.0 c.in_err-_third.ensures.refused)

pub returns-in_default-clause-read : goal.returns-in_default-clause-read
returns-in_default-clause-read c =
    let depth = c.args.depth in
    let old = c.args.reader.now in
    no_form_over depth old old c.expected_scalar.new.reader [] (read_none depth old) c.in_ok-word.field-0 c.in_ok-word.ensures.read c.in_default.is c.args.unknown_seen c.args.entries.now.items refl

pub returns-in_default-2-clause-read : goal.returns-in_default-2-clause-read
returns-in_default-2-clause-read c =
    let depth = c.args.depth in
    let old = c.args.reader.now in
    let w = scalar_more depth old old c.expected_scalar.new.reader [] (read_none depth old) c.in_ok-word.field-0 c.in_ok-word.ensures.read c.in-Some.word c.in-Some.is c.in_ok-word.ensures.shorter in
    no_form_over depth old c.expected_scalar.new.reader c.expected_scalar-2.new.reader (w.0 ∷ []) w.1 c.in_ok-key.field-0 c.in_ok-key.ensures.read c.in_default-2.is c.args.unknown_seen c.args.entries.now.items refl

pub returns-in_default-3-clause-read : goal.returns-in_default-3-clause-read
returns-in_default-3-clause-read c =
    let depth = c.args.depth in
    let old = c.args.reader.now in
    let w = scalar_more depth old old c.expected_scalar.new.reader [] (read_none depth old) c.in_ok-word.field-0 c.in_ok-word.ensures.read c.in-Some.word c.in-Some.is c.in_ok-word.ensures.shorter in
    let k = scalar_more depth old c.expected_scalar.new.reader c.expected_scalar-2.new.reader (w.0 ∷ []) w.1 c.in_ok-key.field-0 c.in_ok-key.ensures.read c.in-Some-2.key c.in-Some-2.is c.in_ok-key.ensures.shorter in
    no_form_over depth old c.expected_scalar-2.new.reader c.expected_scalar-3.new.reader (w.0 ∷ k.0 ∷ []) k.1 c.in_ok-first.field-0 c.in_ok-first.ensures.read c.in_default-3.is c.args.unknown_seen c.args.entries.now.items (too_few w.0 k.0)

pub returns-in_default-4-clause-read : goal.returns-in_default-4-clause-read
returns-in_default-4-clause-read c =
    let depth = c.args.depth in
    let old = c.args.reader.now in
    let w = scalar_more depth old old c.expected_scalar.new.reader [] (read_none depth old) c.in_ok-word.field-0 c.in_ok-word.ensures.read c.in-Some.word c.in-Some.is c.in_ok-word.ensures.shorter in
    let k = scalar_more depth old c.expected_scalar.new.reader c.expected_scalar-2.new.reader (w.0 ∷ []) w.1 c.in_ok-key.field-0 c.in_ok-key.ensures.read c.in-Some-2.key c.in-Some-2.is c.in_ok-key.ensures.shorter in
    let f = scalar_more depth old c.expected_scalar-2.new.reader c.expected_scalar-3.new.reader (w.0 ∷ k.0 ∷ []) k.1 c.in_ok-first.field-0 c.in_ok-first.ensures.read c.in-Some-3.first c.in-Some-3.is c.in_ok-first.ensures.shorter in
    pushed_over depth old c.expected_scalar-3.new.reader c.next_scalar.new.reader (w.0 ∷ k.0 ∷ f.0 ∷ []) f.1 c.in_ok-second.field-0 c.in_ok-second.ensures.read c.in_default-4.is c.args.unknown_seen c.args.entries.now.items c.push_spelled.new.entries.items
    (entry_of c.in-Some.word c.in-Some-2.key c.in-Some-3.first None) c.push_spelled.result (three_read w.0 k.0 f.0 c.in-Some.word c.in-Some-2.key c.in-Some-3.first w.2 k.2 f.2 (entry_of c.in-Some.word c.in-Some-2.key c.in-Some-3.first None) refl) c.push_spelled.ensures.taken

pub returns-in_default-4-clause-refused : goal.returns-in_default-4-clause-refused
returns-in_default-4-clause-refused c = only_memory c.push_spelled.result _ c.push_spelled.ensures.refused

pub returns-in_default-5-clause-read : goal.returns-in_default-5-clause-read
returns-in_default-5-clause-read c =
    let depth = c.args.depth in
    let old = c.args.reader.now in
    let w = scalar_more depth old old c.expected_scalar.new.reader [] (read_none depth old) c.in_ok-word.field-0 c.in_ok-word.ensures.read c.in-Some.word c.in-Some.is c.in_ok-word.ensures.shorter in
    let k = scalar_more depth old c.expected_scalar.new.reader c.expected_scalar-2.new.reader (w.0 ∷ []) w.1 c.in_ok-key.field-0 c.in_ok-key.ensures.read c.in-Some-2.key c.in-Some-2.is c.in_ok-key.ensures.shorter in
    let f = scalar_more depth old c.expected_scalar-2.new.reader c.expected_scalar-3.new.reader (w.0 ∷ k.0 ∷ []) k.1 c.in_ok-first.field-0 c.in_ok-first.ensures.read c.in-Some-3.first c.in-Some-3.is c.in_ok-first.ensures.shorter in
    let g = scalar_more depth old c.expected_scalar-3.new.reader c.next_scalar.new.reader (w.0 ∷ k.0 ∷ f.0 ∷ []) f.1 c.in_ok-second.field-0 c.in_ok-second.ensures.read c.in-Some-4.second c.in-Some-4.is c.in_ok-second.ensures.shorter in
    pushed_over depth old c.next_scalar.new.reader c.next_scalar-2.new.reader (w.0 ∷ k.0 ∷ f.0 ∷ g.0 ∷ []) g.1 c.in_ok-_third.field-0 c.in_ok-_third.ensures.read c.in_default-5.is c.args.unknown_seen c.args.entries.now.items c.push_spelled-in_default-5.new.entries.items
    (entry_of c.in-Some.word c.in-Some-2.key c.in-Some-3.first (Some c.in-Some-4.second)) c.push_spelled-in_default-5.result (four_read w.0 k.0 f.0 c.in-Some.word c.in-Some-2.key c.in-Some-3.first w.2 k.2 f.2 (entry_of c.in-Some.word c.in-Some-2.key c.in-Some-3.first (Some c.in-Some-4.second)) g.0 c.in-Some-4.second g.2 refl) c.push_spelled-in_default-5.ensures.taken

pub returns-in_default-5-clause-refused : goal.returns-in_default-5-clause-refused
returns-in_default-5-clause-refused c = only_memory c.push_spelled-in_default-5.result _ c.push_spelled-in_default-5.ensures.refused

pub returns-in_err-walk_items-clause-refused : goal.returns-in_err-walk_items-clause-refused
returns-in_err-walk_items-clause-refused c =
    let depth = c.args.depth in
    let old = c.args.reader.now in
    let w = scalar_more depth old old c.expected_scalar.new.reader [] (read_none depth old) c.in_ok-word.field-0 c.in_ok-word.ensures.read c.in-Some.word c.in-Some.is c.in_ok-word.ensures.shorter in
    let k = scalar_more depth old c.expected_scalar.new.reader c.expected_scalar-2.new.reader (w.0 ∷ []) w.1 c.in_ok-key.field-0 c.in_ok-key.ensures.read c.in-Some-2.key c.in-Some-2.is c.in_ok-key.ensures.shorter in
    let f = scalar_more depth old c.expected_scalar-2.new.reader c.expected_scalar-3.new.reader (w.0 ∷ k.0 ∷ []) k.1 c.in_ok-first.field-0 c.in_ok-first.ensures.read c.in-Some-3.first c.in-Some-3.is c.in_ok-first.ensures.shorter in
    let g = scalar_more depth old c.expected_scalar-3.new.reader c.next_scalar.new.reader (w.0 ∷ k.0 ∷ f.0 ∷ []) f.1 c.in_ok-second.field-0 c.in_ok-second.ensures.read c.in-Some-4.second c.in-Some-4.is c.in_ok-second.ensures.shorter in
    let h = scalar_more depth old c.next_scalar.new.reader c.next_scalar-2.new.reader (w.0 ∷ k.0 ∷ f.0 ∷ g.0 ∷ []) g.1 c.in_ok-_third.field-0 c.in_ok-_third.ensures.read c.in-Some-5._third c.in-Some-5.is c.in_ok-_third.ensures.shorter in
    let p = err_from_is_err_and c.from_residual-in_err-walk_items.result c.from_residual-in_err-walk_items.ensures.1 in
    rw (p.1, p.2) (no_rest depth old c.next_scalar-2.new.reader (w.0 ∷ k.0 ∷ f.0 ∷ g.0 ∷ h.0 ∷ []) h.1 c.in_err-walk_items.ensures.value)

pub returns-clause-read : goal.returns-clause-read
returns-clause-read c =
    let depth = c.args.depth in
    let old = c.args.reader.now in
    let w = scalar_more depth old old c.expected_scalar.new.reader [] (read_none depth old) c.in_ok-word.field-0 c.in_ok-word.ensures.read c.in-Some.word c.in-Some.is c.in_ok-word.ensures.shorter in
    let k = scalar_more depth old c.expected_scalar.new.reader c.expected_scalar-2.new.reader (w.0 ∷ []) w.1 c.in_ok-key.field-0 c.in_ok-key.ensures.read c.in-Some-2.key c.in-Some-2.is c.in_ok-key.ensures.shorter in
    let f = scalar_more depth old c.expected_scalar-2.new.reader c.expected_scalar-3.new.reader (w.0 ∷ k.0 ∷ []) k.1 c.in_ok-first.field-0 c.in_ok-first.ensures.read c.in-Some-3.first c.in-Some-3.is c.in_ok-first.ensures.shorter in
    let g = scalar_more depth old c.expected_scalar-3.new.reader c.next_scalar.new.reader (w.0 ∷ k.0 ∷ f.0 ∷ []) f.1 c.in_ok-second.field-0 c.in_ok-second.ensures.read c.in-Some-4.second c.in-Some-4.is c.in_ok-second.ensures.shorter in
    let h = scalar_more depth old c.next_scalar.new.reader c.next_scalar-2.new.reader (w.0 ∷ k.0 ∷ f.0 ∷ g.0 ∷ []) g.1 c.in_ok-_third.field-0 c.in_ok-_third.ensures.read c.in-Some-5._third c.in-Some-5.is c.in_ok-_third.ensures.shorter in
    rest_passed depth old c.next_scalar-2.new.reader (w.0 ∷ k.0 ∷ f.0 ∷ g.0 ∷ h.0 ∷ []) h.1 (λ ds. IsTaken c.args.unknown_seen (operation_in (Some ds)) c.args.entries.now.items c.args.entries.now.items NoForm) c.walk_items.new.reader c.in_ok-walk_items.ensures.value
    (λ more. no_form c.args.unknown_seen c.args.entries.now.items (operation_in (Some (w.0 ∷ k.0 ∷ f.0 ∷ g.0 ∷ h.0 ∷ more))) (too_many g.0 h.0 more w.0 k.0 f.0))
