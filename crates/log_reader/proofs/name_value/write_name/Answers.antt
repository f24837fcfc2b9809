use Rattle.std.proofs.Common.{◌∙◌, ◌++◌, ◌∷◌, [], true, false, ℕ, List, ap}
use Rattle.std.specs.Prelude.{string_bytes, codes}
use Rattle.log_reader.proofs.NameTextLaws.{pushed_name, text_named, truth_named}
use Rattle.log_reader.proofs.name_value.write_name.Goals as goal

pub returns-in_ok-push_str-in-Text-clause-name : goal.returns-in_ok-push_str-in-Text-clause-name
returns-in_ok-push_str-in-Text-clause-name c =
    pushed_name c.push_str-in-Text.result (string_bytes c.push_str.new.self) (string_bytes c.push_str-in-Text.new.self) c.in-Text.text.now c.push_str-in-Text.ensures.bytes
    (text_named c.in-Text.text.now _ (ap (λ (l : List ℕ). l ++ c.in-Text.text.now) (c.in_ok-push_str-in-Text.ensures.bytes ∙ ap (λ (l : List ℕ). l ++ 34 ∷ []) c.requires)))

pub returns-in-Truth-true-clause-name : goal.returns-in-Truth-true-clause-name
returns-in-Truth-true-clause-name c =
    pushed_name c.push_str-in-Truth-true.result (string_bytes c.args.code.now) (string_bytes c.push_str-in-Truth-true.new.self) (codes "true") c.push_str-in-Truth-true.ensures.bytes
    (truth_named true _ (ap (λ (l : List ℕ). l ++ codes "true") c.requires))

pub returns-in-Truth-false-clause-name : goal.returns-in-Truth-false-clause-name
returns-in-Truth-false-clause-name c =
    pushed_name c.push_str-in-Truth-false.result (string_bytes c.args.code.now) (string_bytes c.push_str-in-Truth-false.new.self) (codes "false") c.push_str-in-Truth-false.ensures.bytes
    (truth_named false _ (ap (λ (l : List ℕ). l ++ codes "false") c.requires))
