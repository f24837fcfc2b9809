use Rattle.std.proofs.Common.{◌≡◌, ◌∙◌, List, [], ap, subst, sym, string_bytes}
use Rattle.std.specs.Prelude.{IfOk, slice_index_or}
use Rattle.log_reader.specs.Names.{Name}
use Rattle.log_reader.specs.NameTexts.{IsNameText}
use Rattle.log_reader.specs.Spelling.{IsName}
use Rattle.log_reader.proofs.NameTextLaws.{bytes_there, name_there}
use Rattle.log_reader.proofs.names.Names.text.Goals as goal

pub name_text-requires : goal.name_text-requires
name_text-requires c =
    subst IsName (sym c.as_str.ensures.value) (name_there c.self.inside.names.keys c.args.number c.in-Some.name.now (sym c.in-Some.ensures.key) c.self.invariant)

pub returns-in-Some : goal.returns-in-Some
returns-in-Some c =
    let same : c.as_str.result.now ≡ slice_index_or c.args.self.now c.args.number [] =
    c.as_str.ensures.value ∙ sym (bytes_there c.self.inside.names.keys c.args.number c.in-Some.name.now (sym c.in-Some.ensures.key))
    ∙ ap (λ (l : List Name). slice_index_or l c.args.number []) c.self.view_is in
    subst (λ (n : Name). IfOk c.name_text.result (λ text. IsNameText n (string_bytes text))) same c.name_text.ensures
