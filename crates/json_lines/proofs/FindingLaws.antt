-- What is found next, in what was held and in what was read then.
use Rattle.std.proofs.Common.{◌≡◌, ℕ, List, [], ◌++◌, Option, sym, ap, subst, ◌∙◌}
use Rattle.std.proofs.KnownBytes.{Consumes-nil}
use Rattle.std.proofs.lemmas.List.{append-nil}
use Rattle.json_lines.specs.LineReaders.{FindsNext, IsFirst, IsOver, Lining}
use Rattle.json_lines.specs.Steps.{FindsEnd}
use Rattle.json_lines.specs.declared.feeding.LineEnd.{LineEnd}
use Rattle.json_lines.specs.declared.found.Found.{Found}

pub finds_held : (reader : Option (List ℕ)) (old new : Lining) (found : Found) (held : List ℕ) (most : ℕ) → old.held ≡ held → old.most ≡ most
    → IsFirst held new found → IsOver reader found → new.most ≡ most → FindsNext reader reader old new found
finds_held reader old new found held most held_is most_is first over same = record {
  taken = [];
  consumed = Consumes-nil reader;
  first = subst (λ (l : List ℕ). IsFirst l new found) (sym held_is ∙ sym (append-nil old.held)) first;
  over = over;
  most = same ∙ sym most_is;
}

pub finds_read : (a b : Option (List ℕ)) (old new : Lining) (found : Found) (most : ℕ) (before held : List ℕ) (end : LineEnd) → old.held ≡ before → old.most ≡ most
    → FindsEnd most a b before held end → IsFirst held new found → IsOver b found → new.most ≡ most → FindsNext a b old new found
finds_read a b old new found most before held end held_is most_is read first over same = record {
  taken = read.takes.taken;
  consumed = read.takes.consumed;
  first = subst (λ (l : List ℕ). IsFirst l new found) (read.takes.held ∙ ap (λ l. l ++ read.takes.taken) (sym held_is)) first;
  over = over;
  most = same ∙ sym most_is;
}
