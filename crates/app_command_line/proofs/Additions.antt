-- A command with more of its parts, by the first of them and those after it.
use Rattle.std.proofs.Common.{◌≡◌, ◌≤◌, ◌∙◌, ◌-◌, List, [], ◌∷◌, length, drop, take, get_or, arith, ap, subst, fold, Result, IfOk}
use Rattle.std.proofs.lemmas.List.{take_all}
use Rattle.clap.specs.Words.{App, app_of}
use Rattle.clap.specs.declared.builder.Command.{Command}

first_added : {A : Type 0} (adds : App → A → App) (app next : App) (xs : List A) (other : A) → 1 ≤ length xs → next ≡ adds app (get_or xs 0 other)
    → fold adds next (take (length xs - 1) (drop 1 xs)) ≡ fold adds app xs
first_added adds app next [] other least is = absurd (omega arith)
first_added adds app next (x ∷ xs) other least is =
    ap (λ (a : App). fold adds a (take (length (x ∷ xs) - 1) xs)) is
    ∙ ap (fold adds (adds app x)) (take_all (length (x ∷ xs) - 1) xs (omega arith))

pub each_added : {A E : Type 0} (adds : App → A → App) (app next : App) (xs : List A) (other : A) (r : Result Command E) → 1 ≤ length xs
    → next ≡ adds app (get_or xs 0 other) → IfOk r (λ whole. app_of whole ≡ fold adds next (take (length xs - 1) (drop 1 xs)))
    → IfOk r (λ whole. app_of whole ≡ fold adds app xs)
each_added adds app next xs other r least is rest =
    subst (λ (a : App). IfOk r (λ whole. app_of whole ≡ a)) (first_added adds app next xs other least is) rest
