-- What is said piece by piece.
use Rattle.std.specs.Prelude.{◌≡◌, ℕ, List, [], ◌∷◌, ◌++◌, Option, None, Some}
use Rattle.std.specs.Io.KnownBytes.{Appends}
use Rattle.std.specs.List.{flat_map}
use Rattle.std.proofs.Common.{◌<◌, ◌≢◌, length, get_or, sym, subst, ◌∙◌, ap, append-nil, append_assoc, arith}
use Rattle.std.proofs.lemmas.List.Elements.{All-from_get_or}
use Rattle.json_lines.specs.Lines.{lines_of}
use Rattle.json_lines.specs.Steps.{IsFree}
use Rattle.json_lines.proofs.LineLaws.{first_line, last_line, no_line}
use Rattle.app_process.specs.Saying.{SaysSome, said_line, said_lines}

-- nothing more
pub appends_nothing : (a : Option (List ℕ)) → Appends a a []
appends_nothing None = tt
appends_nothing (Some xs) = sym (append-nil xs)

-- one text after another
pub appends_both : (a b c : Option (List ℕ)) (x y : List ℕ) → Appends a b x → Appends b c y → Appends a c (x ++ y)
appends_both None b c x y first second = tt
appends_both (Some xs) None c x y first second = absurd first
appends_both (Some xs) (Some ys) None x y first second = absurd second
appends_both (Some xs) (Some ys) (Some zs) x y first second = second ∙ (ap (λ l. l ++ y) first ∙ append_assoc xs x y)

-- a label, what comes after it, and a line
pub said_after : (a b c d : Option (List ℕ)) (x y z : List ℕ) → Appends a b x → Appends b c y → Appends c d z → Appends a d (x ++ (y ++ z))
said_after a b c d x y z first second third = appends_both a b d x (y ++ z) first (appends_both b c d y z second third)

-- the lines of a text: the first, and those after it
pub said_more : (label : Option (List ℕ)) (text line further : List ℕ) → text ≡ line ++ 10 ∷ further
    → ((i : ℕ) → i < length line → get_or line i 0 ≢ 10) → said_lines label text ≡ said_line label line ++ said_lines label further
said_more label text line further is_text free =
    let free_line : IsFree line = All-from_get_or (λ c. c ≢ 10) line 0 free in
    let lines : lines_of text ≡ line ∷ lines_of further = ap lines_of is_text ∙ first_line line further free_line in
    ap (flat_map (said_line label)) lines

-- the last one
pub said_last : (label : Option (List ℕ)) (text : List ℕ) → 0 < length text
    → ((i : ℕ) → i < length text → get_or text i 0 ≢ 10) → said_lines label text ≡ said_line label text
said_last label [] some free = absurd (omega arith)
said_last label (b ∷ text) some free =
    let free_line : IsFree (b ∷ text) = All-from_get_or (λ c. c ≢ 10) (b ∷ text) 0 free in
    ap (flat_map (said_line label)) (last_line b text free_line) ∙ append-nil (said_line label (b ∷ text))

pub said_none : (label : Option (List ℕ)) (text : List ℕ) → length text ≡ 0 → said_lines label text ≡ []
said_none label text none = ap (flat_map (said_line label)) (no_line text none)

-- the same of what was said
pub says_more : (label : Option (List ℕ)) (text line further : List ℕ) (a b c : Option (List ℕ)) → text ≡ line ++ 10 ∷ further
    → ((i : ℕ) → i < length line → get_or line i 0 ≢ 10) → Appends a b (said_line label line) → Appends b c (said_lines label further)
    → Appends a c (said_lines label text)
says_more label text line further a b c is_text free first second =
    let P : List ℕ → Type 0 = λ said. Appends a c said in
    subst P (sym (said_more label text line further is_text free)) (appends_both a b c (said_line label line) (said_lines label further) first second)

pub says_last : (label : Option (List ℕ)) (text : List ℕ) (a b : Option (List ℕ)) → 0 < length text
    → ((i : ℕ) → i < length text → get_or text i 0 ≢ 10) → Appends a b (said_line label text) → Appends a b (said_lines label text)
says_last label text a b some free said =
    let P : List ℕ → Type 0 = λ l. Appends a b l in subst P (sym (said_last label text some free)) said

pub says_none : (label : Option (List ℕ)) (text : List ℕ) (a : Option (List ℕ)) → length text ≡ 0 → Appends a a (said_lines label text)
says_none label text a none =
    let P : List ℕ → Type 0 = λ l. Appends a a l in subst P (sym (said_none label text none)) (appends_nothing a)

-- one text was said, none, or one after another
pub says_some : (a b : Option (List ℕ)) (x : List ℕ) → Appends a b x → SaysSome a b
says_some a b x said = (x, said)

pub says_no_more : (a : Option (List ℕ)) → SaysSome a a
says_no_more a = ([], appends_nothing a)

pub says_both : (a b c : Option (List ℕ)) → SaysSome a b → SaysSome b c → SaysSome a c
says_both a b c first second = (first.0 ++ second.0, appends_both a b c first.0 second.0 first.1 second.1)

pub says_two : (a b c : Option (List ℕ)) (x y : List ℕ) → Appends a b x → Appends b c y → SaysSome a c
says_two a b c x y first second = (x ++ y, appends_both a b c x y first second)

pub says_three : (a b c d : Option (List ℕ)) (x y z : List ℕ) → Appends a b x → Appends b c y → Appends c d z → SaysSome a d
says_three a b c d x y z first second third = (x ++ (y ++ z), said_after a b c d x y z first second third)
