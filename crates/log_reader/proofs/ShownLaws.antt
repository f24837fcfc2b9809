-- Texts that disturb no terminal, a character at a time.
use Rattle.std.proofs.Common.{◌≡◌, ℕ, List, [], ◌∷◌, ◌++◌, sym, ap, ◌∙◌, append_assoc}
use Rattle.std.specs.Prelude.{encode_utf8, encode_utf8_all, is_ok, if◌then◌else◌, OnOk, Result, Ok, Err}
use Rattle.std.proofs.lemmas.List.{append-nil}
use Rattle.std.proofs.lemmas.List.Elements.{All-nil, All-push}
use Rattle.log_reader.specs.Shown.{IsPlain, IsShown, StaysShown}

pub encoded-push : (cs : List ℕ) (c : ℕ) → encode_utf8_all (cs ++ c ∷ []) ≡ encode_utf8_all cs ++ encode_utf8 c
encoded-push [] c = append-nil (encode_utf8 c)
encoded-push (d ∷ cs) c = ap (λ l. encode_utf8 d ++ l) (encoded-push cs c) ∙ sym (append_assoc (encode_utf8 d) (encode_utf8_all cs) (encode_utf8 c))

pub shown_none : (bytes : List ℕ) → bytes ≡ [] → IsShown bytes
shown_none bytes is = ([], is, All-nil IsPlain)

shown_push : (old new : List ℕ) (c : ℕ) → new ≡ old ++ encode_utf8 c → IsPlain c → StaysShown old new
shown_push old new c is plain (cs, whole, all) =
    (cs ++ c ∷ [], is ∙ ap (λ l. l ++ encode_utf8 c) whole ∙ sym (encoded-push cs c), All-push IsPlain cs c all plain)

pub pushed_shown : {T E : Type 0} (r : Result T E) (old new : List ℕ) (c : ℕ) → new ≡ (if is_ok r then old ++ encode_utf8 c else old) → IsPlain c
    → OnOk r (StaysShown old new)
pushed_shown (Ok x) old new c is plain = shown_push old new c is plain
pushed_shown (Err e) old new c is plain = tt
