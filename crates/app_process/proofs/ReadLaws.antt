-- Bytes that a reader gives one after the other.
use Rattle.std.specs.Prelude.{◌++◌, ℕ, List, [], Option, None, Some, refl}
use Rattle.std.specs.Io.KnownBytes.{Consumes, Keeps}
use Rattle.std.proofs.Common.{sym, subst, ap, ◌∙◌, append-nil, append_assoc}
use Rattle.app_process.specs.Steps.Readings.{Reads}

-- none were given
pub consumes_nothing : (a : Option (List ℕ)) → Consumes a a []
consumes_nothing None = tt
consumes_nothing (Some xs) = refl

-- some, and then others
consumes_both : (a b c : Option (List ℕ)) (x y : List ℕ) → Consumes a b x → Consumes b c y → Consumes a c (x ++ y)
consumes_both None b c x y first second = tt
consumes_both (Some xs) None c x y first second = absurd first
consumes_both (Some xs) (Some ys) None x y first second = absurd second
consumes_both (Some xs) (Some ys) (Some zs) x y first second = first ∙ (ap (λ l. x ++ l) second ∙ sym (append_assoc x y zs))

pub consumes_more : (a b c : Option (List ℕ)) (before after : List ℕ) → Consumes a b before → Reads b c before after → Consumes a c after
consumes_more a b c before after first second =
    let P : List ℕ → Type 0 = λ l. Consumes a c l in
    subst P (sym second.2) (consumes_both a b c before second.0 first second.1)

-- a call that gave none
pub reads_nothing : (a b : Option (List ℕ)) (bytes : List ℕ) → Keeps a b → Reads a b bytes bytes
reads_nothing None b bytes kept = ([], tt, sym (append-nil bytes))
reads_nothing (Some xs) None bytes kept = absurd kept
reads_nothing (Some xs) (Some ys) bytes kept = ([], sym kept, sym (append-nil bytes))
