-- Help and the version, by what their parts promise.
use Rattle.std.specs.Prelude.{◌≡◌, ◌++◌, ℕ, List, [], true, codes, refl}
use Rattle.std.proofs.Common.{inl, inr, sym, append-nil}
use Rattle.json_lines.specs.Lines.{ended}
use Rattle.show_refusals.specs.Lines.{BeginsWith}
use Rattle.app_process.specs.Usages.{IsGate, is_version}

-- nothing comes after a text, or after the version a line on the gate
pub no_gate : (text : List ℕ) → (more : List ℕ) × IsGate text more × (text ≡ text ++ more)
no_gate text = ([], inl refl, sym (append-nil text))

pub some_gate : (text line whole : List ℕ) → is_version text ≡ true → BeginsWith (codes "gate ") line → whole ≡ text ++ ended line
    → (more : List ℕ) × IsGate text more × (whole ≡ text ++ more)
some_gate text line whole version gate is_whole = (ended line, inr (version, line, gate, refl), is_whole)
