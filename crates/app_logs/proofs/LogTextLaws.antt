-- What is written of the names of a log, and of the lines of its calls.
use Rattle.std.proofs.Common.{◌≡◌, ℕ, List, ◌++◌, codes, ap, ◌∙◌, append_assoc}
use Rattle.log_reader.specs.Logs.{Log}
use Rattle.log_reader.specs.NameTexts.{IsNameText}
use Rattle.app_logs.specs.LogTexts.{AreNames}
use Rattle.app_logs.specs.Steps.ListsSoFar.{AddsList}

-- three lists, one after the other
pub names_made : (log : Log) (a b c d e f g : List ℕ) → a ≡ codes "[" → AddsList IsNameText log.clients a b → c ≡ b ++ codes "," → AddsList IsNameText log.keys c d
    → e ≡ d ++ codes "," → AddsList IsNameText log.values e f → g ≡ f ++ codes "]\n" → AreNames log g
names_made log a b c d e f g a_is clients c_is keys e_is values g_is = record {
  clients = clients.0;
  keys = keys.0;
  values = values.0;
  are_clients = clients.1;
  are_keys = keys.1;
  are_values = values.1;
  is_text =
      let first : b ≡ codes "[" ++ clients.0 = clients.2 ∙ ap (λ (l : List ℕ). l ++ clients.0) a_is in
      let second : d ≡ ((codes "[" ++ clients.0) ++ codes ",") ++ keys.0 =
      keys.2 ∙ ap (λ (l : List ℕ). l ++ keys.0) (c_is ∙ ap (λ (l : List ℕ). l ++ codes ",") first) in
      let third : f ≡ ((((codes "[" ++ clients.0) ++ codes ",") ++ keys.0) ++ codes ",") ++ values.0 =
      values.2 ∙ ap (λ (l : List ℕ). l ++ values.0) (e_is ∙ ap (λ (l : List ℕ). l ++ codes ",") second) in
      g_is ∙ ap (λ (l : List ℕ). l ++ codes "]\n") third ∙ regroup clients.0 keys.0 values.0;
}
  where
    regroup : (x y z : List ℕ) → (((((codes "[" ++ x) ++ codes ",") ++ y) ++ codes ",") ++ z) ++ codes "]\n" ≡ codes "[" ++ (x ++ (codes "," ++ (y ++ (codes "," ++ (z ++ codes "]\n")))))
    regroup x y z = simp append_assoc
