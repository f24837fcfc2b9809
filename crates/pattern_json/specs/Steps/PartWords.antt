-- The words that links and lines begin with.
use Rattle.std.specs.Prelude.{ℕ, List, codes}
use Rattle.pattern_json.specs.declared.derivation.LineWord.{LineWord}
use Rattle.pattern_json.specs.declared.derivation.LineWord.TheVariants as lines
use Rattle.pattern_json.specs.declared.link.LinkWord.{LinkWord}
use Rattle.pattern_json.specs.declared.link.LinkWord.TheVariants as links

abbrev pub link_word : LinkWord → List ℕ
link_word links.Co = codes "co"
link_word links.Cf = codes "cf"

abbrev pub line_word : LineWord → List ℕ
line_word lines.Co = codes "co"
line_word lines.Tr = codes "tr"
line_word lines.Rf = codes "rf"
