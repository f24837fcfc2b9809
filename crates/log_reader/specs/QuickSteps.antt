-- What the functions that read a line of a common form say to one another: no promise to a reader rests on it.
use Rattle.std.specs.Prelude.{◌≡◌, ℕ, List, [], ◌∷◌, Some, None, codes}
use Rattle.json.specs.Json.{after_end_array, value}
use Rattle.json.specs.Token.{Token}
use Rattle.serde_json.specs.Data.{Data, string}
use Rattle.serde_json.specs.Read.{converted, of_json, read}
use Rattle.json_bounded.specs.Text.{IsJson}
use Rattle.log_reader.specs.Forms.{Said, SaidCall, call_at, call_in, said_at, said_in}
use Rattle.log_reader.specs.Logs.{IsFull}
use Rattle.log_reader.specs.Names.{Name, name_of}
use Rattle.log_reader.specs.declared.word.Word.{Word}
use Rattle.log_reader.specs.declared.word.Word.TheVariants as words

-- the text of a word; of any other text nothing is said
abbrev pub IsWord : Word → List ℕ → Type 0
IsWord words.Begin text = text ≡ codes "begin"
IsWord words.End text = text ≡ codes "end"
IsWord words.Start text = text ≡ codes "start"
IsWord words.Fail text = text ≡ codes "fail"
IsWord words.Lost text = text ≡ codes "lost"
IsWord words.Write text = text ≡ codes "w"
IsWord words.Read text = text ≡ codes "r"
IsWord words.Delete text = text ≡ codes "d"
IsWord words.Other text = Unit {0}

-- a value comes next, which nests no deeper than that
abbrev pub IsNext : ℕ → Data → List Token → List Token → Type 0
IsNext depth d old new = (converted of_json (value depth old) ≡ Some (d, new)) × (after_end_array old ≡ None)

-- a value comes next that nests nothing, and this holds of it
abbrev pub IsNextWith : (Data → Type 0) → List Token → List Token → Type 0
IsNextWith P old new = (d : Data) × ((depth : ℕ) → IsNext depth d old new) × P d

-- these values come next, one after the other
abbrev pub AreNext : ℕ → List Data → List Token → List Token → Type 0
AreNext depth [] old new = new ≡ old
AreNext depth (d ∷ ds) old new = (between : List Token) × IsNext depth d old between × AreNext depth ds between new

-- the elements of a call after its word and its key come next, by which this is called
abbrev pub AreCallRest : List ℕ → Name → List Token → List Token → SaidCall → Type 0
AreCallRest word key old new call =
    (ds : List Data) × AreNext 125 ds old new × ((d : Data) → name_of d ≡ Some key → call_in (string word ∷ d ∷ ds) ≡ Some call)

-- a call comes next
abbrev pub IsNextCall : List Token → List Token → SaidCall → Type 0
IsNextCall old new call = (d : Data) × IsNext 126 d old new × (call_at d ≡ Some call)

-- the elements after a word and a name come next, by which this is said
abbrev pub AreRest : List ℕ → Name → List Token → List Token → Said → Type 0
AreRest word name old new said =
    (ds : List Data) × AreNext 126 ds old new × ((d : Data) → name_of d ≡ Some name → said_in (string word ∷ d ∷ ds) ≡ Some said)

-- the tokens are one value, which says this
abbrev pub AreSaid : List Token → Said → Type 0
AreSaid old said = (d : Data) × (converted of_json (value 127 old) ≡ Some (d, [])) × (said_at d ≡ Some said)

-- the text is a value that says this
abbrev pub IsSaidIn : List ℕ → Said → Type 0
IsSaidIn text said = (d : Data) × (read text ≡ Some d) × (said_at d ≡ Some said)

-- and so is a line
abbrev pub IsSaidOn : List ℕ → Said → Type 0
IsSaidOn line said = IsFull line × ((d : Data) × IsJson line d × (said_at d ≡ Some said))
