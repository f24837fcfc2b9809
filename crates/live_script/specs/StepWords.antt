-- The words that the steps of a script begin with.
use Rattle.std.specs.Prelude.{ℕ, List, codes}
use Rattle.live_script.specs.declared.step_word.StepWord.{StepWord}
use Rattle.live_script.specs.declared.step_word.StepWord.TheVariants.{Begin, End, Start, Look, Show, File, Take, Work, Put, Refute, Ask}

abbrev pub name_of : StepWord → List ℕ
name_of Begin = codes "begin"
name_of End = codes "end"
name_of Start = codes "start"
name_of Look = codes "look"
name_of Show = codes "show"
name_of File = codes "file"
name_of Take = codes "take"
name_of Work = codes "work"
name_of Put = codes "put"
name_of Refute = codes "refute"
name_of Ask = codes "ask"
