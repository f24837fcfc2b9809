-- What single functions say to one another, in terms of their own data: no promise to a reader rests on it.
use Rattle.std.specs.Prelude.{true, false, codes}
use Rattle.std.specs.Fmt.{decimal, signed_decimal}
use Rattle.log_reader.specs.Names.{Name, text_name}
use Rattle.log_reader.specs.declared.name_value.NameValue.{NameValue}
use Rattle.log_reader.specs.declared.name_value.NameValue.TheVariants.{Text, Whole, Negative, Truth}
use Rattle.log_reader.specs.declared.said.Said.{Said}
use Rattle.log_reader.specs.declared.said.Said.TheVariants.{Start, Begin, End, Ordered}
use Rattle.log_reader.specs.declared.said.SaidCall.{SaidCall}
use Rattle.log_reader.specs.declared.said.SaidCall.TheVariants.{Write, Read, Delete}
use Rattle.log_reader.specs.declared.said.SaidEnding.{SaidEnding}
use Rattle.log_reader.specs.declared.said.SaidEnding.TheVariants.{Answer, Nothing, Failed, Lost}
use Rattle.log_reader.specs.Forms as forms

-- the name that a JSON value is
abbrev pub name_in : NameValue → Name
name_in (Text s) = text_name s.now
name_in (Whole n) = decimal n
name_in (Negative z) = signed_decimal z
name_in (Truth true) = codes "true"
name_in (Truth false) = codes "false"

-- what is said, by names
abbrev pub call_view : SaidCall → forms.SaidCall
call_view (Write key value) = forms.write (name_in key) (name_in value)
call_view (Read key) = forms.read (name_in key)
call_view (Delete key) = forms.delete (name_in key)

abbrev pub ending_view : SaidEnding → forms.SaidEnding
ending_view (Answer value) = forms.answer (name_in value)
ending_view Nothing = forms.nothing
ending_view Failed = forms.failed
ending_view Lost = forms.lost

abbrev pub said_view : Said → forms.Said
said_view (Start key value) = forms.start (name_in key) (name_in value)
said_view (Begin client call) = forms.begin (name_in client) (call_view call)
said_view (End client ending) = forms.end (name_in client) (ending_view ending)
said_view Ordered = forms.ordered
