-- What is known of an output whose lines may be dressed: with a label before each, or with colours.
use Rattle.std.specs.Prelude.{Bool, true, false, not, ◌&&◌, ◌≡◌, List, ℕ, Option, None, Some}
use Rattle.app_orders.specs.declared.coloring.Coloring.{Coloring}
use Rattle.app_orders.specs.declared.coloring.Coloring.TheVariants.{Auto, Always, Never}
use Rattle.app_orders.specs.declared.form.Form.{Form}
use Rattle.app_orders.specs.declared.form.Form.TheVariants as forms
use Rattle.app_orders.specs.declared.form.LongForm.{LongForm}
use Rattle.app_orders.specs.declared.form.LongForm.TheVariants as long_forms
use Rattle.app_orders.specs.declared.form.ListForm.{ListForm}
use Rattle.app_orders.specs.declared.form.ListForm.TheVariants as list_forms
use Rattle.app_orders.specs.declared.log_order.LogOrder.{LogOrder}
use Rattle.app_orders.specs.declared.log_order.LogOrder.TheVariants as log_orders
use Rattle.app_orders.specs.declared.order.Order.{Order}
use Rattle.app_orders.specs.declared.order.Order.TheVariants as orders
use Rattle.app_orders.specs.declared.order.Task.{Task}
use Rattle.app_orders.specs.declared.order.Task.TheVariants.{OfInput, OfLog, OfPage}
use Rattle.app_process.specs.Saying.{Known}

-- which answers have lines in words on criteria, such as `cc yes`: no JSON, no picture, no page, and no answer of `replay` and `events`
abbrev pub form_words : Form → Bool
form_words forms.Words = true
form_words _ = false

abbrev pub long_words : LongForm → Bool
long_words long_forms.Words = true
long_words _ = false

abbrev pub list_words : ListForm → Bool
list_words list_forms.Words = true
list_words list_forms.Json = false

abbrev pub order_words : Order → Bool
order_words (orders.Explain form) = form_words form
order_words (orders.ExplainLong form) = long_words form
order_words (orders.ListFaults listing) = list_words listing.form
order_words orders.Replay = false
order_words _ = true

abbrev pub log_words : LogOrder → Bool
log_words (log_orders.Judge judging) = true
log_words (log_orders.Explain form) = long_words form
log_words (log_orders.ListFaults most form) = list_words form
log_words _ = false

abbrev pub is_in_words : Task → Bool
is_in_words (OfInput order detail) = order_words order
is_in_words (OfLog order) = log_words order
is_in_words (OfPage page detail) = false

-- whether the words of an answer are coloured: where no colouring is named, only on a terminal
abbrev pub IsPainted : Task → Coloring → Bool → Bool → Type 0
IsPainted task Always at_terminal painted = painted ≡ is_in_words task
IsPainted task Never at_terminal painted = painted ≡ false
IsPainted task Auto at_terminal painted = painted ≡ true → (is_in_words task && at_terminal) ≡ true

-- lines are written as they are: without a label and without colours
abbrev pub is_plain : Option (List ℕ) → Bool → Bool
is_plain None painted = not painted
is_plain (Some label) painted = false

-- what is known of an output: nothing where its lines are dressed
abbrev pub plainly : Bool → Known → Known
plainly true known = known
plainly false known = None
