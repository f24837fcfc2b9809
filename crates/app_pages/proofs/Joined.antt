-- What is answered makes a page.
use Rattle.std.proofs.Common.{◌≡◌, ◌-◌, ℕ, List, codes, refl}
use Rattle.app_orders.specs.declared.form.ListForm.TheVariants as list_forms
use Rattle.app_orders.specs.declared.form.LongForm.TheVariants as long_forms
use Rattle.app_orders.specs.declared.length.Length.{Length}
use Rattle.app_orders.specs.declared.log_order.LogOrder.TheVariants.{Explain, ListFaults, WriteHistory, WriteNames, WriteNotes}
use Rattle.app_engine.specs.Running.{IsOutput}
use Rattle.log_choices.specs.declared.seen.Seen.{Seen}
use Rattle.log_reader.specs.Logs.{Log}
use Rattle.show_page.specs.Pages.{page, said}
use Rattle.app_logs.specs.LogTexts.{AreCallLines}
use Rattle.app_pages.specs.Steps.Answers.{IsAnswerTo}
use Rattle.app_pages.specs.Writing.{CountsReads, IsPageOf, IsPageOfInput, IsSaidOfInput, IsSaidOfLog, list_order, listing_order, picture_order, words_order}

pub answers_make_said : (most counted : ℕ) (saw : List (ℕ × Seen)) (log : Log) (report words list picture part : List ℕ) → CountsReads report counted
    → IsAnswerTo saw (Explain long_forms.Words) log words → IsAnswerTo saw (ListFaults most list_forms.Words) log list
    → IsAnswerTo saw (Explain long_forms.Picture) log picture → part ≡ said words (counted - most) list picture → IsSaidOfLog saw log report part
answers_make_said most counted saw log report words list picture part is_counted first second third is_said = record {
  words = words;
  most = most;
  counted = counted;
  list = list;
  picture = picture;
  are_words = (first.1.0, refl);
  is_counted = is_counted;
  is_list = (second.1.0, refl);
  is_picture = (third.1.0, refl);
  is_said = is_said;
}

pub answers_make_page : (most : ℕ) (saw : List (ℕ × Seen)) (log : Log) (history report names lines notes part text : List ℕ) → IsAnswerTo saw WriteHistory log history
    → IsAnswerTo saw (ListFaults most list_forms.Json) log report → IsAnswerTo saw WriteNames log names → AreCallLines saw log lines → IsAnswerTo saw WriteNotes log notes
    → IsSaidOfLog saw log report part
    → text ≡ page history report names lines notes part → IsPageOf most saw log text
answers_make_page most saw log history report names lines notes part text first second named are_lines third is_said is_page = record {
  history = history;
  report = report;
  names = names;
  lines = lines;
  notes = notes;
  part = part;
  is_history = (first.1.0, refl);
  is_report = (second.1.0, refl);
  are_names = (named.1.0, refl);
  are_lines = are_lines;
  are_notes = (third.1.0, refl);
  is_said = is_said;
  is_page = is_page;
}

pub outputs_make_said : (long : Length) (most counted : ℕ) (input report words list picture part : List ℕ) → CountsReads report counted
    → IsOutput (words_order long) input words → IsOutput (list_order most long) input list → IsOutput (picture_order long) input picture
    → part ≡ said words (counted - most) list picture → IsSaidOfInput long input report part
outputs_make_said long most counted input report words list picture part is_counted are_words is_list is_picture is_said = record {
  words = words;
  most = most;
  counted = counted;
  list = list;
  picture = picture;
  are_words = are_words;
  is_counted = is_counted;
  is_list = is_list;
  is_picture = is_picture;
  is_said = is_said;
}

pub output_makes_page : (most : ℕ) (long : Length) (input report part text : List ℕ) → IsOutput (listing_order most long) input report
    → IsSaidOfInput long input report part → text ≡ page input report (codes "null") (codes "null") (codes "[]") part → IsPageOfInput most long input text
output_makes_page most long input report part text output is_said is_page =
    record { report = report; part = part; output = output; is_said = is_said; is_page = is_page }
