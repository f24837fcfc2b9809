-- What is written of the names of a log, and of the lines on which its calls are.
use Rattle.std.specs.Prelude.{◌≡◌, ◌⊎◌, ℕ, List, ◌++◌, codes, decimal}
use Rattle.log_events.specs.Events.{Call}
use Rattle.log_choices.specs.declared.seen.Seen.{Seen}
use Rattle.log_choices.specs.ChoiceTables.{choice_in}
use Rattle.log_choices.specs.ChosenOrigins.{origins_by}
use Rattle.log_reader.specs.EventLines.{line_at}
use Rattle.log_reader.specs.Logs.{Log}
use Rattle.log_reader.specs.NameTexts.{IsNameText}
use Rattle.app_logs.specs.TextLists.{IsListText}

-- the list of the clients of the log, that of its keys and that of its values, each name as JSON, on one line
pub record AreNames (log : Log) (text : List ℕ) : Type 0 where
  pub clients : List ℕ
  pub keys : List ℕ
  pub values : List ℕ
  pub are_clients : IsListText IsNameText log.clients clients
  pub are_keys : IsListText IsNameText log.keys keys
  pub are_values : IsListText IsNameText log.values values
  pub is_text : text ≡ codes "[" ++ (clients ++ (codes "," ++ (keys ++ (codes "," ++ (values ++ codes "]\n")))))

-- the line on which a call begins, or a list of that line and of another one, on which the note of its end is
abbrev pub IsBegunOn : ℕ → List ℕ → Type 0
IsBegunOn begin text = (text ≡ decimal begin) ⊎ ((end : ℕ) × (text ≡ codes "[" ++ (decimal begin ++ (codes "," ++ (decimal end ++ codes "]")))))

abbrev pub IsCallLine : Log → Call → List ℕ → Type 0
IsCallLine log call text = IsBegunOn (line_at log call.place) text

-- for each session of the log's history by what its null reads saw, the lines of its operations, on one line
abbrev pub AreCallLines : List (ℕ × Seen) → Log → List ℕ → Type 0
AreCallLines saw log text =
    (lists : List ℕ) × IsListText (IsListText (IsCallLine log)) (origins_by log.events (choice_in saw)) lists × (text ≡ lists ++ codes "\n")
