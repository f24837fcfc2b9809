use Rattle.std.proofs.Common.{◌≡◌, ◌≢◌, ℕ, List, [], ◌∷◌, map, refl, sym, subst}
use Rattle.std.proofs.lemmas.Result.{on_ok_weaker}
use Rattle.json_histories.specs.Json.{list}
use Rattle.json_histories.specs.RegisterForm as register
use Rattle.json_histories.specs.Spelling.{table_form}
use Rattle.judge_writer.specs.Steps.{AreWritten, initial_form}
use Rattle.judge_writer.proofs.Written.{list_written, none_written}
use Rattle.judge_writer.proofs.start.write_start.Goals as goal

-- a table that has an entry is the list of the forms of its entries
entries_form : (t : List (ℕ × ℕ)) → t ≢ [] → list (map initial_form t) ∷ [] ≡ table_form register.start_form t
entries_form [] some = absurd (some refl)
entries_form (e ∷ es) some = refl

pub returns-then-is_empty : goal.returns-then-is_empty
returns-then-is_empty c =
    subst (λ (t : List (ℕ × ℕ)). AreWritten (table_form register.start_form t) c.args.out.now c.args.out.now) (sym (c.if-is_empty.ensures.0 refl)) (none_written c.args.out.now)

pub returns : goal.returns
returns c =
    let some : c.args.start.now ≢ [] = λ none. let h = c.if-is_empty.ensures.1 none in absurd cc in
    let entries : AreWritten (map initial_form c.args.start.now) c.begin_array.new.self c.write_initials.new.out =
    subst (λ (t : List (ℕ × ℕ)). AreWritten (map initial_form t) c.begin_array.new.self c.write_initials.new.out) c.entries.ensures c.in_ok-write_initials.ensures in
    on_ok_weaker c.end_array.result (λ after.
    subst (λ ds. AreWritten ds c.args.out.now c.end_array.new.self) (entries_form c.args.start.now some)
    (list_written (map initial_form c.args.start.now) _ _ _ _ (c.begin_array.ensures.room.0, c.in_ok-begin_array.ensures.ok) entries
    (c.end_array.ensures.room.0, after))) c.end_array.ensures.ok
