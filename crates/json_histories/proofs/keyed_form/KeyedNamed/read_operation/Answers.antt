use Rattle.std.proofs.Common.{ap, ◌∙◌}
use Rattle.std.specs.Prelude.{option_and_then, option_map}
use Rattle.json_histories.specs.Spelling.{keyed_parts_at}
use Rattle.json_histories.proofs.keyed_form.KeyedNamed.read_operation.Goals as goal

pub returns : goal.returns
returns g c =
    ap (option_map (λ e. (record { key = c.in_ok-word.key; call = e.0 }, e.1))) c.in_ok-call.ensures
    ∙ ap (option_and_then (keyed_parts_at g.O.Spelled.call_at g.O.Spelled.ret_at)) c.in_ok-word.ensures
