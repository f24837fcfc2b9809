use Rattle.std.proofs.lemmas.Result.{IfOk-weaker}
use Rattle.json_histories.specs.Reads.{number_form}
use Rattle.pattern_json.proofs.CertificateForms.{list_read}
use Rattle.pattern_json.proofs.numbers.next_numbers.Goals as goal

pub returns-clause-read : goal.returns-clause-read
returns-clause-read g c =
    IfOk-weaker c.next_list.result _ _
    (λ taken is. (is.0, is.1, list_read g.T.Number.fits (λ n. number_form (g.T.Number.whole n)) c.next_list.new.gathered.numbers.items taken is.0 is.2))
    c.next_list.ensures.read
