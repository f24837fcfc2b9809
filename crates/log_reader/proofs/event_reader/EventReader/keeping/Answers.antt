use Rattle.std.proofs.Common.{ap}
use Rattle.json_lines.specs.LineReaders.{Lining}
use Rattle.log_reader.proofs.ReadLaws.{read-begun}
use Rattle.log_reader.proofs.event_reader.EventReader.keeping.Goals as goal

pub returns : goal.returns
returns c = read-begun c.new-3.result c.in_ok-new.field-0.held c.new-3.ensures (ap (λ (r : Lining). r.held) c.in_ok-new.ensures)
