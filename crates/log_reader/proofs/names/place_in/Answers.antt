use Rattle.std.proofs.Common.{List, Global, sym, ◌∙◌, map}
use Rattle.std.specs.Prelude.{string_bytes}
use Rattle.log_reader.specs.Names.{Name}
use Rattle.log_reader.proofs.NameTextLaws.{each_named}
use Rattle.log_reader.proofs.TableLaws.{number_found, number_inserted, table_inserted, table_stays, with_name-grows}
use Rattle.log_reader.proofs.names.place_in.Goals as goal

pub returns-in-Some-clause-number : goal.returns-in-Some-clause-number
returns-in-Some-clause-number c = number_found c.args.names.now.keys c.args.name.now c.in-Some.place (sym c.in-Some.ensures.index)

pub returns-in-Some-clause-table : goal.returns-in-Some-clause-table
returns-in-Some-clause-table c = table_stays c.args.names.now.keys c.args.name.now (sym c.in-Some.ensures.found)

pub returns-clause-number : goal.returns-clause-number
returns-clause-number c =
    let ok = c.in_ok-owned.ensures.ok in
    number_inserted c.args.names.now.keys c.args.name.now c.in_ok-place.place (rw ok at c.in_ok-place.ensures.index)

pub returns-clause-table : goal.returns-clause-table
returns-clause-table c =
    let ok = c.in_ok-owned.ensures.ok in
    table_inserted c.args.names.now.keys c.in_ok-owned.owned c.insert_full.new.self.keys c.args.name.now c.in_ok-place.ensures.keys ok

pub returns-clause-grows : goal.returns-clause-grows
returns-clause-grows c =
    let bytes : List Name = map (string_bytes {Z = Global}) c.args.names.now.keys in
    let ok = c.in_ok-owned.ensures.ok in
    let table = table_inserted c.args.names.now.keys c.in_ok-owned.owned c.insert_full.new.self.keys c.args.name.now c.in_ok-place.ensures.keys ok in
    let more = with_name-grows bytes c.args.name.now in
    (more.0, table ∙ more.1)

pub returns-clause-each : goal.returns-clause-each
returns-clause-each c =
    let bytes : List Name = map (string_bytes {Z = Global}) c.args.names.now.keys in
    let ok = c.in_ok-owned.ensures.ok in
    let table = table_inserted c.args.names.now.keys c.in_ok-owned.owned c.insert_full.new.self.keys c.args.name.now c.in_ok-place.ensures.keys ok in
    each_named bytes (map (string_bytes {Z = Global}) c.insert_full.new.self.keys) c.args.name.now table c.requires
