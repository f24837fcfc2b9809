use Rattle.std.proofs.Common.{refl}
use Rattle.serde_json.specs.Data.{string}
use Rattle.pattern_check.specs.declared.kind.Kind.TheVariants as kinds
use Rattle.pattern_check.specs.declared.pattern.Pattern.TheVariants as patterns
use Rattle.pattern_check.specs.KindNames.{kind_name}
use Rattle.pattern_json.specs.PatternForm.{lines_form, links_form, op_form, path_form}
use Rattle.pattern_json.specs.Steps.PatternTaken.{pattern_parts}
use Rattle.pattern_json.specs.Steps.Taken.{both, one}
use Rattle.pattern_json.proofs.PatternParts.{no_causal_cycle, no_conflict_cycle, no_derived_cycle, no_derived_read, no_initial_read, no_overwritten_read, no_thin_air_read}
use Rattle.pattern_json.proofs.Openings.{made_after, none_after}
use Rattle.pattern_json.proofs.pattern.KindOpening.rest.Goals as goal

pub returns-in-Some-clause-read : goal.returns-in-Some-clause-read
returns-in-Some-clause-read c =
    let read = rw c.in-Some.is at c.in_ok-path-in-CyclicCO.ensures.read in
    rw c.in-CyclicCO.is (made_after (one path_form) pattern_parts (string (kind_name kinds.CyclicCO)) patterns.CyclicCO (λ a. refl) c.in-Some.path c.args.depth c.args.reader.now c.next_rest.new.reader read)

pub returns-in-None-clause-read : goal.returns-in-None-clause-read
returns-in-None-clause-read c =
    let read = rw c.in-None.is at c.in_ok-path-in-CyclicCO.ensures.read in
    rw c.in-CyclicCO.is (none_after (one path_form) pattern_parts (string (kind_name kinds.CyclicCO)) no_causal_cycle c.args.depth c.args.reader.now c.next_rest.new.reader read)

pub returns-in-Some-2-clause-read : goal.returns-in-Some-2-clause-read
returns-in-Some-2-clause-read c =
    let read = rw c.in-Some-2.is at c.in_ok-read-in-ThinAirRead.ensures.read in
    rw c.in-ThinAirRead.is (made_after (one op_form) pattern_parts (string (kind_name kinds.ThinAirRead)) patterns.ThinAirRead (λ a. refl) c.in-Some-2.read c.args.depth c.args.reader.now c.next_rest-in-ThinAirRead.new.reader read)

pub returns-in-None-2-clause-read : goal.returns-in-None-2-clause-read
returns-in-None-2-clause-read c =
    let read = rw c.in-None-2.is at c.in_ok-read-in-ThinAirRead.ensures.read in
    rw c.in-ThinAirRead.is (none_after (one op_form) pattern_parts (string (kind_name kinds.ThinAirRead)) no_thin_air_read c.args.depth c.args.reader.now c.next_rest-in-ThinAirRead.new.reader read)

pub returns-in-Some-3-clause-read : goal.returns-in-Some-3-clause-read
returns-in-Some-3-clause-read c =
    let read = rw c.in-Some-3.is at c.in_ok-path-in-WriteCOInitRead.ensures.read in
    rw c.in-WriteCOInitRead.is (made_after (one path_form) pattern_parts (string (kind_name kinds.WriteCOInitRead)) patterns.WriteCOInitRead (λ a. refl) c.in-Some-3.path c.args.depth c.args.reader.now c.next_rest-in-WriteCOInitRead.new.reader read)

pub returns-in-None-3-clause-read : goal.returns-in-None-3-clause-read
returns-in-None-3-clause-read c =
    let read = rw c.in-None-3.is at c.in_ok-path-in-WriteCOInitRead.ensures.read in
    rw c.in-WriteCOInitRead.is (none_after (one path_form) pattern_parts (string (kind_name kinds.WriteCOInitRead)) no_initial_read c.args.depth c.args.reader.now c.next_rest-in-WriteCOInitRead.new.reader read)

pub returns-in-Some-4-clause-read : goal.returns-in-Some-4-clause-read
returns-in-Some-4-clause-read c =
    let read = rw c.in-Some-4.is at c.in_ok-above-in-WriteCORead.ensures.read in
    rw c.in-WriteCORead.is (made_after (both path_form path_form) pattern_parts (string (kind_name kinds.WriteCORead)) (λ p. patterns.WriteCORead p.0 p.1) (λ p. refl) (c.in-Some-4.above, c.in-Some-4.below) c.args.depth c.args.reader.now c.next_rest-in-WriteCORead.new.reader read)

pub returns-in-None-4-clause-read : goal.returns-in-None-4-clause-read
returns-in-None-4-clause-read c =
    let read = rw c.in-None-4.is at c.in_ok-above-in-WriteCORead.ensures.read in
    rw c.in-WriteCORead.is (none_after (both path_form path_form) pattern_parts (string (kind_name kinds.WriteCORead)) no_overwritten_read c.args.depth c.args.reader.now c.next_rest-in-WriteCORead.new.reader read)

pub returns-in-Some-5-clause-read : goal.returns-in-Some-5-clause-read
returns-in-Some-5-clause-read c =
    let read = rw c.in-Some-5.is at c.in_ok-op-in-WriteHBInitRead.ensures.read in
    rw c.in-WriteHBInitRead.is (made_after (both op_form lines_form) pattern_parts (string (kind_name kinds.WriteHBInitRead)) (λ p. patterns.WriteHBInitRead p.0 p.1) (λ p. refl) (c.in-Some-5.op, c.in-Some-5.lines) c.args.depth c.args.reader.now c.next_rest-in-WriteHBInitRead.new.reader read)

pub returns-in-None-5-clause-read : goal.returns-in-None-5-clause-read
returns-in-None-5-clause-read c =
    let read = rw c.in-None-5.is at c.in_ok-op-in-WriteHBInitRead.ensures.read in
    rw c.in-WriteHBInitRead.is (none_after (both op_form lines_form) pattern_parts (string (kind_name kinds.WriteHBInitRead)) no_derived_read c.args.depth c.args.reader.now c.next_rest-in-WriteHBInitRead.new.reader read)

pub returns-in-Some-6-clause-read : goal.returns-in-Some-6-clause-read
returns-in-Some-6-clause-read c =
    let read = rw c.in-Some-6.is at c.in_ok-op-in-CyclicHB.ensures.read in
    rw c.in-CyclicHB.is (made_after (both op_form lines_form) pattern_parts (string (kind_name kinds.CyclicHB)) (λ p. patterns.CyclicHB p.0 p.1) (λ p. refl) (c.in-Some-6.op, c.in-Some-6.lines) c.args.depth c.args.reader.now c.next_rest-in-CyclicHB.new.reader read)

pub returns-in-None-6-clause-read : goal.returns-in-None-6-clause-read
returns-in-None-6-clause-read c =
    let read = rw c.in-None-6.is at c.in_ok-op-in-CyclicHB.ensures.read in
    rw c.in-CyclicHB.is (none_after (both op_form lines_form) pattern_parts (string (kind_name kinds.CyclicHB)) no_derived_cycle c.args.depth c.args.reader.now c.next_rest-in-CyclicHB.new.reader read)

pub returns-in-Some-7-clause-read : goal.returns-in-Some-7-clause-read
returns-in-Some-7-clause-read c =
    let read = rw c.in-Some-7.is at c.in_ok-links-in-CyclicCF.ensures.read in
    rw c.in-CyclicCF.is (made_after (one links_form) pattern_parts (string (kind_name kinds.CyclicCF)) patterns.CyclicCF (λ a. refl) c.in-Some-7.links c.args.depth c.args.reader.now c.next_rest-in-CyclicCF.new.reader read)

pub returns-in-None-7-clause-read : goal.returns-in-None-7-clause-read
returns-in-None-7-clause-read c =
    let read = rw c.in-None-7.is at c.in_ok-links-in-CyclicCF.ensures.read in
    rw c.in-CyclicCF.is (none_after (one links_form) pattern_parts (string (kind_name kinds.CyclicCF)) no_conflict_cycle c.args.depth c.args.reader.now c.next_rest-in-CyclicCF.new.reader read)
