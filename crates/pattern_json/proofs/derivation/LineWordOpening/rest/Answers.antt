use Rattle.std.proofs.Common.{refl}
use Rattle.std.specs.Prelude.{codes}
use Rattle.serde_json.specs.Data.{string}
use Rattle.json_histories.specs.Reads.{number_form}
use Rattle.pattern_check.specs.declared.derivation.Line.TheVariants as lines
use Rattle.pattern_json.specs.PatternForm.{op_form, path_form}
use Rattle.pattern_json.specs.Steps.Taken.{both, line_parts}
use Rattle.pattern_json.proofs.LineParts.{no_causal_line, no_joining_line, no_rival_line}
use Rattle.pattern_json.proofs.Openings.{made_after, none_after}
use Rattle.pattern_json.proofs.derivation.LineWordOpening.rest.Goals as goal

pub returns-in-Some-clause-read : goal.returns-in-Some-clause-read
returns-in-Some-clause-read c =
    let read = rw c.in-Some.is at c.in_ok-above-in-Co.ensures.read in
    rw c.in-Co.is (made_after (both path_form path_form) line_parts (string (codes "co")) (λ p. lines.Co p.0 p.1) (λ p. refl) (c.in-Some.above, c.in-Some.below) c.args.depth c.args.reader.now c.next_rest.new.reader read)

pub returns-in-None-clause-read : goal.returns-in-None-clause-read
returns-in-None-clause-read c =
    let read = rw c.in-None.is at c.in_ok-above-in-Co.ensures.read in
    rw c.in-Co.is (none_after (both path_form path_form) line_parts (string (codes "co")) no_causal_line c.args.depth c.args.reader.now c.next_rest.new.reader read)

pub returns-in-Some-2-clause-read : goal.returns-in-Some-2-clause-read
returns-in-Some-2-clause-read c =
    let read = rw c.in-Some-2.is at c.in_ok-i-in-Tr.ensures.read in
    rw c.in-Tr.is (made_after (both number_form number_form) line_parts (string (codes "tr")) (λ p. lines.Tr p.0 p.1) (λ p. refl) (c.in-Some-2.i, c.in-Some-2.j) c.args.depth c.args.reader.now c.next_rest-in-Tr.new.reader read)

pub returns-in-None-2-clause-read : goal.returns-in-None-2-clause-read
returns-in-None-2-clause-read c =
    let read = rw c.in-None-2.is at c.in_ok-i-in-Tr.ensures.read in
    rw c.in-Tr.is (none_after (both number_form number_form) line_parts (string (codes "tr")) no_joining_line c.args.depth c.args.reader.now c.next_rest-in-Tr.new.reader read)

pub returns-in-Some-3-clause-read : goal.returns-in-Some-3-clause-read
returns-in-Some-3-clause-read c =
    let read = rw c.in-Some-3.is at c.in_ok-i-in-Rf.ensures.read in
    rw c.in-Rf.is (made_after (both number_form op_form) line_parts (string (codes "rf")) (λ p. lines.Rf p.0 p.1) (λ p. refl) (c.in-Some-3.i, c.in-Some-3.read) c.args.depth c.args.reader.now c.next_rest-in-Rf.new.reader read)

pub returns-in-None-3-clause-read : goal.returns-in-None-3-clause-read
returns-in-None-3-clause-read c =
    let read = rw c.in-None-3.is at c.in_ok-i-in-Rf.ensures.read in
    rw c.in-Rf.is (none_after (both number_form op_form) line_parts (string (codes "rf")) no_rival_line c.args.depth c.args.reader.now c.next_rest-in-Rf.new.reader read)
