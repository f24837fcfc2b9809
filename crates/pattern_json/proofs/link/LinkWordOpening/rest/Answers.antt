use Rattle.std.proofs.Common.{refl}
use Rattle.std.specs.Prelude.{codes}
use Rattle.serde_json.specs.Data.{string}
use Rattle.pattern_check.specs.declared.link.Link.TheVariants as links
use Rattle.pattern_json.specs.PatternForm.{op_form, path_form}
use Rattle.pattern_json.specs.Steps.Taken.{both, link_parts}
use Rattle.pattern_json.proofs.LinkParts.{no_edge, no_conflict}
use Rattle.pattern_json.proofs.Openings.{made_after, none_after}
use Rattle.pattern_json.proofs.link.LinkWordOpening.rest.Goals as goal

pub returns-in-Some-clause-read : goal.returns-in-Some-clause-read
returns-in-Some-clause-read c =
    let read = rw c.in-Some.is at c.in_ok-begin-in-Co.ensures.read in
    rw c.in-Co.is (made_after (both op_form op_form) link_parts (string (codes "co")) (λ p. links.Co p.0 p.1) (λ p. refl) (c.in-Some.begin, c.in-Some.end) c.args.depth c.args.reader.now c.next_rest.new.reader read)

pub returns-in-None-clause-read : goal.returns-in-None-clause-read
returns-in-None-clause-read c =
    let read = rw c.in-None.is at c.in_ok-begin-in-Co.ensures.read in
    rw c.in-Co.is (none_after (both op_form op_form) link_parts (string (codes "co")) no_edge c.args.depth c.args.reader.now c.next_rest.new.reader read)

pub returns-in-Some-2-clause-read : goal.returns-in-Some-2-clause-read
returns-in-Some-2-clause-read c =
    let read = rw c.in-Some-2.is at c.in_ok-path-in-Cf.ensures.read in
    rw c.in-Cf.is (made_after (both path_form op_form) link_parts (string (codes "cf")) (λ p. links.Cf p.0 p.1) (λ p. refl) (c.in-Some-2.path, c.in-Some-2.end) c.args.depth c.args.reader.now c.next_rest-in-Cf.new.reader read)

pub returns-in-None-2-clause-read : goal.returns-in-None-2-clause-read
returns-in-None-2-clause-read c =
    let read = rw c.in-None-2.is at c.in_ok-path-in-Cf.ensures.read in
    rw c.in-Cf.is (none_after (both path_form op_form) link_parts (string (codes "cf")) no_conflict c.args.depth c.args.reader.now c.next_rest-in-Cf.new.reader read)
