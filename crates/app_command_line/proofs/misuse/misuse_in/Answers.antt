-- The first misuse of the first kind of options that has one is the first of all.
use Rattle.std.proofs.Common.{map}
use Rattle.app_command_line.proofs.Misuses.{in_certificates, in_lines, in_logs}
use Rattle.app_command_line.proofs.misuse.misuse_in.Goals as goal

pub returns-in-Some : goal.returns-in-Some
returns-in-Some g c = in_logs (map g.S.AsStr.text c.args.words.now) c.in-Some.misuse c.in-Some.ensures

pub returns-in-Some-misuse_of_lines : goal.returns-in-Some-misuse_of_lines
returns-in-Some-misuse_of_lines g c =
    in_lines (map g.S.AsStr.text c.args.words.now) c.in-Some-misuse_of_lines.misuse c.in_default.ensures c.in-Some-misuse_of_lines.ensures

pub returns-in-Some-misuse_of_certificates : goal.returns-in-Some-misuse_of_certificates
returns-in-Some-misuse_of_certificates g c =
    in_certificates (map g.S.AsStr.text c.args.words.now) c.in-Some-misuse_of_certificates.misuse c.in_default.ensures
    c.in_default-misuse_of_lines.ensures c.in-Some-misuse_of_certificates.ensures
