use Rattle.std.proofs.Common.{◌≡◌, take}
use Rattle.std.specs.Prelude.{string_bytes}
use Rattle.std.specs.List.{flat_map}
use Rattle.live_script.specs.ReplyLines.{line_for}
use Rattle.live_script.proofs.replaying.reply_lines.Given as goal

-- the lines of the replies so far
abbrev pub invariant-loop-reply : goal.invariant-loop-reply
invariant-loop-reply g l =
    string_bytes l.text ≡ flat_map (line_for g.O.Named.name g.O.Named.operation_form g.O.Named.start_form) (take l.reply-index l.replies)
