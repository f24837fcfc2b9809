use Rattle.std.proofs.Common.{◌≡◌, ◌+◌, ◌∷◌, ◌++◌, [], take, ap, sym, ◌∙◌}
use Rattle.std.specs.Prelude.{string_bytes}
use Rattle.std.specs.List.{flat_map}
use Rattle.std.proofs.lemmas.List.{flat_map_more, take_all, take_more}
use Rattle.live_script.specs.ReplyLines.{line_for}
use Rattle.live_script.proofs.replaying.reply_lines.Goals as goal

pub loop-reply-preserved : goal.loop-reply-preserved
loop-reply-preserved g c =
    let line = line_for g.O.Named.name g.O.Named.operation_form g.O.Named.start_form in
    let replies = c.args.replies.now in
    let n = c.loop-reply.reply-index in
    let reply = c.reply-item.result in
    let first : string_bytes c.loop-reply.text ≡ flat_map line (take n replies) = c.loop-reply.invariant in
    let last : c.as_str.result.now ≡ line reply = c.as_str.ensures.value ∙ c.in_ok-line.ensures in
    let here : take (n + 1) replies ≡ take n replies ++ reply ∷ [] =
    take_more replies n reply c.loop-reply-test.true ∙ ap (λ r. take n replies ++ r ∷ []) (sym c.reply-item.is) in
    let more : flat_map line (take n replies) ++ line reply ≡ flat_map line (take n replies ++ reply ∷ []) =
    flat_map_more line [] (take n replies) reply in
    ◌∙◌ {b = string_bytes c.loop-reply.text ++ c.as_str.result.now} c.in_ok-push_str.ensures.bytes
    (◌∙◌ {b = flat_map line (take n replies) ++ line reply} (λ i. first i ++ last i)
    (◌∙◌ {b = flat_map line (take n replies ++ reply ∷ [])} more (ap (flat_map line) (sym here))))

pub returns : goal.returns
returns g c =
    let line = line_for g.O.Named.name g.O.Named.operation_form g.O.Named.start_form in
    let replies = c.args.replies.now in
    let n = c.loop-reply.reply-index in
    let all : take n replies ≡ replies = take_all n replies c.loop-reply-test.false in
    ◌∙◌ {b = flat_map line (take n replies)} c.loop-reply.invariant (ap (flat_map line) all)
