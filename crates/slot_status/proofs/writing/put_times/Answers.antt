use Rattle.std.proofs.Common.{◌∙◌, ap, List, codes}
use Rattle.std.proofs.lemmas.Result.{on_ok_weaker}
use Rattle.keyfile.specs.Groups.{Group}
use Rattle.slot_status.specs.Puts.{put_if_any}
use Rattle.slot_status.specs.Texts.{count_text}
use Rattle.slot_status.proofs.Facts.{facts}
use Rattle.slot_status.proofs.writing.put_times.Goals as goal

pub put_text-requires-2-clause-text : goal.put_text-requires-2-clause-text
put_text-requires-2-clause-text c = (facts c.args.record.now).activated_time

pub returns : goal.returns
returns c =
    let group = c.args.group.now in
    let r = c.args.record.now in
    let first = c.in_ok-put_text.ensures in
    let second = c.in_ok-put_count.ensures ∙ ap (λ (groups : List Group). put_if_any group groups (codes "installed.count") (count_text r.installed_count)) first in
    let third = c.in_ok-put_text-2.ensures ∙ ap (λ (groups : List Group). put_if_any group groups (codes "activated.timestamp") r.activated_time) second in
    on_ok_weaker c.put_count-2.result (λ last. last ∙ ap (λ (groups : List Group). put_if_any group groups (codes "activated.count") (count_text r.activated_count)) third) c.put_count-2.ensures
