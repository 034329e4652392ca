use Rattle.std.proofs.Common.{◌≡◌, ◌∙◌, ap, sym, ◌<◌, subst, List, length, ℤ, w64, to_z, of_z, unsigned_abs}
use Rattle.std.proofs.lemmas.Int.{to_z-of_z}
use Rattle.slot_status.specs.Books.{record_content}
use Rattle.keyfile.specs.Groups.{Text}
use Rattle.manifest.specs.Sound.{is_bundle_text}
use Rattle.slot_status.specs.Changes.{activate_record, activated}
use Rattle.slot_status.specs.Records.{RecordContent, record_at}
use Rattle.slot_status.specs.Times.{time_text}
use Rattle.slot_status.proofs.Changing.{can_rise, not_ended, record_changed, record_there}
use Rattle.slot_status.proofs.Facts.{facts}
use Rattle.slot_status.proofs.Times.{time_formed}
use Rattle.slot_status.proofs.book.StatusBook.activate.Goals as goal

pub activate-requires-clause-time : goal.activate-requires-clause-time
activate-requires-clause-time c = ap is_bundle_text c.in_ok-time.ensures ∙ time_formed c.unsigned_abs.result

pub activate-requires-clause-more : goal.activate-requires-clause-more
activate-requires-clause-more c =
    let r = c.index_mut.result.now in
    let within = subst (λ (book : List RecordContent). c.args.slot < length book) (sym c.self.view_is) c.requires in
    let there = record_there c.self.inside.records.items c.args.slot r within c.index_mut.ensures.value in
    let same = c.slot_record.ensures ∙ ap (λ (book : List RecordContent). record_at book c.args.slot) (sym c.self.view_is) ∙ there in
    can_rise r.activated_count c.slot_record.result.now.activated_count (ap (λ (x : RecordContent). x.activated_count) same) (not_ended c.args.slot (to_z w64 (of_z w64 c.args.now)) _ c.in_default.ensures) (facts r).activated_fits

pub returns-clause-ok : goal.returns-clause-ok
returns-clause-ok c =
    let old = c.index_mut.result.now in
    let time : c.in_ok-time.time ≡ time_text (unsigned_abs c.args.now) = c.in_ok-time.ensures ∙ ap time_text c.unsigned_abs.ensures.value ∙ ap (λ (z : ℤ). time_text (unsigned_abs z)) (to_z-of_z w64 c.args.now c.ranges.now) in
    record_changed (activate_record (time_text (unsigned_abs c.args.now))) c.self.inside.records.items c.args.slot old c.activate.new.self c.index_mut.ensures.value
    (c.activate.ensures ∙ ap (λ (t : Text). activate_record t (record_content old)) time)
    ∙ ap (activated c.args.slot c.args.now) c.self.view_is
