use Rattle.std.proofs.Common.{◌≡◌, ◌∙◌, ap, sym, ◌<◌, subst, List, length, ℤ, w64, to_z, of_z, unsigned_abs}
use Rattle.std.proofs.lemmas.Int.{to_z-of_z}
use Rattle.std.specs.Option.{option_copied}
use Rattle.manifest.specs.Reads.{bundle_content}
use Rattle.slot_status.specs.Books.{record_content}
use Rattle.manifest.specs.Sound.{is_bundle_text}
use Rattle.slot_status.specs.Changes.{finish_record, finished}
use Rattle.slot_status.specs.Records.{RecordContent, record_at}
use Rattle.slot_status.specs.Times.{time_text}
use Rattle.slot_status.proofs.Changing.{can_rise, not_ended, record_changed, record_there}
use Rattle.slot_status.proofs.Facts.{facts}
use Rattle.slot_status.proofs.Times.{time_formed}
use Rattle.slot_status.proofs.book.StatusBook.finish.Goals as goal

pub finish-requires-clause-time : goal.finish-requires-clause-time
finish-requires-clause-time c = ap is_bundle_text c.in_ok-time.ensures ∙ time_formed c.unsigned_abs.result

pub finish-requires-clause-more : goal.finish-requires-clause-more
finish-requires-clause-more c =
    let r = c.index_mut.result.now in
    let within = subst (λ (book : List RecordContent). c.args.slot < length book) (sym c.self.view_is) c.requires in
    let there = record_there c.self.inside.records.items c.args.slot r within c.index_mut.ensures.value in
    let same = c.slot_record.ensures ∙ ap (λ (book : List RecordContent). record_at book c.args.slot) (sym c.self.view_is) ∙ there in
    can_rise r.installed_count c.slot_record.result.now.installed_count (ap (λ (x : RecordContent). x.installed_count) same) (not_ended c.args.slot (to_z w64 (of_z w64 c.args.now)) _ c.in_default.ensures) (facts r).installed_fits

pub returns-clause-ok : goal.returns-clause-ok
returns-clause-ok c =
    let old = c.index_mut.result.now in
    let time : c.in_ok-time.time ≡ time_text (unsigned_abs c.args.now) = c.in_ok-time.ensures ∙ ap time_text c.unsigned_abs.ensures.value ∙ ap (λ (z : ℤ). time_text (unsigned_abs z)) (to_z-of_z w64 c.args.now c.ranges.now) in
    let file = option_copied c.args.file in
    record_changed (finish_record (bundle_content c.args.bundle.now) file (time_text (unsigned_abs c.args.now))) c.self.inside.records.items c.args.slot old c.finish.new.self c.index_mut.ensures.value
    (c.finish.ensures ∙ (λ i. finish_record (bundle_content (c.in_ok-bundle.ensures i)) file (time i) (record_content old)))
    ∙ ap (finished c.args.slot (bundle_content c.args.bundle.now) file c.args.now) c.self.view_is
