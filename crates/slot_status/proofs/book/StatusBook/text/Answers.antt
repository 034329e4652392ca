use Rattle.std.proofs.Common.{ℕ, ◌≡◌, ◌∙◌, ap, sym, subst, refl, ◌≤◌, List, length, take, map, Ok, arith, take_all}
use Rattle.std.specs.List.{list_all}
use Rattle.std.proofs.lemmas.Bool.{and_parts}
use Rattle.std.proofs.lemmas.List.{length-map}
use Rattle.std.proofs.lemmas.Result.{IfOk-weaker}
use Rattle.std.proofs.lemmas.List.Sums.{AllPass-from_list_all}
use Rattle.keyfile.specs.Canonical.{canonical}
use Rattle.keyfile.specs.Groups.{Group, Text, all_distinct}
use Rattle.conf_forms.specs.SlotNames.{is_slot_name}
use Rattle.slot_status.specs.Books.{record_content, record_contents}
use Rattle.slot_status.specs.Puts.{put_rows}
use Rattle.slot_status.specs.Records.{record_of, records_in, slot_group}
use Rattle.slot_status.specs.Texts.{book_groups, rows}
use Rattle.slot_status.specs.declared.slot_record.SlotRecord.{SlotRecord}
use Rattle.slot_status.proofs.Back.{book_back}
use Rattle.slot_status.proofs.Groups.{groups_more, slot_new}
use Rattle.slot_status.proofs.Lengths.{book_length}
use Rattle.slot_status.proofs.Names.{group_named}
use Rattle.slot_status.proofs.Putting.{put_new}
use Rattle.slot_status.proofs.book.StatusBook.text.Goals as goal

pub put_slot-requires : goal.put_slot-requires
put_slot-requires c =
    let n = c.index-names-slot.result in
    let all = (and_parts (list_all is_slot_name c.args.names.now) (all_distinct c.args.names.now) c.requires.names).0 in
    group_named n (ap is_slot_name c.index-names-slot.is ∙ AllPass-from_list_all is_slot_name c.args.names.now all c.loop-slot.slot n c.loop-slot-test.true)

pub loop-slot-preserved : goal.loop-slot-preserved
loop-slot-preserved c =
    let names = c.args.names.now in
    let records = c.self.inside.records.items in
    let i = c.loop-slot.slot in
    let n = c.index-names-slot.result in
    let r = c.index.result.now in
    let once = (and_parts (list_all is_slot_name names) (all_distinct names) c.requires.names).1 in
    let same : length names ≡ length records = omega (arith, c.requires.count, ap length c.self.view_is, length-map records record_content) in
    let new = slot_new names (record_contents (take i records)) i n once c.loop-slot-test.true c.index-names-slot.is in
    c.in_ok-put_slot.ensures
    ∙ ap (λ (groups : List Group). put_rows (slot_group n) groups (rows (record_content r))) c.loop-slot.invariant
    ∙ put_new (book_groups (take i names) (record_contents (take i records))) (slot_group n) (rows (record_content r)) new refl
    ∙ sym (groups_more names records i n r same c.loop-slot-test.true c.index-names-slot.is c.index.ensures)

whole_book : (file : List Group) (names : List Text) (records : List SlotRecord) (slot : ℕ) → length names ≤ slot → length names ≡ length records → file ≡ book_groups (take slot names) (record_contents (take slot records))
    → file ≡ book_groups names (record_contents records)
whole_book file names records slot end same is = is ∙ (λ i. book_groups (take_all slot names end i) (record_contents (take_all slot records (omega (arith, same, end)) i)))

pub returns-clause-short : goal.returns-clause-short
returns-clause-short c =
    let names = c.args.names.now in
    let records = c.self.inside.records.items in
    let named = (and_parts (list_all is_slot_name names) (all_distinct names) c.requires.names).0 in
    let same : length names ≡ length records = omega (arith, c.requires.count, ap length c.self.view_is, length-map records record_content) in
    let whole = whole_book c.loop-slot.file names records c.loop-slot.slot c.loop-slot-test.false same c.loop-slot.invariant in
    IfOk-weaker c.write.result _ _
    (λ text is few. subst (λ (t : Text). length t ≤ 1048576) (sym (is ∙ ap canonical whole)) (book_length names records named few))
    c.write.ensures.canonical

pub returns-clause-reads_back : goal.returns-clause-reads_back
returns-clause-reads_back c =
    let names = c.args.names.now in
    let records = c.self.inside.records.items in
    let once = (and_parts (list_all is_slot_name names) (all_distinct names) c.requires.names).1 in
    let same : length names ≡ length records = omega (arith, c.requires.count, ap length c.self.view_is, length-map records record_content) in
    let whole = whole_book c.loop-slot.file names records c.loop-slot.slot c.loop-slot-test.false same c.loop-slot.invariant in
    IfOk-weaker c.write.result _ _
    (λ text law few. ap (records_in names) (law few) ∙ (λ i. Ok (map (record_of (whole i)) names)) ∙ (λ i. Ok ((book_back names records once same ∙ c.self.view_is) i)))
    c.write.ensures.reads_back
