use Rattle.std.proofs.Common.{◌≡◌, List, Bool, length, map, ◌∙◌, ap}
use Rattle.machine.specs.declared.world.Named.{Named}
use Rattle.undo_log.specs.Effects.{without_files, keeps_file}
use Rattle.undo_log.specs.Undo.{with_blanks_at, items_at, with_files_at}
use Rattle.undo_log.proofs.Putting.{whole_list}
use Rattle.undo_log.proofs.Refilling.{items_at-map, with_files_at-with_blanks_at}
use Rattle.undo_log.proofs.effects.drop_files.Goals as goal

pub returns-clause-ok : goal.returns-clause-ok
unfolding without_files
returns-clause-ok c =
    let files = c.args.world.now.files in
    let stay = λ (n : Named). keeps_file c.args.child.now c.args.prefix.now n.path in
    let stays : c.in_ok-stays.stays ≡ map stay files = rw c.as_slice.ensures at c.in_ok-stays.ensures in
    let left : c.replace-places.new.dest ≡ items_at c.in_ok-stays.stays files =
    rw c.as_slice-2.ensures at rw c.as_mut_slice-files.ensures.value at (c.replace-places.ensures.after ∙ c.from_vec.ensures ∙ c.take_files.ensures.taken)
    in
    ap (λ (ns : List Named). record c.args.world.now { files = ns }) (left ∙ ap (λ (bs : List Bool). items_at bs files) stays ∙ items_at-map stay files)

pub returns-clause-back : goal.returns-clause-back
returns-clause-back c =
    let files = c.args.world.now.files in
    let places : c.replace-places.result ≡ with_blanks_at c.in_ok-stays.stays files =
    c.replace-places.ensures.value
    ∙ whole_list files c.take_files.new.files (c.take_files.auto.files ∙ ap (λ (ns : List Named). length ns) c.as_mut_slice-files.ensures.value)
    ∙ rw c.as_slice-2.ensures at rw c.as_mut_slice-files.ensures.value at c.take_files.ensures.files
    in
    let left : c.replace-places.new.dest ≡ items_at c.in_ok-stays.stays files =
    rw c.as_slice-2.ensures at rw c.as_mut_slice-files.ensures.value at (c.replace-places.ensures.after ∙ c.from_vec.ensures ∙ c.take_files.ensures.taken)
    in
    ap (λ (ns : List Named). record c.args.world.now { files = with_files_at c.in_ok-stays.stays ns c.replace-places.new.dest }) places
    ∙ ap (λ (ns : List Named). record c.args.world.now { files = with_files_at c.in_ok-stays.stays (with_blanks_at c.in_ok-stays.stays files) ns }) left
    ∙ ap (λ (ns : List Named). record c.args.world.now { files = ns }) (with_files_at-with_blanks_at c.in_ok-stays.stays files)
