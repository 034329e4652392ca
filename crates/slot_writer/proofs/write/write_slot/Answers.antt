use Rattle.std.proofs.Common.{◌∙◌, ℕ, Option, option_map, subst, sym}
use Rattle.machine.specs.Past.{world_now}
use Rattle.machine.proofs.Joins.{unchanged_none}
use Rattle.running_system.proofs.SlotDevices.{alone_in}
use Rattle.system_conf.specs.Reads.{system_configuration}
use Rattle.slot_writer.specs.Slots.{Puts, found_answer}
use Rattle.slot_writer.proofs.Naming.{named_as}
use Rattle.slot_writer.proofs.Sparing.{not_written, running_kept}
use Rattle.slot_writer.proofs.StayingTrue.{truth_kept, truth_unchanged}
use Rattle.slot_writer.proofs.Stopping.{put_stops}
use Rattle.slot_writer.proofs.Targets.{slot_there}
use Rattle.slot_writer.proofs.write.write_slot.Goals as goal

pub returns-in-Some-clause-names : goal.returns-in-Some-clause-names
returns-in-Some-clause-names g c =
    named_as c.args.system.now.slots c.args.slot.now c.args.image.now c.in-Some.at c.write_at.result (sym c.slot_named.ensures ∙ c.in-Some.is) c.write_at.ensures.about

pub returns-in-Some-clause-held : goal.returns-in-Some-clause-held
returns-in-Some-clause-held g c =
    let system = system_configuration c.args.system.now in
    let given = option_map (λ name. name.now) c.args.given in
    let old = g.M.Machine.past c.args.m.now in
    let new = g.M.Machine.past c.write_at.new.m in
    let puts = subst (λ (o : Option ℕ). Puts g.M.Machine.tells system c.args.image.now (found_answer system given c.args.slot.now c.args.image.now (world_now old) o) old new c.write_at.result) (sym (sym c.slot_named.ensures ∙ c.in-Some.is)) c.write_at.ensures.put in
    put_stops g.M.Machine.tells system _ old new puts.kept

pub returns-in-Some-clause-running : goal.returns-in-Some-clause-running
returns-in-Some-clause-running g c =
    let system = system_configuration c.args.system.now in
    let given = option_map (λ name. name.now) c.args.given in
    let alone = alone_in c.args.system.now.slots c.args.system.now.sound.slots in
    let old = g.M.Machine.past c.args.m.now in
    let new = g.M.Machine.past c.write_at.new.m in
    let puts = subst (λ (o : Option ℕ). Puts g.M.Machine.tells system c.args.image.now (found_answer system given c.args.slot.now c.args.image.now (world_now old) o) old new c.write_at.result) (sym (sym c.slot_named.ensures ∙ c.in-Some.is)) c.write_at.ensures.put in
    running_kept g.M.Machine.tells system _ old new _
    (λ written is at slot there used same. not_written system given c.args.slot.now c.args.image.now (world_now old) written alone at slot there used is same)
    (put_stops g.M.Machine.tells system _ old new puts.kept)

pub returns-in-Some-clause-truth : goal.returns-in-Some-clause-truth
returns-in-Some-clause-truth g c =
    let system = system_configuration c.args.system.now in
    let given = option_map (λ name. name.now) c.args.given in
    let alone = alone_in c.args.system.now.slots c.args.system.now.sound.slots in
    let old = g.M.Machine.past c.args.m.now in
    let new = g.M.Machine.past c.write_at.new.m in
    let puts = subst (λ (o : Option ℕ). Puts g.M.Machine.tells system c.args.image.now (found_answer system given c.args.slot.now c.args.image.now (world_now old) o) old new c.write_at.result) (sym (sym c.slot_named.ensures ∙ c.in-Some.is)) c.write_at.ensures.put in
    truth_kept g.M.Machine.tells system _ old new alone
    (λ slot written is. slot_there system given c.args.image.now (world_now old) written c.args.slot.now slot is)
    (put_stops g.M.Machine.tells system _ old new puts.kept)

pub returns-in_err-text-in-None-clause-truth : goal.returns-in_err-text-in-None-clause-truth
returns-in_err-text-in-None-clause-truth g c =
    let alone = alone_in c.args.system.now.slots c.args.system.now.sound.slots in
    truth_unchanged g.M.Machine.tells (system_configuration c.args.system.now) _ _ alone (unchanged_none g.M.Machine.tells _)

pub returns-in_ok-text-in-None-clause-truth : goal.returns-in_ok-text-in-None-clause-truth
returns-in_ok-text-in-None-clause-truth g c =
    let alone = alone_in c.args.system.now.slots c.args.system.now.sound.slots in
    truth_unchanged g.M.Machine.tells (system_configuration c.args.system.now) _ _ alone (unchanged_none g.M.Machine.tells _)
