use Rattle.std.proofs.Common.{◌≡◌, length, rules}
use Rattle.std.specs.Cmp.Rules.{comparing}
use Rattle.machine.specs.Past.{world_now}
use Rattle.raw_writer.proofs.Putting.{is_put}
use Rattle.raw_writer.proofs.put.put_image.Goals as goal

pub returns-then-eq-clause-ends : goal.returns-then-eq-clause-ends
returns-then-eq-clause-ends g c = λ told.
    let same : c.in-Ok.found ≡ c.args.job.now.digest = Prim.search (comparing, rules, c.if-eq.ensures, c.if-eq.true) in
    is_put c.args.job.now (length c.args.buffer.now) c.in-Ok.found (world_now (g.M.Machine.past c.args.m.now)) (world_now (g.M.Machine.past c.write_whole.new.m)) same (c.requires.room.room told)
    (rw (c.as_str-image.ensures, c.as_str-device.ensures) at c.in-Ok.ensures.ends told)
