use Rattle.raw_writer.proofs.Checks.{length_checked, room_checked}
use Rattle.bench_tests.proofs.steps.puts_paths.Goals as goal

pub put_image-put-requires-clause-room : goal.put_image-put-requires-clause-room
put_image-put-requires-clause-room c =
    room_checked _ c.args.image c.args.device c.in-Ok.size _ _ c.in-Ok.ensures.unchanged (rw (c.as_str.ensures, c.as_str-2.ensures) at c.in-Ok.ensures.answers)

pub put_image-put-requires-clause-image : goal.put_image-put-requires-clause-image
put_image-put-requires-clause-image c =
    length_checked _ c.args.image c.args.device c.in-Ok.size _ _ c.in-Ok.ensures.unchanged (rw (c.as_str.ensures, c.as_str-2.ensures) at c.in-Ok.ensures.answers)
