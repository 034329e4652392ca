use Rattle.std.proofs.Common.{ap, sym, ◌∙◌, arith}
use Rattle.std.proofs.lemmas.List.{take_all}
use Rattle.machine_linux.proofs.Fronts.{front_of, cut_of}
use Rattle.machine_linux.proofs.children.keep_front.Goals.{then-cut+in_ok-copy, else-cut}
use Rattle.machine_linux.proofs.children.keep_front.Goals as goal

pub returns-clause-front : goal.returns-clause-front
returns-clause-front g c = front_of 65536 c.take.result.limit (g.S.Read.remaining c.args.stream) (g.S.Read.remaining c.take.result.inner.now) c.args.bytes.items c.read_to_end.new.buf.items c.if-cut.bytes.items (omega arith) (ap (λ b. g.S.Read.remaining b.now) c.take.ensures.inner) c.in_ok-read_to_end.ensures.bytes
    (elim c.if-cut.branch [
      | then-cut+in_ok-copy w ↦ rw w.bytes-is w.truncate.ensures.items
      | else-cut w ↦ rw w.bytes-is (sym (take_all 65536 c.read_to_end.new.buf.items (rw (sym (c.len-cut.ensures ∙ c.read_to_end.new.buf.ok.0)) w.if-cut.false)))
    ])

pub returns-clause-cut : goal.returns-clause-cut
returns-clause-cut g c = rw (c.len-cut.ensures ∙ c.read_to_end.new.buf.ok.0) (cut_of 65536 c.take.result.limit (g.S.Read.remaining c.args.stream) (g.S.Read.remaining c.take.result.inner.now) c.args.bytes.items c.read_to_end.new.buf.items (omega arith) (ap (λ b. g.S.Read.remaining b.now) c.take.ensures.inner) c.in_ok-read_to_end.ensures.bytes)
