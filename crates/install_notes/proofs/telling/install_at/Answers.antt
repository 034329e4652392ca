use Rattle.std.proofs.Common.{[]}
use Rattle.install_notes.proofs.telling.install_at.Goals as goal

pub returns-clause-told : goal.returns-clause-told
returns-clause-told g c = record {
  answer = c.install.ensures.course.answer;
  notes = c.install.ensures.course.notes;
  course = c.install.ensures.course.course;
  is = c.install.ensures.course.is;
  put = rw (c.into_parts.ensures.now, c.into_parts.ensures.whole) (c.install.ensures.course.added (g.O.Sink.shown c.args.at.sink.now) [] c.new-lines.ensures.stands);
}
