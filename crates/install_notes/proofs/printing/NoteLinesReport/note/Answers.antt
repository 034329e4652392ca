use Rattle.install_notes.proofs.Texts.{note_more}
use Rattle.install_notes.proofs.printing.NoteLinesReport.note.Goals as goal

pub returns-clause-adds : goal.returns-clause-adds
returns-clause-adds g c = note_more _ _ _ _ _ c.put.ensures.puts
