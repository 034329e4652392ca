-- The notes of an install as lines on a sink.
use Rattle.std.specs.Prelude.{ℕ, Bool, List, ◌++◌, codes, decimal, flat_map}
use Rattle.updater_text.specs.Sinks.{Shown, Put}
use Rattle.machine.specs.Past.{Past}
use Rattle.system_conf.specs.Configuration.{Configuration}
use Rattle.install_facts.specs.declared.report.Note.{Note}
use Rattle.install_facts.specs.declared.request.Request.{Request}
use Rattle.install_core.specs.Course.{Answer, Course, IsEnd}
use Rattle.install_core.specs.declared.ending.InstallEnd.{InstallEnd}

-- so many percent, and the text
abbrev pub note_line : Note → List ℕ
note_line note = decimal note.percent ++ (codes "% " ++ (note.text ++ codes "\n"))

abbrev pub note_lines : List Note → List ℕ
note_lines = flat_map note_line

-- A sink that shows this now has the lines of the notes on what it showed at the start, as by one put of
-- them all: each of them where all are whole, and else, since a put failed, a part of their front.
abbrev pub Stands : Shown → Bool → Shown → List Note → Type 0
Stands now whole start notes = Put start now (note_lines notes) whole

-- the install went so, with this answer, and the lines of its notes were put on a sink
pub record Tells (tells : Bool) (c : Configuration) (r : Request) (old new : Past) (out out' : Shown) (whole : Bool) (end : InstallEnd) : Type 0 where
  pub answer : Answer
  pub notes : List Note
  pub course : Course tells c r old new answer end.closing end.book_unread notes
  pub is : IsEnd c.slots answer end
  pub put : Stands out' whole out notes
