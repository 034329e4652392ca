-- What a step leaves, at each moment and at its end.
use Rattle.std.specs.Prelude.{◌≡◌, ◌⊎◌, ℕ, ℤ, List, [], ◌∷◌, slice_get, Option, option_and_then, option_map, Some, Ok, unwrap_or}
use Rattle.std.specs.Option.{option_map_or}
use Rattle.keyfile.specs.Groups.{Text}
use Rattle.boot_model.specs.Vars.{Variables}
use Rattle.boot_model.specs.declared.boot_kind.BootKind.{BootKind}
use Rattle.boot_commands.specs.Effects.{commands_of}
use Rattle.boot_commands.specs.declared.command.Mark.{Mark}
use Rattle.boot_commands.specs.declared.command.Mark.TheVariants as mark
use Rattle.boot_backends.specs.Causes.{MarkCause}
use Rattle.boot_backends.specs.Marked.{names_of}
use Rattle.boot_backends.specs.Systems.{Keeps, Leaves, LeavesDown}
use Rattle.boot_backends.specs.Through.{Through}
use Rattle.child_steps.specs.Mounting.{succeeded}
use Rattle.machine.specs.Frames.{DiffersOnlyIn}
use Rattle.machine.specs.Past.{Always, Past, world_now}
use Rattle.machine.specs.Runs.{LeftAlone, runs_since}
use Rattle.machine.specs.World.{with_file, with_sync}
use Rattle.machine.specs.declared.world.Child.{Child}
use Rattle.machine.specs.declared.world.Exit.{Exit}
use Rattle.machine.specs.declared.world.World.{World}
use Rattle.manifest.specs.declared.image.ImageFile.{ImageFile}
use Rattle.raw_writer.specs.Putting.{IsPutWhole}
use Rattle.raw_writer.specs.Whole.{AddsInOrder, pieces}
use Rattle.raw_writer.specs.declared.put.PutJob.{PutJob}
use Rattle.slot_status.specs.Changes.{activated, begun, finished}
use Rattle.slot_status.specs.Records.{RecordContent}
use Rattle.slot_status.specs.Texts.{book_text}
use Rattle.status_file.specs.Status.{book_in, names_in}
use Rattle.system_conf.specs.Configuration.{Configuration}
use Rattle.install_facts.specs.Facts.{FactsContent, image_of}
use Rattle.install_plan.specs.declared.step.Step.{Step}
use Rattle.install_plan.specs.declared.step.Step.TheVariants as step

-- how many bytes of an image are written at a time
abbrev pub piece : ℕ
piece = 65536

-- ---- the book

-- the file of a job's image
abbrev pub file_of : FactsContent → ℕ → Option ImageFile
file_of f at = option_and_then (λ job. option_and_then (λ image. image.file) (image_of f.content job)) (slice_get f.jobs at)

-- the slot of a job
abbrev pub slot_at : FactsContent → ℕ → Option ℕ
slot_at f at = option_map (λ job. job.slot) (slice_get f.jobs at)

-- the book after a job is done
abbrev pub done_book : FactsContent → ℕ → ℤ → List RecordContent → List RecordContent
done_book f at seconds book = option_map_or (λ slot. finished slot f.content.bundle (file_of f at) seconds book) (slot_at f at) book

-- the book after a step, at the time that was asked before the first
abbrev pub changed_at_time : FactsContent → Step → ℤ → List RecordContent → List RecordContent
changed_at_time f (step.Begin slot) seconds book = begun slot book
changed_at_time f (step.Done job) seconds book = done_book f job seconds book
changed_at_time f (step.Activated root) seconds book = activated root seconds book
changed_at_time f other seconds book = book

-- without a status file there is no time, and nothing to change
abbrev pub changed : FactsContent → Step → List RecordContent → List RecordContent
changed f s book = option_map_or (λ seconds. changed_at_time f s seconds book) f.now book

-- ---- a world with a book in its status file

abbrev pub with_book : Configuration → List RecordContent → World → World
with_book c book w = option_map_or (λ path. with_file w path (book_text (names_in c.slots) book)) c.status_file w

-- the text of a book is read again as that book, where there is a status file
abbrev pub BookReads : Configuration → List RecordContent → Type 0
BookReads c book = (path : Text) → c.status_file ≡ Some path → book_in c.slots (Some (book_text (names_in c.slots) book)) ≡ book

-- so is the text that a step notes
abbrev pub StepReads : Configuration → FactsContent → List RecordContent → Step → Type 0
StepReads c f book (step.Begin slot) = BookReads c (changed f (step.Begin slot) book)
StepReads c f book (step.Done job) = BookReads c (changed f (step.Done job) book)
StepReads c f book (step.Activated root) = BookReads c (changed f (step.Activated root) book)
StepReads c f book other = Unit {0}

-- ---- what a step leaves at each moment of it

-- the bootname of a root; a root that is marked has one
abbrev pub bootname_of : Configuration → ℕ → Text
bootname_of c root = unwrap_or (option_and_then (λ s. s.bootname) (slice_get c.slots root)) []

abbrev pub device_of : Configuration → ℕ → Text
device_of c slot = unwrap_or (option_map (λ s. s.device) (slice_get c.slots slot)) []

-- the first of a mark's commands were run, whatever was read before
abbrev pub MarkPart : BootKind → Configuration → Mark → Text → World → World → Type 0
MarkPart boot c m name w u = (read : Variables) × Through boot (commands_of c.boot (names_of c.slots) m name read) w u

-- the old world, or the one that it becomes by one call
abbrev pub EitherOf : World → World → World → Type 0
EitherOf w next u = (u ≡ w) ⊎ (u ≡ next)

-- the first of the pieces were written, in order, and nothing beside them
pub record PutPart (put : PutJob) (w u : World) : Type 0 where
  pub only : DiffersOnlyIn put.device 0 put.size w u
  pub order : AddsInOrder (pieces put.device piece put.size) w u

-- u is a world within the step, which began in w with this book, on a machine with this boot loader
abbrev pub Part : BootKind → Configuration → FactsContent → List RecordContent → Step → World → World → Type 0
Part boot c f book (step.Run child caller) w u = LeftAlone child.spares (child ∷ []) w u
Part boot c f book (step.Bad root) w u = MarkPart boot c mark.Bad (bootname_of c root) w u
Part boot c f book (step.Primary root) w u = MarkPart boot c mark.Primary (bootname_of c root) w u
Part boot c f book (step.Begin slot) w u = EitherOf w (with_book c (changed f (step.Begin slot) book) w) u
Part boot c f book (step.Done job) w u = EitherOf w (with_book c (changed f (step.Done job) book) w) u
Part boot c f book (step.Activated root) w u = EitherOf w (with_book c (changed f (step.Activated root) book) w) u
Part boot c f book (step.Put job put) w u = PutPart put w u
Part boot c f book (step.Settle slot) w u = EitherOf w (with_sync w (device_of c slot)) u
Part boot c f book (step.Index job) w u = u ≡ w

-- ---- what a done step leaves

-- the child was run once and ended with 0
abbrev pub RanOnce : Child → World → World → Type 0
RanOnce child w v = (exit : Exit) × (exit.ended ≡ succeeded) × (runs_since w v ≡ record { child = child; exit = exit } ∷ [])

-- all of a mark's commands were run, and each ended as it may
abbrev pub MarkRan : Configuration → Mark → Text → World → World → Type 0
MarkRan c m name w v = MarkCause c.boot (names_of c.slots) m name (runs_since w v) (Ok tt)

-- v is the world after the step
abbrev pub After : Configuration → FactsContent → List RecordContent → Step → World → World → Type 0
After c f book (step.Run child caller) w v = RanOnce child w v
After c f book (step.Bad root) w v = MarkRan c mark.Bad (bootname_of c root) w v
After c f book (step.Primary root) w v = MarkRan c mark.Primary (bootname_of c root) w v
After c f book (step.Begin slot) w v = v ≡ with_book c (changed f (step.Begin slot) book) w
After c f book (step.Done job) w v = v ≡ with_book c (changed f (step.Done job) book) w
After c f book (step.Activated root) w v = v ≡ with_book c (changed f (step.Activated root) book) w
After c f book (step.Put job put) w v = IsPutWhole put piece w v
After c f book (step.Settle slot) w v = v ≡ with_sync w (device_of c slot)
After c f book (step.Index job) w v = v ≡ w

-- ---- what honest programs of the boot loader leave

-- other names keep what they are, wherever the power stops
abbrev pub KeepsNames : Configuration → Step → Past → Past → Type 0
KeepsNames c (step.Bad root) a z = Keeps c (bootname_of c root) a z
KeepsNames c (step.Primary root) a z = Keeps c (bootname_of c root) a z
KeepsNames c other a z = Unit {0}

-- and the name is what the step makes it
abbrev pub MarksName : Configuration → Step → Past → Past → Type 0
MarksName c (step.Bad root) a z = Leaves c mark.Bad (bootname_of c root) a z × LeavesDown c (bootname_of c root) a z
MarksName c (step.Primary root) a z = Leaves c mark.Primary (bootname_of c root) a z
MarksName c other a z = Unit {0}

-- ---- steps, one after another

-- the step was begun in the past a, and z is a past within it
pub record Begun (c : Configuration) (f : FactsContent) (book : List RecordContent) (s : Step) (a z : Past) : Type 0 where
  pub part : Always a z (Part a.boot c f book s (world_now a))
  pub keeps : KeepsNames c s a z
  -- the text that is noted is read again, or none was put
  pub reads : StepReads c f book s ⊎ (z ≡ a)

-- the step is done
pub record Did (c : Configuration) (f : FactsContent) (book : List RecordContent) (s : Step) (a z : Past) : Type 0 where
  pub begun : Begun c f book s a z
  pub after : After c f book s (world_now a) (world_now z)
  pub marks : MarksName c s a z
  pub reads : StepReads c f book s

-- all steps are done, from a past a with this book
abbrev pub Run : Configuration → FactsContent → List RecordContent → List Step → Past → Past → Type 0
Run c f book [] a z = z ≡ a
Run c f book (s ∷ steps) a z = (b : Past) × Did c f book s a b × Run c f (changed f s book) steps b z

-- the book after steps
abbrev pub book_after : FactsContent → List Step → List RecordContent → List RecordContent
book_after f [] book = book
book_after f (s ∷ steps) book = book_after f steps (changed f s book)
