-- What the code's values of jobs hold.
use Rattle.std.specs.Prelude.{IsSome, IsTrue}
use Rattle.manifest.specs.Hooked.{is_hooked}
use Rattle.manifest.specs.Reads.{image_content}
use Rattle.install_facts.specs.declared.facts.Facts.{Facts}
use Rattle.install_plan.specs.Acts.{Work}
use Rattle.install_plan.specs.declared.works.Work as code

-- a job with its image and its slot
abbrev pub work_content : code.Work → Work
work_content x = record { at = x.at; job = x.job; image = image_content x.image.now; slot = x.slot.now; skipped = x.skipped }

-- the file of the hooks is there, where the image of a job names a hook
abbrev pub HasHookFile : Facts → code.Work → Type 0
HasHookFile f x = IsTrue (is_hooked x.image.now) → IsSome f.manifest.hook_file
