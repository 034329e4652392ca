-- What is made before the first step.
use Rattle.std.specs.Prelude.{◌≡◌, ℕ, false, List, None, length, map, unwrap_or}
use Rattle.std.specs.List.{range_with_len, slice_index_or}
use Rattle.install_facts.specs.Facts.{FactsContent}
use Rattle.system_conf.specs.Configuration.{Configuration}
use Rattle.install_plan.specs.Acts.{acts_of}
use Rattle.install_steps.specs.Steps.{piece, slot_at}
use Rattle.install_core.specs.declared.preparing.Prepared.{Prepared}
use Rattle.install_steps.specs.declared.running.JobEnd.{JobEnd}

-- the end of the job at a place, before anything was done
abbrev pub end_at : FactsContent → ℕ → JobEnd
end_at f at = record { slot = unwrap_or (slot_at f at) 0; skipped = slice_index_or f.skipped at false; written = None }

-- of each job
abbrev pub ends_of : FactsContent → List JobEnd
ends_of f = map (end_at f) (range_with_len 0 (length f.jobs))

-- the list, the ends and the buffer were made
pub record IsPrepared (c : Configuration) (f : FactsContent) (p : Prepared) : Type 0 where
  pub acts : p.acts ≡ acts_of c f
  pub ends : p.ends ≡ ends_of f
  pub buffer : length p.buffer.items ≡ piece
