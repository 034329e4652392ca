-- The steps of an install leave the images alone.
use Rattle.std.proofs.Common.{◌≢◌, IsTrue, List, ap, sym, subst, ◌∙◌, Some}
use Rattle.std.specs.List.{list_any}
use Rattle.std.specs.Option.{option_to_list}
use Rattle.keyfile.specs.Groups.{Text}
use Rattle.manifest.specs.declared.image.ImageFile.{ImageFile}
use Rattle.system_conf.specs.Configuration.{Configuration}
use Rattle.system_conf.specs.Formed.{are_apart}
use Rattle.system_conf.specs.Reads.{system_configuration}
use Rattle.system_conf.specs.declared.system.System.{System}
use Rattle.updater_text.specs.Paths.{is_within}
use Rattle.install_facts.specs.Facts.{AreSound, FactsContent, facts_content, image_path}
use Rattle.install_facts.specs.declared.facts.Facts.{Facts}
use Rattle.install_plan.specs.Acts.{acts_of, steps_in}
use Rattle.install_plan.specs.declared.step.Step.{Step}
use Rattle.install_plan.specs.declared.step.Step.TheVariants as step
use Rattle.install_steps.specs.Steady.{AllLeave, LeavesFile, PutsSteady, StaySteady}
use Rattle.install_plan.proofs.Each.{Each, each_at, each_weaker}
use Rattle.install_core.proofs.InMount.{not_status, spared}
use Rattle.install_plan.proofs.WhatActs.{IsStep, steps_are}

module _ (c : Configuration) (f : FactsContent) where
  -- each step leaves the images of the bundle alone
  leaves : (file : ImageFile) (s : Step) → IsStep c f s → LeavesFile c (image_path c file) s
  leaves file (step.Run child caller) is = ap (list_any (λ (p : Text). is_within p (image_path c file))) is.files ∙ spared c file (option_to_list c.status_file)
  leaves file (step.Bad root) is = tt
  leaves file (step.Begin slot) is = tt
  leaves file (step.Put job put) is = tt
  leaves file (step.Settle slot) is = tt
  leaves file (step.Index job) is = tt
  leaves file (step.Done job) is = tt
  leaves file (step.Primary root) is = tt
  leaves file (step.Activated root) is = tt

  all_leave : (file : ImageFile) (steps : List Step) → Each (IsStep c f) steps → AllLeave c (image_path c file) steps
  all_leave file steps are = each_at (LeavesFile c (image_path c file)) steps (each_weaker (IsStep c f) (LeavesFile c (image_path c file)) (leaves file) steps are)

  module _ (apart : IsTrue (are_apart c)) (steps : List Step) (are : Each (IsStep c f) steps) where
    -- an image that is put is one of these
    puts_steady : (s : Step) → IsStep c f s → PutsSteady c steps s
    puts_steady (step.Run child caller) is = tt
    puts_steady (step.Bad root) is = tt
    puts_steady (step.Begin slot) is = tt
    puts_steady (step.Put job put) is =
        subst (λ (path : Text). (c.status_file ≢ Some path) × AllLeave c path steps) (ap (λ p. p.image) (sym is.put_is)) (not_status c is.file apart, all_leave is.file steps are)
    puts_steady (step.Settle slot) is = tt
    puts_steady (step.Index job) is = tt
    puts_steady (step.Done job) is = tt
    puts_steady (step.Primary root) is = tt
    puts_steady (step.Activated root) is = tt

    steady : StaySteady c steps
    steady = each_at (PutsSteady c steps) steps (each_weaker (IsStep c f) (PutsSteady c steps) puts_steady steps are)

-- the images of an install stay as they are, and none is the status file
pub list_steady : (system : System) (facts : Facts) → AreSound (system_configuration system) (facts_content facts)
    → StaySteady (system_configuration system) (steps_in (acts_of (system_configuration system) (facts_content facts)))
list_steady system facts sound =
    let c = system_configuration system in
    let f = facts_content facts in
    steady c f system.sound.places_apart (steps_in (acts_of c f)) (steps_are c f)
