-- The steps of an install can be done one after another.
use Rattle.system_conf.specs.Reads.{system_configuration}
use Rattle.system_conf.specs.declared.system.System.{System}
use Rattle.install_facts.specs.Facts.{AreSound, facts_content}
use Rattle.install_facts.specs.declared.facts.Facts.{Facts}
use Rattle.install_plan.specs.Acts.{acts_of, steps_in}
use Rattle.install_steps.specs.Doing.{CanDo}
use Rattle.install_steps.specs.Progress.{CanDoAll}
use Rattle.install_core.proofs.AtStart.{can_start}
use Rattle.install_plan.proofs.Each.{each_weaker}
use Rattle.install_core.proofs.InTurn.{in_turn}
use Rattle.install_core.proofs.NotedOnce.{noted_once}
use Rattle.install_steps.proofs.SlotsApart.{classes_apart, slots_apart}
use Rattle.install_plan.proofs.WhatActs.{IsStep, steps_are}

-- each can be done at the start, and none takes that away from a later one
pub list_doable : (system : System) (facts : Facts) → AreSound (system_configuration system) (facts_content facts)
    → CanDoAll (system_configuration system) (facts_content facts) (steps_in (acts_of (system_configuration system) (facts_content facts)))
list_doable system facts sound =
    let c = system_configuration system in
    let f = facts_content facts in
    let steps = steps_in (acts_of c f) in
    in_turn c f (slots_apart c.slots f sound.placed (classes_apart facts.manifest.images facts.manifest.apart)) steps
    (each_weaker (IsStep c f) (CanDo c f) (can_start c f sound) steps (steps_are c f)) (noted_once c f)
