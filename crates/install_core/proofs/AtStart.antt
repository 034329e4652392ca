-- Each step of an install can be done as its facts are at the start.
use Rattle.std.proofs.Common.{◌≡◌, ◌<◌, ℕ, zero, suc, ℤ, true, false, List, [], ◌∷◌, length, is_some, slice_get, Option, Some, None, unwrap_or, option_map, option_and_then, refl, sym, ap, subst}
use Rattle.std.specs.Prelude.{bytes_eq}
use Rattle.std.specs.List.{cons_option}
use Rattle.std.specs.Option.{option_map_or}
use Rattle.std.proofs.lemmas.Bool.{false≢true, or_left, or_right}
use Rattle.std.proofs.lemmas.Option.{slice_get_within}
use Rattle.std.proofs.lemmas.Slice.Eq.{bytes_eq-Decides}
use Rattle.boot_backends.specs.Marked.{is_boot_name, names_of}
use Rattle.boot_state.specs.Orders.{has_word}
use Rattle.conf_forms.proofs.FirstOf.{both_none}
use Rattle.conf_forms.specs.Lists.{first_of}
use Rattle.keyfile.specs.Groups.{Text}
use Rattle.slot_graph.specs.declared.job.Job.{Job}
use Rattle.slot_status.proofs.Changing.{ready_for_both}
use Rattle.slot_status.specs.Refusals.{activate_refusal, ready_refusal}
use Rattle.system_conf.specs.Configuration.{Configuration}
use Rattle.system_conf.specs.declared.slot.Slot.{Slot}
use Rattle.install_facts.specs.Facts.{AreSound, FactsContent, IsReady, first_not_ready}
use Rattle.install_plan.specs.declared.step.Step.{Step}
use Rattle.install_plan.specs.declared.step.Step.TheVariants as step
use Rattle.install_steps.specs.Doing.{CanDo}
use Rattle.install_steps.specs.Noting.{CanFinish}
use Rattle.install_steps.specs.Steps.{bootname_of, slot_at}
use Rattle.install_core.proofs.NoneRefused.{none_at}
use Rattle.install_plan.proofs.WhatActs.{IsJobSlot, IsStep, IsTargetRoot}

-- ---- bootnames

-- a root with a bootname has one of the bootnames
bootname_known : (slots : List Slot) (root : ℕ) → option_map_or (λ s. is_some s.bootname) (slice_get slots root) false ≡ true
    → has_word (names_of slots) (unwrap_or (option_and_then (λ s. s.bootname) (slice_get slots root)) []) ≡ true
bootname_known [] root named = absurd (false≢true named)
bootname_known (s ∷ slots) zero named = go s.bootname named
  where
    go : (o : Option Text) → is_some o ≡ true → has_word (cons_option o (names_of slots)) (unwrap_or o []) ≡ true
    go None named = absurd (false≢true named)
    go (Some name) named = or_left (bytes_eq name name) (has_word (names_of slots) name) ((bytes_eq-Decides name name).1 refl)
bootname_known (s ∷ slots) (suc root) named = go s.bootname (bootname_known slots root named)
  where
    name : Text
    name = unwrap_or (option_and_then (λ t. t.bootname) (slice_get slots root)) []

    go : (o : Option Text) → has_word (names_of slots) (unwrap_or (option_and_then (λ t. t.bootname) (slice_get slots root)) []) ≡ true
        → has_word (cons_option o (names_of slots)) (unwrap_or (option_and_then (λ t. t.bootname) (slice_get slots root)) []) ≡ true
    go None deep = deep
    go (Some other) deep = or_right (bytes_eq other (unwrap_or (option_and_then (λ t. t.bootname) (slice_get slots root)) [])) _ deep

module _ (c : Configuration) (f : FactsContent) (sound : AreSound c f) where
  marked : (root : ℕ) → IsTargetRoot c f root → is_boot_name c.slots (bootname_of c root) ≡ true
  marked root is = bootname_known c.slots root is.named

  -- ---- places

  job_within : (at : ℕ) (job : Job) → slice_get f.jobs at ≡ Some job → job.slot < length c.slots
  job_within at job there = (sound.placed.each at job there).slot

  slot_within : (slot : ℕ) → IsJobSlot f slot → slot < length c.slots
  slot_within slot is = subst (λ (n : ℕ). n < length c.slots) is.is (job_within is.at is.job is.there)

  -- a target is a slot
  root_within : (at : ℕ) (job : Job) → slice_get f.jobs at ≡ Some job → job.root < length c.slots
  root_within at job there = go (slice_get c.slots job.root) refl (sound.placed.each at job there).under.target.1.free.of_class
    where
      go : (o : Option Slot) → slice_get c.slots job.root ≡ o → option_map (λ s. s.class) o ≡ Some (sound.placed.each at job there).under.target.0 → job.root < length c.slots
      go None e is = absurd (cc)
      go (Some s) e is = slice_get_within c.slots job.root s e

  in_book : (slot : ℕ) → slot < length c.slots → slot < length f.book
  in_book slot within = subst (λ (n : ℕ). slot < n) (sym sound.book) within

  -- ---- what can be noted

  module _ (seconds : ℤ) (now : f.now ≡ Some seconds) where
    all_ready : first_not_ready f.jobs f.book seconds ≡ None
    all_ready = subst (IsReady f.jobs f.book) now sound.ready

    ready : (first_of (λ job. ready_refusal f.book job.slot seconds) f.jobs ≡ None) × (first_of (λ job. ready_refusal f.book job.root seconds) f.jobs ≡ None)
    ready = both_none (first_of (λ job. ready_refusal f.book job.slot seconds) f.jobs) (first_of (λ job. ready_refusal f.book job.root seconds) f.jobs) all_ready

    -- that a job is done
    can_finish : (at : ℕ) (job : Job) → slice_get f.jobs at ≡ Some job → CanFinish f.book (slot_at f at) seconds
    can_finish at job there =
        let slot : slot_at f at ≡ Some job.slot = ap (option_map (λ (j : Job). j.slot)) there in
        let one : ready_refusal f.book job.slot seconds ≡ None = none_at (λ (j : Job). ready_refusal f.book j.slot seconds) f.jobs ready.0 at job there in
        subst (λ (o : Option ℕ). CanFinish f.book o seconds) (sym slot) (in_book job.slot (job_within at job there), (ready_for_both f.book job.slot seconds one).0)

    -- that a root is activated
    can_activate : (root : ℕ) → IsTargetRoot c f root → (root < length f.book) × (activate_refusal f.book root seconds ≡ None)
    can_activate root is =
        let one : ready_refusal f.book is.job.root seconds ≡ None = none_at (λ (j : Job). ready_refusal f.book j.root seconds) f.jobs ready.1 is.at is.job is.there in
        subst (λ (n : ℕ). (n < length f.book) × (activate_refusal f.book n seconds ≡ None)) is.is
        (in_book is.job.root (root_within is.at is.job is.there), (ready_for_both f.book is.job.root seconds one).1)

  -- ---- each step

  pub can_start : (s : Step) → IsStep c f s → CanDo c f s
  can_start (step.Run child caller) is = is.class
  can_start (step.Bad root) is = marked root is
  can_start (step.Begin slot) is = record { all = sound.book; can = λ seconds now. in_book slot (slot_within slot is) }
  can_start (step.Put job put) is = tt
  can_start (step.Settle slot) is = slot_within slot is
  can_start (step.Index job) is = tt
  can_start (step.Done job) is = record { all = sound.book; can = λ seconds now. can_finish seconds now job is.0.job is.1.job }
  can_start (step.Primary root) is = marked root is
  can_start (step.Activated root) is = record { all = sound.book; can = λ seconds now. can_activate seconds now root is }
