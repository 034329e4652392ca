-- The name of the root that is booted is none that an install marks.
use Rattle.std.proofs.Common.{◌≡◌, ◌≢◌, ℕ, true, false, List, [], length, slice_get, is_some, Option, Some, None, refl, sym, ◌∙◌, subst}
use Rattle.std.specs.Prelude.{option_and_then, unwrap_or}
use Rattle.std.specs.Option.{option_map_or}
use Rattle.std.proofs.lemmas.Bool.{true≢false}
use Rattle.boot_backends.specs.Honest.{Honest}
use Rattle.child_steps.specs.declared.handlers.HandlerKind.TheVariants as handler_kind
use Rattle.keyfile.specs.Groups.{Text}
use Rattle.machine.specs.Past.{Always, Past}
use Rattle.slot_graph.specs.declared.state.Booted.TheVariants as booted
use Rattle.slot_status.specs.Records.{RecordContent}
use Rattle.system_conf.specs.Configuration.{Configuration}
use Rattle.system_conf.specs.Sound.{AreSlotsSound}
use Rattle.system_conf.specs.declared.slot.Slot.{Slot}
use Rattle.install_facts.specs.Facts.{AreSound, FactsContent}
use Rattle.install_plan.specs.Acts.{acts_of, bad_acts, handler_acts, has_bootname, jobs_acts, steps_in, target_roots}
use Rattle.install_plan.proofs.ActKinds.{of_bads, of_handler, of_jobs}
use Rattle.install_plan.proofs.Each.{Each, OfStep, each_append, each_step, each_weaker}
use Rattle.install_plan.proofs.WhatActs.{IsTargetRoot, roots_are}
use Rattle.install_steps.specs.Steps.{bootname_of}
use Rattle.install_safety.specs.Safe.{HasBootname}
use Rattle.install_safety.proofs.Idle.{BootedIsRoot, names_apart, root_other}
use Rattle.install_safety.proofs.Names.{Keeps, MarksOther, name_kept}
use Rattle.install_safety.proofs.Order.{last_acts, of_last}
use Rattle.install_safety.specs.Lists.{Within}

-- a root with a bootname has this one
has_name : (c : Configuration) (root : ℕ) → has_bootname c root ≡ true → HasBootname c root (bootname_of c root)
has_name c root has = go (slice_get c.slots root) has
  where
    with_name : (o : Option Text) → is_some o ≡ true → o ≡ Some (unwrap_or o [])
    with_name None e = absurd (true≢false (sym e))
    with_name (Some name) e = refl

    go : (o : Option Slot) → option_map_or (λ s. is_some s.bootname) o false ≡ true → option_and_then (λ s. s.bootname) o ≡ Some (unwrap_or (option_and_then (λ s. s.bootname) o) [])
    go None e = absurd (true≢false (sym e))
    go (Some s) e = with_name s.bootname e

module _ (c : Configuration) (f : FactsContent) (sound : AreSound c f) (slots : AreSlotsSound c.slots) (is_root : BootedIsRoot c f) (root : ℕ) (name : Text) (boots : f.booted ≡ booted.Slot root) (has : HasBootname c root name) where
  other_name : (target : ℕ) → IsTargetRoot c f target → name ≢ bootname_of c target
  other_name target is same =
      let target_has : HasBootname c target name = subst (HasBootname c target) (sym same) (has_name c target is.named) in
      root_other c f sound slots is_root is.at is.job is.there root boots (names_apart c slots root target name has target_has ∙ sym is.is)

  others : Each (λ target. name ≢ bootname_of c target) (target_roots c f)
  others = each_weaker (IsTargetRoot c f) (λ target. name ≢ bootname_of c target) other_name (target_roots c f) (roots_are c f)

  acts_mark_others : Each (OfStep (MarksOther c name)) (acts_of c f)
  unfolding acts_of
  acts_mark_others =
      each_append (OfStep (MarksOther c name)) (handler_acts c f handler_kind.Pre 0) _ (of_handler c f (MarksOther c name) handler_kind.Pre 0 (λ is. refl))
      (each_append (OfStep (MarksOther c name)) (bad_acts (target_roots c f)) _ (of_bads c f (MarksOther c name) (target_roots c f) others)
      (each_append (OfStep (MarksOther c name)) (jobs_acts c f) (last_acts c f) (of_jobs c f (MarksOther c name) 0 (length f.jobs) (λ at x later there kept. record {
        begin = tt;
        hook = λ which is. refl;
        put = λ file is installs. tt;
        settle = tt;
        index = tt;
        done = tt;
      }))
      (of_last c f (MarksOther c name) (each_weaker (λ target. name ≢ bootname_of c target) (λ target. (name ≢ bootname_of c target) × Unit {0}) (λ target ne. (ne, tt)) (target_roots c f) others)
      (of_handler c f (MarksOther c name) handler_kind.Post (length f.jobs) (λ is. refl)))))

  -- so it keeps what it is, where the programs of the boot loader are honest
  pub booted_kept : (book : List RecordContent) (a z : Past) → Within c f book (steps_in (acts_of c f)) a z → Honest c.boot a z → Always a z (Keeps c name a)
  booted_kept book a z within honest = name_kept c f name book (steps_in (acts_of c f)) (each_step (MarksOther c name) (acts_of c f) acts_mark_others) a z within honest
