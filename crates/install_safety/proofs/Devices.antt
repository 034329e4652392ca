-- Which devices the acts of an install leave alone.
use Rattle.std.proofs.Common.{◌≡◌, ◌≢◌, ◌≤◌, ◌<◌, ◌+◌, ◌⊎◌, ⊎_elim, ◌||◌, ℕ, zero, suc, Bool, true, false, cond, List, [], ◌∷◌, ◌++◌, length, slice_get, Option, Some, None, refl, sym, ◌∙◌, ap, subst, arith}
use Rattle.std.specs.Prelude.{bytes_eq, option_map}
use Rattle.std.specs.List.{flat_map, list_any, range_with_len, slice_index_or}
use Rattle.std.specs.Option.{option_map_or, option_to_list}
use Rattle.std.proofs.lemmas.Bool.{true≢false}
use Rattle.std.proofs.lemmas.Bool.Decides.{nat_tests}
use Rattle.std.proofs.lemmas.List.Folds.{list_any-append}
use Rattle.std.proofs.lemmas.Option.{slice_get_within}
use Rattle.keyfile.specs.Groups.{Text}
use Rattle.machine.specs.Spares.{has_disk}
use Rattle.machine.proofs.Worlds.{bytes_eq_same}
use Rattle.running_system.specs.Running.{is_in_use}
use Rattle.running_system.proofs.SlotDevices.{apart}
use Rattle.slot_graph.specs.declared.job.Job.{Job}
use Rattle.slot_graph.specs.declared.state.SlotState.TheVariants as state
use Rattle.system_conf.specs.Configuration.{Configuration}
use Rattle.system_conf.specs.Refusals.{same_device}
use Rattle.system_conf.specs.declared.slot.Slot.{Slot}
use Rattle.install_facts.specs.Facts.{FactsContent}
use Rattle.install_plan.specs.Acts.{Work, alone_device, device_if, is_alone, put_devices, running_device, running_devices, skipped_device, skipped_devices, spares_at, work_at}
use Rattle.install_plan.proofs.ActKinds.{OfJob}
use Rattle.install_plan.proofs.JobWork.{is_work}
use Rattle.install_steps.specs.Steps.{slot_at}
use Rattle.install_safety.proofs.Frames.{LeavesDisk}

-- ---- lists of devices

pub same_or_past : (from n : ℕ) → from ≤ n → (n ≡ from) ⊎ (from + 1 ≤ n)
same_or_past from n le = grind (arith, nat_tests)

left_or : (x y : Bool) → x ≡ true → (x || y) ≡ true
left_or true y h = refl
left_or false y h = absurd (true≢false (sym h))

right_or : (x y : Bool) → y ≡ true → (x || y) ≡ true
right_or true y h = refl
right_or false y h = h

-- what one place of a range gives stands among what all give
any_place : (p : Text → Bool) (g : ℕ → List Text) (from count n : ℕ) → from ≤ n → n < from + count → list_any p (g n) ≡ true → list_any p (flat_map g (range_with_len from count)) ≡ true
any_place p g from zero n le lt here = let none : ⊥ = omega (arith, le, lt) in absurd none
any_place p g from (suc count) n le lt here =
    list_any-append p (g from) (flat_map g (range_with_len (from + 1) count))
    ∙ ⊎_elim
    (λ same. left_or _ _ (subst (λ (k : ℕ). list_any p (g k) ≡ true) same here))
    (λ past. right_or (list_any p (g from)) _ (any_place p g (from + 1) count n past (omega (arith, lt)) here))
    (same_or_past from n le)

one_device : (device : Text) (more : List Text) → list_any (λ p. bytes_eq p device) (device ∷ more) ≡ true
one_device device more = left_or (bytes_eq device device) _ (bytes_eq_same device)

module _ (c : Configuration) (f : FactsContent) where
  -- ---- what hooks and handlers spare

  spared_running : (device : Text) (n : ℕ) → list_any (λ p. bytes_eq p device) (running_devices c f) ≡ true → has_disk (spares_at c f n) device ≡ true
  spared_running device n h =
      list_any-append (λ p. bytes_eq p device) (running_devices c f) (put_devices c f n ++ skipped_devices c f) ∙ left_or _ _ h

  spared_put : (device : Text) (n : ℕ) → list_any (λ p. bytes_eq p device) (put_devices c f n) ≡ true → has_disk (spares_at c f n) device ≡ true
  spared_put device n h =
      list_any-append (λ p. bytes_eq p device) (running_devices c f) (put_devices c f n ++ skipped_devices c f)
      ∙ right_or (list_any (λ p. bytes_eq p device) (running_devices c f)) _
      (list_any-append (λ p. bytes_eq p device) (put_devices c f n) (skipped_devices c f) ∙ left_or _ _ h)

  spared_skipped : (device : Text) (n : ℕ) → list_any (λ p. bytes_eq p device) (skipped_devices c f) ≡ true → has_disk (spares_at c f n) device ≡ true
  spared_skipped device n h =
      list_any-append (λ p. bytes_eq p device) (running_devices c f) (put_devices c f n ++ skipped_devices c f)
      ∙ right_or (list_any (λ p. bytes_eq p device) (running_devices c f)) _
      (list_any-append (λ p. bytes_eq p device) (put_devices c f n) (skipped_devices c f) ∙ right_or (list_any (λ p. bytes_eq p device) (put_devices c f n)) _ h)

  -- the device of a slot that is in use
  pub running_spared : (at : ℕ) (slot : Slot) → slice_get c.slots at ≡ Some slot → is_in_use (slice_index_or f.states at state.Inactive) ≡ true → (n : ℕ) → has_disk (spares_at c f n) slot.device ≡ true
  running_spared at slot there used n =
      spared_running slot.device n
      (any_place (λ p. bytes_eq p slot.device) (running_device c f) 0 (length c.slots) at (omega arith) (omega (arith, slice_get_within c.slots at slot there)) here)
    where
      here : list_any (λ p. bytes_eq p slot.device) (running_device c f at) ≡ true
      here =
          ap (λ (b : Bool). list_any (λ p. bytes_eq p slot.device) (cond b (option_to_list (option_map (λ s. s.device) (slice_get c.slots at))) [])) used
          ∙ ap (λ (o : Option Slot). list_any (λ p. bytes_eq p slot.device) (option_to_list (option_map (λ s. s.device) o))) there
          ∙ one_device slot.device []

  device_there : (test : Work → Bool) (at : ℕ) (x : Work) → work_at c f at ≡ Some x → test x ≡ true → list_any (λ p. bytes_eq p x.slot.device) (device_if test c f at) ≡ true
  device_there test at x there passes =
      ap (λ (o : Option Work). list_any (λ p. bytes_eq p x.slot.device) (option_map_or (λ y. cond (test y) (y.slot.device ∷ []) []) o [])) there
      ∙ ap (λ (b : Bool). list_any (λ p. bytes_eq p x.slot.device) (cond b (x.slot.device ∷ []) [])) passes
      ∙ one_device x.slot.device []

  pub within_jobs : (at : ℕ) (x : Work) → work_at c f at ≡ Some x → at < length f.jobs
  within_jobs at x there = slice_get_within f.jobs at x.job (is_work c f at x there).job

  -- of a slot that is skipped
  pub skipped_spared : (at : ℕ) (x : Work) → work_at c f at ≡ Some x → x.skipped ≡ true → (n : ℕ) → has_disk (spares_at c f n) x.slot.device ≡ true
  skipped_spared at x there skipped n =
      spared_skipped x.slot.device n
      (any_place (λ p. bytes_eq p x.slot.device) (skipped_device c f) 0 (length f.jobs) at (omega arith) (omega (arith, within_jobs at x there)) (device_there (λ y. y.skipped) at x there skipped))

  -- of a slot that RAUC alone has written
  pub alone_spared : (at : ℕ) (x : Work) → work_at c f at ≡ Some x → is_alone x ≡ true → (n : ℕ) → at < n → has_disk (spares_at c f n) x.slot.device ≡ true
  alone_spared at x there alone n before =
      spared_put x.slot.device n
      (any_place (λ p. bytes_eq p x.slot.device) (alone_device c f) 0 n at (omega arith) (omega (arith, before)) (device_there is_alone at x there alone))

  -- ---- the slots of jobs

  pub slot_of_work : (at : ℕ) (x : Work) → work_at c f at ≡ Some x → slot_at f at ≡ Some x.job.slot
  slot_of_work at x there = ap (option_map (λ (job : Job). job.slot)) (is_work c f at x there).job

  -- a job's device is that of no slot at another place
  pub device_other : same_device c.slots ≡ None → (at : ℕ) (slot : Slot) (k : ℕ) (y : Work) → slice_get c.slots at ≡ Some slot → work_at c f k ≡ Some y → at ≢ y.job.slot → y.slot.device ≢ slot.device
  device_other alone at slot k y here there ne same =
      ne (sym (apart c.slots y.job.slot at y.slot slot alone (is_work c f k y there).slot here same))

  -- and of no other job
  pub devices_apart : same_device c.slots ≡ None → ((j k slot : ℕ) → slot_at f j ≡ Some slot → slot_at f k ≡ Some slot → j ≡ k) → (j k : ℕ) (x y : Work) → work_at c f j ≡ Some x → work_at c f k ≡ Some y → j ≢ k → y.slot.device ≢ x.slot.device
  devices_apart alone own j k x y here there ne same =
      let place = apart c.slots y.job.slot x.job.slot y.slot x.slot alone (is_work c f k y there).slot (is_work c f j x here).slot same in
      ne (own j k x.job.slot (slot_of_work j x here) (slot_of_work k y there ∙ ap (λ (n : ℕ). Some n) place))

-- a job whose hooks spare a device, and whose slot is on another, leaves it alone
pub job_leaves : (c : Configuration) (f : FactsContent) (device : Text) (x : Work) → has_disk (spares_at c f x.at) device ≡ true → x.slot.device ≢ device → OfJob c f (LeavesDisk device) x
job_leaves c f device x spared ne = record {
  begin = tt;
  hook = λ which is. spared;
  put = λ file is installs. ne;
  settle = tt;
  index = tt;
  done = tt;
}
