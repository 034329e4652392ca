-- What holds of every act of an install, by what it is: a handler, a mark of a root, or an act of a job.
use Rattle.std.proofs.Common.{◌≡◌, ◌≤◌, ◌||◌, ◌&&◌, not, ℕ, Bool, true, false, cond, List, [], ◌∷◌, ◌++◌, reverse, is_some, Option, Some, None, refl}
use Rattle.std.specs.List.{flat_map, range_with_len}
use Rattle.std.specs.Option.{option_map_or}
use Rattle.child_steps.specs.Hooks.{handler_child, handler_program, slot_hook}
use Rattle.child_steps.specs.declared.handlers.HandlerKind.{HandlerKind}
use Rattle.child_steps.specs.declared.hooks.HookKind.{HookKind}
use Rattle.child_steps.specs.declared.hooks.HookKind.TheVariants as hook_kind
use Rattle.manifest.specs.declared.image.ImageFile.{ImageFile}
use Rattle.system_conf.specs.Configuration.{Configuration}
use Rattle.install_facts.specs.Facts.{FactsContent}
use Rattle.install_plan.specs.Acts.{Work, bad_acts, handler_acts, hook_acts, index_acts, job_acts, job_acts_of, primary_acts, put_acts, put_of, root_acts, settle_acts, spares_at, work_acts, work_at, work_note}
use Rattle.install_plan.specs.declared.step.Act.TheVariants.{Do, Tell}
use Rattle.install_plan.specs.declared.step.Caller.TheVariants as caller
use Rattle.install_plan.specs.declared.step.Step.{Step}
use Rattle.install_plan.specs.declared.step.Step.TheVariants as step
use Rattle.install_plan.proofs.Each.{Each, OfStep, each_append, each_flat_map, each_if, each_map, each_range, each_reverse}

-- an image names a hook
abbrev pub is_named : Work → HookKind → Bool
is_named x hook_kind.Pre = x.image.pre
is_named x hook_kind.Install = x.image.install
is_named x hook_kind.Post = x.image.post

-- it holds of each step of a job
pub record OfJob (c : Configuration) (f : FactsContent) (P : Step → Type 0) (x : Work) : Type 0 where
  pub begin : P (step.Begin x.job.slot)
  pub hook : (which : HookKind) → is_named x which ≡ true → P (step.Run (slot_hook c f.content x.job which (spares_at c f x.at)) (caller.Hook which x.job.slot))
  pub put : (file : ImageFile) → x.image.file ≡ Some file → x.image.install ≡ false → P (step.Put x.at (put_of c x file))
  pub settle : P (step.Settle x.job.slot)
  pub index : P (step.Index x.at)
  pub done : P (step.Done x.at)

-- the step of a handler
abbrev pub handler_step : Configuration → FactsContent → HandlerKind → ℕ → Step
handler_step c f which at = step.Run (handler_child c f.booted f.jobs which (spares_at c f at)) (caller.Handler which)

module _ (c : Configuration) (f : FactsContent) (P : Step → Type 0) where
  pub of_handler : (which : HandlerKind) (at : ℕ) → (is_some (handler_program c which) ≡ true → P (handler_step c f which at)) → Each (OfStep P) (handler_acts c f which at)
  of_handler which at holds = go (is_some (handler_program c which)) refl
    where
      go : (b : Bool) → is_some (handler_program c which) ≡ b → Each (OfStep P) (cond b (Do (handler_step c f which at) ∷ []) [])
      go true is = (holds is, tt)
      go false is = tt

  module _ (x : Work) (of : OfJob c f P x) where
    pub of_hook : (which : HookKind) (named : Bool) → is_named x which ≡ named → Each (OfStep P) (hook_acts c f x which named)
    of_hook which true is = (of.hook which is, tt)
    of_hook which false is = tt

    pub of_put : Each (OfStep P) (put_acts c x)
    of_put = go x.image.install refl x.image.file refl
      where
        go : (b : Bool) → x.image.install ≡ b → (o : Option ImageFile) → x.image.file ≡ o → Each (OfStep P) (cond b [] (option_map_or (λ file. Do (step.Put x.at (put_of c x file)) ∷ []) o []))
        go true installs o is = tt
        go false installs None is = tt
        go false installs (Some file) is = (of.put file is installs, tt)

    pub of_settle : Each (OfStep P) (settle_acts x)
    of_settle = each_if (OfStep P) (x.image.install || x.image.post) (Do (step.Settle x.job.slot)) of.settle

    pub of_index : Each (OfStep P) (index_acts c x)
    of_index = each_if (OfStep P) (not x.image.install && (x.image.adaptive && is_some c.data_directory)) (Do (step.Index x.at)) of.index

    pub of_work : Each (OfStep P) (work_acts c f x)
    of_work = (
      of.begin,
      each_append (OfStep P) (hook_acts c f x hook_kind.Pre x.image.pre) _ (of_hook hook_kind.Pre x.image.pre refl)
          (each_append (OfStep P) (hook_acts c f x hook_kind.Install x.image.install) _ (of_hook hook_kind.Install x.image.install refl)
          (each_append (OfStep P) (put_acts c x) _ of_put
          (each_append (OfStep P) (hook_acts c f x hook_kind.Post x.image.post) _ (of_hook hook_kind.Post x.image.post refl)
          (each_append (OfStep P) (settle_acts x) _ of_settle
          (each_append (OfStep P) (index_acts c x) _ of_index
          (of.done, tt)))))),
    )

  -- a job that is skipped has no steps
  pub of_job_acts : (x : Work) → (x.skipped ≡ false → OfJob c f P x) → Each (OfStep P) (job_acts_of c f x)
  of_job_acts x of = go x.skipped refl
    where
      go : (b : Bool) → x.skipped ≡ b → Each (OfStep P) (cond b [] (work_acts c f x) ++ Tell (work_note c f x) ∷ [])
      go true e = (tt, tt)
      go false e = each_append (OfStep P) (work_acts c f x) (Tell (work_note c f x) ∷ []) (of_work x (of e)) (tt, tt)

  pub of_job : (at : ℕ) → ((x : Work) → work_at c f at ≡ Some x → x.skipped ≡ false → OfJob c f P x) → Each (OfStep P) (job_acts c f at)
  of_job at of = go (work_at c f at) refl
    where
      go : (o : Option Work) → work_at c f at ≡ o → Each (OfStep P) (option_map_or (job_acts_of c f) o [])
      go None e = tt
      go (Some x) e = of_job_acts x (of x e)

  -- the jobs from one on
  pub of_jobs : (from count : ℕ) → ((at : ℕ) (x : Work) → from ≤ at → work_at c f at ≡ Some x → x.skipped ≡ false → OfJob c f P x) → Each (OfStep P) (flat_map (job_acts c f) (range_with_len from count))
  of_jobs from count of =
      each_flat_map (λ (at : ℕ). from ≤ at) (OfStep P) (job_acts c f) (λ at later. of_job at (λ x there. of at x later there)) (range_with_len from count)
      (each_range (λ (at : ℕ). from ≤ at) from count (λ n later. later))

  pub of_bads : (roots : List ℕ) → Each (λ root. P (step.Bad root)) roots → Each (OfStep P) (bad_acts roots)
  of_bads roots of = each_map (λ root. P (step.Bad root)) (OfStep P) (λ root. Do (step.Bad root)) (λ root holds. holds) roots of

  pub of_roots : (roots : List ℕ) → Each (λ root. P (step.Primary root) × P (step.Activated root)) roots → Each (OfStep P) (root_acts roots)
  of_roots roots of =
      each_flat_map (λ root. P (step.Primary root) × P (step.Activated root)) (OfStep P) primary_acts (λ root holds. (holds.0, (holds.1, tt))) (reverse roots)
      (each_reverse (λ root. P (step.Primary root) × P (step.Activated root)) roots of)
