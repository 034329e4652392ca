-- A mark of a bootname, after reads that changed nothing.
use Rattle.std.proofs.Common.{◌≡◌, ⊎_elim, ℕ, List, Some, Result, Ok, Err, sym, ◌∙◌, ap, subst}
use Rattle.std.specs.Prelude.{OnOk}
use Rattle.std.specs.FinMap as fin
use Rattle.boot_model.specs.Vars.{Variables}
use Rattle.boot_model.specs.declared.boot_kind.BootKind.{BootKind}
use Rattle.boot_state.specs.States.{KeepsName}
use Rattle.boot_commands.specs.declared.command.Mark.{Mark}
use Rattle.boot_commands.specs.Effects.{commands_of, left_by}
use Rattle.machine.specs.declared.world.World.{World}
use Rattle.machine.specs.Past.{Always, Grows, Past, world_now}
use Rattle.machine.proofs.Moments.{always_joins, always_now, always_weaker, held_of, held_splits, same_boot}
use Rattle.boot_backends.specs.Marked.{KeepsOthers, Led, Left}
use Rattle.boot_backends.specs.Through.{Through}
use Rattle.boot_backends.proofs.Callers.{led_by}
use Rattle.boot_backends.proofs.Truth.{honest_splits}
use Rattle.boot_backends.proofs.Worlds.{through_none}

-- in no more worlds than before, none of the commands was run
pub still_through : (kind : BootKind) (names : List (List ℕ)) (mk : Mark) (name : List ℕ) (a b : Past) (read : Variables) → Always a b (λ u. u ≡ world_now a) → Always a b (Through a.boot (commands_of kind names mk name read) (world_now a))
still_through kind names mk name a b read same =
    let cs = commands_of kind names mk name read in
    always_weaker a b (λ u. u ≡ world_now a) (Through a.boot cs (world_now a))
    (λ u e. subst (Through a.boot cs (world_now a)) (sym e) (through_none a.boot cs (world_now a))) same

pub world_same : (a b : Past) → Always a b (λ u. u ≡ world_now a) → world_now b ≡ world_now a
world_same a b same = always_now a b (λ u. u ≡ world_now a) same

module _ (kind : BootKind) (names : List (List ℕ)) (mk : Mark) (name : List ℕ) (a b : Past) (same : Always a b (λ u. u ≡ world_now a)) where
  pub led_unchanged : Led kind names mk name a b
  led_unchanged = led_by kind names mk name a b (Ok tt) fin.empty (still_through kind names mk name a b fin.empty same)

  pub led_after : (z : Past) → Led kind names mk name b z → Led kind names mk name a z
  led_after z led =
      let cs = commands_of kind names mk name led.read in
      let moments = subst (λ (w : World). Always b z (Through b.boot cs w)) (world_same a b same) led.moments in
      let later = subst (λ (k : BootKind). Always b z (Through k cs (world_now a))) (same_boot a b same.grows) moments in
      led_by kind names mk name a z (Ok tt) led.read (always_joins a b z (Through a.boot cs (world_now a)) (still_through kind names mk name a b led.read same) later)

pub keeps_unchanged : (kind : BootKind) (names : List (List ℕ)) (name : List ℕ) (a b : Past) → Always a b (λ u. u ≡ world_now a) → KeepsOthers kind names name a b
keeps_unchanged kind names name a b same = λ honest other ne v held.
    held_of a b (λ u. u ≡ world_now a) (λ x. KeepsName kind names other (world_now a).vars x.vars) same
    (λ u x e crash.
    let is = crash.vars ∙ ap (λ (w : World). w.vars) e in
    subst (λ (vars : Variables). KeepsName kind names other (world_now a).vars vars) (sym is) (record { stays_down = λ h. h; stays_good = λ h. h }))
    v held

pub keeps_after : (kind : BootKind) (names : List (List ℕ)) (name : List ℕ) (a b z : Past) → Always a b (λ u. u ≡ world_now a) → Grows b z → KeepsOthers kind names name b z → KeepsOthers kind names name a z
keeps_after kind names name a b z same grown keeps = λ honest other ne v held.
    let both = honest_splits kind a b z same.grows grown honest in
    ⊎_elim
    (λ before. keeps_unchanged kind names name a b same both.0 other ne v before)
    (λ later. subst (λ (w : World). KeepsName kind names other w.vars v.vars) (world_same a b same) (keeps both.1 other ne v later))
    (held_splits a b z same.grows grown v held)

pub left_after : {T E : Type 0} (kind : BootKind) (names : List (List ℕ)) (mk : Mark) (name : List ℕ) (a b z : Past) (result : Result T E) → Always a b (λ u. u ≡ world_now a) → Grows b z → OnOk result (Left kind names mk name b z) → OnOk result (Left kind names mk name a z)
left_after kind names mk name a b z (Ok x) same grown left = λ honest.
    let both = honest_splits kind a b z same.grows grown honest in
    subst (λ (w : World). left_by kind names mk name w.vars ≡ Some (world_now z).vars) (world_same a b same) (left both.1)
left_after kind names mk name a b z (Err e) same grown left = tt
