-- What came of the unmount, by the children that were run and the calls that failed.
use Rattle.std.proofs.Common.{◌≡◌, ◌⊎◌, ◌&&◌, ◌==◌, inl, inr, ℕ, Bool, true, false, cond, List, [], ◌∷◌, ◌++◌, Option, Some, None, refl, sym, ◌∙◌, ap, subst, arith}
use Rattle.std.proofs.lemmas.List.{append-nil}
use Rattle.std.proofs.lemmas.Bool.Decides.{nat_tests}
use Rattle.std.specs.List.{last_or}
use Rattle.std.specs.Option.{option_to_list}
use Rattle.std.specs.Prelude.{bytes_eq}
use Rattle.std.specs.Cmp.Lexicographic.{pointwise}
use Rattle.keyfile.specs.Groups.{Text}
use Rattle.machine.specs.declared.world.Child.{Child}
use Rattle.machine.specs.declared.world.Ended.{Ended}
use Rattle.machine.specs.declared.world.Ended.TheVariants.{Code, Signal}
use Rattle.machine.specs.declared.world.RunNote.{RunNote}
use Rattle.machine.specs.Past.{Past, Run, Done, Broken, Grows, Moment, moments_since, world_now}
use Rattle.machine.specs.Runs.{RunSince, first_failed_but, has_failed, is_run_of}
use Rattle.machine.specs.SameChild.{are_spares, are_texts, is_child, is_var}
use Rattle.machine.proofs.CallsMade.{but_left_out, failed_asked, no_moments}
use Rattle.machine.proofs.Moments.{did_grows, grows_refl}
use Rattle.machine.proofs.SameChild.{is_child_refl}
use Rattle.system_conf.specs.Configuration.{Configuration}
use Rattle.child_steps.specs.Children.{check_child, mount_child, mount_point, umount_child}
use Rattle.child_steps.specs.Closing.{ClosingEnds, closing_by, closing_of, end_of_last}
use Rattle.child_steps.specs.Mounting.{OneRun, is_success, succeeded}
use Rattle.child_steps.specs.declared.close.Closing.{Closing}
use Rattle.child_steps.specs.declared.close.Closing.TheVariants as closing

-- ---- ends

equal_of : (n k : ℕ) → (n == k) ≡ true → n ≡ k
equal_of n k e = grind (arith, nat_tests)

pub is_success_of : (ended : Ended) → ended ≡ succeeded → is_success ended ≡ true
is_success_of ended is = ap is_success is

pub no_success : (ended : Ended) → (ended ≡ succeeded → ⊥) → is_success ended ≡ false
no_success Signal not = refl
no_success (Code code) not =
    elim (code == 0) as (λ b. (code == 0) ≡ b → b ≡ false) [
      | true ↦ λ e. absurd (not (ap (λ (n : ℕ). Code n) (equal_of code 0 e)))
      | false ↦ λ e. refl
    ] refl

-- ---- the unmount is another child than the check and the mount

and_no : (a b : Bool) → b ≡ false → (a && b) ≡ false
and_no true b e = e
and_no false b e = refl

fewer : (text : Text) (o : Option Text) → are_texts (option_to_list o ++ []) (option_to_list o ++ text ∷ []) ≡ false
fewer text None = refl
fewer text (Some file) = and_no (bytes_eq file file) (are_texts [] (text ∷ [])) refl

pub not_check : (c : Configuration) (bundle : Text) → is_child (umount_child c) (check_child c bundle) ≡ false
not_check c bundle =
    let u = umount_child c in
    let k = check_child c bundle in
    and_no (bytes_eq u.program k.program) (are_texts u.args k.args && (pointwise is_var u.env k.env && are_spares u.spares k.spares))
    (and_no (are_texts u.args k.args) (pointwise is_var u.env k.env && are_spares u.spares k.spares)
    (and_no (are_texts u.spares.disks k.spares.disks) (are_texts u.spares.files k.spares.files && true)
    (ap (λ (b : Bool). b && true) (fewer (mount_point c) c.status_file))))

pub not_mount : (c : Configuration) (bundle : Text) → is_child (umount_child c) (mount_child c bundle) ≡ false
not_mount c bundle =
    let u = umount_child c in
    let k = mount_child c bundle in
    and_no (bytes_eq u.program k.program) (are_texts u.args k.args && (pointwise is_var u.env k.env && are_spares u.spares k.spares))
    (ap (λ (b : Bool). b && (pointwise is_var u.env k.env && are_spares u.spares k.spares)) (and_no (bytes_eq (mount_point c) bundle) false refl))

-- ---- the unmount

-- what the unmount of a bundle leaves of the past, and what it says
pub record Closed (umount : Child) (old new : Past) (closed : Closing) : Type 0 where
  pub grows : Grows old new
  pub notes : List RunNote
  pub runs : RunSince old new notes
  pub few : (notes ≡ []) ⊎ ((note : RunNote) × (notes ≡ note ∷ []))
  pub none : first_failed_but (is_run_of umount) (moments_since old new) ≡ None
  pub says : (other : RunNote) → is_child umount other.child ≡ false → closed ≡ closing_by (end_of_last umount (last_or (Some other) notes)) (has_failed (is_run_of umount) (moments_since old new))

closed_run : (umount : Child) (ended : Ended) (old new : Past) (closed : Closing) → closed ≡ closing_of ended → OneRun umount ended old new → Closed umount old new closed
closed_run umount ended old new closed is run = record {
  grows = did_grows old new (Run umount) Done run.call;
  notes = record { child = umount; exit = run.exit } ∷ [];
  runs = run.runs;
  few = inr (record { child = umount; exit = run.exit }, refl);
  none = but_left_out (is_run_of umount) old new (Run umount) Done run.call (is_child_refl umount);
  says = λ other not. rw (is_child_refl umount) (is ∙ ap closing_of (sym run.is));
}

pub closed_by : (umount : Child) (old new : Past) (closed : Closing) → ClosingEnds umount old new closed → Closed umount old new closed
closed_by umount old new closing.NotMounted h = absurd h
closed_by umount old new closing.Unmounted run = closed_run umount succeeded old new closing.Unmounted refl run
closed_by umount old new (closing.Ended ended) h =
    closed_run umount ended old new (closing.Ended ended) (sym (ap (λ (b : Bool). cond b closing.Unmounted (closing.Ended ended)) (no_success ended h.1))) h.0
closed_by umount old new closing.Failed did = record {
  grows = did_grows old new (Run umount) Broken did;
  notes = [];
  runs = did.after.1 ∙ sym (append-nil (world_now old).runs);
  few = inl refl;
  none = but_left_out (is_run_of umount) old new (Run umount) Broken did (is_child_refl umount);
  says = λ other not. rw not (rw (failed_asked (is_run_of umount) old new (Run umount) did (is_child_refl umount)) refl);
}
closed_by umount old new closing.NoMemory same = record {
  grows = subst (λ (p : Past). Grows old p) (sym same) (grows_refl old);
  notes = [];
  runs = ap (λ (p : Past). (world_now p).runs) same ∙ sym (append-nil (world_now old).runs);
  few = inl refl;
  none = ap (λ (ms : List Moment). first_failed_but (is_run_of umount) ms) (no_moments old new same);
  says = λ other not. rw not (rw (no_moments old new same) refl);
}
