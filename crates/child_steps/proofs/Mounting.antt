-- A bundle is checked and mounted, by one child after the other.
use Rattle.std.proofs.Common.{◌≡◌, ◌||◌, inl, inr, Bool, true, false, List, [], ◌∷◌, ◌++◌, Result, Ok, Err, IsTrue, refl, sym, subst}
use Rattle.std.specs.List.{list_any}
use Rattle.std.specs.Option.{option_to_list}
use Rattle.std.proofs.lemmas.Bool.{true≢false}
use Rattle.updater_text.specs.Paths.{is_within}
use Rattle.keyfile.specs.Groups.{Text}
use Rattle.machine.specs.Spares.{is_boot}
use Rattle.machine.specs.declared.stops.Stop.{Stop}
use Rattle.machine.specs.declared.stops.Stop.TheVariants as stop
use Rattle.machine.specs.declared.world.Child.{Child}
use Rattle.machine.specs.declared.world.Ended.{Ended}
use Rattle.machine.specs.Past.{Past}
use Rattle.machine.specs.Runs.{RanAll, SparesThese}
use Rattle.system_conf.specs.Configuration.{Configuration}
use Rattle.child_steps.specs.Children.{check_child, helper_spares, mount_child, mount_point}
use Rattle.child_steps.specs.Mounting.{MountEnds, OneRun, StepEnds, succeeded}
use Rattle.child_steps.specs.declared.mounted.Mounted.{Mounted}
use Rattle.child_steps.specs.declared.refusal.MountRefusal.{MountRefusal}
use Rattle.child_steps.specs.declared.refusal.MountRefusal.TheVariants.{Untrusted, MountFailed}

-- the helpers spare what they have to
pub mount_spares : (c : Configuration) (bundle : Text) → SparesThese (helper_spares c []) (mount_child c bundle)
mount_spares c bundle = record { class = refl; disks = λ path h. h; files = λ path h. h; boot = λ h. h }

or_onto : (a b c : Bool) → (IsTrue b → IsTrue c) → IsTrue (a || b) → IsTrue (a || c)
or_onto true b c f h = refl
or_onto false b c f h = f h

any_more : (f : Text → Bool) (xs ys : List Text) → IsTrue (list_any f (xs ++ [])) → IsTrue (list_any f (xs ++ ys))
any_more f [] ys h = absurd (true≢false (sym h))
any_more f (x ∷ xs) ys h = or_onto (f x) (list_any f (xs ++ [])) (list_any f (xs ++ ys)) (any_more f xs ys) h

pub check_spares : (c : Configuration) (bundle : Text) → SparesThese (helper_spares c []) (check_child c bundle)
check_spares c bundle = record {
  class = refl;
  disks = λ path h. h;
  files = λ path h. any_more (λ p. is_within p path) (option_to_list c.status_file) (mount_point c ∷ []) h;
  boot = λ h. h;
}

-- a child that is no boot program spares what it says
pub own_spares : (child : Child) → is_boot child.class ≡ false → SparesThese child.spares child
own_spares child none = record { class = none; disks = λ path h. h; files = λ path h. h; boot = λ h. h }

-- the one child that was run
pub ran_one : (child : Child) (ended : Ended) (a b : Past) → OneRun child ended a b → RanAll (child ∷ []) a b
ran_one child ended a b run = (record { child = child; exit = run.exit } ∷ [], refl, run.runs)

-- the check did not succeed, or gave no end
pub ends_unchecked : (conf : Configuration) (bundle : Text) (a b : Past) (why : Stop MountRefusal) → StepEnds {T = Unit {0}} (check_child conf bundle) Untrusted a b (Err why) → MountEnds conf bundle a b (Err why)
ends_unchecked conf bundle a b (stop.Refused r) h =
    subst (λ (x : MountRefusal). MountEnds conf bundle a b (Err (stop.Refused x))) (sym h.3) (h.1, h.2)
ends_unchecked conf bundle a b (stop.Outside kind) h = (inl h.0, h.1)
ends_unchecked conf bundle a b stop.NoMemory h = inl h

-- it did, and then the mount
pub ends_checked : (conf : Configuration) (bundle : Text) (a b c : Past) (result : Result Mounted (Stop MountRefusal)) → OneRun (check_child conf bundle) succeeded a b → StepEnds (mount_child conf bundle) MountFailed b c result → MountEnds conf bundle a c result
ends_checked conf bundle a b c (Ok mounted) first h = record { between = b; one = first; two = h }
ends_checked conf bundle a b c (Err (stop.Refused r)) first h =
    subst (λ (x : MountRefusal). MountEnds conf bundle a c (Err (stop.Refused x))) (sym h.3)
    (record { between = b; one = first; two = h.1 }, h.2)
ends_checked conf bundle a b c (Err (stop.Outside kind)) first h = (inr (b, first, h.0), h.1)
ends_checked conf bundle a b c (Err stop.NoMemory) first h = inr (subst (λ (p : Past). OneRun (check_child conf bundle) succeeded a p) (sym h) first)
