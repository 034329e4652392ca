-- What children and replacements leave, and how it joins.
use Rattle.std.proofs.Common.{◌≡◌, ◌≢◌, ◌⊎◌, inl, inr, IsTrue, ℕ, Bool, true, false, cond, ◌||◌, List, [], ◌∷◌, filter, Option, Some, Result, Ok, Err, refl, sym, ◌∙◌, ap, subst}
use Rattle.std.specs.Prelude.{bytes_eq}
use Rattle.std.proofs.lemmas.Bool.{true≢false}
use Rattle.std.proofs.lemmas.Slice.Eq.{bytes_eq-Decides}
use Rattle.boot_model.specs.declared.boot_kind.BootKind.{BootKind}
use Rattle.machine.specs.declared.world.Child.{Child}
use Rattle.machine.specs.declared.world.ChildClass.{ChildClass}
use Rattle.machine.specs.declared.world.ChildClass.TheVariants.{Boot, Helper, Handler, Hook}
use Rattle.machine.specs.declared.world.Ended.{Ended}
use Rattle.machine.specs.declared.world.Ended.TheVariants.{Code}
use Rattle.machine.specs.declared.world.Exit.{Exit}
use Rattle.machine.specs.declared.world.Named.{Named}
use Rattle.machine.specs.declared.world.Span.{Span}
use Rattle.machine.specs.declared.world.World.{World}
use Rattle.machine.specs.declared.calls.RunStop.{RunStop}
use Rattle.machine.specs.declared.calls.RunStop.TheVariants as run
use Rattle.machine.specs.World.{bytes_under, file, put_under, with_file}
use Rattle.machine.specs.Crash.{covers, is_in}
use Rattle.machine.specs.Spares.{Spared, is_boot, spans_of}
use Rattle.machine.specs.Leaves.{BootLeaves, Leaves, Serves, program_vars}
use Rattle.machine.specs.Frames.{ReplacesOnly}
use Rattle.machine.specs.Past.{Past, After, End, Replace, Run, Done, Broken, Overlong, Inside, IsRun, Always, world_now}
use Rattle.machine.specs.declared.calls.CallStop.{CallStop}
use Rattle.machine.specs.Calls.{Ends, RunEnds}
use Rattle.machine.proofs.Moments.{always_did, always_ends, always_start}
use Rattle.machine.proofs.Worlds.{bytes_eq_other}

-- a child may change nothing at all, and what two children leave joins
pub spared_refl : (child : Child) (w : World) → Spared child w w
spared_refl child w = record {
  writes = refl;
  fetched = refl;
  lengths = λ path. refl;
  disks = λ path spares. refl;
  pending = λ path spares. refl;
  files = λ path spares. refl;
  vars = λ spares. refl;
}

pub spared_trans : (child : Child) (u v w : World) → Spared child u v → Spared child v w → Spared child u w
spared_trans child u v w uv vw = record {
  writes = vw.writes ∙ uv.writes;
  fetched = vw.fetched ∙ uv.fetched;
  lengths = λ path. vw.lengths path ∙ uv.lengths path;
  disks = λ path spares. vw.disks path spares ∙ uv.disks path spares;
  pending = λ path spares. vw.pending path spares ∙ uv.pending path spares;
  files = λ path spares. vw.files path spares ∙ uv.files path spares;
  vars = λ spares. vw.vars spares ∙ uv.vars spares;
}

-- what a child leaves that is no boot program
pub leaves_spared : (class : ChildClass) (boot : BootKind) (child : Child) (w v : World) → is_boot class ≡ false → Leaves class boot child w v → Spared child w v
leaves_spared Boot boot child w v none left = absurd (true≢false none)
leaves_spared Helper boot child w v none left = left
leaves_spared Handler boot child w v none left = left
leaves_spared Hook boot child w v none left = left

pub spared_leaves : (class : ChildClass) (boot : BootKind) (child : Child) (w v : World) → is_boot class ≡ false → Spared child w v → Leaves class boot child w v
spared_leaves Boot boot child w v none spared = absurd (true≢false none)
spared_leaves Helper boot child w v none spared = spared
spared_leaves Handler boot child w v none spared = spared
spared_leaves Hook boot child w v none spared = spared

pub others_serve : (class : ChildClass) (boot : BootKind) (child : Child) (ended : Ended) (w v : World) → is_boot class ≡ false → Serves class boot child ended w v
others_serve Boot boot child ended w v none = absurd (true≢false none)
others_serve Helper boot child ended w v none = tt
others_serve Handler boot child ended w v none = tt
others_serve Hook boot child ended w v none = tt

-- what a boot program leaves
pub boot_leaves : (class : ChildClass) (boot : BootKind) (child : Child) (w v : World) → is_boot class ≡ true → BootLeaves boot child w v → Leaves class boot child w v
boot_leaves Boot boot child w v class left = left
boot_leaves Helper boot child w v class left = absurd (true≢false (sym class))
boot_leaves Handler boot child w v class left = absurd (true≢false (sym class))
boot_leaves Hook boot child w v class left = absurd (true≢false (sym class))

pub boot_class_serves : (class : ChildClass) (boot : BootKind) (child : Child) (ended : Ended) (w v : World) → is_boot class ≡ true → (ended ≡ Code 0 → v.vars ≡ program_vars boot child w.vars) → Serves class boot child ended w v
boot_class_serves Boot boot child ended w v class served = served
boot_class_serves Helper boot child ended w v class served = tt
boot_class_serves Handler boot child ended w v class served = tt
boot_class_serves Hook boot child ended w v class served = tt

-- a child may change nothing at all
pub leaves_refl : (class : ChildClass) (boot : BootKind) (child : Child) (w : World) → Leaves class boot child w w
leaves_refl Boot boot child w = record { rest = refl; vars = inl refl }
leaves_refl Helper boot child w = spared_refl child w
leaves_refl Handler boot child w = spared_refl child w
leaves_refl Hook boot child w = spared_refl child w

-- whether a byte is pending shows in the spans of its path
pub is_in-spans_of : (spans : List Span) (path : List ℕ) (i : ℕ) → is_in (spans_of spans path) path i ≡ is_in spans path i
is_in-spans_of [] path i = refl
is_in-spans_of (s ∷ ss) path i =
    elim (bytes_eq s.path path) as (λ b. bytes_eq s.path path ≡ b → is_in (cond b (s ∷ spans_of ss path) (spans_of ss path)) path i ≡ (covers s path i || is_in ss path i)) [
      | true ↦ λ e. ap (λ (b : Bool). covers s path i || b) (is_in-spans_of ss path i)
      | false ↦ λ e. rw e (is_in-spans_of ss path i)
    ] refl

-- the run of a child, however it ended
pub always_run : (a b : Past) (child : Child) (P : World → Type 0) (result : Result Exit RunStop) → RunEnds a b child result → P (world_now a) → ((u : World) → Inside a.boot (Run child) (world_now a) u → P u) → ((exit : Exit) (v : World) → IsRun a.boot child exit (world_now a) v → P v) → Always a b P
always_run a b child P (Ok exit) ends here inside after =
    always_did a b (Run child) Done P ends.0 here inside (after ends.0.after.0 (world_now b) ends.0.after.1)
always_run a b child P (Err run.Failed) did here inside after =
    always_did a b (Run child) Broken P did here inside (inside (world_now b) did.after)
always_run a b child P (Err run.NoMemory) same here inside after = subst (λ (q : Past). Always a q P) (sym same) (always_start a P here)

-- the replacement of a file, however it ended
replaced : (boot : BootKind) (path bytes : List ℕ) (w : World) (end : End) (v : World) → After boot (Replace path bytes) end w v → (v ≡ w) ⊎ (v ≡ with_file w path bytes)
replaced boot path bytes w Done v h = inr h
replaced boot path bytes w Broken v h = h
replaced boot path bytes w Overlong v h = inl h

pub replaces_only : {T : Type 0} (t : Bool) (a b : Past) (path bytes : List ℕ) (result : Result T CallStop) → (IsTrue t → Ends a b (Replace path bytes) result) → ReplacesOnly t path bytes a b
replaces_only t a b path bytes result ends = record {
  all = λ told.
      always_ends a b (Replace path bytes) (λ u. (u ≡ world_now a) ⊎ (u ≡ with_file (world_now a) path bytes)) result (ends told) (inl refl) (λ u h. h) (λ end v h. replaced a.boot path bytes (world_now a) end v h);
}

-- what stands under a path after bytes were put
pub bytes_under-put_same : (ns : List Named) (p bytes : List ℕ) → bytes_under (put_under ns p bytes) p ≡ Some bytes
bytes_under-put_same [] p bytes = rw ((bytes_eq-Decides p p).1 refl) refl
bytes_under-put_same (n ∷ ns) p bytes =
    elim (bytes_eq n.path p) as (λ b. bytes_eq n.path p ≡ b → bytes_under (cond b (record n { bytes = bytes } ∷ ns) (n ∷ put_under ns p bytes)) p ≡ Some bytes) [
      | true ↦ λ e. rw e refl
      | false ↦ λ e. rw e (bytes_under-put_same ns p bytes)
    ] refl

pub bytes_under-put_other : (ns : List Named) (p q bytes : List ℕ) → q ≢ p → bytes_under (put_under ns p bytes) q ≡ bytes_under ns q
bytes_under-put_other [] p q bytes ne = rw (bytes_eq_other p q (λ h. ne (sym h))) refl
bytes_under-put_other (n ∷ ns) p q bytes ne =
    elim (bytes_eq n.path p) as (λ b. bytes_eq n.path p ≡ b → bytes_under (cond b (record n { bytes = bytes } ∷ ns) (n ∷ put_under ns p bytes)) q ≡ bytes_under (n ∷ ns) q) [
      | true ↦ λ e.
          let is = (bytes_eq-Decides n.path p).0 e in
          let other = bytes_eq_other n.path q (λ h. ne (sym h ∙ is)) in
          rw other refl
      | false ↦ λ e. ap (λ (o : Option (List ℕ)). cond (bytes_eq n.path q) (Some n.bytes) o) (bytes_under-put_other ns p q bytes ne)
    ] refl

-- a file that was replaced, and every other
pub file-replaced : (w : World) (p bytes : List ℕ) → file (with_file w p bytes) p ≡ Some bytes
unfolding with_file
file-replaced w p bytes = bytes_under-put_same w.files p bytes

pub file-replaced_other : (w : World) (p q bytes : List ℕ) → q ≢ p → file (with_file w p bytes) q ≡ file w q
unfolding with_file
file-replaced_other w p q bytes ne = bytes_under-put_other w.files p q bytes ne

-- what stands under a path of which nothing is dropped
pub bytes_under-filter : (keeps : List ℕ → Bool) (ns : List Named) (p : List ℕ) → keeps p ≡ true → bytes_under (filter (λ n. keeps n.path) ns) p ≡ bytes_under ns p
bytes_under-filter keeps [] p kept = refl
bytes_under-filter keeps (n ∷ ns) p kept =
    elim (keeps n.path) as (λ b. keeps n.path ≡ b → bytes_under (cond b (n ∷ filter (λ m. keeps m.path) ns) (filter (λ m. keeps m.path) ns)) p ≡ bytes_under (n ∷ ns) p) [
      | true ↦ λ e. ap (λ (o : Option (List ℕ)). cond (bytes_eq n.path p) (Some n.bytes) o) (bytes_under-filter keeps ns p kept)
      | false ↦ λ e.
          let other = bytes_eq_other n.path p (λ same. true≢false (sym kept ∙ ap keeps (sym same) ∙ e)) in
          rw other (bytes_under-filter keeps ns p kept)
    ] refl
