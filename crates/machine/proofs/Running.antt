-- Children that are run one after another, and what they leave alone.
use Rattle.std.proofs.Common.{◌≡◌, ◌||◌, ℕ, Bool, true, false, List, [], ◌∷◌, ◌++◌, Option, Result, IsTrue, refl, sym, ◌∙◌, ap, subst, arith, append_assoc, slice_get}
use Rattle.std.proofs.lemmas.List.{append-nil, map-append}
use Rattle.std.specs.Option.{option_and_then}
use Rattle.machine.specs.declared.calls.RunStop.{RunStop}
use Rattle.machine.specs.declared.world.Child.{Child}
use Rattle.machine.specs.declared.world.Exit.{Exit}
use Rattle.machine.specs.declared.world.Named.{Named}
use Rattle.machine.specs.declared.world.RunNote.{RunNote}
use Rattle.machine.specs.declared.world.Span.{Span}
use Rattle.machine.specs.declared.world.Spares.{Spares}
use Rattle.machine.specs.declared.world.World.{World}
use Rattle.machine.specs.Calls.{RunEnds}
use Rattle.machine.specs.World.{bytes_under}
use Rattle.machine.specs.Crash.{Crash, is_in}
use Rattle.machine.specs.Frames.{IsRead, OnlyReads}
use Rattle.machine.specs.Past.{Past, Held, world_now}
use Rattle.machine.specs.Runs.{LeftAlone, LeftByAStop, OnlyRuns, RanAll, RunsFirst, SparesThese, children_in}
use Rattle.machine.specs.Spares.{Spared, has_file, is_kernels, spans_of, spares_file}
use Rattle.machine.proofs.Moments.{always_joins, always_now, always_start, always_weaker, held_of}
use Rattle.machine.proofs.Sparing.{always_run, is_in-spans_of, leaves_spared}

or_onto : (a b c : Bool) → (IsTrue b → IsTrue c) → IsTrue (a || b) → IsTrue (a || c)
or_onto true b c f h = refl
or_onto false b c f h = f h

-- ---- which were run

pub runs_first_none : (children : List Child) (w v : World) → v.runs ≡ w.runs → RunsFirst children w v
runs_first_none children w v same = record { notes = []; later = children; runs = same ∙ sym (append-nil w.runs); order = refl }

pub runs_first_one : (child : Child) (exit : Exit) (w v : World) → v.runs ≡ w.runs ++ record { child = child; exit = exit } ∷ [] → RunsFirst (child ∷ []) w v
runs_first_one child exit w v runs = record { notes = record { child = child; exit = exit } ∷ []; later = []; runs = runs; order = refl }

runs_first_wider : (first second : List Child) (w v : World) → RunsFirst first w v → RunsFirst (first ++ second) w v
runs_first_wider first second w v ran = record {
  notes = ran.notes;
  later = ran.later ++ second;
  runs = ran.runs;
  order = ap (λ (cs : List Child). cs ++ second) ran.order ∙ append_assoc (children_in ran.notes) ran.later second;
}

-- all of the first were run, and then some of the second
runs_first_joins : (first second : List Child) (notes : List RunNote) (u v w : World) → children_in notes ≡ first → v.runs ≡ u.runs ++ notes → RunsFirst second v w → RunsFirst (first ++ second) u w
runs_first_joins first second notes u v w all exact ran = record {
  notes = notes ++ ran.notes;
  later = ran.later;
  runs = ran.runs ∙ ap (λ (rs : List RunNote). rs ++ ran.notes) exact ∙ append_assoc u.runs notes ran.notes;
  order =
      ap (λ (cs : List Child). cs ++ second) (sym all)
      ∙ ap (λ (cs : List Child). children_in notes ++ cs) ran.order
      ∙ sym (append_assoc (children_in notes) (children_in ran.notes) ran.later)
      ∙ ap (λ (cs : List Child). cs ++ ran.later) (sym (map-append (λ (n : RunNote). n.child) notes ran.notes));
}

-- ---- what is left alone

-- nothing was done but reads
left_alone_read : (spares : Spares) (children : List Child) (w v : World) → IsRead w v → LeftAlone spares children w v
left_alone_read spares children w v read =
    subst (λ (x : World). LeftAlone spares children w x) (sym read.same) (record {
      runs = runs_first_none children w (record w { fetched = v.fetched }) refl;
      writes = refl;
      fetched = read.fetched;
      lengths = λ path. refl;
      disks = λ path spared. refl;
      pending = λ path spared. refl;
      files = λ path spared. refl;
      vars = λ spared. refl;
    })

pub left_alone_refl : (spares : Spares) (children : List Child) (w : World) → LeftAlone spares children w w
left_alone_refl spares children w = left_alone_read spares children w w (record { same = refl; fetched = omega arith })

left_alone_wider : (spares : Spares) (first second : List Child) (w v : World) → LeftAlone spares first w v → LeftAlone spares (first ++ second) w v
left_alone_wider spares first second w v left = record {
  runs = runs_first_wider first second w v left.runs;
  writes = left.writes;
  fetched = left.fetched;
  lengths = left.lengths;
  disks = left.disks;
  pending = left.pending;
  files = left.files;
  vars = left.vars;
}

left_alone_trans : (spares : Spares) (first second : List Child) (notes : List RunNote) (u v w : World) → children_in notes ≡ first → v.runs ≡ u.runs ++ notes → LeftAlone spares first u v → LeftAlone spares second v w → LeftAlone spares (first ++ second) u w
left_alone_trans spares first second notes u v w all exact uv vw = record {
  runs = runs_first_joins first second notes u v w all exact vw.runs;
  writes = vw.writes ∙ uv.writes;
  fetched = omega (arith, uv.fetched, vw.fetched);
  lengths = λ path. vw.lengths path ∙ uv.lengths path;
  disks = λ path spared. vw.disks path spared ∙ uv.disks path spared;
  pending = λ path spared. vw.pending path spared ∙ uv.pending path spared;
  files = λ path spared. vw.files path spared ∙ uv.files path spared;
  vars = λ spared. vw.vars spared ∙ uv.vars spared;
}

file_spared : (spares : Spares) (child : Child) (path : List ℕ) → SparesThese spares child → IsTrue (is_kernels path || has_file spares path) → IsTrue (spares_file child path)
file_spared spares child path these h =
    or_onto (is_kernels path) (has_file spares path) (has_file child.spares path) (these.files path) h

-- a child that spares these
left_alone_spared : (spares : Spares) (children : List Child) (child : Child) (w v : World) → SparesThese spares child → Spared child w v → RunsFirst children w v → LeftAlone spares children w v
left_alone_spared spares children child w v these spared runs = record {
  runs = runs;
  writes = spared.writes;
  fetched = omega (arith, spared.fetched);
  lengths = spared.lengths;
  disks = λ path is. spared.disks path (these.disks path is);
  pending = λ path is. spared.pending path (these.disks path is);
  files = λ path is. spared.files path (file_spared spares child path these is);
  vars = λ is. spared.vars (these.boot is);
}

-- ---- one after another

pub only_runs_none : (t : Bool) (spares : Spares) (children : List Child) (a : Past) → OnlyRuns t spares children a a
only_runs_none t spares children a = record { all = λ told. always_start a (LeftAlone spares children (world_now a)) (left_alone_refl spares children (world_now a)) }

pub only_runs_wider : (t : Bool) (spares : Spares) (first second : List Child) (a b : Past) → OnlyRuns t spares first a b → OnlyRuns t spares (first ++ second) a b
only_runs_wider t spares first second a b ab = record {
  all = λ told. always_weaker a b (LeftAlone spares first (world_now a)) (LeftAlone spares (first ++ second) (world_now a)) (λ u h. left_alone_wider spares first second (world_now a) u h) (ab.all told);
}

pub only_runs_join : (t : Bool) (spares : Spares) (first second : List Child) (a b c : Past) → (IsTrue t → RanAll first a b) → OnlyRuns t spares first a b → OnlyRuns t spares second b c → OnlyRuns t spares (first ++ second) a c
only_runs_join t spares first second a b c all ab bc = record {
  all = λ told.
      let left = ab.all told in
      let ran = all told in
      always_joins a b c (LeftAlone spares (first ++ second) (world_now a))
      (always_weaker a b (LeftAlone spares first (world_now a)) (LeftAlone spares (first ++ second) (world_now a)) (λ u h. left_alone_wider spares first second (world_now a) u h) left)
      (always_weaker b c (LeftAlone spares second (world_now b)) (LeftAlone spares (first ++ second) (world_now a)) (λ u h. left_alone_trans spares first second ran.0 (world_now a) (world_now b) u ran.1 ran.2 (always_now a b (LeftAlone spares first (world_now a)) left) h) (bc.all told));
}

pub only_runs_reads : (t : Bool) (spares : Spares) (children : List Child) (a b : Past) → OnlyReads t a b → OnlyRuns t spares children a b
only_runs_reads t spares children a b reads = record {
  all = λ told. always_weaker a b (IsRead (world_now a)) (LeftAlone spares children (world_now a)) (λ u h. left_alone_read spares children (world_now a) u h) (reads.all told);
}

-- the run of a child that spares these, however it ended
pub only_runs_run : (t : Bool) (spares : Spares) (child : Child) (a b : Past) (result : Result Exit RunStop) → SparesThese spares child → (IsTrue t → RunEnds a b child result) → OnlyRuns t spares (child ∷ []) a b
only_runs_run t spares child a b result these ends = record {
  all = λ told.
      always_run a b child (LeftAlone spares (child ∷ []) (world_now a)) result (ends told) (left_alone_refl spares (child ∷ []) (world_now a))
      (λ u h. left_alone_spared spares (child ∷ []) child (world_now a) u these (leaves_spared child.class a.boot child (world_now a) u these.class h.0) (runs_first_none (child ∷ []) (world_now a) u h.1))
      (λ exit v h. left_alone_spared spares (child ∷ []) child (world_now a) v these (leaves_spared child.class a.boot child (world_now a) v these.class h.0) (runs_first_one child exit (world_now a) v h.1));
}

-- the children of both
pub ran_joins : (first second : List Child) (a b c : Past) → RanAll first a b → RanAll second b c → RanAll (first ++ second) a c
ran_joins first second a b c ab bc = (
  ab.0 ++ bc.0,
  map-append (λ (n : RunNote). n.child) ab.0 bc.0 ∙ ap (λ (cs : List Child). cs ++ children_in bc.0) ab.1 ∙ ap (λ (cs : List Child). first ++ cs) bc.1,
  bc.2 ∙ ap (λ (rs : List RunNote). rs ++ bc.0) ab.2 ∙ append_assoc (world_now a).runs ab.0 bc.0,
)

pub ran_none : (a b : Past) → (world_now b).runs ≡ (world_now a).runs → RanAll [] a b
ran_none a b same = ([], refl, same ∙ sym (append-nil (world_now a).runs))

-- ---- what a stop leaves

still : (old u : World) (path : List ℕ) (i : ℕ) → spans_of u.pending path ≡ spans_of old.pending path → is_in old.pending path i ≡ false → is_in u.pending path i ≡ false
still old u path i same none =
    sym (is_in-spans_of u.pending path i) ∙ ap (λ (ss : List Span). is_in ss path i) same ∙ is_in-spans_of old.pending path i ∙ none

pub left_by_a_stop : (spares : Spares) (children : List Child) (old u v : World) → LeftAlone spares children old u → Crash u v → LeftByAStop spares children old v
left_by_a_stop spares children old u v left crash = record {
  runs = record { notes = left.runs.notes; later = left.runs.later; runs = crash.runs ∙ left.runs.runs; order = left.runs.order };
  writes = crash.writes ∙ left.writes;
  lengths = λ path. crash.lengths path ∙ left.lengths path;
  bytes = λ path is i none.
      crash.bytes path i (still old u path i (left.pending path is) none)
      ∙ ap (λ (there : Option (List ℕ)). option_and_then (λ bytes. slice_get bytes i) there) (left.disks path is);
  files = λ path is. ap (λ (ns : List Named). bytes_under ns path) crash.files ∙ left.files path is;
  vars = λ is. crash.vars ∙ left.vars is;
}

pub only_runs_stop : (t : Bool) (spares : Spares) (children : List Child) (a b : Past) → OnlyRuns t spares children a b → IsTrue t → (v : World) → Held a b v → LeftByAStop spares children (world_now a) v
only_runs_stop t spares children a b only told v held =
    held_of a b (LeftAlone spares children (world_now a)) (LeftByAStop spares children (world_now a)) (only.all told) (λ u v h crash. left_by_a_stop spares children (world_now a) u v h crash) v held
