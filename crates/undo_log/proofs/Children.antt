-- What children do: they leave alone what they must, and it is taken back.
use Rattle.std.proofs.Common.{◌≡◌, ◌≢◌, ◌⊎◌, inl, inr, ⊎_elim, ℕ, ◌+◌, ◌==◌, ◌≤◌, Bool, true, false, not, cond, ◌||◌, List, [], ◌∷◌, ◌++◌, length, take, drop, Option, Some, None, refl, sym, ◌∙◌, ap, subst, arith}
use Rattle.std.specs.Prelude.{bytes_eq, is_some, nat_eq, nat_le, unwrap_or}
use Rattle.std.specs.Option.{option_map, option_map_or}
use Rattle.std.specs.List.{starts_with}
use Rattle.std.proofs.lemmas.Bool.{true≢false, leb-true}
use Rattle.boot_model.specs.declared.boot_kind.BootKind.{BootKind}
use Rattle.boot_model.specs.Vars.{Variables}
use Rattle.machine.specs.declared.world.Named.{Named}
use Rattle.machine.specs.declared.world.Span.{Span}
use Rattle.machine.specs.declared.world.Child.{Child}
use Rattle.machine.specs.declared.world.Ended.{Ended}
use Rattle.machine.specs.declared.world.Ended.TheVariants.{Code, Signal}
use Rattle.machine.specs.declared.world.Exit.{Exit}
use Rattle.machine.specs.declared.world.World.{World}
use Rattle.machine.specs.World.{bytes_under, disk, disk_length, with_file, with_write, HoldsUpTo}
use Rattle.machine.specs.Spares.{Spared, has_disk, is_boot, spans_of, spares_file}
use Rattle.machine.specs.Leaves.{BootLeaves, program_vars}
use Rattle.machine.specs.Past.{Run, Done, After, but_last}
use Rattle.machine.proofs.Only.{bytes_of, disk-written_other, only_written}
use Rattle.machine.proofs.Sparing.{boot_class_serves, boot_leaves, bytes_under-filter, file-replaced_other, others_serve, spared_leaves, spared_refl, spared_trans}
use Rattle.machine.proofs.Worlds.{bytes_eq_other}
use Rattle.undo_log.specs.declared.effect.Effect.{Effect}
use Rattle.undo_log.specs.declared.effect.Effect.TheVariants.{PutFile, DropFiles, WriteDisk}
use Rattle.undo_log.specs.declared.notes.Change.TheVariants as change
use Rattle.undo_log.specs.Effects.{after_effects, after_disk_write, without_files, after_effect, after_file_put, has_room, keeps_file, vars_left, with_boot_run, with_run, with_child_write}
use Rattle.undo_log.specs.Undo.{world_before}
use Rattle.undo_log.proofs.Noting.{but_last-push, put_back, room_again}

-- a test that holds says so of the disk
pub holds_is : (w : World) (path : List ℕ) (end : ℕ) → has_room w path end ≡ true → HoldsUpTo w path end
holds_is w path end h = of (disk_length w path) end h
  where
    of : (o : Option ℕ) (end : ℕ) → option_map_or (λ room. nat_le end room) o false ≡ true → (room : ℕ) × (o ≡ Some room) × (end ≤ room)
    of None end h = absurd (true≢false (sym h))
    of (Some room) end h = (room, refl, leb-true end room h)

pub is_held : (w : World) (path : List ℕ) (end : ℕ) → HoldsUpTo w path end → has_room w path end ≡ true
is_held w path end room = room_again w path end room.0 room.1 room.2

-- the bytes of a disk that has room for a range
pub room_bytes : (w : World) (ns : List Named) (path : List ℕ) (end : ℕ) → ns ≡ w.disks → has_room w path end ≡ true → (bytes : List ℕ) × (bytes_under ns path ≡ Some bytes) × (end ≤ length bytes)
room_bytes w ns path end given room =
    let long = holds_is w path end room in
    let there = bytes_of (disk w path) long.0 long.1 in
    (there.0, ap (λ (ds : List Named). bytes_under ds path) given ∙ there.1, omega (arith, long.2, there.2))

-- of two tests of which neither holds
neither : (x y : Bool) → (x || y) ≡ false → (x ≡ false) × (y ≡ false)
neither true y h = absurd (true≢false h)
neither false y h = (refl, h)

either_left : (x y : Bool) → x ≡ true → (x || y) ≡ true
either_left true y h = refl
either_left false y h = absurd (true≢false (sym h))

not_false : (x : Bool) → not x ≡ false → x ≡ true
not_false true h = refl
not_false false h = absurd (true≢false h)

-- the spans of other paths
spans_of-other : (spans : List Span) (s : Span) (path : List ℕ) → bytes_eq s.path path ≡ false → spans_of (spans ++ s ∷ []) path ≡ spans_of spans path
spans_of-other [] s path other = rw other refl
spans_of-other (x ∷ spans) s path other =
    elim (bytes_eq x.path path) as (λ b. cond b (x ∷ spans_of (spans ++ s ∷ []) path) (spans_of (spans ++ s ∷ []) path) ≡ cond b (x ∷ spans_of spans path) (spans_of spans path)) [
      | true ↦ ap (λ (ss : List Span). x ∷ ss) (spans_of-other spans s path other)
      | false ↦ spans_of-other spans s path other
    ]

-- the effects, one by one
spared_replaced : (child : Child) (path bytes : List ℕ) (w : World) → spares_file child path ≡ false → Spared child w (with_file w path bytes)
unfolding with_file
spared_replaced child path bytes w free = record {
  writes = refl;
  fetched = refl;
  lengths = λ p. refl;
  disks = λ p spares. refl;
  pending = λ p spares. refl;
  files = λ p spares. file-replaced_other w path p bytes (λ same. true≢false (sym spares ∙ ap (λ q. spares_file child q) same ∙ free));
  vars = λ spares. refl;
}

spared_put : (child : Child) (path bytes : List ℕ) (w : World) → Spared child w (after_file_put child path bytes w)
spared_put child path bytes w =
    elim (spares_file child path || is_some (disk w path)) as (λ b. (spares_file child path || is_some (disk w path)) ≡ b → Spared child w (cond b w (with_file w path bytes))) [
      | true ↦ λ e. spared_refl child w
      | false ↦ λ e. spared_replaced child path bytes w (neither (spares_file child path) (is_some (disk w path)) e).0
    ] refl

spared_dropped : (child : Child) (prefix : List ℕ) (w : World) → Spared child w (without_files w child prefix)
unfolding without_files
spared_dropped child prefix w = record {
  writes = refl;
  fetched = refl;
  lengths = λ p. refl;
  disks = λ p spares. refl;
  pending = λ p spares. refl;
  files = λ p spares. bytes_under-filter (λ q. keeps_file child prefix q) w.files p (either_left (spares_file child p) (not (starts_with nat_eq p prefix)) spares);
  vars = λ spares. refl;
}

module _ (child : Child) (path : List ℕ) (at : ℕ) (bytes : List ℕ) (w : World) (free : has_disk child.spares path ≡ false) where
  other_path : (p : List ℕ) → has_disk child.spares p ≡ true → p ≢ path
  other_path p spares same = true≢false (sym spares ∙ ap (λ q. has_disk child.spares q) same ∙ free)

  same_disks : (p : List ℕ) → disk (with_child_write w path at bytes) p ≡ disk (with_write w path at bytes) p
  unfolding with_child_write with_write
  same_disks p = refl

  spared_touched : HoldsUpTo w path (at + length bytes) → Spared child w (with_child_write w path at bytes)
  unfolding with_child_write
  spared_touched room = record {
    writes = refl;
    fetched = refl;
    lengths = λ p. ap (λ (o : Option (List ℕ)). option_map length o) (same_disks p) ∙ (only_written w path at (length bytes) bytes room refl).lengths p;
    disks = λ p spares. same_disks p ∙ disk-written_other w path p at bytes (other_path p spares);
    pending = λ p spares. spans_of-other w.pending (record { path = path; at = at; length = length bytes }) p (bytes_eq_other path p (λ same. other_path p spares (sym same)));
    files = λ p spares. refl;
    vars = λ spares. refl;
  }

spared_disk : (child : Child) (path : List ℕ) (at : ℕ) (bytes : List ℕ) (w : World) → Spared child w (after_disk_write child path at bytes w)
spared_disk child path at bytes w =
    elim (has_disk child.spares path || not (has_room w path (at + length bytes))) as (λ b. (has_disk child.spares path || not (has_room w path (at + length bytes))) ≡ b → Spared child w (cond b w (with_child_write w path at bytes))) [
      | true ↦ λ e. spared_refl child w
      | false ↦ λ e.
          let both = neither (has_disk child.spares path) (not (has_room w path (at + length bytes))) e in
          spared_touched child path at bytes w both.0 (holds_is w path (at + length bytes) (not_false (has_room w path (at + length bytes)) both.1))
    ] refl

spared_effect : (child : Child) (e : Effect) (w : World) → Spared child w (after_effect child e w)
spared_effect child (PutFile path bytes) w = spared_put child path bytes w
spared_effect child (DropFiles prefix) w = spared_dropped child prefix w
spared_effect child (WriteDisk path at bytes) w = spared_disk child path at bytes w

spared_effects : (child : Child) (es : List Effect) (w : World) → Spared child w (after_effects child es w)
spared_effects child [] w = spared_refl child w
spared_effects child (e ∷ es) w =
    spared_trans child w (after_effect child e w) (after_effects child es (after_effect child e w)) (spared_effect child e w) (spared_effects child es (after_effect child e w))

-- no effect is a run
runs_put : (child : Child) (path bytes : List ℕ) (w : World) → (after_file_put child path bytes w).runs ≡ w.runs
unfolding with_file
runs_put child path bytes w =
    elim (spares_file child path || is_some (disk w path)) as (λ b. (cond b w (with_file w path bytes)).runs ≡ w.runs) [ true ↦ refl | false ↦ refl ]

runs_disk : (child : Child) (path : List ℕ) (at : ℕ) (bytes : List ℕ) (w : World) → (after_disk_write child path at bytes w).runs ≡ w.runs
unfolding with_child_write
runs_disk child path at bytes w =
    elim (has_disk child.spares path || not (has_room w path (at + length bytes))) as (λ b. (cond b w (with_child_write w path at bytes)).runs ≡ w.runs) [ true ↦ refl | false ↦ refl ]

runs_effect : (child : Child) (e : Effect) (w : World) → (after_effect child e w).runs ≡ w.runs
unfolding without_files
runs_effect child (PutFile path bytes) w = runs_put child path bytes w
runs_effect child (DropFiles prefix) w = refl
runs_effect child (WriteDisk path at bytes) w = runs_disk child path at bytes w

runs_effects : (child : Child) (es : List Effect) (w : World) → (after_effects child es w).runs ≡ w.runs
runs_effects child [] w = refl
runs_effects child (e ∷ es) w = runs_effects child es (after_effect child e w) ∙ runs_effect child e w

-- a child that was run
spared_noted : (child : Child) (exit : Exit) (w : World) → Spared child w (with_run w child exit)
unfolding with_run
spared_noted child exit w = record {
  writes = refl;
  fetched = refl;
  lengths = λ p. refl;
  disks = λ p spares. refl;
  pending = λ p spares. refl;
  files = λ p spares. refl;
  vars = λ spares. refl;
}

runs_noted : (child : Child) (exit : Exit) (w : World) → (with_run w child exit).runs ≡ w.runs ++ record { child = child; exit = exit } ∷ []
unfolding with_run
runs_noted child exit w = refl

pub runs_ran : (child : Child) (exit : Exit) (es : List Effect) (w : World) → (after_effects child es (with_run w child exit)).runs ≡ w.runs ++ record { child = child; exit = exit } ∷ []
runs_ran child exit es w = runs_effects child es (with_run w child exit) ∙ runs_noted child exit w

pub after_ran : (boot : BootKind) (child : Child) (exit : Exit) (es : List Effect) (w v : World) → is_boot child.class ≡ false → v ≡ after_effects child es (with_run w child exit) → After boot (Run child) Done w v
after_ran boot child exit es w v none is = subst (λ (u : World). After boot (Run child) Done w u) (sym is) (
  exit,
  (
    spared_leaves child.class boot child w (after_effects child es (with_run w child exit)) none
        (spared_trans child w (with_run w child exit) (after_effects child es (with_run w child exit)) (spared_noted child exit w) (spared_effects child es (with_run w child exit))),
    runs_ran child exit es w,
    others_serve child.class boot child exit.ended w (after_effects child es (with_run w child exit)) none,
  ),
)

-- a boot program that was run
vars_either : (ended : Ended) (new old : Variables) → (vars_left ended new old ≡ old) ⊎ (vars_left ended new old ≡ new)
vars_either (Code code) new old = elim (code == 0) as (λ b. (cond b new old ≡ old) ⊎ (cond b new old ≡ new)) [ true ↦ inr refl | false ↦ inl refl ]
vars_either Signal new old = inl refl

vars_served : (ended : Ended) (new old : Variables) → ended ≡ Code 0 → vars_left ended new old ≡ new
vars_served ended new old is = ap (λ (e : Ended). vars_left e new old) is

boot_ran : (boot : BootKind) (child : Child) (exit : Exit) (new : Variables) (w : World) → new ≡ program_vars boot child w.vars → BootLeaves boot child w (with_boot_run w child exit new)
unfolding with_boot_run
boot_ran boot child exit new w are = record {
  rest = refl;
  vars = ⊎_elim (λ e. inl e) (λ e. inr (e ∙ are)) (vars_either exit.ended new w.vars);
}

pub boot_serves : (boot : BootKind) (child : Child) (exit : Exit) (new : Variables) (w : World) → new ≡ program_vars boot child w.vars → exit.ended ≡ Code 0 → (with_boot_run w child exit new).vars ≡ program_vars boot child w.vars
unfolding with_boot_run
boot_serves boot child exit new w are is = vars_served exit.ended new w.vars is ∙ are

pub boot_runs : (child : Child) (exit : Exit) (new : Variables) (w : World) → (with_boot_run w child exit new).runs ≡ w.runs ++ record { child = child; exit = exit } ∷ []
unfolding with_boot_run
boot_runs child exit new w = refl

pub after_boot_ran : (boot : BootKind) (child : Child) (exit : Exit) (new : Variables) (w v : World) → is_boot child.class ≡ true → new ≡ program_vars boot child w.vars → v ≡ with_boot_run w child exit new → After boot (Run child) Done w v
after_boot_ran boot child exit new w v class are is = subst (λ (u : World). After boot (Run child) Done w u) (sym is) (
  exit,
  (
    boot_leaves child.class boot child w (with_boot_run w child exit new) class (boot_ran boot child exit new w are),
    boot_runs child exit new w,
    boot_class_serves child.class boot child exit.ended w (with_boot_run w child exit new) class (boot_serves boot child exit new w are),
  ),
)

-- what takes a child's write back
pub child_write_back : (w : World) (p : List ℕ) (at : ℕ) (bytes old : List ℕ) → disk w p ≡ Some old → at + length bytes ≤ length old → world_before (change.ChildWrote p at (take (length bytes) (drop at old))) (with_child_write w p at bytes) ≡ w
unfolding with_child_write
child_write_back w p at bytes old is fits =
    ap (λ (ns : List Named). record w { disks = ns; pending = but_last (w.pending ++ record { path = p; at = at; length = length bytes } ∷ []) }) (put_back w (with_child_write w p at bytes) p at bytes old is fits refl)
    ∙ ap (λ (ss : List Span). record w { pending = ss }) (but_last-push w.pending (record { path = p; at = at; length = length bytes }))

pub child_write_undone : (w w' : World) (path named : List ℕ) (at : ℕ) (bytes over : List ℕ) → HoldsUpTo w path (at + length bytes) → named ≡ path → over ≡ take (length bytes) (drop at (unwrap_or (disk w path) [])) → w' ≡ with_child_write w path at bytes → world_before (change.ChildWrote named at over) w' ≡ w
child_write_undone w w' path named at bytes over room same were is =
    let there = bytes_of (disk w path) room.0 room.1 in
    let fits : at + length bytes ≤ length there.0 = omega (arith, room.2, there.2) in
    let are : over ≡ take (length bytes) (drop at there.0) = were ∙ ap (λ (o : Option (List ℕ)). take (length bytes) (drop at (unwrap_or o []))) there.1 in
    ap (λ (p : List ℕ). world_before (change.ChildWrote p at over) w') same
    ∙ ap (λ (xs : List ℕ). world_before (change.ChildWrote path at xs) w') are
    ∙ ap (λ (u : World). world_before (change.ChildWrote path at (take (length bytes) (drop at there.0))) u) is
    ∙ child_write_back w path at bytes there.0 there.1 fits
