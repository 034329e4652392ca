-- Each change is taken back, and each call is noted with what takes it back.
use Rattle.std.proofs.Common.{◌≡◌, inr, ℕ, ◌+◌, ◌-◌, ◌≤◌, Bool, true, false, not, cond, List, [], ◌∷◌, ◌++◌, length, take, drop, filter, Option, Some, refl, sym, ◌∙◌, ap, arith, append_assoc}
use Rattle.std.specs.Prelude.{bytes_eq, is_some, nat_le, unwrap_or}
use Rattle.std.specs.Option.{option_map, option_map_or}
use Rattle.std.proofs.lemmas.Bool.Decides.{nat_tests}
use Rattle.std.proofs.lemmas.List.{drop-drop, drop_at, length-append, length-drop, length-take, length-take-le, take-append-drop, take_at}
use Rattle.machine.specs.declared.world.Child.{Child}
use Rattle.machine.specs.declared.world.Named.{Named}
use Rattle.machine.specs.declared.world.Span.{Span}
use Rattle.machine.specs.declared.world.World.{World}
use Rattle.machine.specs.World.{bytes_under, disk, disk_length, patch_at, patch_under, with_write, with_sync, with_file, with_fetched, readable, HoldsUpTo}
use Rattle.machine.specs.Past.{but_last, Read, Write, Sync, Replace, Run, Done, Broken, After}
use Rattle.machine.proofs.Only.{bytes_of}
use Rattle.machine.proofs.Worlds.{bytes_under-patch_same, length-patched}
use Rattle.undo_log.specs.declared.notes.NotedCall.TheVariants as noted
use Rattle.undo_log.specs.declared.notes.Change.{Change}
use Rattle.undo_log.specs.declared.notes.Change.TheVariants as change
use Rattle.undo_log.specs.declared.notes.NotedEnd.{NotedEnd}
use Rattle.undo_log.specs.declared.notes.NotedEnd.TheVariants as noted_end
use Rattle.undo_log.specs.declared.log.UndoLog.{UndoLog}
use Rattle.undo_log.specs.Halves.{half_new}
use Rattle.undo_log.specs.Effects.{has_room}
use Rattle.undo_log.specs.Undo.{past_end, changes_of_read, world_before_all, world_before, files_before_put, with_bytes}
use Rattle.undo_log.specs.Logged.{NotesCall, NotesWrite}
use Rattle.undo_log.proofs.Places.{same_some}

pub but_last-push : {A : Type 0} (xs : List A) (x : A) → but_last (xs ++ x ∷ []) ≡ xs
but_last-push xs x = take_at xs (x ∷ []) (length (xs ++ x ∷ []) - 1) (omega (arith, length-append xs (x ∷ [])))

module _ (old : List ℕ) (at : ℕ) (bytes : List ℕ) (fits : at + length bytes ≤ length old) where
  length_replaced : length (take (length bytes) (drop at old)) ≡ length bytes
  length_replaced = length-take-le (length bytes) (drop at old) (omega (arith, fits, length-drop at old))

  patched_back : patch_at (patch_at old at bytes) at (take (length bytes) (drop at old)) ≡ old
  patched_back =
      let front : length (take at old) ≡ at = length-take-le at old (omega arith) in
      let both : length (take at old ++ bytes) ≡ at + length bytes = omega (arith, front, length-append (take at old) bytes) in
      let first : take at (patch_at old at bytes) ≡ take at old =
      ap (λ (xs : List ℕ). take at xs) (append_assoc (take at old) bytes (drop (at + length bytes) old))
      ∙ take_at (take at old) (bytes ++ drop (at + length bytes) old) at front in
      let last : drop (at + length (take (length bytes) (drop at old))) (patch_at old at bytes) ≡ drop (at + length bytes) old =
      ap (λ (k : ℕ). drop (at + k) (patch_at old at bytes)) length_replaced
      ∙ drop_at (take at old ++ bytes) (drop (at + length bytes) old) (at + length bytes) both in
      let rest : take (length bytes) (drop at old) ++ drop (at + length bytes) old ≡ drop at old =
      ap (λ (xs : List ℕ). take (length bytes) (drop at old) ++ xs) (sym (drop-drop (length bytes) at old))
      ∙ take-append-drop (length bytes) (drop at old) in
      ap (λ (xs : List ℕ). xs ++ take (length bytes) (drop at old) ++ drop (at + length (take (length bytes) (drop at old))) (patch_at old at bytes)) first
      ∙ ap (λ (xs : List ℕ). take at old ++ take (length bytes) (drop at old) ++ xs) last
      ∙ append_assoc (take at old) (take (length bytes) (drop at old)) (drop (at + length bytes) old)
      ∙ ap (λ (xs : List ℕ). take at old ++ xs) rest
      ∙ take-append-drop at old

pub patch_back : (ns : List Named) (p : List ℕ) (at : ℕ) (bytes old : List ℕ) → bytes_under ns p ≡ Some old → at + length bytes ≤ length old → patch_under (patch_under ns p at bytes) p at (take (length bytes) (drop at old)) ≡ ns
patch_back [] p at bytes old is fits = refl
patch_back (n ∷ ns) p at bytes old is fits =
    elim (bytes_eq n.path p) as (λ b. bytes_eq n.path p ≡ b → (cond b (Some n.bytes) (bytes_under ns p) ≡ Some old) → patch_under (cond b (record n { bytes = patch_at n.bytes at bytes } ∷ ns) (n ∷ patch_under ns p at bytes)) p at (take (length bytes) (drop at old)) ≡ n ∷ ns) [
      | true ↦ λ e s.
          let same : n.bytes ≡ old = same_some n.bytes old s in
          let back : patch_at (patch_at n.bytes at bytes) at (take (length bytes) (drop at old)) ≡ n.bytes =
          ap (λ (b : List ℕ). patch_at (patch_at b at bytes) at (take (length bytes) (drop at old))) same ∙ patched_back old at bytes fits ∙ sym same in
          rw e (ap (λ (b : List ℕ). record n { bytes = b } ∷ ns) back)
      | false ↦ λ e s. rw e (ap (λ (xs : List Named). n ∷ xs) (patch_back ns p at bytes old s fits))
    ] refl is

-- a range lies on a disk as long as before
pub room_again : (w : World) (p : List ℕ) (end room : ℕ) → disk_length w p ≡ Some room → end ≤ room → has_room w p end ≡ true
room_again w p end room is le = ap (λ (o : Option ℕ). option_map_or (λ n. nat_le end n) o false) is ∙ grind (arith, nat_tests)

pub put_back : (w w' : World) (p : List ℕ) (at : ℕ) (bytes old : List ℕ) → disk w p ≡ Some old → at + length bytes ≤ length old → w'.disks ≡ patch_under w.disks p at bytes → (with_bytes w' p at (take (length bytes) (drop at old))).disks ≡ w.disks
put_back w w' p at bytes old is fits e =
    let there : disk w' p ≡ Some (patch_at old at bytes) = ap (λ (ns : List Named). bytes_under ns p) e ∙ bytes_under-patch_same w.disks p at bytes old is in
    let long : disk_length w' p ≡ Some (length old) = ap (λ (o : Option (List ℕ)). option_map length o) there ∙ ap (λ (n : ℕ). Some n) (length-patched old at bytes fits) in
    let ok = room_again w' p (at + length (take (length bytes) (drop at old))) (length old) long (omega (arith, fits, length_replaced old at bytes fits)) in
    ap (λ (b : Bool). cond b (patch_under w'.disks p at (take (length bytes) (drop at old))) w'.disks) ok
    ∙ ap (λ (ns : List Named). patch_under ns p at (take (length bytes) (drop at old))) e
    ∙ patch_back w.disks p at bytes old is fits

written_back : (w : World) (p : List ℕ) (at : ℕ) (bytes old : List ℕ) → disk w p ≡ Some old → at + length bytes ≤ length old → world_before (change.Wrote p at (take (length bytes) (drop at old))) (with_write w p at bytes) ≡ w
unfolding with_write
written_back w p at bytes old is fits =
    ap (λ (ns : List Named). record w { disks = ns; pending = but_last (w.pending ++ record { path = p; at = at; length = length bytes } ∷ []); writes = but_last (w.writes ++ record { path = p; at = at; length = length bytes } ∷ []) }) (put_back w (with_write w p at bytes) p at bytes old is fits refl)
    ∙ ap (λ (ss : List Span). record w { pending = ss; writes = but_last (w.writes ++ record { path = p; at = at; length = length bytes } ∷ []) }) (but_last-push w.pending (record { path = p; at = at; length = length bytes }))
    ∙ ap (λ (ss : List Span). record w { writes = ss }) (but_last-push w.writes (record { path = p; at = at; length = length bytes }))

-- a write
pub written_undone : (w w' : World) (path named : List ℕ) (at : ℕ) (bytes over : List ℕ) → HoldsUpTo w path (at + length bytes) → named ≡ path → over ≡ take (length bytes) (drop at (unwrap_or (disk w path) [])) → w' ≡ with_write w path at bytes → world_before (change.Wrote named at over) w' ≡ w
written_undone w w' path named at bytes over room same were is =
    let there = bytes_of (disk w path) room.0 room.1 in
    let fits : at + length bytes ≤ length there.0 = omega (arith, room.2, there.2) in
    let are : over ≡ take (length bytes) (drop at there.0) = were ∙ ap (λ (o : Option (List ℕ)). take (length bytes) (drop at (unwrap_or o []))) there.1 in
    ap (λ (p : List ℕ). world_before (change.Wrote p at over) w') same
    ∙ ap (λ (xs : List ℕ). world_before (change.Wrote path at xs) w') are
    ∙ ap (λ (u : World). world_before (change.Wrote path at (take (length bytes) (drop at there.0))) u) is
    ∙ written_back w path at bytes there.0 there.1 fits

pub noted_bytes : (old new : UndoLog) (path called : List ℕ) (at : ℕ) (from : List ℕ) (made : Change) (end : NotedEnd) → new.boot ≡ old.boot → called ≡ path → world_before made new.world ≡ old.world → new.world ≡ with_write old.world path at from → new.notes.items ≡ old.notes.items ++ record { call = noted.Write called at (length from); end = end; changes = made ∷ [] } ∷ [] → NotesWrite old new path at from end
noted_bytes old new path called at from made end boot said back left grows = record {
  note = record { call = noted.Write called at (length from); end = end; changes = made ∷ [] };
  grows = grows;
  boot = boot;
  call_is = ap (λ (p : List ℕ). Write p at (length from)) said;
  end_is = refl;
  back = back;
  left = left;
}

pub noted_write : (old new : UndoLog) (path : List ℕ) (at : ℕ) (from : List ℕ) → NotesWrite old new path at from noted_end.Done → NotesCall old new (Write path at (length from)) Done
noted_write old new path at from h = record {
  note = h.note;
  grows = h.grows;
  boot = h.boot;
  call_is = h.call_is;
  end_is = ap (λ (o : NotedEnd). past_end o) h.end_is;
  back = h.back;
  after = (from, refl, h.left);
}

pub length-half_new : (new old : List ℕ) → length old ≡ length new → length (half_new new old) ≡ length new
length-half_new new old same = simp (length-append, length-take, length-drop) (omega (arith, same))

pub noted_half : (old new : UndoLog) (path : List ℕ) (at : ℕ) (from half : List ℕ) → length half ≡ length from → NotesWrite old new path at half noted_end.Failed → NotesCall old new (Write path at (length from)) Broken
noted_half old new path at from half same h = record {
  note = h.note;
  grows = h.grows;
  boot = h.boot;
  call_is = h.call_is ∙ ap (λ (n : ℕ). Write path at n) same;
  end_is = ap (λ (o : NotedEnd). past_end o) h.end_is;
  back = h.back;
  after = inr (half, same, h.left);
}

-- as many bytes as are replaced
pub length-range : (w : World) (path : List ℕ) (at n : ℕ) → HoldsUpTo w path (at + n) → length (take n (drop at (unwrap_or (disk w path) []))) ≡ n
length-range w path at n room =
    let there = bytes_of (disk w path) room.0 room.1 in
    ap (λ (o : Option (List ℕ)). length (take n (drop at (unwrap_or o [])))) there.1
    ∙ length-take-le n (drop at there.0) (omega (arith, room.2, there.2, length-drop at there.0))

-- a read
read_back : (w : World) (p : List ℕ) (n : ℕ) → world_before_all (changes_of_read w p n) (with_fetched w p n) ≡ w
unfolding with_fetched
read_back w p n =
    elim (is_some (disk w p)) as (λ b. world_before_all (cond b [] (change.Fetched n ∷ [])) (record w { fetched = cond b w.fetched (w.fetched + n) }) ≡ w) [
      | true ↦ refl
      | false ↦ let less : w.fetched + n - n ≡ w.fetched = omega arith in ap (λ (f : ℕ). record w { fetched = f }) less
    ]

pub noted_read : (old new : UndoLog) (path : List ℕ) (count : ℕ) (changes : List Change) → new.boot ≡ old.boot → changes ≡ changes_of_read old.world path count → new.world ≡ with_fetched old.world path count → new.notes.items ≡ old.notes.items ++ record { call = noted.Read path count; end = noted_end.Done; changes = changes } ∷ [] → NotesCall old new (Read path count) Done
noted_read old new path count changes boot are left grows = record {
  note = record { call = noted.Read path count; end = noted_end.Done; changes = changes };
  grows = grows;
  boot = boot;
  call_is = refl;
  end_is = refl;
  back = ap (λ (cs : List Change). world_before_all cs new.world) are
      ∙ ap (λ (w : World). world_before_all (changes_of_read old.world path count) w) left
      ∙ read_back old.world path count;
  after = left;
}

pub same_readable : (w w' : World) (path : List ℕ) (count : ℕ) → w' ≡ with_fetched w path count → readable w' path ≡ readable w path
unfolding readable with_fetched
same_readable w w' path count is = ap (λ (u : World). readable u path) is

-- a sync
sync_back : (w : World) (p : List ℕ) → world_before (change.Synced w.pending) (with_sync w p) ≡ w
unfolding with_sync
sync_back w p = refl

synced_is : (w : World) (p : List ℕ) (kept : List Span) → kept ≡ filter (λ s. not (bytes_eq s.path p)) w.pending → record w { pending = kept } ≡ with_sync w p
unfolding with_sync
synced_is w p kept e = ap (λ (spans : List Span). record w { pending = spans }) e

pub noted_sync : (old new : UndoLog) (path : List ℕ) (kept : List Span) → new.boot ≡ old.boot → kept ≡ filter (λ s. not (bytes_eq s.path path)) old.world.pending → new.world ≡ record old.world { pending = kept } → new.notes.items ≡ old.notes.items ++ record { call = noted.Sync path; end = noted_end.Done; changes = change.Synced old.world.pending ∷ [] } ∷ [] → NotesCall old new (Sync path) Done
noted_sync old new path kept boot keeps is grows =
    let left = is ∙ synced_is old.world path kept keeps in
    record {
      note = record { call = noted.Sync path; end = noted_end.Done; changes = change.Synced old.world.pending ∷ [] };
      grows = grows;
      boot = boot;
      call_is = refl;
      end_is = refl;
      back = ap (λ (w : World). world_before (change.Synced old.world.pending) w) left ∙ sync_back old.world path;
      after = left;
    }

-- a replacement
pub put_undone : (w : World) (path named bytes given : List ℕ) (files : List Named) (was : Option (List ℕ)) → named ≡ path → files_before_put files path was ≡ w.files → world_before (change.Put named was) (record w { files = files }) ≡ w
put_undone w path named bytes given files was same back =
    ap (λ (p : List ℕ). world_before (change.Put p was) (record w { files = files })) same
    ∙ ap (λ (ns : List Named). record w { files = ns }) back

pub noted_replace : (old new : UndoLog) (path bytes : List ℕ) (made : Change) → new.boot ≡ old.boot → world_before made new.world ≡ old.world → new.world ≡ with_file old.world path bytes → new.notes.items ≡ old.notes.items ++ record { call = noted.Replace path bytes; end = noted_end.Done; changes = made ∷ [] } ∷ [] → NotesCall old new (Replace path bytes) Done
noted_replace old new path bytes made boot back left grows = record {
  note = record { call = noted.Replace path bytes; end = noted_end.Done; changes = made ∷ [] };
  grows = grows;
  boot = boot;
  call_is = refl;
  end_is = refl;
  back = back;
  after = left;
}

-- a child
pub noted_child : (old new : UndoLog) (child said : Child) (changes : List Change) → new.boot ≡ old.boot → said ≡ child → world_before_all changes new.world ≡ old.world → After old.boot (Run child) Done old.world new.world → new.notes.items ≡ old.notes.items ++ record { call = noted.Run said; end = noted_end.Done; changes = changes } ∷ [] → NotesCall old new (Run child) Done
noted_child old new child said changes boot same back after grows = record {
  note = record { call = noted.Run said; end = noted_end.Done; changes = changes };
  grows = grows;
  boot = boot;
  call_is = ap (λ (c : Child). Run c) same;
  end_is = refl;
  back = back;
  after = after;
}
