-- An undo log that gains a note.
use Rattle.std.proofs.Common.{◌≡◌, inl, List, [], ◌∷◌, ◌++◌, reverse, refl, sym, ◌∙◌, ap, subst}
use Rattle.std.proofs.lemmas.List.{reverse-append}
use Rattle.boot_model.specs.declared.boot_kind.BootKind.{BootKind}
use Rattle.machine.specs.declared.world.World.{World}
use Rattle.machine.specs.Past.{Call, File, Size, Read, Write, Sync, Replace, Run, Clock, End, Broken, After, world_now, with_moments, IsCall}
use Rattle.machine.specs.Leaves.{Leaves}
use Rattle.machine.proofs.Moments.{now-more}
use Rattle.machine.proofs.Sparing.{leaves_refl}
use Rattle.undo_log.specs.declared.notes.Change.{Change}
use Rattle.undo_log.specs.declared.notes.Note.{Note}
use Rattle.undo_log.specs.declared.log.UndoLog.{UndoLog}
use Rattle.undo_log.specs.Undo.{past_call, past_end, moment_of, past_from_newest, past_of, world_before_all, world_before}
use Rattle.undo_log.specs.Logged.{SameLog, NotesCall, past_of_log}

-- the last change is taken back first
pub world_before_all-push : (cs : List Change) (c : Change) (w : World) → world_before_all (cs ++ c ∷ []) w ≡ world_before_all cs (world_before c w)
world_before_all-push [] c w = refl
world_before_all-push (x ∷ cs) c w = ap (λ (u : World). world_before x u) (world_before_all-push cs c w)

-- the past ends in the world from which it was told back
now-back : (boot : BootKind) (w : World) (ns : List Note) → world_now (past_from_newest boot w ns) ≡ w
now-back boot w [] = refl
now-back boot w (n ∷ older) = now-more (past_from_newest boot (world_before_all n.changes w) older) (moment_of n w ∷ [])

-- and tells the boot loader that it was given
boot-back : (boot : BootKind) (w : World) (ns : List Note) → (past_from_newest boot w ns).boot ≡ boot
boot-back boot w [] = refl
boot-back boot w (n ∷ older) = boot-back boot (world_before_all n.changes w) older

pub boot-past_of : (log : UndoLog) → (past_of_log log).boot ≡ log.boot
boot-past_of log = boot-back log.boot log.world (reverse log.notes.items)

pub now-past_of : (log : UndoLog) → world_now (past_of_log log) ≡ log.world
now-past_of log = now-back log.boot log.world (reverse log.notes.items)

-- a note more is a moment more
module _ (boot : BootKind) (w w' : World) (notes : List Note) (n : Note) (back : world_before_all n.changes w' ≡ w) where
  past_of-push : past_of boot w' (notes ++ n ∷ []) ≡ with_moments (past_of boot w notes) (moment_of n w' ∷ [])
  past_of-push =
      ap (λ (ns : List Note). past_from_newest boot w' ns) (reverse-append notes (n ∷ []))
      ∙ ap (λ (u : World). with_moments (past_from_newest boot u (reverse notes)) (moment_of n w' ∷ [])) back

  -- what the trait asks of a call
  did_note : After boot (past_call n.call) (past_end n.end) w w' → IsCall (past_of boot w notes) (past_of boot w' (notes ++ n ∷ [])) (past_call n.call) (past_end n.end)
  did_note after =
      let here = now-back boot w' (reverse (notes ++ n ∷ [])) in
      record {
        grows = past_of-push
            ∙ ap (λ (u : World). with_moments (past_of boot w notes) (moment_of n u ∷ [])) (sym here);
        after = subst (λ (k : BootKind). After k (past_call n.call) (past_end n.end) (world_now (past_of boot w notes)) (world_now (past_of boot w' (notes ++ n ∷ [])))) (sym (boot-back boot w (reverse notes)))
            (subst (λ (u : World). After boot (past_call n.call) (past_end n.end) u (world_now (past_of boot w' (notes ++ n ∷ [])))) (sym (now-back boot w (reverse notes)))
            (subst (λ (u : World). After boot (past_call n.call) (past_end n.end) w u) (sym here) after));
      }

-- a call that was noted
pub did_noted : (old new : UndoLog) (call : Call) (end : End) → NotesCall old new call end → IsCall (past_of_log old) (past_of_log new) call end
did_noted old new call end h =
    let after = subst (λ (k : Call). After old.boot k (past_end h.note.end) old.world new.world) (sym h.call_is)
    (subst (λ (e : End). After old.boot call e old.world new.world) (sym h.end_is) h.after) in
    subst (λ (boot : BootKind). IsCall (past_of_log old) (past_of boot new.world new.notes.items) call end) (sym h.boot)
    (subst (λ (ns : List Note). IsCall (past_of_log old) (past_of old.boot new.world ns) call end) (sym h.grows)
    (subst (λ (k : Call). IsCall (past_of_log old) (past_of old.boot new.world (old.notes.items ++ h.note ∷ [])) k end) h.call_is
    (subst (λ (e : End). IsCall (past_of_log old) (past_of old.boot new.world (old.notes.items ++ h.note ∷ [])) (past_call h.note.call) e) h.end_is
    (did_note old.boot old.world new.world old.notes.items h.note h.back after))))

-- nothing was noted
pub same_past : (old new : UndoLog) → SameLog old new → past_of_log new ≡ past_of_log old
same_past old new h =
    ap (λ (boot : BootKind). past_of boot new.world new.notes.items) h.boot
    ∙ ap (λ (w : World). past_of old.boot w new.notes.items) h.world
    ∙ ap (λ (ns : List Note). past_of old.boot old.world ns) h.notes

-- a call that failed and did nothing
pub broken_same : (boot : BootKind) (call : Call) (w v : World) → v ≡ w → After boot call Broken w v
broken_same boot (File path) w v e = e
broken_same boot (Size path) w v e = e
broken_same boot (Read path count) w v e = e
broken_same boot (Write path at count) w v e = inl e
broken_same boot (Sync path) w v e = e
broken_same boot (Replace path bytes) w v e = inl e
broken_same boot (Run child) w v e = (subst (λ (u : World). Leaves child.class boot child w u) (sym e) (leaves_refl child.class boot child w), ap (λ (u : World). u.runs) e)
broken_same boot (Clock seconds) w v e = e
