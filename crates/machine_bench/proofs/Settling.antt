-- The answer to a call, from what was noted of it.
use Rattle.std.proofs.Common.{◌≡◌, ℕ, Bool, true, false, List, Option, Some, None, Result, Ok, Err, OnOk, OnErr, IfOk, refl, sym, ◌∙◌, ap, subst}
use Rattle.std.specs.Prelude.{ℤ, pos}
use Rattle.std.specs.Result.{result_unwrap_or}
use Rattle.boot_model.specs.declared.boot_kind.BootKind.{BootKind}
use Rattle.machine.specs.declared.calls.CallStop.{CallStop}
use Rattle.machine.specs.declared.calls.CallStop.TheVariants.{Failed, NoMemory}
use Rattle.machine.specs.declared.calls.ReadStop.{ReadStop}
use Rattle.machine.specs.declared.calls.ReadStop.TheVariants as read
use Rattle.machine.specs.declared.calls.RunStop.{RunStop}
use Rattle.machine.specs.declared.calls.RunStop.TheVariants as run
use Rattle.machine.specs.declared.world.Child.{Child}
use Rattle.machine.specs.declared.world.Exit.{Exit}
use Rattle.machine.specs.declared.world.World.{World}
use Rattle.undo_log.specs.declared.notes.Whole.{Whole}
use Rattle.undo_log.specs.declared.notes.Whole.TheVariants.{Bytes, TooLong}
use Rattle.undo_log.specs.declared.log.UndoLog.{UndoLog}
use Rattle.machine.specs.Past.{Call, Clock, File, Read, Run, End, Done, Broken, IsCall, world_now}
use Rattle.machine.specs.Calls.{Ends, FileEnds, ReadsFile, RunEnds}
use Rattle.undo_log.specs.Whole.{WholeFound, end_whole}
use Rattle.undo_log.specs.Logged.{SameLog, NotesCall, end_if, past_of_log}
use Rattle.machine_bench.specs.Numbered.{IsAnswer}
use Rattle.undo_log.proofs.Undoing.{boot-past_of, did_noted, same_past, now-past_of}
use Rattle.machine_bench.proofs.Scripted.{Ran}

same_ok : {T E : Type 0} (x y : T) → ◌≡◌ {A = Result T E} (Ok x) (Ok y) → x ≡ y
same_ok x y e = cc

-- what is true of a value that was noted
pub settled_value : {T E : Type 0} (fails : Bool) (faults faults' wants wants' : ℕ) (noted : Result T E) (result : Result T CallStop) (P : T → Type 0) → IsAnswer noted fails faults faults' wants wants' result → (fails ≡ false → IfOk noted P) → IfOk result P
settled_value fails faults faults' wants wants' (Ok y) (Ok x) P s ok = subst P (same_ok y x s.0) (ok s.1)
settled_value {E = E} fails faults faults' wants wants' (Err e) (Ok x) P s ok = let bad : Err e ≡ Ok x = s.0 in cc
settled_value fails faults faults' wants wants' noted (Err stop) P s ok = tt

-- the answer of a child
abbrev pub run_answer : Result Exit CallStop → Result Exit RunStop
run_answer (Ok exit) = Ok exit
run_answer (Err Failed) = Err run.Failed
run_answer (Err NoMemory) = Err run.NoMemory

module _ (old new last : UndoLog) (fails : Bool) (faults faults' wants wants' : ℕ) (is_last : last ≡ new) where
  done_now : (call : Call) (end : End) → NotesCall old new call end → IsCall (past_of_log old) (past_of_log last) call end
  done_now call end h = subst (λ (log : UndoLog). IsCall (past_of_log old) (past_of_log log) call end) (sym is_last) (did_noted old new call end h)

  kept_now : SameLog old new → past_of_log last ≡ past_of_log old
  kept_now h = ap (λ (log : UndoLog). past_of_log log) is_last ∙ same_past old new h

  ended : (call : Call) (b : Bool) → fails ≡ b → NotesCall old new call (end_if fails) → IsCall (past_of_log old) (past_of_log last) call (end_if b)
  ended call b is h = done_now call (end_if b) (subst (λ (c : Bool). NotesCall old new call (end_if c)) is h)

  -- a call with arguments that are known before
  pub settled_ends : {T E : Type 0} (call : Call) (noted : Result T E) (result : Result T CallStop) → IsAnswer noted fails faults faults' wants wants' result → OnOk noted (NotesCall old new call (end_if fails)) → OnErr noted (SameLog old new) → Ends (past_of_log old) (past_of_log last) call result
  settled_ends call (Ok y) (Ok x) s ok err = ended call false s.1 ok
  settled_ends call (Ok y) (Err Failed) s ok err = ended call true s.1 ok
  settled_ends call (Ok y) (Err NoMemory) s ok err = let bad : false ≡ true = s.0 in cc
  settled_ends call (Err e) (Ok x) s ok err = let bad : Err e ≡ Ok x = s.0 in cc
  settled_ends call (Err e) (Err Failed) s ok err = let bad : false ≡ true = s.0 in cc
  settled_ends call (Err e) (Err NoMemory) s ok err = kept_now err

  -- a read, whose count is known after it
  pub settled_read : {E : Type 0} (path : List ℕ) (noted : Result ℕ E) (result : Result ℕ CallStop) → IsAnswer noted fails faults faults' wants wants' result → IfOk noted (λ count. NotesCall old new (Read path count) (end_if fails)) → (fails ≡ true → IfOk noted (λ count. count ≡ 0)) → OnErr noted (SameLog old new) → Ends (past_of_log old) (past_of_log last) (Read path (result_unwrap_or result 0)) result
  settled_read path (Ok y) (Ok x) s ok failed err =
      ended (Read path x) false s.1 (subst (λ (count : ℕ). NotesCall old new (Read path count) (end_if fails)) (same_ok y x s.0) ok)
  settled_read path (Ok y) (Err Failed) s ok failed err =
      ended (Read path 0) true s.1 (subst (λ (count : ℕ). NotesCall old new (Read path count) (end_if fails)) (failed s.1) ok)
  settled_read path (Ok y) (Err NoMemory) s ok failed err = let bad : false ≡ true = s.0 in cc
  settled_read path (Err e) (Ok x) s ok failed err = let bad : Err e ≡ Ok x = s.0 in cc
  settled_read path (Err e) (Err Failed) s ok failed err = let bad : false ≡ true = s.0 in cc
  settled_read path (Err e) (Err NoMemory) s ok failed err = kept_now err

  -- a look at the clock, whose seconds are known after it
  pub settled_clock : {E : Type 0} (noted : Result ℤ E) (result : Result ℤ CallStop) → IsAnswer noted fails faults faults' wants wants' result → (fails ≡ false → IfOk noted (λ said. NotesCall old new (Clock said) Done)) → (fails ≡ true → OnOk noted (NotesCall old new (Clock (pos 0)) Broken)) → OnErr noted (SameLog old new) → Ends (past_of_log old) (past_of_log last) (Clock (result_unwrap_or result (pos 0))) result
  settled_clock (Ok y) (Ok x) s done failed err = done_now (Clock x) Done (subst (λ (said : ℤ). NotesCall old new (Clock said) Done) (same_ok y x s.0) (done s.1))
  settled_clock (Ok y) (Err Failed) s done failed err = done_now (Clock (pos 0)) Broken (failed s.1)
  settled_clock (Ok y) (Err NoMemory) s done failed err = let bad : false ≡ true = s.0 in cc
  settled_clock (Err e) (Ok x) s done failed err = let bad : Err e ≡ Ok x = s.0 in cc
  settled_clock (Err e) (Err Failed) s done failed err = let bad : false ≡ true = s.0 in cc
  settled_clock (Err e) (Err NoMemory) s done failed err = kept_now err

  -- the worlds of the two logs
  ran_now : (child : Child) (exit : Exit) → Ran old.boot child old.world new.world exit → Ran (past_of_log old).boot child (world_now (past_of_log old)) (world_now (past_of_log last)) exit
  ran_now child exit h =
      subst (λ (u : World). Ran (past_of_log old).boot child (world_now (past_of_log old)) u exit) (sym (ap (λ (log : UndoLog). world_now (past_of_log log)) is_last ∙ now-past_of new))
      (subst (λ (w : World). Ran (past_of_log old).boot child w new.world exit) (sym (now-past_of old))
      (subst (λ (boot : BootKind). Ran boot child old.world new.world exit) (sym (boot-past_of old)) h))

  -- a child, whose end is known after it
  pub settled_run : {E : Type 0} (child : Child) (noted : Result Exit E) (result : Result Exit CallStop) → IsAnswer noted fails faults faults' wants wants' result → OnOk noted (NotesCall old new (Run child) (end_if fails)) → (fails ≡ false → IfOk noted (Ran old.boot child old.world new.world)) → OnErr noted (SameLog old new) → RunEnds (past_of_log old) (past_of_log last) child (run_answer result)
  settled_run child (Ok y) (Ok x) s ok ran err =
      let told = ran_now child x (subst (λ (exit : Exit). Ran old.boot child old.world new.world exit) (same_ok y x s.0) (ran s.1)) in
      (ended (Run child) false s.1 ok, told.0, told.1)
  settled_run child (Ok y) (Err Failed) s ok ran err = ended (Run child) true s.1 ok
  settled_run child (Ok y) (Err NoMemory) s ok ran err = let bad : false ≡ true = s.0 in cc
  settled_run child (Err e) (Ok x) s ok ran err = let bad : Err e ≡ Ok x = s.0 in cc
  settled_run child (Err e) (Err Failed) s ok ran err = let bad : false ≡ true = s.0 in cc
  settled_run child (Err e) (Err NoMemory) s ok ran err = kept_now err

-- the answer of a whole file
abbrev pub whole_answer : Result Whole CallStop → Result (Option (List ℕ)) ReadStop
whole_answer (Ok (Bytes bytes)) = Ok bytes
whole_answer (Ok (TooLong n)) = Err (read.TooLong n)
whole_answer (Err Failed) = Err read.Failed
whole_answer (Err NoMemory) = Err read.NoMemory

module _ (old new last : UndoLog) (fails : Bool) (faults faults' wants wants' : ℕ) (is_last : last ≡ new) where
  whole : (path : List ℕ) (x y : Whole) (b : Bool) → y ≡ x → fails ≡ b → NotesCall old new (File path) (end_whole fails y) → IsCall (past_of_log old) (past_of_log last) (File path) (end_whole b x)
  whole path x y b same is h =
      done_now old new last fails faults faults' wants wants' is_last (File path) (end_whole b x)
      (subst (λ (c : Bool). NotesCall old new (File path) (end_whole c x)) is (subst (λ (z : Whole). NotesCall old new (File path) (end_whole fails z)) same h))

  pub settled_file : {E : Type 0} (path : List ℕ) (noted : Result Whole E) (result : Result Whole CallStop) → IsAnswer noted fails faults faults' wants wants' result → IfOk noted (λ found. NotesCall old new (File path) (end_whole fails found)) → OnErr noted (SameLog old new) → FileEnds (past_of_log old) (past_of_log last) path (whole_answer result)
  settled_file path (Ok y) (Ok (Bytes x)) s ok err = whole path (Bytes x) y false (same_ok y (Bytes x) s.0) s.1 ok
  settled_file path (Ok y) (Ok (TooLong x)) s ok err = whole path (TooLong x) y false (same_ok y (TooLong x) s.0) s.1 ok
  settled_file path (Ok y) (Err Failed) s ok err = whole path y y true refl s.1 ok
  settled_file path (Ok y) (Err NoMemory) s ok err = let bad : false ≡ true = s.0 in cc
  settled_file path (Err e) (Ok x) s ok err = let bad : Err e ≡ Ok x = s.0 in cc
  settled_file path (Err e) (Err Failed) s ok err = let bad : false ≡ true = s.0 in cc
  settled_file path (Err e) (Err NoMemory) s ok err = kept_now old new last fails faults faults' wants wants' is_last err

-- what was found
pub reads_whole : (there : Option (List ℕ)) (limit : ℕ) (result : Result Whole CallStop) → IfOk result (WholeFound there limit) → ReadsFile true there limit (whole_answer result)
reads_whole there limit (Ok (Bytes None)) h = record { found = λ told. h; longer = tt }
reads_whole there limit (Ok (Bytes (Some bytes))) h = record { found = λ told. h; longer = tt }
reads_whole there limit (Ok (TooLong n)) h = record { found = λ told. h; longer = h.3 }
reads_whole there limit (Err Failed) h = record { found = λ told. tt; longer = tt }
reads_whole there limit (Err NoMemory) h = record { found = λ told. tt; longer = tt }
