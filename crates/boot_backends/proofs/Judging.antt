-- What is taken of an output, by the tests of the code, and what a stop tells.
use Rattle.std.proofs.Common.{◌≡◌, Bool, true, false, cond, List, ℕ, Option, Some, None, Result, Ok, Err, refl, sym, ◌∙◌, ap, subst}
use Rattle.std.specs.Prelude.{IsTrue, IsUtf8, ⊤}
use Rattle.std.specs.Result.{IsErrAnd}
use Rattle.std.specs.Str.{is_utf8}
use Rattle.std.proofs.lemmas.Str.{is_utf8-from_IsUtf8, IsUtf8-from_is_utf8}
use Rattle.boot_model.specs.Vars.{Variables}
use Rattle.boot_commands.specs.declared.command.Command.{Command}
use Rattle.boot_outputs.specs.Outputs.{spelled}
use Rattle.boot_outputs.specs.Texts.{Takes}
use Rattle.machine.specs.declared.calls.RunStop.{RunStop}
use Rattle.machine.specs.declared.calls.RunStop.TheVariants as run
use Rattle.machine.specs.declared.stops.Fault.{Fault}
use Rattle.machine.specs.declared.stops.Stop.{Stop}
use Rattle.machine.specs.declared.stops.Stop.TheVariants.{Refused, Outside, NoMemory}
use Rattle.machine.specs.declared.world.Child.{Child}
use Rattle.machine.specs.declared.world.Exit.{Exit}
use Rattle.machine.specs.Calls.{RunEnds}
use Rattle.machine.specs.Past.{Fails, Past}
use Rattle.machine.specs.Stops.{stop_fault}
use Rattle.machine.proofs.Failing.{fails_run}
use Rattle.boot_backends.specs.declared.refusal.BootRefusal.{BootRefusal}
use Rattle.boot_backends.specs.Ends.{Judged, run_stop}
use Rattle.boot_backends.specs.Runs.{is_code, is_reading, taken, told_by}

module _ (c : Command) (exit : Exit) (read : Variables) (text : List ℕ) (is : text ≡ exit.out) (reads : true ≡ is_reading c) (whole : exit.cut ≡ false) where
  -- a text that is no UTF-8
  pub taken_bad : (IsUtf8 text → ⊥) → taken c exit read ≡ None
  taken_bad bad =
      let none : is_utf8 exit.out ≡ false =
      elim (is_utf8 exit.out) as (λ b. is_utf8 exit.out ≡ b → b ≡ false) [
        | true ↦ λ e. absurd (bad (subst IsUtf8 (sym is) (IsUtf8-from_is_utf8 exit.out e)))
        | false ↦ λ e. refl
      ] refl in
      rw (sym reads, whole, none) refl

  -- a text that is
  taken_text : IsUtf8 text → taken c exit read ≡ told_by c exit read
  taken_text utf8 =
      let all : is_utf8 exit.out ≡ true = is_utf8-from_IsUtf8 exit.out (subst IsUtf8 is utf8) in
      rw (sym reads, whole, all) refl

  pub taken_done : (out : List ℕ) → (out ≡ text) × IsUtf8 text → true ≡ is_code 0 exit.ended → taken c exit read ≡ spelled c out read
  taken_done out utf8 done =
      taken_text utf8.1
      ∙ ap (λ (b : Bool). cond b (spelled c exit.out read) (Some read)) (sym done)
      ∙ ap (λ (x : List ℕ). spelled c x read) (sym (utf8.0 ∙ is))

  pub taken_unset : (out : List ℕ) → (out ≡ text) × IsUtf8 text → false ≡ is_code 0 exit.ended → taken c exit read ≡ Some read
  taken_unset out utf8 other =
      taken_text utf8.1 ∙ ap (λ (b : Bool). cond b (spelled c exit.out read) (Some read)) (sym other)

-- the same text, told otherwise
pub taken_as : {E : Type 0} (result : Result Bool E) (before after : Variables) (told other : Option Variables) → other ≡ told → Takes result before after told → Takes result before after other
taken_as result before after told other same h =
    subst (λ (o : Option Variables). Takes result before after o) (sym same) h

-- ---- which call failed

judged_fault : (c : Command) (exit : Exit) (read more : Variables) (result : Result ⊤ (Stop BootRefusal)) → Judged c exit read more result → stop_fault result ≡ None
judged_fault c exit read more (Ok x) h = refl
judged_fault c exit read more (Err (Refused why)) h = refl
judged_fault c exit read more (Err (Outside kind)) h = absurd h
judged_fault c exit read more (Err NoMemory) h = refl

pub fails_judged : (t : Bool) (a z : Past) (c : Command) (child : Child) (exit : Exit) (read more : Variables) (result : Result ⊤ (Stop BootRefusal)) → Judged c exit read more result → (IsTrue t → RunEnds a z child (Ok exit)) → Fails t a z (stop_fault result)
fails_judged t a z c child exit read more result judged ends =
    subst (λ (kind : Option Fault). Fails t a z kind) (sym (judged_fault c exit read more result judged)) (fails_run t a z child (Ok exit) ends)

pub fails_stopped : (T : Type 0) (t : Bool) (a z : Past) (child : Child) (stop : RunStop) (given : Stop BootRefusal) → given ≡ run_stop stop → (IsTrue t → RunEnds a z child (Err stop)) → Fails t a z (stop_fault {T = T} (Err given))
fails_stopped T t a z child stop given is ends =
    subst (λ (g : Stop BootRefusal). Fails t a z (stop_fault {T = T} (Err g))) (sym is) (of stop ends)
  where
    of : (stop : RunStop) → (IsTrue t → RunEnds a z child (Err stop)) → Fails t a z (stop_fault {T = T} (Err (run_stop stop)))
    of run.Failed ends = fails_run t a z child (Err run.Failed) ends
    of run.NoMemory ends = fails_run t a z child (Err run.NoMemory) ends

-- an answer that is handed on
pub handed_on : {T : Type 0} (result : Result T (Stop BootRefusal)) (stop : Stop BootRefusal) → IsErrAnd result (λ given. given ≡ stop) → result ≡ Err stop
handed_on (Ok x) stop h = absurd h
handed_on (Err given) stop h = ap (λ (s : Stop BootRefusal). Err s) h
