-- What the words say of an install that stopped.
use Rattle.std.proofs.Common.{◌≡◌, ℕ, Bool, true, false, List, Option, Some, None, Result, Ok, Err, IsTrue, refl, sym, subst}
use Rattle.std.proofs.lemmas.Bool.{true≢false}
use Rattle.machine.specs.Frames.{Unchanged}
use Rattle.machine.specs.Past.{Grows, Past, world_now}
use Rattle.machine.proofs.Moments.{grows_refl}
use Rattle.rauc_words.specs.declared.asked.Asked.{Asked}
use Rattle.rauc_words.specs.declared.asked.Asked.TheVariants as asked
use Rattle.rauc_words.specs.declared.asked.Command.{Command}
use Rattle.rauc_words.specs.declared.asked.Command.TheVariants.{Install, WriteSlot, Info, Status, Mark}
use Rattle.rauc_words.specs.declared.asked.Run.{Run}
use Rattle.rauc_words.specs.Table.{conf_path}
use Rattle.system_conf.specs.Configuration.{Configuration}
use Rattle.install_facts.specs.declared.request.Request.{Request}
use Rattle.install_core.specs.CrashSafe.{IsCrashSafe}
use Rattle.install_core.proofs.CrashSafeLater.{crash_safe_later, safe_none}
use Rattle.rauc_cli.specs.Conf.{system_at}
use Rattle.rauc_cli.specs.declared.conf.NoSystem.{NoSystem}
use Rattle.rauc_cli.specs.Ends.{AskedStands, CommandStands, SystemStands}
use Rattle.rauc_cli.specs.Plans.{request_of}

-- by a request that was made for it
pub as_requested : (t : Bool) (c : Configuration) (q r : Request) (a b : Past) → q ≡ r → IsCrashSafe t c q a b → IsCrashSafe t c r a b
as_requested t c q r a b same safe = subst (λ (x : Request). IsCrashSafe t c x a b) same safe

-- nothing was done
command_none : (t : Bool) (system : Configuration) (given : Option (List ℕ)) (command : Command) (a : Past) → CommandStands t system given command a a
command_none t system given (Install bundle ignored) a = safe_none t system (request_of given bundle ignored) a
command_none t system given (WriteSlot slot image) a = tt
command_none t system given (Info bundle form) a = tt
command_none t system given (Status form detailed) a = tt
command_none t system given (Mark act who) a = tt

system_none : (t : Bool) (run : Run) (found : Result Configuration NoSystem) (a : Past) → SystemStands t run found a a
system_none t run (Ok system) a = command_none t system run.place.given run.command a
system_none t run (Err refusal) a = tt

pub asked_none : (t : Bool) (asks : Option Asked) (a : Past) → AskedStands t asks a a
asked_none t (Some (asked.Run run)) a = system_none t run (system_at (world_now a) (conf_path run.place)) a
asked_none t (Some asked.Help) a = tt
asked_none t None a = tt

-- the configuration was read before
command_later : (t : Bool) (system : Configuration) (given : Option (List ℕ)) (command : Command) (a b c : Past) → Unchanged t a b → (IsTrue t → Grows b c) → CommandStands t system given command b c → CommandStands t system given command a c
command_later t system given (Install bundle ignored) a b c unchanged grows safe = crash_safe_later t system (request_of given bundle ignored) a b c unchanged grows safe
command_later t system given (WriteSlot slot image) a b c unchanged grows safe = tt
command_later t system given (Info bundle form) a b c unchanged grows safe = tt
command_later t system given (Status form detailed) a b c unchanged grows safe = tt
command_later t system given (Mark act who) a b c unchanged grows safe = tt

-- a machine that tells nothing
command_untold : (system : Configuration) (given : Option (List ℕ)) (command : Command) (a c : Past) → CommandStands false system given command a c
command_untold system given (Install bundle ignored) a c = record {
  running = record { each = λ told. absurd (true≢false (sym told)) };
  good = λ told. absurd (true≢false (sym told));
  safe = λ told. absurd (true≢false (sym told));
}
command_untold system given (WriteSlot slot image) a c = tt
command_untold system given (Info bundle form) a c = tt
command_untold system given (Status form detailed) a c = tt
command_untold system given (Mark act who) a c = tt

system_untold : (run : Run) (found : Result Configuration NoSystem) (a c : Past) → SystemStands false run found a c
system_untold run (Ok system) a c = command_untold system run.place.given run.command a c
system_untold run (Err refusal) a c = tt

module _ (run : Run) (a b c : Past) where
  -- a command was carried out with the configuration that was read
  pub asked_later : (t : Bool) (path : List ℕ) (system : Configuration) → path ≡ conf_path run.place → Unchanged t a b → (IsTrue t → system_at (world_now a) path ≡ Ok system) → (IsTrue t → Grows b c) → CommandStands t system run.place.given run.command b c → AskedStands t (Some (asked.Run run)) a c
  asked_later true path system is unchanged found grows stands =
      let there : system_at (world_now a) (conf_path run.place) ≡ Ok system = subst (λ (p : List ℕ). system_at (world_now a) p ≡ Ok system) is (found refl) in
      subst (λ (r : Result Configuration NoSystem). SystemStands true run r a c) (sym there) (command_later true system run.place.given run.command a b c unchanged grows stands)
  asked_later false path system is unchanged found grows stands = system_untold run (system_at (world_now a) (conf_path run.place)) a c

system_unchanged : (t : Bool) (run : Run) (found : Result Configuration NoSystem) (a b : Past) → Unchanged t a b → SystemStands t run found a b
system_unchanged t run (Ok system) a b unchanged = command_later t system run.place.given run.command a b b unchanged (λ told. grows_refl b) (command_none t system run.place.given run.command b)
system_unchanged t run (Err refusal) a b unchanged = tt

-- nothing but that was done
pub asked_unchanged : (t : Bool) (run : Run) (a b : Past) → Unchanged t a b → AskedStands t (Some (asked.Run run)) a b
asked_unchanged t run a b unchanged = system_unchanged t run (system_at (world_now a) (conf_path run.place)) a b unchanged

-- by what the words ask for
pub asked_as : (t : Bool) (asks other : Option Asked) (a c : Past) → other ≡ asks → AskedStands t other a c → AskedStands t asks a c
asked_as t asks other a c same stands = subst (λ (o : Option Asked). AskedStands t o a c) same stands
