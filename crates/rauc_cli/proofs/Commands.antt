-- Each command, and what comes before it.
use Rattle.std.proofs.Common.{◌≡◌, ◌≤◌, ℕ, ℤ, Bool, true, List, Option, Some, None, Result, Ok, Err, IsTrue, IfOk, refl, sym, ◌∙◌, ap, subst, arith}
use Rattle.updater_text.specs.declared.stops.NoMemory.{NoMemory}
use Rattle.machine.specs.declared.stops.Fault.{Fault}
use Rattle.machine.specs.declared.stops.Stop.{Stop}
use Rattle.machine.specs.declared.stops.Stop.TheVariants as stop
use Rattle.machine.specs.declared.world.World.{World}
use Rattle.machine.specs.Past.{Past, Always, Fails, Grows, world_now}
use Rattle.machine.specs.Frames.{Unchanged}
use Rattle.machine.specs.Runs.{ReadsOnce}
use Rattle.machine.proofs.CallsMade.{once_grows, once_now}
use Rattle.machine.proofs.Moments.{always_now, always_weaker}
use Rattle.child_steps.specs.declared.close.Closing.TheVariants as closing
use Rattle.rauc_words.specs.declared.asked.Asked.TheVariants as asked
use Rattle.rauc_words.specs.declared.asked.Command.{Command}
use Rattle.rauc_words.specs.declared.asked.Command.TheVariants.{Install, WriteSlot, Info, Status, Mark}
use Rattle.rauc_words.specs.declared.asked.Run.{Run}
use Rattle.rauc_words.specs.Table.{conf_path, slot_word}
use Rattle.boot_model.specs.declared.boot_kind.BootKind.{BootKind}
use Rattle.slot_marks.specs.declared.refusal.MarkRefusal.{MarkRefusal}
use Rattle.slot_marks.specs.Marking.{choice}
use Rattle.status_file.specs.Clock.{clock_since}
use Rattle.status_file.proofs.Clocks.{clock_after, clock_once}
use Rattle.system_conf.specs.Configuration.{Configuration}
use Rattle.slot_writer.specs.declared.refusal.SlotRefusal.{SlotRefusal}
use Rattle.slot_writer.specs.declared.refusal.SlotWritten.{SlotWritten}
use Rattle.slot_writer.specs.Slots.{PutKept, Puts, slot_answer}
use Rattle.rauc_cli.specs.declared.conf.NoSystem.{NoSystem}
use Rattle.rauc_cli.specs.declared.conf.BadConf.{BadConf}
use Rattle.rauc_cli.specs.declared.conf.NoSystem.TheVariants.{Missing, Bad}
use Rattle.rauc_cli.specs.declared.outcome.Ran.{Ran}
use Rattle.updater_text.specs.Sinks.{Shown}
use Rattle.rauc_cli.specs.declared.outcome.Outcome.{Outcome}
use Rattle.rauc_cli.specs.declared.outcome.Outcome.TheVariants as end
use Rattle.rauc_cli.specs.declared.outcome.Report.{Report}
use Rattle.rauc_cli.specs.Conf.{system_at}
use Rattle.rauc_cli.specs.Lines.{no_system_report, outside, slot_report}
use Rattle.rauc_cli.specs.Plans.{Plan, Nothing, AtTheEnd, OnTheWay, asked_plan, command_plan, mark_plan, request_of, slot_plan, status_plan, system_plan, to_report}
use Rattle.rauc_cli.specs.Ends.{CommandLines, CommandTexts, Ended, HasLines, HasTexts, InfoTexts, MarkTexts, OutcomeCounted, RunTexts, RunsBy, Says, SlotTexts, StatusTexts, behind}
use Rattle.rauc_cli.proofs.Behind.{command_lines, ran_quiet}
use Rattle.rauc_cli.proofs.Ending.{IsQuiet, Meets, ended_after, ended_failed, ended_here, ended_memory, ended_said, ended_same, quiet_report, quiet_since, ways_unchanged}
use Rattle.rauc_cli.proofs.BundleInfo.{info_later, quiet_info}
use Rattle.rauc_cli.proofs.Installs.{failed_install, install_later, install_outside, no_install}
use Rattle.slot_marks.specs.declared.naming.Action.{Action}

-- ---- write-slot

pub quiet_slot : (system : Configuration) (slot image : List ℕ) (answer : Result SlotWritten SlotRefusal) → IsQuiet (slot_plan system slot image answer)
quiet_slot system slot image (Ok written) = quiet_report _ _
quiet_slot system slot image (Err refusal) = quiet_report _ _

slot_way : (system : Configuration) (slot image : List ℕ) (answer : Result SlotWritten SlotRefusal) (w u : World) → PutKept system answer w u → OnTheWay (slot_plan system slot image answer).effect w u
slot_way system slot image (Ok written) w u h = h
slot_way system slot image (Err refusal) w u h = h

module _ (t : Bool) (system : Configuration) (slot image : List ℕ) (answer : Result SlotWritten SlotRefusal) (a b : Past) where
  abbrev aim : Result SlotWritten SlotRefusal → Plan
  aim r = slot_plan system slot image r

  abbrev way : World → Type 0
  way = PutKept system answer (world_now a)

  keeps : (IsTrue t → Always a b way) → IsTrue t → Always a b (OnTheWay (aim answer).effect (world_now a))
  keeps kept told = always_weaker a b way (OnTheWay (aim answer).effect (world_now a)) (λ u h. slot_way system slot image answer (world_now a) u h) (kept told)

  abbrev Slots : Plan → Result SlotWritten (Stop SlotRefusal) → Type 0
  Slots p written = Meets p (AtTheEnd p.effect (world_now a) (world_now b)) (slot_report system.slots slot image) written

  meets : (written : Result SlotWritten (Stop SlotRefusal)) → Puts t system image answer a b written → IsTrue t → Slots (aim answer) written
  meets (Ok written) puts told = subst (λ (r : Result SlotWritten SlotRefusal). Slots (aim r) (Ok written)) (sym (puts.answers told)) (refl, puts.left told)
  meets (Err (stop.Refused refusal)) puts told =
      subst (λ (r : Result SlotWritten SlotRefusal). Slots (aim r) (Err (stop.Refused refusal))) (sym (puts.answers told))
      (refl, subst (λ (r : Result SlotWritten SlotRefusal). PutKept system r (world_now a) (world_now b)) (puts.answers told) (always_now a b way (puts.kept told)))
  meets (Err (stop.Outside kind)) puts told = tt
  meets (Err stop.NoMemory) puts told = tt

  pub ended_slot : (written : Result SlotWritten (Stop SlotRefusal)) (result : Result Report NoMemory) → Puts t system image answer a b written → Says (slot_report system.slots slot image) written result → Ended t (slot_plan system slot image answer) a b result
  ended_slot written result puts says =
      ended_said t (aim answer) (quiet_slot system slot image answer) a b (slot_report system.slots slot image) (keeps puts.kept) written result puts.fails (meets written puts) says

-- ---- each command

-- where a call failed that changed nothing: the read of the configuration
module _ (t : Bool) (path : List ℕ) (a b : Past) (given : Option (List ℕ)) (kind : Fault) (result : Result Report NoMemory) (once : IsTrue t → ReadsOnce path a b) (unchanged : Unchanged t a b) (fails : Fails t a b (Some kind)) (says : IfOk result (λ r. r ≡ outside kind)) where
  failed_command : (system : Configuration) (command : Command) → Ended t (command_plan a b system given command) a b result
  failed_command system (Install bundle ignored) = failed_install t system (request_of given bundle ignored) a b kind result unchanged fails says
  failed_command system (WriteSlot slot image) =
      let answer = slot_answer system given slot image (world_now a) in
      let plan = slot_plan system slot image answer in
      ended_failed t plan a b kind result (λ told. quiet_since plan a b (quiet_slot system slot image answer)) unchanged fails says
  failed_command system (Info bundle form) =
      ended_failed t (command_plan a b system given (Info bundle form)) a b kind result (λ told. quiet_info form system bundle path a b b (once told)) unchanged fails says
  failed_command system (Status form detailed) =
      let plan = status_plan form detailed system given (world_now a) (world_now b) in
      ended_failed t plan a b kind result (λ told. quiet_since plan a b (quiet_report _ _)) unchanged fails says
  failed_command system (Mark act who) =
      let plan = command_plan a b system given (Mark act who) in
      ended_failed t plan a b kind result (λ told. quiet_since plan a b (quiet_report _ _)) unchanged fails says

  failed_system : (run : Run) (found : Result Configuration NoSystem) → run.place.given ≡ given → Ended t (system_plan a b run found) a b result
  failed_system run (Ok system) same =
      subst (λ (g : Option (List ℕ)). Ended t (command_plan a b system g run.command) a b result) (sym same) (failed_command system run.command)
  failed_system run (Err refusal) same =
      let plan = to_report (no_system_report (conf_path run.place) refusal) Nothing in
      ended_failed t plan a b kind result (λ told. quiet_since plan a b (quiet_report _ _)) unchanged fails says

-- where it was read, and a command was carried out then: its plan is that of the start
module _ (t : Bool) (path : List ℕ) (a b c : Past) (system : Configuration) (given : Option (List ℕ)) (result : Result Report NoMemory) (once : IsTrue t → ReadsOnce path a b) (unchanged : Unchanged t a b) (fine : Fails t a b None) where
  later_mark : (act : Action) (who : Option (List ℕ)) → ReadsOnce path a b → Grows b c → command_plan b c system given (Mark act who) ≡ command_plan a c system given (Mark act who)
  later_mark act who once bc =
      let ab = once_grows path a b once in
      let chosen : World → Result ℕ MarkRefusal = λ w. choice system.slots given (slot_word who) w in
      ap (λ (boot : BootKind). mark_plan boot system act (chosen (world_now b)) (clock_since b c) (world_now b) (world_now c)) (ap (λ (p : Past). p.boot) ab)
      ∙ ap (λ (w : World). mark_plan a.boot system act (chosen w) (clock_since b c) w (world_now c)) (once_now path a b once)
      ∙ ap (λ (o : Option ℤ). mark_plan a.boot system act (chosen (world_now a)) o (world_now a) (world_now c)) (sym (clock_after a b c (clock_once path a b once) ab bc))

  command_later : (command : Command) → Ended t (command_plan b c system given command) b c result → Ended t (command_plan a c system given command) a c result
  command_later (Install bundle ignored) rest = install_later t system (request_of given bundle ignored) a b c result unchanged fine rest
  command_later (WriteSlot slot image) rest =
      ended_after t (command_plan b c system given (WriteSlot slot image)) (command_plan a c system given (WriteSlot slot image)) a b c result unchanged fine
      (λ told. ap (λ (w : World). slot_plan system slot image (slot_answer system given slot image w)) (once_now path a b (once told))) rest
  command_later (Info bundle form) rest =
      ended_after t (command_plan b c system given (Info bundle form)) (command_plan a c system given (Info bundle form)) a b c result unchanged fine
      (λ told. info_later form system bundle path a b c (once told) (rest.on_the_way told).grows) rest
  command_later (Status form detailed) rest =
      ended_after t (command_plan b c system given (Status form detailed)) (command_plan a c system given (Status form detailed)) a b c result unchanged fine
      (λ told. ap (λ (w : World). status_plan form detailed system given w (world_now c)) (once_now path a b (once told))) rest
  command_later (Mark act who) rest =
      ended_after t (command_plan b c system given (Mark act who)) (command_plan a c system given (Mark act who)) a b c result unchanged fine
      (λ told. later_mark act who (once told) (rest.on_the_way told).grows) rest

-- ---- the configuration of a command

module _ (t : Bool) (run : Run) (path : List ℕ) (is : path ≡ conf_path run.place) (a b : Past) (unchanged : Unchanged t a b) (once : IsTrue t → ReadsOnce path a b) where
  abbrev goal : Past → Plan
  goal c = asked_plan a c (Some (asked.Run run))

  found : (c : Past) (o : Result Configuration NoSystem) → system_at (world_now a) path ≡ o → system_plan a c run o ≡ goal c
  found c o e = ap (λ (r : Result Configuration NoSystem). system_plan a c run r) (sym e ∙ ap (λ (p : List ℕ). system_at (world_now a) p) is)

  asked_system : (c : Past) (system : Configuration) (result : Result Report NoMemory) → (IsTrue t → system_at (world_now a) path ≡ Ok system) → Fails t a b None → Ended t (command_plan b c system run.place.given run.command) b c result → Ended t (asked_plan a c (Some (asked.Run run))) a c result
  asked_system c system result loads fine rest =
      ended_same t (command_plan a c system run.place.given run.command) (goal c) a c result
      (λ told. found c (Ok system) (loads told))
      (command_later t path a b c system run.place.given result once unchanged fine run.command rest)

  asked_refusal : (refusal : NoSystem) (result : Result Report NoMemory) → (IsTrue t → system_at (world_now a) path ≡ Err refusal) → Fails t a b None → IfOk result (λ r. r ≡ no_system_report path refusal) → Ended t (asked_plan a b (Some (asked.Run run))) a b result
  asked_refusal refusal result loads fine says =
      ended_after t (to_report (no_system_report (conf_path run.place) refusal) Nothing) (goal b) a b b result unchanged fine
      (λ told. found b (Err refusal) (loads told))
      (ended_here t (no_system_report (conf_path run.place) refusal) b result (subst (λ (p : List ℕ). IfOk result (λ r. r ≡ no_system_report p refusal)) is says))

  asked_fault : (kind : Fault) (result : Result Report NoMemory) → Fails t a b (Some kind) → IfOk result (λ r. r ≡ outside kind) → Ended t (asked_plan a b (Some (asked.Run run))) a b result
  asked_fault kind result fails says =
      failed_system t path a b run.place.given kind result once unchanged fails says run (system_at (world_now a) (conf_path run.place)) refl

  asked_memory : (memory : NoMemory) → Ended t (asked_plan a b (Some (asked.Run run))) a b (Err memory)
  asked_memory memory = ended_memory t (goal b) a b memory (ways_unchanged t (goal b).effect a b unchanged)

-- ---- its texts and counts

no_conf : (command : Command) (r : Report) → CommandTexts command r → r.outcome ≡ end.NoConfig → ⊥
no_conf (Install bundle ignored) r h e = no_install bundle r end.NoConfig h e
no_conf (WriteSlot slot image) r h e = subst (λ (o : Outcome). SlotTexts slot image o r) e h
no_conf (Info bundle form) r h e = subst (λ (o : Outcome). InfoTexts form o r) e h
no_conf (Status form detailed) r h e = subst (λ (o : Outcome). StatusTexts form detailed o r) e h
no_conf (Mark act who) r h e = subst (λ (o : Outcome). MarkTexts act (slot_word who) o r) e h

no_bad_conf : (command : Command) (r : Report) (refusal : BadConf) → CommandTexts command r → r.outcome ≡ end.BadConfig refusal → ⊥
no_bad_conf (Install bundle ignored) r refusal h e = no_install bundle r (end.BadConfig refusal) h e
no_bad_conf (WriteSlot slot image) r refusal h e = subst (λ (o : Outcome). SlotTexts slot image o r) e h
no_bad_conf (Info bundle form) r refusal h e = subst (λ (o : Outcome). InfoTexts form o r) e h
no_bad_conf (Status form detailed) r refusal h e = subst (λ (o : Outcome). StatusTexts form detailed o r) e h
no_bad_conf (Mark act who) r refusal h e = subst (λ (o : Outcome). MarkTexts act (slot_word who) o r) e h

outside_texts : (command : Command) (kind : Fault) → CommandTexts command (outside kind)
outside_texts (Install bundle ignored) kind = install_outside bundle kind
outside_texts (WriteSlot slot image) kind = refl
outside_texts (Info bundle form) kind = (closing.NotMounted, refl)
outside_texts (Status form detailed) kind = refl
outside_texts (Mark act who) kind = refl

texts_outside : (run : Run) (kind : Fault) (result : Result Report NoMemory) → IfOk result (λ r. r ≡ outside kind) → IfOk result (HasTexts (Some (asked.Run run)))
texts_outside run kind (Ok r) is = subst (λ (x : Report). HasTexts (Some (asked.Run run)) x) (sym is) (outside_texts run.command kind)
texts_outside run kind (Err memory) is = tt

run_texts : (run : Run) (r : Report) (o : Outcome) → r.outcome ≡ o → CommandTexts run.command r → RunTexts run o r
run_texts run r end.Done e h = h
run_texts run r end.Help e h = h
run_texts run r end.Usage e h = h
run_texts run r end.NoConfig e h = absurd (no_conf run.command r h e)
run_texts run r (end.BadConfig refusal) e h = absurd (no_bad_conf run.command r refusal h e)
run_texts run r (end.Install refusal) e h = h
run_texts run r (end.Info refusal) e h = h
run_texts run r (end.Mark refusal) e h = h
run_texts run r (end.Boot refusal) e h = h
run_texts run r (end.Slot refusal) e h = h
run_texts run r (end.Outside kind) e h = h
run_texts run r end.NoMemory e h = h

texts_refused : (run : Run) (path : List ℕ) (refusal : NoSystem) (result : Result Report NoMemory) → path ≡ conf_path run.place → IfOk result (λ r. r ≡ no_system_report path refusal) → IfOk result (HasTexts (Some (asked.Run run)))
texts_refused run path refusal (Err memory) at is = tt
texts_refused run path refusal (Ok r) at is = subst (λ (x : Report). HasTexts (Some (asked.Run run)) x) (sym is) (said refusal)
  where
    said : (refusal : NoSystem) → HasTexts (Some (asked.Run run)) (no_system_report path refusal)
    said Missing = ap (λ (p : List ℕ). no_system_report p Missing) at
    said (Bad refusal) = ap (λ (p : List ℕ). no_system_report p (Bad refusal)) at

texts_command : (run : Run) (result : Result Report NoMemory) → IfOk result (CommandTexts run.command) → IfOk result (HasTexts (Some (asked.Run run)))
texts_command run (Ok r) h = run_texts run r r.outcome refl h
texts_command run (Err memory) h = tt

-- ---- all of it

module _ (t : Bool) (run : Run) (path : List ℕ) (is : path ≡ conf_path run.place) (a b : Past) (unchanged : Unchanged t a b) (once : IsTrue t → ReadsOnce path a b) where
  abbrev Asks : Past → Shown → Shown → Ran → Type 0
  Asks c out out' ran = RunsBy t (asked_plan a c (Some (asked.Run run))) (HasTexts (Some (asked.Run run))) (HasLines (Some (asked.Run run))) a c out out' ran

  pub runs_system : (c : Past) (system : Configuration) (out out' : Shown) (ran : Ran) → (IsTrue t → system_at (world_now a) path ≡ Ok system) → Fails t a b None
      → RunsBy t (command_plan b c system run.place.given run.command) (CommandTexts run.command) (CommandLines run.command) b c out out' ran → Asks c out out' ran
  runs_system c system out out' ran loads fine h = record {
    lines = h.lines;
    are = h.are;
    put = h.put;
    ended = asked_system t run path is a b unchanged once c system (behind h.lines ran.report) loads fine h.ended;
    texts = texts_command run (behind h.lines ran.report) h.texts;
  }

  pub runs_refusal : (refusal : NoSystem) (result : Result Report NoMemory) (out : Shown) (ran : Ran) → ran ≡ record { report = result; whole = true } → (IsTrue t → system_at (world_now a) path ≡ Err refusal) → Fails t a b None
      → IfOk result (λ r. r ≡ no_system_report path refusal) → Asks b out out ran
  runs_refusal refusal result out ran same loads fine says =
      ran_quiet t _ _ _ a b out result ran same (command_lines run.command) (asked_refusal t run path is a b unchanged once refusal result loads fine says)
      (texts_refused run path refusal result is says)

  pub runs_fault : (kind : Fault) (result : Result Report NoMemory) (out : Shown) (ran : Ran) → ran ≡ record { report = result; whole = true } → Fails t a b (Some kind) → IfOk result (λ r. r ≡ outside kind) → Asks b out out ran
  runs_fault kind result out ran same fails says =
      ran_quiet t _ _ _ a b out result ran same (command_lines run.command) (asked_fault t run path is a b unchanged once kind result fails says)
      (texts_outside run kind result says)

  pub runs_memory : (memory : NoMemory) (out : Shown) (ran : Ran) → ran ≡ record { report = Err memory; whole = true } → Asks b out out ran
  runs_memory memory out ran same = ran_quiet t _ _ _ a b out (Err memory) ran same (command_lines run.command) (asked_memory t run path is a b unchanged once memory) tt

pub counted_later : (f g k m n p : ℕ) (o : Outcome) → f ≤ g → m ≤ n → OutcomeCounted g k n p o → OutcomeCounted f k m p o
counted_later f g k m n p end.Done fs ms h = (omega (arith, fs, h.0), omega (arith, ms, h.1))
counted_later f g k m n p end.Help fs ms h = (omega (arith, fs, h.0), omega (arith, ms, h.1))
counted_later f g k m n p end.Usage fs ms h = (omega (arith, fs, h.0), omega (arith, ms, h.1))
counted_later f g k m n p end.NoConfig fs ms h = (omega (arith, fs, h.0), omega (arith, ms, h.1))
counted_later f g k m n p (end.BadConfig refusal) fs ms h = (omega (arith, fs, h.0), omega (arith, ms, h.1))
counted_later f g k m n p (end.Install refusal) fs ms h = (omega (arith, fs, h.0), omega (arith, ms, h.1))
counted_later f g k m n p (end.Info refusal) fs ms h = (omega (arith, fs, h.0), omega (arith, ms, h.1))
counted_later f g k m n p (end.Mark refusal) fs ms h = (omega (arith, fs, h.0), omega (arith, ms, h.1))
counted_later f g k m n p (end.Boot refusal) fs ms h = (omega (arith, fs, h.0), omega (arith, ms, h.1))
counted_later f g k m n p (end.Slot refusal) fs ms h = (omega (arith, fs, h.0), omega (arith, ms, h.1))
counted_later f g k m n p (end.Outside kind) fs ms h =
    ((omega (arith, fs, h.0.0), λ same. omega (arith, fs, h.0.0, h.0.1 (omega (arith, fs, h.0.0, same)))), omega (arith, ms, h.1))
counted_later f g k m n p end.NoMemory fs ms h = (omega (arith, fs, h.0), omega (arith, ms, h.1))
