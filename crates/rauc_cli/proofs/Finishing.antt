-- How the program ends.
use Rattle.std.proofs.Common.{◌≡◌, inl, inr, ℕ, Bool, true, List, [], ◌++◌, Option, Some, None, Result, Ok, Err, IsTrue, refl, sym, ◌∙◌, ap, subst}
use Rattle.updater_text.specs.Counts.{CountRose}
use Rattle.std.proofs.lemmas.List.{append-nil}
use Rattle.updater_text.specs.Sinks.{Shown, WritesBoth, WritesText}
use Rattle.updater_text.specs.declared.stops.NoMemory.{NoMemory}
use Rattle.machine.specs.declared.stops.Fault.{Fault}
use Rattle.machine.specs.declared.world.World.{World}
use Rattle.machine.specs.Past.{Past, Held, world_now}
use Rattle.rauc_words.specs.Table.{command_of, slot_word}
use Rattle.rauc_words.specs.declared.asked.Asked.{Asked}
use Rattle.rauc_words.specs.declared.asked.Asked.TheVariants as asked
use Rattle.rauc_words.specs.declared.asked.Command.{Command}
use Rattle.rauc_words.specs.declared.asked.Command.TheVariants.{Install, WriteSlot, Info, Status, Mark}
use Rattle.rauc_words.specs.declared.asked.Run.{Run}
use Rattle.rauc_cli.specs.declared.outcome.Outcome.{Outcome}
use Rattle.rauc_cli.specs.declared.outcome.Outcome.TheVariants as end
use Rattle.rauc_cli.specs.declared.outcome.Ran.{Ran}
use Rattle.rauc_cli.specs.declared.outcome.Report.{Report}
use Rattle.rauc_cli.specs.Lines.{memory_after, memory_report}
use Rattle.rauc_cli.specs.Plans.{AfterAStop, Plan, ReportsBy, fault_in, plan_of}
use Rattle.rauc_cli.specs.Ends.{AskedStands, AsksFor, CarriesOut, CommandTexts, Ended, HasCause, HasLines, HasTexts, InfoTexts, LacksMemory, MarkTexts, OutcomeCounted, Reports, RunTexts, RunsBy, SlotTexts, StandsAStop, StatusTexts, TellsRest}
use Rattle.rauc_cli.proofs.Behind.{writes_more}
use Rattle.rauc_cli.proofs.Installs.{no_install}
use Rattle.rauc_cli.proofs.Sparing.{running_planned, truth_planned}
use Rattle.rauc_cli.proofs.Stopping.{held_planned}

module _ (t : Bool) (words : List (List ℕ)) (a b : Past) where
  abbrev plan : Plan
  plan = plan_of words a b

  done_none : (o : Option Fault) (report : Report) → ReportsBy plan o report → report.outcome ≡ end.Done → o ≡ None
  done_none None report is done = refl
  done_none (Some kind) report is done = absurd (differ kind (sym (ap (λ (r : Report). r.outcome) is) ∙ done))
    where
      differ : (kind : Fault) → end.Outside kind ≡ end.Done → ⊥
      differ kind e = cc

  -- the rest was told, and all of it is told
  both_told : (out err : Shown × Shown) (mid : Shown) (lines rest text_err : List ℕ) (whole told : Bool) → WritesText out.0 mid lines true whole → TellsRest (mid, out.1) err whole rest text_err told → WritesBoth out.0 out.1 err.0 err.1 (lines ++ rest) text_err told
  both_told out err mid lines rest text_err whole told before h = record {
    out_whole = h.out_whole;
    err_whole = h.err_whole;
    on_out = writes_more out.0 mid out.1 lines rest whole h.out_whole before h.on_out;
    on_err = h.on_err;
    both = h.both;
  }

  abbrev Runs : Shown → Shown → Ran → Type 0
  Runs old mid ran = RunsBy t plan (HasTexts (command_of words)) (HasLines (command_of words)) a b old mid ran

  pub reports_whole : (out err : Shown × Shown) (mid : Shown) (report : Report) (whole told : Bool) → Runs out.0 mid (record { report = Ok report; whole = whole }) → TellsRest (mid, out.1) err whole report.out report.err told → Reports t words (a, b) out err (record { outcome = report.outcome; told = told })
  reports_whole out err mid report whole told runs rest = record {
    report = record report { out = runs.lines ++ report.out };
    outcome = refl;
    put = both_told out err mid runs.lines report.out report.err whole told runs.put rest;
    texts = inr runs.texts;
    planned = λ tells. inr (runs.ended.reported tells);
  }

  lacks : (lines : List ℕ) → HasLines (command_of words) lines → LacksMemory (command_of words) (memory_after lines)
  lacks lines are = (lines, are, refl)

  pub reports_memory : (out err : Shown × Shown) (mid : Shown) (memory : NoMemory) (whole told : Bool) → Runs out.0 mid (record { report = Err memory; whole = whole }) → TellsRest (mid, out.1) err whole [] memory_report.err told → Reports t words (a, b) out err (record { outcome = end.NoMemory; told = told })
  reports_memory out err mid memory whole told runs rest =
      let put = both_told out err mid runs.lines [] memory_report.err whole told runs.put rest in
      record {
        report = memory_after runs.lines;
        outcome = refl;
        put = subst (λ (text : List ℕ). WritesBoth out.0 out.1 err.0 err.1 text memory_report.err told) (append-nil runs.lines) put;
        texts = inl (lacks runs.lines runs.are);
        planned = λ tells. inl (lacks runs.lines runs.are);
      }

  carries_whole : (report : Report) → Ended t (plan_of words a b) a b (Ok report) → CarriesOut t words (a, b) report.outcome
  carries_whole report ended = record {
    on_the_way = ended.on_the_way;
    at_the_end = λ tells done. ended.at_the_end tells (done_none (fault_in plan a b) report (ended.reported tells) done);
  }

  carries_memory : (memory : NoMemory) → Ended t (plan_of words a b) a b (Err memory) → CarriesOut t words (a, b) end.NoMemory
  carries_memory memory ended = record { on_the_way = ended.on_the_way; at_the_end = λ tells done. absurd (differ done) }
    where
      differ : end.NoMemory ≡ end.Done → ⊥
      differ e = cc

  pub carries_behind : (old mid : Shown) (report : Report) (whole : Bool) → Runs old mid (record { report = Ok report; whole = whole }) → CarriesOut t words (a, b) report.outcome
  carries_behind old mid report whole runs = carries_whole (record report { out = runs.lines ++ report.out }) runs.ended

  pub carries_lacking : (old mid : Shown) (memory : NoMemory) (whole : Bool) → Runs old mid (record { report = Err memory; whole = whole }) → CarriesOut t words (a, b) end.NoMemory
  carries_lacking old mid memory whole runs = carries_memory memory runs.ended

  pub stands : (result : Result Report NoMemory) → Ended t (plan_of words a b) a b result → AskedStands t (command_of words) a b → StandsAStop t words (a, b)
  stands result ended install =
      let held : IsTrue t → (v : World) → Held a b v → AfterAStop plan.effect (world_now a) v = λ tells v h. held_planned plan.effect a b (ended.on_the_way tells) v h in
      record { held = held; running = running_planned t (command_of words) a b held install; truth = truth_planned t (command_of words) a b held; install = install }

-- the words
asks_run : (run : Run) (outcome : Outcome) (report : Report) → RunTexts run outcome report → report.outcome ≡ outcome → AsksFor (Some (asked.Run run)) outcome
asks_run run end.Done report texts is = tt
asks_run run end.Help report texts is = no_help run.command report texts is
  where
    no_help : (command : Command) (report : Report) → CommandTexts command report → report.outcome ≡ end.Help → ⊥
    no_help (Install bundle ignored) report texts is = no_install bundle report end.Help texts is
    no_help (WriteSlot slot image) report texts is = subst (λ (o : Outcome). SlotTexts slot image o report) is texts
    no_help (Info bundle form) report texts is = subst (λ (o : Outcome). InfoTexts form o report) is texts
    no_help (Status form detailed) report texts is = subst (λ (o : Outcome). StatusTexts form detailed o report) is texts
    no_help (Mark act who) report texts is = subst (λ (o : Outcome). MarkTexts act (slot_word who) o report) is texts
asks_run run end.Usage report texts is = no_usage run.command report texts is
  where
    no_usage : (command : Command) (report : Report) → CommandTexts command report → report.outcome ≡ end.Usage → ⊥
    no_usage (Install bundle ignored) report texts is = no_install bundle report end.Usage texts is
    no_usage (WriteSlot slot image) report texts is = subst (λ (o : Outcome). SlotTexts slot image o report) is texts
    no_usage (Info bundle form) report texts is = subst (λ (o : Outcome). InfoTexts form o report) is texts
    no_usage (Status form detailed) report texts is = subst (λ (o : Outcome). StatusTexts form detailed o report) is texts
    no_usage (Mark act who) report texts is = subst (λ (o : Outcome). MarkTexts act (slot_word who) o report) is texts
asks_run run end.NoConfig report texts is = tt
asks_run run (end.BadConfig refusal) report texts is = tt
asks_run run (end.Install refusal) report texts is = tt
asks_run run (end.Info refusal) report texts is = tt
asks_run run (end.Mark refusal) report texts is = tt
asks_run run (end.Boot refusal) report texts is = tt
asks_run run (end.Slot refusal) report texts is = tt
asks_run run (end.Outside kind) report texts is = tt
asks_run run end.NoMemory report texts is = tt

asks : (asked : Option Asked) (report : Report) → HasTexts asked report → AsksFor asked report.outcome
asks (Some (asked.Run run)) report texts = asks_run run report.outcome report texts refl
asks (Some asked.Help) report texts = inl (ap (λ (r : Report). r.outcome) texts)
asks None report texts = inl (ap (λ (r : Report). r.outcome) texts)

asks_memory : (asked : Option Asked) → AsksFor asked end.NoMemory
asks_memory (Some (asked.Run run)) = tt
asks_memory (Some asked.Help) = inr refl
asks_memory None = inr refl

-- no count rose
quiet_none : (plan : Plan) (o : Option Fault) (report : Report) (f f' n n' : ℕ) → ReportsBy plan o report → OutcomeCounted f f' n n' report.outcome → (CountRose f f' → ⊥) → plan.Reports report
quiet_none plan None report f f' n n' is counted quiet = is
quiet_none plan (Some kind) report f f' n n' is counted quiet =
    absurd (quiet (subst (λ (o : Outcome). OutcomeCounted f f' n n' o) (ap (λ (r : Report). r.outcome) is) counted).0)

cause_whole : (t : Bool) (words : List (List ℕ)) (a b : Past) (faults wants : ℕ × ℕ) (report : Report) → Ended t (plan_of words a b) a b (Ok report) → HasTexts (command_of words) report → OutcomeCounted faults.0 faults.1 wants.0 wants.1 report.outcome → HasCause t words (a, b) faults wants report.outcome
cause_whole t words a b faults wants report ended texts counted = record {
  asked = asks (command_of words) report texts;
  counted = counted;
  complete = λ tells quiet.
      inr (report, quiet_none (plan_of words a b) (fault_in (plan_of words a b) a b) report faults.0 faults.1 wants.0 wants.1 (ended.reported tells) counted quiet, refl);
}

pub cause_memory : (t : Bool) (words : List (List ℕ)) (a b : Past) (faults wants : ℕ × ℕ) → OutcomeCounted faults.0 faults.1 wants.0 wants.1 end.NoMemory → HasCause t words (a, b) faults wants end.NoMemory
cause_memory t words a b faults wants counted = record { asked = asks_memory (command_of words); counted = counted; complete = λ tells quiet. inl refl }

pub cause_behind : (t : Bool) (words : List (List ℕ)) (a b : Past) (faults wants : ℕ × ℕ) (old mid : Shown) (report : Report) (whole : Bool)
    → RunsBy t (plan_of words a b) (HasTexts (command_of words)) (HasLines (command_of words)) a b old mid (record { report = Ok report; whole = whole })
    → OutcomeCounted faults.0 faults.1 wants.0 wants.1 report.outcome → HasCause t words (a, b) faults wants report.outcome
cause_behind t words a b faults wants old mid report whole runs counted =
    cause_whole t words a b faults wants (record report { out = runs.lines ++ report.out }) runs.ended runs.texts counted
