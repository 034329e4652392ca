-- Reports behind lines that were put as they came.
use Rattle.std.proofs.Common.{◌≡◌, ℕ, Bool, true, List, [], ◌∷◌, ◌++◌, Option, Some, None, Result, Ok, Err, IfOk, refl, sym, subst}
use Rattle.updater_text.specs.Sinks.{Shown, WritesText}
use Rattle.updater_text.specs.declared.stops.NoMemory.{NoMemory}
use Rattle.install_notes.proofs.Texts.{text_more}
use Rattle.machine.specs.Past.{Past}
use Rattle.rauc_words.specs.Table.{command_of}
use Rattle.rauc_words.specs.declared.asked.Asked.{Asked}
use Rattle.rauc_words.specs.declared.asked.Asked.TheVariants as asked
use Rattle.rauc_words.specs.declared.asked.Command.{Command}
use Rattle.rauc_words.specs.declared.asked.Command.TheVariants.{Install, WriteSlot, Info, Status, Mark}
use Rattle.rauc_cli.specs.declared.outcome.Ran.{Ran}
use Rattle.rauc_cli.specs.declared.outcome.Report.{Report}
use Rattle.rauc_cli.specs.Plans.{Plan, asked_plan, plan_of}
use Rattle.rauc_cli.specs.Ends.{CommandLines, Ended, HasLines, HasTexts, RunsBy, behind}

behind_none : (result : Result Report NoMemory) → behind [] result ≡ result
behind_none (Ok report) = refl
behind_none (Err memory) = refl

-- nothing was put before the report
pub runs_quiet : (t : Bool) (plan : Plan) (Texts : Report → Type 0) (Lines : List ℕ → Type 0) (a b : Past) (out : Shown) (result : Result Report NoMemory) → Lines [] → Ended t plan a b result → IfOk result Texts → RunsBy t plan Texts Lines a b out out (record { report = result; whole = true })
runs_quiet t plan Texts Lines a b out result none ended texts = record {
  lines = [];
  are = none;
  put = (refl, refl);
  ended = subst (λ (r : Result Report NoMemory). Ended t plan a b r) (sym (behind_none result)) ended;
  texts = subst (λ (r : Result Report NoMemory). IfOk r Texts) (sym (behind_none result)) texts;
}

pub ran_quiet : (t : Bool) (plan : Plan) (Texts : Report → Type 0) (Lines : List ℕ → Type 0) (a b : Past) (out : Shown) (result : Result Report NoMemory) (ran : Ran) → ran ≡ record { report = result; whole = true } → Lines [] → Ended t plan a b result → IfOk result Texts → RunsBy t plan Texts Lines a b out out ran
ran_quiet t plan Texts Lines a b out result ran is none ended texts =
    subst (λ (r : Ran). RunsBy t plan Texts Lines a b out out r) (sym is) (runs_quiet t plan Texts Lines a b out result none ended texts)

-- so of words, by what they ask for
pub words_quiet : (t : Bool) (words : List (List ℕ)) (a b : Past) (out : Shown) (asks : Option Asked) (result : Result Report NoMemory) (ran : Ran) → asks ≡ command_of words → ran ≡ record { report = result; whole = true } → HasLines asks [] → Ended t (asked_plan a b asks) a b result → IfOk result (HasTexts asks)
    → RunsBy t (plan_of words a b) (HasTexts (command_of words)) (HasLines (command_of words)) a b out out ran
words_quiet t words a b out asks result ran same is none ended texts =
    subst (λ (o : Option Asked). RunsBy t (asked_plan a b o) (HasTexts o) (HasLines o) a b out out ran) same
    (ran_quiet t (asked_plan a b asks) (HasTexts asks) (HasLines asks) a b out result ran is none ended texts)

-- before their report, commands put nothing
pub command_lines : (command : Command) → CommandLines command []
command_lines (Install bundle ignored) = ([], refl)
command_lines (WriteSlot slot image) = refl
command_lines (Info bundle form) = refl
command_lines (Status form detailed) = refl
command_lines (Mark act who) = refl

pub asked_lines : (asks : Option Asked) → HasLines asks []
asked_lines (Some (asked.Run run)) = command_lines run.command
asked_lines (Some asked.Help) = refl
asked_lines None = refl

-- a text, and then a text where that is whole
pub writes_more : (a b c : Shown) (s t : List ℕ) (v w : Bool) → WritesText a b s true v → WritesText b c t v w → WritesText a c (s ++ t) true w
writes_more a b c [] t v w p h =
    subst (λ (x : Shown). WritesText x c t true w) p.0 (subst (λ (x : Bool). WritesText b c t x w) p.1 h)
writes_more a b c (x ∷ s) t v w p h = text_more a b c (x ∷ s) t v w p h
