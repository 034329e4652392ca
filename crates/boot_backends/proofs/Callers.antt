-- What callers get of a mark and of a reading.
use Rattle.std.proofs.Common.{◌≡◌, ◌≢◌, inl, inr, ℕ, true, List, [], ◌++◌, Option, Some, Result, Ok, Err, IsTrue, refl, sym, ◌∙◌, ap, subst}
use Rattle.std.specs.Prelude.{⊤, IfOk, OnOk, option_and_then, position, unwrap_or}
use Rattle.std.specs.FinMap as fin
use Rattle.std.specs.List.{list_all}
use Rattle.boot_model.specs.Vars.{Variables}
use Rattle.boot_model.specs.declared.boot_kind.BootKind.{BootKind}
use Rattle.boot_state.specs.Orders.{has_word}
use Rattle.boot_state.specs.States.{KeepsName, primary}
use Rattle.boot_state.proofs.Marks.{bad_down, down_not_primary}
use Rattle.boot_commands.specs.declared.command.Command.{Command}
use Rattle.boot_commands.specs.declared.command.Mark.{Mark}
use Rattle.boot_commands.specs.declared.command.Mark.TheVariants.{Bad}
use Rattle.boot_commands.specs.Effects.{commands_of, is_name, vars_after}
use Rattle.boot_commands.specs.Plans.{looks, readings}
use Rattle.boot_commands.proofs.Keeping.{commands_keep}
use Rattle.boot_commands.proofs.Names.{names_words}
use Rattle.boot_outputs.proofs.Tells.{readings_tell}
use Rattle.machine.specs.declared.stops.Stop.{Stop}
use Rattle.machine.specs.declared.world.RunNote.{RunNote}
use Rattle.machine.specs.declared.world.World.{World}
use Rattle.machine.specs.Crash.{Crash, is_in}
use Rattle.machine.specs.World.{disk_byte, disk_length}
use Rattle.machine.specs.Past.{Always, Grows, Held, Past, world_now}
use Rattle.machine.proofs.Moments.{always_weaker, held_of, was_now}
use Rattle.boot_backends.specs.declared.refusal.BootRefusal.{BootRefusal}
use Rattle.boot_backends.specs.Ends.{Finishes, Marks}
use Rattle.boot_backends.specs.Honest.{Honest}
use Rattle.system_conf.specs.declared.slot.Slot.{Slot}
use Rattle.system_conf.specs.Formed.{is_boot_formed}
use Rattle.boot_backends.specs.Causes.{CommandsCause}
use Rattle.boot_backends.specs.Marked.{Downs, KeepsOthers, Led, OnlyReadVars, PrimaryCause, PrimaryTold, Told, has_boot_name, names_of, primary_slot}
use Rattle.boot_backends.specs.Through.{StoppedThrough, Through}
use Rattle.boot_backends.proofs.AnyLoader.{any_reading_keeps}
use Rattle.boot_backends.proofs.Truth.{honest_splits, marks_left, saw, told}
use Rattle.boot_backends.proofs.Worlds.{looked_through, through, written_through}

-- what a stop leaves
pub stopped : (boot : BootKind) (cs : List Command) (w u v : World) → Through boot cs w u → Crash u v → StoppedThrough boot cs w v
stopped boot cs w u v t crash = record {
  files = crash.files ∙ ap (λ (x : World). x.files) t.rest;
  writes = crash.writes ∙ ap (λ (x : World). x.writes) t.rest;
  lengths = λ path. crash.lengths path ∙ ap (λ (x : World). disk_length x path) t.rest;
  bytes = λ path i none. crash.bytes path i (ap (λ (x : World). is_in x.pending path i) t.rest ∙ none) ∙ ap (λ (x : World). disk_byte x path i) t.rest;
  vars = record { done = t.vars.done; left = t.vars.left; order = t.vars.order; vars = crash.vars ∙ t.vars.vars };
  runs = record { notes = t.runs.notes; runs = crash.runs ∙ t.runs.runs; order = t.runs.order };
}

module _ (kind : BootKind) (names : List (List ℕ)) (mark : Mark) (name : List ℕ) (a z : Past) (result : Result ⊤ (Stop BootRefusal)) where
  -- it leads where each world was on the way
  pub led_by : (read : Variables) → Always a z (Through a.boot (commands_of kind names mark name read) (world_now a)) → Led kind names mark name a z
  led_by read moments = record {
    read = read;
    moments = moments;
    stops = λ v held.
        let cs = commands_of kind names mark name read in
        held_of a z (Through a.boot cs (world_now a)) (StoppedThrough a.boot cs (world_now a)) moments (λ u x t crash. stopped a.boot cs (world_now a) u x t crash) v held;
  }

  pub marks_led : Marks kind names mark name a z result → Led kind names mark name a z
  marks_led (inl h) = led_by fin.empty (looked_through kind names mark name a z fin.empty h.0 h.2)
  marks_led (inr h) = led_by h.0 (written_through kind names mark name a z h.0 h.1.0 result h.1.1 h.1.2)

  -- with honest programs, by the variables before
  led_honest : has_word names name ≡ true → Marks kind names mark name a z result → Honest kind a z → Always a z (Through a.boot (commands_of kind names mark name (world_now a).vars) (world_now a))
  led_honest has (inl h) honest = looked_through kind names mark name a z (world_now a).vars h.0 h.2
  led_honest has (inr h) honest =
      subst (λ (o : Option (List Command)). Always a z (Through a.boot (looks kind names mark ++ unwrap_or o []) (world_now a)))
      (told kind names mark name has h.0 a h.1.0 z result h.1.1 h.1.2 honest)
      (written_through kind names mark name a z h.0 h.1.0 result h.1.1 h.1.2)

  -- other names keep what they are
  pub marks_keep_others : has_word names name ≡ true → list_all is_name names ≡ true → is_name name ≡ true → Marks kind names mark name a z result → KeepsOthers kind names name a z
  marks_keep_others has are is marks = λ honest other ne v held.
      let vars = (world_now a).vars in
      let cs = commands_of kind names mark name vars in
      let P : Variables → Type 0 = λ w. KeepsName kind names other vars w in
      let led = subst (λ (k : BootKind). Always a z (Through k cs (world_now a))) honest.boot (led_honest has marks honest) in
      held_of a z (Through kind cs (world_now a)) (λ x. P x.vars) led
      (λ u x t crash. subst P (sym (crash.vars ∙ t.vars.vars)) (commands_keep names name other vars ne kind is are mark t.vars.done t.vars.left t.vars.order))
      v held

-- a name that was marked bad is down
pub marks_down : (kind : BootKind) (names : List (List ℕ)) (name : List ℕ) (a z : Past) (result : Result ⊤ (Stop BootRefusal)) → has_word names name ≡ true → list_all is_name names ≡ true → is_name name ≡ true → Marks kind names Bad name a z result → OnOk result (Downs kind name a z)
marks_down kind names name a z (Ok x) has are is marks = λ honest. bad_down kind names name (world_now a).vars (world_now z).vars (marks_left kind names Bad name has a z (Ok x) are is marks honest)
marks_down kind names name a z (Err e) has are is marks = tt

-- a stop that leaves all as it is
as_it_is : (w : World) → Crash w (record w { pending = [] })
as_it_is w = record {
  files = refl;
  vars = refl;
  writes = refl;
  runs = refl;
  fetched = refl;
  pending = refl;
  lengths = λ path. refl;
  bytes = λ path i none. refl;
}

-- other names keep what they are once the mark has ended, too
pub keeps_now : (kind : BootKind) (names : List (List ℕ)) (name other : List ℕ) (a z : Past) → Grows a z → KeepsOthers kind names name a z → Honest kind a z → other ≢ name → KeepsName kind names other (world_now a).vars (world_now z).vars
keeps_now kind names name other a z grown keeps honest ne =
    keeps honest other ne (record (world_now z) { pending = [] }) (world_now z, was_now a z grown, as_it_is (world_now z))

-- so a name that was marked bad stays down through marks of other names, one after another
pub still_down : (kind : BootKind) (names : List (List ℕ)) (bad other : List ℕ) (a b c : Past) → bad ≢ other → Downs kind bad a b → KeepsOthers kind names other b c → Grows a b → Grows b c → Downs kind bad a c
still_down kind names bad other a b c ne downs keeps ab bc = λ honest.
    let both = honest_splits kind a b c ab bc honest in
    (keeps_now kind names other bad b c bc keeps both.1 ne).stays_down (downs both.0)

-- and is not primary wherever such a mark stops
pub stays_down : (kind : BootKind) (names : List (List ℕ)) (bad other : List ℕ) (a b c : Past) → bad ≢ other → Downs kind bad a b → KeepsOthers kind names other b c → Grows a b → Grows b c → Honest kind a c → (v : World) → Held b c v → primary kind v.vars names ≢ Some bad
stays_down kind names bad other a b c ne downs keeps ab bc honest v held =
    let both = honest_splits kind a b c ab bc honest in
    down_not_primary kind v.vars names bad ((keeps both.1 bad ne v held).stays_down (downs both.0))

-- ---- the reading of all variables

reads_only : (kind boot : BootKind) (names : List (List ℕ)) (w u : World) → ((done left : List Command) → readings kind names ≡ done ++ left → vars_after boot done w.vars ≡ w.vars) → Through boot (readings kind names) w u → OnlyReadVars kind names w u
reads_only kind boot names w u keeps t =
    let same = t.vars.vars ∙ keeps t.vars.done t.vars.left t.vars.order in
    record {
      rest = t.rest ∙ ap (λ (vars : Variables). record w { vars = vars; runs = u.runs }) same;
      runs = t.runs;
    }

pub reading_keeps : (kind : BootKind) (names : List (List ℕ)) (a z : Past) (result : Result Variables (Stop BootRefusal)) → IsTrue (is_boot_formed kind) → Finishes (readings kind names) fin.empty a z result → Always a z (OnlyReadVars kind names (world_now a))
reading_keeps kind names a z result formed h =
    always_weaker a z (Through a.boot (readings kind names) (world_now a)) (OnlyReadVars kind names (world_now a))
    (λ u t. reads_only kind a.boot names (world_now a) u (λ done left e. any_reading_keeps a.boot kind names (world_now a).vars done left formed e) t)
    (through (readings kind names) fin.empty a z result h)

-- the commands are those of these names
pub finishes_of : (kind : BootKind) (given names : List (List ℕ)) (commands : List Command) (a z : Past) (result : Result Variables (Stop BootRefusal)) → given ≡ names → commands ≡ readings kind given → Finishes commands fin.empty a z result → Finishes (readings kind names) fin.empty a z result
finishes_of kind given names commands a z result same are h =
    subst (λ (cs : List Command). Finishes cs fin.empty a z result) (are ∙ ap (λ (ns : List (List ℕ)). readings kind ns) same) h

pub reading_tells : (kind : BootKind) (names : List (List ℕ)) (a z : Past) (result : Result Variables (Stop BootRefusal)) → list_all is_name names ≡ true → Finishes (readings kind names) fin.empty a z result → IfOk result (Told kind names a z)
reading_tells kind names a z (Ok read) are h = λ honest. readings_tell kind names (world_now a).vars read (names_words names are) (saw kind (readings kind names) fin.empty read a z h honest)
reading_tells kind names a z (Err stop) are h = tt

-- ---- the primary slot

pub primary_told : (kind : BootKind) (slots : List Slot) (a z : Past) (read : Variables) (at : Option ℕ) → at ≡ primary_slot kind read slots → Told kind (names_of slots) a z read → PrimaryTold kind slots a z at
primary_told kind slots a z read at is tells = λ honest.
    is ∙ ap (λ (name : Option (List ℕ)). option_and_then (λ n. position (has_boot_name n) slots) name) (tells honest).primary

pub primary_cause : (kind : BootKind) (slots : List Slot) (notes : List RunNote) (read : Variables) (at : Option ℕ) → at ≡ primary_slot kind read slots → CommandsCause (readings kind (names_of slots)) fin.empty notes (Ok read) → PrimaryCause kind slots notes (Ok at)
primary_cause kind slots notes read at is served = (read, served, is)
