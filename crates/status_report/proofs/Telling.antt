-- What a view tells of the world and of the boot variables.
use Rattle.std.proofs.Common.{◌≡◌, ◌||◌, ℕ, Bool, true, false, List, [], ◌∷◌, map, Option, Some, None, refl, ◌∙◌, ap, ap₂, subst}
use Rattle.std.specs.Prelude.{bytes_eq, option_and_then, option_map, position}
use Rattle.std.specs.List.{cons_option}
use Rattle.std.proofs.lemmas.Slice.Eq.{bytes_eq-Decides}
use Rattle.boot_model.specs.Vars.{Variables}
use Rattle.boot_model.specs.declared.boot_kind.BootKind.{BootKind}
use Rattle.boot_state.specs.Orders.{has_word}
use Rattle.boot_state.specs.States.{good}
use Rattle.boot_outputs.specs.Saw.{TellsStates}
use Rattle.boot_backends.specs.Marked.{Told, has_boot_name, names_of}
use Rattle.boot_backends.proofs.Truth.{honest_splits}
use Rattle.machine.specs.declared.world.World.{World}
use Rattle.machine.specs.Past.{Grows, Past, world_now}
use Rattle.running_system.specs.Running.{what_runs}
use Rattle.slot_graph.specs.Booted.{states_of}
use Rattle.status_file.specs.declared.reading.StatusRead.{StatusRead}
use Rattle.status_file.specs.Status.{IsStored, book_in, is_unread, status_bytes}
use Rattle.system_conf.specs.declared.slot.Slot.{Slot}
use Rattle.system_conf.specs.Configuration.{Configuration}
use Rattle.status_report.specs.declared.view.StatusView.{StatusView}
use Rattle.status_report.specs.Views.{TellsBoot, TellsVars, TellsWorld, is_good}

-- ---- the world

module _ (s : Configuration) (given : Option (List ℕ)) (w v : World) (view : StatusView) (stored : StatusRead) where
  pub tells_world : view.booted ≡ what_runs s.slots given w → view.states ≡ states_of s.slots view.booted → v ≡ record w { runs = v.runs } → IsStored s v stored → view.book ≡ stored.book → view.book_unread ≡ stored.unread → TellsWorld s given w view
  tells_world booted states same is book unread =
      let there = ap (λ (u : World). status_bytes s u) same in
      record {
        booted = booted;
        states = states ∙ ap (states_of s.slots) booted;
        book = book ∙ is.book ∙ ap (book_in s.slots) there;
        book_unread = unread ∙ is.unread ∙ ap (is_unread s.slots) there;
      }

-- ---- the boot variables

or_second : (a b : Bool) → b ≡ true → (a || b) ≡ true
or_second true b h = refl
or_second false b h = h

-- of slots whose bootnames are good alike
good_alike : (boot : BootKind) (read vars : Variables) (all slots : List Slot) → ((name : List ℕ) → has_word (names_of slots) name ≡ true → good boot read (names_of all) name ≡ good boot vars (names_of all) name) → map (is_good boot read all) slots ≡ map (is_good boot vars all) slots
good_alike boot read vars all [] alike = refl
good_alike boot read vars all (s ∷ slots) alike =
    ap₂ (λ (g : Option Bool) (gs : List (Option Bool)). g ∷ gs) (first s.bootname alike)
    (good_alike boot read vars all slots (λ name has. alike name (rest s.bootname name has)))
  where
    first : (bootname : Option (List ℕ)) → ((name : List ℕ) → has_word (cons_option bootname (names_of slots)) name ≡ true → good boot read (names_of all) name ≡ good boot vars (names_of all) name) → option_map (λ name. good boot read (names_of all) name) bootname ≡ option_map (λ name. good boot vars (names_of all) name) bootname
    first None alike = refl
    first (Some name) alike = ap (λ (b : Bool). Some b) (alike name (rw ((bytes_eq-Decides name name).1 refl) refl))

    rest : (bootname : Option (List ℕ)) (name : List ℕ) → has_word (names_of slots) name ≡ true → has_word (cons_option bootname (names_of slots)) name ≡ true
    rest None name has = has
    rest (Some other) name has = or_second (bytes_eq other name) (has_word (names_of slots) name) has

-- what was read tells what the variables tell
tells_alike : (s : Configuration) (read vars : Variables) (view : StatusView) → TellsStates s.boot (names_of s.slots) vars read → TellsVars s read view → TellsVars s vars view
tells_alike s read vars view states tells = record {
  primary = tells.primary ∙ ap (λ (name : Option (List ℕ)). option_and_then (λ n. position (has_boot_name n) s.slots) name) states.primary;
  good = tells.good ∙ good_alike s.boot read vars s.slots s.slots states.good;
}

pub tells_boot : (s : Configuration) (a b c d : Past) (read : Variables) (view : StatusView) → world_now b ≡ world_now a → Grows a b → Grows b c → Grows c d → Grows b d → Told s.boot (names_of s.slots) b c read → TellsVars s read view → TellsBoot s a d view
tells_boot s a b c d read view same ab bc cd bd told tells = λ honest.
    let later = (honest_splits s.boot a b d ab bd honest).1 in
    let here = (honest_splits s.boot b c d bc cd later).0 in
    tells_alike s read (world_now a).vars view (subst (λ (w : World). TellsStates s.boot (names_of s.slots) w.vars read) same (told here)) tells
