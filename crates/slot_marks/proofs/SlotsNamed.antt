-- The slot that was chosen, and its bootname.
use Rattle.std.proofs.Common.{◌≡◌, ◌<◌, ℕ, zero, suc, true, false, cond, ◌||◌, List, [], ◌∷◌, length, Option, Some, None, Result, Ok, Err, refl, sym, ◌∙◌, ap, subst, arith}
use Rattle.std.specs.Prelude.{bytes_eq, is_some, unwrap_or}
use Rattle.std.specs.List.{cons_option}
use Rattle.std.proofs.lemmas.Bool.{true≢false}
use Rattle.std.proofs.lemmas.Slice.Eq.{bytes_eq-Decides}
use Rattle.boot_state.specs.Orders.{has_word}
use Rattle.machine.specs.declared.stops.Stop.{Stop}
use Rattle.machine.specs.declared.stops.Stop.TheVariants.{Refused, Outside, NoMemory}
use Rattle.system_conf.specs.declared.slot.Slot.{Slot}
use Rattle.boot_backends.specs.declared.refusal.BootRefusal.{BootRefusal}
use Rattle.boot_backends.specs.Marked.{is_boot_name, names_of}
use Rattle.slot_marks.specs.declared.naming.Action.{Action}
use Rattle.slot_marks.specs.declared.naming.Marked.{Marked}
use Rattle.slot_marks.specs.declared.refusal.MarkRefusal.{MarkRefusal}
use Rattle.slot_marks.specs.declared.refusal.MarkRefusal.TheVariants as mark
use Rattle.slot_marks.specs.Answers.{MarkedFor, MarkedThere}
use Rattle.slot_marks.specs.Choice.{bootname_at, with_bootname}
use Rattle.slot_marks.specs.Marking.{ChosenFor, boot_stop, bootname_text, marked_at}

-- ---- the bootname of a slot is one of the system's

has_more : (name : List ℕ) (other : Option (List ℕ)) (names : List (List ℕ)) → has_word names name ≡ true → has_word (cons_option other names) name ≡ true
has_more name None names has = has
has_more name (Some other) names has =
    elim (bytes_eq other name) as (λ b. b || has_word names name ≡ true) [ true ↦ refl | false ↦ has ]

has_first : (other : Option (List ℕ)) (names : List (List ℕ)) → is_some other ≡ true → has_word (cons_option other names) (unwrap_or other []) ≡ true
has_first None names some = absurd (true≢false (sym some))
has_first (Some name) names some = rw ((bytes_eq-Decides name name).1 refl) refl

pub bootname_listed : (slots : List Slot) (at : ℕ) → is_some (bootname_at slots at) ≡ true → is_boot_name slots (bootname_text slots at) ≡ true
bootname_listed [] at some = absurd (true≢false (sym some))
bootname_listed (s ∷ slots) zero some = has_first s.bootname (names_of slots) some
bootname_listed (s ∷ slots) (suc at) some = has_more (bootname_text slots at) s.bootname (names_of slots) (bootname_listed slots at some)

-- and a slot that has one is there
pub bootname_within : (slots : List Slot) (at : ℕ) → is_some (bootname_at slots at) ≡ true → at < length slots
bootname_within [] at some = absurd (true≢false (sym some))
bootname_within (s ∷ slots) zero some = omega arith
bootname_within (s ∷ slots) (suc at) some = omega (arith, bootname_within slots at some)

-- a slot that was chosen has one
pub chosen_named : (slots : List Slot) (found : Result ℕ MarkRefusal) (at : ℕ) → with_bootname slots found ≡ Ok at → is_some (bootname_at slots at) ≡ true
chosen_named slots (Ok other) at is =
    elim (is_some (bootname_at slots other)) as (λ b. is_some (bootname_at slots other) ≡ b → ◌≡◌ {A = Result ℕ MarkRefusal} (cond b (Ok other) (Err (mark.NoBootName other))) (Ok at) → is_some (bootname_at slots at) ≡ true) [
      | true ↦ λ has e. let same : other ≡ at = cc in subst (λ (k : ℕ). is_some (bootname_at slots k) ≡ true) same has
      | false ↦ λ has e. absurd (cc)
    ] refl is
chosen_named slots (Err why) at is = absurd (cc)

-- ---- told or not

pub named_by : (slots : List Slot) (act : Action) (who : List ℕ) (at : ℕ) (result : Result Marked (Stop MarkRefusal)) → ChosenFor slots who (Ok at) → MarkedThere slots act at result → MarkedFor slots act who result
named_by slots act who at (Ok marked) chosen is =
    let there : at ≡ marked.slot = sym (ap (λ (x : Marked). x.slot) is) in
    (subst (λ (k : ℕ). ChosenFor slots who (Ok k)) there chosen, is ∙ ap (λ (k : ℕ). marked_at slots act k marked.book_unread) there)
named_by slots act who at (Err (Refused (mark.Status why))) chosen is = tt
named_by slots act who at (Err (Refused (mark.Boot why))) chosen is = tt
named_by slots act who at (Err (Refused (mark.NoSuchSlot text))) chosen is = absurd is
named_by slots act who at (Err (Refused mark.NoOther)) chosen is = absurd is
named_by slots act who at (Err (Refused (mark.ManyOther count))) chosen is = absurd is
named_by slots act who at (Err (Refused (mark.NoBootName slot))) chosen is = absurd is
named_by slots act who at (Err (Outside kind)) chosen is = tt
named_by slots act who at (Err NoMemory) chosen is = tt

pub refused_by : (slots : List Slot) (act : Action) (who : List ℕ) (stop : Stop MarkRefusal) → ChosenFor slots who (Err stop) → MarkedFor slots act who (Err stop)
refused_by slots act who (Refused (mark.Status why)) chosen = tt
refused_by slots act who (Refused (mark.Boot why)) chosen = tt
refused_by slots act who (Refused (mark.NoSuchSlot text)) chosen = chosen
refused_by slots act who (Refused mark.NoOther) chosen = chosen
refused_by slots act who (Refused (mark.ManyOther count)) chosen = chosen
refused_by slots act who (Refused (mark.NoBootName slot)) chosen = chosen
refused_by slots act who (Outside kind) chosen = tt
refused_by slots act who NoMemory chosen = tt

-- the programs of the boot loader stopped
pub stopped_there : (slots : List Slot) (act : Action) (at : ℕ) (stop : Stop BootRefusal) → MarkedThere slots act at (Err (boot_stop stop))
stopped_there slots act at (Refused why) = tt
stopped_there slots act at (Outside kind) = tt
stopped_there slots act at NoMemory = tt
