-- Commands that are run one after another: one more, and where one stops.
use Rattle.std.proofs.Common.{◌≡◌, ◌⊎◌, inl, inr, ℕ, ◌+◌, List, [], ◌∷◌, ◌++◌, take, drop, get_or, Option, Some, None, Result, Ok, Err, refl, sym, ◌∙◌, ap, subst}
use Rattle.std.specs.Prelude.{slice_get, ⊤}
use Rattle.std.specs.FinMap as fin
use Rattle.std.proofs.lemmas.List.{take_more, drop_more, take-append-drop}
use Rattle.std.proofs.lemmas.Option.{slice_get_within, get_or_from_slice_get}
use Rattle.boot_model.specs.Vars.{Variables}
use Rattle.boot_model.specs.declared.boot_kind.BootKind.{BootKind}
use Rattle.boot_commands.specs.declared.command.Command.{Command}
use Rattle.boot_commands.specs.declared.command.Mark.{Mark}
use Rattle.boot_commands.specs.Plans.{looks, plan}
use Rattle.machine.specs.declared.stops.Stop.{Stop}
use Rattle.machine.specs.declared.stops.Stop.TheVariants.{Refused, NoMemory}
use Rattle.machine.specs.Past.{Past}
use Rattle.boot_backends.specs.declared.refusal.BootRefusal.{BootRefusal}
use Rattle.boot_backends.specs.declared.refusal.BootRefusal.TheVariants.{Unlisted}
use Rattle.boot_backends.specs.Ends.{OneEnds, Finishes, Marks, Writes}

pub same_ok : {v r : Variables} → (◌≡◌ {A = Result Variables (Stop BootRefusal)} (Ok v) (Ok r)) ⊎ (◌≡◌ {A = Result Variables (Stop BootRefusal)} (Ok v) (Err NoMemory)) → v ≡ r
same_ok (inl e) = cc
same_ok (inr e) = cc

pub no_stop : {v : Variables} {stop : Stop BootRefusal} → ◌≡◌ {A = Result Variables (Stop BootRefusal)} (Ok v) (Err stop) → ⊥
no_stop e = cc

finishes_more : (cs : List Command) (c : Command) (r : Variables) (a b z : Past) (v w : Variables) → Finishes cs r a b (Ok v) → OneEnds c v w b z (Ok tt) → Finishes (cs ++ c ∷ []) r a z (Ok w)
finishes_more [] c r a b z v w h one =
    let start = subst (λ (p : Past). OneEnds c v w p z (Ok tt)) h.0 one in
    inr (w, (z, subst (λ (x : Variables). OneEnds c x w a z (Ok tt)) (same_ok h.1) start, (refl, inl refl)))
finishes_more (d ∷ cs) c r a b z v w (inl h) one = absurd (no_stop h.2)
finishes_more (d ∷ cs) c r a b z v w (inr h) one = inr (h.0, (h.1.0, h.1.1, finishes_more cs c h.0 h.1.0 b z v w h.1.2 one))

finishes_stops : (cs : List Command) (c : Command) (rest : List Command) (r : Variables) (a b z : Past) (v w : Variables) (stop : Stop BootRefusal) → Finishes cs r a b (Ok v) → OneEnds c v w b z (Err stop) → Finishes (cs ++ c ∷ rest) r a z (Err stop)
finishes_stops [] c rest r a b z v w stop h one =
    let start = subst (λ (p : Past). OneEnds c v w p z (Err stop)) h.0 one in
    inl (stop, w, refl, subst (λ (x : Variables). OneEnds c x w a z (Err stop)) (same_ok h.1) start)
finishes_stops (d ∷ cs) c rest r a b z v w stop (inl h) one = absurd (no_stop h.2)
finishes_stops (d ∷ cs) c rest r a b z v w stop (inr h) one = inr (h.0, (h.1.0, h.1.1, finishes_stops cs c rest h.0 h.1.0 b z v w stop h.1.2 one))

-- in a loop over the commands
pub ran_more : (cs : List Command) (n : ℕ) (c : Command) (r : Variables) (a b z : Past) (v w : Variables) → slice_get cs n ≡ Some c → Finishes (take n cs) r a b (Ok v) → OneEnds c v w b z (Ok tt) → Finishes (take (n + 1) cs) r a z (Ok w)
ran_more cs n c r a b z v w at so_far one =
    let here : get_or cs n c ≡ c = get_or_from_slice_get cs n c c at in
    let longer : take (n + 1) cs ≡ take n cs ++ c ∷ [] = take_more cs n c (slice_get_within cs n c at) ∙ ap (λ (x : Command). take n cs ++ x ∷ []) here in
    subst (λ (xs : List Command). Finishes xs r a z (Ok w)) (sym longer) (finishes_more (take n cs) c r a b z v w so_far one)

pub ran_stops : (cs : List Command) (n : ℕ) (c : Command) (r : Variables) (a b z : Past) (v w : Variables) (stop : Stop BootRefusal) → slice_get cs n ≡ Some c → Finishes (take n cs) r a b (Ok v) → OneEnds c v w b z (Err stop) → Finishes cs r a z (Err stop)
ran_stops cs n c r a b z v w stop at so_far one =
    let here : get_or cs n c ≡ c = get_or_from_slice_get cs n c c at in
    let parts : take n cs ++ c ∷ drop (n + 1) cs ≡ cs = ap (λ (x : Command). take n cs ++ x ∷ drop (n + 1) cs) (sym here) ∙ ap (λ (xs : List Command). take n cs ++ xs) (sym (drop_more cs n c (slice_get_within cs n c at))) ∙ take-append-drop n cs in
    subst (λ (xs : List Command). Finishes xs r a z (Err stop)) parts (finishes_stops (take n cs) c (drop (n + 1) cs) r a b z v w stop so_far one)

-- out of memory before the first
pub no_memory_first : (cs : List Command) (r : Variables) (a : Past) → Finishes cs r a a (Err NoMemory)
no_memory_first [] r a = (refl, inr refl)
no_memory_first (c ∷ cs) r a = inl (NoMemory, r, refl, inl refl)

pub no_memory_then : (p : Option (List Command)) (name : List ℕ) (a : Past) → Writes p name a a (Err NoMemory)
no_memory_then None name a = (refl, inr refl)
no_memory_then (Some cs) name a = no_memory_first cs _ a

-- what is planned
pub writes_done : (plan : Option (List Command)) (cs seen : List Command) (name : List ℕ) (a z : Past) (last : Variables) → plan ≡ Some cs → seen ≡ cs → Finishes seen fin.empty a z (Ok last) → Writes plan name a z (Ok tt)
writes_done plan cs seen name a z last some is h =
    subst (λ (p : Option (List Command)). Writes p name a z (Ok tt)) (sym some) (last, subst (λ (xs : List Command). Finishes xs fin.empty a z (Ok last)) is h)

pub writes_stopped : (plan : Option (List Command)) (cs seen : List Command) (name : List ℕ) (a z : Past) (stop : Stop BootRefusal) → plan ≡ Some cs → seen ≡ cs → Finishes seen fin.empty a z (Err stop) → Writes plan name a z (Err stop)
writes_stopped plan cs seen name a z stop some is h =
    subst (λ (p : Option (List Command)). Writes p name a z (Err stop)) (sym some) (subst (λ (xs : List Command). Finishes xs fin.empty a z (Err stop)) is h)

pub writes_unlisted : (plan : Option (List Command)) (name named : List ℕ) (a : Past) → plan ≡ None → named ≡ name → Writes plan name a a (Err (Refused (Unlisted named)))
writes_unlisted plan name named a none same =
    subst (λ (p : Option (List Command)). Writes p name a a (Err (Refused (Unlisted named)))) (sym none)
    (refl, inl (ap (λ (n : List ℕ). Err (Refused (Unlisted n))) same))

-- a mark, by its two lists
module _ (kind : BootKind) (names : List (List ℕ)) (mark : Mark) (name : List ℕ) (a : Past) where
  pub marks_memory : Marks kind names mark name a a (Err NoMemory)
  marks_memory = inl (NoMemory, refl, no_memory_first (looks kind names mark) fin.empty a)

  pub marks_stopped : (z : Past) (seen : List Command) (stop : Stop BootRefusal) → seen ≡ looks kind names mark → Finishes seen fin.empty a z (Err stop) → Marks kind names mark name a z (Err stop)
  marks_stopped z seen stop is h = inl (stop, refl, subst (λ (cs : List Command). Finishes cs fin.empty a z (Err stop)) is h)

  module _ (b : Past) (seen : List Command) (read : Variables) (is : seen ≡ looks kind names mark) (looked : Finishes seen fin.empty a b (Ok read)) where
    looked_here : Finishes (looks kind names mark) fin.empty a b (Ok read)
    looked_here = subst (λ (cs : List Command). Finishes cs fin.empty a b (Ok read)) is looked

    pub marks_writes : (z : Past) (o : Option (List Command)) (result : Result ⊤ (Stop BootRefusal)) → o ≡ plan kind names mark name read → Writes o name b z result → Marks kind names mark name a z result
    marks_writes z o result planned wrote =
        inr (read, (b, looked_here, subst (λ (p : Option (List Command)). Writes p name b z result) planned wrote))

    pub marks_no_plan : Marks kind names mark name a b (Err NoMemory)
    marks_no_plan = inr (read, (b, looked_here, no_memory_then (plan kind names mark name read) name b))
