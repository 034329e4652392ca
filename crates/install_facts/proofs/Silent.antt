-- The clock was not asked.
use Rattle.std.proofs.Common.{◌≡◌, ℤ, Bool, true, List, [], ◌∷◌, Option, Some, None, Result, Ok, Err, IsTrue, refl, sym, ◌∙◌, ap}
use Rattle.std.specs.List.{list_all}
use Rattle.std.proofs.lemmas.Bool.{and_parts, true≢false}
use Rattle.conf_forms.specs.Lists.{first_of, or_else}
use Rattle.keyfile.specs.Groups.{Text}
use Rattle.machine.specs.declared.stops.Stop.{Stop}
use Rattle.machine.specs.declared.stops.Stop.TheVariants as stop
use Rattle.machine.specs.declared.world.Child.{Child}
use Rattle.machine.specs.Past.{Call, Size, End, Done, Broken, Overlong, Moment, Past, Run, moments_since}
use Rattle.child_steps.specs.Checks.{CheckEnds}
use Rattle.child_steps.specs.declared.refusal.CheckRefusal.{CheckRefusal}
use Rattle.raw_writer.specs.Checking.{AsksLengths, asks_length}
use Rattle.status_file.specs.Clock.{clock_since, said_by, seconds_of}
use Rattle.status_file.specs.Status.{ReadsAt, ReadsStatus}
use Rattle.status_file.proofs.Clocks.{clock_call, clock_none, clock_once}
use Rattle.system_conf.specs.Configuration.{Configuration}

none_said : (call : Call) (end : End) → asks_length call ≡ true → said_by call end ≡ None
none_said (Size path) end h = refl
none_said other end h = absurd (true≢false (sym h))

none_in_all : (ms : List Moment) → list_all (λ (m : Moment). asks_length m.call) ms ≡ true → first_of seconds_of ms ≡ None
none_in_all [] all = refl
none_in_all (m ∷ ms) all =
    let both = and_parts (asks_length m.call) (list_all (λ (n : Moment). asks_length n.call) ms) all in
    ap (λ (o : Option ℤ). or_else o (first_of seconds_of ms)) (none_said m.call m.end both.0) ∙ none_in_all ms both.1

-- lengths were asked for
pub silent_lengths : (t : Bool) (a b : Past) → AsksLengths t a b → IsTrue t → clock_since a b ≡ None
silent_lengths t a b asks told = none_in_all (moments_since a b) (asks.all told)

run_says : (child : Child) (end : End) → said_by (Run child) end ≡ None
run_says child Done = refl
run_says child Broken = refl
run_says child Overlong = refl

-- a bundle's own check was run
pub silent_check : (hook : Child) (a b : Past) (result : Result (Unit {0}) (Stop CheckRefusal)) → CheckEnds hook a b result → clock_since a b ≡ None
silent_check hook a b (Ok x) ends = clock_call a b (Run hook) Done ends.1.call
silent_check hook a b (Err (stop.Refused why)) ends = clock_call a b (Run hook) Done ends.1.call
silent_check hook a b (Err (stop.Outside kind)) ends = clock_call a b (Run hook) Broken ends.0
silent_check hook a b (Err stop.NoMemory) ends = clock_none a b ends

-- the status file was read
pub silent_status : (c : Configuration) (a b : Past) → ReadsStatus c a b → clock_since a b ≡ None
silent_status c a b once = go c.status_file once
  where
    go : (o : Option Text) → ReadsAt o a b → clock_since a b ≡ None
    go None same = clock_none a b same
    go (Some path) read = clock_once path a b read
