-- EFI: which commands a mark takes.
use Rattle.std.specs.Prelude.{ℕ, Bool, true, false, List, [], ◌∷◌, ◌++◌, filter, is_some, not, slice_get, Option, if◌then◌else◌}
use Rattle.std.specs.Option.{option_map, option_map_or}
use Rattle.std.specs.Str.{bytes_eq}
use Rattle.boot_model.specs.Vars.{Variables}
use Rattle.boot_state.specs.Efi.{is_good, is_next, is_number_of, next_name, numbers_of, order_name, rest_of}
use Rattle.boot_state.specs.Orders.{joined, value}
use Rattle.boot_commands.specs.declared.command.Command.{Command}
use Rattle.boot_commands.specs.declared.command.Command.TheVariants.{ListEntries, RemoveNext, RemoveOrder, SetNext, SetOrder}
use Rattle.boot_commands.specs.declared.command.Mark.{Mark}
use Rattle.boot_commands.specs.declared.command.Mark.TheVariants.{Bad, Good, Primary}

-- everything is read by one command
abbrev pub readings : List Command
readings = ListEntries ∷ []

-- the least number of a name, where it has one
abbrev pub first_number : Variables → List ℕ → Option (List ℕ)
first_number vars name = slice_get (numbers_of vars name) 0

-- an order is written, and one without numbers taken away
abbrev pub write_order : List ℕ → Command
write_order [] = RemoveOrder
write_order (byte ∷ more) = SetOrder (byte ∷ more)

-- those of some numbers that are none of the name
abbrev pub others_in : Variables → List ℕ → List (List ℕ) → List (List ℕ)
others_in vars name numbers = filter (λ number. not (is_number_of vars name number)) numbers

-- a number, and behind it those of the order that are none of the name
abbrev pub led_order : List ℕ → List ℕ → Variables → List ℕ
led_order first name vars = joined 44 (first ∷ rest_of vars name)

-- a command, where it is called for
abbrev pub when : Bool → Command → List Command
when needed command = if needed then command ∷ [] else []

-- the order has this text
abbrev pub is_order : Variables → List ℕ → Bool
is_order vars text = option_map_or (λ order. bytes_eq order text) (value vars order_name) false

-- the numbers of the name leave the next boot and the order, where they are there
abbrev pub bad_plan : List ℕ → Variables → List Command
bad_plan name vars = when (is_next vars name) RemoveNext ++ when (is_good vars name) (write_order (joined 44 (rest_of vars name)))

-- its number leads the order, which is written where it changes
abbrev pub good_plan : List ℕ → List ℕ → Variables → List Command
good_plan first name vars = if is_order vars (led_order first name vars) then [] else SetOrder (led_order first name vars) ∷ []

-- its number is the next boot's; or it leads the order, and there is no next boot
abbrev pub primary_plan : Bool → List ℕ → List ℕ → Variables → List Command
primary_plan true first name vars = SetNext first ∷ []
primary_plan false first name vars = when (is_some (value vars next_name)) RemoveNext ++ SetOrder (led_order first name vars) ∷ []

-- by a number of the name
abbrev pub plan_with : Bool → Mark → List ℕ → Variables → List ℕ → List Command
plan_with use_next Bad name vars first = bad_plan name vars
plan_with use_next Good name vars first = good_plan first name vars
plan_with use_next Primary name vars first = primary_plan use_next first name vars

-- by the least number of the name; none where it has no number
abbrev pub plan : Bool → Mark → List ℕ → Variables → Option (List Command)
plan use_next mark name vars = option_map (plan_with use_next mark name vars) (first_number vars name)
