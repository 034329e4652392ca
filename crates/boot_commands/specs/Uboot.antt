-- U-Boot: which commands a mark takes.
use Rattle.std.specs.Prelude.{ℕ, List, [], ◌∷◌, ◌++◌, codes, map, if◌then◌else◌}
use Rattle.boot_model.specs.Vars.{Variables}
use Rattle.boot_state.specs.Orders.{digit_of, has_word, joined, others, without_word}
use Rattle.boot_state.specs.Uboot.{left_name, order_name, order_of}
use Rattle.boot_commands.specs.declared.command.Command.{Command}
use Rattle.boot_commands.specs.declared.command.Command.TheVariants.{PrintVariable, StoreVariable}
use Rattle.boot_commands.specs.declared.command.Mark.{Mark}
use Rattle.boot_commands.specs.declared.command.Mark.TheVariants.{Bad, Good, Primary}

-- the order is read
abbrev pub looks : List Command
looks = PrintVariable order_name ∷ []

-- and for all variables the attempts of each name
abbrev pub readings : List (List ℕ) → List Command
readings names = PrintVariable order_name ∷ map (λ name. PrintVariable (left_name name)) names

-- the order is written
abbrev pub write_order : List (List ℕ) → Command
write_order words = StoreVariable order_name (joined 32 words)

-- no attempts, and the name leaves the order, where it stands in it
abbrev pub bad_plan : List ℕ → List (List ℕ) → List Command
bad_plan name order =
    StoreVariable (left_name name) (codes "0") ∷ (if has_word order name then write_order (without_word order name) ∷ [] else [])

-- its attempts, and the name comes last in an order that lacks it
abbrev pub good_plan : ℕ → List ℕ → List (List ℕ) → List Command
good_plan attempts name order =
    StoreVariable (left_name name) (digit_of attempts) ∷ (if has_word order name then [] else write_order (order ++ name ∷ []) ∷ [])

-- its attempts, and the name comes first in the order
abbrev pub primary_plan : ℕ → List (List ℕ) → List ℕ → List (List ℕ) → List Command
primary_plan attempts names name order = StoreVariable (left_name name) (digit_of attempts) ∷ write_order (name ∷ others names name order) ∷ []

-- by the words of the order
abbrev pub plan : ℕ → ℕ → List (List ℕ) → Mark → List ℕ → Variables → List Command
plan attempts primary_attempts names Bad name vars = bad_plan name (order_of vars)
plan attempts primary_attempts names Good name vars = good_plan attempts name (order_of vars)
plan attempts primary_attempts names Primary name vars = primary_plan primary_attempts names name (order_of vars)
