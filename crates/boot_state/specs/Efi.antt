-- What EFI's variables mean: entries with numbers and labels, an order of numbers, and the number of the next boot.
use Rattle.std.specs.Prelude.{ℕ, ◌==◌, Bool, false, ◌&&◌, ◌||◌, not, nat_eq, nat_le, List, [], ◌∷◌, ◌++◌, codes, drop, filter, filter_map, find, length, Option, Some, None, is_some, option_and_then, unwrap_or, if◌then◌else◌}
use Rattle.std.specs.FinMap as fin
use Rattle.std.specs.List.{list_all, list_any, starts_with}
use Rattle.std.specs.Option.{option_map_or, option_or}
use Rattle.std.specs.Str.{bytes_eq}
use Rattle.boot_model.specs.Vars.{Variables}
use Rattle.boot_state.specs.Orders.{has_word, is_comma, joined, put, value, words_between}

-- a hexadecimal digit in upper case
abbrev pub is_hex_digit : ℕ → Bool
is_hex_digit byte = (nat_le 48 byte && nat_le byte 57) || (nat_le 65 byte && nat_le byte 70)

-- the number of an entry: four of them
abbrev pub is_number : List ℕ → Bool
is_number text = (length text == 4) && list_all is_hex_digit text

-- the variable of an entry, whose value is the label
abbrev pub entry_name : List ℕ → List ℕ
entry_name number = codes "Boot" ++ number

-- the number of the next boot alone
abbrev pub next_name : List ℕ
next_name = codes "BootNext"

-- the order
abbrev pub order_name : List ℕ
order_name = codes "BootOrder"

-- the label of the entry with this number
abbrev pub label_of : Variables → List ℕ → Option (List ℕ)
label_of vars number = if is_number number then value vars (entry_name number) else None

-- the entry with this number has the name as its label
abbrev pub is_number_of : Variables → List ℕ → List ℕ → Bool
is_number_of vars name number = option_map_or (λ label. bytes_eq label name) (label_of vars number) false

-- the number in the name of an entry's variable
abbrev pub number_in : List ℕ → Option (List ℕ)
number_in variable = if starts_with nat_eq variable (codes "Boot") && is_number (drop 4 variable) then Some (drop 4 variable) else None

-- the numbers of a name, ascending as the names of variables do
abbrev pub numbers_of : Variables → List ℕ → List (List ℕ)
numbers_of vars name = filter (is_number_of vars name) (filter_map number_in (fin.keys vars))

-- the numbers of the order; one that is missing has none
abbrev pub order_of : Variables → List (List ℕ)
order_of vars = words_between is_comma (unwrap_or (value vars order_name) [])

-- the numbers of the order that are none of the name
abbrev pub rest_of : Variables → List ℕ → List (List ℕ)
rest_of vars name = filter (λ number. not (is_number_of vars name number)) (order_of vars)

-- a number of the name is in the order
abbrev pub is_good : Variables → List ℕ → Bool
is_good vars name = list_any (is_number_of vars name) (order_of vars)

-- a number of the name is the next boot's
abbrev pub is_next : Variables → List ℕ → Bool
is_next vars name = option_map_or (is_number_of vars name) (value vars next_name) false

-- the label of the entry with this number, where it is one of the names
abbrev pub name_at : Variables → List (List ℕ) → List ℕ → Option (List ℕ)
name_at vars names number = option_and_then (λ label. if has_word names label then Some label else None) (label_of vars number)

-- the name of the next boot's number
abbrev pub next_of : Variables → List (List ℕ) → Option (List ℕ)
next_of vars names = option_and_then (name_at vars names) (value vars next_name)

-- the name of the first number in the order that has one
abbrev pub first_of : Variables → List (List ℕ) → Option (List ℕ)
first_of vars names = option_and_then (name_at vars names) (find (λ number. is_some (name_at vars names number)) (order_of vars))

-- the name of the next boot, or else the first of the order
abbrev pub primary : Variables → List (List ℕ) → Option (List ℕ)
primary vars names = option_or (next_of vars names) (first_of vars names)

-- the order has these numbers; one without numbers is not set
abbrev pub with_order : List (List ℕ) → Variables → Variables
with_order numbers vars = put vars order_name (joined 44 numbers)

-- the next boot is none of the name's
abbrev pub without_next : List ℕ → Variables → Variables
without_next name vars = if is_next vars name then fin.remove vars next_name else vars

-- with numbers of the name: they leave the next boot and the order, which is not written where it had none of them
abbrev pub bad_with : List (List ℕ) → List ℕ → Variables → Option Variables
bad_with [] name vars = None
bad_with (first ∷ more) name vars =
    Some (if is_good vars name then with_order (rest_of vars name) (without_next name vars) else without_next name vars)

-- the first of them leads the order
abbrev pub good_with : List (List ℕ) → List ℕ → Variables → Option Variables
good_with [] name vars = None
good_with (first ∷ more) name vars = Some (with_order (first ∷ rest_of vars name) vars)

-- the first of them is the next boot's, or else leads the order, and there is no next boot
abbrev pub primary_with : Bool → List (List ℕ) → List ℕ → Variables → Option Variables
primary_with use_next [] name vars = None
primary_with use_next (first ∷ more) name vars =
    Some (if use_next then fin.insert vars next_name first else with_order (first ∷ rest_of vars name) (fin.remove vars next_name))

-- the name has no number in the order or for the next boot; none where it has no number at all
abbrev pub marked_bad : List ℕ → Variables → Option Variables
marked_bad name vars = bad_with (numbers_of vars name) name vars

-- the first number of the name leads the order
abbrev pub marked_good : List ℕ → Variables → Option Variables
marked_good name vars = good_with (numbers_of vars name) name vars

-- the first number of the name is the next boot's, or leads the order
abbrev pub made_primary : Bool → List ℕ → Variables → Option Variables
made_primary use_next name vars = primary_with use_next (numbers_of vars name) name vars

-- a name without a number in the order or for the next boot stays out, whatever is done to the others
abbrev pub is_down : Variables → List ℕ → Bool
is_down vars name = not (is_next vars name) && not (is_good vars name)
