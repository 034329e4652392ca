-- EFI: the next boot, the order and the entries that `efibootmgr` prints.
use Rattle.std.specs.Prelude.{ℕ, ◌==◌, Bool, true, ◌&&◌, ◌||◌, List, [], ◌∷◌, codes, take, drop, length, nat_eq, Option, Some, None, is_some, option_and_then, if◌then◌else◌}
use Rattle.std.specs.Char.{is_ascii_hexdigit}
use Rattle.std.specs.List.{before_first, filter_map, list_all, slice_split, starts_with}
use Rattle.std.specs.Option.{option_map, option_or}
use Rattle.std.specs.Str.{str_to_ascii_uppercase}
use Rattle.boot_model.specs.Vars.{Variables}
use Rattle.boot_state.specs.Efi.{entry_name, next_name, order_name}
use Rattle.boot_state.specs.Orders.{is_blank, is_comma}
use Rattle.boot_outputs.specs.Texts.{behind, lines_of, with_all}

-- a number as it is printed: four hexadecimal digits, in either case
abbrev pub is_number : List ℕ → Bool
is_number text = (length text == 4) && list_all is_ascii_hexdigit text

-- an order as it is printed: numbers with a comma between each two, or nothing
abbrev pub is_order : List ℕ → Bool
is_order text = (length text == 0) || list_all is_number (slice_split is_comma text)

-- the text, where it has its form
abbrev pub text_if : Bool → List ℕ → Option (List ℕ)
text_if formed text = if formed then Some text else None

-- what follows a first byte that passes
abbrev pub behind_byte : (ℕ → Bool) → List ℕ → Option (List ℕ)
behind_byte passes [] = None
behind_byte passes (byte ∷ text) = if passes byte then Some text else None

-- a byte behind the number of an entry: `*` or a blank
abbrev pub is_mark : ℕ → Bool
is_mark byte = (byte == 42) || is_blank byte

-- the label stands behind such a byte and one blank, and ends at a tab
abbrev pub label_from : List ℕ → Option (List ℕ)
label_from text = option_map (before_first (λ b. b == 9)) (option_and_then (behind_byte is_blank) (behind_byte is_mark text))

-- the number of the next boot that a line tells, as it is printed
abbrev pub next_in : List ℕ → Option (List ℕ)
next_in line = option_and_then (λ text. text_if (is_number text) text) (behind (codes "BootNext: ") line)

-- the order that it tells
abbrev pub order_in : List ℕ → Option (List ℕ)
order_in line = option_and_then (λ text. text_if (is_order text) text) (behind (codes "BootOrder: ") line)

-- a number, and the label behind it
abbrev pub entry_from : List ℕ → Option (List ℕ × List ℕ)
entry_from text =
    option_and_then (λ number. option_map (λ label. (number, label)) (label_from (drop 4 text))) (text_if (is_number (take 4 text)) (take 4 text))

-- the number and the label of the entry that a line tells
abbrev pub entry_in : List ℕ → Option (List ℕ × List ℕ)
entry_in line = option_and_then entry_from (behind (codes "Boot") line)

-- these as variables, with numbers in upper case
abbrev pub next_setting : List ℕ → List ℕ × List ℕ
next_setting number = (next_name, str_to_ascii_uppercase number)

abbrev pub order_setting : List ℕ → List ℕ × List ℕ
order_setting order = (order_name, str_to_ascii_uppercase order)

abbrev pub entry_setting : List ℕ × List ℕ → List ℕ × List ℕ
entry_setting e = (entry_name (str_to_ascii_uppercase e.0), e.1)

-- the variable that a line tells
abbrev pub variable_in : List ℕ → Option (List ℕ × List ℕ)
variable_in line =
    option_or (option_map next_setting (next_in line)) (option_or (option_map order_setting (order_in line)) (option_map entry_setting (entry_in line)))

-- a line of the next boot or of the order has its form
abbrev pub is_formed : List ℕ → Bool
is_formed line =
    if starts_with nat_eq line (codes "BootNext: ") then is_some (next_in line)
    else (if starts_with nat_eq line (codes "BootOrder: ") then is_some (order_in line) else true)

-- with the variables of the lines
abbrev pub with_lines : List ℕ → Variables → Variables
with_lines out read = with_all read (filter_map variable_in (lines_of out))

-- where each of them has its form
abbrev pub entered : List ℕ → Variables → Option Variables
entered out read = if list_all is_formed (lines_of out) then Some (with_lines out read) else None
