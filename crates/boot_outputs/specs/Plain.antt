-- Variables that their program's printed text tells.
use Rattle.std.specs.Prelude.{◌≡◌, ℕ, ◌==◌, Bool, true, ◌&&◌, not, List, Option}
use Rattle.std.specs.FinMap.{entries}
use Rattle.std.specs.List.{list_all, list_any}
use Rattle.std.specs.Option.{option_map}
use Rattle.std.specs.Str.{str_to_ascii_uppercase}
use Rattle.boot_model.specs.Vars.{Variables}
use Rattle.boot_model.specs.declared.boot_kind.BootKind.{BootKind}
use Rattle.boot_model.specs.declared.boot_kind.BootKind.TheVariants as boot
use Rattle.boot_state.specs.Efi.{next_name, order_name}
use Rattle.boot_state.specs.Orders.{value}

-- a text without this byte
abbrev pub lacks : ℕ → List ℕ → Bool
lacks byte text = not (list_any (λ b. b == byte) text)

-- the name and the value stand within a line, and no `=` is in the name
abbrev pub is_plain : List ℕ × List ℕ → Bool
is_plain e = (lacks 61 e.0 && lacks 10 e.0) && lacks 10 e.1

-- the value stands within a line, and no tab is in it
abbrev pub is_plain_label : List ℕ × List ℕ → Bool
is_plain_label e = lacks 9 e.1 && lacks 10 e.1

-- each variable has that form
pub record ArePlain (vars : Variables) : Type 0 where
  pub each : list_all is_plain (entries vars) ≡ true

-- in upper case, where it is set
abbrev pub IsUpper : Option (List ℕ) → Type 0
IsUpper text = option_map str_to_ascii_uppercase text ≡ text

-- EFI's besides have the numbers of the next boot and of the order in upper case
pub record ArePlainEntries (vars : Variables) : Type 0 where
  pub each : list_all is_plain_label (entries vars) ≡ true
  pub next : IsUpper (value vars next_name)
  pub order : IsUpper (value vars order_name)

-- by kind: what its program prints of them reads back
abbrev pub IsPlain : BootKind → Variables → Type 0
IsPlain (boot.Efi use_next) vars = ArePlainEntries vars
IsPlain kind vars = ArePlain vars
