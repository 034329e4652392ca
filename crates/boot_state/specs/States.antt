-- Which names are good and which one is primary, by the variables of each kind of boot loader, and the marks.
use Rattle.std.specs.Prelude.{◌≡◌, ℕ, Bool, true, false, ◌&&◌, nat_le, List, position, Option, Some, None, option_and_then}
use Rattle.std.specs.Str.{bytes_eq}
use Rattle.boot_model.specs.Vars.{Variables}
use Rattle.boot_model.specs.declared.boot_kind.BootKind.{BootKind}
use Rattle.boot_model.specs.declared.boot_kind.BootKind.TheVariants as boot
use Rattle.boot_state.specs.Barebox as barebox
use Rattle.boot_state.specs.Custom as custom
use Rattle.boot_state.specs.Efi as efi
use Rattle.boot_state.specs.Grub as grub
use Rattle.boot_state.specs.Uboot as uboot

-- the boot loader may boot the name
abbrev pub good : BootKind → Variables → List (List ℕ) → List ℕ → Bool
good (boot.Grub file) vars names name = grub.is_good vars name
good (boot.Uboot attempts primary_attempts) vars names name = uboot.is_good vars name
good (boot.Barebox state attempts primary_attempts) vars names name = barebox.is_good vars name
good (boot.Efi use_next) vars names name = efi.is_good vars name
good (boot.Custom program) vars names name = custom.is_good vars name
good boot.Noop vars names name = true

-- the one of the names that it boots next
abbrev pub primary : BootKind → Variables → List (List ℕ) → Option (List ℕ)
primary (boot.Grub file) vars names = grub.primary vars names
primary (boot.Uboot attempts primary_attempts) vars names = uboot.primary vars names
primary (boot.Barebox state attempts primary_attempts) vars names = barebox.primary vars names
primary (boot.Efi use_next) vars names = efi.primary vars names
primary (boot.Custom program) vars names = custom.primary vars names
primary boot.Noop vars names = None

-- its place among the names
abbrev pub primary_at : BootKind → Variables → List (List ℕ) → Option ℕ
primary_at kind vars names = option_and_then (λ name. position (λ other. bytes_eq other name) names) (primary kind vars names)

-- the variables once a name is marked bad; none where there is no such name to the boot loader
abbrev pub marked_bad : BootKind → List (List ℕ) → List ℕ → Variables → Option Variables
marked_bad (boot.Grub file) names name vars = Some (grub.marked_bad name vars)
marked_bad (boot.Uboot attempts primary_attempts) names name vars = Some (uboot.marked_bad name vars)
marked_bad (boot.Barebox state attempts primary_attempts) names name vars = Some (barebox.marked_bad name vars)
marked_bad (boot.Efi use_next) names name vars = efi.marked_bad name vars
marked_bad (boot.Custom program) names name vars = Some (custom.marked_bad name vars)
marked_bad boot.Noop names name vars = Some vars

-- once it is marked good
abbrev pub marked_good : BootKind → List (List ℕ) → List ℕ → Variables → Option Variables
marked_good (boot.Grub file) names name vars = Some (grub.marked_good name vars)
marked_good (boot.Uboot attempts primary_attempts) names name vars = Some (uboot.marked_good attempts name vars)
marked_good (boot.Barebox state attempts primary_attempts) names name vars = Some (barebox.marked_good attempts name vars)
marked_good (boot.Efi use_next) names name vars = efi.marked_good name vars
marked_good (boot.Custom program) names name vars = Some (custom.marked_good name vars)
marked_good boot.Noop names name vars = Some vars

-- once it is made primary
abbrev pub made_primary : BootKind → List (List ℕ) → List ℕ → Variables → Option Variables
made_primary (boot.Grub file) names name vars = Some (grub.made_primary names name vars)
made_primary (boot.Uboot attempts primary_attempts) names name vars = Some (uboot.made_primary primary_attempts names name vars)
made_primary (boot.Barebox state attempts primary_attempts) names name vars = Some (barebox.made_primary primary_attempts names name vars)
made_primary (boot.Efi use_next) names name vars = efi.made_primary use_next name vars
made_primary (boot.Custom program) names name vars = Some (custom.made_primary name vars)
made_primary boot.Noop names name vars = Some vars

-- what keeps a name from being primary, until it is marked itself
abbrev pub is_down : BootKind → Variables → List ℕ → Bool
is_down (boot.Grub file) vars name = grub.is_down vars name
is_down (boot.Uboot attempts primary_attempts) vars name = uboot.is_down vars name
is_down (boot.Barebox state attempts primary_attempts) vars name = barebox.is_down vars name
is_down (boot.Efi use_next) vars name = efi.is_down vars name
is_down (boot.Custom program) vars name = custom.is_down vars name
is_down boot.Noop vars name = true

-- what a mark of another name keeps of a name: down stays down, and good stays good
pub record KeepsName (kind : BootKind) (names : List (List ℕ)) (name : List ℕ) (before after : Variables) : Type 0 where
  pub stays_down : is_down kind before name ≡ true → is_down kind after name ≡ true
  pub stays_good : good kind before names name ≡ true → good kind after names name ≡ true

-- a name that is made primary has attempts, where they are counted: 1 to 9
abbrev pub gives_attempts : BootKind → Bool
gives_attempts (boot.Uboot attempts primary_attempts) = nat_le 1 primary_attempts && nat_le primary_attempts 9
gives_attempts (boot.Barebox state attempts primary_attempts) = nat_le 1 primary_attempts && nat_le primary_attempts 9
gives_attempts _ = true

-- a name that is made primary is booted next by EFI, and its order stays
abbrev pub uses_next : BootKind → Bool
uses_next (boot.Efi use_next) = use_next
uses_next _ = false
