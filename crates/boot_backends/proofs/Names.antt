-- What the configuration says of bootnames and of attempts.
use Rattle.std.proofs.Common.{◌≡◌, ◌≤◌, ⊎_elim, ℕ, ◌==◌, true, false, not, ◌&&◌, ◌||◌, List, [], ◌∷◌, length, Option, Some, None, IsTrue, refl, sym, subst, arith}
use Rattle.std.specs.Prelude.{bytes_eq, nat_le}
use Rattle.std.specs.List.{cons_option, list_all, list_any}
use Rattle.std.specs.Option.{option_map_or}
use Rattle.std.proofs.lemmas.Bool.{true≢false, and_parts, leb-true, or_cases}
use Rattle.std.proofs.lemmas.Slice.Eq.{bytes_eq-Decides}
use Rattle.std.proofs.lemmas.Bool.Decides.{nat_tests}
use Rattle.boot_model.specs.declared.boot_kind.BootKind.{BootKind}
use Rattle.boot_model.specs.declared.boot_kind.BootKind.TheVariants as boot
use Rattle.boot_state.specs.Orders.{has_word, is_blank, is_comma}
use Rattle.boot_commands.specs.Effects.{is_name}
use Rattle.boot_commands.specs.Plans.{HasDigits}
use Rattle.conf_forms.specs.Forms.{is_bootname, is_bootname_byte, is_path, is_short}
use Rattle.system_conf.specs.Formed.{are_attempts, has_its_name, is_boot_formed, is_slot_formed}
use Rattle.system_conf.specs.declared.slot.Slot.{Slot}
use Rattle.boot_backends.specs.Marked.{names_of}

two_digits : (a p : ℕ) → IsTrue (are_attempts a && are_attempts p) → (a ≤ 9) × (p ≤ 9)
two_digits a p formed =
    let both = and_parts (are_attempts a) (are_attempts p) formed in
    (leb-true a 9 (and_parts (nat_le 1 a) (nat_le a 9) both.0).1, leb-true p 9 (and_parts (nat_le 1 p) (nat_le p 9) both.1).1)

pub has_digits : (kind : BootKind) → IsTrue (is_boot_formed kind) → HasDigits kind
has_digits (boot.Grub file) formed = tt
has_digits (boot.Uboot a p) formed = two_digits a p formed
has_digits (boot.Barebox state a p) formed = two_digits a p formed
has_digits (boot.Efi use_next) formed = tt
has_digits (boot.Custom path) formed = tt
has_digits boot.Noop formed = tt

-- ---- bootnames

-- a byte of a bootname is no blank, no comma and no `=`
byte_free : (byte : ℕ) → is_bootname_byte byte ≡ true → (not (is_blank byte || is_comma byte) ≡ true) × ((byte == 61) ≡ false)
byte_free byte is = (grind (arith, nat_tests, is), grind (arith, nat_tests, is))

bytes_free : (bytes : List ℕ) → list_all is_bootname_byte bytes ≡ true → (list_all (λ byte. not (is_blank byte || is_comma byte)) bytes ≡ true) × (list_any (λ byte. byte == 61) bytes ≡ false)
bytes_free [] are = (refl, refl)
bytes_free (byte ∷ bytes) are =
    let both = and_parts (is_bootname_byte byte) (list_all is_bootname_byte bytes) are in
    let one = byte_free byte both.0 in
    let rest = bytes_free bytes both.1 in
    (rw (one.0, rest.0) refl, rw (one.1, rest.1) refl)

bootname_name : (name : List ℕ) → is_bootname name ≡ true → is_name name ≡ true
bootname_name name is =
    let both = and_parts (is_short name) (list_all is_bootname_byte name) is in
    let free = bytes_free name both.1 in
    let some : not (length name == 0) ≡ true = not_empty (length name) (leb-true 1 (length name) (and_parts (nat_le 1 (length name)) (nat_le (length name) 1024) both.0).0) in
    rw (some, free.0, free.1) refl
  where
    not_empty : (n : ℕ) → 1 ≤ n → not (n == 0) ≡ true
    not_empty n le = grind (arith, nat_tests, le)

-- the bootnames of formed slots are names
pub names_are : (slots : List Slot) → list_all is_slot_formed slots ≡ true → list_all is_name (names_of slots) ≡ true
names_are [] formed = refl
names_are (s ∷ slots) formed =
    let both = and_parts (is_slot_formed s) (list_all is_slot_formed slots) formed in
    let rest = names_are slots both.1 in
    with_name s.bootname (named s both.0) (names_of slots) rest
  where
    named : (s : Slot) → is_slot_formed s ≡ true → option_map_or is_bootname s.bootname true ≡ true
    named s is =
        let first = and_parts (has_its_name s) _ is in
        let second = and_parts (is_path s.device) _ first.1 in
        (and_parts _ (option_map_or is_bootname s.bootname true) second.1).1

    with_name : (name : Option (List ℕ)) → option_map_or is_bootname name true ≡ true → (names : List (List ℕ)) → list_all is_name names ≡ true → list_all is_name (cons_option name names) ≡ true
    with_name None is names are = are
    with_name (Some name) is names are = rw (bootname_name name is, are) refl

-- and so is each of them
pub name_is : (names : List (List ℕ)) (name : List ℕ) → list_all is_name names ≡ true → has_word names name ≡ true → is_name name ≡ true
name_is [] name are has = absurd (true≢false (sym has))
name_is (other ∷ names) name are has =
    let both = and_parts (is_name other) (list_all is_name names) are in
    ⊎_elim
    (λ same. subst (λ (n : List ℕ). is_name n ≡ true) ((bytes_eq-Decides other name).0 same) both.0)
    (λ later. name_is names name both.1 later)
    (or_cases (bytes_eq other name) (has_word names name) has)
