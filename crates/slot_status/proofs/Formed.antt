-- The values that are read have the forms that every record has.
use Rattle.std.proofs.Common.{◌≡◌, ◌∙◌, refl, sym, ap, ℕ, suc, Bool, true, false, cond, eq-eqb, lt-ltb, nat_lt, ◌&&◌, List, [], ◌∷◌, length, find, Option, Some, None, Result, Ok, Err, option_map, option_and_then, arith}
use Rattle.std.specs.Option.{option_map_or}
use Rattle.std.specs.List.{list_all}
use Rattle.std.specs.Str.{bytes_eq}
use Rattle.std.proofs.lemmas.Bool.{and_parts}
use Rattle.hex.specs.Hex.{IsBytes, decode_sized}
use Rattle.hex.specs.declared.error.FromHexError.{FromHexError}
use Rattle.hex.proofs.HexLemmas.{decode_of-ok, decode_sized-ok, decode_sized-twice}
use Rattle.updater_text.specs.Digests.{digest_from, digest_of}
use Rattle.updater_text.specs.declared.digest.Digest.{Digest}
use Rattle.keyfile.specs.Groups.{Entry, Group, Text, get_entry, get_in, is_entry, is_entry_value, is_group, is_key_file}
use Rattle.conf_forms.specs.Forms.{is_text}
use Rattle.manifest.specs.Sound.{is_text_if_any}
use Rattle.slot_status.specs.Records.{text_of}
use Rattle.slot_status.specs.Sound.{is_digest}

-- ---- digests

bytes_pass : (bytes : List ℕ) → IsBytes bytes → list_all (λ b. nat_lt b 256) bytes ≡ true
bytes_pass [] small = refl
bytes_pass (b ∷ bytes) small = λ i. lt-ltb b 256 (small 0) i && bytes_pass bytes (λ k. small (suc k)) i

pub bytes_formed : (d : Digest) → length d.0 ≡ 32 → IsBytes d.0 → is_digest d ≡ true
bytes_formed d long small = λ i. eq-eqb (length d.0) 32 long i && bytes_pass d.0 small i

pub digest_formed : (text : List ℕ) → option_map_or is_digest (digest_of text) true ≡ true
digest_formed text = go (decode_sized text 32) refl
  where
    go : (r : Result (List ℕ) FromHexError) → decode_sized text 32 ≡ r → option_map_or is_digest (digest_from r) true ≡ true
    go (Err e) is = refl
    go (Ok bytes) is =
        let long = decode_sized-ok text 32 bytes is in
        let read = decode_of-ok text bytes (sym (decode_sized-twice text 32 long) ∙ is) in
        bytes_formed (record { 0 = bytes }) (omega (arith, read.2, long)) read.3

-- ---- texts

found_passes : {A : Type 0} (p q : A → Bool) (xs : List A) (x : A) → list_all p xs ≡ true → find q xs ≡ Some x → p x ≡ true
found_passes p q [] x all is = absurd (cc)
found_passes p q (y ∷ xs) x all is = let both = and_parts (p y) (list_all p xs) all in go (q y) both.0 is (λ later. found_passes p q xs x both.1 later)
  where
    go : (b : Bool) → p y ≡ true → cond b (Some y) (find q xs) ≡ Some x → (find q xs ≡ Some x → p x ≡ true) → p x ≡ true
    go true here is more = let same : y ≡ x = cc in ap p (sym same) ∙ here
    go false here is more = more is

-- the value of an entry has a value's form
pub entry_value : (entries : List Entry) (key value : Text) → list_all is_entry entries ≡ true → get_entry entries key ≡ Some value → is_entry_value value ≡ true
entry_value entries key value all is = go (find (λ (e : Entry). bytes_eq key e.0) entries) refl is
  where
    go : (o : Option Entry) → find (λ (e : Entry). bytes_eq key e.0) entries ≡ o → option_map (λ (e : Entry). e.1) o ≡ Some value → is_entry_value value ≡ true
    go (Some e) found here =
        let same : e.1 ≡ value = cc in
        ap is_entry_value (sym same) ∙ (and_parts _ (is_entry_value e.1) (found_passes is_entry (λ (e : Entry). bytes_eq key e.0) entries e all found)).1
    go None found here = absurd (cc)

-- and so has that of a key of a key file
pub value_there : (groups : List Group) → is_key_file groups ≡ true → (group key value : Text) → get_in groups group key ≡ Some value → is_entry_value value ≡ true
value_there groups file group key value is = go (find (λ (g : Group). bytes_eq group g.0) groups) refl is
  where
    go : (o : Option Group) → find (λ (g : Group). bytes_eq group g.0) groups ≡ o → option_and_then (λ (g : Group). get_entry g.1 key) o ≡ Some value → is_entry_value value ≡ true
    go (Some g) found here =
        let formed = found_passes is_group (λ (g : Group). bytes_eq group g.0) groups g (and_parts (list_all is_group groups) _ file).0 found in
        entry_value g.1 key value (and_parts (list_all is_entry g.1) _ (and_parts _ _ formed).1).0 here
    go None found here = absurd (cc)

pub text_formed : (groups : List Group) → is_key_file groups ≡ true → (group key : Text) → is_text_if_any (text_of (get_in groups group key)) ≡ true
text_formed groups file group key = go (get_in groups group key) refl
  where
    short : (value : Text) → is_entry_value value ≡ true → (b : Bool) → is_text value ≡ b → is_text_if_any (cond b (Some value) None) ≡ true
    short value formed true is = λ i. is i && formed i
    short value formed false is = refl

    go : (o : Option Text) → get_in groups group key ≡ o → is_text_if_any (text_of o) ≡ true
    go (Some value) is = short value (value_there groups file group key value is) (is_text value) refl
    go None is = refl
