-- What the fields of a header say is formed, and no longer than they are.
use Rattle.std.proofs.Common.{◌≡◌, ℕ, zero, suc, ◌+◌, ◌*◌, ◌-◌, ◌%◌, ◌<◌, ◌≤◌, ◌^◌, Bool, true, false, ◌&&◌, cond, eqb, ltb, List, [], ◌∷◌, ◌++◌, length, Option, Some, None, refl, sym, ap, subst, ◌∙◌, arith, inl, inr}
use Rattle.std.specs.Prelude.{option_map, IfSome}
use Rattle.std.proofs.lemmas.Bool.{ltb-true}
use Rattle.wire_value.specs.Types.{byte, boolean, int16, uint16, int32, uint32, int64, uint64, double, unix_fd, Textual, string, object_path, signature, IsSignature}
use Rattle.wire_value.specs.Plain.{Plain, number, words, array, struct, entry, variant, Plains, none, more}
use Rattle.wire_value.specs.Spelling.{gap, spell, IsString, IsTextual, IsValue, AreOf, is_path}
use Rattle.wire_value.specs.Sizes.{aligned, ends, end_all}
use Rattle.wire_value.specs.Reading.{◌>>=◌}
use Rattle.wire_value.proofs.Steps.{bind_some, if_some_is, some_is}
use Rattle.wire_value.proofs.TypeLaws.{chosen, none_some}
use Rattle.wire_value.proofs.Ends.{grows, ends_is}
use Rattle.dbus_wire.specs.Names.{is_interface, is_member}
use Rattle.dbus_wire.specs.Fields.{Fields, no_fields, path_in, string_in, signature_in, number_in, interface_in, member_in, serial_in, only_if, once, with_field, coded, coded_in, field_in, said}
use Rattle.dbus_wire.specs.Spelling.{field_type}
use Rattle.dbus_wire.specs.InOrder.{field, words_field, number_field}
use Rattle.dbus_wire.specs.Checking.{value_start, text_end, number_end, signature_end}
use Rattle.dbus_wire.proofs.Checked.{text_is, number_is, value_from}

-- ---- the value of a field

path_in_is : (v : Plain) (t : List ℕ) → path_in v ≡ Some t → v ≡ words object_path t
path_in_is (number byte x) t e = absurd (none_some t e)
path_in_is (number boolean x) t e = absurd (none_some t e)
path_in_is (number int16 x) t e = absurd (none_some t e)
path_in_is (number uint16 x) t e = absurd (none_some t e)
path_in_is (number int32 x) t e = absurd (none_some t e)
path_in_is (number uint32 x) t e = absurd (none_some t e)
path_in_is (number int64 x) t e = absurd (none_some t e)
path_in_is (number uint64 x) t e = absurd (none_some t e)
path_in_is (number double x) t e = absurd (none_some t e)
path_in_is (number unix_fd x) t e = absurd (none_some t e)
path_in_is (words string s) t e = absurd (none_some t e)
path_in_is (words object_path s) t e = ap (λ (y : List ℕ). words object_path y) (some_is s t e)
path_in_is (words signature s) t e = absurd (none_some t e)
path_in_is (array i vs) t e = absurd (none_some t e)
path_in_is (struct vs) t e = absurd (none_some t e)
path_in_is (entry k v) t e = absurd (none_some t e)
path_in_is (variant v) t e = absurd (none_some t e)

string_in_is : (v : Plain) (t : List ℕ) → string_in v ≡ Some t → v ≡ words string t
string_in_is (number byte x) t e = absurd (none_some t e)
string_in_is (number boolean x) t e = absurd (none_some t e)
string_in_is (number int16 x) t e = absurd (none_some t e)
string_in_is (number uint16 x) t e = absurd (none_some t e)
string_in_is (number int32 x) t e = absurd (none_some t e)
string_in_is (number uint32 x) t e = absurd (none_some t e)
string_in_is (number int64 x) t e = absurd (none_some t e)
string_in_is (number uint64 x) t e = absurd (none_some t e)
string_in_is (number double x) t e = absurd (none_some t e)
string_in_is (number unix_fd x) t e = absurd (none_some t e)
string_in_is (words string s) t e = ap (λ (y : List ℕ). words string y) (some_is s t e)
string_in_is (words object_path s) t e = absurd (none_some t e)
string_in_is (words signature s) t e = absurd (none_some t e)
string_in_is (array i vs) t e = absurd (none_some t e)
string_in_is (struct vs) t e = absurd (none_some t e)
string_in_is (entry k v) t e = absurd (none_some t e)
string_in_is (variant v) t e = absurd (none_some t e)

signature_in_is : (v : Plain) (t : List ℕ) → signature_in v ≡ Some t → v ≡ words signature t
signature_in_is (number byte x) t e = absurd (none_some t e)
signature_in_is (number boolean x) t e = absurd (none_some t e)
signature_in_is (number int16 x) t e = absurd (none_some t e)
signature_in_is (number uint16 x) t e = absurd (none_some t e)
signature_in_is (number int32 x) t e = absurd (none_some t e)
signature_in_is (number uint32 x) t e = absurd (none_some t e)
signature_in_is (number int64 x) t e = absurd (none_some t e)
signature_in_is (number uint64 x) t e = absurd (none_some t e)
signature_in_is (number double x) t e = absurd (none_some t e)
signature_in_is (number unix_fd x) t e = absurd (none_some t e)
signature_in_is (words string s) t e = absurd (none_some t e)
signature_in_is (words object_path s) t e = absurd (none_some t e)
signature_in_is (words signature s) t e = ap (λ (y : List ℕ). words signature y) (some_is s t e)
signature_in_is (array i vs) t e = absurd (none_some t e)
signature_in_is (struct vs) t e = absurd (none_some t e)
signature_in_is (entry k v) t e = absurd (none_some t e)
signature_in_is (variant v) t e = absurd (none_some t e)

number_in_is : (v : Plain) (t : ℕ) → number_in v ≡ Some t → v ≡ number uint32 t
number_in_is (number byte x) t e = absurd (none_some t e)
number_in_is (number boolean x) t e = absurd (none_some t e)
number_in_is (number int16 x) t e = absurd (none_some t e)
number_in_is (number uint16 x) t e = absurd (none_some t e)
number_in_is (number int32 x) t e = absurd (none_some t e)
number_in_is (number uint32 x) t e = ap (λ (y : ℕ). number uint32 y) (some_is x t e)
number_in_is (number int64 x) t e = absurd (none_some t e)
number_in_is (number uint64 x) t e = absurd (none_some t e)
number_in_is (number double x) t e = absurd (none_some t e)
number_in_is (number unix_fd x) t e = absurd (none_some t e)
number_in_is (words string s) t e = absurd (none_some t e)
number_in_is (words object_path s) t e = absurd (none_some t e)
number_in_is (words signature s) t e = absurd (none_some t e)
number_in_is (array i vs) t e = absurd (none_some t e)
number_in_is (struct vs) t e = absurd (none_some t e)
number_in_is (entry k v) t e = absurd (none_some t e)
number_in_is (variant v) t e = absurd (none_some t e)

abbrev given : ℕ × Plain → Option (ℕ × Plain)
given x = Some x

pair_is : (a c : ℕ) (x v : Plain) → given (a, x) ≡ given (c, v) → (a ≡ c) × (x ≡ v)
pair_is a c x v e = let h = some_is (a, x) (c, v) e in (ap (λ (y : ℕ × Plain). y.0) h, ap (λ (y : ℕ × Plain). y.1) h)

coded_is : (a b : Plain) (c : ℕ) (v : Plain) → coded a b ≡ Some (c, v) → struct (more a (more b none)) ≡ field c v
coded_is (number byte a) (variant x) c v e = let h = pair_is a c x v e in ap (λ (n : ℕ). field n x) h.0 ∙ ap (field c) h.1
coded_is (number byte a) (number f x) c v e = absurd (none_some (c, v) e)
coded_is (number byte a) (words k t) c v e = absurd (none_some (c, v) e)
coded_is (number byte a) (array i vs) c v e = absurd (none_some (c, v) e)
coded_is (number byte a) (struct vs) c v e = absurd (none_some (c, v) e)
coded_is (number byte a) (entry k x) c v e = absurd (none_some (c, v) e)
coded_is (number boolean a) b c v e = absurd (none_some (c, v) e)
coded_is (number int16 a) b c v e = absurd (none_some (c, v) e)
coded_is (number uint16 a) b c v e = absurd (none_some (c, v) e)
coded_is (number int32 a) b c v e = absurd (none_some (c, v) e)
coded_is (number uint32 a) b c v e = absurd (none_some (c, v) e)
coded_is (number int64 a) b c v e = absurd (none_some (c, v) e)
coded_is (number uint64 a) b c v e = absurd (none_some (c, v) e)
coded_is (number double a) b c v e = absurd (none_some (c, v) e)
coded_is (number unix_fd a) b c v e = absurd (none_some (c, v) e)
coded_is (words k t) b c v e = absurd (none_some (c, v) e)
coded_is (array i vs) b c v e = absurd (none_some (c, v) e)
coded_is (struct vs) b c v e = absurd (none_some (c, v) e)
coded_is (entry k x) b c v e = absurd (none_some (c, v) e)
coded_is (variant x) b c v e = absurd (none_some (c, v) e)

coded_in_is : (vs : Plains) (c : ℕ) (v : Plain) → coded_in vs ≡ Some (c, v) → struct vs ≡ field c v
coded_in_is none c v e = absurd (none_some (c, v) e)
coded_in_is (more a none) c v e = absurd (none_some (c, v) e)
coded_in_is (more a (more b none)) c v e = coded_is a b c v e
coded_in_is (more a (more b (more d vs))) c v e = absurd (none_some (c, v) e)

field_in_is : (f : Plain) (c : ℕ) (v : Plain) → field_in f ≡ Some (c, v) → f ≡ field c v
field_in_is (struct vs) c v e = coded_in_is vs c v e
field_in_is (number f x) c v e = absurd (none_some (c, v) e)
field_in_is (words k t) c v e = absurd (none_some (c, v) e)
field_in_is (array i vs) c v e = absurd (none_some (c, v) e)
field_in_is (entry k x) c v e = absurd (none_some (c, v) e)
field_in_is (variant x) c v e = absurd (none_some (c, v) e)

-- ---- how long fields are, up to the next multiple of 8

aligned_mod : (n : ℕ) → aligned 8 n % 8 ≡ 0
unfolding gap
aligned_mod n = omega arith

aligned_add : (a k : ℕ) → a % 8 ≡ 0 → aligned 8 (a + k) ≡ a + aligned 8 k
unfolding gap
aligned_add a k e = omega arith

aligned_more : (n m : ℕ) → n ≤ m → aligned 8 n ≤ aligned 8 m
unfolding gap
aligned_more n m le = omega arith

pub aligned_most : (n : ℕ) → n ≤ 16 + 2 ^ 26 → aligned 8 n ≤ 16 + 2 ^ 26
unfolding gap
aligned_most n le = omega arith

no_gap : (a : ℕ) → a % 8 ≡ 0 → gap 4 (a + 4) ≡ 0
unfolding gap
no_gap a e = omega arith

at_least : (k : ℕ) → k ≤ aligned 8 k
at_least k = omega arith

abbrev pub text_size : Option (List ℕ) → ℕ
text_size None = 0
text_size (Some t) = aligned 8 (9 + length t)

abbrev pub number_size : Option ℕ → ℕ
number_size None = 0
number_size (Some x) = 8

abbrev pub signature_size : Option (List ℕ) → ℕ
signature_size None = 0
signature_size (Some t) = aligned 8 (6 + length t)

abbrev pub size : Fields → ℕ
size h = text_size h.path + text_size h.interface + text_size h.member + text_size h.error_name + number_size h.reply_serial + text_size h.destination + text_size h.sender + signature_size h.signature + number_size h.fds

same_none : (n : ℕ) → aligned 8 n ≡ aligned 8 n + 0
same_none n = omega arith

pub text_sized : (t : Option (List ℕ)) (n : ℕ) → aligned 8 (text_end t n) ≡ aligned 8 n + text_size t
text_sized None n = same_none n
text_sized (Some t) n =
    let a = aligned 8 n in
    let z = no_gap a (aligned_mod n) in
    let e : text_end (Some t) n ≡ a + (9 + length t) = text_is t n ∙ omega (arith, z) in
    ap (aligned 8) e ∙ aligned_add a (9 + length t) (aligned_mod n)

eight : aligned 8 8 ≡ 8
unfolding gap
eight = refl

pub number_sized : (x : Option ℕ) (n : ℕ) → aligned 8 (number_end x n) ≡ aligned 8 n + number_size x
number_sized None n = same_none n
number_sized (Some x) n =
    let a = aligned 8 n in
    let z = no_gap a (aligned_mod n) in
    let e : number_end (Some x) n ≡ a + 8 = number_is x n ∙ omega (arith, z) in
    ap (aligned 8) e ∙ aligned_add a 8 (aligned_mod n) ∙ ap (λ (k : ℕ). a + k) eight

pub signature_sized : (t : Option (List ℕ)) (n : ℕ) → aligned 8 (signature_end t n) ≡ aligned 8 n + signature_size t
signature_sized None n = same_none n
signature_sized (Some t) n =
    let a = aligned 8 n in
    let e : signature_end (Some t) n ≡ a + (6 + length t) = ap (λ (k : ℕ). k + 1 + length t + 1) (value_from n) ∙ omega arith in
    ap (aligned 8) e ∙ aligned_add a (6 + length t) (aligned_mod n)

-- ---- what is said is formed

abbrev pub Of : {A : Type 0} → (A → Type 0) → Option A → Type 0
Of P None = Unit {0}
Of P (Some x) = P x

pub record Good (h : Fields) : Type 0 where
  pub path : Of (λ t. IsString t × (is_path t ≡ true)) h.path
  pub interface : Of (λ t. IsString t × (is_interface t ≡ true)) h.interface
  pub member : Of (λ t. IsString t × (is_member t ≡ true)) h.member
  pub error_name : Of (λ t. IsString t × (is_interface t ≡ true)) h.error_name
  pub reply_serial : Of (λ x. 0 < x) h.reply_serial
  pub destination : Of (λ t. IsString t) h.destination
  pub sender : Of (λ t. IsString t) h.sender
  pub signature : Of (λ t. IsSignature t) h.signature

once_is : {A : Type 0} (o i : Option A) (build : Option A → Fields) (g : Fields) → option_map build (once o i) ≡ Some g → (x : A) × (o ≡ None) × (i ≡ Some x) × (build (Some x) ≡ g)
once_is None (Some x) build g e = (x, refl, refl, some_is (build (Some x)) g e)
once_is None None build g e = absurd (none_some g e)
once_is (Some y) (Some x) build g e = absurd (none_some g e)
once_is (Some y) None build g e = absurd (none_some g e)

record Grows (n : ℕ) (h g : Fields) (f : Plain) : Type 0 where
  pub sized : size g + aligned 8 n ≤ size h + aligned 8 (ends n f)
  pub good : Good h → Good g

-- the value of a field that begins at an offset may stand there
inner : (little : Bool) (n c : ℕ) (k : Textual) (t : List ℕ) → IsValue little n (field c (words k t)) → IsTextual k t
inner little n c k t h = h.2.1.2

module _ (little : Bool) (n c : ℕ) (h : Fields) where
  path_grows : (v : Plain) (g : Fields) → IsValue little n (field c v) → option_map (λ x. record h { path = x }) (once h.path (path_in v)) ≡ Some g → Grows n h g (field c v)
  path_grows v g valid e =
      let o = once_is h.path (path_in v) (λ x. record h { path = x }) g e in
      let is = path_in_is v o.0 o.2 in
      let ok = inner little n c object_path o.0 (subst (λ (y : Plain). IsValue little n (field c y)) is valid) in
      let before : text_size h.path ≡ 0 = ap text_size o.1 in
      let sized = text_sized (Some o.0) n in
      subst (λ (y : Plain). Grows n h g (field c y)) (sym is) (subst (λ (k : Fields). Grows n h k (field c (words object_path o.0))) o.3 (record {
        sized = omega (arith, before, sized);
        good = λ (w : Good h). record { path = ok; interface = w.interface; member = w.member; error_name = w.error_name; reply_serial = w.reply_serial; destination = w.destination; sender = w.sender; signature = w.signature };
      }))

  interface_grows : (v : Plain) (g : Fields) → IsValue little n (field c v) → option_map (λ x. record h { interface = x }) (once h.interface (interface_in v)) ≡ Some g → Grows n h g (field c v)
  interface_grows v g valid e =
      let o = once_is h.interface (interface_in v) (λ x. record h { interface = x }) g e in
      let b = bind_some (string_in v) (λ t. only_if (is_interface t) t) o.0 o.2 in
      let k = if_some_is (is_interface b.0) b.0 o.0 b.2 in
      let is = string_in_is v b.0 b.1 ∙ ap (λ (t : List ℕ). words string t) k.1 in
      let ok = inner little n c string o.0 (subst (λ (y : Plain). IsValue little n (field c y)) is valid) in
      let before : text_size h.interface ≡ 0 = ap text_size o.1 in
      let sized = text_sized (Some o.0) n in
      subst (λ (y : Plain). Grows n h g (field c y)) (sym is) (subst (λ (k : Fields). Grows n h k (field c (words string o.0))) o.3 (record {
        sized = omega (arith, before, sized);
        good = λ (w : Good h). record { path = w.path; interface = (ok, subst (λ (t : List ℕ). is_interface t ≡ true) k.1 k.0); member = w.member; error_name = w.error_name; reply_serial = w.reply_serial; destination = w.destination; sender = w.sender; signature = w.signature };
      }))

  member_grows : (v : Plain) (g : Fields) → IsValue little n (field c v) → option_map (λ x. record h { member = x }) (once h.member (member_in v)) ≡ Some g → Grows n h g (field c v)
  member_grows v g valid e =
      let o = once_is h.member (member_in v) (λ x. record h { member = x }) g e in
      let b = bind_some (string_in v) (λ t. only_if (is_member t) t) o.0 o.2 in
      let k = if_some_is (is_member b.0) b.0 o.0 b.2 in
      let is = string_in_is v b.0 b.1 ∙ ap (λ (t : List ℕ). words string t) k.1 in
      let ok = inner little n c string o.0 (subst (λ (y : Plain). IsValue little n (field c y)) is valid) in
      let before : text_size h.member ≡ 0 = ap text_size o.1 in
      let sized = text_sized (Some o.0) n in
      subst (λ (y : Plain). Grows n h g (field c y)) (sym is) (subst (λ (k : Fields). Grows n h k (field c (words string o.0))) o.3 (record {
        sized = omega (arith, before, sized);
        good = λ (w : Good h). record { path = w.path; interface = w.interface; member = (ok, subst (λ (t : List ℕ). is_member t ≡ true) k.1 k.0); error_name = w.error_name; reply_serial = w.reply_serial; destination = w.destination; sender = w.sender; signature = w.signature };
      }))

  error_name_grows : (v : Plain) (g : Fields) → IsValue little n (field c v) → option_map (λ x. record h { error_name = x }) (once h.error_name (interface_in v)) ≡ Some g → Grows n h g (field c v)
  error_name_grows v g valid e =
      let o = once_is h.error_name (interface_in v) (λ x. record h { error_name = x }) g e in
      let b = bind_some (string_in v) (λ t. only_if (is_interface t) t) o.0 o.2 in
      let k = if_some_is (is_interface b.0) b.0 o.0 b.2 in
      let is = string_in_is v b.0 b.1 ∙ ap (λ (t : List ℕ). words string t) k.1 in
      let ok = inner little n c string o.0 (subst (λ (y : Plain). IsValue little n (field c y)) is valid) in
      let before : text_size h.error_name ≡ 0 = ap text_size o.1 in
      let sized = text_sized (Some o.0) n in
      subst (λ (y : Plain). Grows n h g (field c y)) (sym is) (subst (λ (k : Fields). Grows n h k (field c (words string o.0))) o.3 (record {
        sized = omega (arith, before, sized);
        good = λ (w : Good h). record { path = w.path; interface = w.interface; member = w.member; error_name = (ok, subst (λ (t : List ℕ). is_interface t ≡ true) k.1 k.0); reply_serial = w.reply_serial; destination = w.destination; sender = w.sender; signature = w.signature };
      }))

  reply_serial_grows : (v : Plain) (g : Fields) → IsValue little n (field c v) → option_map (λ x. record h { reply_serial = x }) (once h.reply_serial (serial_in v)) ≡ Some g → Grows n h g (field c v)
  reply_serial_grows v g valid e =
      let o = once_is h.reply_serial (serial_in v) (λ x. record h { reply_serial = x }) g e in
      let b = bind_some (number_in v) (λ x. only_if (ltb 0 x) x) o.0 o.2 in
      let k = if_some_is (ltb 0 b.0) b.0 o.0 b.2 in
      let is = number_in_is v b.0 b.1 ∙ ap (λ (x : ℕ). number uint32 x) k.1 in
      let before : number_size h.reply_serial ≡ 0 = ap number_size o.1 in
      let sized = number_sized (Some o.0) n in
      subst (λ (y : Plain). Grows n h g (field c y)) (sym is) (subst (λ (k : Fields). Grows n h k (field c (number uint32 o.0))) o.3 (record {
        sized = omega (arith, before, sized);
        good = λ (w : Good h). record { path = w.path; interface = w.interface; member = w.member; error_name = w.error_name; reply_serial = subst (λ (x : ℕ). 0 < x) k.1 (ltb-true _ _ k.0); destination = w.destination; sender = w.sender; signature = w.signature };
      }))

  destination_grows : (v : Plain) (g : Fields) → IsValue little n (field c v) → option_map (λ x. record h { destination = x }) (once h.destination (string_in v)) ≡ Some g → Grows n h g (field c v)
  destination_grows v g valid e =
      let o = once_is h.destination (string_in v) (λ x. record h { destination = x }) g e in
      let is = string_in_is v o.0 o.2 in
      let ok = inner little n c string o.0 (subst (λ (y : Plain). IsValue little n (field c y)) is valid) in
      let before : text_size h.destination ≡ 0 = ap text_size o.1 in
      let sized = text_sized (Some o.0) n in
      subst (λ (y : Plain). Grows n h g (field c y)) (sym is) (subst (λ (k : Fields). Grows n h k (field c (words string o.0))) o.3 (record {
        sized = omega (arith, before, sized);
        good = λ (w : Good h). record { path = w.path; interface = w.interface; member = w.member; error_name = w.error_name; reply_serial = w.reply_serial; destination = ok; sender = w.sender; signature = w.signature };
      }))

  sender_grows : (v : Plain) (g : Fields) → IsValue little n (field c v) → option_map (λ x. record h { sender = x }) (once h.sender (string_in v)) ≡ Some g → Grows n h g (field c v)
  sender_grows v g valid e =
      let o = once_is h.sender (string_in v) (λ x. record h { sender = x }) g e in
      let is = string_in_is v o.0 o.2 in
      let ok = inner little n c string o.0 (subst (λ (y : Plain). IsValue little n (field c y)) is valid) in
      let before : text_size h.sender ≡ 0 = ap text_size o.1 in
      let sized = text_sized (Some o.0) n in
      subst (λ (y : Plain). Grows n h g (field c y)) (sym is) (subst (λ (k : Fields). Grows n h k (field c (words string o.0))) o.3 (record {
        sized = omega (arith, before, sized);
        good = λ (w : Good h). record { path = w.path; interface = w.interface; member = w.member; error_name = w.error_name; reply_serial = w.reply_serial; destination = w.destination; sender = ok; signature = w.signature };
      }))

  signature_grows : (v : Plain) (g : Fields) → IsValue little n (field c v) → option_map (λ x. record h { signature = x }) (once h.signature (signature_in v)) ≡ Some g → Grows n h g (field c v)
  signature_grows v g valid e =
      let o = once_is h.signature (signature_in v) (λ x. record h { signature = x }) g e in
      let is = signature_in_is v o.0 o.2 in
      let ok = inner little n c signature o.0 (subst (λ (y : Plain). IsValue little n (field c y)) is valid) in
      let before : signature_size h.signature ≡ 0 = ap signature_size o.1 in
      let sized = signature_sized (Some o.0) n in
      subst (λ (y : Plain). Grows n h g (field c y)) (sym is) (subst (λ (k : Fields). Grows n h k (field c (words signature o.0))) o.3 (record {
        sized = omega (arith, before, sized);
        good = λ (w : Good h). record { path = w.path; interface = w.interface; member = w.member; error_name = w.error_name; reply_serial = w.reply_serial; destination = w.destination; sender = w.sender; signature = ok };
      }))

  fds_grows : (v : Plain) (g : Fields) → IsValue little n (field c v) → option_map (λ x. record h { fds = x }) (once h.fds (number_in v)) ≡ Some g → Grows n h g (field c v)
  fds_grows v g valid e =
      let o = once_is h.fds (number_in v) (λ x. record h { fds = x }) g e in
      let is = number_in_is v o.0 o.2 in
      let before : number_size h.fds ≡ 0 = ap number_size o.1 in
      let sized = number_sized (Some o.0) n in
      subst (λ (y : Plain). Grows n h g (field c y)) (sym is) (subst (λ (k : Fields). Grows n h k (field c (number uint32 o.0))) o.3 (record {
        sized = omega (arith, before, sized);
        good = λ (w : Good h). record { path = w.path; interface = w.interface; member = w.member; error_name = w.error_name; reply_serial = w.reply_serial; destination = w.destination; sender = w.sender; signature = w.signature };
      }))

  dropped_grows : (v : Plain) (g : Fields) → Some h ≡ Some g → Grows n h g (field c v)
  dropped_grows v g e = subst (λ (k : Fields). Grows n h k (field c v)) (some_is h g e) (record { sized = omega (arith, aligned_more n (ends n (field c v)) (grows n (field c v))); good = λ (w : Good h). w })

  from_9 : (v : Plain) (g : Fields) → IsValue little n (field c v) → cond (eqb c 9) (option_map (λ x. record h { fds = x }) (once h.fds (number_in v))) (Some h) ≡ Some g → Grows n h g (field c v)
  from_9 v g valid e = elim (chosen (eqb c 9) (option_map (λ x. record h { fds = x }) (once h.fds (number_in v))) (Some h) g e) [ inl a ↦ fds_grows v g valid a.1 | inr a ↦ dropped_grows v g a.1 ]

  from_8 : (v : Plain) (g : Fields) → IsValue little n (field c v) → cond (eqb c 8) (option_map (λ x. record h { signature = x }) (once h.signature (signature_in v))) (cond (eqb c 9) (option_map (λ x. record h { fds = x }) (once h.fds (number_in v))) (Some h)) ≡ Some g → Grows n h g (field c v)
  from_8 v g valid e = elim (chosen (eqb c 8) (option_map (λ x. record h { signature = x }) (once h.signature (signature_in v))) (cond (eqb c 9) (option_map (λ x. record h { fds = x }) (once h.fds (number_in v))) (Some h)) g e) [ inl a ↦ signature_grows v g valid a.1 | inr a ↦ from_9 v g valid a.1 ]

  from_7 : (v : Plain) (g : Fields) → IsValue little n (field c v) → cond (eqb c 7) (option_map (λ x. record h { sender = x }) (once h.sender (string_in v))) (cond (eqb c 8) (option_map (λ x. record h { signature = x }) (once h.signature (signature_in v))) (cond (eqb c 9) (option_map (λ x. record h { fds = x }) (once h.fds (number_in v))) (Some h))) ≡ Some g → Grows n h g (field c v)
  from_7 v g valid e = elim (chosen (eqb c 7) (option_map (λ x. record h { sender = x }) (once h.sender (string_in v))) (cond (eqb c 8) (option_map (λ x. record h { signature = x }) (once h.signature (signature_in v))) (cond (eqb c 9) (option_map (λ x. record h { fds = x }) (once h.fds (number_in v))) (Some h))) g e) [ inl a ↦ sender_grows v g valid a.1 | inr a ↦ from_8 v g valid a.1 ]

  from_6 : (v : Plain) (g : Fields) → IsValue little n (field c v) → cond (eqb c 6) (option_map (λ x. record h { destination = x }) (once h.destination (string_in v))) (cond (eqb c 7) (option_map (λ x. record h { sender = x }) (once h.sender (string_in v))) (cond (eqb c 8) (option_map (λ x. record h { signature = x }) (once h.signature (signature_in v))) (cond (eqb c 9) (option_map (λ x. record h { fds = x }) (once h.fds (number_in v))) (Some h)))) ≡ Some g → Grows n h g (field c v)
  from_6 v g valid e = elim (chosen (eqb c 6) (option_map (λ x. record h { destination = x }) (once h.destination (string_in v))) (cond (eqb c 7) (option_map (λ x. record h { sender = x }) (once h.sender (string_in v))) (cond (eqb c 8) (option_map (λ x. record h { signature = x }) (once h.signature (signature_in v))) (cond (eqb c 9) (option_map (λ x. record h { fds = x }) (once h.fds (number_in v))) (Some h)))) g e) [ inl a ↦ destination_grows v g valid a.1 | inr a ↦ from_7 v g valid a.1 ]

  from_5 : (v : Plain) (g : Fields) → IsValue little n (field c v) → cond (eqb c 5) (option_map (λ x. record h { reply_serial = x }) (once h.reply_serial (serial_in v))) (cond (eqb c 6) (option_map (λ x. record h { destination = x }) (once h.destination (string_in v))) (cond (eqb c 7) (option_map (λ x. record h { sender = x }) (once h.sender (string_in v))) (cond (eqb c 8) (option_map (λ x. record h { signature = x }) (once h.signature (signature_in v))) (cond (eqb c 9) (option_map (λ x. record h { fds = x }) (once h.fds (number_in v))) (Some h))))) ≡ Some g → Grows n h g (field c v)
  from_5 v g valid e = elim (chosen (eqb c 5) (option_map (λ x. record h { reply_serial = x }) (once h.reply_serial (serial_in v))) (cond (eqb c 6) (option_map (λ x. record h { destination = x }) (once h.destination (string_in v))) (cond (eqb c 7) (option_map (λ x. record h { sender = x }) (once h.sender (string_in v))) (cond (eqb c 8) (option_map (λ x. record h { signature = x }) (once h.signature (signature_in v))) (cond (eqb c 9) (option_map (λ x. record h { fds = x }) (once h.fds (number_in v))) (Some h))))) g e) [ inl a ↦ reply_serial_grows v g valid a.1 | inr a ↦ from_6 v g valid a.1 ]

  from_4 : (v : Plain) (g : Fields) → IsValue little n (field c v) → cond (eqb c 4) (option_map (λ x. record h { error_name = x }) (once h.error_name (interface_in v))) (cond (eqb c 5) (option_map (λ x. record h { reply_serial = x }) (once h.reply_serial (serial_in v))) (cond (eqb c 6) (option_map (λ x. record h { destination = x }) (once h.destination (string_in v))) (cond (eqb c 7) (option_map (λ x. record h { sender = x }) (once h.sender (string_in v))) (cond (eqb c 8) (option_map (λ x. record h { signature = x }) (once h.signature (signature_in v))) (cond (eqb c 9) (option_map (λ x. record h { fds = x }) (once h.fds (number_in v))) (Some h)))))) ≡ Some g → Grows n h g (field c v)
  from_4 v g valid e = elim (chosen (eqb c 4) (option_map (λ x. record h { error_name = x }) (once h.error_name (interface_in v))) (cond (eqb c 5) (option_map (λ x. record h { reply_serial = x }) (once h.reply_serial (serial_in v))) (cond (eqb c 6) (option_map (λ x. record h { destination = x }) (once h.destination (string_in v))) (cond (eqb c 7) (option_map (λ x. record h { sender = x }) (once h.sender (string_in v))) (cond (eqb c 8) (option_map (λ x. record h { signature = x }) (once h.signature (signature_in v))) (cond (eqb c 9) (option_map (λ x. record h { fds = x }) (once h.fds (number_in v))) (Some h)))))) g e) [ inl a ↦ error_name_grows v g valid a.1 | inr a ↦ from_5 v g valid a.1 ]

  from_3 : (v : Plain) (g : Fields) → IsValue little n (field c v) → cond (eqb c 3) (option_map (λ x. record h { member = x }) (once h.member (member_in v))) (cond (eqb c 4) (option_map (λ x. record h { error_name = x }) (once h.error_name (interface_in v))) (cond (eqb c 5) (option_map (λ x. record h { reply_serial = x }) (once h.reply_serial (serial_in v))) (cond (eqb c 6) (option_map (λ x. record h { destination = x }) (once h.destination (string_in v))) (cond (eqb c 7) (option_map (λ x. record h { sender = x }) (once h.sender (string_in v))) (cond (eqb c 8) (option_map (λ x. record h { signature = x }) (once h.signature (signature_in v))) (cond (eqb c 9) (option_map (λ x. record h { fds = x }) (once h.fds (number_in v))) (Some h))))))) ≡ Some g → Grows n h g (field c v)
  from_3 v g valid e = elim (chosen (eqb c 3) (option_map (λ x. record h { member = x }) (once h.member (member_in v))) (cond (eqb c 4) (option_map (λ x. record h { error_name = x }) (once h.error_name (interface_in v))) (cond (eqb c 5) (option_map (λ x. record h { reply_serial = x }) (once h.reply_serial (serial_in v))) (cond (eqb c 6) (option_map (λ x. record h { destination = x }) (once h.destination (string_in v))) (cond (eqb c 7) (option_map (λ x. record h { sender = x }) (once h.sender (string_in v))) (cond (eqb c 8) (option_map (λ x. record h { signature = x }) (once h.signature (signature_in v))) (cond (eqb c 9) (option_map (λ x. record h { fds = x }) (once h.fds (number_in v))) (Some h))))))) g e) [ inl a ↦ member_grows v g valid a.1 | inr a ↦ from_4 v g valid a.1 ]

  from_2 : (v : Plain) (g : Fields) → IsValue little n (field c v) → cond (eqb c 2) (option_map (λ x. record h { interface = x }) (once h.interface (interface_in v))) (cond (eqb c 3) (option_map (λ x. record h { member = x }) (once h.member (member_in v))) (cond (eqb c 4) (option_map (λ x. record h { error_name = x }) (once h.error_name (interface_in v))) (cond (eqb c 5) (option_map (λ x. record h { reply_serial = x }) (once h.reply_serial (serial_in v))) (cond (eqb c 6) (option_map (λ x. record h { destination = x }) (once h.destination (string_in v))) (cond (eqb c 7) (option_map (λ x. record h { sender = x }) (once h.sender (string_in v))) (cond (eqb c 8) (option_map (λ x. record h { signature = x }) (once h.signature (signature_in v))) (cond (eqb c 9) (option_map (λ x. record h { fds = x }) (once h.fds (number_in v))) (Some h)))))))) ≡ Some g → Grows n h g (field c v)
  from_2 v g valid e = elim (chosen (eqb c 2) (option_map (λ x. record h { interface = x }) (once h.interface (interface_in v))) (cond (eqb c 3) (option_map (λ x. record h { member = x }) (once h.member (member_in v))) (cond (eqb c 4) (option_map (λ x. record h { error_name = x }) (once h.error_name (interface_in v))) (cond (eqb c 5) (option_map (λ x. record h { reply_serial = x }) (once h.reply_serial (serial_in v))) (cond (eqb c 6) (option_map (λ x. record h { destination = x }) (once h.destination (string_in v))) (cond (eqb c 7) (option_map (λ x. record h { sender = x }) (once h.sender (string_in v))) (cond (eqb c 8) (option_map (λ x. record h { signature = x }) (once h.signature (signature_in v))) (cond (eqb c 9) (option_map (λ x. record h { fds = x }) (once h.fds (number_in v))) (Some h)))))))) g e) [ inl a ↦ interface_grows v g valid a.1 | inr a ↦ from_3 v g valid a.1 ]

  from_1 : (v : Plain) (g : Fields) → IsValue little n (field c v) → cond (eqb c 1) (option_map (λ x. record h { path = x }) (once h.path (path_in v))) (cond (eqb c 2) (option_map (λ x. record h { interface = x }) (once h.interface (interface_in v))) (cond (eqb c 3) (option_map (λ x. record h { member = x }) (once h.member (member_in v))) (cond (eqb c 4) (option_map (λ x. record h { error_name = x }) (once h.error_name (interface_in v))) (cond (eqb c 5) (option_map (λ x. record h { reply_serial = x }) (once h.reply_serial (serial_in v))) (cond (eqb c 6) (option_map (λ x. record h { destination = x }) (once h.destination (string_in v))) (cond (eqb c 7) (option_map (λ x. record h { sender = x }) (once h.sender (string_in v))) (cond (eqb c 8) (option_map (λ x. record h { signature = x }) (once h.signature (signature_in v))) (cond (eqb c 9) (option_map (λ x. record h { fds = x }) (once h.fds (number_in v))) (Some h))))))))) ≡ Some g → Grows n h g (field c v)
  from_1 v g valid e = elim (chosen (eqb c 1) (option_map (λ x. record h { path = x }) (once h.path (path_in v))) (cond (eqb c 2) (option_map (λ x. record h { interface = x }) (once h.interface (interface_in v))) (cond (eqb c 3) (option_map (λ x. record h { member = x }) (once h.member (member_in v))) (cond (eqb c 4) (option_map (λ x. record h { error_name = x }) (once h.error_name (interface_in v))) (cond (eqb c 5) (option_map (λ x. record h { reply_serial = x }) (once h.reply_serial (serial_in v))) (cond (eqb c 6) (option_map (λ x. record h { destination = x }) (once h.destination (string_in v))) (cond (eqb c 7) (option_map (λ x. record h { sender = x }) (once h.sender (string_in v))) (cond (eqb c 8) (option_map (λ x. record h { signature = x }) (once h.signature (signature_in v))) (cond (eqb c 9) (option_map (λ x. record h { fds = x }) (once h.fds (number_in v))) (Some h))))))))) g e) [ inl a ↦ path_grows v g valid a.1 | inr a ↦ from_2 v g valid a.1 ]

  field_grows : (v : Plain) (g : Fields) → IsValue little n (field c v) → with_field h c v ≡ Some g → Grows n h g (field c v)
  unfolding with_field
  field_grows v g valid e = elim (chosen (eqb c 0) None (cond (eqb c 1) (option_map (λ x. record h { path = x }) (once h.path (path_in v))) (cond (eqb c 2) (option_map (λ x. record h { interface = x }) (once h.interface (interface_in v))) (cond (eqb c 3) (option_map (λ x. record h { member = x }) (once h.member (member_in v))) (cond (eqb c 4) (option_map (λ x. record h { error_name = x }) (once h.error_name (interface_in v))) (cond (eqb c 5) (option_map (λ x. record h { reply_serial = x }) (once h.reply_serial (serial_in v))) (cond (eqb c 6) (option_map (λ x. record h { destination = x }) (once h.destination (string_in v))) (cond (eqb c 7) (option_map (λ x. record h { sender = x }) (once h.sender (string_in v))) (cond (eqb c 8) (option_map (λ x. record h { signature = x }) (once h.signature (signature_in v))) (cond (eqb c 9) (option_map (λ x. record h { fds = x }) (once h.fds (number_in v))) (Some h)))))))))) g e) [ inl a ↦ absurd (none_some g a.1) | inr a ↦ from_1 v g valid a.1 ]

pub record AllGrow (n : ℕ) (h g : Fields) (fs : Plains) : Type 0 where
  pub sized : size g + aligned 8 n ≤ size h + aligned 8 (end_all n fs)
  pub good : Good h → Good g

pub said_grows : (little : Bool) (fs : Plains) (n : ℕ) (h g : Fields) → AreOf little field_type n fs → said h fs ≡ Some g → AllGrow n h g fs
unfolding said
said_grows little none n h g are e = subst (λ (k : Fields). AllGrow n h k none) (some_is h g e) (record { sized = omega arith; good = λ (w : Good h). w })
said_grows little (more f fs) n h g are e =
    let a = bind_some (field_in f) (λ x. with_field h x.0 x.1 >>= λ k. said k fs) g e in
    let b = bind_some (with_field h a.0.0 a.0.1) (λ k. said k fs) g a.2 in
    let is = field_in_is f a.0.0 a.0.1 a.1 in
    let first = subst (λ (y : Plain). Grows n h b.0 y) (sym is) (field_grows little n a.0.0 h a.0.1 b.0 (subst (IsValue little n) is are.1) b.1) in
    let others = said_grows little fs (ends n f) b.0 g (subst (λ (m : ℕ). AreOf little field_type m fs) (ends_is little f n) are.2) b.2 in
    record { sized = omega (arith, first.sized, others.sized); good = λ (w : Good h). others.good (first.good w) }

pub none_good : Good no_fields
none_good = record { path = tt; interface = tt; member = tt; error_name = tt; reply_serial = tt; destination = tt; sender = tt; signature = tt }
