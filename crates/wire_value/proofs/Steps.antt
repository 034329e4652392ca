-- A step of reading takes the bytes that it gives, and reads them again.
use Rattle.std.proofs.Common.{◌≡◌, ℕ, zero, suc, ◌+◌, ◌*◌, ◌%◌, ◌^◌, ◌<◌, ◌≤◌, Bool, true, false, ◌&&◌, not, cond, eqb, ltb, List, [], ◌∷◌, ◌++◌, length, get_or, take, drop, Option, Some, None, refl, sym, ap, subst, ◌∙◌, append_assoc, arith, inl, inr}
use Rattle.std.specs.List.{list_all, AllByRecursion}
use Rattle.std.proofs.lemmas.Bool.{false≢true, cases_lt, ltb-false, ltb-true, le-ltb, eqb-true}
use Rattle.std.proofs.lemmas.Bool.Decides.{nat_tests}
use Rattle.std.proofs.lemmas.List.{take_at, drop_at, take-append-drop, length-append, length-take, get_or-drop, get_or-take, get_or_past, append-nil}
use Rattle.std.proofs.lemmas.Nat.{le_bytes_2, le_bytes_4, le_bytes_8, be_bytes_2, be_bytes_4, be_bytes_8}
use Rattle.std.proofs.lemmas.Str.{is_utf8-from_IsUtf8, IsUtf8-from_is_utf8}
use Rattle.byteorder.specs.Endian.{little_number, big_number}
use Rattle.byteorder.specs.Numbers.{little_number-reads_back, big_number-reads_back, little_from-lt, big_from-lt, length-bytes_low_first, length-bytes_high_first}
use Rattle.wire_value.specs.Types.{Fixed, byte, boolean, int16, uint16, int32, uint32, int64, uint64, double, unix_fd, width}
use Rattle.wire_value.specs.Spelling.{zeros, gap, word, below, is_path, IsString}
use Rattle.wire_value.specs.Reading.{◌>>=◌, At, bytes_at, byte_at, gap_at, from_word, word_at, ended_at, is_string, str_at, path_at, sign_at, is_number, fixed_at}

abbrev pub IsBytes : List ℕ → Type 0
IsBytes bytes = (i : ℕ) → get_or bytes i 0 < 256

IsBytes-drop : (n : ℕ) (bytes : List ℕ) → IsBytes bytes → IsBytes (drop n bytes)
IsBytes-drop n bytes h i = rw get_or-drop (h (n + i))

IsBytes-take : (n : ℕ) (bytes : List ℕ) → IsBytes bytes → IsBytes (take n bytes)
IsBytes-take n bytes h i =
    elim (cases_lt i n) [
      | inl lt ↦ rw (get_or-take n bytes i 0 lt) (h i)
      | inr le ↦ rw (get_or_past (take n bytes) i 0 (omega (arith, length-take n bytes))) (omega arith)
    ]

-- the value of a step that did not fail
pub bind_some : {A B : Type 0} (o : Option A) (f : A → Option B) (y : B) → (o >>= f) ≡ Some y → (x : A) × (o ≡ Some x) × (f x ≡ Some y)
bind_some (Some x) f y e = (x, refl, e)
bind_some None f y e = absurd cc

-- a test that did not fail
pub if_some_is : {A : Type 0} (b : Bool) (x y : A) → cond b (Some x) None ≡ Some y → (b ≡ true) × (x ≡ y)
if_some_is true x y e = (refl, cc)
if_some_is false x y e = absurd cc

pub if_none_is : {A : Type 0} (b : Bool) (x y : A) → cond b None (Some x) ≡ Some y → (b ≡ false) × (x ≡ y)
if_none_is true x y e = absurd cc
if_none_is false x y e = (refl, cc)

abbrev given : {A : Type 0} → A → Option A
given x = Some x

pub some_is : {A : Type 0} (x y : A) → given x ≡ given y → x ≡ y
some_is x y e = cc

-- what a reader took, and where it came to
pub record Takes (p : At) (text : List ℕ) (q : At) : Type 0 where
  pub parts : p.1 ≡ text ++ q.1
  pub moves : q.0 ≡ p.0 + length text
  pub fits : IsBytes q.1

pub Takes-then : (p : At) (x : List ℕ) (q : At) (y : List ℕ) (r : At) → Takes p x q → Takes q y r → Takes p (x ++ y) r
Takes-then p x q y r a b = record {
  parts = a.parts ∙ ap (λ (t : List ℕ). x ++ t) b.parts ∙ sym (append_assoc x y r.1);
  moves = omega (arith, a.moves, b.moves, length-append x y);
  fits = b.fits;
}

-- ---- bytes

pub record TakesBytes (k : ℕ) (p : At) (b : List ℕ × At) : Type 0 where
  pub takes : Takes p b.0 b.1
  pub len : length b.0 ≡ k
  pub bytes : IsBytes b.0

pub bytes_take : (k : ℕ) (p : At) (b : List ℕ × At) → IsBytes p.1 → bytes_at k p ≡ Some b → TakesBytes k p b
unfolding bytes_at
bytes_take k p b fits e =
    let g = if_none_is (ltb (length p.1) k) (take k p.1, (p.0 + k, drop k p.1)) b e in
    let long : k ≤ length p.1 = ltb-false _ _ g.0 in
    let len : length (take k p.1) ≡ k = omega (arith, length-take k p.1) in
    subst (TakesBytes k p) g.1 (record {
      takes = record { parts = sym (take-append-drop k p.1); moves = omega arith; fits = IsBytes-drop k p.1 fits };
      len = len;
      bytes = IsBytes-take k p.1 fits;
    })

pub bytes_again : (k n : ℕ) (xs rest : List ℕ) → length xs ≡ k → bytes_at k (n, xs ++ rest) ≡ Some (xs, (n + k, rest))
unfolding bytes_at
bytes_again k n xs rest len =
    let long : ltb (length (xs ++ rest)) k ≡ false = le-ltb _ _ (omega (arith, length-append xs rest)) in
    rw (long, take_at xs rest k len, drop_at xs rest k len) refl

-- ---- one byte

one_byte : (xs : List ℕ) → length xs ≡ 1 → xs ≡ get_or xs 0 0 ∷ []
one_byte [] e = absurd (omega arith)
one_byte (x ∷ []) e = refl
one_byte (x ∷ y ∷ xs) e = absurd (omega arith)

pub byte_takes : (p : At) (b : ℕ × At) → IsBytes p.1 → byte_at p ≡ Some b → Takes p (b.0 ∷ []) b.1 × (b.0 < 256)
unfolding byte_at
byte_takes p b fits e =
    let a = bind_some (bytes_at 1 p) (λ b. Some (get_or b.0 0 0, b.1)) b e in
    let t = bytes_take 1 p a.0 fits a.1 in
    subst (λ (y : ℕ × At). Takes p (y.0 ∷ []) y.1 × (y.0 < 256)) (some_is (get_or a.0.0 0 0, a.0.1) b a.2)
    (subst (λ (xs : List ℕ). Takes p xs a.0.1) (one_byte a.0.0 t.len) t.takes, t.bytes 0)

pub byte_again : (n b : ℕ) (rest : List ℕ) → byte_at (n, b ∷ rest) ≡ Some (b, (n + 1, rest))
unfolding byte_at
byte_again n b rest = rw (bytes_again 1 n (b ∷ []) rest refl) refl

-- ---- zeros

pub is_not : (n m : ℕ) → (n ≡ m → ⊥) → eqb n m ≡ false
is_not n m h = grind (arith, nat_tests)

pub suc_is_not : (b : ℕ) → eqb (suc b) 0 ≡ false
suc_is_not b = grind (arith, nat_tests)

are_zeros : (xs : List ℕ) → list_all (λ b. eqb b 0) xs ≡ true → xs ≡ zeros (length xs)
are_zeros [] e = refl
are_zeros (zero ∷ xs) e = ap (λ (ys : List ℕ). 0 ∷ ys) (are_zeros xs e)
are_zeros (suc x ∷ xs) e = absurd (false≢true (rw suc_is_not at e))

all_zeros : (k : ℕ) → list_all (λ b. eqb b 0) (zeros k) ≡ true
all_zeros zero = refl
all_zeros (suc k) = all_zeros k

pub length-zeros : (k : ℕ) → length (zeros k) ≡ k
length-zeros zero = refl
length-zeros (suc k) = ap suc (length-zeros k)

pub gap_takes : (alignment : ℕ) (p q : At) → IsBytes p.1 → gap_at alignment p ≡ Some q → Takes p (zeros (gap alignment p.0)) q
unfolding gap_at
gap_takes alignment p q fits e =
    let a = bind_some (bytes_at (gap alignment p.0) p) (λ z. cond (list_all (λ b. eqb b 0) z.0) (Some z.1) None) q e in
    let t = bytes_take (gap alignment p.0) p a.0 fits a.1 in
    let g = if_some_is (list_all (λ b. eqb b 0) a.0.0) a.0.1 q a.2 in
    let is : a.0.0 ≡ zeros (gap alignment p.0) = are_zeros a.0.0 g.0 ∙ ap zeros t.len in
    subst (Takes p (zeros (gap alignment p.0))) g.1 (subst (λ (xs : List ℕ). Takes p xs a.0.1) is t.takes)

pub gap_again : (alignment n : ℕ) (rest : List ℕ) → gap_at alignment (n, zeros (gap alignment n) ++ rest) ≡ Some (n + gap alignment n, rest)
unfolding gap_at
gap_again alignment n rest = rw (bytes_again (gap alignment n) n (zeros (gap alignment n)) rest (length-zeros (gap alignment n)), all_zeros (gap alignment n)) refl

-- ---- numbers

pub length-word : (little : Bool) (k x : ℕ) → length (word little k x) ≡ k
unfolding word
length-word true k x = length-bytes_low_first 0 k x
length-word false k x = length-bytes_high_first k x

byte_back_le : (bs : List ℕ) → length bs ≡ 1 → IsBytes bs → word true 1 (from_word true 1 bs) ≡ bs
unfolding word from_word
byte_back_le [] len fits = absurd (omega arith)
byte_back_le (b ∷ []) len fits = let small = fits 0 in let e : (b + 256 * 0) % 256 ≡ b = omega arith in ap (λ (x : ℕ). x ∷ []) e
byte_back_le (b ∷ c ∷ bs) len fits = absurd (omega arith)

byte_back_be : (bs : List ℕ) → length bs ≡ 1 → IsBytes bs → word false 1 (from_word false 1 bs) ≡ bs
unfolding word from_word
byte_back_be [] len fits = absurd (omega arith)
byte_back_be (b ∷ []) len fits = let small = fits 0 in let e : (b * 256 ^ 0 + 0) % 256 ≡ b = omega arith in ap (λ (x : ℕ). x ∷ []) e
byte_back_be (b ∷ c ∷ bs) len fits = absurd (omega arith)

word_back : (little : Bool) (f : Fixed) (bs : List ℕ) → length bs ≡ width f → IsBytes bs → word little (width f) (from_word little (width f) bs) ≡ bs
unfolding word from_word
word_back true byte bs len fits = byte_back_le bs len fits
word_back true boolean bs len fits = le_bytes_4 bs (little_number 4 bs) len fits (omega arith)
word_back true int16 bs len fits = le_bytes_2 bs (little_number 2 bs) len fits (omega arith)
word_back true uint16 bs len fits = le_bytes_2 bs (little_number 2 bs) len fits (omega arith)
word_back true int32 bs len fits = le_bytes_4 bs (little_number 4 bs) len fits (omega arith)
word_back true uint32 bs len fits = le_bytes_4 bs (little_number 4 bs) len fits (omega arith)
word_back true int64 bs len fits = le_bytes_8 bs (little_number 8 bs) len fits (omega arith)
word_back true uint64 bs len fits = le_bytes_8 bs (little_number 8 bs) len fits (omega arith)
word_back true double bs len fits = le_bytes_8 bs (little_number 8 bs) len fits (omega arith)
word_back true unix_fd bs len fits = le_bytes_4 bs (little_number 4 bs) len fits (omega arith)
word_back false byte bs len fits = byte_back_be bs len fits
word_back false boolean bs len fits = be_bytes_4 bs (big_number 4 bs) len fits (omega arith)
word_back false int16 bs len fits = be_bytes_2 bs (big_number 2 bs) len fits (omega arith)
word_back false uint16 bs len fits = be_bytes_2 bs (big_number 2 bs) len fits (omega arith)
word_back false int32 bs len fits = be_bytes_4 bs (big_number 4 bs) len fits (omega arith)
word_back false uint32 bs len fits = be_bytes_4 bs (big_number 4 bs) len fits (omega arith)
word_back false int64 bs len fits = be_bytes_8 bs (big_number 8 bs) len fits (omega arith)
word_back false uint64 bs len fits = be_bytes_8 bs (big_number 8 bs) len fits (omega arith)
word_back false double bs len fits = be_bytes_8 bs (big_number 8 bs) len fits (omega arith)
word_back false unix_fd bs len fits = be_bytes_4 bs (big_number 4 bs) len fits (omega arith)

word_below : (little : Bool) (k : ℕ) (bs : List ℕ) → IsBytes bs → from_word little k bs < 256 ^ k
unfolding from_word
word_below true k bs fits = little_from-lt 0 k bs fits
word_below false k bs fits = big_from-lt 0 k bs fits

pub from_word_again : (little : Bool) (k x : ℕ) → x < 256 ^ k → from_word little k (word little k x) ≡ x
unfolding word from_word
from_word_again true k x lt = rw (append-nil _) at (little_number-reads_back k x [] lt)
from_word_again false k x lt = rw (append-nil _) at (big_number-reads_back k x [] lt)

pub word_takes : (little : Bool) (f : Fixed) (p : At) (x : ℕ × At) → IsBytes p.1 → word_at little (width f) p ≡ Some x
    → Takes p (zeros (gap (width f) p.0) ++ word little (width f) x.0) x.1 × (x.0 < 256 ^ width f)
unfolding word_at
word_takes little f p x fits e =
    let k = width f in
    let a = bind_some (gap_at k p) (λ q. bytes_at k q >>= λ b. Some (from_word little k b.0, b.1)) x e in
    let t = gap_takes k p a.0 fits a.1 in
    let b = bind_some (bytes_at k a.0) (λ b. Some (from_word little k b.0, b.1)) x a.2 in
    let u = bytes_take k a.0 b.0 t.fits b.1 in
    let w = subst (λ (xs : List ℕ). Takes a.0 xs b.0.1) (sym (word_back little f b.0.0 u.len u.bytes)) u.takes in
    subst (λ (y : ℕ × At). Takes p (zeros (gap k p.0) ++ word little k y.0) y.1 × (y.0 < 256 ^ k)) (some_is (from_word little k b.0.0, b.0.1) x b.2)
    (Takes-then p (zeros (gap k p.0)) a.0 (word little k (from_word little k b.0.0)) b.0.1 t w, word_below little k b.0.0 u.bytes)

pub word_again : (little : Bool) (k n x : ℕ) (rest : List ℕ) → x < 256 ^ k → word_at little k (n, zeros (gap k n) ++ (word little k x ++ rest)) ≡ Some (x, (n + gap k n + k, rest))
unfolding word_at
word_again little k n x rest lt = rw (gap_again k n (word little k x ++ rest), bytes_again k (n + gap k n) (word little k x) rest (length-word little k x), from_word_again little k x lt) refl

pub from_byte : (little : Bool) (bs : List ℕ) → from_word little 1 bs ≡ get_or bs 0 0
unfolding from_word
from_byte true bs = omega arith
from_byte false bs = omega arith

-- a number that the type has, of so many bytes
number_below : (f : Fixed) (x : ℕ) → x < 256 ^ width f → is_number f x ≡ true → x < below f
number_below byte x h e = omega arith
number_below boolean x h e = ltb-true _ _ e
number_below int16 x h e = omega arith
number_below uint16 x h e = omega arith
number_below int32 x h e = omega arith
number_below uint32 x h e = omega arith
number_below int64 x h e = omega arith
number_below uint64 x h e = omega arith
number_below double x h e = omega arith
number_below unix_fd x h e = omega arith

pub number_fits : (f : Fixed) (x : ℕ) → x < below f → x < 256 ^ width f
number_fits byte x h = omega arith
number_fits boolean x h = omega arith
number_fits int16 x h = omega arith
number_fits uint16 x h = omega arith
number_fits int32 x h = omega arith
number_fits uint32 x h = omega arith
number_fits int64 x h = omega arith
number_fits uint64 x h = omega arith
number_fits double x h = omega arith
number_fits unix_fd x h = omega arith

number_is : (f : Fixed) (x : ℕ) → x < below f → is_number f x ≡ true
number_is byte x h = refl
number_is boolean x h = grind (arith, nat_tests)
number_is int16 x h = refl
number_is uint16 x h = refl
number_is int32 x h = refl
number_is uint32 x h = refl
number_is int64 x h = refl
number_is uint64 x h = refl
number_is double x h = refl
number_is unix_fd x h = refl

pub fixed_takes : (little : Bool) (f : Fixed) (p : At) (x : ℕ × At) → IsBytes p.1 → fixed_at little f p ≡ Some x
    → Takes p (zeros (gap (width f) p.0) ++ word little (width f) x.0) x.1 × (x.0 < below f)
fixed_takes little f p x fits e =
    let a = bind_some (word_at little (width f) p) (λ x. cond (is_number f x.0) (Some x) None) x e in
    let g = if_some_is (is_number f a.0.0) a.0 x a.2 in
    let t = word_takes little f p a.0 fits a.1 in
    subst (λ (y : ℕ × At). Takes p (zeros (gap (width f) p.0) ++ word little (width f) y.0) y.1 × (y.0 < below f)) g.1
    (t.0, number_below f a.0.0 t.1 g.0)

pub fixed_again : (little : Bool) (f : Fixed) (n x : ℕ) (rest : List ℕ) → x < below f
    → fixed_at little f (n, zeros (gap (width f) n) ++ (word little (width f) x ++ rest)) ≡ Some (x, (n + gap (width f) n + width f, rest))
fixed_again little f n x rest lt = rw (word_again little (width f) n x rest (number_fits f x lt), number_is f x lt) refl

-- ---- texts

pub ended_takes : (k : ℕ) (p : At) (t : List ℕ × At) → IsBytes p.1 → ended_at k p ≡ Some t → Takes p (t.0 ++ 0 ∷ []) t.1 × (length t.0 ≡ k)
unfolding ended_at
ended_takes k p t fits e =
    let a = bind_some (bytes_at k p) (λ t. byte_at t.1 >>= λ z. cond (eqb z.0 0) (Some (t.0, z.1)) None) t e in
    let u = bytes_take k p a.0 fits a.1 in
    let b = bind_some (byte_at a.0.1) (λ z. cond (eqb z.0 0) (Some (a.0.0, z.1)) None) t a.2 in
    let w = byte_takes a.0.1 b.0 u.takes.fits b.1 in
    let g = if_some_is (eqb b.0.0 0) (a.0.0, b.0.1) t b.2 in
    let z = subst (λ (y : ℕ). Takes a.0.1 (y ∷ []) b.0.1) (eqb-true _ _ g.0) w.0 in
    subst (λ (y : List ℕ × At). Takes p (y.0 ++ 0 ∷ []) y.1 × (length y.0 ≡ k)) g.1 (Takes-then p a.0.0 a.0.1 (0 ∷ []) b.0.1 u.takes z, u.len)

pub ended_again : (k n : ℕ) (t rest : List ℕ) → length t ≡ k → ended_at k (n, t ++ (0 ∷ rest)) ≡ Some (t, (n + k + 1, rest))
unfolding ended_at
ended_again k n t rest len = rw (bytes_again k n t (0 ∷ rest) len, byte_again (n + k) 0 rest) refl

is_text : (t : List ℕ) → list_all (λ b. not (eqb b 0)) t ≡ true → AllByRecursion (λ b. b ≡ 0 → ⊥) t
is_text [] e = tt
is_text (zero ∷ t) e = absurd cc
is_text (suc b ∷ t) e = ((λ z. omega arith), is_text t (rw suc_is_not at e))

text_is : (t : List ℕ) → AllByRecursion (λ b. b ≡ 0 → ⊥) t → list_all (λ b. not (eqb b 0)) t ≡ true
text_is [] h = refl
text_is (zero ∷ t) h = absurd (h.0 refl)
text_is (suc b ∷ t) h = rw suc_is_not (text_is t h.1)

pub both_true : (a b : Bool) → (a && b) ≡ true → (a ≡ true) × (b ≡ true)
both_true true b e = (refl, e)
both_true false b e = absurd (false≢true e)

pub string_takes : (t : List ℕ) → length t < 2 ^ 32 → is_string t ≡ true → IsString t
string_takes t lt e =
    let b = both_true _ _ e in
    record { utf8 = IsUtf8-from_is_utf8 t b.1; no_nul = is_text t b.0; short = lt }

pub string_is : (t : List ℕ) → IsString t → is_string t ≡ true
string_is t h = rw (text_is t h.no_nul, is_utf8-from_IsUtf8 t h.utf8) refl

pub str_takes : (little : Bool) (p : At) (t : List ℕ × At) → IsBytes p.1 → str_at little p ≡ Some t
    → Takes p (zeros (gap 4 p.0) ++ (word little 4 (length t.0) ++ (t.0 ++ 0 ∷ []))) t.1 × IsString t.0
unfolding str_at
str_takes little p t fits e =
    let a = bind_some (word_at little 4 p) (λ k. ended_at k.0 k.1 >>= λ t. cond (is_string t.0) (Some t) None) t e in
    let u = word_takes little uint32 p a.0 fits a.1 in
    let b = bind_some (ended_at a.0.0 a.0.1) (λ t. cond (is_string t.0) (Some t) None) t a.2 in
    let w = ended_takes a.0.0 a.0.1 b.0 u.0.fits b.1 in
    let g = if_some_is (is_string b.0.0) b.0 t b.2 in
    let both = Takes-then p (zeros (gap 4 p.0) ++ word little 4 a.0.0) a.0.1 (b.0.0 ++ 0 ∷ []) b.0.1 u.0 w.0 in
    let whole = subst (λ (xs : List ℕ). Takes p xs b.0.1) (append_assoc (zeros (gap 4 p.0)) (word little 4 a.0.0) (b.0.0 ++ 0 ∷ [])) both in
    let short : length b.0.0 < 2 ^ 32 = omega (arith, w.1, u.1) in
    subst (λ (y : List ℕ × At). Takes p (zeros (gap 4 p.0) ++ (word little 4 (length y.0) ++ (y.0 ++ 0 ∷ []))) y.1 × IsString y.0) g.1
    (subst (λ (k : ℕ). Takes p (zeros (gap 4 p.0) ++ (word little 4 k ++ (b.0.0 ++ 0 ∷ []))) b.0.1) (sym w.1) whole, string_takes b.0.0 short g.0)

pub str_again : (little : Bool) (n : ℕ) (t rest : List ℕ) → IsString t
    → str_at little (n, zeros (gap 4 n) ++ (word little 4 (length t) ++ (t ++ (0 ∷ rest)))) ≡ Some (t, (n + gap 4 n + 4 + length t + 1, rest))
unfolding str_at
str_again little n t rest is =
    let lt : length t < 256 ^ 4 = is.short in
    rw (word_again little 4 n (length t) (t ++ (0 ∷ rest)) lt, ended_again (length t) (n + gap 4 n + 4) t rest refl, string_is t is) refl

pub path_takes : (little : Bool) (p : At) (t : List ℕ × At) → IsBytes p.1 → path_at little p ≡ Some t
    → Takes p (zeros (gap 4 p.0) ++ (word little 4 (length t.0) ++ (t.0 ++ 0 ∷ []))) t.1 × (IsString t.0 × (is_path t.0 ≡ true))
unfolding path_at
path_takes little p t fits e =
    let a = bind_some (str_at little p) (λ t. cond (is_path t.0) (Some t) None) t e in
    let g = if_some_is (is_path a.0.0) a.0 t a.2 in
    let u = str_takes little p a.0 fits a.1 in
    subst (λ (y : List ℕ × At). Takes p (zeros (gap 4 p.0) ++ (word little 4 (length y.0) ++ (y.0 ++ 0 ∷ []))) y.1 × (IsString y.0 × (is_path y.0 ≡ true))) g.1 (u.0, (u.1, g.0))

pub path_again : (little : Bool) (n : ℕ) (t rest : List ℕ) → IsString t × (is_path t ≡ true)
    → path_at little (n, zeros (gap 4 n) ++ (word little 4 (length t) ++ (t ++ (0 ∷ rest)))) ≡ Some (t, (n + gap 4 n + 4 + length t + 1, rest))
unfolding path_at
path_again little n t rest is = rw (str_again little n t rest is.0, is.1) refl

pub sign_takes : (p : At) (t : List ℕ × At) → IsBytes p.1 → sign_at p ≡ Some t → Takes p (length t.0 ∷ (t.0 ++ 0 ∷ [])) t.1 × (length t.0 < 256)
unfolding sign_at
sign_takes p t fits e =
    let a = bind_some (byte_at p) (λ k. ended_at k.0 k.1) t e in
    let u = byte_takes p a.0 fits a.1 in
    let w = ended_takes a.0.0 a.0.1 t u.0.fits a.2 in
    let both = Takes-then p (a.0.0 ∷ []) a.0.1 (t.0 ++ 0 ∷ []) t.1 u.0 w.0 in
    (subst (λ (k : ℕ). Takes p (k ∷ (t.0 ++ 0 ∷ [])) t.1) (sym w.1) both, omega (arith, w.1, u.1))

pub sign_again : (n : ℕ) (t rest : List ℕ) → sign_at (n, length t ∷ (t ++ (0 ∷ rest))) ≡ Some (t, (n + 1 + length t + 1, rest))
unfolding sign_at
sign_again n t rest = rw (byte_again n (length t) (t ++ (0 ∷ rest)), ended_again (length t) (n + 1) t rest refl) refl
