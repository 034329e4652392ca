-- What any bytes come to, by the spellings that they begin or that begin them.
use Rattle.std.proofs.Common.{◌≡◌, ℕ, suc, ◌+◌, ◌-◌, ◌<◌, ◌≤◌, ◌^◌, Bool, true, false, not, cond, eqb, ltb, List, [], ◌∷◌, ◌++◌, length, get_or, take, drop, Option, Some, None, refl, sym, ap, subst, ◌∙◌, arith, inl, inr, ◌⊎◌}
use Rattle.std.proofs.lemmas.Bool.{eqb-true, ltb-true, ltb-false, lt-ltb, le-ltb, cases_lt}
use Rattle.std.proofs.lemmas.List.{append-nil, length-append, length-take, take_at, take-append-drop, take-append-le, get_or-take, get_or_past}
use Rattle.wire_value.specs.Sizes.{aligned}
use Rattle.wire_value.proofs.Steps.{IsBytes}
use Rattle.wire_value.proofs.TypeLaws.{chosen}
use Rattle.dbus_wire.specs.Spelling.{PlainMessage, Spells, order}
use Rattle.dbus_wire.specs.Reading.{order_of, word_in, stated, message_at, Answer, need, got, bad, too_large, whole, by_length, by_order, answer}
use Rattle.dbus_wire.specs.Answers.{Opens, Lacks, StatesTooMuch, NoMessage, HasAll}
use Rattle.dbus_wire.proofs.Words.{word_in_front}
use Rattle.dbus_wire.proofs.Stating.{States, states}
use Rattle.dbus_wire.proofs.ReadAgain.{message_again}
use Rattle.dbus_wire.proofs.ReadFound.{Complete, order_is, message_found}

-- ---- the first 16 bytes decide

order_by : (bytes : List ℕ) (little : Bool) → get_or bytes 0 0 ≡ order little → get_or bytes 3 0 ≡ 1 → order_of bytes ≡ Some little
order_by bytes true e f = rw (f, e) refl
order_by bytes false e f = rw (f, e) refl

same_order : (bytes rest : List ℕ) → 16 ≤ length bytes → order_of (bytes ++ rest) ≡ order_of bytes
same_order [] rest h = absurd (omega arith)
same_order (a ∷ []) rest h = absurd (omega arith)
same_order (a ∷ b ∷ []) rest h = absurd (omega arith)
same_order (a ∷ b ∷ c ∷ []) rest h = absurd (omega arith)
same_order (a ∷ b ∷ c ∷ d ∷ s) rest h = refl

same_stated : (little : Bool) (bytes rest : List ℕ) → 16 ≤ length bytes → stated little (bytes ++ rest) ≡ stated little bytes
unfolding stated
same_stated little bytes rest h = rw (word_in_front little 12 bytes rest h, word_in_front little 4 bytes rest (omega arith)) refl

pub stated_long : (little : Bool) (bytes : List ℕ) → 16 ≤ stated little bytes
unfolding stated
stated_long little bytes = omega arith

-- ---- what bytes come to

short_needs : (bytes : List ℕ) → length bytes < 16 → answer bytes ≡ need (16 - length bytes)
unfolding answer
short_needs bytes lt = rw (lt-ltb _ _ lt) refl

opened : (bytes : List ℕ) → 16 ≤ length bytes → answer bytes ≡ by_order (order_of bytes) bytes
unfolding answer
opened bytes le = rw (le-ltb _ _ le) refl

sized : (little : Bool) (bytes : List ℕ) → 16 ≤ length bytes → order_of bytes ≡ Some little → answer bytes ≡ by_length little bytes (stated little bytes)
sized little bytes le e = opened bytes le ∙ ap (λ (o : Option Bool). by_order o bytes) e

module _ (little : Bool) (bytes : List ℕ) (n : ℕ) where
  large : 1048576 < n → by_length little bytes n ≡ too_large n
  large lt = rw (lt-ltb _ _ lt) refl

  lacking : n ≤ 1048576 → length bytes < n → by_length little bytes n ≡ need (n - length bytes)
  lacking le lt = rw (le-ltb _ _ le, lt-ltb _ _ lt) refl

  complete : n ≤ 1048576 → n ≤ length bytes → by_length little bytes n ≡ whole (message_at little (take n bytes)) n
  complete le lt = rw (le-ltb _ _ le, le-ltb _ _ lt) refl

-- ---- a spelling

pub spelled : (text : List ℕ) (m : PlainMessage) (rest : List ℕ) → Spells text m → length text ≤ 1048576 → answer (text ++ rest) ≡ got m (length text)
spelled text m rest s le =
    let st = states text m rest s in
    let long : length text ≤ length (text ++ rest) = omega (arith, length-append text rest) in
    sized m.little (text ++ rest) (omega (arith, st.long)) st.order
    ∙ ap (by_length m.little (text ++ rest)) st.stated
    ∙ complete m.little (text ++ rest) (length text) le long
    ∙ ap (λ (t : List ℕ). whole (message_at m.little t) (length text)) (take_at text rest (length text) refl)
    ∙ ap (λ (o : Option PlainMessage). whole o (length text)) (message_again text m s)

large_spelled : (text : List ℕ) (m : PlainMessage) (rest : List ℕ) → Spells text m → 1048576 < length text → answer (text ++ rest) ≡ too_large (length text)
large_spelled text m rest s lt =
    let st = states text m rest s in
    sized m.little (text ++ rest) (omega (arith, st.long, length-append text rest)) st.order
    ∙ ap (by_length m.little (text ++ rest)) st.stated
    ∙ large m.little (text ++ rest) (length text) lt

-- the length of a spelling is stated by its front
part_states : (bytes rest : List ℕ) (m : PlainMessage) → Spells (bytes ++ rest) m → 16 ≤ length bytes → answer bytes ≡ by_length m.little bytes (length (bytes ++ rest))
part_states bytes rest m s le =
    let st = states (bytes ++ rest) m [] s in
    let o : order_of bytes ≡ Some m.little = sym (same_order bytes rest le) ∙ ap order_of (sym (append-nil (bytes ++ rest))) ∙ st.order in
    let n : stated m.little bytes ≡ length (bytes ++ rest) = sym (same_stated m.little bytes rest le) ∙ ap (stated m.little) (sym (append-nil (bytes ++ rest))) ∙ st.stated in
    sized m.little bytes le o ∙ ap (by_length m.little bytes) n

pub part_needs : (bytes rest : List ℕ) (m : PlainMessage) → Spells (bytes ++ rest) m → length (bytes ++ rest) ≤ 1048576 → 0 < length rest
    → (more : ℕ) × (answer bytes ≡ need more) × (0 < more) × (more ≤ length rest) × (16 ≤ length bytes → more ≡ length rest)
part_needs bytes rest m s le some =
    elim (cases_lt (length bytes) 16) [
      | inl lt ↦ (16 - length bytes, short_needs bytes lt, omega arith, omega (arith, (states (bytes ++ rest) m [] s).long, length-append bytes rest), λ h. absurd (omega arith))
      | inr long ↦
          let len = length-append bytes rest in
          (length (bytes ++ rest) - length bytes, part_states bytes rest m s long ∙ lacking m.little bytes (length (bytes ++ rest)) le (omega (arith, len)), omega (arith, len), omega (arith, len), λ h. omega (arith, len))
    ]

-- ---- bad bytes

not_bad_need : (n : ℕ) → need n ≡ bad → ⊥
not_bad_need n e = cc

not_bad_got : (m : PlainMessage) (n : ℕ) → got m n ≡ bad → ⊥
not_bad_got m n e = cc

not_bad_large : (n : ℕ) → too_large n ≡ bad → ⊥
not_bad_large n e = cc

front_not_bad : (text : List ℕ) (m : PlainMessage) (rest : List ℕ) → Spells text m → answer (text ++ rest) ≡ bad → ⊥
front_not_bad text m rest s e =
    elim (cases_lt 1048576 (length text)) [
      | inl lt ↦ not_bad_large (length text) (sym (large_spelled text m rest s lt) ∙ e)
      | inr le ↦ not_bad_got m (length text) (sym (spelled text m rest s le) ∙ e)
    ]

part_not_bad : (bytes rest : List ℕ) (m : PlainMessage) → Spells (bytes ++ rest) m → answer bytes ≡ bad → ⊥
part_not_bad bytes [] m s e = front_not_bad bytes m [] (subst (λ (t : List ℕ). Spells t m) (append-nil bytes) s) (ap answer (append-nil bytes) ∙ e)
part_not_bad bytes (c ∷ rest) m s e =
    elim (cases_lt 1048576 (length (bytes ++ c ∷ rest))) [
      | inl lt ↦ elim (cases_lt (length bytes) 16) [
        | inl short ↦ not_bad_need (16 - length bytes) (sym (short_needs bytes short) ∙ e)
        | inr long ↦ not_bad_large (length (bytes ++ c ∷ rest)) (sym (large m.little bytes (length (bytes ++ c ∷ rest)) lt) ∙ sym (part_states bytes (c ∷ rest) m s long) ∙ e)
      ]
      | inr le ↦ let p = part_needs bytes (c ∷ rest) m s le (omega arith) in not_bad_need p.0 (sym p.1 ∙ e)
    ]

pub bad_begins_none : (bytes : List ℕ) → answer bytes ≡ bad → NoMessage bytes
bad_begins_none bytes e m text rest s how = elim how [
  | inl is ↦ front_not_bad text m rest s (sym (ap answer is) ∙ e)
  | inr is ↦ part_not_bad bytes rest m (subst (λ (t : List ℕ). Spells t m) is s) e
]

-- ---- each answer

-- how the bytes stand: too few, no message's, stated too large, cut, or whole
data Case (bytes : List ℕ) : Type 0 where
  few : length bytes < 16 → answer bytes ≡ need (16 - length bytes) → Case bytes
  unordered : 16 ≤ length bytes → order_of bytes ≡ None → answer bytes ≡ bad → Case bytes
  huge : (little : Bool) → 16 ≤ length bytes → order_of bytes ≡ Some little → 1048576 < stated little bytes → answer bytes ≡ too_large (stated little bytes) → Case bytes
  cut : (little : Bool) → 16 ≤ length bytes → order_of bytes ≡ Some little → stated little bytes ≤ 1048576 → length bytes < stated little bytes → answer bytes ≡ need (stated little bytes - length bytes) → Case bytes
  all : (little : Bool) → 16 ≤ length bytes → order_of bytes ≡ Some little → stated little bytes ≤ 1048576 → stated little bytes ≤ length bytes
      → answer bytes ≡ whole (message_at little (take (stated little bytes) bytes)) (stated little bytes) → Case bytes

by_size : (bytes : List ℕ) (little : Bool) → 16 ≤ length bytes → order_of bytes ≡ Some little → Case bytes
by_size bytes little long o =
    let e = sized little bytes long o in
    let n = stated little bytes in
    elim (cases_lt 1048576 n) [
      | inl lt ↦ huge little long o lt (e ∙ large little bytes n lt)
      | inr le ↦ elim (cases_lt (length bytes) n) [
        | inl lt ↦ cut little long o le lt (e ∙ lacking little bytes n le lt)
        | inr here ↦ all little long o le here (e ∙ complete little bytes n le here)
      ]
    ]

by_order_of : (bytes : List ℕ) (o : Option Bool) → 16 ≤ length bytes → order_of bytes ≡ o → Case bytes
by_order_of bytes None long e = unordered long e (opened bytes long ∙ ap (λ (o : Option Bool). by_order o bytes) e)
by_order_of bytes (Some little) long e = by_size bytes little long e

case_of : (bytes : List ℕ) → Case bytes
case_of bytes = elim (cases_lt (length bytes) 16) [
  | inl lt ↦ few lt (short_needs bytes lt)
  | inr long ↦ by_order_of bytes (order_of bytes) long refl
]

opens : (bytes : List ℕ) (little : Bool) → 16 ≤ length bytes → order_of bytes ≡ Some little → Opens little bytes
opens bytes little long o = let h = order_is bytes little o in record { long = long; order = h.0; version = h.1 }

opened_size : (bytes : List ℕ) (little : Bool) → Opens little bytes → answer bytes ≡ by_length little bytes (stated little bytes)
opened_size bytes little h = sized little bytes h.long (order_by bytes little h.order h.version)

need_is : (a b : ℕ) → need a ≡ need b → a ≡ b
need_is a b e = cc

large_is : (a b : ℕ) → too_large a ≡ too_large b → a ≡ b
large_is a b e = cc

got_is : (m k : PlainMessage) (a b : ℕ) → got m a ≡ got k b → (m ≡ k) × (a ≡ b)
got_is m k a b e = (cc, cc)

-- bad or got is no need, and not too large
Settled : Answer → Type 0
Settled a = ((n : ℕ) → a ≡ need n → ⊥) × ((n : ℕ) → a ≡ too_large n → ⊥)

whole_settles : (o : Option PlainMessage) (k : ℕ) → Settled (whole o k)
unfolding Settled
whole_settles None k = (λ n e. cc, λ n e. cc)
whole_settles (Some m) k = (λ n e. cc, λ n e. cc)

pub lacks : (bytes : List ℕ) (more : ℕ) → answer bytes ≡ need more → Lacks bytes more
unfolding Settled
lacks bytes more e = by_case (case_of bytes)
  where
    by_case : Case bytes → Lacks bytes more
    by_case (few lt is) = let n = need_is _ _ (sym is ∙ e) in inl (lt, omega arith)
    by_case (unordered long o is) = absurd (not_bad_need more (sym e ∙ is))
    by_case (huge little long o lt is) = absurd (differ _ _ (sym is ∙ e))
      where
        differ : (a b : ℕ) → too_large a ≡ need b → ⊥
        differ a b e = cc
    by_case (cut little long o le lt is) = let n = need_is _ _ (sym is ∙ e) in inr (little, opens bytes little long o, le, omega arith, omega arith)
    by_case (all little long o le here is) = absurd ((whole_settles _ _).0 more (sym is ∙ e))

pub lacking_needs : (bytes : List ℕ) (more : ℕ) → Lacks bytes more → answer bytes ≡ need more
lacking_needs bytes more h = elim h [
  | inl a ↦ let lt = a.0 in let is = a.1 in short_needs bytes lt ∙ ap need (omega arith)
  | inr a ↦
      let o = a.1 in
      let le = a.2 in
      let some = a.3 in
      let total = a.4 in
      opened_size bytes a.0 o ∙ lacking a.0 bytes (stated a.0 bytes) le (omega arith) ∙ ap need (omega arith)
]

pub states_too_much : (bytes : List ℕ) (n : ℕ) → answer bytes ≡ too_large n → StatesTooMuch bytes n
unfolding Settled
states_too_much bytes n e = by_case (case_of bytes)
  where
    differ : (a b : ℕ) → need a ≡ too_large b → ⊥
    differ a b e = cc

    by_case : Case bytes → StatesTooMuch bytes n
    by_case (few lt is) = absurd (differ _ _ (sym is ∙ e))
    by_case (unordered long o is) = absurd (not_bad_large n (sym e ∙ is))
    by_case (huge little long o lt is) = let k = large_is _ _ (sym is ∙ e) in (little, opens bytes little long o, k, omega arith)
    by_case (cut little long o le lt is) = absurd (differ _ _ (sym is ∙ e))
    by_case (all little long o le here is) = absurd ((whole_settles _ _).1 n (sym is ∙ e))

pub too_much_is_large : (bytes : List ℕ) (n : ℕ) → StatesTooMuch bytes n → answer bytes ≡ too_large n
too_much_is_large bytes n h = opened_size bytes h.0 h.1 ∙ ap (by_length h.0 bytes) h.2 ∙ large h.0 bytes n h.3

bytes_take : (n : ℕ) (bytes : List ℕ) → IsBytes bytes → IsBytes (take n bytes)
bytes_take n bytes fits i = elim (cases_lt i n) [
  | inl lt ↦ rw (get_or-take n bytes i 0 lt) (fits i)
  | inr le ↦ rw (get_or_past (take n bytes) i 0 (omega (arith, length-take n bytes))) (omega arith)
]

whole_is : (o : Option PlainMessage) (k : ℕ) (m : PlainMessage) (n : ℕ) → whole o k ≡ got m n → (o ≡ Some m) × (k ≡ n)
whole_is None k m n e = absurd (not_bad_got m n (sym e))
whole_is (Some l) k m n e = let h = got_is l m k n e in (ap Some h.0, h.1)

-- the front of as many bytes as are stated
front_complete : (little : Bool) (bytes : List ℕ) → IsBytes bytes → order_of bytes ≡ Some little → stated little bytes ≤ 1048576 → stated little bytes ≤ length bytes → Complete little (take (stated little bytes) bytes)
front_complete little bytes fits o le here =
    let n = stated little bytes in
    let long = stated_long little bytes in
    let len : length (take n bytes) ≡ n = omega (arith, length-take n bytes) in
    let is = take-append-drop n bytes in
    let front : 16 ≤ length (take n bytes) = omega arith in
    record {
      fits = bytes_take n bytes fits;
      order = sym (same_order (take n bytes) (drop n bytes) front) ∙ ap order_of is ∙ o;
      long = front;
      short = omega arith;
      stated = sym (same_stated little (take n bytes) (drop n bytes) front) ∙ ap (stated little) is ∙ sym len;
    }

pub got_is_spelled : (bytes : List ℕ) (m : PlainMessage) (n : ℕ) → IsBytes bytes → answer bytes ≡ got m n → (n ≤ length bytes) × Spells (take n bytes) m
got_is_spelled bytes m n fits e = by_case (case_of bytes)
  where
    differ : (a : ℕ) → need a ≡ got m n → ⊥
    differ a e = cc

    differ' : (a : ℕ) → too_large a ≡ got m n → ⊥
    differ' a e = cc

    by_case : Case bytes → (n ≤ length bytes) × Spells (take n bytes) m
    by_case (few lt is) = absurd (differ _ (sym is ∙ e))
    by_case (unordered long o is) = absurd (not_bad_got m n (sym e ∙ is))
    by_case (huge little long o lt is) = absurd (differ' _ (sym is ∙ e))
    by_case (cut little long o le lt is) = absurd (differ _ (sym is ∙ e))
    by_case (all little long o le here is) =
        let w = whole_is _ _ m n (sym is ∙ e) in
        let s = message_found little (take (stated little bytes) bytes) m (front_complete little bytes fits o le here) w.0 in
        (subst (λ (k : ℕ). k ≤ length bytes) w.1 here, subst (λ (k : ℕ). Spells (take k bytes) m) w.1 s)

read_or_not : (o : Option PlainMessage) (k : ℕ) → (whole o k ≡ bad) ⊎ ((m : PlainMessage) × (o ≡ Some m))
read_or_not None k = inl refl
read_or_not (Some m) k = inr (m, refl)

pub none_is_bad : (bytes : List ℕ) → IsBytes bytes → HasAll bytes → NoMessage bytes → answer bytes ≡ bad
none_is_bad bytes fits there none = by_case (case_of bytes)
  where
    by_case : Case bytes → answer bytes ≡ bad
    by_case (few lt is) = absurd (there.1 _ (lacks bytes _ is))
    by_case (unordered long o is) = is
    by_case (huge little long o lt is) = absurd (there.2 _ (states_too_much bytes _ is))
    by_case (cut little long o le lt is) = absurd (there.1 _ (lacks bytes _ is))
    by_case (all little long o le here is) = elim (read_or_not (message_at little (take (stated little bytes) bytes)) (stated little bytes)) [
      | inl h ↦ is ∙ h
      | inr h ↦ absurd (none h.0 (take (stated little bytes) bytes) (drop (stated little bytes) bytes) (message_found little (take (stated little bytes) bytes) h.0 (front_complete little bytes fits o le here) h.1) (inl (sym (take-append-drop (stated little bytes) bytes))))
    ]

-- memory can run out only where all is there
pub settled_has_all : (bytes : List ℕ) → (answer bytes ≡ bad) ⊎ ((m : PlainMessage) × (n : ℕ) × (answer bytes ≡ got m n)) → HasAll bytes
settled_has_all bytes h = (long (cases_lt (length bytes) 16), λ n l. no_need n (lacking_needs bytes n l) h, λ n l. no_large n (too_much_is_large bytes n l) h)
  where
    no_need : (n : ℕ) → answer bytes ≡ need n → (answer bytes ≡ bad) ⊎ ((m : PlainMessage) × (k : ℕ) × (answer bytes ≡ got m k)) → ⊥
    no_need n e h = elim h [ inl a ↦ not_bad_need n (sym e ∙ a) | inr a ↦ differ n a.0 a.1 (sym e ∙ a.2) ]
      where
        differ : (a : ℕ) (m : PlainMessage) (n : ℕ) → need a ≡ got m n → ⊥
        differ a m n e = cc

    no_large : (n : ℕ) → answer bytes ≡ too_large n → (answer bytes ≡ bad) ⊎ ((m : PlainMessage) × (k : ℕ) × (answer bytes ≡ got m k)) → ⊥
    no_large n e h = elim h [ inl a ↦ not_bad_large n (sym e ∙ a) | inr a ↦ differ n a.0 a.1 (sym e ∙ a.2) ]
      where
        differ : (a : ℕ) (m : PlainMessage) (n : ℕ) → too_large a ≡ got m n → ⊥
        differ a m n e = cc

    long : (length bytes < 16) ⊎ (16 ≤ length bytes) → 16 ≤ length bytes
    long c = elim c [ inl lt ↦ absurd (no_need _ (short_needs bytes lt) h) | inr le ↦ le ]
