-- Equal texts are read equally, so one text spells one message and no spelling begins another.
use Rattle.std.proofs.Common.{◌≡◌, ℕ, ◌+◌, Bool, List, [], ◌∷◌, ◌++◌, length, Some, refl, sym, ap, subst, ◌∙◌, arith}
use Rattle.std.proofs.lemmas.List.{append-nil, length-append, nil_from_length}
use Rattle.wire_value.specs.Plain.{Plains}
use Rattle.wire_value.specs.Spelling.{zeros, gap, spells}
use Rattle.wire_value.specs.Sizes.{aligned}
use Rattle.wire_value.proofs.Steps.{some_is}
use Rattle.dbus_wire.specs.Spelling.{PlainMessage, Spells, order}
use Rattle.dbus_wire.specs.InOrder.{in_order, SpellsInOrder}
use Rattle.dbus_wire.specs.Reading.{stated, order_of, message_at}
use Rattle.dbus_wire.specs.Laws.{OneMessage, NoPrefix, OneInOrder}
use Rattle.dbus_wire.proofs.Headers.{head_found, head_len, flat, items}
use Rattle.dbus_wire.proofs.Stating.{states}
use Rattle.dbus_wire.proofs.ReadAgain.{message_again}

pub one_message_law : OneMessage
one_message_law text m k a b =
    let x = states text m [] a in
    let y = states text k [] b in
    let same : m.little ≡ k.little = some_is _ _ (sym x.order ∙ y.order) in
    some_is _ _ (sym (message_again text m a) ∙ ap (λ (l : Bool). message_at l text) same ∙ message_again text k b)

pub no_prefix_law : NoPrefix
no_prefix_law m k short long rest a b is =
    let x = states short m rest a in
    let y = states long k [] b in
    let whole : long ++ [] ≡ short ++ rest = append-nil long ∙ is in
    let same : k.little ≡ m.little = some_is _ _ (sym y.order ∙ ap order_of whole ∙ x.order) in
    let len : length long ≡ length short = sym y.stated ∙ ap (stated k.little) whole ∙ ap (λ (l : Bool). stated l (short ++ rest)) same ∙ x.stated in
    nil_from_length rest (omega (arith, len, ap length is, length-append short rest))

-- the text that the fields of a header, in an order, and a body make
abbrev pub made : PlainMessage → Plains → List ℕ → List ℕ
made m fs body = flat m.little (order m.little) m.kind m.flags (length body) m.serial fs ++ (zeros (gap 8 (16 + length (items m.little fs))) ++ body)

abbrev pub body_of : PlainMessage → Plains → List ℕ
body_of m fs = spells m.little (aligned 8 (16 + length (items m.little fs))) m.body

pub made_is : (text : List ℕ) (m : PlainMessage) (s : Spells text m) → text ≡ made m s.fields (body_of m s.fields)
made_is text m s =
    let h = head_found m s.fields (length s.body) s.head s.header in
    let len = head_len m s.fields (length s.body) s.head h in
    let body : s.body ≡ body_of m s.fields = s.values.is ∙ ap (λ (n : ℕ). spells m.little (aligned 8 n) m.body) len in
    s.is ∙ ap (λ (n : ℕ). s.head ++ (zeros (gap 8 n) ++ s.body)) len ∙ ap (λ (t : List ℕ). t ++ (zeros (gap 8 (16 + length (items m.little s.fields))) ++ s.body)) h.is
    ∙ ap (made m s.fields) body

pub one_in_order_law : OneInOrder
one_in_order_law m text other a b =
    let same = a.fields ∙ sym b.fields in
    made_is text m a.spells ∙ ap (λ (fs : Plains). made m fs (body_of m fs)) same ∙ sym (made_is other m b.spells)
