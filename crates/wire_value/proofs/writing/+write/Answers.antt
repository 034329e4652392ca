use Rattle.std.proofs.Common.{◌≡◌, ◌+◌, ◌-◌, ℕ, List, drop, length, subst, sym, ap, ap₂, ◌∙◌, arith, rules}
use Rattle.std.proofs.lemmas.Result.{on_ok_weaker}
use Rattle.wire_value.specs.declared.value.Value.{Value, the_lemmas}
use Rattle.wire_value.specs.Plain.{array, struct, entry}
use Rattle.wire_value.specs.Spelling.{gap, first_item, IsValue}
use Rattle.wire_value.specs.Sizes.{ends, end_all, Each}
use Rattle.wire_value.specs.View.{view, views}
use Rattle.wire_value.proofs.Views.{next_ends, view_pair}
use Rattle.wire_value.proofs.Written.{next_is, out_ends, gap_len, array_mid, struct_out, array_out, view_array, view_struct, struct_each, key_fits, value_fits, entry_out}
use Rattle.wire_value.proofs.Ends.{each_of}
use Rattle.wire_value.proofs.writing.+write.Goals as goal

pub put_all-put-requires : goal.put_all-put-requires
put_all-put-requires t c = (
  search (rules, the_lemmas),
  (
    next_is c.args.little (length c.loop-value.out.items) c.args.values.now c.loop-value.value-index c.value-item.result c.loop-value-test.true c.value-item.is c.loop-value.invariant.1,
    omega (
      arith,
      next_ends c.args.values.now c.loop-value.value-index (length c.loop-value.out.items) c.value-item.result c.loop-value-test.true c.value-item.is,
      out_ends c.args.little c.args.out.now.items c.loop-value.out.items (views c.args.values.now) (views (drop c.loop-value.value-index c.args.values.now)) c.loop-value.invariant.0,
      c.requires.fits,
    ),
  ),
)

pub put_struct-put_all-requires : goal.put_struct-put_all-requires
put_struct-put_all-requires t c = (
  search (rules, the_lemmas),
  (
    subst (λ (n : ℕ). Each c.args.little n (views c.args.fields.now)) (sym (gap_len c.args.out.now.items c.put_gap.new.out.items (gap 8 (length c.args.out.now.items)) c.in_ok-put_gap.ensures)) c.requires.valid,
    omega (arith, ap (λ (n : ℕ). end_all n (views c.args.fields.now)) (gap_len c.args.out.now.items c.put_gap.new.out.items (gap 8 (length c.args.out.now.items)) c.in_ok-put_gap.ensures), c.requires.fits),
  ),
)

pub put_struct-returns : goal.put_struct-returns
put_struct-returns t c = on_ok_weaker c.put_all.result (struct_out c.args.little c.args.out.now.items c.put_gap.new.out.items c.put_all.new.out.items (views c.args.fields.now) c.in_ok-put_gap.ensures) c.put_all.ensures

pub put_array-returns : goal.put_array-returns
put_array-returns t c =
    let s : c.len.result + c.gap_before.result + 4 + c.gap_before-2.result ≡ first_item c.args.item.now (length c.args.out.now.items + gap 4 (length c.args.out.now.items) + 4) = cc in
    let e = c.end_of_all.ensures ∙ ap (λ (n : ℕ). end_all n (views c.args.items.now)) s in
    on_ok_weaker c.put_all.result (array_out c.args.little c.args.out.now.items c.args.item.now (views c.args.items.now) _ c.put_u32.new.out.items c.put_gap.new.out.items c.put_all.new.out.items (ap₂ (λ (a b : ℕ). a - b) e s) c.in_ok-put_u32.ensures (rw c.alignment-2.ensures.is at c.in_ok-put_gap.ensures)) c.put_all.ensures

pub put_array-put_all-requires : goal.put_array-put_all-requires
put_array-put_all-requires t c =
    let mid = array_mid c.args.little c.args.out.now.items c.args.item.now (views c.args.items.now) _ c.put_u32.new.out.items c.put_gap.new.out.items c.in_ok-put_u32.ensures (rw c.alignment-2.ensures.is at c.in_ok-put_gap.ensures) in (
      search (rules, the_lemmas),
      (
        subst (λ (n : ℕ). Each c.args.little n (views c.args.items.now)) (sym mid) c.requires.valid,
        omega (arith, ap (λ (n : ℕ). end_all n (views c.args.items.now)) mid, c.requires.fits),
      ),
    )

pub put-put_array-requires : goal.put-put_array-requires
put-put_array-requires t c =
    let e = ap view c.in-Array.is ∙ view_array c.in-Array.item c.in-Array.items ∙ ap₂ (λ (a : List ℕ) (b : List Value). array a (views b)) (sym c.as_bytes-in-Array.ensures) (sym c.deref.ensures.value) in
    let n = length c.args.out.now.items in
    (search (rules, the_lemmas), (each_of c.args.little _ _ _ (subst (IsValue c.args.little n) e c.requires.valid).2, omega (arith, ap (ends n) e, c.requires.fits)))

pub put-put_struct-requires : goal.put-put_struct-requires
put-put_struct-requires t c =
    let e = ap view c.in-Struct.is ∙ view_struct c.in-Struct.fields ∙ ap (λ (b : List Value). struct (views b)) (sym c.deref-in-Struct.ensures.value) in
    let n = length c.args.out.now.items in
    (search (rules, the_lemmas), (struct_each c.args.little n _ (subst (IsValue c.args.little n) e c.requires.valid), omega (arith, ap (ends n) e, c.requires.fits)))

pub put-put-requires : goal.put-put-requires
put-put-requires t c =
    let k = view c.deref-in-Pair.result.now in
    let v = view c.in-Pair.value.value in
    let e = ap view c.in-Pair.is ∙ view_pair c.in-Pair.key c.in-Pair.value ∙ ap (λ (a : Value). entry (view a) v) (sym c.deref-in-Pair.ensures) in
    (search (rules, the_lemmas), key_fits c.args.little c.args.out.now.items c.put_gap.new.out.items (view c.args.value.now) k v e c.in_ok-put_gap-in-Pair.ensures c.requires.valid c.requires.fits)

pub put-put-requires-in-Pair : goal.put-put-requires-in-Pair
put-put-requires-in-Pair t c =
    let k = view c.deref-in-Pair.result.now in
    let v = view c.deref-in-Pair-2.result.now in
    let e = ap view c.in-Pair.is ∙ view_pair c.in-Pair.key c.in-Pair.value ∙ ap₂ (λ (a b : Value). entry (view a) (view b)) (sym c.deref-in-Pair.ensures) (sym c.deref-in-Pair-2.ensures) in
    (search (rules, the_lemmas), value_fits c.args.little c.args.out.now.items c.put_gap.new.out.items (view c.args.value.now) k v e c.in_ok-put_gap-in-Pair.ensures c.put.new.out.items c.in_ok-put-in-Pair.ensures c.requires.valid c.requires.fits)

pub put-returns-in_ok-put-in-Pair : goal.put-returns-in_ok-put-in-Pair
put-returns-in_ok-put-in-Pair t c =
    let k = view c.deref-in-Pair.result.now in
    let v = view c.deref-in-Pair-2.result.now in
    let e = ap view c.in-Pair.is ∙ view_pair c.in-Pair.key c.in-Pair.value ∙ ap₂ (λ (a b : Value). entry (view a) (view b)) (sym c.deref-in-Pair.ensures) (sym c.deref-in-Pair-2.ensures) in
    on_ok_weaker c.put-in-Pair.result (entry_out c.args.little c.args.out.now.items c.put_gap.new.out.items (view c.args.value.now) k v e c.in_ok-put_gap-in-Pair.ensures c.put.new.out.items c.put-in-Pair.new.out.items c.in_ok-put-in-Pair.ensures) c.put-in-Pair.ensures
