-- Puts one after another.
use Rattle.std.proofs.Common.{◌≡◌, ℕ, Bool, true, false, List, [], ◌++◌, Option, Some, None, take, drop, ◌+◌, subst, refl, sym, ◌∙◌, ap, arith, append_assoc}
use Rattle.std.proofs.lemmas.List.{append-nil, take-append-drop}
use Rattle.std.proofs.Math.Seq.{take-add}
use Rattle.std.specs.Io.KnownBytes.{Appends, Keeps}
use Rattle.updater_text.specs.Sinks.{AppendsFront, AppendsWhereTold, Shown, Put}
use Rattle.updater_text.specs.Counts.{CountRose}

-- with nothing put
holds_none : (a : Option (List ℕ)) → AppendsWhereTold a a [] true
holds_none None = tt
holds_none (Some x) = sym (append-nil x)

pub put_none : (a : Shown) → Put a a [] true
put_none a = record { bytes = holds_none a.told; kept = omega arith; cause = λ e. cc }

-- a text, and then another
gained_more : (a b c s t : List ℕ) (w : Bool) → AppendsFront a b s true → AppendsFront b c t w → AppendsFront a c (s ++ t) w
gained_more a b c s t true p q = q ∙ ap (λ (x : List ℕ). x ++ t) p ∙ append_assoc a s t
gained_more a b c s t false p q =
    (s ++ q.0, q.1, ap (λ (x : List ℕ). s ++ x) q.2 ∙ sym (append_assoc s q.0 q.1), q.3 ∙ ap (λ (x : List ℕ). x ++ q.0) p ∙ append_assoc a s q.0)

holds_more : (a b c : Option (List ℕ)) (s t : List ℕ) (w : Bool) → AppendsWhereTold a b s true → AppendsWhereTold b c t w → AppendsWhereTold a c (s ++ t) w
holds_more None b c s t w p q = tt
holds_more (Some a) (Some b) (Some c) s t w p q = gained_more a b c s t w p q
holds_more (Some a) (Some b) None s t w p q = q
holds_more (Some a) None c s t w p q = absurd p

pub put_more : (a b c : Shown) (s t : List ℕ) (w : Bool) → Put a b s true → Put b c t w → Put a c (s ++ t) w
put_more a b c s t w p q = record {
  bytes = holds_more a.told b.told c.told s t w p.bytes q.bytes;
  kept = omega (arith, p.kept, q.kept);
  cause = λ e. let r = q.cause e in (omega (arith, p.kept, r.0), λ same. omega (arith, p.kept, r.0, r.1 (omega (arith, p.kept, r.0))));
}

-- after a failed put nothing more is put
gained_stopped : (a b s t : List ℕ) → AppendsFront a b s false → AppendsFront a b (s ++ t) false
gained_stopped a b s t p = (p.0, p.1 ++ t, ap (λ (x : List ℕ). x ++ t) p.2 ∙ append_assoc p.0 p.1 t, p.3)

holds_stopped : (a b : Option (List ℕ)) (s t : List ℕ) → AppendsWhereTold a b s false → AppendsWhereTold a b (s ++ t) false
holds_stopped None b s t p = tt
holds_stopped (Some a) (Some b) s t p = gained_stopped a b s t p
holds_stopped (Some a) None s t p = absurd p

pub put_stopped : (a b : Shown) (s t : List ℕ) → Put a b s false → Put a b (s ++ t) false
put_stopped a b s t p = record { bytes = holds_stopped a.told b.told s t p.bytes; kept = p.kept; cause = p.cause }

-- the puts of a writer
appends_holds : (a b : Option (List ℕ)) (t : List ℕ) → Appends a b t → AppendsWhereTold a b t true
appends_holds None b t h = tt
appends_holds (Some x) None t h = h
appends_holds (Some x) (Some y) t h = h

appends_put : (a b : Option (List ℕ)) (n : ℕ) (t : List ℕ) → Appends a b t → Put (record { told = a; faults = n }) (record { told = b; faults = n }) t true
appends_put a b n t h = record { bytes = appends_holds a b t h; kept = omega arith; cause = λ e. cc }

keeps_holds : (a b : Option (List ℕ)) (t : List ℕ) → Keeps a b → AppendsWhereTold a b t false
keeps_holds None b t h = tt
keeps_holds (Some x) None t h = h
keeps_holds (Some x) (Some y) t h = ([], t, refl, h ∙ sym (append-nil x))

keeps_put : (a b : Option (List ℕ)) (m n : ℕ) (t : List ℕ) → Keeps a b → CountRose m n → Put (record { told = a; faults = m }) (record { told = b; faults = n }) t false
keeps_put a b m n t h rose = record { bytes = keeps_holds a b t h; kept = rose.0; cause = λ e. rose }

none_keeps : (a b : Option (List ℕ)) → Appends a b [] → Keeps a b
none_keeps None b h = tt
none_keeps (Some x) None h = h
none_keeps (Some x) (Some y) h = h ∙ append-nil x

-- one write more
pub writes_more : (a : Shown) (b c : Option (List ℕ)) (m done n : ℕ) (text : List ℕ) → Put a (record { told = b; faults = m }) (take done text) true → Appends b c (take n (drop done text)) → Put a (record { told = c; faults = m }) (take (done + n) text) true
writes_more a b c m done n text p h =
    subst (λ (t : List ℕ). Put a (record { told = c; faults = m }) t true) (sym (take-add done n text)) (put_more a _ _ (take done text) (take n (drop done text)) true p (appends_put b c m (take n (drop done text)) h))

-- and none more
pub writes_stop : (a : Shown) (b c : Option (List ℕ)) (m p done : ℕ) (text : List ℕ) → Put a (record { told = b; faults = m }) (take done text) true → Keeps b c → CountRose m p → Put a (record { told = c; faults = p }) text false
writes_stop a b c m p done text so_far h rose =
    subst (λ (t : List ℕ). Put a (record { told = c; faults = p }) t false) (take-append-drop done text) (put_more a _ _ (take done text) (drop done text) false so_far (keeps_put b c m p (drop done text) h rose))

pub writes_stop_none : (a : Shown) (b c : Option (List ℕ)) (m p done n : ℕ) (text : List ℕ) → Put a (record { told = b; faults = m }) (take done text) true → Appends b c (take n (drop done text)) → n ≡ 0 → CountRose m p → Put a (record { told = c; faults = p }) text false
writes_stop_none a b c m p done n text so_far h none rose =
    let h0 = subst (λ (i : ℕ). Appends b c (take i (drop done text))) none h in
    writes_stop a b c m p done text so_far (none_keeps b c h0) rose
