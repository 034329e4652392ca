-- What follows a front.
use Rattle.std.proofs.Common.{◌≡◌, ◌≢◌, ℕ, Bool, true, false, cond, List, ◌++◌, length, drop, Option, Some, None, Bor, eqb, refl, sym, ◌∙◌, ap, subst, append_assoc}
use Rattle.std.specs.Prelude.{option_and_then}
use Rattle.std.specs.List.{starts_with}
use Rattle.std.specs.Option.{MatchOption, option_copied}
use Rattle.std.specs.Str.{IsCharBoundary}
use Rattle.std.specs.Str.Pattern.{FindsTextPrefix, StripsPrefix}
use Rattle.std.proofs.Math.Seq.{drop-append_seam}
use Rattle.std.proofs.lemmas.Bool.Decides.{Decides-eqb}
use Rattle.std.proofs.lemmas.Slice.Eq.{starts_is}
use Rattle.std.proofs.lemmas.Str.Pattern.{starts_text}
use Rattle.boot_outputs.specs.Texts.{behind}

-- `strip_prefix` finds it
pub behind-strip_prefix : (front text : List ℕ) (r : Option (Bor (List ℕ))) → MatchOption r (FindsTextPrefix front text None) (λ x. StripsPrefix (FindsTextPrefix front) text x.now) → option_copied r ≡ behind front text
behind-strip_prefix front text None h = ap (λ (b : Bool). cond b (Some (drop (length front) text)) None) (starts_text false front text h)
behind-strip_prefix front text (Some x) h =
    let there = starts_text true front text (h.0, h.1, subst (λ (k : ℕ). IsCharBoundary text k) (sym h.1.0) h.1.2) in
    ap (λ (t : List ℕ). Some t) (h.2 ∙ ap (λ (k : ℕ). drop k text) h.1.0)
    ∙ ap (λ (b : Bool). cond b (Some (drop (length front) text)) None) there

-- it follows the front
pub behind-front : (front rest : List ℕ) → behind front (front ++ rest) ≡ Some rest
behind-front front rest =
    let there = (starts_is Decides-eqb (front ++ rest) front (starts_with eqb (front ++ rest) front) refl).1 rest refl in
    ap (λ (b : Bool). cond b (Some (drop (length front) (front ++ rest))) None) there
    ∙ ap (λ (t : List ℕ). Some t) (drop-append_seam front rest)

-- and the two make the whole
pub behind-whole : (front text rest : List ℕ) → behind front text ≡ Some rest → text ≡ front ++ rest
behind-whole front text rest h =
    elim (starts_with eqb text front) as (λ b. starts_with eqb text front ≡ b → cond b (Some (drop (length front) text)) None ≡ Some rest → text ≡ front ++ rest) [
      | true ↦ λ there s. let same : drop (length front) text ≡ rest = cc in (starts_is Decides-eqb text front (starts_with eqb text front) refl).0 there ∙ ap (λ (t : List ℕ). front ++ t) same
      | false ↦ λ there s. absurd (cc)
    ] refl h

-- a text that does not begin so
pub starts_with-other : (front text : List ℕ) → ((rest : List ℕ) → text ≢ front ++ rest) → starts_with eqb text front ≡ false
starts_with-other front text other =
    elim (starts_with eqb text front) as (λ b. starts_with eqb text front ≡ b → b ≡ false) [
      | true ↦ λ there. absurd (other (drop (length front) text) ((starts_is Decides-eqb text front (starts_with eqb text front) refl).0 there))
      | false ↦ λ there. refl
    ] refl

pub behind-other : (front text : List ℕ) → ((rest : List ℕ) → text ≢ front ++ rest) → behind front text ≡ None
behind-other front text other = ap (λ (b : Bool). cond b (Some (drop (length front) text)) None) (starts_with-other front text other)

pub starts_with-front : (front rest : List ℕ) → starts_with eqb (front ++ rest) front ≡ true
starts_with-front front rest = (starts_is Decides-eqb (front ++ rest) front (starts_with eqb (front ++ rest) front) refl).1 rest refl

-- a front of two parts
pub behind-append : (first second text : List ℕ) → behind (first ++ second) text ≡ option_and_then (behind second) (behind first text)
behind-append first second text = by_first (behind first text) refl
  where
    by_whole : (o : Option (List ℕ)) → ((rest : List ℕ) → behind (first ++ second) text ≡ Some rest → o ≡ Some rest) → ((rest : List ℕ) → o ≡ Some rest → text ≡ (first ++ second) ++ rest) → behind (first ++ second) text ≡ o
    by_whole None there back = by_both (behind (first ++ second) text) refl
      where
        by_both : (p : Option (List ℕ)) → behind (first ++ second) text ≡ p → behind (first ++ second) text ≡ None
        by_both None e = e
        by_both (Some rest) e = absurd (let no : ◌≡◌ {A = Option (List ℕ)} None (Some rest) = there rest e in cc)
    by_whole (Some rest) there back = subst (λ (t : List ℕ). behind (first ++ second) t ≡ Some rest) (sym (back rest refl)) (behind-front (first ++ second) rest)

    cut : (rest : List ℕ) → behind (first ++ second) text ≡ Some rest → behind first text ≡ Some (second ++ rest)
    cut rest e = subst (λ (t : List ℕ). behind first t ≡ Some (second ++ rest)) (sym (behind-whole (first ++ second) text rest e ∙ append_assoc first second rest)) (behind-front first (second ++ rest))

    by_first : (o : Option (List ℕ)) → behind first text ≡ o → behind (first ++ second) text ≡ option_and_then (behind second) o
    by_first None e = by_whole None (λ rest is. absurd (let no : ◌≡◌ {A = Option (List ℕ)} None (Some (second ++ rest)) = sym e ∙ cut rest is in cc)) (λ rest is. absurd (cc))
    by_first (Some left) e =
        by_whole (behind second left)
        (λ rest is. let same : left ≡ second ++ rest = (let both : Some left ≡ Some (second ++ rest) = sym e ∙ cut rest is in cc) in subst (λ (t : List ℕ). behind second t ≡ Some rest) (sym same) (behind-front second rest))
        (λ rest is. behind-whole first text left e ∙ ap (λ (t : List ℕ). first ++ t) (behind-whole second left rest is) ∙ sym (append_assoc first second rest))
