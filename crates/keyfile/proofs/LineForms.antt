-- The forms of lines.
use Rattle.std.proofs.Common.{◌≡◌, ◌+◌, ◌-◌, ◌⊎◌, inl, inr, ℕ, Bool, true, false, [], ◌∷◌, ◌++◌, ◌&&◌, cond, length, take, drop, get_or, Option, Some, None, option_and_then, position, ◌==◌, if◌then◌else◌, refl, sym, ap, ◌∙◌, arith, suc, Decides, length-append}
use Rattle.std.proofs.Math.Seq.{take-append_seam, take-suc}
use Rattle.std.proofs.lemmas.List.{reverse-append, take-append-le, take_all}
use Rattle.std.proofs.lemmas.Bool.Decides.{nat_tests}
use Rattle.std.proofs.lemmas.Slice.Eq.{bytes_eq-Decides}
use Rattle.std.specs.List.{list_all, prefix_len, suffix_len}
use Rattle.std.specs.Str.{bytes_eq}
use Rattle.keyfile.specs.Groups.{Text, is_key, is_line_byte, is_name}
use Rattle.keyfile.specs.Lines.{after_blanks, before_blanks, bracket_name, entry_of, entry_from, heading_of, inner, is_blank, has_line_form, is_silent, line_of, nothing, heading_or_entry}

pub false_when : {P : Type 0} (r : Bool) → Decides r P → ¬ P → r ≡ false
false_when true d apart = absurd (apart (d.0 refl))
false_when false d apart = refl

-- ---- blanks

blank_is : (b : ℕ) → is_blank b ≡ true → (b ≡ 32) ⊎ (b ≡ 9)
blank_is b h = grind (arith, nat_tests)

-- a blank at the front is dropped
pub after_blanks-blank : (b : ℕ) (rest : Text) → is_blank b ≡ true → after_blanks (b ∷ rest) ≡ after_blanks rest
after_blanks-blank b rest h =
    let more : 1 + prefix_len is_blank rest ≡ suc (prefix_len is_blank rest) = omega arith in
    ap (λ (t : Bool). drop (cond t (1 + prefix_len is_blank rest) 0) (b ∷ rest)) h ∙ ap (λ (n : ℕ). drop n (b ∷ rest)) more

-- and nothing else
pub after_blanks-plain : (b : ℕ) (rest : Text) → is_blank b ≡ false → after_blanks (b ∷ rest) ≡ b ∷ rest
after_blanks-plain b rest h = ap (λ (t : Bool). drop (cond t (1 + prefix_len is_blank rest) 0) (b ∷ rest)) h

pub after_blanks-none : (text : Text) → ((rest : Text) → text ≡ 32 ∷ rest → ⊥) → ((rest : Text) → text ≡ 9 ∷ rest → ⊥) → after_blanks text ≡ text
after_blanks-none [] space tab = refl
after_blanks-none (b ∷ more) space tab = go (is_blank b) refl
  where
    go : (t : Bool) → is_blank b ≡ t → after_blanks (b ∷ more) ≡ b ∷ more
    go true h = absurd (elim (blank_is b h) [ inl e ↦ space more (ap (λ (n : ℕ). n ∷ more) e) | inr e ↦ tab more (ap (λ (n : ℕ). n ∷ more) e) ])
    go false h = after_blanks-plain b more h

suffix_len-more : (front : Text) (b : ℕ) → suffix_len is_blank (front ++ b ∷ []) ≡ cond (is_blank b) (1 + suffix_len is_blank front) 0
suffix_len-more front b = ap (prefix_len is_blank) (reverse-append front (b ∷ []))

-- a blank at the end is dropped
pub before_blanks-blank : (front : Text) (b : ℕ) → is_blank b ≡ true → before_blanks (front ++ b ∷ []) ≡ before_blanks front
before_blanks-blank front b h =
    let more : suffix_len is_blank (front ++ b ∷ []) ≡ 1 + suffix_len is_blank front = suffix_len-more front b ∙ ap (λ (t : Bool). cond t (1 + suffix_len is_blank front) 0) h in
    let left : length (front ++ b ∷ []) - suffix_len is_blank (front ++ b ∷ []) ≡ length front - suffix_len is_blank front = omega (arith, more, length-append front (b ∷ [])) in
    ap (λ (n : ℕ). take n (front ++ b ∷ [])) left ∙ take-append-le (length front - suffix_len is_blank front) front (b ∷ []) (omega arith)

-- and nothing else
pub before_blanks-plain : (front : Text) (b : ℕ) → is_blank b ≡ false → before_blanks (front ++ b ∷ []) ≡ front ++ b ∷ []
before_blanks-plain front b h =
    let none : suffix_len is_blank (front ++ b ∷ []) ≡ 0 = suffix_len-more front b ∙ ap (λ (t : Bool). cond t (1 + suffix_len is_blank front) 0) h in
    ap (λ (n : ℕ). take (length (front ++ b ∷ []) - n) (front ++ b ∷ [])) none ∙ take_all (length (front ++ b ∷ []) - 0) (front ++ b ∷ []) (omega arith)

-- a text that is not empty has a last byte
last_byte : (text : Text) (n : ℕ) → length text ≡ suc n → text ≡ take n text ++ get_or text n 0 ∷ []
last_byte text n long = sym (take_all (suc n) text (omega arith)) ∙ take-suc text n 0 (omega arith)

pub before_blanks-none : (text : Text) → ((front : Text) → text ≡ front ++ 32 ∷ [] → ⊥) → ((front : Text) → text ≡ front ++ 9 ∷ [] → ⊥) → before_blanks text ≡ text
before_blanks-none [] space tab = refl
before_blanks-none (b ∷ more) space tab = go (is_blank last) refl
  where
    front : Text
    front = take (length more) (b ∷ more)

    last : ℕ
    last = get_or (b ∷ more) (length more) 0

    whole : b ∷ more ≡ front ++ last ∷ []
    whole = last_byte (b ∷ more) (length more) refl

    go : (t : Bool) → is_blank last ≡ t → before_blanks (b ∷ more) ≡ b ∷ more
    go true h = absurd (elim (blank_is last h) [ inl e ↦ space front (whole ∙ ap (λ (n : ℕ). front ++ n ∷ []) e) | inr e ↦ tab front (whole ∙ ap (λ (n : ℕ). front ++ n ∷ []) e) ])
    go false h = ap before_blanks whole ∙ (before_blanks-plain front last h ∙ sym whole)

-- ---- headings

-- what brackets enclose
pub inner_brackets : (name : Text) → inner (91 ∷ name ++ 93 ∷ []) ≡ name
inner_brackets name =
    let cut : length (91 ∷ name ++ 93 ∷ []) - 2 ≡ length name = omega (arith, length-append name (93 ∷ [])) in
    ap (λ (n : ℕ). take n (name ++ 93 ∷ [])) cut ∙ take-append_seam name (93 ∷ [])

pub bracket_name-name : (name : Text) → bracket_name (91 ∷ name ++ 93 ∷ []) ≡ (if is_name name then Some name else None)
bracket_name-name name =
    let e = bytes_eq-Decides (91 ∷ name ++ 93 ∷ []) (91 ∷ name ++ 93 ∷ []) in
    rw inner_brackets (ap (λ (b : Bool). if b && is_name name then Some name else None) (e.1 refl))

pub bracket_name-is : (text rest name : Text) → text ≡ 91 ∷ rest → rest ≡ name ++ 93 ∷ [] → bracket_name text ≡ (if is_name name then Some name else None)
bracket_name-is text rest name front back = ap bracket_name (front ∙ ap (λ (t : Text). 91 ∷ t) back) ∙ bracket_name-name name

-- what is not in brackets is no heading
pub bracket_name-none : (text : Text) → (text ≡ 91 ∷ inner text ++ 93 ∷ [] → ⊥) → bracket_name text ≡ None
bracket_name-none text apart =
    ap (λ (b : Bool). if b && is_name (inner text) then Some (inner text) else None) (false_when _ (bytes_eq-Decides text (91 ∷ inner text ++ 93 ∷ [])) apart)

-- ---- whole lines

-- what a line says has its form
entry_from-formed : (key value : Text) (b : Bool) → (is_key key && list_all is_line_byte value) ≡ b → has_line_form (heading_or_entry None (if b then Some (key, value) else None)) ≡ true
entry_from-formed key value true h = h
entry_from-formed key value false h = refl

entry_at-formed : (text : Text) (at : Option ℕ) → has_line_form (heading_or_entry None (option_and_then (λ n. entry_from (before_blanks (take n text)) (after_blanks (drop (n + 1) text))) at)) ≡ true
entry_at-formed text None = refl
entry_at-formed text (Some n) = entry_from-formed (before_blanks (take n text)) (after_blanks (drop (n + 1) text)) _ refl

told-formed : (name text : Text) (b c : Bool) → is_name name ≡ c → has_line_form (heading_or_entry (if b && c then Some name else None) (entry_of text)) ≡ true
told-formed name text true true h = h
told-formed name text true false h = entry_at-formed text (position (λ b. b == 61) text)
told-formed name text false c h = entry_at-formed text (position (λ b. b == 61) text)

said-formed : (text : Text) (b : Bool) → has_line_form (if b then nothing else heading_or_entry (heading_of text) (entry_of text)) ≡ true
said-formed text true = refl
said-formed text false = told-formed (inner (before_blanks text)) text (bytes_eq (before_blanks text) (91 ∷ inner (before_blanks text) ++ 93 ∷ [])) (is_name (inner (before_blanks text))) refl

pub line_of-formed : (text : Text) → has_line_form (line_of text) ≡ true
line_of-formed text = said-formed (after_blanks text) (is_silent (after_blanks text))
