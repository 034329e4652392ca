use Rattle.std.proofs.Common.{◌≡◌, ◌∙◌, ◌++◌, ◌∷◌, [], ℕ, List, Some, None, ap, sym, string_bytes, lit<, rules}
use Rattle.std.specs.List.{flat_map}
use Rattle.std.proofs.lemmas.Str.Pattern.{split_parts}
use Rattle.updater_text.specs.Quotes.{quote_byte}
use Rattle.updater_text.proofs.QuotedTexts.{flat_map-unquoted, quoted-turn}
use Rattle.updater_text.proofs.quoting.push_quoted.Goals as goal

pub loop-plain-preserved : goal.loop-plain-preserved
loop-plain-preserved c =
    let parts = split_parts 39 c.loop-plain.left.now (Some (c.in-Some.plain, c.in-Some.rest)) c.in-Some.ensures.cases (lit< tt) in
    let grown : string_bytes c.push_str-in-Some.new.self ≡ (string_bytes c.loop-plain.out ++ c.in-Some.plain.now) ++ 39 ∷ 92 ∷ 39 ∷ 39 ∷ [] =
    c.in_ok-push_str-2.ensures.bytes ∙ ap (λ (t : List ℕ). t ++ 39 ∷ 92 ∷ 39 ∷ 39 ∷ []) c.in_ok-push_str.ensures.bytes in
    record {
      text = search rules;
      whole = ap (λ (t : List ℕ). t ++ flat_map quote_byte c.in-Some.rest.now) grown
          ∙ (quoted-turn (string_bytes c.loop-plain.out) c.in-Some.plain.now c.in-Some.rest.now c.loop-plain.left.now parts.0 parts.1 ∙ c.loop-plain.invariant.whole);
    }

pub returns : goal.returns
returns c =
    let none = split_parts 39 c.loop-plain.left.now None c.in_default.ensures.cases (lit< tt) in
    c.in_ok-push_str-3.ensures.bytes
    ∙ (ap (λ (t : List ℕ). string_bytes c.loop-plain.out ++ t) (sym (flat_map-unquoted c.loop-plain.left.now none)) ∙ c.loop-plain.invariant.whole)
