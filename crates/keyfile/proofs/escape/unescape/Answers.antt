use Rattle.std.proofs.Common.{◌≡◌, ◌∙◌, ◌++◌, ◌∷◌, [], Some, None, ap, sym, string_bytes, lit<, rules}
use Rattle.std.proofs.Math.Utf8.{encode}
use Rattle.std.proofs.lemmas.Str.Pattern.{split_parts}
use Rattle.keyfile.specs.Groups.{Text}
use Rattle.keyfile.proofs.Escaping.{escape_at-narrow, read_on, read_on-end, read_on-fault, read_on-start, read_on-turn}
use Rattle.keyfile.proofs.escape.unescape.Goals as goal

pub loop-plain-init : goal.loop-plain-init
loop-plain-init c = record { text = c.utf8.written; whole = read_on-start (string_bytes c.new-value.result) c.args.written.now c.new-value.ensures.bytes }

pub returns-in_default-escape_at : goal.returns-in_default-escape_at
returns-in_default-escape_at c =
    let parts = split_parts 92 c.loop-plain.left.now (Some (c.in-Some.plain, c.in-Some.rest)) c.in-Some.ensures.cases (lit< tt) in
    sym (read_on-fault (string_bytes c.loop-plain.value) c.in-Some.plain.now c.in-Some.rest.now c.loop-plain.left.now parts.0 parts.1 c.in_default-escape_at.ensures)
    ∙ c.loop-plain.invariant.whole

pub loop-plain-preserved : goal.loop-plain-preserved
loop-plain-preserved c =
    let parts = split_parts 92 c.loop-plain.left.now (Some (c.in-Some.plain, c.in-Some.rest)) c.in-Some.ensures.cases (lit< tt) in
    let letter = c.in-Some-escape_at.ensures in
    let narrow = escape_at-narrow c.in-Some.rest.now c.in-Some-escape_at.after.now c.in-Some-escape_at.escaped letter in
    let grown : string_bytes c.push.new.self ≡ (string_bytes c.loop-plain.value ++ c.in-Some.plain.now) ++ c.in-Some-escape_at.escaped ∷ [] =
    c.in_ok-push.ensures.bytes ∙ (ap (λ (t : Text). t ++ encode c.in-Some-escape_at.escaped) c.in_ok-push_str.ensures.bytes
    ∙ ap (λ (t : Text). (string_bytes c.loop-plain.value ++ c.in-Some.plain.now) ++ t) (c.in_ok-push.ensures.ascii narrow)) in
    record {
      text = search rules;
      whole = ap (λ (t : Text). read_on t c.in-Some-escape_at.after.now) grown
          ∙ (read_on-turn (string_bytes c.loop-plain.value) c.in-Some.plain.now c.in-Some.rest.now c.in-Some-escape_at.after.now c.loop-plain.left.now c.in-Some-escape_at.escaped parts.0 parts.1 letter
          ∙ c.loop-plain.invariant.whole);
    }

pub returns : goal.returns
returns c =
    let none = split_parts 92 c.loop-plain.left.now None c.in_default.ensures.cases (lit< tt) in
    ap (λ (t : Text). Some t) c.in_ok-push_str-2.ensures.bytes
    ∙ (sym (read_on-end (string_bytes c.loop-plain.value) c.loop-plain.left.now none) ∙ c.loop-plain.invariant.whole)
