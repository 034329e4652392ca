use Rattle.std.proofs.Common.{◌≡◌, ◌∙◌, ap, ap₂, sym, [], map, inl, inr}
use Rattle.std.proofs.lemmas.List.{map-id}
use Rattle.clap.specs.Words.{Text, fault_of, found_of, matches_of, is_simple, is_simple_and_free, rows_of, kind_of}
use Rattle.rauc_words.specs.Rules.{rauc_app}
use Rattle.rauc_words.proofs.FromClap.{gives_none, gives_some, is_exact, is_stated}
use Rattle.rauc_words.proofs.command_line.parse.Goals as goal

pub returns-in-Ok : goal.returns-in-Ok
returns-in-Ok c =
    let app_is = c.in_ok-reader.ensures in
    let words_are : map (λ (t : Text). t) c.args.words.now ≡ c.args.words.now = map-id c.args.words.now in
    let fine : fault_of rauc_app c.args.words.now ≡ [] =
    sym (ap₂ fault_of app_is words_are) ∙ c.in-Ok.ensures.kinds (ap is_simple_and_free app_is ∙ is_exact) in
    let rows_are : rows_of (found_of c.in-Ok.matches) ≡ matches_of rauc_app c.args.words.now =
    (c.in-Ok.ensures.matches (ap is_simple app_is ∙ is_stated)).0 ∙ ap₂ matches_of app_is words_are in
    gives_some c.args.words.now _ _ fine rows_are c.in_ok-read_line-in-Ok.ensures

pub returns : goal.returns
returns c =
    let app_is = c.in_ok-reader.ensures in
    let words_are : map (λ (t : Text). t) c.args.words.now ≡ c.args.words.now = map-id c.args.words.now in
    let faults_are = ap₂ fault_of app_is words_are in
    elim (c.in-Err.ensures.kinds (ap is_simple_and_free app_is ∙ is_exact)) [
      | inl memory ↦ absurd (c.in_default.not-OutOfMemory (c.kind.ensures ∙ memory))
      | inr h ↦ gives_none c.args.words.now (kind_of c.in-Err.error) (rw faults_are at h)
    ]
