use Rattle.std.proofs.Common.{◌≡◌, ◌≤◌, ◌∙◌, List, length, Ok, subst, sym}
use Rattle.slot_status.specs.Records.{book_of}
use Rattle.keyfile.specs.Groups.{Text}
use Rattle.status_file.proofs.SystemNames.{few_names, names_fit}
use Rattle.status_file.proofs.text.status_text.Goals as goal

pub text-requires-clause-names : goal.text-requires-clause-names
text-requires-clause-names c =
    rw (c.deref.ensures.value, c.in_ok-names.ensures) (names_fit c.args.system.now.slots c.args.system.now.sound.slots)

pub returns-clause-reads_back : goal.returns-clause-reads_back
returns-clause-reads_back c =
    let same = c.deref.ensures.value ∙ c.in_ok-names.ensures in
    let few = subst (λ (names : List Text). length names ≤ 64) (sym same) (few_names c.args.system.now.slots c.args.system.now.sound.slots) in
    rw c.from_vec.ensures
    (subst (λ (names : List Text). book_of names c.in_ok-text.text.items ≡ Ok c.args.book.now) same (c.in_ok-text.ensures.reads_back (c.in_ok-text.ensures.short few)))
