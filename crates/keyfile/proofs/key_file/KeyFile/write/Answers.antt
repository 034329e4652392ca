use Rattle.std.proofs.Common.{◌≡◌, ◌∙◌, ◌≤◌, ◌++◌, List, length, Ok, ap, sym, subst}
use Rattle.keyfile.specs.Canonical.{canonical}
use Rattle.keyfile.specs.Groups.{Group, Text, groups_in}
use Rattle.keyfile.specs.Reading.{read_of}
use Rattle.keyfile.proofs.Law.{read_of-canonical}
use Rattle.keyfile.proofs.Texts.{canonical-text}
use Rattle.keyfile.proofs.key_file.KeyFile.write.Goals as goal

pub returns-clause-reads_back : goal.returns-clause-reads_back
returns-clause-reads_back c =
    let gs = groups_in c.self.inside.groups.entries in
    let written : c.write_groups.new.out.items ≡ canonical gs = c.in_ok-write_groups.ensures ∙ ap (λ (t : Text). t ++ canonical gs) c.new-text.ensures.items in
    subst (λ (t : Text). length t ≤ 1048576 → read_of t ≡ Ok c.args.self.now) (sym written)
    (λ small. read_of-canonical gs c.self.invariant (canonical-text c.self.inside.groups.entries) small ∙ ap (λ (t : List Group). Ok t) c.self.view_is)
