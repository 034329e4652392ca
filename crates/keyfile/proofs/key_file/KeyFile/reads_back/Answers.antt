use Rattle.std.proofs.Common.{◌≡◌, ◌≤◌, List, length, Ok, subst, true}
use Rattle.keyfile.specs.Canonical.{canonical}
use Rattle.keyfile.specs.Groups.{Group, groups_in, is_key_file}
use Rattle.keyfile.specs.Reading.{read_of}
use Rattle.keyfile.proofs.Law.{read_of-canonical}
use Rattle.keyfile.proofs.Texts.{canonical-text}
use Rattle.keyfile.proofs.key_file.KeyFile.reads_back.Goals as goal

pub returns-clause-form : goal.returns-clause-form
returns-clause-form c = subst (λ (gs : List Group). is_key_file gs ≡ true) c.self.view_is c.self.invariant

pub returns-clause-law : goal.returns-clause-law
returns-clause-law c =
    subst (λ (gs : List Group). length (canonical gs) ≤ 1048576 → read_of (canonical gs) ≡ Ok gs) c.self.view_is
    (read_of-canonical (groups_in c.self.inside.groups.entries) c.self.invariant (canonical-text c.self.inside.groups.entries))
