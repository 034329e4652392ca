use Rattle.std.proofs.Common.{List, subst}
use Rattle.std.specs.List.{IsDistinct}
use Rattle.std.specs.Str.{bytes_eq}
use Rattle.keyfile.proofs.Names.{IsDistinct-groups_in}
use Rattle.keyfile.specs.Groups.{Group}
use Rattle.std.proofs.Common.{map}
use Rattle.keyfile.proofs.key_file.KeyFile.groups.Goals as goal

pub returns-clause-differ : goal.returns-clause-differ
returns-clause-differ c =
    subst (λ (groups : List Group). IsDistinct bytes_eq (map (λ g. g.0) groups)) c.self.view_is (IsDistinct-groups_in c.self.inside.groups.entries c.as_slice.ensures.unique)
