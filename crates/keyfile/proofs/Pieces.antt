-- The pieces of list values.
use Rattle.std.proofs.Common.{◌≡◌, ◌∙◌, ◌==◌, ◌++◌, ap, refl, Bool, true, false, List, [], ◌∷◌, length, if◌then◌else◌}
use Rattle.keyfile.specs.Groups.{Text}
use Rattle.keyfile.specs.Items.{without_empty_last}

-- the last piece decides
pub without_empty_last-push : (pieces : List Text) (last : Text) → without_empty_last (pieces ++ last ∷ []) ≡ (if length last == 0 then pieces else pieces ++ last ∷ [])
without_empty_last-push [] last = refl
without_empty_last-push (x ∷ []) last = go (length last == 0)
  where
    go : (b : Bool) → x ∷ (if b then [] else last ∷ []) ≡ (if b then x ∷ [] else x ∷ last ∷ [])
    go true = refl
    go false = refl
without_empty_last-push (x ∷ y ∷ more) last = ap (λ (t : List Text). x ∷ t) (without_empty_last-push (y ∷ more) last) ∙ go (length last == 0)
  where
    go : (b : Bool) → x ∷ (if b then y ∷ more else y ∷ (more ++ last ∷ [])) ≡ (if b then x ∷ y ∷ more else x ∷ y ∷ (more ++ last ∷ []))
    go true = refl
    go false = refl
