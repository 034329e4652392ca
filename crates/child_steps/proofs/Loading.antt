-- The manifest's file.
use Rattle.std.proofs.Common.{◌≡◌, ◌<◌, ℕ, true, List, length, Option, Some, None, Result, Err, refl, sym, ◌∙◌, ap, subst, arith, nat_lt}
use Rattle.std.proofs.lemmas.Bool.Decides.{nat_tests}
use Rattle.machine.specs.declared.stops.Stop.{Stop}
use Rattle.keyfile.specs.declared.fault.KeyFault.TheVariants as key
use Rattle.manifest.specs.declared.content.Manifest.{Manifest}
use Rattle.child_steps.specs.declared.bundle.BundleRefusal.{BundleRefusal}
use Rattle.child_steps.specs.declared.bundle.BundleRefusal.TheVariants.{NoManifest, BadKeys}
use Rattle.child_steps.specs.Bundle.{LoadsManifest, manifest_in, of_bytes}

bytes_long : (bytes : List ℕ) → 1048576 < length bytes → of_bytes bytes ≡ Err (BadKeys (key.TooLong (length bytes)))
bytes_long bytes lt = rw (is_long (length bytes) 1048576 lt) refl
  where
    is_long : (n k : ℕ) → k < n → nat_lt k n ≡ true
    is_long n k lt = grind (arith, nat_tests)

pub loads_some : (there : Option (List ℕ)) (bytes : List ℕ) (result : Result Manifest (Stop BundleRefusal)) → there ≡ Some bytes → LoadsManifest (of_bytes bytes) result → LoadsManifest (manifest_in there) result
loads_some there bytes result is loads = subst (λ (o : Option (List ℕ)). LoadsManifest (manifest_in o) result) (sym is) loads

pub loads_none : (there : Option (List ℕ)) → there ≡ None → manifest_in there ≡ Err NoManifest
loads_none there is = ap manifest_in is

pub loads_long : (there : Option (List ℕ)) (n : ℕ) (bytes : List ℕ) → there ≡ Some bytes → n ≡ length bytes → 1048576 < n → manifest_in there ≡ Err (BadKeys (key.TooLong n))
loads_long there n bytes is same lt =
    ap manifest_in is
    ∙ bytes_long bytes (subst (λ (k : ℕ). 1048576 < k) same lt)
    ∙ ap (λ (k : ℕ). Err (BadKeys (key.TooLong k))) (sym same)
