-- The configuration's file.
use Rattle.std.proofs.Common.{◌≡◌, ◌<◌, ℕ, true, List, length, Option, Some, None, Result, Err, refl, sym, ◌∙◌, ap, subst, arith, nat_lt}
use Rattle.std.proofs.lemmas.Bool.Decides.{nat_tests}
use Rattle.machine.specs.declared.stops.Stop.{Stop}
use Rattle.keyfile.specs.declared.fault.KeyFault.TheVariants as key
use Rattle.system_conf.specs.declared.system.System.{System}
use Rattle.rauc_cli.specs.declared.conf.BadConf.TheVariants as bad
use Rattle.rauc_cli.specs.declared.conf.NoSystem.{NoSystem}
use Rattle.rauc_cli.specs.declared.conf.NoSystem.TheVariants.{Missing, Bad}
use Rattle.rauc_cli.specs.Conf.{LoadsSystem, conf_of, of_conf, system_in}

conf_long : (bytes : List ℕ) → 1048576 < length bytes → conf_of bytes ≡ Err (bad.Key (key.TooLong (length bytes)))
conf_long bytes lt = rw (is_long (length bytes) 1048576 lt) refl
  where
    is_long : (n k : ℕ) → k < n → nat_lt k n ≡ true
    is_long n k lt = grind (arith, nat_tests)

pub loads_some : (there : Option (List ℕ)) (bytes : List ℕ) (result : Result System (Stop NoSystem)) → there ≡ Some bytes → LoadsSystem (of_conf (conf_of bytes)) result → LoadsSystem (system_in there) result
loads_some there bytes result is loads = subst (λ (o : Option (List ℕ)). LoadsSystem (system_in o) result) (sym is) loads

pub loads_none : (there : Option (List ℕ)) → there ≡ None → system_in there ≡ Err Missing
loads_none there is = ap system_in is

pub loads_long : (there : Option (List ℕ)) (n : ℕ) (bytes : List ℕ) → there ≡ Some bytes → n ≡ length bytes → 1048576 < n → system_in there ≡ Err (Bad (bad.Key (key.TooLong n)))
loads_long there n bytes is same lt =
    ap system_in is
    ∙ ap of_conf (conf_long bytes (subst (λ (k : ℕ). 1048576 < k) same lt))
    ∙ ap (λ (k : ℕ). Err (Bad (bad.Key (key.TooLong k)))) (sym same)
