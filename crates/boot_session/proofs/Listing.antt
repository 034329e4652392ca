-- The variables at the end, by their places.
use Rattle.std.proofs.Common.{◌≡◌, ℕ, ◌<◌, length, List, [], Option, Some, None, slice_get, refl, sym, ◌∙◌, ap}
use Rattle.std.specs.Prelude.{unwrap_or}
use Rattle.std.specs.FinMap.{entries, get, keys}
use Rattle.std.specs.Option.{option_map}
use Rattle.std.proofs.lemmas.Option.{slice_get-map, slice_get-get_or}
use Rattle.boot_model.specs.Vars.{Variables}
use Rattle.boot_programs.proofs.Entries.{entry_found}

module _ (vars : Variables) (at : ℕ) (within : at < length (entries vars)) where
  -- there is a name at each place
  pub name_there : slice_get (keys vars) at ≡ None → ⊥
  name_there none =
      let there = slice_get-get_or (entries vars) at ([], []) within in
      let name = slice_get-map (λ (e : List ℕ × List ℕ). e.0) (entries vars) at ∙ ap (option_map (λ (e : List ℕ × List ℕ). e.0)) there in
      cc

  -- and the variable of that name is the entry there
  pub entry_there : (name : List ℕ) → slice_get (keys vars) at ≡ Some name → slice_get (entries vars) at ≡ Some (name, unwrap_or (get vars name) [])
  entry_there name is = cases (get vars name) refl
    where
      cases : (o : Option (List ℕ)) → get vars name ≡ o → slice_get (entries vars) at ≡ Some (name, unwrap_or (get vars name) [])
      cases None e =
          let there = slice_get-get_or (entries vars) at ([], []) within in
          let found = sym (entry_found vars at name is) ∙ ap (option_map (λ (text : List ℕ). (name, text))) e in
          cc
      cases (Some text) e =
          sym (entry_found vars at name is) ∙ ap (option_map (λ (text : List ℕ). (name, text))) e
          ∙ sym (ap (λ (o : Option (List ℕ)). Some (name, unwrap_or o [])) e)
