-- Changes that change nothing.
use Rattle.std.proofs.Common.{◌≡◌, ℕ, true, false, cond, List, Some, None, refl, sym, ◌∙◌, ap}
use Rattle.std.specs.FinMap as fin
use Rattle.std.specs.FinMap.{nat_cmp-IsAntisymmetric, same_map, slice_cmp-IsAntisymmetric}
use Rattle.std.specs.Cmp.Lexicographic.{nat_list_cmp_total}
use Rattle.std.specs.Str.{bytes_eq}
use Rattle.std.proofs.lemmas.Slice.Eq.{bytes_eq-Decides}
use Rattle.boot_model.specs.Vars.{Variables}
use Rattle.boot_state.specs.Orders.{value}
use Rattle.boot_state.proofs.Values.{value-insert, value-remove}

same_vars : (v w : Variables) → ((q : List ℕ) → value v q ≡ value w q) → v ≡ w
same_vars v w is = same_map nat_list_cmp_total (slice_cmp-IsAntisymmetric nat_cmp-IsAntisymmetric) v w is

-- a variable gets the value that it has
pub insert_there : (vars : Variables) (name text : List ℕ) → value vars name ≡ Some text → fin.insert vars name text ≡ vars
insert_there vars name text there =
    same_vars (fin.insert vars name text) vars (λ q.
    value-insert vars name text q
    ∙ elim (bytes_eq q name) as (λ b. bytes_eq q name ≡ b → cond b (Some text) (value vars q) ≡ value vars q) [
      | true ↦ λ e. sym (ap (value vars) ((bytes_eq-Decides q name).0 e) ∙ there)
      | false ↦ λ e. refl
    ] refl)

-- a variable that is not there is taken away
pub remove_absent : (vars : Variables) (name : List ℕ) → value vars name ≡ None → fin.remove vars name ≡ vars
remove_absent vars name absent =
    same_vars (fin.remove vars name) vars (λ q.
    value-remove vars name q
    ∙ elim (bytes_eq q name) as (λ b. bytes_eq q name ≡ b → cond b None (value vars q) ≡ value vars q) [
      | true ↦ λ e. sym (ap (value vars) ((bytes_eq-Decides q name).0 e) ∙ absent)
      | false ↦ λ e. refl
    ] refl)
