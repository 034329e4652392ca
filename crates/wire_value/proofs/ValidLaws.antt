-- From the check to the grammar, and back.
use Rattle.std.proofs.Common.{◌≡◌, ℕ, ◌≤◌, Bool, List, [], ◌++◌, Option, Some, None, refl, sym, ap, subst, ◌∙◌, inl}
use Rattle.std.specs.Prelude.{IfSome}
use Rattle.std.proofs.lemmas.List.{append-nil}
use Rattle.wire_value.specs.Types.{IsType, IsSignature, texts}
use Rattle.wire_value.specs.Plain.{Plain, Plains, sigs}
use Rattle.wire_value.specs.Standing.{MayStand, MayStandAll}
use Rattle.wire_value.specs.Checking.{checked, checked_fields}
use Rattle.wire_value.proofs.Checks.{checked_means, checked_again, fields_mean, fields_again}

if_some : {A : Type 0} (P : A → Type 0) (o r : Option A) → o ≡ r → ((x : A) → r ≡ Some x → P x) → IfSome o P
if_some P (Some x) r e f = f x (sym e)
if_some P None r e f = tt

module _ (limit d n : ℕ) (little : Bool) where
  pub value_found : (kind : List ℕ) (v : Plain) (o : Option ℕ) → IsType kind → o ≡ checked limit d kind n v → IfSome o (λ e. MayStand little d kind n v e × (e ≤ limit))
  value_found kind v o t is = if_some (λ e. MayStand little d kind n v e × (e ≤ limit)) o (checked limit d kind n v) is (λ e h.
      let c = checked_means little limit v d n e kind (inl t) h in
      (record { valid = c.valid; typed = c.is; nests = c.nest; ends = c.ends }, c.within))

  pub value_only : (kind : List ℕ) (v : Plain) (o : Option ℕ) (e : ℕ) → o ≡ checked limit d kind n v → MayStand little d kind n v e → e ≤ limit → o ≡ Some e
  value_only kind v o e is h le =
      is ∙ ap (λ (s : List ℕ). checked limit d s n v) (sym h.typed)
      ∙ checked_again little limit v d n h.valid h.nests (subst (λ (m : ℕ). m ≤ limit) (sym h.ends) le) ∙ ap (λ (m : ℕ). Some m) h.ends

  pub all_found : (s : List ℕ) (vs : Plains) (o : Option ℕ) → IsSignature s → o ≡ checked_fields limit d s n vs → IfSome o (λ e. MayStandAll little d s n vs e × (e ≤ limit))
  all_found s vs o t is = if_some (λ e. MayStandAll little d s n vs e × (e ≤ limit)) o (checked_fields limit d s n vs) is (λ e h.
      let whole : s ≡ texts t.kinds ++ [] = t.is ∙ sym (append-nil (texts t.kinds)) in
      let c = fields_mean little limit vs t.kinds d n e [] t.arrays t.structs refl (subst (λ (y : List ℕ). checked_fields limit d y n vs ≡ Some e) whole h) in
      (record { valid = c.valid; typed = c.is ∙ sym t.is; nests = c.nests; ends = c.ends }, c.within))

  pub all_only : (s : List ℕ) (vs : Plains) (o : Option ℕ) (e : ℕ) → o ≡ checked_fields limit d s n vs → MayStandAll little d s n vs e → e ≤ limit → o ≡ Some e
  all_only s vs o e is h le =
      let whole : s ≡ sigs vs ++ [] = sym h.typed ∙ sym (append-nil (sigs vs)) in
      is ∙ ap (λ (y : List ℕ). checked_fields limit d y n vs) whole
      ∙ fields_again little limit vs d n [] h.valid h.nests refl (subst (λ (m : ℕ). m ≤ limit) (sym h.ends) le) ∙ ap (λ (m : ℕ). Some m) h.ends
