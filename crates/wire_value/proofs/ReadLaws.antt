-- From what reading gives to the grammar, and back.
use Rattle.std.proofs.Common.{◌≡◌, ℕ, suc, ◌+◌, ◌<◌, Bool, List, [], ◌++◌, length, Option, Some, Result, Ok, Err, refl, sym, ap, subst, ◌∙◌, arith}
use Rattle.std.specs.Prelude.{IfOk}
use Rattle.std.proofs.lemmas.List.{append-nil}
use Rattle.wire_value.specs.Types.{IsItemType, IsSignature, texts}
use Rattle.wire_value.specs.Plain.{Plain, Plains, sig, sigs}
use Rattle.wire_value.specs.Spelling.{spell, spells}
use Rattle.wire_value.specs.Reading.{At, value_at, items_at, fields_at}
use Rattle.wire_value.specs.Standing.{Stands, StandAll, StandItems}
use Rattle.wire_value.specs.Gives.{Gives}
use Rattle.wire_value.specs.declared.error.ReadError.{ReadError}
use Rattle.wire_value.proofs.Steps.{IsBytes}
use Rattle.wire_value.proofs.Found.{value_found, item_found, items_found, fields_found}
use Rattle.wire_value.proofs.Again.{value_again, items_again, fields_again}

-- what holds of all that reading gives holds of what the code read
pub if_read : {X Y : Type 0} (seen : X → Y) (o : Option Y) (P : Y → Type 0) → ((y : Y) → o ≡ Some y → P y) → (r : Result X ReadError) → Gives seen r o → IfOk r (λ x. P (seen x))
if_read seen o P f (Ok x) h = f (seen x) h
if_read seen o P f (Err e) h = tt

pub is_read : {X Y : Type 0} (seen : X → Y) (o p : Option Y) → o ≡ p → (r : Result X ReadError) → Gives seen r o → Gives seen r p
is_read seen o p e r h = subst (Gives seen r) e h

module _ (little : Bool) (d : ℕ) where
  pub stands_found : (s : List ℕ) (p : At) → IsItemType s → IsBytes p.1 → (x : Plain × At) → value_at d little s p ≡ Some x → Stands little d s p x.0 x.1
  stands_found s p t fits x e =
      let f = item_found little d s p x t fits e in
      record {
        text = spell little p.0 x.0;
        spells = record { is = refl; valid = f.valid; nests = f.nest };
        typed = f.is;
        front = f.takes.parts;
        behind = f.takes.moves;
      }

  pub stands_read : (s : List ℕ) (p : At) (v : Plain) (q : At) → Stands little d s p v q → value_at d little s p ≡ Some (v, q)
  stands_read s p v q h =
      let bytes : p.1 ≡ spell little p.0 v ++ q.1 = h.front ∙ ap (λ (t : List ℕ). t ++ q.1) h.spells.is in
      let ends : p.0 + length (spell little p.0 v) ≡ q.0 = ap (λ (t : List ℕ). p.0 + length t) (sym h.spells.is) ∙ sym h.behind in
      ap (λ (t : List ℕ). value_at d little t p) (sym h.typed) ∙ ap (λ (b : List ℕ). value_at d little (sig v) (p.0, b)) bytes
      ∙ value_again little v d p.0 q.1 h.spells.valid h.spells.nests ∙ ap (λ (n : ℕ). Some (v, (n, q.1))) ends

  pub all_found : (s : List ℕ) (p : At) → IsSignature s → IsBytes p.1 → (x : Plains × At)
      → fields_at (value_at d little) (suc (length s)) s p ≡ Some x → StandAll little d s p x.0 x.1
  all_found s p t fits x e =
      let whole : s ≡ texts t.kinds ++ [] = t.is ∙ sym (append-nil (texts t.kinds)) in
      let f = fields_found little d (value_at d little) (value_found little d) t.kinds (suc (length s)) [] p x t.arrays t.structs refl fits (subst (λ (y : List ℕ). fields_at (value_at d little) (suc (length s)) y p ≡ Some x) whole e) in
      record {
        text = spells little p.0 x.0;
        spells = record { is = refl; valid = f.valid; nests = f.nests };
        typed = f.is ∙ sym t.is;
        front = f.takes.parts;
        behind = f.takes.moves;
      }

  pub all_read : (s : List ℕ) (p : At) (vs : Plains) (q : At) → StandAll little d s p vs q → fields_at (value_at d little) (suc (length s)) s p ≡ Some (vs, q)
  all_read s p vs q h =
      let bytes : p.1 ≡ spells little p.0 vs ++ q.1 = h.front ∙ ap (λ (t : List ℕ). t ++ q.1) h.spells.is in
      let ends : p.0 + length (spells little p.0 vs) ≡ q.0 = ap (λ (t : List ℕ). p.0 + length t) (sym h.spells.is) ∙ sym h.behind in
      let types : s ≡ sigs vs ++ [] = sym h.typed ∙ sym (append-nil (sigs vs)) in
      let long : length (sigs vs) < suc (length s) = omega (arith, ap length h.typed) in
      ap (λ (t : List ℕ). fields_at (value_at d little) (suc (length s)) t p) types ∙ ap (λ (b : List ℕ). fields_at (value_at d little) (suc (length s)) (sigs vs ++ []) (p.0, b)) bytes
      ∙ fields_again little vs d p.0 (suc (length s)) [] q.1 h.spells.valid h.spells.nests refl long ∙ ap (λ (n : ℕ). Some (vs, (n, q.1))) ends

  pub each_found : (s : List ℕ) (p : At) → IsItemType s → IsBytes p.1 → (vs : Plains)
      → items_at (value_at d little s) (length p.1) p ≡ Some vs → StandItems little d s p vs
  each_found s p t fits vs e =
      let f = items_found little d (value_at d little s) s (λ q y g h. item_found little d s q y t g h) (length p.1) p vs fits e in
      record { whole = f.whole; valid = f.valid; nests = f.nests }

  pub each_read : (s : List ℕ) (p : At) (vs : Plains) → StandItems little d s p vs → items_at (value_at d little s) (length p.1) p ≡ Some vs
  each_read s p vs h =
      ap (λ (b : List ℕ). items_at (value_at d little s) (length b) (p.0, b)) h.whole
      ∙ items_again little vs d p.0 (length (spells little p.0 vs)) s h.valid h.nests (omega arith)
