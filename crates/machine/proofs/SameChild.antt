-- A child is the same as itself.
use Rattle.std.proofs.Common.{◌≡◌, ◌&&◌, ℕ, Bool, true, false, List, [], ◌∷◌, refl}
use Rattle.std.specs.Prelude.{bytes_eq}
use Rattle.std.proofs.lemmas.Slice.Eq.{bytes_eq-Decides}
use Rattle.std.specs.Bool.{beq}
use Rattle.std.specs.Cmp.Lexicographic.{pointwise}
use Rattle.machine.specs.declared.world.Child.{Child}
use Rattle.machine.specs.declared.world.ChildClass.{ChildClass}
use Rattle.machine.specs.declared.world.ChildClass.TheVariants.{Boot, Helper, Handler, Hook}
use Rattle.machine.specs.declared.world.EnvVar.{EnvVar}
use Rattle.machine.specs.declared.world.Spares.{Spares}
use Rattle.machine.specs.SameChild.{are_spares, are_texts, is_child, is_class, is_var}

both : (a b : Bool) → a ≡ true → b ≡ true → (a && b) ≡ true
both true b h k = k
both false b h k = h

beq_refl : (b : Bool) → beq b b ≡ true
beq_refl true = refl
beq_refl false = refl

class_refl : (c : ChildClass) → is_class c c ≡ true
class_refl Boot = refl
class_refl Helper = refl
class_refl Handler = refl
class_refl Hook = refl

bytes_refl : (bytes : List ℕ) → bytes_eq bytes bytes ≡ true
bytes_refl bytes = (bytes_eq-Decides bytes bytes).1 refl

pointwise_refl : {A : Type 0} (E : A → A → Bool) → ((x : A) → E x x ≡ true) → (xs : List A) → pointwise E xs xs ≡ true
pointwise_refl E each [] = refl
pointwise_refl E each (x ∷ xs) = both (E x x) (pointwise E xs xs) (each x) (pointwise_refl E each xs)

texts_refl : (texts : List (List ℕ)) → are_texts texts texts ≡ true
texts_refl texts = pointwise_refl bytes_eq bytes_refl texts

var_refl : (v : EnvVar) → is_var v v ≡ true
var_refl v = both (bytes_eq v.name v.name) (bytes_eq v.value v.value) (bytes_refl v.name) (bytes_refl v.value)

spares_refl : (s : Spares) → are_spares s s ≡ true
spares_refl s =
    both (are_texts s.disks s.disks) (are_texts s.files s.files && beq s.boot s.boot) (texts_refl s.disks)
    (both (are_texts s.files s.files) (beq s.boot s.boot) (texts_refl s.files) (beq_refl s.boot))

pub is_child_refl : (c : Child) → is_child c c ≡ true
is_child_refl c =
    both (is_class c.class c.class) (bytes_eq c.program c.program && (are_texts c.args c.args && (pointwise is_var c.env c.env && are_spares c.spares c.spares))) (class_refl c.class)
    (both (bytes_eq c.program c.program) (are_texts c.args c.args && (pointwise is_var c.env c.env && are_spares c.spares c.spares)) (bytes_refl c.program)
    (both (are_texts c.args c.args) (pointwise is_var c.env c.env && are_spares c.spares c.spares) (texts_refl c.args)
    (both (pointwise is_var c.env c.env) (are_spares c.spares c.spares) (pointwise_refl is_var var_refl c.env) (spares_refl c.spares))))
