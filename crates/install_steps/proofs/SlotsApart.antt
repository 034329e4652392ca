-- The jobs of an install have slots of their own.
use Rattle.std.proofs.Common.{◌≡◌, ◌<◌, not, ℕ, zero, suc, Bool, true, IsTrue, List, [], ◌∷◌, map, slice_get, Option, Some, None, refl, sym, ap, ◌∙◌, subst, arith, length, option_map}
use Rattle.std.specs.Prelude.{bytes_eq}
use Rattle.std.specs.List.{list_any}
use Rattle.std.proofs.lemmas.Bool.{and_parts, false≢true, or_left, or_right}
use Rattle.std.proofs.lemmas.Option.{slice_get-map}
use Rattle.std.proofs.lemmas.Slice.Eq.{bytes_eq-Decides}
use Rattle.keyfile.specs.Groups.{Text, all_distinct}
use Rattle.manifest.specs.Contents.{ImageContent}
use Rattle.manifest.specs.Distinct.{classes_differ}
use Rattle.manifest.specs.Reads.{image_contents}
use Rattle.manifest.specs.declared.image.Image.{Image}
use Rattle.slot_graph.specs.Jobs.{ArePlaced}
use Rattle.slot_graph.specs.declared.job.Job.{Job}
use Rattle.system_conf.specs.declared.slot.Slot.{Slot}
use Rattle.install_facts.specs.Facts.{FactsContent}
use Rattle.install_steps.specs.Steps.{slot_at}

-- ---- texts that differ

any_at : {A : Type 0} (p : A → Bool) (xs : List A) (at : ℕ) (x : A) → slice_get xs at ≡ Some x → p x ≡ true → list_any p xs ≡ true
any_at p [] at x is holds = absurd (cc)
any_at p (y ∷ xs) zero x is holds = let same : y ≡ x = cc in or_left (p y) (list_any p xs) (ap p same ∙ holds)
any_at p (y ∷ xs) (suc at) x is holds = or_right (p y) (list_any p xs) (any_at p xs at x is holds)

-- the first does not stand later once more
not_later : (x : Text) (more : List Text) (at : ℕ) → not (list_any (bytes_eq x) more) ≡ true → slice_get more at ≡ Some x → ⊥
not_later x more at none is = false≢true (sym (ap not (any_at (bytes_eq x) more at x is ((bytes_eq-Decides x x).1 refl))) ∙ none)

-- a text stands at one place at most
one_place : (xs : List Text) → all_distinct xs ≡ true → (j k : ℕ) (x : Text) → slice_get xs j ≡ Some x → slice_get xs k ≡ Some x → j ≡ k
one_place [] apart j k x here there = absurd (cc)
one_place (y ∷ more) apart zero zero x here there = refl
one_place (y ∷ more) apart zero (suc k) x here there =
    let same : x ≡ y = cc in
    absurd (not_later y more k (and_parts (not (list_any (bytes_eq y) more)) (all_distinct more) apart).0 (there ∙ ap (λ (t : Text). Some t) same))
one_place (y ∷ more) apart (suc j) zero x here there =
    let same : x ≡ y = cc in
    absurd (not_later y more j (and_parts (not (list_any (bytes_eq y) more)) (all_distinct more) apart).0 (here ∙ ap (λ (t : Text). Some t) same))
one_place (y ∷ more) apart (suc j) (suc k) x here there = ap suc (one_place more (and_parts (not (list_any (bytes_eq y) more)) (all_distinct more) apart).1 j k x here there)

-- ---- the classes of images

abbrev pub classes : List ImageContent → List Text
classes images = map (λ i. i.class) images

same_classes : (images : List Image) → classes (image_contents images) ≡ map (λ i. i.class) images
same_classes [] = refl
same_classes (i ∷ images) = ap (λ (more : List Text). i.class ∷ more) (same_classes images)

-- those of a manifest differ
pub classes_apart : (images : List Image) → IsTrue (classes_differ images) → all_distinct (classes (image_contents images)) ≡ true
classes_apart images differ = ap all_distinct (same_classes images) ∙ differ

-- ---- the slots of jobs

not_past : (slots : List Slot) (at : ℕ) → slice_get slots at ≡ None → at < length slots → ⊥
not_past [] at is within = omega (arith, within)
not_past (s ∷ slots) zero is within = cc
not_past (s ∷ slots) (suc at) is within = not_past slots at is (omega (arith, within))

-- the job behind the slot of a place
pub job_behind : (f : FactsContent) (at slot : ℕ) → slot_at f at ≡ Some slot → (job : Job) × (slice_get f.jobs at ≡ Some job) × (job.slot ≡ slot)
job_behind f at slot is = go (slice_get f.jobs at) refl is
  where
    go : (o : Option Job) → slice_get f.jobs at ≡ o → option_map (λ job. job.slot) o ≡ Some slot → (job : Job) × (slice_get f.jobs at ≡ Some job) × (job.slot ≡ slot)
    go None e h = absurd (cc)
    go (Some job) e h = (job, e, cc)

-- a class for which there is an image
class_there : (images : List ImageContent) (at : ℕ) (i : ImageContent) → slice_get images at ≡ Some i → slice_get (classes images) at ≡ Some i.class
class_there images at i is = slice_get-map (λ (x : ImageContent). x.class) images at ∙ ap (option_map (λ (x : ImageContent). x.class)) is

module _ (slots : List Slot) (f : FactsContent) (placed : ArePlaced slots f.states f.content.images f.jobs) (differ : all_distinct (classes f.content.images) ≡ true) where
  -- the image at a job's place has the class of its slot
  class_of : (at : ℕ) (job : Job) → slice_get f.jobs at ≡ Some job → slice_get (classes f.content.images) at ≡ option_map (λ s. s.class) (slice_get slots job.slot)
  class_of at job there =
      slice_get-map (λ (x : ImageContent). x.class) f.content.images at
      ∙ ap (λ (k : ℕ). option_map (λ (x : ImageContent). x.class) (slice_get f.content.images k)) (sym (placed.order at job there))
      ∙ sym (placed.each at job there).class

  -- two jobs with one slot are one
  pub slots_apart : (j k slot : ℕ) → slot_at f j ≡ Some slot → slot_at f k ≡ Some slot → j ≡ k
  slots_apart j k slot here there =
      let first = job_behind f j slot here in
      let second = job_behind f k slot there in
      let one = class_of j first.0 first.1 ∙ ap (λ (n : ℕ). option_map (λ (s : Slot). s.class) (slice_get slots n)) first.2 in
      let other = class_of k second.0 second.1 ∙ ap (λ (n : ℕ). option_map (λ (s : Slot). s.class) (slice_get slots n)) second.2 in
      with_slot (slice_get slots slot) refl one other
    where
      with_slot : (o : Option Slot) → slice_get slots slot ≡ o → slice_get (classes f.content.images) j ≡ option_map (λ s. s.class) (slice_get slots slot)
          → slice_get (classes f.content.images) k ≡ option_map (λ s. s.class) (slice_get slots slot) → j ≡ k
      with_slot None e one other =
          let first = job_behind f j slot here in
          absurd (not_past slots slot e (subst (λ (n : ℕ). n < length slots) first.2 (placed.each j first.0 first.1).slot))
      with_slot (Some s) e one other =
          let is = ap (option_map (λ (t : Slot). t.class)) e in
          one_place (classes f.content.images) differ j k s.class (one ∙ is) (other ∙ is)
