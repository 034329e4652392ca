-- Lists that grow by one piece at a time, and what is known of a job.
use Rattle.std.proofs.Common.{◌≡◌, ◌<◌, ◌+◌, ◌||◌, ℕ, Bool, true, false, not, IsTrue, IsSome, List, [], ◌∷◌, ◌++◌, length, slice_get, zero, suc, Option, Some, None, is_some, option_map, refl, sym, ◌∙◌, ap, subst, arith}
use Rattle.std.specs.List.{flat_map, list_any, range_with_len}
use Rattle.std.proofs.lemmas.Bool.{false≢true, or_left, or_right}
use Rattle.std.proofs.lemmas.List.{append_assoc, flat_map_more, map-id}
use Rattle.std.proofs.lemmas.List.FromFn.{map-range_with_len_more}
use Rattle.std.proofs.lemmas.Option.{none-some, option_and_then_some, same_Some, slice_get-map, slice_get_within}
use Rattle.keyfile.specs.Groups.{Text}
use Rattle.manifest.specs.Contents.{ImageContent}
use Rattle.manifest.specs.Hooked.{has_hook_file, is_hooked}
use Rattle.manifest.specs.Reads.{image_content}
use Rattle.system_conf.specs.Configuration.{Configuration}
use Rattle.install_facts.specs.Facts.{FactsContent, facts_content}
use Rattle.install_facts.specs.declared.facts.Facts.{Facts}
use Rattle.install_plan.specs.Acts.{Work, steps_in, work_at}
use Rattle.install_plan.specs.Works.{HasHookFile, work_content}
use Rattle.install_plan.specs.declared.step.Act.{Act}
use Rattle.install_plan.specs.declared.step.Act.TheVariants.{Do, Tell}
use Rattle.install_plan.specs.declared.step.Step.{Step}
use Rattle.install_plan.specs.declared.works.Work as code

-- ---- pieces

-- a piece, and then the rest
pub onto : {A : Type 0} (start piece rest : List A) {x y : List A} → x ≡ start ++ piece → y ≡ x ++ rest → y ≡ start ++ (piece ++ rest)
onto start piece rest p q = q ∙ ap (λ xs. xs ++ rest) p ∙ append_assoc start piece rest

-- seven pieces, one after the other
pub seven : {A : Type 0} (start a b c d e f g : List A) {t u v w x y z : List A} → t ≡ start ++ a → u ≡ t ++ b → v ≡ u ++ c → w ≡ v ++ d → x ≡ w ++ e → y ≡ x ++ f → z ≡ y ++ g → z ≡ start ++ (a ++ (b ++ (c ++ (d ++ (e ++ (f ++ g))))))
seven start a b c d e f g {t} {u} {v} {w} {x} {y} {z} p q r s i j k =
    onto start a (b ++ (c ++ (d ++ (e ++ (f ++ g))))) p
    (onto t b (c ++ (d ++ (e ++ (f ++ g)))) q
    (onto u c (d ++ (e ++ (f ++ g))) r
    (onto v d (e ++ (f ++ g)) s
    (onto w e (f ++ g) i
    (onto x f g j k)))))

-- ---- places

range_more : (n : ℕ) → range_with_len 0 (n + 1) ≡ range_with_len 0 n ++ n ∷ []
range_more n =
    sym (map-id (range_with_len 0 (n + 1)))
    ∙ map-range_with_len_more (λ (at : ℕ). at) 0 n n (omega arith)
    ∙ ap (λ (xs : List ℕ). xs ++ n ∷ []) (map-id (range_with_len 0 n))

-- the piece of one more place
pub places_more : {A : Type 0} (f : ℕ → List A) (start : List A) (n : ℕ) → (start ++ flat_map f (range_with_len 0 n)) ++ f n ≡ start ++ flat_map f (range_with_len 0 (n + 1))
places_more f start n =
    flat_map_more f start (range_with_len 0 n) n
    ∙ ap (λ (xs : List ℕ). start ++ flat_map f xs) (sym (range_more n))

-- ---- steps

pub steps_more : (xs ys : List Act) → steps_in (xs ++ ys) ≡ steps_in xs ++ steps_in ys
steps_more [] ys = refl
steps_more (Do s ∷ xs) ys = ap (λ (ss : List Step). s ∷ ss) (steps_more xs ys)
steps_more (Tell n ∷ xs) ys = steps_more xs ys

-- ---- jobs

mapped : {A B P : Type 0} (g : A → B) (o : Option A) (y : B) → option_map g o ≡ Some y → ((x : A) → o ≡ Some x → g x ≡ y → P) → P
mapped g None y h k = absurd (none-some y h)
mapped g (Some x) y h k = k x refl (same_Some (g x) y h)

-- where it stands
pub record WorkStands (f : FactsContent) (place : ℕ) (x : Work) : Type 0 where
  pub here : x.at ≡ place
  pub within : x.at < length f.jobs
  pub image : slice_get f.content.images x.job.image ≡ Some x.image

pub work_stands : (c : Configuration) (f : FactsContent) (at : ℕ) (x : Work) → work_at c f at ≡ Some x → WorkStands f at x
work_stands c f at x h =
    option_and_then_some _ (slice_get f.jobs at) x h (λ job there h.
    option_and_then_some _ (slice_get f.content.images job.image) x h (λ image has h.
    mapped _ (slice_get c.slots job.slot) x h (λ slot stands e.
    subst (WorkStands f at) e (record { here = refl; within = slice_get_within f.jobs at job there; image = has }))))

-- ---- hooks

any_at : {A : Type 0} (p : A → Bool) (xs : List A) (k : ℕ) (x : A) → slice_get xs k ≡ Some x → p x ≡ true → list_any p xs ≡ true
any_at p [] k x there holds = absurd (none-some x there)
any_at p (y ∷ ys) zero x there holds = or_left (p y) (list_any p ys) (ap p (same_Some y x there) ∙ holds)
any_at p (y ∷ ys) (suc k) x there holds = or_right (p y) (list_any p ys) (any_at p ys k x there holds)

has_file : (file : Option Text) (check any : Bool) → IsTrue (is_some file || not (check || any)) → any ≡ true → IsSome file
has_file (Some name) check any h e = refl
has_file None true any h e = absurd (false≢true h)
has_file None false true h e = absurd (false≢true h)
has_file None false false h e = absurd (false≢true e)

-- an image that names a hook has their file
pub hook_file_there : (c : Configuration) (f : Facts) (at : ℕ) (x : code.Work) → IsTrue (has_hook_file f.manifest.hook_file f.manifest.install_check f.manifest.images) → work_at c (facts_content f) at ≡ Some (work_content x) → HasHookFile f x
hook_file_there c f at x sound h hooked =
    let images = f.manifest.images in
    let stands = work_stands c (facts_content f) at (work_content x) h in
    mapped image_content (slice_get images x.job.image) (image_content x.image.now) (sym (slice_get-map image_content images x.job.image) ∙ stands.image) (λ image there same.
    has_file f.manifest.hook_file f.manifest.install_check (list_any is_hooked images) sound
    (any_at is_hooked images x.job.image image there (ap (λ (i : ImageContent). i.pre || (i.install || i.post)) same ∙ hooked)))

pub hooked_pre : (f : Facts) (x : code.Work) → HasHookFile f x → IsTrue x.image.now.pre → IsSome f.manifest.hook_file
hooked_pre f x h is = h (or_left x.image.now.pre (x.image.now.install || x.image.now.post) is)

pub hooked_install : (f : Facts) (x : code.Work) → HasHookFile f x → IsTrue x.image.now.install → IsSome f.manifest.hook_file
hooked_install f x h is = h (or_right x.image.now.pre (x.image.now.install || x.image.now.post) (or_left x.image.now.install x.image.now.post is))

pub hooked_post : (f : Facts) (x : code.Work) → HasHookFile f x → IsTrue x.image.now.post → IsSome f.manifest.hook_file
hooked_post f x h is = h (or_right x.image.now.pre (x.image.now.install || x.image.now.post) (or_right x.image.now.install x.image.now.post is))
