-- The jobs of all images, step by step, and what holds of them.
use Rattle.std.proofs.Common.{◌≡◌, ◌<◌, ◌≤◌, ◌+◌, ℕ, zero, suc, true, false, ◌&&◌, eqb, List, [], ◌∷◌, ◌++◌, length, map, take, drop, Option, Some, None, option_map, option_and_then, slice_get, Result, Ok, Err, refl, sym, ◌∙◌, ap, subst, arith, append_assoc, eqb-true, eq-eqb}
use Rattle.std.specs.Prelude.{Contains, IfOk, Vec}
use Rattle.std.specs.Global.{Global}
use Rattle.std.specs.List.{enumerate_from, range_with_len}
use Rattle.std.specs.Option.{option_map_or}
use Rattle.std.specs.Str.{bytes_eq}
use Rattle.std.proofs.lemmas.Bool.{and_parts, true≢false}
use Rattle.std.proofs.lemmas.List.{length-map, take-append-drop, take_all}
use Rattle.std.proofs.lemmas.List.FromFn.{length-enumerate_from}
use Rattle.std.proofs.lemmas.Option.{slice_get-get_or, slice_get-map, slice_get_within}
use Rattle.std.proofs.lemmas.Slice.Eq.{bytes_eq-Decides}
use Rattle.updater_text.specs.Answers.{Gives}
use Rattle.updater_text.specs.declared.stops.Lack.{Lack}
use Rattle.updater_text.specs.declared.stops.Lack.TheVariants as lack
use Rattle.keyfile.specs.Groups.{Text}
use Rattle.manifest.specs.Contents.{ImageContent}
use Rattle.system_conf.proofs.Rootless.{root_over_root, rooted}
use Rattle.system_conf.specs.Parents.{IsRootOf}
use Rattle.system_conf.specs.Slots.{root_over}
use Rattle.system_conf.specs.Sound.{AreSlotsSound}
use Rattle.system_conf.specs.declared.slot.Slot.{Slot}
use Rattle.slot_graph.specs.Jobs.{ArePlaced, AssignsAll, HasItsClass, IsPlaced, IsUnderTarget, all_or_first, and_more, assigned, in_target_group, is_of_class, job_among, job_of, jobs_of, places_for, refusal_for, unless_refused}
use Rattle.slot_graph.specs.Targets.{IsTarget, targets_of}
use Rattle.slot_graph.specs.declared.job.Job.{Job}
use Rattle.slot_graph.specs.declared.assigning.AssignRefusal.{AssignRefusal}
use Rattle.slot_graph.specs.declared.state.SlotState.{SlotState}
use Rattle.slot_graph.proofs.FreeRoots.{are_targets}
use Rattle.slot_graph.proofs.Listed.{first_in, in_filter, in_range, item_at, of_filter, of_range, one_passes, only_in, passing, take_get}

-- ---- all values, or the first refusal

-- values before others
abbrev before : {A R : Type 0} → List A → Result (List A) R → Result (List A) R
before xs (Ok ys) = Ok (xs ++ ys)
before xs (Err why) = Err why

nothing_before : {A R : Type 0} (r : Result (List A) R) → r ≡ before [] r
nothing_before (Ok xs) = refl
nothing_before (Err why) = refl

one_before : {A R : Type 0} (x : A) (xs : List A) (r : Result (List A) R) → and_more x (before xs r) ≡ before (x ∷ xs) r
one_before x xs (Ok ys) = refl
one_before x xs (Err why) = refl

all_or_first-append : {A R : Type 0} (rs more : List (Result A R)) (ys : List A) → all_or_first rs ≡ Ok ys → all_or_first (rs ++ more) ≡ before ys (all_or_first more)
all_or_first-append {A} {R} [] more ys h = let none : [] ≡ ys = cc in nothing_before (all_or_first more) ∙ ap (λ (xs : List A). before xs (all_or_first more)) none
all_or_first-append {A} {R} (Ok x ∷ rs) more ys h = go (all_or_first rs) refl h (λ xs e. all_or_first-append rs more xs e)
  where
    go : (r : Result (List A) R) → all_or_first rs ≡ r → and_more x r ≡ Ok ys → ((xs : List A) → all_or_first rs ≡ Ok xs → all_or_first (rs ++ more) ≡ before xs (all_or_first more)) → and_more x (all_or_first (rs ++ more)) ≡ before ys (all_or_first more)
    go (Ok xs) e is deep = let all : x ∷ xs ≡ ys = cc in ap (and_more x) (deep xs e) ∙ one_before x xs (all_or_first more) ∙ ap (λ (zs : List A). before zs (all_or_first more)) all
    go (Err why) e is deep = absurd (cc)
all_or_first-append (Err why ∷ rs) more ys h = absurd (cc)

-- a value as an answer
abbrev given : {A R : Type 0} → A → Result A R
given x = Ok x

all_are : {A R : Type 0} (rs : List (Result A R)) (ys : List A) → all_or_first rs ≡ Ok ys → rs ≡ map (given {A = A} {R = R}) ys
all_are {A} {R} [] ys h = let none : [] ≡ ys = cc in ap (map (given {A = A} {R = R})) none
all_are {A} {R} (Ok x ∷ rs) ys h = go (all_or_first rs) refl h (λ xs e. all_are rs xs e)
  where
    go : (r : Result (List A) R) → all_or_first rs ≡ r → and_more x r ≡ Ok ys → ((xs : List A) → all_or_first rs ≡ Ok xs → rs ≡ map (given {A = A} {R = R}) xs) → Ok x ∷ rs ≡ map (given {A = A} {R = R}) ys
    go (Ok xs) e is deep = let all : x ∷ xs ≡ ys = cc in ap (λ (qs : List (Result A R)). Ok x ∷ qs) (deep xs e) ∙ ap (map (given {A = A} {R = R})) all
    go (Err why) e is deep = absurd (cc)
all_are (Err why ∷ rs) ys h = absurd (cc)

-- ---- one step of the loop

-- what each image answers
abbrev pub answers : List Slot → List ℕ → List ImageContent → List (Result Job AssignRefusal)
answers slots targets images = map (λ p. job_of slots targets p.0 p.1) (enumerate_from 0 images)

numbered : {A : Type 0} (n : ℕ) (xs : List A) (at : ℕ) (x : A) → slice_get xs at ≡ Some x → slice_get (enumerate_from n xs) at ≡ Some (n + at, x)
numbered n [] at x h = absurd (cc)
numbered {A} n (y ∷ xs) zero x h = let same : y ≡ x = cc in let here : n ≡ n + 0 = omega arith in λ i. Some (here i, same i)
numbered {A} n (y ∷ xs) (suc at) x h = let on : (n + 1) + at ≡ n + suc at = omega arith in numbered (n + 1) xs at x h ∙ ap (λ (k : ℕ). Some (k, x)) on

answer_at : (slots : List Slot) (targets : List ℕ) (images : List ImageContent) (at : ℕ) (image : ImageContent) → slice_get images at ≡ Some image → slice_get (answers slots targets images) at ≡ Some (job_of slots targets at image)
answer_at slots targets images at image h =
    let here : 0 + at ≡ at = omega arith in
    slice_get-map (λ (p : ℕ × ImageContent). job_of slots targets p.0 p.1) (enumerate_from 0 images) at
    ∙ ap (option_map (λ (p : ℕ × ImageContent). job_of slots targets p.0 p.1)) (numbered 0 images at image h)
    ∙ ap (λ (k : ℕ). Some (job_of slots targets k image)) here

-- one more image has a job
pub job_more : (slots : List Slot) (targets : List ℕ) (images : List ImageContent) (at : ℕ) (image : ImageContent) (jobs : List Job) (job : Job)
    → all_or_first (take at (answers slots targets images)) ≡ Ok jobs → slice_get images at ≡ Some image → job_of slots targets at image ≡ Ok job → all_or_first (take (at + 1) (answers slots targets images)) ≡ Ok (jobs ++ job ∷ [])
job_more slots targets images at image jobs job so_far there is =
    ap all_or_first (take_get (answers slots targets images) at (Ok job) (answer_at slots targets images at image there ∙ ap (λ (r : Result Job AssignRefusal). Some r) is))
    ∙ all_or_first-append (take at (answers slots targets images)) (Ok job ∷ []) jobs so_far

-- one has none
pub job_refused : (slots : List Slot) (targets : List ℕ) (images : List ImageContent) (at : ℕ) (image : ImageContent) (jobs : List Job) (why : AssignRefusal)
    → all_or_first (take at (answers slots targets images)) ≡ Ok jobs → slice_get images at ≡ Some image → job_of slots targets at image ≡ Err why → jobs_of slots targets images ≡ Err why
unfolding jobs_of
job_refused slots targets images at image jobs why so_far there is =
    let rs = answers slots targets images in
    let here = take_get rs at (Err why) (answer_at slots targets images at image there ∙ ap (λ (r : Result Job AssignRefusal). Some r) is) in
    let split : rs ≡ take at rs ++ Err why ∷ drop (at + 1) rs =
    sym (take-append-drop (at + 1) rs) ∙ ap (λ (front : List (Result Job AssignRefusal)). front ++ drop (at + 1) rs) here ∙ append_assoc (take at rs) (Err why ∷ []) (drop (at + 1) rs) in
    ap all_or_first split ∙ all_or_first-append (take at rs) (Err why ∷ drop (at + 1) rs) jobs so_far

-- the same by what the call for one image answers
pub call_refused : (slots : List Slot) (targets : List ℕ) (images : List ImageContent) (at : ℕ) (image : ImageContent) (jobs : List Job) (why : Lack AssignRefusal)
    → all_or_first (take at (answers slots targets images)) ≡ Ok jobs → slice_get images at ≡ Some image → Gives {T = Job} (Err why) (job_of slots targets at image) → AssignsAll (jobs_of slots targets images) (Err why)
call_refused slots targets images at image jobs (lack.Refused why) so_far there h = job_refused slots targets images at image jobs why so_far there h
call_refused slots targets images at image jobs lack.NoMemory so_far there h = tt

-- all have one
pub jobs_all : (slots : List Slot) (targets : List ℕ) (images : List ImageContent) (at : ℕ) (jobs : List Job) → all_or_first (take at (answers slots targets images)) ≡ Ok jobs → length images ≤ at → jobs_of slots targets images ≡ Ok jobs
unfolding jobs_of
jobs_all slots targets images at jobs so_far done =
    let long = length-map (enumerate_from 0 images) (λ (p : ℕ × ImageContent). job_of slots targets p.0 p.1) in
    let same = length-enumerate_from 0 images in
    ap all_or_first (sym (take_all at (answers slots targets images) (omega (arith, long, same, done)))) ∙ so_far

-- ---- what a job is

module _ (slots : List Slot) (targets : List ℕ) where
  pub record IsJob (at : ℕ) (image : ImageContent) (job : Job) : Type 0 where
    pub image_is : job.image ≡ at
    pub places : places_for slots targets image.class ≡ job.slot ∷ []
    pub root_is : job.root ≡ root_over slots job.slot

  among_is : (at : ℕ) (image : ImageContent) (places : List ℕ) (job : Job) → job_among slots at image places ≡ Ok job → (job.image ≡ at) × (places ≡ job.slot ∷ []) × (job.root ≡ root_over slots job.slot)
  among_is at image [] job h = absurd (cc)
  among_is at image (place ∷ []) job h = go (option_and_then (refusal_for at image place) (slice_get slots place)) h
    where
      go : (o : Option AssignRefusal) → unless_refused o (record { image = at; slot = place; root = root_over slots place }) ≡ Ok job → (job.image ≡ at) × (place ∷ [] ≡ job.slot ∷ []) × (job.root ≡ root_over slots job.slot)
      go None h = let same : record { image = at; slot = place; root = root_over slots place } ≡ job = cc in (ap (λ (j : Job). j.image) (sym same), ap (λ (j : Job). j.slot ∷ []) same, ap (λ (j : Job). j.root) (sym same) ∙ ap (λ (j : Job). root_over slots j.slot) same)
      go (Some why) h = absurd (cc)
  among_is at image (place ∷ other ∷ more) job h = absurd (cc)

  job_is : (at : ℕ) (image : ImageContent) (job : Job) → job_of slots targets at image ≡ Ok job → IsJob at image job
  unfolding job_of
  job_is at image job h = let is = among_is at image (places_for slots targets image.class) job h in record { image_is = is.0; places = is.1; root_is = is.2 }

-- ---- a job is placed

of_class : (slots : List Slot) (class : Text) (at : ℕ) → is_of_class slots class at ≡ true → option_map (λ (s : Slot). s.class) (slice_get slots at) ≡ Some class
of_class slots class at h = go (slice_get slots at) h
  where
    go : (o : Option Slot) → option_map_or (λ (s : Slot). bytes_eq s.class class) o false ≡ true → option_map (λ (s : Slot). s.class) o ≡ Some class
    go (Some x) h = ap (λ (t : Text). Some t) ((bytes_eq-Decides x.class class).0 h)
    go None h = absurd (true≢false (sym h))

is_of : (slots : List Slot) (class : Text) (at : ℕ) → option_map (λ (s : Slot). s.class) (slice_get slots at) ≡ Some class → (is_of_class slots class at ≡ true) × (at < length slots)
is_of slots class at h =
    let x = item_at (λ (s : Slot). s.class) (slice_get slots at) class h in
    (ap (λ (o : Option Slot). option_map_or (λ (s : Slot). bytes_eq s.class class) o false) x.1 ∙ (bytes_eq-Decides x.0.class class).1 x.2, slice_get_within slots at x.0 x.1)

no_item : (xs : List ImageContent) (at : ℕ) → slice_get xs at ≡ None → at < length xs → ⊥
no_item [] at e less = omega (arith, less)
no_item (x ∷ xs) at e less = let there = slice_get-get_or (x ∷ xs) at x less in cc

module _ (slots : List Slot) (states : List SlotState) (sound : AreSlotsSound slots) (images : List ImageContent) where
  abbrev targets : List ℕ
  targets = targets_of slots states

  module _ (at : ℕ) (image : ImageContent) (there : slice_get images at ≡ Some image) (job : Job) (is : IsJob slots targets at image job) where
    image_class : option_map (λ (i : ImageContent). i.class) (slice_get images job.image) ≡ Some image.class
    image_class = (λ i. option_map (λ (c : ImageContent). c.class) (slice_get images (is.image_is i))) ∙ ap (option_map (λ (c : ImageContent). c.class)) there

    among : Contains (range_with_len 0 (length slots)) job.slot × ((is_of_class slots image.class job.slot && in_target_group slots targets job.slot) ≡ true)
    unfolding places_for
    among =
        of_filter (λ place. is_of_class slots image.class place && in_target_group slots targets place) (range_with_len 0 (length slots)) job.slot
        (subst (λ (places : List ℕ). Contains places job.slot) (sym is.places) (first_in job.slot []))

    within : job.slot < length slots
    within = of_range (length slots) job.slot among.0

    parts : (is_of_class slots image.class job.slot ≡ true) × (in_target_group slots targets job.slot ≡ true)
    parts = and_parts (is_of_class slots image.class job.slot) (in_target_group slots targets job.slot) among.1

    root_target : (class : Text) × IsTarget slots states class job.root
    root_target =
        let found = passing (λ target. eqb target (root_over slots job.slot)) targets parts.1 in
        let same : found.0 ≡ job.root = eqb-true found.0 (root_over slots job.slot) found.2 ∙ sym is.root_is in
        ((are_targets slots states sound).all job.root).0 (subst (Contains targets) same found.1)

    is_under : IsUnderTarget slots states job.slot job.root
    is_under = record { under = subst (IsRootOf slots job.slot) (sym is.root_is) (root_over_root slots job.slot sound within); target = root_target }

    only : (other root : ℕ) → HasItsClass slots images job.image other → IsUnderTarget slots states other root → other ≡ job.slot
    unfolding places_for
    only other root class under =
        let of = is_of slots image.class other (class ∙ image_class) in
        let one = rooted slots sound other of.1 in
        let same : root ≡ root_over slots other = one.2 root under.under ∙ sym (one.2 (root_over slots other) (root_over_root slots other sound of.1)) in
        let in_group = one_passes (λ target. eqb target (root_over slots other)) targets root (((are_targets slots states sound).all root).1 under.target) (eq-eqb root (root_over slots other) same) in
        only_in job.slot other
        (subst (λ (places : List ℕ). Contains places other) is.places
        (in_filter (λ place. is_of_class slots image.class place && in_target_group slots targets place) (range_with_len 0 (length slots)) other (in_range (length slots) other of.1) (λ i. of.0 i && in_group i)))

    placed : IsPlaced slots states images job
    placed = record {
      image = subst (λ (k : ℕ). k < length images) (sym is.image_is) (slice_get_within images at image there);
      slot = within;
      root = is.root_is;
      class = of_class slots image.class job.slot parts.0 ∙ sym image_class;
      under = is_under;
      only = only;
    }

  are_placed : (jobs : List Job) → assigned slots states images ≡ Ok jobs → ArePlaced slots states images jobs
  unfolding jobs_of
  are_placed jobs h = record {
    count = sym (length-map jobs (given {A = Job} {R = AssignRefusal})) ∙ ap length (sym all) ∙ long;
    order = λ at job found. (at_place at job found).1.image_is;
    each = λ at job found. let p = at_place at job found in placed at p.0.0 p.0.1 job p.1;
  }
    where
      all : answers slots targets images ≡ map (given {A = Job} {R = AssignRefusal}) jobs
      all = all_are (answers slots targets images) jobs h

      long : length (answers slots targets images) ≡ length images
      long = length-map (enumerate_from 0 images) (λ (p : ℕ × ImageContent). job_of slots targets p.0 p.1) ∙ length-enumerate_from 0 images

      at_place : (at : ℕ) (job : Job) → slice_get jobs at ≡ Some job → (p : (image : ImageContent) × (slice_get images at ≡ Some image)) × IsJob slots targets at p.0 job
      at_place at job found =
          let answer : slice_get (answers slots targets images) at ≡ Some (Ok job) =
          (λ i. slice_get (all i) at) ∙ slice_get-map (given {A = Job} {R = AssignRefusal}) jobs at ∙ ap (option_map (given {A = Job} {R = AssignRefusal})) found in
          let less : at < length images = subst (λ (n : ℕ). at < n) long (slice_get_within (answers slots targets images) at (Ok job) answer) in
          go (slice_get images at) refl answer less
        where
          go : (o : Option ImageContent) → slice_get images at ≡ o → slice_get (answers slots targets images) at ≡ Some (Ok job) → at < length images → (p : (image : ImageContent) × (slice_get images at ≡ Some image)) × IsJob slots targets at p.0 job
          go (Some image) e answer less =
              let through : Some (job_of slots targets at image) ≡ Some (Ok job) = sym (answer_at slots targets images at image e) ∙ answer in
              let is : job_of slots targets at image ≡ Ok job = cc in
              ((image, e), job_is slots targets at image job is)
          go None e answer less = absurd (no_item images at e less)

  pub placed_if : (r : Result (Vec Job Global) (Lack AssignRefusal)) → AssignsAll (assigned slots states images) r → IfOk r (λ jobs. ArePlaced slots states images jobs.items)
  placed_if (Ok jobs) h = are_placed jobs.items h
  placed_if (Err why) h = tt
