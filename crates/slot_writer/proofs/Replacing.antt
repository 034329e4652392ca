-- The status file is replaced, unless the image is that file and its new text is shorter.
use Rattle.std.proofs.Common.{◌≡◌, ◌≢◌, ◌⊎◌, inl, inr, ⊎_elim, ◌<◌, ◌≤◌, ℕ, Bool, true, false, cond, nat_lt, lt-ltb, ltb-true, List, [], length, Option, Some, None, Result, Ok, Err, IsTrue, refl, sym, ◌∙◌, ap, subst, arith}
use Rattle.std.specs.Prelude.{OnOk, bytes_eq, not, unwrap_or}
use Rattle.std.specs.Option.{option_map}
use Rattle.std.proofs.lemmas.Bool.{true≢false}
use Rattle.keyfile.proofs.Distinct.{equal_text, same_text}
use Rattle.machine.specs.declared.stops.Stop.{Stop}
use Rattle.machine.specs.declared.stops.Stop.TheVariants.{Refused, Outside, NoMemory}
use Rattle.machine.specs.declared.world.World.{World}
use Rattle.machine.specs.Frames.{ReplacesOnly, Unchanged}
use Rattle.machine.specs.Past.{Always, Fails, Past, world_now}
use Rattle.machine.specs.Stops.{Settles, stop_fault}
use Rattle.machine.specs.World.{disk, disk_length, file, readable, with_file}
use Rattle.machine.proofs.Failing.{fails_join, fails_none}
use Rattle.machine.proofs.Joins.{now_unchanged, unchanged_none}
use Rattle.machine.proofs.Moments.{always_joins, always_start, always_weaker}
use Rattle.machine.proofs.Only.{bytes_of}
use Rattle.machine.proofs.Sparing.{file-replaced, file-replaced_other}
use Rattle.machine.proofs.Worlds.{by_path}
use Rattle.raw_writer.specs.declared.check.PutRefusal.TheVariants.{ImageSize}
use Rattle.raw_writer.specs.Putting.{HasLength}
use Rattle.slot_writer.specs.declared.refusal.SlotRefusal.{SlotRefusal}
use Rattle.slot_writer.specs.declared.refusal.SlotRefusal.TheVariants.{Image}
use Rattle.slot_writer.specs.Checks.{SlotCheck, pass_unless}
use Rattle.slot_writer.specs.Noting.{NoneRefused, StepKept, Steps, cut_refusal, image_refusal}

-- ---- two paths, by their test

pub differ_if : (x y : List ℕ) (b : Bool) → b ≡ not (bytes_eq x y) → b ≡ true → x ≢ y
differ_if x y b is true_ same = true≢false (sym true_ ∙ is ∙ ap not (equal_text x y same))

pub same_unless : (x y : List ℕ) (b : Bool) → b ≡ not (bytes_eq x y) → b ≡ false → x ≡ y
same_unless x y b is false_ = go (bytes_eq x y) refl (sym is ∙ false_)
  where
    go : (c : Bool) → bytes_eq x y ≡ c → not c ≡ false → x ≡ y
    go true same h = same_text x y same
    go false same h = absurd (true≢false h)

-- ---- what is found of an image once a file was replaced

found_other : (w : World) (path text image : List ℕ) → image ≢ path → readable (with_file w path text) image ≡ readable w image
unfolding with_file readable
found_other w path text image ne =
    ap (λ (o : Option (List ℕ)). unwrap_or (disk w image) (unwrap_or o [])) (file-replaced_other w path image text ne)

-- a disk under the path is found before the file
found_disk : (w : World) (path text image bytes : List ℕ) → disk w image ≡ Some bytes → readable (with_file w path text) image ≡ readable w image
unfolding with_file readable
found_disk w path text image bytes is =
    ap (λ (o : Option (List ℕ)). unwrap_or o (unwrap_or (file (with_file w path text) image) [])) is
    ∙ sym (ap (λ (o : Option (List ℕ)). unwrap_or o (unwrap_or (file w image) [])) is)

found_file : (w : World) (path text : List ℕ) → disk w path ≡ None → readable (with_file w path text) path ≡ text
unfolding with_file readable
found_file w path text none =
    ap (λ (o : Option (List ℕ)). unwrap_or o (unwrap_or (file (with_file w path text) path) [])) none
    ∙ ap (λ (o : Option (List ℕ)). unwrap_or o []) (file-replaced w path text)

-- the image is another file, or the new text is as long: then it does not end early
module _ (w : World) (path text image : List ℕ) (size : ℕ) (long : length (readable w image) ≡ size) where
  long_other : image ≢ path → size ≤ length (readable (with_file w path text) image)
  long_other ne = omega (arith, ap length (found_other w path text image ne), long)

  long_disk : (bytes : List ℕ) → disk w image ≡ Some bytes → size ≤ length (readable (with_file w path text) image)
  long_disk bytes is = omega (arith, ap length (found_disk w path text image bytes is), long)

  long_file : size ≤ length text → (o : Option (List ℕ)) → disk w image ≡ o → image ≡ path → size ≤ length (readable (with_file w path text) image)
  long_file le (Some bytes) is same = long_disk bytes is
  long_file le None is same =
      subst (λ (p : List ℕ). size ≤ length (readable (with_file w path text) p)) (sym same)
      (omega (arith, ap length (found_file w path text (subst (λ (p : List ℕ). disk w p ≡ None) same is)), le))

  long_enough : (image ≢ path) ⊎ (size ≤ length text) → size ≤ length (readable (with_file w path text) image)
  long_enough (inl ne) = long_other ne
  long_enough (inr le) = ⊎_elim (λ same. long_file le (disk w image) refl same) long_other (by_path image path)

uncut : (size found : ℕ) → size ≤ found → cut_refusal size found ≡ None
uncut size found le = go (nat_lt found size) refl
  where
    go : (b : Bool) → nat_lt found size ≡ b → cond b (Some (Image (ImageSize size found))) None ≡ None
    go true is = absurd (omega (arith, ltb-true found size is, le))
    go false is = refl

cut : (size found : ℕ) → found < size → cut_refusal size found ≡ Some (Image (ImageSize size found))
cut size found lt = ap (λ (b : Bool). cond b (Some (Image (ImageSize size found))) None) (lt-ltb found size lt)

-- ---- the check of the image

no_disk : (o : Option (List ℕ)) → option_map length o ≡ None → o ≡ None
no_disk None e = refl
no_disk (Some bytes) e = absurd (cc)

module _ (t : Bool) (a : Past) (path text image : List ℕ) (size : ℕ) (has : HasLength t a image size) where
  abbrev refusal : Option SlotRefusal
  refusal = image_refusal image size (with_file (world_now a) path text)

  passes : (b : Past) → Unchanged t a b → Fails t a b None → (IsTrue t → size ≤ length (readable (with_file (world_now a) path text) image)) → SlotCheck t refusal a b (Ok tt)
  passes b unchanged fine le = record {
    unchanged = unchanged;
    answers = λ told. ap pass_unless (uncut size (length (readable (with_file (world_now a) path text) image)) (le told));
    fails = fine;
  }

  pub checks_apart : (image ≢ path) ⊎ (size ≤ length text) → SlotCheck t refusal a a (Ok tt)
  checks_apart apart = passes a (unchanged_none t a) (fails_none t a) (λ told. long_enough (world_now a) path text image size (has.is told) apart)

  pub checks_disk : (b : Past) (n : ℕ) → Unchanged t a b → Fails t a b None → (IsTrue t → Some n ≡ disk_length (world_now a) image) → SlotCheck t refusal a b (Ok tt)
  checks_disk b n unchanged fine is =
      passes b unchanged fine (λ told. let there = bytes_of (disk (world_now a) image) n (sym (is told)) in long_disk (world_now a) path text image size (has.is told) there.0 there.1)

  pub checks_cut : (b : Past) → Unchanged t a b → Fails t a b None → image ≡ path → length text < size → (IsTrue t → None ≡ disk_length (world_now a) image) → SlotCheck t refusal a b (Err (Refused (Image (ImageSize size (length text)))))
  checks_cut b unchanged fine same fewer is = record {
    unchanged = unchanged;
    answers = λ told.
        let none = subst (λ (p : List ℕ). disk (world_now a) p ≡ None) same (no_disk (disk (world_now a) image) (sym (is told))) in
        let found = ap (λ (p : List ℕ). readable (with_file (world_now a) path text) p) same ∙ found_file (world_now a) path text none in
        ap (λ (bytes : List ℕ). pass_unless (cut_refusal size (length bytes))) found ∙ ap pass_unless (cut size (length text) fewer);
    fails = fine;
  }

-- ---- the replacement

same_kept : (refusal : Option SlotRefusal) (next w u : World) → u ≡ w → StepKept refusal next w u
same_kept None next w u e = inl e
same_kept (Some why) next w u e = e

pub steps_refused : (t : Bool) (refusal : Option SlotRefusal) (next : World) (a b : Past) (stop : Stop SlotRefusal) → SlotCheck t refusal a b (Err stop) → Steps t refusal next a b (Err stop)
steps_refused t refusal next a b stop check = record {
  kept = λ told. always_weaker a b (λ u. u ≡ world_now a) (StepKept refusal next (world_now a)) (λ u e. same_kept refusal next (world_now a) u e) (check.unchanged.all told);
  answers = check.answers;
  left = λ told. tt;
  fails = check.fails;
}

pub steps_none : (t : Bool) (image : List ℕ) (size : ℕ) (a : Past) → HasLength t a image size → Steps t (image_refusal image size (world_now a)) (world_now a) a a (Ok tt)
steps_none t image size a has = record {
  kept = λ told. always_start a (StepKept (image_refusal image size (world_now a)) (world_now a) (world_now a)) (same_kept (image_refusal image size (world_now a)) (world_now a) (world_now a) (world_now a) refl);
  answers = λ told. ap pass_unless (uncut size (length (readable (world_now a) image)) (omega (arith, has.is told)));
  left = λ told. refl;
  fails = fails_none t a;
}

pub passed_none : (refusal : Option SlotRefusal) (u : Unit {0}) → pass_unless refusal ≡ Ok u → refusal ≡ None
passed_none None u e = refl
passed_none (Some why) u e = absurd (cc)

pub steps_put : (t : Bool) (refusal : Option SlotRefusal) (path text : List ℕ) (a b c : Past) (u : Unit {0}) (result : Result (Unit {0}) (Stop SlotRefusal)) → SlotCheck t refusal a b (Ok u) → ReplacesOnly t path text b c → (IsTrue t → OnOk result (world_now c ≡ with_file (world_now b) path text)) → NoneRefused result → Fails t b c (stop_fault result) → Steps t refusal (with_file (world_now a) path text) a c result
steps_put t refusal path text a b c u result check only put none fails = record {
  kept = λ told.
      subst (λ (o : Option SlotRefusal). Always a c (StepKept o next (world_now a))) (sym (passed told))
      (always_joins a b c (StepKept None next (world_now a))
      (always_weaker a b (λ x. x ≡ world_now a) (StepKept None next (world_now a)) (λ x e. inl e) (check.unchanged.all told))
      (subst (λ (w : World). Always b c (λ x. (x ≡ w) ⊎ (x ≡ with_file w path text))) (stood told) (only.all told)));
  answers = λ told. answered result none (passed told);
  left = λ told. subst (λ (w : World). OnOk result (world_now c ≡ with_file w path text)) (stood told) (put told);
  fails = fails_join t a b c (stop_fault result) check.fails fails;
}
  where
    next : World
    next = with_file (world_now a) path text

    stood : IsTrue t → world_now b ≡ world_now a
    stood told = now_unchanged t a b check.unchanged told

    passed : IsTrue t → refusal ≡ None
    passed told = passed_none refusal u (check.answers told)

    answered : (result : Result (Unit {0}) (Stop SlotRefusal)) → NoneRefused result → refusal ≡ None → Settles result (pass_unless refusal)
    answered (Ok x) none e = ap pass_unless e
    answered (Err (Refused why)) none e = absurd none
    answered (Err (Outside kind)) none e = tt
    answered (Err NoMemory) none e = tt
