-- What the marks do, for each kind of boot loader: what they leave of the name, and what they keep of the others.
use Rattle.std.proofs.Common.{◌≡◌, ◌≢◌, ℕ, true, false, not, List, Some, refl, ◌∙◌, ap, subst}
use Rattle.std.specs.List.{list_all}
use Rattle.std.proofs.lemmas.Bool.{true≢false}
use Rattle.std.proofs.lemmas.Option.{same_Some}
use Rattle.boot_model.specs.Vars.{Variables}
use Rattle.boot_model.specs.declared.boot_kind.BootKind.{BootKind}
use Rattle.boot_model.specs.declared.boot_kind.BootKind.TheVariants as boot
use Rattle.boot_state.specs.Barebox as barebox
use Rattle.boot_state.specs.Custom as custom
use Rattle.boot_state.specs.Grub as grub
use Rattle.boot_state.specs.Orders.{has_word, is_word}
use Rattle.boot_state.specs.States.{KeepsName, gives_attempts, good, is_down, made_primary, marked_bad, marked_good, primary, uses_next}
use Rattle.boot_state.specs.Uboot as uboot
use Rattle.boot_state.proofs.BareboxMarks as barebox_marks
use Rattle.boot_state.proofs.CustomMarks as custom_marks
use Rattle.boot_state.proofs.EfiMarks as efi_marks
use Rattle.boot_state.proofs.GrubMarks as grub_marks
use Rattle.boot_state.proofs.UbootMarks as uboot_marks
use Rattle.boot_state.proofs.Words.{word_uncut, words_uncut}

-- a name that was marked bad is down
pub bad_down : (kind : BootKind) (names : List (List ℕ)) (name : List ℕ) (vars after : Variables) → marked_bad kind names name vars ≡ Some after → is_down kind after name ≡ true
bad_down (boot.Grub file) names name vars after h = subst (λ (w : Variables). grub.is_down w name ≡ true) (same_Some _ after h) (grub_marks.bad_down name vars)
bad_down (boot.Uboot attempts primary_attempts) names name vars after h = subst (λ (w : Variables). uboot.is_down w name ≡ true) (same_Some _ after h) (uboot_marks.bad_down name vars)
bad_down (boot.Barebox state attempts primary_attempts) names name vars after h = subst (λ (w : Variables). barebox.is_down w name ≡ true) (same_Some _ after h) (barebox_marks.bad_down name vars)
bad_down (boot.Efi use_next) names name vars after h = efi_marks.bad_down name vars after h
bad_down (boot.Custom program) names name vars after h = subst (λ (w : Variables). custom.is_down w name ≡ true) (same_Some _ after h) (custom_marks.bad_down name vars)
bad_down boot.Noop names name vars after h = refl

-- a name that is down is not primary
pub down_not_primary : (kind : BootKind) (vars : Variables) (names : List (List ℕ)) (name : List ℕ) → is_down kind vars name ≡ true → primary kind vars names ≢ Some name
down_not_primary (boot.Grub file) vars names name down = grub_marks.not_primary vars names name down
down_not_primary (boot.Uboot attempts primary_attempts) vars names name down = uboot_marks.not_primary vars names name down
down_not_primary (boot.Barebox state attempts primary_attempts) vars names name down = barebox_marks.not_primary vars names name down
down_not_primary (boot.Efi use_next) vars names name down = efi_marks.not_primary vars names name down
down_not_primary (boot.Custom program) vars names name down = custom_marks.not_primary vars names name down
down_not_primary boot.Noop vars names name down = λ is. absurd (cc)

-- ---- a mark of another name

same_keeps : (kind : BootKind) (names : List (List ℕ)) (name : List ℕ) (v w : Variables) → is_down kind w name ≡ is_down kind v name → good kind w names name ≡ good kind v names name → KeepsName kind names name v w
same_keeps kind names name v w down good = record {
  stays_down = λ h. down ∙ h;
  stays_good = λ h. good ∙ h;
}

parts_keep : (kind : BootKind) (names : List (List ℕ)) (name : List ℕ) (v w : Variables) → (is_down kind v name ≡ true → is_down kind w name ≡ true) × (good kind v names name ≡ true → good kind w names name ≡ true) → KeepsName kind names name v w
parts_keep kind names name v w parts = record {
  stays_down = parts.0;
  stays_good = parts.1;
}

module _ (names : List (List ℕ)) (name other : List ℕ) (vars after : Variables) (ne : other ≢ name) where
  pub bad_keeps : (kind : BootKind) → marked_bad kind names name vars ≡ Some after → KeepsName kind names other vars after
  bad_keeps (boot.Grub file) h =
      let same = grub_marks.mark_keeps _ name other vars ne in
      subst (λ (w : Variables). KeepsName (boot.Grub file) names other vars w) (same_Some _ after h) (same_keeps (boot.Grub file) names other vars (grub.marked_bad name vars) (ap not same) same)
  bad_keeps (boot.Uboot attempts primary_attempts) h =
      subst (λ (w : Variables). KeepsName (boot.Uboot attempts primary_attempts) names other vars w) (same_Some _ after h)
      (parts_keep (boot.Uboot attempts primary_attempts) names other vars (uboot.marked_bad name vars) (uboot_marks.bad_keeps name other vars ne))
  bad_keeps (boot.Barebox state attempts primary_attempts) h =
      subst (λ (w : Variables). KeepsName (boot.Barebox state attempts primary_attempts) names other vars w) (same_Some _ after h)
      (parts_keep (boot.Barebox state attempts primary_attempts) names other vars (barebox.marked_bad name vars) (barebox_marks.bad_keeps name other vars ne))
  bad_keeps (boot.Efi use_next) h = parts_keep (boot.Efi use_next) names other vars after (efi_marks.bad_keeps name other vars after ne h)
  bad_keeps (boot.Custom program) h =
      let same = custom_marks.state_keeps _ name other vars ne in
      subst (λ (w : Variables). KeepsName (boot.Custom program) names other vars w) (same_Some _ after h) (same_keeps (boot.Custom program) names other vars (custom.marked_bad name vars) same (ap not same))
  bad_keeps boot.Noop h = same_keeps boot.Noop names other vars after refl refl

  pub good_keeps : (kind : BootKind) → is_word name ≡ true → marked_good kind names name vars ≡ Some after → KeepsName kind names other vars after
  good_keeps (boot.Grub file) is h =
      let same = grub_marks.mark_keeps _ name other vars ne in
      subst (λ (w : Variables). KeepsName (boot.Grub file) names other vars w) (same_Some _ after h) (same_keeps (boot.Grub file) names other vars (grub.marked_good name vars) (ap not same) same)
  good_keeps (boot.Uboot attempts primary_attempts) is h =
      subst (λ (w : Variables). KeepsName (boot.Uboot attempts primary_attempts) names other vars w) (same_Some _ after h)
      (parts_keep (boot.Uboot attempts primary_attempts) names other vars (uboot.marked_good attempts name vars) (uboot_marks.good_keeps attempts name other vars ne (word_uncut name is)))
  good_keeps (boot.Barebox state attempts primary_attempts) is h =
      subst (λ (w : Variables). KeepsName (boot.Barebox state attempts primary_attempts) names other vars w) (same_Some _ after h)
      (parts_keep (boot.Barebox state attempts primary_attempts) names other vars (barebox.marked_good attempts name vars) (barebox_marks.good_keeps attempts name other vars ne))
  good_keeps (boot.Efi use_next) is h = parts_keep (boot.Efi use_next) names other vars after (efi_marks.good_keeps name other vars after ne h)
  good_keeps (boot.Custom program) is h =
      let same = custom_marks.state_keeps _ name other vars ne in
      subst (λ (w : Variables). KeepsName (boot.Custom program) names other vars w) (same_Some _ after h) (same_keeps (boot.Custom program) names other vars (custom.marked_good name vars) same (ap not same))
  good_keeps boot.Noop is h = same_keeps boot.Noop names other vars after refl refl

  pub primary_keeps : (kind : BootKind) → is_word name ≡ true → list_all is_word names ≡ true → made_primary kind names name vars ≡ Some after → KeepsName kind names other vars after
  primary_keeps (boot.Grub file) is are h =
      let same = grub_marks.primary_keeps names name other vars ne in
      subst (λ (w : Variables). KeepsName (boot.Grub file) names other vars w) (same_Some _ after h) (same_keeps (boot.Grub file) names other vars (grub.made_primary names name vars) (ap not same) same)
  primary_keeps (boot.Uboot attempts primary_attempts) is are h =
      subst (λ (w : Variables). KeepsName (boot.Uboot attempts primary_attempts) names other vars w) (same_Some _ after h)
      (parts_keep (boot.Uboot attempts primary_attempts) names other vars (uboot.made_primary primary_attempts names name vars) (uboot_marks.primary_keeps primary_attempts names name other vars ne (word_uncut name is) (words_uncut names are)))
  primary_keeps (boot.Barebox state attempts primary_attempts) is are h =
      subst (λ (w : Variables). KeepsName (boot.Barebox state attempts primary_attempts) names other vars w) (same_Some _ after h)
      (parts_keep (boot.Barebox state attempts primary_attempts) names other vars (barebox.made_primary primary_attempts names name vars) (barebox_marks.primary_keeps primary_attempts names name other vars ne))
  primary_keeps (boot.Efi use_next) is are h = parts_keep (boot.Efi use_next) names other vars after (efi_marks.primary_keeps use_next name other vars after ne h)
  primary_keeps (boot.Custom program) is are h =
      let same = custom_marks.primary_keeps name other vars ne in
      subst (λ (w : Variables). KeepsName (boot.Custom program) names other vars w) (same_Some _ after h) (same_keeps (boot.Custom program) names other vars (custom.made_primary name vars) same (ap not same))
  primary_keeps boot.Noop is are h = same_keeps boot.Noop names other vars after refl refl

-- a name that was made primary is good; where EFI's next boot alone is told, the order stays as it is, and so does this
pub primary_good : (kind : BootKind) (names : List (List ℕ)) (name : List ℕ) (vars after : Variables) → gives_attempts kind ≡ true → uses_next kind ≡ false → is_word name ≡ true → list_all is_word names ≡ true → has_word names name ≡ true → made_primary kind names name vars ≡ Some after → good kind after names name ≡ true
primary_good (boot.Grub file) names name vars after few no_next is are has h = subst (λ (w : Variables). grub.is_good w name ≡ true) (same_Some _ after h) (grub_marks.primary_good names name vars)
primary_good (boot.Uboot attempts primary_attempts) names name vars after few no_next is are has h =
    subst (λ (w : Variables). uboot.is_good w name ≡ true) (same_Some _ after h) (uboot_marks.primary_good primary_attempts names name vars few (word_uncut name is) (words_uncut names are))
primary_good (boot.Barebox state attempts primary_attempts) names name vars after few no_next is are has h =
    subst (λ (w : Variables). barebox.is_good w name ≡ true) (same_Some _ after h) (barebox_marks.primary_good primary_attempts names name vars few has)
primary_good (boot.Efi true) names name vars after few no_next is are has h = absurd (true≢false no_next)
primary_good (boot.Efi false) names name vars after few no_next is are has h = efi_marks.primary_good name vars after h
primary_good (boot.Custom program) names name vars after few no_next is are has h = subst (λ (w : Variables). custom.is_good w name ≡ true) (same_Some _ after h) (custom_marks.primary_good name vars)
primary_good boot.Noop names name vars after few no_next is are has h = refl

-- one of the names that was made primary is primary
pub made_is_primary : (kind : BootKind) (names : List (List ℕ)) (name : List ℕ) (vars after : Variables) → kind ≢ boot.Noop → gives_attempts kind ≡ true → is_word name ≡ true → list_all is_word names ≡ true → has_word names name ≡ true → made_primary kind names name vars ≡ Some after → primary kind after names ≡ Some name
made_is_primary (boot.Grub file) names name vars after some few is are has h =
    subst (λ (w : Variables). grub.primary w names ≡ Some name) (same_Some _ after h) (grub_marks.is_primary names name vars (word_uncut name is) (words_uncut names are) has)
made_is_primary (boot.Uboot attempts primary_attempts) names name vars after some few is are has h =
    subst (λ (w : Variables). uboot.primary w names ≡ Some name) (same_Some _ after h) (uboot_marks.is_primary primary_attempts names name vars few (word_uncut name is) (words_uncut names are) has)
made_is_primary (boot.Barebox state attempts primary_attempts) names name vars after some few is are has h =
    subst (λ (w : Variables). barebox.primary w names ≡ Some name) (same_Some _ after h) (barebox_marks.is_primary primary_attempts names name vars few has)
made_is_primary (boot.Efi use_next) names name vars after some few is are has h = efi_marks.is_primary use_next names name vars after has h
made_is_primary (boot.Custom program) names name vars after some few is are has h =
    subst (λ (w : Variables). custom.primary w names ≡ Some name) (same_Some _ after h) (custom_marks.is_primary names name vars has)
made_is_primary boot.Noop names name vars after some few is are has h = absurd (some refl)
