-- What a step leaves alone: the lengths of disks, and the files that later puts need; so these fit as before.
use Rattle.std.proofs.Common.{◌≡◌, ◌≢◌, inl, inr, ℕ, Bool, true, false, ◌||◌, List, [], ◌∷◌, ◌++◌, length, slice_get, Option, Some, None, IsTrue, refl, sym, ◌∙◌, ap}
use Rattle.std.specs.Prelude.{unwrap_or, option_map}
use Rattle.std.specs.Option.{option_map_or}
use Rattle.boot_model.specs.declared.boot_kind.BootKind.{BootKind}
use Rattle.keyfile.specs.Groups.{Text}
use Rattle.machine.specs.Past.{Past, world_now}
use Rattle.machine.specs.Spares.{has_file, is_kernels}
use Rattle.machine.specs.World.{bytes_under, disk, disk_length, file, readable, with_file, with_sync}
use Rattle.machine.specs.declared.world.Named.{Named}
use Rattle.machine.specs.declared.world.World.{World}
use Rattle.machine.proofs.Moments.{always_now}
use Rattle.machine.proofs.Sparing.{file-replaced_other}
use Rattle.raw_writer.specs.declared.put.PutJob.{PutJob}
use Rattle.slot_status.specs.Records.{RecordContent}
use Rattle.slot_status.specs.Texts.{book_text}
use Rattle.status_file.specs.Status.{names_in}
use Rattle.system_conf.specs.Configuration.{Configuration}
use Rattle.install_facts.specs.Facts.{FactsContent}
use Rattle.install_plan.specs.declared.step.Step.{Step}
use Rattle.install_plan.specs.declared.step.Step.TheVariants as step
use Rattle.install_steps.specs.Doing.{PutFits, StepFits}
use Rattle.install_steps.specs.Progress.{FitsAll}
use Rattle.install_steps.specs.Steady.{LeavesFile, PutsSteady, StaySteady}
use Rattle.install_steps.specs.Steps.{Begun, EitherOf, Part, changed, device_of, with_book}

-- ---- the status file and a sync

book_lengths : (o : Option Text) (text path : Text) (w : World) → disk_length (option_map_or (λ p. with_file w p text) o w) path ≡ disk_length w path
unfolding with_file
book_lengths None text path w = refl
book_lengths (Some p) text path w = refl

sync_lengths : (device path : Text) (w : World) → disk_length (with_sync w device) path ≡ disk_length w path
unfolding with_sync
sync_lengths device path w = refl

book_files : (o : Option Text) (text path : Text) (w : World) → o ≢ Some path → file (option_map_or (λ p. with_file w p text) o w) path ≡ file w path
book_files None text path w other = refl
book_files (Some p) text path w other = file-replaced_other w p path text (λ same. other (ap (λ (q : Text). Some q) (sym same)))

sync_files : (device path : Text) (w : World) → file (with_sync w device) path ≡ file w path
unfolding with_sync
sync_files device path w = refl

by_either : {A : Type 0} (of : World → A) (w next u : World) → of next ≡ of w → EitherOf w next u → of u ≡ of w
by_either of w next u same (inl is) = ap of is
by_either of w next u same (inr is) = ap of is ∙ same

or_right : (a b : Bool) → IsTrue b → IsTrue (a || b)
or_right true b h = refl
or_right false b h = h

-- ---- within a step

module _ (boot : BootKind) (c : Configuration) (f : FactsContent) (book : List RecordContent) (path : Text) (w u : World) where
  noted_lengths : (other : List RecordContent) → EitherOf w (with_book c other w) u → disk_length u path ≡ disk_length w path
  noted_lengths other = by_either (λ x. disk_length x path) w (with_book c other w) u (book_lengths c.status_file (book_text (names_in c.slots) other) path w)

  noted_files : (other : List RecordContent) → c.status_file ≢ Some path → EitherOf w (with_book c other w) u → file u path ≡ file w path
  noted_files other apart = by_either (λ x. file x path) w (with_book c other w) u (book_files c.status_file (book_text (names_in c.slots) other) path w apart)

  -- the lengths of disks stay
  lengths_kept : (s : Step) → Part boot c f book s w u → disk_length u path ≡ disk_length w path
  lengths_kept (step.Run child caller) part = part.lengths path
  lengths_kept (step.Bad root) part = ap (λ (x : World). disk_length x path) part.1.rest
  lengths_kept (step.Begin slot) part = noted_lengths (changed f (step.Begin slot) book) part
  lengths_kept (step.Put job put) part = part.only.lengths path
  lengths_kept (step.Settle slot) part = by_either (λ x. disk_length x path) w (with_sync w (device_of c slot)) u (sync_lengths (device_of c slot) path w) part
  lengths_kept (step.Index job) part = ap (λ (x : World). disk_length x path) part
  lengths_kept (step.Done job) part = noted_lengths (changed f (step.Done job) book) part
  lengths_kept (step.Primary root) part = ap (λ (x : World). disk_length x path) part.1.rest
  lengths_kept (step.Activated root) part = noted_lengths (changed f (step.Activated root) book) part

  -- a file stays that is no status file, and that the step leaves alone
  files_kept : (s : Step) → c.status_file ≢ Some path → LeavesFile c path s → Part boot c f book s w u → file u path ≡ file w path
  files_kept (step.Run child caller) apart leaves part = part.files path (or_right (is_kernels path) (has_file child.spares path) leaves)
  files_kept (step.Bad root) apart leaves part = ap (λ (x : World). file x path) part.1.rest
  files_kept (step.Begin slot) apart leaves part = noted_files (changed f (step.Begin slot) book) apart part
  files_kept (step.Put job put) apart leaves part = ap (λ (ns : List Named). bytes_under ns path) part.only.files
  files_kept (step.Settle slot) apart leaves part = by_either (λ x. file x path) w (with_sync w (device_of c slot)) u (sync_files (device_of c slot) path w) part
  files_kept (step.Index job) apart leaves part = ap (λ (x : World). file x path) part
  files_kept (step.Done job) apart leaves part = noted_files (changed f (step.Done job) book) apart part
  files_kept (step.Primary root) apart leaves part = ap (λ (x : World). file x path) part.1.rest
  files_kept (step.Activated root) apart leaves part = noted_files (changed f (step.Activated root) book) apart part

-- so what is read under a path is as long as before
same_length : (d e : Option (List ℕ)) (xs ys : List ℕ) → option_map length d ≡ option_map length e → xs ≡ ys → length (unwrap_or d xs) ≡ length (unwrap_or e ys)
same_length None None xs ys long same = ap length same
same_length (Some x) (Some y) xs ys long same = cc
same_length None (Some y) xs ys long same = absurd (cc)
same_length (Some x) None xs ys long same = absurd (cc)

readable_length : (w u : World) (path : Text) → disk_length u path ≡ disk_length w path → file u path ≡ file w path → length (readable u path) ≡ length (readable w path)
unfolding readable
readable_length w u path long same = same_length (disk u path) (disk w path) (unwrap_or (file u path) []) (unwrap_or (file w path) []) long (ap (λ (o : Option (List ℕ)). unwrap_or o []) same)

-- ---- after a step

after_these : {A : Type 0} (xs ys : List A) (x : A) → slice_get (xs ++ x ∷ ys) (length xs) ≡ Some x
after_these [] ys x = refl
after_these (y ∷ xs) ys x = after_these xs ys x

pub at_place : {A : Type 0} (all xs ys : List A) (x : A) → all ≡ xs ++ x ∷ ys → slice_get all (length xs) ≡ Some x
at_place {A = A} all xs ys x order = ap (λ (zs : List A). slice_get zs (length xs)) order ∙ after_these xs ys x

module _ (t : Bool) (c : Configuration) (f : FactsContent) (book : List RecordContent) (s : Step) (a z : Past) (begun : IsTrue t → Begun c f book s a z) where
  part : IsTrue t → Part a.boot c f book s (world_now a) (world_now z)
  part told = always_now a z (Part a.boot c f book s (world_now a)) (begun told).part

  put_kept : (put : PutJob) → c.status_file ≢ Some put.image → LeavesFile c put.image s → PutFits t a put → PutFits t z put
  put_kept put apart leaves fits = record {
    room = record {
      room = λ told.
          let holds = fits.room.room told in
          (holds.0, lengths_kept a.boot c f book put.device (world_now a) (world_now z) s (part told) ∙ holds.1, holds.2);
    };
    image = record {
      is = λ told.
          readable_length (world_now a) (world_now z) put.image
          (lengths_kept a.boot c f book put.image (world_now a) (world_now z) s (part told))
          (files_kept a.boot c f book put.image (world_now a) (world_now z) s apart leaves (part told))
          ∙ fits.image.is told;
    };
  }

  module _ (steps : List Step) (j : ℕ) (at : slice_get steps j ≡ Some s) where
    step_kept : (other : Step) → PutsSteady c steps other → StepFits t a other → StepFits t z other
    step_kept (step.Run child caller) steady fits = tt
    step_kept (step.Bad root) steady fits = tt
    step_kept (step.Begin slot) steady fits = tt
    step_kept (step.Put job put) steady fits = put_kept put steady.0 (steady.1 j s at) fits
    step_kept (step.Settle slot) steady fits = tt
    step_kept (step.Index job) steady fits = tt
    step_kept (step.Done job) steady fits = tt
    step_kept (step.Primary root) steady fits = tt
    step_kept (step.Activated root) steady fits = tt

    pub all_fit_still : StaySteady c steps → FitsAll t a steps → FitsAll t z steps
    all_fit_still steady fits = record {
      each = λ before after other order. step_kept other (steady (length before) other (at_place steps before after other order)) (fits.each before after other order);
    }
