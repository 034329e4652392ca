-- What one step leaves alone: a disk, the boot variables, the list of writes, the status file.
use Rattle.std.proofs.Common.{◌≡◌, ◌≢◌, inl, inr, ⊎_elim, ℕ, Bool, true, false, ◌||◌, not, List, [], ◌++◌, length, Option, Some, None, IsTrue, refl, sym, ◌∙◌, ap, subst, append_assoc}
use Rattle.std.specs.Prelude.{bytes_eq, slice_get}
use Rattle.std.specs.List.{list_any}
use Rattle.std.specs.Option.{option_and_then, option_map, option_map_or}
use Rattle.std.proofs.lemmas.Bool.{true≢false}
use Rattle.std.proofs.lemmas.List.{append-nil}
use Rattle.std.proofs.lemmas.List.Folds.{list_any-append, list_any_none}
use Rattle.boot_model.specs.declared.boot_kind.BootKind.{BootKind}
use Rattle.boot_commands.specs.declared.command.Command.{Command}
use Rattle.boot_backends.specs.Through.{Through}
use Rattle.keyfile.specs.Groups.{Text}
use Rattle.machine.specs.Crash.{is_in}
use Rattle.machine.specs.Frames.{DiffersOnlyIn, SpanIn}
use Rattle.machine.specs.Spares.{has_disk, has_file, is_kernels, spans_of}
use Rattle.machine.specs.World.{bytes_under, disk, disk_byte, disk_length, file, with_file, with_sync}
use Rattle.machine.specs.declared.world.Named.{Named}
use Rattle.machine.specs.declared.world.Span.{Span}
use Rattle.machine.specs.declared.world.World.{World}
use Rattle.machine.proofs.Sparing.{is_in-spans_of}
use Rattle.machine.proofs.Worlds.{bytes_eq_other, is_in-filter}
use Rattle.slot_status.specs.Records.{RecordContent}
use Rattle.slot_status.specs.Texts.{book_text}
use Rattle.status_file.specs.Status.{bytes_at, names_in}
use Rattle.system_conf.specs.Configuration.{Configuration}
use Rattle.install_facts.specs.Facts.{FactsContent}
use Rattle.install_plan.specs.declared.step.Step.{Step}
use Rattle.install_plan.specs.declared.step.Step.TheVariants as step
use Rattle.install_steps.specs.Steps.{EitherOf, Part, changed, device_of, with_book}

-- ---- a world with another book

disks_of : (text : Text) (w : World) (status : Option Text) → (option_map_or (λ path. with_file w path text) status w).disks ≡ w.disks
unfolding with_file
disks_of text w None = refl
disks_of text w (Some path) = refl

pub book_disks : (c : Configuration) (book : List RecordContent) (w : World) → (with_book c book w).disks ≡ w.disks
book_disks c book w = disks_of (book_text (names_in c.slots) book) w c.status_file

pending_of : (text : Text) (w : World) (status : Option Text) → (option_map_or (λ path. with_file w path text) status w).pending ≡ w.pending
unfolding with_file
pending_of text w None = refl
pending_of text w (Some path) = refl

pub book_pending : (c : Configuration) (book : List RecordContent) (w : World) → (with_book c book w).pending ≡ w.pending
book_pending c book w = pending_of (book_text (names_in c.slots) book) w c.status_file

vars_of : (text : Text) (w : World) (status : Option Text) → (option_map_or (λ path. with_file w path text) status w).vars ≡ w.vars
unfolding with_file
vars_of text w None = refl
vars_of text w (Some path) = refl

pub book_vars : (c : Configuration) (book : List RecordContent) (w : World) → (with_book c book w).vars ≡ w.vars
book_vars c book w = vars_of (book_text (names_in c.slots) book) w c.status_file

writes_of : (text : Text) (w : World) (status : Option Text) → (option_map_or (λ path. with_file w path text) status w).writes ≡ w.writes
unfolding with_file
writes_of text w None = refl
writes_of text w (Some path) = refl

pub book_writes : (c : Configuration) (book : List RecordContent) (w : World) → (with_book c book w).writes ≡ w.writes
book_writes c book w = writes_of (book_text (names_in c.slots) book) w c.status_file

-- ---- a disk

-- it keeps each byte that was not pending, and no more of it is pending
pub record DiskKept (device : Text) (w u : World) : Type 0 where
  pub size : disk_length u device ≡ disk_length w device
  pub bytes : (i : ℕ) → is_in w.pending device i ≡ false → disk_byte u device i ≡ disk_byte w device i
  pub pending : (i : ℕ) → is_in u.pending device i ≡ true → is_in w.pending device i ≡ true

pub not_pending : (x y : Bool) → (x ≡ true → y ≡ true) → y ≡ false → x ≡ false
not_pending true y follows none = absurd (true≢false (sym (follows refl) ∙ none))
not_pending false y follows none = refl

pub disk_none : (device : Text) (w : World) → DiskKept device w w
disk_none device w = record { size = refl; bytes = λ i settled. refl; pending = λ i h. h }

pub disk_joins : (device : Text) (u v w : World) → DiskKept device u v → DiskKept device v w → DiskKept device u w
disk_joins device u v w uv vw = record {
  size = vw.size ∙ uv.size;
  bytes = λ i settled. vw.bytes i (not_pending (is_in v.pending device i) (is_in u.pending device i) (uv.pending i) settled) ∙ uv.bytes i settled;
  pending = λ i h. uv.pending i (vw.pending i h);
}

-- the disks are the same, and no more of them is pending
pub disk_same : (device : Text) (w u : World) → u.disks ≡ w.disks → ((i : ℕ) → is_in u.pending device i ≡ true → is_in w.pending device i ≡ true) → DiskKept device w u
disk_same device w u same less = record {
  size = ap (λ (ds : List Named). option_map length (bytes_under ds device)) same;
  bytes = λ i settled. ap (λ (ds : List Named). option_and_then (λ (bytes : List ℕ). slice_get bytes i) (bytes_under ds device)) same;
  pending = less;
}

disk_is : (device : Text) (w u : World) → u ≡ w → DiskKept device w u
disk_is device w u same = subst (λ (x : World). DiskKept device w x) (sym same) (disk_none device w)

-- it is the same, and so is what is pending of it
pub disk_spared : (device : Text) (w u : World) → disk_length u device ≡ disk_length w device → disk u device ≡ disk w device → spans_of u.pending device ≡ spans_of w.pending device → DiskKept device w u
disk_spared device w u size same pending = record {
  size = size;
  bytes = λ i settled. ap (option_and_then (λ (bytes : List ℕ). slice_get bytes i)) same;
  pending = λ i h.
      sym (is_in-spans_of w.pending device i)
      ∙ ap (λ (spans : List Span). is_in spans device i) (sym pending)
      ∙ is_in-spans_of u.pending device i
      ∙ h;
}

-- a step leaves the disk of a device alone
abbrev pub LeavesDisk : Text → Step → Type 0
LeavesDisk device (step.Run child caller) = has_disk child.spares device ≡ true
LeavesDisk device (step.Put job put) = put.device ≢ device
LeavesDisk device other = Unit {0}

module _ (c : Configuration) (f : FactsContent) (device : Text) where
  disk_marked : (boot : BootKind) (commands : List Command) (w u : World) → Through boot commands w u → DiskKept device w u
  disk_marked boot commands w u through =
      subst (λ (x : World). DiskKept device w x) (sym through.rest) (disk_same device w (record w { vars = u.vars; runs = u.runs }) refl (λ i h. h))

  disk_noted : (book : List RecordContent) (w u : World) → EitherOf w (with_book c book w) u → DiskKept device w u
  disk_noted book w u (inl same) = disk_is device w u same
  disk_noted book w u (inr same) =
      subst (λ (x : World). DiskKept device w x) (sym same)
      (disk_same device w (with_book c book w) (book_disks c book w) (λ i h. subst (λ (spans : List Span). is_in spans device i ≡ true) (book_pending c book w) h))

  disk_synced : (path : Text) (w : World) → DiskKept device w (with_sync w path)
  unfolding with_sync
  disk_synced path w = disk_same device w (with_sync w path) refl (λ i h. is_in-filter (λ s. not (bytes_eq s.path path)) w.pending device i h)

  disk_settled : (path : Text) (w u : World) → EitherOf w (with_sync w path) u → DiskKept device w u
  disk_settled path w u (inl same) = disk_is device w u same
  disk_settled path w u (inr same) = subst (λ (x : World). DiskKept device w x) (sym same) (disk_synced path w)

  disk_put : (other : Text) (size : ℕ) (w u : World) → other ≢ device → DiffersOnlyIn other 0 size w u → DiskKept device w u
  disk_put other size w u ne only = record {
    size = only.lengths device;
    bytes = λ i settled. only.bytes device i (λ inside. ne (sym inside.0));
    pending = λ i h. ⊎_elim (λ e. e) (λ inside. absurd (ne (sym inside.0))) (only.pending device i h);
  }

  -- so does each world within such a step
  pub step_disk : (boot : BootKind) (book : List RecordContent) (s : Step) (w u : World) → LeavesDisk device s → Part boot c f book s w u → DiskKept device w u
  step_disk boot book (step.Run child caller) w u spares left = disk_spared device w u (left.lengths device) (left.disks device spares) (left.pending device spares)
  step_disk boot book (step.Bad root) w u ok part = disk_marked boot _ w u part.1
  step_disk boot book (step.Primary root) w u ok part = disk_marked boot _ w u part.1
  step_disk boot book (step.Begin slot) w u ok part = disk_noted (changed f (step.Begin slot) book) w u part
  step_disk boot book (step.Done job) w u ok part = disk_noted (changed f (step.Done job) book) w u part
  step_disk boot book (step.Activated root) w u ok part = disk_noted (changed f (step.Activated root) book) w u part
  step_disk boot book (step.Put job put) w u ne part = disk_put put.device put.size w u ne part.only
  step_disk boot book (step.Settle slot) w u ok part = disk_settled (device_of c slot) w u part
  step_disk boot book (step.Index job) w u ok part = disk_is device w u part

-- ---- the boot variables

-- a step leaves them alone
abbrev pub LeavesVars : Step → Type 0
LeavesVars (step.Run child caller) = IsTrue child.spares.boot
LeavesVars (step.Bad root) = ⊥
LeavesVars (step.Primary root) = ⊥
LeavesVars other = Unit {0}

abbrev pub VarsKept : World → World → Type 0
VarsKept w u = u.vars ≡ w.vars

pub vars_joins : (u v w : World) → VarsKept u v → VarsKept v w → VarsKept u w
vars_joins u v w uv vw = vw ∙ uv

module _ (c : Configuration) (f : FactsContent) where
  vars_noted : (book : List RecordContent) (w u : World) → EitherOf w (with_book c book w) u → VarsKept w u
  vars_noted book w u (inl same) = ap (λ (x : World). x.vars) same
  vars_noted book w u (inr same) = ap (λ (x : World). x.vars) same ∙ book_vars c book w

  vars_synced : (path : Text) (w : World) → (with_sync w path).vars ≡ w.vars
  unfolding with_sync
  vars_synced path w = refl

  vars_settled : (path : Text) (w u : World) → EitherOf w (with_sync w path) u → VarsKept w u
  vars_settled path w u (inl same) = ap (λ (x : World). x.vars) same
  vars_settled path w u (inr same) = ap (λ (x : World). x.vars) same ∙ vars_synced path w

  pub step_vars : (boot : BootKind) (book : List RecordContent) (s : Step) (w u : World) → LeavesVars s → Part boot c f book s w u → VarsKept w u
  step_vars boot book (step.Run child caller) w u spares left = left.vars spares
  step_vars boot book (step.Bad root) w u none part = absurd none
  step_vars boot book (step.Primary root) w u none part = absurd none
  step_vars boot book (step.Begin slot) w u ok part = vars_noted (changed f (step.Begin slot) book) w u part
  step_vars boot book (step.Done job) w u ok part = vars_noted (changed f (step.Done job) book) w u part
  step_vars boot book (step.Activated root) w u ok part = vars_noted (changed f (step.Activated root) book) w u part
  step_vars boot book (step.Put job put) w u ok part = part.only.vars
  step_vars boot book (step.Settle slot) w u ok part = vars_settled (device_of c slot) w u part
  step_vars boot book (step.Index job) w u ok part = ap (λ (x : World). x.vars) part

-- ---- the writes

-- those that u has more than w are to other devices
pub record WritesElsewhere (device : Text) (w u : World) : Type 0 where
  pub added : List Span
  pub grows : u.writes ≡ w.writes ++ added
  pub none : list_any (λ s. bytes_eq s.path device) added ≡ false

pub writes_none : (device : Text) (w : World) → WritesElsewhere device w w
writes_none device w = record { added = []; grows = sym (append-nil w.writes); none = refl }

neither : (x y : Bool) → x ≡ false → y ≡ false → (x || y) ≡ false
neither true y e h = absurd (true≢false e)
neither false y e h = h

pub writes_joins : (device : Text) (u v w : World) → WritesElsewhere device u v → WritesElsewhere device v w → WritesElsewhere device u w
writes_joins device u v w uv vw = record {
  added = uv.added ++ vw.added;
  grows = vw.grows ∙ ap (λ (spans : List Span). spans ++ vw.added) uv.grows ∙ append_assoc u.writes uv.added vw.added;
  none = list_any-append (λ s. bytes_eq s.path device) uv.added vw.added ∙ neither _ _ uv.none vw.none;
}

pub writes_same : (device : Text) (w u : World) → u.writes ≡ w.writes → WritesElsewhere device w u
writes_same device w u same = record { added = []; grows = same ∙ sym (append-nil w.writes); none = refl }

-- a step writes nothing
abbrev pub LeavesWrites : Step → Type 0
LeavesWrites (step.Put job put) = ⊥
LeavesWrites other = Unit {0}

-- a step writes to no such device
abbrev pub WritesNot : Text → Step → Type 0
WritesNot device (step.Put job put) = put.device ≢ device
WritesNot device other = Unit {0}

module _ (c : Configuration) (f : FactsContent) where
  writes_noted : (book : List RecordContent) (w u : World) → EitherOf w (with_book c book w) u → u.writes ≡ w.writes
  writes_noted book w u (inl same) = ap (λ (x : World). x.writes) same
  writes_noted book w u (inr same) = ap (λ (x : World). x.writes) same ∙ book_writes c book w

  writes_synced : (path : Text) (w : World) → (with_sync w path).writes ≡ w.writes
  unfolding with_sync
  writes_synced path w = refl

  writes_settled : (path : Text) (w u : World) → EitherOf w (with_sync w path) u → u.writes ≡ w.writes
  writes_settled path w u (inl same) = ap (λ (x : World). x.writes) same
  writes_settled path w u (inr same) = ap (λ (x : World). x.writes) same ∙ writes_synced path w

  pub step_writes : (boot : BootKind) (book : List RecordContent) (s : Step) (w u : World) → LeavesWrites s → Part boot c f book s w u → u.writes ≡ w.writes
  step_writes boot book (step.Run child caller) w u ok left = left.writes
  step_writes boot book (step.Bad root) w u ok part = ap (λ (x : World). x.writes) part.1.rest
  step_writes boot book (step.Primary root) w u ok part = ap (λ (x : World). x.writes) part.1.rest
  step_writes boot book (step.Begin slot) w u ok part = writes_noted (changed f (step.Begin slot) book) w u part
  step_writes boot book (step.Done job) w u ok part = writes_noted (changed f (step.Done job) book) w u part
  step_writes boot book (step.Activated root) w u ok part = writes_noted (changed f (step.Activated root) book) w u part
  step_writes boot book (step.Put job put) w u none part = absurd none
  step_writes boot book (step.Settle slot) w u ok part = writes_settled (device_of c slot) w u part
  step_writes boot book (step.Index job) w u ok part = ap (λ (x : World). x.writes) part

  module _ (device : Text) where
    put_elsewhere : (other : Text) (size : ℕ) (w u : World) → other ≢ device → DiffersOnlyIn other 0 size w u → WritesElsewhere device w u
    put_elsewhere other size w u ne only = record {
      added = only.writes.added;
      grows = only.writes.grows;
      none = list_any_none (λ s. bytes_eq s.path device) only.writes.added (λ k d lt. away _ (only.writes.within k d lt));
    }
      where
        away : (s : Span) → SpanIn other 0 size s → bytes_eq s.path device ≡ false
        away s inside = bytes_eq_other s.path device (λ same. ne (sym inside.path ∙ same))

    pub step_elsewhere : (boot : BootKind) (book : List RecordContent) (s : Step) (w u : World) → WritesNot device s → Part boot c f book s w u → WritesElsewhere device w u
    step_elsewhere boot book (step.Run child caller) w u ok left = writes_same device w u left.writes
    step_elsewhere boot book (step.Bad root) w u ok part = writes_same device w u (step_writes boot book (step.Bad root) w u ok part)
    step_elsewhere boot book (step.Primary root) w u ok part = writes_same device w u (step_writes boot book (step.Primary root) w u ok part)
    step_elsewhere boot book (step.Begin slot) w u ok part = writes_same device w u (step_writes boot book (step.Begin slot) w u ok part)
    step_elsewhere boot book (step.Done job) w u ok part = writes_same device w u (step_writes boot book (step.Done job) w u ok part)
    step_elsewhere boot book (step.Activated root) w u ok part = writes_same device w u (step_writes boot book (step.Activated root) w u ok part)
    step_elsewhere boot book (step.Put job put) w u ne part = put_elsewhere put.device put.size w u ne part.only
    step_elsewhere boot book (step.Settle slot) w u ok part = writes_same device w u (step_writes boot book (step.Settle slot) w u ok part)
    step_elsewhere boot book (step.Index job) w u ok part = writes_same device w u (step_writes boot book (step.Index job) w u ok part)

-- ---- the status file

-- a step leaves it alone
abbrev pub LeavesStatus : Configuration → Step → Type 0
LeavesStatus c (step.Run child caller) = (path : Text) → c.status_file ≡ Some path → IsTrue (has_file child.spares path)
LeavesStatus c (step.Begin slot) = ⊥
LeavesStatus c (step.Done job) = ⊥
LeavesStatus c (step.Activated root) = ⊥
LeavesStatus c other = Unit {0}

abbrev pub StatusKept : Configuration → World → World → Type 0
StatusKept c w u = bytes_at c.status_file u ≡ bytes_at c.status_file w

pub status_joins : (c : Configuration) (u v w : World) → StatusKept c u v → StatusKept c v w → StatusKept c u w
status_joins c u v w uv vw = vw ∙ uv

-- the files are the same, or this one is
pub status_same : (c : Configuration) (w u : World) → u.files ≡ w.files → StatusKept c w u
status_same c w u same = ap (λ (files : List Named). option_and_then (λ (path : Text). bytes_under files path) c.status_file) same

pub status_spared : (c : Configuration) (w u : World) → ((path : Text) → c.status_file ≡ Some path → file u path ≡ file w path) → StatusKept c w u
status_spared c w u spared = go c.status_file refl
  where
    go : (status : Option Text) → c.status_file ≡ status → bytes_at status u ≡ bytes_at status w
    go None is = refl
    go (Some path) is = spared path is

or_right : (x y : Bool) → y ≡ true → (x || y) ≡ true
or_right true y h = refl
or_right false y h = h

module _ (c : Configuration) (f : FactsContent) where
  files_synced : (path : Text) (w : World) → (with_sync w path).files ≡ w.files
  unfolding with_sync
  files_synced path w = refl

  status_settled : (path : Text) (w u : World) → EitherOf w (with_sync w path) u → StatusKept c w u
  status_settled path w u (inl same) = status_same c w u (ap (λ (x : World). x.files) same)
  status_settled path w u (inr same) = status_same c w u (ap (λ (x : World). x.files) same ∙ files_synced path w)

  pub step_status : (boot : BootKind) (book : List RecordContent) (s : Step) (w u : World) → LeavesStatus c s → Part boot c f book s w u → StatusKept c w u
  step_status boot book (step.Run child caller) w u spares left = status_spared c w u (λ path is. left.files path (or_right (is_kernels path) (has_file child.spares path) (spares path is)))
  step_status boot book (step.Bad root) w u ok part = status_same c w u (ap (λ (x : World). x.files) part.1.rest)
  step_status boot book (step.Primary root) w u ok part = status_same c w u (ap (λ (x : World). x.files) part.1.rest)
  step_status boot book (step.Begin slot) w u none part = absurd none
  step_status boot book (step.Done job) w u none part = absurd none
  step_status boot book (step.Activated root) w u none part = absurd none
  step_status boot book (step.Put job put) w u ok part = status_same c w u part.only.files
  step_status boot book (step.Settle slot) w u ok part = status_settled (device_of c slot) w u part
  step_status boot book (step.Index job) w u ok part = status_same c w u (ap (λ (x : World). x.files) part)
