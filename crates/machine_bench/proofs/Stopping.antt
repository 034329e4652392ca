-- What a stop leaves of disks is a crash image.
use Rattle.std.proofs.Common.{◌≡◌, ◌⊎◌, ⊎_elim, ℕ, Bool, ◌+◌, ◌<◌, ◌≤◌, true, false, cond, List, [], ◌∷◌, ◌++◌, length, take, drop, Option, Some, None, refl, sym, ◌∙◌, ap, subst, arith, get_or}
use Rattle.std.specs.Prelude.{bytes_eq, slice_get, slice_set}
use Rattle.std.specs.Option.{option_and_then, option_map}
use Rattle.std.specs.List.{AllZip}
use Rattle.std.proofs.lemmas.Bool.Decides.{nat_tests}
use Rattle.std.proofs.lemmas.Slice.Eq.{bytes_eq-Decides}
use Rattle.std.proofs.lemmas.List.{drop-drop, drop-set-lt, ext_get_or, get_or-set_other, get_or-set_same, take_all, take_more, take_more_set}
use Rattle.std.proofs.lemmas.Option.{slice_get-get_or, slice_get_past}
use Rattle.machine.specs.declared.world.Named.{Named}
use Rattle.machine.specs.declared.world.Span.{Span}
use Rattle.machine.specs.declared.world.World.{World}
use Rattle.machine.specs.World.{bytes_under}
use Rattle.machine.specs.Crash.{Crash, is_in}
use Rattle.machine.specs.Past.{Grows, Held, Past, world_now}
use Rattle.machine.proofs.Moments.{was_now}
use Rattle.undo_log.specs.declared.log.UndoLog.{UndoLog}
use Rattle.undo_log.specs.Logged.{past_of_log}
use Rattle.machine_bench.specs.Stopped.{CrashImageOf, BytesAfterStop, DiskAfterStop, byte_after_stop, byte_left}
use Rattle.updater_text.specs.Lent.{with_front}
use Rattle.undo_log.proofs.Putting.{whole_list}
use Rattle.undo_log.proofs.Rest.{same_here}
use Rattle.undo_log.proofs.Undoing.{now-past_of}

lt_or_le : (i n : ℕ) → (i < n) ⊎ (n ≤ i)
lt_or_le i n = grind (arith, nat_tests)

-- one byte more
module _ (pick : ℕ) (spans : List Span) (path initial bytes : List ℕ) (at v : ℕ) (within : at < length bytes) (rest : (k : ℕ) → at ≤ k → get_or bytes k 0 ≡ get_or initial k 0) where
  pub bytes_done : ((k : ℕ) → k < at → get_or bytes k 0 ≡ byte_after_stop pick spans path k (get_or initial k 0)) → v ≡ byte_after_stop pick spans path at (get_or bytes at 0) → (k : ℕ) → k < at + 1 → get_or (slice_set bytes at v) k 0 ≡ byte_after_stop pick spans path k (get_or initial k 0)
  bytes_done done here k lt =
      ⊎_elim
      (λ less. get_or-set_other bytes at k v 0 (omega (arith, less)) ∙ done k less)
      (λ more.
      let same : at ≡ k = omega arith in
      let is : get_or (slice_set bytes at v) at 0 ≡ byte_after_stop pick spans path at (get_or initial at 0) =
      get_or-set_same bytes at v 0 within ∙ here ∙ ap (λ (b : ℕ). byte_after_stop pick spans path at b) (rest at (omega arith)) in
      subst (λ (j : ℕ). get_or (slice_set bytes at v) j 0 ≡ byte_after_stop pick spans path j (get_or initial j 0)) same is)
      (lt_or_le k at)

  pub bytes_rest : (k : ℕ) → at + 1 ≤ k → get_or (slice_set bytes at v) k 0 ≡ get_or initial k 0
  bytes_rest k le = get_or-set_other bytes at k v 0 (omega (arith, le)) ∙ rest k (omega (arith, le))

-- one disk more
all_zip-push : (R : Named → Named → Type 0) (xs ys : List Named) (x y : Named) → AllZip R xs ys → R x y → AllZip R (xs ++ x ∷ []) (ys ++ y ∷ [])
all_zip-push R [] [] x y h r = (r, tt)
all_zip-push R [] (b ∷ ys) x y h r = absurd h
all_zip-push R (a ∷ xs) [] x y h r = absurd h
all_zip-push R (a ∷ xs) (b ∷ ys) x y h r = (h.0, all_zip-push R xs ys x y h.1 r)

module _ (R : Named → Named → Type 0) (initial disks : List Named) (at : ℕ) (v d : Named) (within : at < length disks) (as_many : length disks ≡ length initial) (rest : drop at disks ≡ drop at initial) where
  pub disks_done : AllZip R (take at initial) (take at disks) → R (get_or disks at d) v → AllZip R (take (at + 1) initial) (take (at + 1) (slice_set disks at v))
  disks_done done here =
      subst (λ (ds : List Named). AllZip R (take (at + 1) initial) ds) (sym (take_more_set disks at v within))
      (subst (λ (ds : List Named). AllZip R ds (take at disks ++ v ∷ [])) (sym (take_more initial at d (omega (arith, within, as_many))))
      (all_zip-push R (take at initial) (take at disks) (get_or initial at d) v done (subst (λ (x : Named). R x v) (same_here disks initial at d rest) here)))

  pub disks_rest : drop (at + 1) (slice_set disks at v) ≡ drop (at + 1) initial
  disks_rest =
      drop-set-lt (at + 1) disks at v (omega arith)
      ∙ sym (drop-drop 1 at disks)
      ∙ ap (λ (ds : List Named). drop 1 ds) rest
      ∙ drop-drop 1 at initial

pub disks_all : (R : Named → Named → Type 0) (initial disks : List Named) (at : ℕ) → length disks ≤ at → length disks ≡ length initial → AllZip R (take at initial) (take at disks) → AllZip R initial disks
disks_all R initial disks at past as_many done =
    subst (λ (ds : List Named). AllZip R ds disks) (take_all at initial (omega (arith, past, as_many)))
    (subst (λ (ds : List Named). AllZip R (take at initial) ds) (take_all at disks past) done)

-- what is under a path
module _ (pick : ℕ) (spans : List Span) (p : List ℕ) where
  Under : Option (List ℕ) → Option (List ℕ) → Type 0
  Under None None = Unit {0}
  Under None (Some y) = ⊥
  Under (Some x) None = ⊥
  Under (Some x) (Some y) = BytesAfterStop pick spans p x y

  under_disks : (xs ys : List Named) → AllZip (DiskAfterStop pick spans) xs ys → Under (bytes_under xs p) (bytes_under ys p)
  unfolding Under
  under_disks [] [] h = tt
  under_disks [] (y ∷ ys) h = absurd h
  under_disks (x ∷ xs) [] h = absurd h
  under_disks (x ∷ xs) (y ∷ ys) h =
      subst (λ (q : List ℕ). Under (cond (bytes_eq x.path p) (Some x.bytes) (bytes_under xs p)) (cond (bytes_eq q p) (Some y.bytes) (bytes_under ys p))) (sym h.0.path)
      (elim (bytes_eq x.path p) as (λ b. bytes_eq x.path p ≡ b → Under (cond b (Some x.bytes) (bytes_under xs p)) (cond b (Some y.bytes) (bytes_under ys p))) [
        | true ↦ λ e. subst (λ (q : List ℕ). BytesAfterStop pick spans q x.bytes y.bytes) ((bytes_eq-Decides x.path p).0 e) h.0.bytes
        | false ↦ λ e. under_disks xs ys h.1
      ] refl)

  under_length : (a b : Option (List ℕ)) → Under a b → option_map length b ≡ option_map length a
  unfolding Under
  under_length None None h = refl
  under_length None (Some y) h = absurd h
  under_length (Some x) None h = absurd h
  under_length (Some x) (Some y) h = ap (λ (n : ℕ). Some n) h.as_long

  -- a byte that is there, from what is left of it, and one that is not
  byte_by : (x y : List ℕ) (i : ℕ) (f : ℕ → ℕ) → length y ≡ length x → (i < length x → get_or y i 0 ≡ f (get_or x i 0)) → slice_get y i ≡ option_map f (slice_get x i)
  byte_by x y i f same is =
      ⊎_elim
      (λ lt.
      slice_get-get_or y i 0 (subst (λ (n : ℕ). i < n) (sym same) lt)
      ∙ ap (λ (b : ℕ). Some b) (is lt)
      ∙ ap (λ (o : Option ℕ). option_map f o) (sym (slice_get-get_or x i 0 lt)))
      (λ past.
      slice_get_past y i (subst (λ (n : ℕ). n ≤ i) (sym same) past)
      ∙ ap (λ (o : Option ℕ). option_map f o) (sym (slice_get_past x i past)))
      (lt_or_le i (length x))

  same_option : (o : Option ℕ) → option_map (λ (b : ℕ). b) o ≡ o
  same_option None = refl
  same_option (Some b) = refl

  under_byte : (a b : Option (List ℕ)) → Under a b → (i : ℕ) → option_and_then (λ (x : List ℕ). slice_get x i) b ≡ option_map (λ (byte : ℕ). byte_after_stop pick spans p i byte) (option_and_then (λ (x : List ℕ). slice_get x i) a)
  unfolding Under
  under_byte None None h i = refl
  under_byte None (Some y) h i = absurd h
  under_byte (Some x) None h i = absurd h
  under_byte (Some x) (Some y) h i = byte_by x y i (λ byte. byte_after_stop pick spans p i byte) h.as_long (λ lt. h.each i lt)

  under_settled : (a b : Option (List ℕ)) → Under a b → (i : ℕ) → is_in spans p i ≡ false → option_and_then (λ (x : List ℕ). slice_get x i) b ≡ option_and_then (λ (x : List ℕ). slice_get x i) a
  under_settled a b h i free =
      under_byte a b h i
      ∙ ap (λ (pending : Bool). option_map (λ (byte : ℕ). cond pending (byte_left pick i byte) byte) (option_and_then (λ (x : List ℕ). slice_get x i) a)) free
      ∙ same_option (option_and_then (λ (x : List ℕ). slice_get x i) a)

-- by pick 0 nothing changes
same_named : (x y : Named) → y.path ≡ x.path → y.bytes ≡ x.bytes → y ≡ x
same_named x y path bytes =
    let of_path : List ℕ → Named = λ p. record { path = p; bytes = y.bytes } in
    let of_bytes : List ℕ → Named = λ b. record { path = x.path; bytes = b } in
    ap of_path path ∙ ap of_bytes bytes

byte_kept : (pick at byte : ℕ) (pending : Bool) → pick ≡ 0 → cond pending (byte_left pick at byte) byte ≡ byte
byte_kept pick at byte false none = refl
byte_kept pick at byte true none = ap (λ (k : ℕ). byte_left k at byte) none

disks_kept : (pick : ℕ) (spans : List Span) (xs ys : List Named) → pick ≡ 0 → AllZip (DiskAfterStop pick spans) xs ys → ys ≡ xs
disks_kept pick spans [] [] none h = refl
disks_kept pick spans [] (y ∷ ys) none h = absurd h
disks_kept pick spans (x ∷ xs) [] none h = absurd h
disks_kept pick spans (x ∷ xs) (y ∷ ys) none h =
    let bytes : y.bytes ≡ x.bytes = ext_get_or 0 y.bytes x.bytes h.0.bytes.as_long (λ i lt. h.0.bytes.each i (subst (λ (n : ℕ). i < n) h.0.bytes.as_long lt) ∙ byte_kept pick i (get_or x.bytes i 0) (is_in spans x.path i) none) in
    ap (λ (n : Named). n ∷ ys) (same_named x y h.0.path bytes)
    ∙ ap (λ (ns : List Named). x ∷ ns) (disks_kept pick spans xs ys none h.1)

pub picked_world : (pick : ℕ) (w : World) (disks : List Named) → AllZip (DiskAfterStop pick w.pending) w.disks disks → CrashImageOf pick w (record w { disks = disks; pending = [] })
picked_world pick w disks all = record {
  crash = record {
    files = refl;
    vars = refl;
    writes = refl;
    runs = refl;
    fetched = refl;
    pending = refl;
    lengths = λ path. under_length pick w.pending path (bytes_under w.disks path) (bytes_under disks path) (under_disks pick w.pending path w.disks disks all);
    bytes = λ path i free. under_settled pick w.pending path (bytes_under w.disks path) (bytes_under disks path) (under_disks pick w.pending path w.disks disks all) i free;
  };
  kept = λ none. disks_kept pick w.pending w.disks disks none all;
  bytes = λ path i. under_byte pick w.pending path (bytes_under w.disks path) (bytes_under disks path) (under_disks pick w.pending path w.disks disks all) i;
}

pub picked_disks : (pick : ℕ) (w : World) (lent after : List Named) (spans pending : List Span) → lent ≡ w.disks → spans ≡ w.pending → AllZip (DiskAfterStop pick spans) lent after → length after ≡ length lent → pending ≡ [] → CrashImageOf pick w (record w { disks = with_front w.disks after; pending = pending })
picked_disks pick w lent after spans pending given are all as_many none =
    let these = subst (λ (ds : List Named). AllZip (DiskAfterStop pick w.pending) ds after) given (subst (λ (ss : List Span). AllZip (DiskAfterStop pick ss) lent after) are all) in
    let left : record w { disks = with_front w.disks after; pending = pending } ≡ record w { disks = after; pending = [] } =
    ap (λ (ds : List Named). record w { disks = ds; pending = pending }) (whole_list w.disks after (as_many ∙ ap length given))
    ∙ ap (λ (ss : List Span). record w { disks = after; pending = ss }) none in
    subst (λ (v : World). CrashImageOf pick w v) (sym left) (picked_world pick w after these)

-- a crash image of the world now is one that a stop since any moment may have left
pub held_after : (log new : UndoLog) → Crash log.world new.world → (old : Past) → Grows old (past_of_log log) → Held old (past_of_log log) (world_now (past_of_log new))
held_after log new crash old grows = (
  world_now (past_of_log log),
  was_now old (past_of_log log) grows,
  subst (λ (w : World). Crash w (world_now (past_of_log new))) (sym (now-past_of log))
      (subst (λ (v : World). Crash log.world v) (sym (now-past_of new)) crash),
)
