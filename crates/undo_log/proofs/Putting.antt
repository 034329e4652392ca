-- Bytes put under a path, and taken away again.
use Rattle.std.proofs.Common.{◌≡◌, ℕ, suc, zero, ◌+◌, ◌<◌, Bool, true, false, cond, List, [], ◌∷◌, ◌++◌, length, take, Some, None, Result, Ok, Err, OnErr, refl, sym, ◌∙◌, ap, arith, get_or}
use Rattle.std.specs.Prelude.{bytes_eq, position, slice_set}
use Rattle.std.proofs.lemmas.List.{append-nil, drop_all, take_all}
use Rattle.std.proofs.lemmas.List.Quantifiers.{position-Some}
use Rattle.updater_text.specs.Lent.{with_front}
use Rattle.machine.specs.declared.world.Named.{Named}
use Rattle.machine.specs.declared.world.World.{World}
use Rattle.machine.specs.World.{bytes_under, patch_under, put_under}
use Rattle.machine.specs.Past.{but_last}
use Rattle.undo_log.specs.Effects.{has_room}
use Rattle.undo_log.specs.Undo.{replace_under, files_before_put, with_bytes}
use Rattle.undo_log.proofs.Noting.{but_last-push}

first_back : (xs : List Named) (p bytes : List ℕ) (i : ℕ) (d : Named) → i < length xs → bytes_eq (get_or xs i d).path p ≡ true → ((k : ℕ) → k < i → bytes_eq (get_or xs k d).path p ≡ false) → replace_under xs p bytes ≡ slice_set xs i (record (get_or xs i d) { bytes = bytes })
first_back [] p bytes i d within here earlier = absurd (omega arith)
first_back (x ∷ xs) p bytes zero d within here earlier = rw here refl
first_back (x ∷ xs) p bytes (suc i) d within here earlier =
    rw (earlier 0 (omega arith)) (ap (λ (ns : List Named). x ∷ ns) (first_back xs p bytes i d (omega arith) here (λ k lt. earlier (suc k) (omega arith))))

pub found_back : (xs : List Named) (p bytes : List ℕ) (i : ℕ) (d : Named) → Some i ≡ position (λ (n : Named). bytes_eq n.path p) xs → replace_under xs p bytes ≡ slice_set xs i (record (get_or xs i d) { bytes = bytes })
found_back xs p bytes i d is =
    let first = position-Some (λ (n : Named). bytes_eq n.path p) xs i d (sym is) in
    first_back xs p bytes i d first.0 first.1 first.2

pub back_none : (xs : List Named) (p bytes : List ℕ) → bytes_under xs p ≡ None → replace_under xs p bytes ≡ xs
back_none [] p bytes none = refl
back_none (x ∷ xs) p bytes none =
    elim (bytes_eq x.path p) as (λ b. cond b (Some x.bytes) (bytes_under xs p) ≡ None → cond b (record x { bytes = bytes } ∷ xs) (x ∷ replace_under xs p bytes) ≡ x ∷ xs) [
      | true ↦ λ h. cc
      | false ↦ λ h. ap (λ (ns : List Named). x ∷ ns) (back_none xs p bytes h)
    ] none

put_some : (xs : List Named) (p bytes old : List ℕ) → bytes_under xs p ≡ Some old → put_under xs p bytes ≡ replace_under xs p bytes
put_some [] p bytes old some = cc
put_some (x ∷ xs) p bytes old some =
    elim (bytes_eq x.path p) as (λ b. cond b (Some x.bytes) (bytes_under xs p) ≡ Some old → cond b (record x { bytes = bytes } ∷ xs) (x ∷ put_under xs p bytes) ≡ cond b (record x { bytes = bytes } ∷ xs) (x ∷ replace_under xs p bytes)) [
      | true ↦ λ h. refl
      | false ↦ λ h. ap (λ (ns : List Named). x ∷ ns) (put_some xs p bytes old h)
    ] some

put_none : (xs : List Named) (p bytes : List ℕ) → bytes_under xs p ≡ None → put_under xs p bytes ≡ xs ++ record { path = p; bytes = bytes } ∷ []
put_none [] p bytes none = refl
put_none (x ∷ xs) p bytes none =
    elim (bytes_eq x.path p) as (λ b. cond b (Some x.bytes) (bytes_under xs p) ≡ None → cond b (record x { bytes = bytes } ∷ xs) (x ∷ put_under xs p bytes) ≡ x ∷ (xs ++ record { path = p; bytes = bytes } ∷ [])) [
      | true ↦ λ h. cc
      | false ↦ λ h. ap (λ (ns : List Named). x ∷ ns) (put_none xs p bytes h)
    ] none

back_back : (xs : List Named) (p bytes old : List ℕ) → bytes_under xs p ≡ Some old → replace_under (replace_under xs p bytes) p old ≡ xs
back_back [] p bytes old some = refl
back_back (x ∷ xs) p bytes old some =
    elim (bytes_eq x.path p) as (λ b. bytes_eq x.path p ≡ b → cond b (Some x.bytes) (bytes_under xs p) ≡ Some old → replace_under (cond b (record x { bytes = bytes } ∷ xs) (x ∷ replace_under xs p bytes)) p old ≡ x ∷ xs) [
      | true ↦ λ e h. let same : x.bytes ≡ old = cc in rw e (ap (λ (b : List ℕ). record x { bytes = b } ∷ xs) (sym same))
      | false ↦ λ e h. rw e (ap (λ (ns : List Named). x ∷ ns) (back_back xs p bytes old h))
    ] refl some

-- what is so is so of an error
pub on_err : {T E : Type 0} (r : Result T E) (P : Type 0) → P → OnErr r P
on_err (Ok x) P h = tt
on_err (Err e) P h = h

-- a list of which all items were written
pub whole_list : (items front : List Named) → length front ≡ length items → with_front items front ≡ front
whole_list items front same =
    ap (λ (rest : List Named). take (length items) (front ++ rest)) (drop_all (length front) items (omega (arith, same)))
    ∙ ap (λ (xs : List Named). take (length items) xs) (append-nil front)
    ∙ take_all (length items) front (omega (arith, same))

module _ (xs lent after : List Named) (p bytes : List ℕ) (given : lent ≡ xs) (is : after ≡ replace_under lent p bytes) (as_long : length after ≡ length lent) where
  now_back : with_front xs after ≡ replace_under xs p bytes
  now_back = whole_list xs after (as_long ∙ ap length given) ∙ is ∙ ap (λ (ns : List Named). replace_under ns p bytes) given

  -- bytes were there
  pub put_there : (old : List ℕ) → bytes_under lent p ≡ Some old → with_front xs after ≡ put_under xs p bytes
  put_there old there = now_back ∙ sym (put_some xs p bytes old (sym (ap (λ (ns : List Named). bytes_under ns p) given) ∙ there))

  pub put_there_back : (old : List ℕ) → bytes_under lent p ≡ Some old → files_before_put (with_front xs after) p (Some old) ≡ xs
  put_there_back old there =
      ap (λ (ns : List Named). replace_under ns p old) now_back
      ∙ back_back xs p bytes old (sym (ap (λ (ns : List Named). bytes_under ns p) given) ∙ there)

  -- none were there
  pub put_kept : bytes_under lent p ≡ None → with_front xs after ≡ xs
  put_kept none = now_back ∙ back_none xs p bytes (sym (ap (λ (ns : List Named). bytes_under ns p) given) ∙ none)

  pub put_last : (named : List ℕ) (last : List Named) → bytes_under lent p ≡ None → named ≡ p → last ≡ with_front xs after ++ record { path = named; bytes = bytes } ∷ [] → last ≡ put_under xs p bytes
  put_last named last none same pushed =
      pushed
      ∙ ap (λ (ns : List Named). ns ++ record { path = named; bytes = bytes } ∷ []) (put_kept none)
      ∙ ap (λ (q : List ℕ). xs ++ record { path = q; bytes = bytes } ∷ []) same
      ∙ sym (put_none xs p bytes (sym (ap (λ (ns : List Named). bytes_under ns p) given) ∙ none))

  pub put_last_back : (n : Named) (last : List Named) → bytes_under lent p ≡ None → last ≡ with_front xs after ++ n ∷ [] → files_before_put last p None ≡ xs
  put_last_back n last none pushed =
      ap (λ (ns : List Named). but_last ns) (pushed ∙ ap (λ (ns : List Named). ns ++ n ∷ []) (put_kept none))
      ∙ but_last-push xs n

  -- given back
  pub put_back_there : with_front xs after ≡ replace_under xs p bytes
  put_back_there = now_back

-- bytes of a disk given back
with_bytes_in : (w : World) (ns : List Named) (p : List ℕ) (at : ℕ) (bytes : List ℕ) → ns ≡ patch_under w.disks p at bytes → has_room w p (at + length bytes) ≡ true → record w { disks = ns } ≡ with_bytes w p at bytes
with_bytes_in w ns p at bytes is room =
    ap (λ (ds : List Named). record w { disks = ds }) (is ∙ ap (λ (b : Bool). cond b (patch_under w.disks p at bytes) w.disks) (sym room))

pub with_bytes_is : (w : World) (lent after : List Named) (p : List ℕ) (at : ℕ) (bytes : List ℕ) → lent ≡ w.disks → after ≡ patch_under lent p at bytes → length after ≡ length lent → has_room w p (at + length bytes) ≡ true → record w { disks = with_front w.disks after } ≡ with_bytes w p at bytes
with_bytes_is w lent after p at bytes given is as_long room =
    with_bytes_in w (with_front w.disks after) p at bytes
    (whole_list w.disks after (as_long ∙ ap length given) ∙ is ∙ ap (λ (ns : List Named). patch_under ns p at bytes) given)
    room
