-- How the past goes on, and what is true of each world since a moment.
use Rattle.std.proofs.Common.{◌≡◌, ◌⊎◌, inl, inr, ⊎_elim, ℕ, List, [], ◌∷◌, ◌++◌, length, take, drop, ◌≤◌, arith, Result, Ok, Err, refl, sym, ◌∙◌, ap, subst, append_assoc}
use Rattle.std.proofs.lemmas.List.{append-nil, drop_at, length-take-le, take-append-drop, take-take}
use Rattle.boot_model.specs.declared.boot_kind.BootKind.{BootKind}
use Rattle.machine.specs.declared.world.World.{World}
use Rattle.machine.specs.declared.calls.CallStop.{CallStop}
use Rattle.machine.specs.declared.calls.CallStop.TheVariants.{Failed, NoMemory}
use Rattle.machine.specs.Crash.{Crash}
use Rattle.machine.specs.Past.{Call, End, Done, Broken, Moment, Past, After, Inside, world_after, world_now, with_moments, moments_since, Grows, WorldAmong, WorldSince, Held, Always, IsCall, until, HeldSince, HeldJoins}
use Rattle.machine.specs.Calls.{Ends}

pub made_more : (p : Past) (ms : List Moment) → moments_since p (with_moments p ms) ≡ ms
made_more p ms = drop_at p.moments ms (length p.moments) refl

pub grows_more : (p : Past) (ms : List Moment) → Grows p (with_moments p ms)
grows_more p ms = ap (λ (ns : List Moment). with_moments p ns) (sym (made_more p ms))

more_none : (p : Past) → with_moments p [] ≡ p
more_none p = ap (λ (ms : List Moment). record p { moments = ms }) (append-nil p.moments)

pub grows_refl : (p : Past) → Grows p p
grows_refl p = subst (λ (q : Past). Grows p q) (more_none p) (grows_more p [])

pub made_none : (p : Past) → moments_since p p ≡ []
made_none p = subst (λ (q : Past). moments_since p q ≡ []) (more_none p) (made_more p [])

pub world_after-append : (w : World) (ms ns : List Moment) → world_after w (ms ++ ns) ≡ world_after (world_after w ms) ns
world_after-append w [] ns = refl
world_after-append w (m ∷ ms) ns = world_after-append m.after ms ns

pub now-more : (p : Past) (ms : List Moment) → world_now (with_moments p ms) ≡ world_after (world_now p) ms
now-more p ms = world_after-append p.first p.moments ms

pub now-grows : (a b : Past) → Grows a b → world_now b ≡ world_after (world_now a) (moments_since a b)
now-grows a b g = ap world_now g ∙ now-more a (moments_since a b)

more_joins : (a b c : Past) → Grows a b → Grows b c → c ≡ with_moments a (moments_since a b ++ moments_since b c)
more_joins a b c ab bc =
    bc
    ∙ ap (λ (p : Past). with_moments p (moments_since b c)) ab
    ∙ ap (λ (ms : List Moment). record a { moments = ms }) (append_assoc a.moments (moments_since a b) (moments_since b c))

pub made_joins : (a b c : Past) → Grows a b → Grows b c → moments_since a c ≡ moments_since a b ++ moments_since b c
made_joins a b c ab bc =
    ap (λ (p : Past). moments_since a p) (more_joins a b c ab bc) ∙ made_more a (moments_since a b ++ moments_since b c)

pub grows_trans : (a b c : Past) → Grows a b → Grows b c → Grows a c
grows_trans a b c ab bc =
    subst (λ (q : Past). Grows a q) (sym (more_joins a b c ab bc)) (grows_more a (moments_since a b ++ moments_since b c))

-- the boot loader stays
pub same_boot : (a b : Past) → Grows a b → b.boot ≡ a.boot
same_boot a b g = ap (λ (p : Past). p.boot) g

-- each world of two runs is one of the first or one of the second
pub WasIn-append : (boot : BootKind) (w : World) (ms ns : List Moment) (u : World) → WorldAmong boot w (ms ++ ns) u → WorldAmong boot w ms u ⊎ WorldAmong boot (world_after w ms) ns u
WasIn-append boot w [] ns u was = inr was
WasIn-append boot w (m ∷ ms) ns u (inl e) = inl (inl e)
WasIn-append boot w (m ∷ ms) ns u (inr (inl inside)) = inl (inr (inl inside))
WasIn-append boot w (m ∷ ms) ns u (inr (inr later)) =
    ⊎_elim (λ h. inl (inr (inr h))) (λ h. inr h) (WasIn-append boot m.after ms ns u later)

pub WasIn-left : (boot : BootKind) (w : World) (ms ns : List Moment) (u : World) → WorldAmong boot w ms u → WorldAmong boot w (ms ++ ns) u
WasIn-left boot w [] [] u e = e
WasIn-left boot w [] (n ∷ ns) u e = inl e
WasIn-left boot w (m ∷ ms) ns u (inl e) = inl e
WasIn-left boot w (m ∷ ms) ns u (inr (inl inside)) = inr (inl inside)
WasIn-left boot w (m ∷ ms) ns u (inr (inr later)) = inr (inr (WasIn-left boot m.after ms ns u later))

pub WasIn-right : (boot : BootKind) (w : World) (ms ns : List Moment) (u : World) → WorldAmong boot (world_after w ms) ns u → WorldAmong boot w (ms ++ ns) u
WasIn-right boot w [] ns u was = was
WasIn-right boot w (m ∷ ms) ns u was = inr (inr (WasIn-right boot m.after ms ns u was))

module _ (a b c : Past) (ab : Grows a b) (bc : Grows b c) (u : World) where
  -- the worlds since b, from the worlds and the boot loader of a
  since_b : WorldSince b c u ≡ WorldAmong a.boot (world_after (world_now a) (moments_since a b)) (moments_since b c) u
  since_b =
      ap (λ (boot : BootKind). WorldAmong boot (world_now b) (moments_since b c) u) (same_boot a b ab)
      ∙ ap (λ (w : World). WorldAmong a.boot w (moments_since b c) u) (now-grows a b ab)

  pub was_splits : WorldSince a c u → WorldSince a b u ⊎ WorldSince b c u
  was_splits was =
      let at = subst (λ (ms : List Moment). WorldAmong a.boot (world_now a) ms u) (made_joins a b c ab bc) was in
      let back : WorldAmong a.boot (world_after (world_now a) (moments_since a b)) (moments_since b c) u → WorldSince b c u = λ h. subst (λ (T : Type 0). T) (sym since_b) h in
      ⊎_elim (λ h. inl h) (λ h. inr (back h)) (WasIn-append a.boot (world_now a) (moments_since a b) (moments_since b c) u at)

  pub was_before : WorldSince a b u → WorldSince a c u
  was_before was =
      subst (λ (ms : List Moment). WorldAmong a.boot (world_now a) ms u) (sym (made_joins a b c ab bc)) (WasIn-left a.boot (world_now a) (moments_since a b) (moments_since b c) u was)

  pub was_after : WorldSince b c u → WorldSince a c u
  was_after was =
      subst (λ (ms : List Moment). WorldAmong a.boot (world_now a) ms u) (sym (made_joins a b c ab bc))
      (WasIn-right a.boot (world_now a) (moments_since a b) (moments_since b c) u (subst (λ (T : Type 0). T) since_b was))

-- the law that joins what calls say of a stop
pub held_splits : (a b c : Past) → Grows a b → Grows b c → (v : World) → Held a c v → Held a b v ⊎ Held b c v
held_splits a b c ab bc v held =
    ⊎_elim (λ h. inl (held.0, h, held.2)) (λ h. inr (held.0, h, held.2)) (was_splits a b c ab bc held.0 held.1)

pub held_joins : (a b c : Past) → Grows a b → Grows b c → (v : World) → Held a b v ⊎ Held b c v → Held a c v
held_joins a b c ab bc v (inl h) = (h.0, was_before a b c ab bc h.0 h.1, h.2)
held_joins a b c ab bc v (inr h) = (h.0, was_after a b c ab bc h.0 h.1, h.2)

-- `Always`: before the first call, over two runs, over one call
pub always_start : (a : Past) (P : World → Type 0) → P (world_now a) → Always a a P
always_start a P here = record {
  grows = grows_refl a;
  each = λ u was. subst P (sym (subst (λ (ms : List Moment). WorldAmong a.boot (world_now a) ms u) (made_none a) was)) here;
}

pub always_joins : (a b c : Past) (P : World → Type 0) → Always a b P → Always b c P → Always a c P
always_joins a b c P ab bc = record {
  grows = grows_trans a b c ab.grows bc.grows;
  each = λ u was. ⊎_elim (ab.each u) (bc.each u) (was_splits a b c ab.grows bc.grows u was);
}

pub always_weaker : (a b : Past) (P Q : World → Type 0) → ((u : World) → P u → Q u) → Always a b P → Always a b Q
always_weaker a b P Q f ab = record { grows = ab.grows; each = λ u was. f u (ab.each u was) }

pub did_grows : (a b : Past) (call : Call) (end : End) → IsCall a b call end → Grows a b
did_grows a b call end did =
    subst (λ (q : Past). Grows a q) (sym did.grows) (grows_more a (record { call = call; end = end; after = world_now b } ∷ []))

pub always_did : (a b : Past) (call : Call) (end : End) (P : World → Type 0) → IsCall a b call end → P (world_now a) → ((u : World) → Inside a.boot call (world_now a) u → P u) → P (world_now b) → Always a b P
always_did a b call end P did here inside there = record {
  grows = did_grows a b call end did;
  each = λ u was.
      let made_one = ap (λ (p : Past). moments_since a p) did.grows ∙ made_more a (record { call = call; end = end; after = world_now b } ∷ []) in
      let at = subst (λ (ms : List Moment). WorldAmong a.boot (world_now a) ms u) made_one was in
      ⊎_elim (λ e. subst P (sym e) here) (λ h. ⊎_elim (inside u) (λ e. subst P (sym e) there) h) at;
}

-- however the call ended
pub always_ends : {T : Type 0} (a b : Past) (call : Call) (P : World → Type 0) (result : Result T CallStop) → Ends a b call result → P (world_now a) → ((u : World) → Inside a.boot call (world_now a) u → P u) → ((end : End) (v : World) → After a.boot call end (world_now a) v → P v) → Always a b P
always_ends a b call P (Ok x) did here inside after = always_did a b call Done P did here inside (after Done (world_now b) did.after)
always_ends a b call P (Err Failed) did here inside after = always_did a b call Broken P did here inside (after Broken (world_now b) did.after)
always_ends a b call P (Err NoMemory) same here inside after = subst (λ (q : Past). Always a q P) (sym same) (always_start a P here)

-- what a stop leaves
pub held_of : (a b : Past) (P Q : World → Type 0) → Always a b P → ((u v : World) → P u → Crash u v → Q v) → (v : World) → Held a b v → Q v
held_of a b P Q ab f v held = f held.0 v (ab.each held.0 held.1) held.2

-- the world now is one of those since
WasIn-last : (boot : BootKind) (w : World) (ms : List Moment) → WorldAmong boot w ms (world_after w ms)
WasIn-last boot w [] = refl
WasIn-last boot w (m ∷ ms) = inr (inr (WasIn-last boot m.after ms))

pub was_now : (a b : Past) → Grows a b → WorldSince a b (world_now b)
was_now a b g = subst (λ (w : World). WorldSince a b w) (sym (now-grows a b g)) (WasIn-last a.boot (world_now a) (moments_since a b))

pub always_now : (a b : Past) (P : World → Type 0) → Always a b P → P (world_now b)
always_now a b P ab = ab.each (world_now b) (was_now a b ab.grows)

-- one call more
pub always_goes_on : {T : Type 0} (a b c : Past) (call : Call) (P : World → Type 0) (result : Result T CallStop) → Always a b P → Ends b c call result → ((u : World) → P (world_now b) → Inside b.boot call (world_now b) u → P u) → ((end : End) (v : World) → P (world_now b) → After b.boot call end (world_now b) v → P v) → Always a c P
always_goes_on a b c call P result ab ends inside after =
    let here = always_now a b P ab in
    always_joins a b c P ab (always_ends b c call P result ends here (λ u h. inside u here h) (λ end v h. after end v here h))

-- the law of `Held`, by numbers of moments
grows-until : (p : Past) (t : ℕ) → t ≤ length p.moments → Grows (until t p) p
grows-until p t le =
    let n : length (take t p.moments) ≡ t = length-take-le t p.moments le in
    let rest : drop (length (take t p.moments)) p.moments ≡ drop t p.moments = ap (λ (k : ℕ). drop k p.moments) n in
    ap (λ (ms : List Moment). record p { moments = ms }) (sym (take-append-drop t p.moments) ∙ ap (λ (ms : List Moment). take t p.moments ++ ms) (sym rest))

until-until : (p : Past) (t0 t1 : ℕ) → t0 ≤ t1 → until t0 (until t1 p) ≡ until t0 p
until-until p t0 t1 le = ap (λ (ms : List Moment). record p { moments = ms }) (take-take t0 t1 p.moments le)

pub held_law : HeldJoins
held_law p t0 t1 v le within =
    let few : t0 ≤ length (until t1 p).moments = omega (arith, length-take-le t1 p.moments within) in
    let first = subst (λ (q : Past). Grows q (until t1 p)) (until-until p t0 t1 le) (grows-until (until t1 p) t0 few) in
    let last = grows-until p t1 within in
    let there : Held (until t0 p) (until t1 p) v → HeldSince t0 (until t1 p) v = λ h. subst (λ (q : Past). Held q (until t1 p) v) (sym (until-until p t0 t1 le)) h in
    let back : HeldSince t0 (until t1 p) v → Held (until t0 p) (until t1 p) v = λ h. subst (λ (q : Past). Held q (until t1 p) v) (until-until p t0 t1 le) h in (
      λ h. ⊎_elim (λ e. inr (there e)) (λ l. inl l) (held_splits (until t0 p) (until t1 p) p first last v h),
      λ h. held_joins (until t0 p) (until t1 p) p first last v (⊎_elim (λ l. inr l) (λ e. inl (back e)) h),
    )
