-- Which calls failed, and in which world a number of children had been run.
use Rattle.std.proofs.Common.{◌≡◌, ◌||◌, ◌&&◌, ◌==◌, ◌+◌, inl, inr, ℕ, Bool, true, false, cond, List, [], ◌∷◌, ◌++◌, drop, length, Option, None, refl, sym, ◌∙◌, ap, subst, arith, append_assoc}
use Rattle.std.proofs.lemmas.List.{drop_at, length-append}
use Rattle.std.proofs.lemmas.Bool.{true≢false}
use Rattle.std.proofs.lemmas.Bool.Decides.{nat_tests}
use Rattle.boot_model.specs.declared.boot_kind.BootKind.{BootKind}
use Rattle.machine.specs.declared.stops.Fault.{Fault}
use Rattle.machine.specs.declared.world.RunNote.{RunNote}
use Rattle.machine.specs.declared.world.World.{World}
use Rattle.machine.specs.Past.{After, Call, File, End, Done, Broken, Overlong, Moment, Past, Grows, IsCall, failed_or, failed_since, first_failed, kind_of, moments_since, world_now}
use Rattle.machine.specs.Runs.{ReadsOnce, first_failed_but, RunSince, has_failed, is_broken, runs_since, world_after_runs, world_with}
use Rattle.machine.proofs.Moments.{grows_refl, grows_trans, did_grows, made_joins, made_more, made_none}

-- ---- which failed

none_later : (end : End) (kind : Fault) (later : Option Fault) → failed_or end kind later ≡ None → later ≡ None
none_later Done kind later e = e
none_later Overlong kind later e = e
none_later Broken kind later e = absurd (cc)

none_here : (end : End) (kind : Fault) (later other after : Option Fault) → failed_or end kind later ≡ None → other ≡ after → failed_or end kind other ≡ after
none_here Done kind later other after e h = h
none_here Overlong kind later other after e h = h
none_here Broken kind later other after e h = absurd (cc)

not_broken : (end : End) (kind : Fault) (later : Option Fault) → failed_or end kind later ≡ None → is_broken end ≡ false
not_broken Done kind later e = refl
not_broken Overlong kind later e = refl
not_broken Broken kind later e = absurd (cc)

but_append : (out : Call → Bool) (ms ns : List Moment) → first_failed ms ≡ None → first_failed_but out (ms ++ ns) ≡ first_failed_but out ns
but_append out [] ns e = refl
but_append out (m ∷ ms) ns e =
    let rest = but_append out ms ns (none_later m.end (kind_of m.call) (first_failed ms) e) in
    elim (out m.call) as (λ b. cond b (first_failed_but out (ms ++ ns)) (failed_or m.end (kind_of m.call) (first_failed_but out (ms ++ ns))) ≡ first_failed_but out ns) [
      | true ↦ rest
      | false ↦ none_here m.end (kind_of m.call) (first_failed ms) (first_failed_but out (ms ++ ns)) (first_failed_but out ns) e rest
    ]

-- none is left out
pub but_nothing : (ms : List Moment) → first_failed_but (λ call. false) ms ≡ first_failed ms
but_nothing [] = refl
but_nothing (m ∷ ms) = ap (λ (later : Option Fault). failed_or m.end (kind_of m.call) later) (but_nothing ms)

-- nothing failed before
pub but_joins : (out : Call → Bool) (a b c : Past) → Grows a b → Grows b c → failed_since a b ≡ None → first_failed_but out (moments_since a c) ≡ first_failed_but out (moments_since b c)
but_joins out a b c ab bc none =
    ap (λ (ms : List Moment). first_failed_but out ms) (made_joins a b c ab bc) ∙ but_append out (moments_since a b) (moments_since b c) none

and_false : (a b : Bool) → b ≡ false → (a && b) ≡ false
and_false true b e = e
and_false false b e = refl

-- what comes after is not told
but_front : (out : Call → Bool) (ms ns : List Moment) → first_failed_but out ns ≡ None → first_failed_but out (ms ++ ns) ≡ first_failed_but out ms
but_front out [] ns e = e
but_front out (m ∷ ms) ns e =
    ap (λ (later : Option Fault). cond (out m.call) later (failed_or m.end (kind_of m.call) later)) (but_front out ms ns e)

pub but_before : (out : Call → Bool) (a b c : Past) → Grows a b → Grows b c → first_failed_but out (moments_since b c) ≡ None → first_failed_but out (moments_since a c) ≡ first_failed_but out (moments_since a b)
but_before out a b c ab bc none =
    ap (λ (ms : List Moment). first_failed_but out ms) (made_joins a b c ab bc) ∙ but_front out (moments_since a b) (moments_since b c) none

failed_append : (asked : Call → Bool) (ms ns : List Moment) → first_failed ms ≡ None → has_failed asked (ms ++ ns) ≡ has_failed asked ns
failed_append asked [] ns e = refl
failed_append asked (m ∷ ms) ns e =
    ap (λ (b : Bool). b || has_failed asked (ms ++ ns)) (and_false (asked m.call) (is_broken m.end) (not_broken m.end (kind_of m.call) (first_failed ms) e))
    ∙ failed_append asked ms ns (none_later m.end (kind_of m.call) (first_failed ms) e)

pub failed_joins : (asked : Call → Bool) (a b c : Past) → Grows a b → Grows b c → failed_since a b ≡ None → has_failed asked (moments_since a c) ≡ has_failed asked (moments_since b c)
failed_joins asked a b c ab bc none =
    ap (λ (ms : List Moment). has_failed asked ms) (made_joins a b c ab bc) ∙ failed_append asked (moments_since a b) (moments_since b c) none

-- ---- one call

pub made_one : (a b : Past) (call : Call) (end : End) → IsCall a b call end → moments_since a b ≡ record { call = call; end = end; after = world_now b } ∷ []
made_one a b call end did = ap (λ (p : Past). moments_since a p) did.grows ∙ made_more a (record { call = call; end = end; after = world_now b } ∷ [])

-- the call that is asked for failed, or another did
pub but_left_out : (out : Call → Bool) (a b : Past) (call : Call) (end : End) → IsCall a b call end → out call ≡ true → first_failed_but out (moments_since a b) ≡ None
but_left_out out a b call end did is = rw (made_one a b call end did) (rw is refl)

pub but_counted : (out : Call → Bool) (a b : Past) (call : Call) (end : End) → IsCall a b call end → out call ≡ false → first_failed_but out (moments_since a b) ≡ failed_or end (kind_of call) None
but_counted out a b call end did is = rw (made_one a b call end did) (rw is refl)

pub failed_asked : (asked : Call → Bool) (a b : Past) (call : Call) → IsCall a b call Broken → asked call ≡ true → has_failed asked (moments_since a b) ≡ true
failed_asked asked a b call did is = rw (made_one a b call Broken did) (rw is refl)

pub failed_other : (asked : Call → Bool) (a b : Past) (call : Call) (end : End) → IsCall a b call end → asked call ≡ false → has_failed asked (moments_since a b) ≡ false
failed_other asked a b call end did is = rw (made_one a b call end did) (rw is refl)

-- ---- a file was read, or nothing was done

pub no_moments : (a b : Past) → b ≡ a → moments_since a b ≡ []
no_moments a b same = ap (λ (p : Past). moments_since a p) same ∙ made_none a

pub once_grows : (path : List ℕ) (a b : Past) → ReadsOnce path a b → Grows a b
once_grows path a b (inl same) = subst (λ (p : Past). Grows a p) (sym same) (grows_refl a)
once_grows path a b (inr did) = did_grows a b (File path) did.0 did.1

once_after : (boot : BootKind) (path : List ℕ) (w : World) (end : End) (v : World) → After boot (File path) end w v → v ≡ w
once_after boot path w Done v h = h
once_after boot path w Broken v h = h
once_after boot path w Overlong v h = h

pub once_now : (path : List ℕ) (a b : Past) → ReadsOnce path a b → world_now b ≡ world_now a
once_now path a b (inl same) = ap world_now same
once_now path a b (inr did) = once_after a.boot path (world_now a) did.0 (world_now b) did.1.after

-- no reading is left out
pub but_once : (out : Call → Bool) (path : List ℕ) (a b : Past) → out (File path) ≡ false → ReadsOnce path a b → first_failed_but out (moments_since a b) ≡ failed_since a b
but_once out path a b counted (inl same) = rw (no_moments a b same) refl
but_once out path a b counted (inr did) =
    but_counted out a b (File path) did.0 did.1 counted ∙ sym (ap first_failed (made_one a b (File path) did.0 did.1))

failed_once : (asked : Call → Bool) (path : List ℕ) (a b : Past) → asked (File path) ≡ false → ReadsOnce path a b → has_failed asked (moments_since a b) ≡ false
failed_once asked path a b other (inl same) = rw (no_moments a b same) refl
failed_once asked path a b other (inr did) = failed_other asked a b (File path) did.0 did.1 other

failed_rest : (asked : Call → Bool) (ms ns : List Moment) → has_failed asked ms ≡ false → has_failed asked (ms ++ ns) ≡ has_failed asked ns
failed_rest asked [] ns e = refl
failed_rest asked (m ∷ ms) ns e =
    let h = neither (asked m.call && is_broken m.end) (has_failed asked ms) e in
    ap (λ (b : Bool). b || has_failed asked (ms ++ ns)) h.0 ∙ failed_rest asked ms ns h.1
  where
    neither : (a b : Bool) → (a || b) ≡ false → (a ≡ false) × (b ≡ false)
    neither true b e = absurd (true≢false e)
    neither false b e = (refl, e)

-- a read is none of the calls that are asked for
pub failed_after_once : (asked : Call → Bool) (path : List ℕ) (a b c : Past) → asked (File path) ≡ false → ReadsOnce path a b → Grows b c → has_failed asked (moments_since a c) ≡ has_failed asked (moments_since b c)
failed_after_once asked path a b c other once bc =
    ap (λ (ms : List Moment). has_failed asked ms) (made_joins a b c (once_grows path a b once) bc)
    ∙ failed_rest asked (moments_since a b) (moments_since b c) (failed_once asked path a b other once)

-- ---- in which world so many children had been run

pub runs_since_of : (w v : World) (notes : List RunNote) → v.runs ≡ w.runs ++ notes → runs_since w v ≡ notes
runs_since_of w v notes is = ap (λ (rs : List RunNote). drop (length w.runs) rs) is ∙ drop_at w.runs notes (length w.runs) refl

equal_here : (n k : ℕ) → n ≡ k → (n == k) ≡ true
equal_here n k e = grind (arith, nat_tests)

equal_not : (n k : ℕ) → (n ≡ k → ⊥) → (n == k) ≡ false
equal_not n k ne = grind (arith, nat_tests)

with_here : (count : ℕ) (w : World) (ms : List Moment) → length w.runs ≡ count → world_with count w ms ≡ w
with_here count w [] is = refl
with_here count w (m ∷ ms) is = rw (equal_here (length w.runs) count is) refl

with_later : (count : ℕ) (w : World) (m : Moment) (ms : List Moment) → (length w.runs ≡ count → ⊥) → world_with count w (m ∷ ms) ≡ world_with count m.after ms
with_later count w m ms not = rw (equal_not (length w.runs) count not) refl

-- a read does not count
pub after_once : (more : ℕ) (path : List ℕ) (a b c : Past) → ReadsOnce path a b → Grows b c → world_after_runs (more + 1) a c ≡ world_after_runs (more + 1) b c
after_once more path a b c (inl same) bc = ap (λ (p : Past). world_after_runs (more + 1) p c) (sym same)
after_once more path a b c (inr did) bc =
    let now = once_now path a b (inr did) in
    let made = made_joins a b c (did_grows a b (File path) did.0 did.1) bc ∙ ap (λ (ms : List Moment). ms ++ moments_since b c) (made_one a b (File path) did.0 did.1) in
    ap (λ (ms : List Moment). world_with (length (world_now a).runs + (more + 1)) (world_now a) ms) made
    ∙ with_later (length (world_now a).runs + (more + 1)) (world_now a) (record { call = File path; end = did.0; after = world_now b }) (moments_since b c) (λ e. omega (arith, e))
    ∙ ap (λ (w : World). world_with (length w.runs + (more + 1)) (world_now b) (moments_since b c)) (sym now)

-- two children were run by one call each
module _ (a between m b : Past) (call call' : Call) (n n' : RunNote) (one : IsCall a between call Done) (two : IsCall between m call' Done) (ran : RunSince a between (n ∷ [])) (ran' : RunSince between m (n' ∷ [])) where
  pub two_grow : Grows a m
  two_grow = grows_trans a between m (did_grows a between call Done one) (did_grows between m call' Done two)

  pub two_made : moments_since a m ≡ record { call = call; end = Done; after = world_now between } ∷ record { call = call'; end = Done; after = world_now m } ∷ []
  two_made =
      made_joins a between m (did_grows a between call Done one) (did_grows between m call' Done two)
      ∙ ap (λ (ms : List Moment). ms ++ moments_since between m) (made_one a between call Done one)
      ∙ ap (λ (ms : List Moment). record { call = call; end = Done; after = world_now between } ∷ ms) (made_one between m call' Done two)

  pub two_fine : failed_since a m ≡ None
  two_fine = ap first_failed two_made

  pub two_ran : RunSince a m (n ∷ n' ∷ [])
  two_ran = ran' ∙ ap (λ (rs : List RunNote). rs ++ n' ∷ []) ran ∙ append_assoc (world_now a).runs (n ∷ []) (n' ∷ [])

  more : (w v : World) (ns : List RunNote) → v.runs ≡ w.runs ++ ns → length v.runs ≡ length w.runs + length ns
  more w v ns is = ap length is ∙ length-append w.runs ns

  pub two_after : Grows m b → world_after_runs 2 a b ≡ world_now m
  two_after g =
      let first = more (world_now a) (world_now between) (n ∷ []) ran in
      let second = more (world_now a) (world_now m) (n ∷ n' ∷ []) two_ran in
      ap (λ (ms : List Moment). world_with (length (world_now a).runs + 2) (world_now a) ms) (made_joins a m b two_grow g ∙ ap (λ (ms : List Moment). ms ++ moments_since m b) two_made)
      ∙ with_later (length (world_now a).runs + 2) (world_now a) (record { call = call; end = Done; after = world_now between }) (record { call = call'; end = Done; after = world_now m } ∷ moments_since m b) (λ e. omega (arith, e))
      ∙ with_later (length (world_now a).runs + 2) (world_now between) (record { call = call'; end = Done; after = world_now m }) (moments_since m b) (λ e. omega (arith, e, first))
      ∙ with_here (length (world_now a).runs + 2) (world_now m) (moments_since m b) second
