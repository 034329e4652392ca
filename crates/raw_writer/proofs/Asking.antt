-- Calls that ask for lengths, one after another.
use Rattle.std.proofs.Common.{◌≡◌, ◌&&◌, ◌++◌, ℕ, Bool, true, false, List, [], ◌∷◌, Result, Ok, Err, IsTrue, refl, sym, ◌∙◌, ap, subst}
use Rattle.std.specs.List.{list_all}
use Rattle.machine.specs.declared.calls.CallStop.{CallStop}
use Rattle.machine.specs.declared.calls.CallStop.TheVariants.{Failed, NoMemory}
use Rattle.machine.specs.Calls.{Ends}
use Rattle.machine.specs.Past.{Size, End, Done, Broken, Grows, IsCall, Moment, Past, moments_since}
use Rattle.machine.proofs.Moments.{did_grows, grows_refl, grows_trans, made_joins}
use Rattle.machine.proofs.CallsMade.{made_one, no_moments}
use Rattle.raw_writer.specs.Checking.{AsksLengths, asks_length}

with_first : (first rest all : Bool) → (first && rest) ≡ true → (rest ≡ true → all ≡ true) → (first && all) ≡ true
with_first true rest all h f = f h
with_first false rest all h f = cc

both : (ms ns : List Moment) → list_all (λ m. asks_length m.call) ms ≡ true → list_all (λ m. asks_length m.call) ns ≡ true → list_all (λ m. asks_length m.call) (ms ++ ns) ≡ true
both [] ns left right = right
both (m ∷ ms) ns left right = with_first (asks_length m.call) (list_all (λ n. asks_length n.call) ms) (list_all (λ n. asks_length n.call) (ms ++ ns)) left (λ h. both ms ns h right)

pub asks_none : (t : Bool) (a : Past) → AsksLengths t a a
asks_none t a = record {
  grows = λ told. grows_refl a;
  all = λ told. ap (λ (ms : List Moment). list_all (λ m. asks_length m.call) ms) (no_moments a a refl);
}

pub asks_join : (t : Bool) (a b c : Past) → AsksLengths t a b → AsksLengths t b c → AsksLengths t a c
asks_join t a b c ab bc = record {
  grows = λ told. grows_trans a b c (ab.grows told) (bc.grows told);
  all = λ told. ap (λ (ms : List Moment). list_all (λ m. asks_length m.call) ms) (made_joins a b c (ab.grows told) (bc.grows told)) ∙ both (moments_since a b) (moments_since b c) (ab.all told) (bc.all told);
}

one : (t : Bool) (a b : Past) (path : List ℕ) (end : End) → (IsTrue t → IsCall a b (Size path) end) → AsksLengths t a b
one t a b path end did = record {
  grows = λ told. did_grows a b (Size path) end (did told);
  all = λ told. ap (λ (ms : List Moment). list_all (λ m. asks_length m.call) ms) (made_one a b (Size path) end (did told));
}

pub asks_size : {T : Type 0} (t : Bool) (a b : Past) (path : List ℕ) (result : Result T CallStop) → (IsTrue t → Ends a b (Size path) result) → AsksLengths t a b
asks_size t a b path (Ok x) ends = one t a b path Done ends
asks_size t a b path (Err Failed) ends = one t a b path Broken ends
asks_size t a b path (Err NoMemory) ends = record {
  grows = λ told. subst (λ (q : Past). Grows a q) (sym (ends told)) (grows_refl a);
  all = λ told. subst (λ (q : Past). list_all (λ m. asks_length m.call) (moments_since a q) ≡ true) (sym (ends told)) ((asks_none t a).all told);
}
