-- From what bytes come to, to the clauses of the call.
use Rattle.std.proofs.Common.{◌≡◌, ℕ, ◌+◌, ◌<◌, ◌≤◌, List, ◌++◌, length, Result, Ok, Err, refl, sym, ap, subst, ◌∙◌, ◌↔◌, inl, inr}
use Rattle.updater_text.specs.declared.stops.Lack.TheVariants as lack
use Rattle.wire_value.proofs.Steps.{IsBytes}
use Rattle.dbus_wire.specs.Spelling.{PlainMessage, Spells}
use Rattle.dbus_wire.specs.Reading.{Answer, need, got, bad, too_large, answer}
use Rattle.dbus_wire.specs.MessageView.{plain}
use Rattle.dbus_wire.specs.Answers.{Answered, IsThere, Answers, Lacks, StatesTooMuch, NoMessage, HasAll, GotIsSpelled, Gets, GetsSpelled, NeedsRest, RefusedOrNoMemory}
use Rattle.dbus_wire.specs.declared.refusal.WireRefusal.TheVariants as refusal
use Rattle.dbus_wire.specs.declared.read.Progress.TheVariants as progress
use Rattle.dbus_wire.proofs.Answering.{spelled, part_needs, bad_begins_none, lacks, lacking_needs, states_too_much, too_much_is_large, got_is_spelled, none_is_bad, settled_has_all}

pub got_clause : (bytes : List ℕ) (r : Answered) → IsBytes bytes → Answers bytes r → GotIsSpelled bytes r
got_clause bytes (Ok (progress.Need more)) fits h = tt
got_clause bytes (Ok (progress.Got m used)) fits h = got_is_spelled bytes (plain m) used fits h
got_clause bytes (Err (lack.Refused refusal.Bad)) fits h = tt
got_clause bytes (Err (lack.Refused (refusal.TooLarge n))) fits h = tt
got_clause bytes (Err lack.NoMemory) fits h = tt

got_only : (m k : PlainMessage) (a b : ℕ) → got m a ≡ got k b → (m ≡ k) × (a ≡ b)
got_only m k a b e = (cc, cc)

gets_by : (bytes : List ℕ) (r : Answered) (m : PlainMessage) (n : ℕ) → Answers bytes r → answer bytes ≡ got m n → Gets m n r
gets_by bytes (Ok (progress.Need more)) m n h e = absurd (differ more (sym h ∙ e))
  where
    differ : (a : ℕ) → need a ≡ got m n → ⊥
    differ a e = cc
gets_by bytes (Ok (progress.Got k used)) m n h e = got_only (plain k) m used n (sym h ∙ e)
gets_by bytes (Err (lack.Refused refusal.Bad)) m n h e = absurd (differ (sym h ∙ e))
  where
    differ : bad ≡ got m n → ⊥
    differ e = cc
gets_by bytes (Err (lack.Refused (refusal.TooLarge k))) m n h e = absurd (differ k (sym h ∙ e))
  where
    differ : (a : ℕ) → too_large a ≡ got m n → ⊥
    differ a e = cc
gets_by bytes (Err lack.NoMemory) m n h e = tt

pub whole_clause : (bytes : List ℕ) (r : Answered) → Answers bytes r → GetsSpelled bytes r
whole_clause bytes r h m text rest s le is = gets_by bytes r m (length text) h (ap answer is ∙ spelled text m rest s le)

need_only : (a b : ℕ) → need a ≡ need b → a ≡ b
need_only a b e = cc

need_by : (bytes : List ℕ) (r : Answered) (n : ℕ) → Answers bytes r → answer bytes ≡ need n → r ≡ Ok (progress.Need n)
need_by bytes (Ok (progress.Need more)) n h e = ap (λ (k : ℕ). Ok (progress.Need k)) (need_only more n (sym h ∙ e))
need_by bytes (Ok (progress.Got k used)) n h e = absurd (differ (plain k) used (sym h ∙ e))
  where
    differ : (m : PlainMessage) (a : ℕ) → got m a ≡ need n → ⊥
    differ m a e = cc
need_by bytes (Err (lack.Refused refusal.Bad)) n h e = absurd (differ (sym h ∙ e))
  where
    differ : bad ≡ need n → ⊥
    differ e = cc
need_by bytes (Err (lack.Refused (refusal.TooLarge k))) n h e = absurd (differ k (sym h ∙ e))
  where
    differ : (a : ℕ) → too_large a ≡ need n → ⊥
    differ a e = cc
need_by bytes (Err lack.NoMemory) n h e = absurd (subst IsThere e h)

pub part_clause : (bytes : List ℕ) (r : Answered) → Answers bytes r → NeedsRest bytes r
part_clause bytes r h m text rest s le is some =
    let p = part_needs bytes rest m (subst (λ (t : List ℕ). Spells t m) is s) (subst (λ (t : List ℕ). length t ≤ 1048576) is le) some in
    (p.0, need_by bytes r p.0 h p.1, p.2, p.3, p.4)

pub need_clause : (bytes : List ℕ) (r : Answered) → Answers bytes r → (more : ℕ) → (r ≡ Ok (progress.Need more)) ↔ Lacks bytes more
need_clause bytes r h more = (
  λ e. lacks bytes more (subst (Answers bytes) e h),
  λ l. need_by bytes r more h (lacking_needs bytes more l),
)

large_only : (a b : ℕ) → too_large a ≡ too_large b → a ≡ b
large_only a b e = cc

large_by : (bytes : List ℕ) (r : Answered) (n : ℕ) → Answers bytes r → answer bytes ≡ too_large n → r ≡ Err (lack.Refused (refusal.TooLarge n))
large_by bytes (Ok (progress.Need more)) n h e = absurd (differ more (sym h ∙ e))
  where
    differ : (a : ℕ) → need a ≡ too_large n → ⊥
    differ a e = cc
large_by bytes (Ok (progress.Got k used)) n h e = absurd (differ (plain k) used (sym h ∙ e))
  where
    differ : (m : PlainMessage) (a : ℕ) → got m a ≡ too_large n → ⊥
    differ m a e = cc
large_by bytes (Err (lack.Refused refusal.Bad)) n h e = absurd (differ (sym h ∙ e))
  where
    differ : bad ≡ too_large n → ⊥
    differ e = cc
large_by bytes (Err (lack.Refused (refusal.TooLarge k))) n h e = ap (λ (k : ℕ). Err (lack.Refused (refusal.TooLarge k))) (large_only k n (sym h ∙ e))
large_by bytes (Err lack.NoMemory) n h e = absurd (subst IsThere e h)

pub large_clause : (bytes : List ℕ) (r : Answered) → Answers bytes r → (n : ℕ) → (r ≡ Err (lack.Refused (refusal.TooLarge n))) ↔ StatesTooMuch bytes n
large_clause bytes r h n = (
  λ e. states_too_much bytes n (subst (Answers bytes) e h),
  λ l. large_by bytes r n h (too_much_is_large bytes n l),
)

pub bad_clause : (bytes : List ℕ) (r : Answered) → Answers bytes r → r ≡ Err (lack.Refused refusal.Bad) → NoMessage bytes
bad_clause bytes r h e = bad_begins_none bytes (subst (Answers bytes) e h)

refuses_by : (bytes : List ℕ) (r : Answered) → Answers bytes r → answer bytes ≡ bad → RefusedOrNoMemory r
refuses_by bytes (Ok (progress.Need more)) h e = absurd (differ more (sym h ∙ e))
  where
    differ : (a : ℕ) → need a ≡ bad → ⊥
    differ a e = cc
refuses_by bytes (Ok (progress.Got k used)) h e = absurd (differ (plain k) used (sym h ∙ e))
  where
    differ : (m : PlainMessage) (a : ℕ) → got m a ≡ bad → ⊥
    differ m a e = cc
refuses_by bytes (Err (lack.Refused refusal.Bad)) h e = tt
refuses_by bytes (Err (lack.Refused (refusal.TooLarge k))) h e = absurd (differ k (sym h ∙ e))
  where
    differ : (a : ℕ) → too_large a ≡ bad → ⊥
    differ a e = cc
refuses_by bytes (Err lack.NoMemory) h e = tt

pub refuses_clause : (bytes : List ℕ) (r : Answered) → IsBytes bytes → Answers bytes r → HasAll bytes → NoMessage bytes → RefusedOrNoMemory r
refuses_clause bytes r fits h all none = refuses_by bytes r h (none_is_bad bytes fits all none)

there_by : (bytes : List ℕ) (a : Answer) → answer bytes ≡ a → IsThere a → HasAll bytes
there_by bytes (need n) e h = absurd h
there_by bytes (got m n) e h = settled_has_all bytes (inr (m, n, e))
there_by bytes bad e h = settled_has_all bytes (inl e)
there_by bytes (too_large n) e h = absurd h

pub memory_clause : (bytes : List ℕ) (r : Answered) → Answers bytes r → r ≡ Err lack.NoMemory → HasAll bytes
memory_clause bytes r h e = there_by bytes (answer bytes) refl (subst (Answers bytes) e h)
