-- What the clock said first, along the calls.
use Rattle.std.proofs.Common.{◌≡◌, inl, inr, ℕ, ℤ, List, Option, Some, None, refl, ◌∙◌, ap}
use Rattle.conf_forms.specs.Lists.{first_of, or_else}
use Rattle.conf_forms.proofs.FirstOf.{first_of-append}
use Rattle.machine.specs.Past.{File, Call, End, Done, Broken, Overlong, Grows, IsCall, Past, moments_since}
use Rattle.machine.specs.Runs.{ReadsOnce}
use Rattle.machine.proofs.Moments.{made_joins}
use Rattle.machine.proofs.CallsMade.{made_one, no_moments}
use Rattle.status_file.specs.Clock.{clock_since, said_by, seconds_of}

-- first in the one, or else in the other
pub clock_joins : (a b c : Past) → Grows a b → Grows b c → clock_since a c ≡ or_else (clock_since a b) (clock_since b c)
clock_joins a b c ab bc = ap (first_of seconds_of) (made_joins a b c ab bc) ∙ first_of-append seconds_of (moments_since a b) (moments_since b c)

-- nothing was called
pub clock_none : (a b : Past) → b ≡ a → clock_since a b ≡ None
clock_none a b same = ap (first_of seconds_of) (no_moments a b same)

-- one call
pub clock_call : (a b : Past) (call : Call) (end : End) → IsCall a b call end → clock_since a b ≡ or_else (said_by call end) None
clock_call a b call end did = ap (first_of seconds_of) (made_one a b call end did)

file_says : (path : List ℕ) (end : End) → said_by (File path) end ≡ None
file_says path Done = refl
file_says path Broken = refl
file_says path Overlong = refl

-- a read of a file is none of the clock
pub clock_once : (path : List ℕ) (a b : Past) → ReadsOnce path a b → clock_since a b ≡ None
clock_once path a b (inl same) = clock_none a b same
clock_once path a b (inr did) = clock_call a b (File path) did.0 did.1 ∙ ap (λ (o : Option ℤ). or_else o None) (file_says path did.0)

-- so what the clock said after it is what it said first
pub clock_after : (a b c : Past) → clock_since a b ≡ None → Grows a b → Grows b c → clock_since a c ≡ clock_since b c
clock_after a b c none ab bc = clock_joins a b c ab bc ∙ ap (λ (o : Option ℤ). or_else o (clock_since b c)) none

-- and what it said already stays
pub clock_stays : (a b c : Past) (seconds : ℤ) → clock_since a b ≡ Some seconds → Grows a b → Grows b c → clock_since a c ≡ Some seconds
clock_stays a b c seconds said ab bc = clock_joins a b c ab bc ∙ ap (λ (o : Option ℤ). or_else o (clock_since b c)) said
