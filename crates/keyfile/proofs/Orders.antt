-- Lines read one after another.
use Rattle.std.proofs.Common.{◌≡◌, ◌∙◌, ◌+◌, ◌<◌, ◌⊎◌, inl, inr, ap, sym, refl, subst, ℕ, suc, Bool, true, false, ◌||◌, List, [], ◌∷◌, ◌++◌, length, take, drop, map, get_or, Option, Some, None, Result, Ok, Err, is_some, option_map, if◌then◌else◌, arith, append_assoc, length-append, drop-cons}
use Rattle.std.specs.Prelude.{filter_map, unwrap_or}
use Rattle.std.proofs.Math.Seq.{take-append_seam}
use Rattle.std.proofs.lemmas.List.{append-nil, drop_all, map-append}
use Rattle.std.specs.List.{cons_option, drop-map, enumerate_from, position_or_len}
use Rattle.std.specs.Str.{bytes_eq}
use Rattle.keyfile.proofs.Distinct.{equal_text, is_in}
use Rattle.keyfile.proofs.Merging.{groups_from-entry, groups_from-heading, group_place-groups_from, position-in_groups}
use Rattle.keyfile.specs.Escapes.{unescape}
use Rattle.keyfile.specs.Groups.{Text, Group, group_place}
use Rattle.keyfile.specs.Lines.{Line, nothing, heading, entry, bad, line_of}
use Rattle.updater_text.specs.Answers.{Gives}
use Rattle.keyfile.specs.Reading.{InGroup, distinct, fault_of, group_below, groups_from, groups_of, in_groups, entry_in_group, read_lines_of, unless_faulty}
use Rattle.keyfile.specs.Steps.{State, GivesState, after_entry, after_line}
use Rattle.updater_text.specs.declared.stops.Lack.{Lack}
use Rattle.updater_text.specs.declared.stops.Lack.TheVariants as lack
use Rattle.keyfile.specs.declared.fault.KeyFault.{KeyFault}
use Rattle.keyfile.specs.declared.fault.KeyFault.TheVariants as fault

-- the place of a group among all
abbrev pub place_in : List InGroup → Option Text → Option ℕ
place_in all group = option_map (λ n. position_or_len (bytes_eq n) (distinct (map (λ p. p.0) all))) group

-- the groups, and the place of the one that the last heading names
abbrev pub state : List InGroup → Option Text → State
state all group = (groups_from all, place_in all group)

-- a fault, or else the state
abbrev pub judged : Option KeyFault → State → Result State KeyFault
judged None new = Ok new
judged (Some refusal) new = Err refusal

-- one line more, of a state that lines made
step_entry : (all : List InGroup) (n key : Text) (number : ℕ) → is_in (map (λ p. p.0) all) n ≡ true → (value : Option Text)
    → after_entry (groups_from all) (position_or_len (bytes_eq n) (distinct (map (λ p. p.0) all))) number key value
    ≡ judged (if is_some value then None else Some (fault.BadEscape number)) (state (all ++ (n, Some (key, unwrap_or value [])) ∷ []) (Some n))
step_entry all n key number there None = refl
step_entry all n key number there (Some value) =
    ap (λ (gs : List Group). Ok (gs, Some (position_or_len (bytes_eq n) (distinct (map (λ p. p.0) all))))) (sym (groups_from-entry all n key value there))
    ∙ ap (λ (i : ℕ). Ok (groups_from (all ++ (n, Some (key, value)) ∷ []), Some i)) (sym (position-in_groups all n (Some (key, value))))

step : (all : List InGroup) (group : Option Text) (number : ℕ) (line : Line) → ((n : Text) → group ≡ Some n → is_in (map (λ p. p.0) all) n ≡ true)
    → after_line (groups_from all) (place_in all group) number line ≡ judged (fault_of group number line) (state (all ++ in_groups group (line ∷ [])) (group_below group (line ∷ [])))
step all group number nothing there = ap (λ (a : List InGroup). Ok (state a group)) (sym (append-nil all))
step all group number (heading n) there =
    ap (λ (gs : List Group). Ok (gs, Some (group_place (groups_from all) n))) (sym (groups_from-heading all n))
    ∙ ap (λ (i : ℕ). Ok (groups_from (all ++ (n, None) ∷ []), Some i)) (group_place-groups_from all n ∙ sym (position-in_groups all n None))
step all None number (entry key value) there = refl
step all (Some n) number (entry key value) there = step_entry all n key number (there n refl) (unescape value)
step all group number bad there = refl

-- lines and one more
group_below-more : (above : Option Text) (done : List Line) (line : Line) → group_below above (done ++ line ∷ []) ≡ group_below (group_below above done) (line ∷ [])
group_below-more above [] line = refl
group_below-more above (nothing ∷ more) line = group_below-more above more line
group_below-more above (heading name ∷ more) line = group_below-more (Some name) more line
group_below-more above (entry key value ∷ more) line = group_below-more above more line
group_below-more above (bad ∷ more) line = group_below-more above more line

in_groups-more : (above : Option Text) (done : List Line) (line : Line) → in_groups above (done ++ line ∷ []) ≡ in_groups above done ++ in_groups (group_below above done) (line ∷ [])
in_groups-more above [] line = refl
in_groups-more above (nothing ∷ more) line = in_groups-more above more line
in_groups-more above (heading name ∷ more) line = ap (λ (t : List InGroup). (name, None) ∷ t) (in_groups-more (Some name) more line)
in_groups-more above (entry key value ∷ more) line =
    ap (λ (t : List InGroup). entry_in_group above key value ++ t) (in_groups-more above more line)
    ∙ sym (append_assoc (entry_in_group above key value) (in_groups above more) (in_groups (group_below above more) (line ∷ [])))
in_groups-more above (bad ∷ more) line = in_groups-more above more line

-- the group that a line stands in was begun
is_in-append : (xs ys : List Text) (x : Text) → is_in ys x ≡ true → is_in (xs ++ ys) x ≡ true
is_in-append [] ys x h = h
is_in-append (y ∷ more) ys x h = go (is_in-append more ys x h) (bytes_eq x y)
  where
    go : is_in (more ++ ys) x ≡ true → (b : Bool) → (b || is_in (more ++ ys) x) ≡ true
    go deep true = refl
    go deep false = deep

group_below-there : (above : Option Text) (done : List Line) (n : Text) → group_below above done ≡ Some n → (above ≡ Some n) ⊎ (is_in (map (λ p. p.0) (in_groups above done)) n ≡ true)
group_below-there above [] n h = inl h
group_below-there above (nothing ∷ more) n h = group_below-there above more n h
group_below-there above (heading name ∷ more) n h =
    elim (group_below-there (Some name) more n h) [
      | inl same ↦ inr (ap (λ (b : Bool). b || is_in (map (λ p. p.0) (in_groups (Some name) more)) n) (equal_text n name (some_is name n same)))
      | inr there ↦ inr (is_in-append (name ∷ []) (map (λ p. p.0) (in_groups (Some name) more)) n there)
    ]
  where
    some_is : (a b : Text) → ◌≡◌ {A = Option Text} (Some a) (Some b) → b ≡ a
    some_is a b e = cc
group_below-there above (entry key value ∷ more) n h =
    elim (group_below-there above more n h) [
      | inl same ↦ inl same
      | inr there ↦ inr (ap (λ (t : List Text). is_in t n) (map-append (λ (p : InGroup). p.0) (entry_in_group above key value) (in_groups above more))
          ∙ is_in-append (map (λ p. p.0) (entry_in_group above key value)) (map (λ p. p.0) (in_groups above more)) n there)
    ]
group_below-there above (bad ∷ more) n h = group_below-there above more n h

none_is_none : (n : Text) → ◌≡◌ {A = Option Text} None (Some n) → ⊥
none_is_none n e = cc

with_group_there : (done : List Line) (n : Text) → group_below None done ≡ Some n → is_in (map (λ p. p.0) (in_groups None done)) n ≡ true
with_group_there done n h = elim (group_below-there None done n h) [ inl same ↦ absurd (none_is_none n same) | inr there ↦ there ]

-- the state that lines make
abbrev pub state_of : List Line → State
state_of done = state (in_groups None done) (group_below None done)

state_of-more : (done : List Line) (line : Line) → state_of (done ++ line ∷ []) ≡ state (in_groups None done ++ in_groups (group_below None done) (line ∷ [])) (group_below (group_below None done) (line ∷ []))
state_of-more done line =
    ap (λ (a : List InGroup). state a (group_below None (done ++ line ∷ []))) (in_groups-more None done line)
    ∙ ap (state (in_groups None done ++ in_groups (group_below None done) (line ∷ []))) (group_below-more None done line)

step_of : (done : List Line) (number : ℕ) (line : Line) → after_line (groups_of done) (state_of done).1 number line ≡ judged (fault_of (group_below None done) number line) (state_of (done ++ line ∷ []))
step_of done number line =
    step (in_groups None done) (group_below None done) number line (with_group_there done)
    ∙ ap (judged (fault_of (group_below None done) number line)) (sym (state_of-more done line))

-- what is left to read makes of the state so far, the lines so far being so many
abbrev pub after : List Group → Option ℕ → ℕ → List Line → Result (List Group) KeyFault
after groups at count [] = Ok groups
after groups at count (line ∷ more) = elim (after_line groups at (count + 1) line) [ Ok new ↦ after new.0 new.1 (count + 1) more | Err refusal ↦ Err refusal ]

-- one line more
after-step : (count : ℕ) (more : List Line) (rest : List KeyFault) (all : List Group) (o : Option KeyFault) (new : State) (r : Result State KeyFault) → r ≡ judged o new
    → after new.0 new.1 (count + 1) more ≡ unless_faulty rest all
    → let read : Result (List Group) KeyFault = elim r [ Ok next ↦ after next.0 next.1 (count + 1) more | Err refusal ↦ Err refusal ] in read ≡ unless_faulty (cons_option o rest) all
after-step count more rest all None new r is deep =
    ap (λ (x : Result State KeyFault). let read : Result (List Group) KeyFault = elim x [ Ok next ↦ after next.0 next.1 (count + 1) more | Err refusal ↦ Err refusal ] in read) is ∙ deep
after-step count more rest all (Some refusal) new r is deep =
    ap (λ (x : Result State KeyFault). let read : Result (List Group) KeyFault = elim x [ Ok next ↦ after next.0 next.1 (count + 1) more | Err refusal ↦ Err refusal ] in read) is

-- what is left to read makes of the lines so far what all lines are
after-all : (said done more : List Line) → said ≡ done ++ more
    → after (groups_of done) (state_of done).1 (length done) more ≡ unless_faulty (filter_map (λ numbered. fault_of (group_below None (take numbered.0 said)) (numbered.0 + 1) numbered.1) (enumerate_from (length done) more)) (groups_of said)
after-all said done [] whole = ap (λ (t : List Line). Ok (groups_of t)) (sym (whole ∙ append-nil done))
after-all said done (line ∷ more) whole =
    let above : take (length done) said ≡ done = ap (λ (t : List Line). take (length done) t) whole ∙ take-append_seam done (line ∷ more) in
    let deep = after-all said (done ++ line ∷ []) more (whole ∙ sym (append_assoc done (line ∷ []) more)) in
    let longer : length (done ++ line ∷ []) ≡ length done + 1 = omega (arith, length-append done (line ∷ [])) in
    subst (λ (front : List Line). after (groups_of done) (state_of done).1 (length done) (line ∷ more) ≡ unless_faulty (cons_option (fault_of (group_below None front) (length done + 1) line) (filter_map (λ numbered. fault_of (group_below None (take numbered.0 said)) (numbered.0 + 1) numbered.1) (enumerate_from (length done + 1) more))) (groups_of said)) (sym above)
    (after-step (length done) more _ (groups_of said) (fault_of (group_below None done) (length done + 1) line) (state_of (done ++ line ∷ [])) (after_line (groups_of done) (state_of done).1 (length done + 1) line) (step_of done (length done + 1) line)
    (subst (λ (n : ℕ). after (groups_of (done ++ line ∷ [])) (state_of (done ++ line ∷ [])).1 n more ≡ unless_faulty (filter_map (λ numbered. fault_of (group_below None (take numbered.0 said)) (numbered.0 + 1) numbered.1) (enumerate_from n more)) (groups_of said)) longer deep))

pub after-read_lines_of : (said : List Line) → after [] None 0 said ≡ read_lines_of said
after-read_lines_of said = after-all said [] said refl

-- the next line, where it may stand there
pub after-good : (groups : List Group) (at : Option ℕ) (count : ℕ) (line : Line) (more : List Line) (new : List Group) (next : Option ℕ) → after_line groups at (count + 1) line ≡ Ok (new, next) → after groups at count (line ∷ more) ≡ after new next (count + 1) more
after-good groups at count line more new next ok =
    ap (λ (x : Result State KeyFault). let read : Result (List Group) KeyFault = elim x [ Ok s ↦ after s.0 s.1 (count + 1) more | Err refusal ↦ Err refusal ] in read) ok

-- and where it may not
pub after-bad : (groups : List Group) (at : Option ℕ) (count : ℕ) (line : Line) (more : List Line) (why : KeyFault) → after_line groups at (count + 1) line ≡ Err why → after groups at count (line ∷ more) ≡ Err why
after-bad groups at count line more why refused =
    ap (λ (x : Result State KeyFault). let read : Result (List Group) KeyFault = elim x [ Ok s ↦ after s.0 s.1 (count + 1) more | Err refusal ↦ Err refusal ] in read) refused

-- the line at a place, and those after it
pub drop_line : (all : List Text) (count : ℕ) (line : Text) → count < length all → line ≡ get_or all count line → drop count (map line_of all) ≡ line_of line ∷ drop (count + 1) (map line_of all)
drop_line all count line within is =
    drop-map line_of count all
    ∙ (ap (map line_of) (drop-cons all count line within)
    ∙ (ap (λ (t : Text). line_of t ∷ map line_of (drop (suc count) all)) (sym is)
    ∙ ap (λ (t : List Line). line_of line ∷ t) (sym (drop-map line_of (suc count) all) ∙ rest)))
  where
    more : suc count ≡ count + 1
    more = omega arith

    rest : drop (suc count) (map line_of all) ≡ drop (count + 1) (map line_of all)
    rest = ap (λ (n : ℕ). drop n (map line_of all)) more

-- no line is left
pub drop_lines : (all : List Text) (count : ℕ) → count ≡ length all → drop count (map line_of all) ≡ []
drop_lines all count whole = drop-map line_of count all ∙ ap (map line_of) (drop_all count all (omega arith))

-- a fault of a line is the answer of the whole
pub gives_fault : (answer : Lack KeyFault) (new : List Group) (taken : Result State KeyFault) (wanted : Result (List Group) KeyFault) → GivesState (Err answer) new taken → ((why : KeyFault) → taken ≡ Err why → wanted ≡ Err why) → Gives (Err answer) wanted
gives_fault (lack.Refused why) new taken wanted took faulty = faulty why took
gives_fault lack.NoMemory new taken wanted took faulty = tt
