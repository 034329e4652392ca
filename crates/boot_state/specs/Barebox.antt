-- What barebox's variables mean: for each name a priority, and how many attempts remain.
use Rattle.std.specs.Prelude.{ℕ, ◌==◌, Bool, ◌&&◌, nat_lt, List, ◌++◌, codes, fold, Option, Some, None, if◌then◌else◌}
use Rattle.std.specs.FinMap as fin
use Rattle.std.specs.Str.{bytes_eq}
use Rattle.boot_model.specs.Vars.{Variables}
use Rattle.boot_state.specs.Orders.{count_of, digit_of, value}

-- the priority of a name
abbrev pub priority_name : List ℕ → List ℕ
priority_name name = codes "bootstate." ++ (name ++ codes ".priority")

-- the attempts that remain to it
abbrev pub attempts_name : List ℕ → List ℕ
attempts_name name = codes "bootstate." ++ (name ++ codes ".remaining_attempts")

-- a priority that is missing or no number counts as 0
abbrev pub priority_of : Variables → List ℕ → ℕ
priority_of vars name = count_of (value vars (priority_name name))

-- and so do attempts
abbrev pub attempts_of : Variables → List ℕ → ℕ
attempts_of vars name = count_of (value vars (attempts_name name))

-- a name is good where both are above 0
abbrev pub is_good : Variables → List ℕ → Bool
is_good vars name = nat_lt 0 (priority_of vars name) && nat_lt 0 (attempts_of vars name)

-- a good name takes the place of the best so far where its priority is higher
abbrev pub is_better : Variables → Option (List ℕ) → List ℕ → Bool
is_better vars None name = is_good vars name
is_better vars (Some best) name = is_good vars name && nat_lt (priority_of vars best) (priority_of vars name)

-- the best of the names so far, with one more
abbrev pub best_with : Variables → Option (List ℕ) → List ℕ → Option (List ℕ)
best_with vars best name = if is_better vars best name then Some name else best

-- the good name of the highest priority, of equals the first
abbrev pub primary : Variables → List (List ℕ) → Option (List ℕ)
primary vars names = fold (best_with vars) None names

-- the name has this priority and so many attempts
abbrev pub with_both : List ℕ → List ℕ → List ℕ → Variables → Variables
with_both priority attempts name vars = fin.insert (fin.insert vars (priority_name name) priority) (attempts_name name) attempts

-- neither priority nor attempts
abbrev pub marked_bad : List ℕ → Variables → Variables
marked_bad name vars = with_both (codes "0") (codes "0") name vars

-- the usual attempts, and a priority where there was none
abbrev pub marked_good : ℕ → List ℕ → Variables → Variables
marked_good attempts name vars =
    if priority_of vars name == 0
    then fin.insert (fin.insert vars (attempts_name name) (digit_of attempts)) (priority_name name) (codes "10")
    else fin.insert vars (attempts_name name) (digit_of attempts)

-- what becomes of one of the names, where the first has to be primary: that one is high, and another that had a priority is low
abbrev pub ranked : ℕ → List ℕ → Variables → Variables → List ℕ → Variables
ranked attempts name before vars other =
    if bytes_eq other name then with_both (codes "20") (digit_of attempts) name vars
    else if nat_lt 0 (priority_of before other) then fin.insert vars (priority_name other) (codes "10")
    else vars

-- the same of each of the names in order
abbrev pub made_primary : ℕ → List (List ℕ) → List ℕ → Variables → Variables
made_primary attempts names name vars = fold (ranked attempts name vars) vars names

-- a name without priority stays out, whatever is done to the others
abbrev pub is_down : Variables → List ℕ → Bool
is_down vars name = priority_of vars name == 0
