-- What U-Boot's variables mean: for each name how many attempts are left, and one order.
use Rattle.std.specs.Prelude.{ℕ, ◌==◌, Bool, ◌&&◌, nat_lt, List, [], ◌∷◌, ◌++◌, codes, find, Option, if◌then◌else◌}
use Rattle.std.specs.FinMap as fin
use Rattle.boot_model.specs.Vars.{Variables}
use Rattle.boot_state.specs.Orders.{count_of, digit_of, has_word, joined, others, put, value, without_word, words_at}

-- the attempts that a name has left
abbrev pub left_name : List ℕ → List ℕ
left_name name = codes "BOOT_" ++ (name ++ codes "_LEFT")

-- the order
abbrev pub order_name : List ℕ
order_name = codes "BOOT_ORDER"

-- the words of the order
abbrev pub order_of : Variables → List (List ℕ)
order_of vars = words_at vars order_name

-- a name is good where it has attempts left and stands in the order
abbrev pub is_good : Variables → List ℕ → Bool
is_good vars name = nat_lt 0 (count_of (value vars (left_name name))) && has_word (order_of vars) name

-- the first good name in the order
abbrev pub primary : Variables → List (List ℕ) → Option (List ℕ)
primary vars names = find (λ word. has_word names word && is_good vars word) (order_of vars)

-- the name has so many attempts
abbrev pub with_attempts : List ℕ → List ℕ → Variables → Variables
with_attempts text name vars = fin.insert vars (left_name name) text

-- the order has these words; one without words is not set
abbrev pub with_order : List (List ℕ) → Variables → Variables
with_order words vars = put vars order_name (joined 32 words)

-- no attempts, and the name leaves the order, which is not written where it did not have the name
abbrev pub marked_bad : List ℕ → Variables → Variables
marked_bad name vars =
    if has_word (order_of vars) name
    then with_order (without_word (order_of vars) name) (with_attempts (codes "0") name vars)
    else with_attempts (codes "0") name vars

-- the usual attempts, and the name is the last of the order that lacked it
abbrev pub marked_good : ℕ → List ℕ → Variables → Variables
marked_good attempts name vars =
    if has_word (order_of vars) name
    then with_attempts (digit_of attempts) name vars
    else with_order (order_of vars ++ name ∷ []) (with_attempts (digit_of attempts) name vars)

-- the attempts of a primary name, which is the first of the order
abbrev pub made_primary : ℕ → List (List ℕ) → List ℕ → Variables → Variables
made_primary attempts names name vars =
    with_order (name ∷ others names name (order_of vars)) (with_attempts (digit_of attempts) name vars)

-- a name without attempts stays out, whatever is done to the others
abbrev pub is_down : Variables → List ℕ → Bool
is_down vars name = count_of (value vars (left_name name)) == 0
