-- What GRUB's variables mean: for each name two marks, and one order.
use Rattle.std.specs.Prelude.{ℕ, ◌==◌, Bool, ◌&&◌, not, List, ◌∷◌, ◌++◌, codes, find, Option}
use Rattle.std.specs.FinMap as fin
use Rattle.boot_model.specs.Vars.{Variables}
use Rattle.boot_state.specs.Orders.{count_of, has_word, joined, others, value, words_at}

-- the mark that a name works
abbrev pub ok_name : List ℕ → List ℕ
ok_name name = name ++ codes "_OK"

-- the mark that it was tried
abbrev pub try_name : List ℕ → List ℕ
try_name name = name ++ codes "_TRY"

-- the order
abbrev pub order_name : List ℕ
order_name = codes "ORDER"

-- a name is good where it works and is not being tried
abbrev pub is_good : Variables → List ℕ → Bool
is_good vars name = (count_of (value vars (ok_name name)) == 1) && (count_of (value vars (try_name name)) == 0)

-- the first good name in the order
abbrev pub primary : Variables → List (List ℕ) → Option (List ℕ)
primary vars names = find (λ word. has_word names word && is_good vars word) (words_at vars order_name)

-- one mark is this, and the name is not being tried
abbrev pub with_mark : List ℕ → List ℕ → Variables → Variables
with_mark mark name vars = fin.insert (fin.insert vars (ok_name name) mark) (try_name name) (codes "0")

-- the name does not work
abbrev pub marked_bad : List ℕ → Variables → Variables
marked_bad name vars = with_mark (codes "0") name vars

-- the name works
abbrev pub marked_good : List ℕ → Variables → Variables
marked_good name vars = with_mark (codes "1") name vars

-- the name works, and is the first of the order
abbrev pub made_primary : List (List ℕ) → List ℕ → Variables → Variables
made_primary names name vars =
    fin.insert (with_mark (codes "1") name vars) order_name (joined 32 (name ∷ others names name (words_at vars order_name)))

-- a name that is not good stays out, whatever is done to the others
abbrev pub is_down : Variables → List ℕ → Bool
is_down vars name = not (is_good vars name)
