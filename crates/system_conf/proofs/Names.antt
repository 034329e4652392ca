-- The bootnames of slots, one after another.
use Rattle.std.proofs.Common.{◌≡◌, ◌<◌, ℕ, ◌+◌, List, [], ◌∷◌, ◌++◌, length, take, get_or, sym, ◌∙◌, ap}
use Rattle.std.specs.List.{filter_map, cons_option}
use Rattle.std.proofs.lemmas.List.{take_more}
use Rattle.std.proofs.lemmas.List.Elements.{filter_map-append}
use Rattle.system_conf.specs.declared.slot.Slot.{Slot}

pub names_more : (slots : List Slot) (i : ℕ) (s : Slot) → i < length slots → s ≡ get_or slots i s
    → filter_map (λ (t : Slot). t.bootname) (take (i + 1) slots) ≡ filter_map (λ (t : Slot). t.bootname) (take i slots) ++ cons_option s.bootname []
names_more slots i s within is =
    ap (filter_map (λ (t : Slot). t.bootname)) (take_more slots i s within ∙ ap (λ (t : Slot). take i slots ++ t ∷ []) (sym is))
    ∙ filter_map-append (λ (t : Slot). t.bootname) (take i slots) (s ∷ [])
