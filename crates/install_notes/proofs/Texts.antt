-- A line more on a sink.
use Rattle.std.proofs.Common.{ℕ, Bool, true, false, List, [], ◌∷◌, ◌++◌, subst}
use Rattle.std.proofs.lemmas.List.{append-nil, flat_map_more}
use Rattle.updater_text.specs.Sinks.{Shown, Put, WritesText}
use Rattle.updater_text.proofs.Puts.{put_more, put_stopped}
use Rattle.install_facts.specs.declared.report.Note.{Note}
use Rattle.install_notes.specs.Lines.{Stands, note_line, note_lines}

-- a text, and then another where the first was whole
pub text_more : (a b c : Shown) (s t : List ℕ) (v w : Bool) → Put a b s v → WritesText b c t v w → Put a c (s ++ t) w
text_more a b c s [] v w p h = rw (h.0, h.1, append-nil s) p
text_more a b c s (x ∷ t) true w p h = put_more a b c s (x ∷ t) w p h
text_more a b c s (x ∷ t) false w p h = rw (h.0, h.1) (put_stopped a b s (x ∷ t) p)

pub note_more : (old new : Shown) (n : Note) (before after : Bool) → WritesText old new (note_line n) before after → (start : Shown) (notes : List Note) → Stands old before start notes → Stands new after start (notes ++ n ∷ [])
note_more old new n before after h start notes p =
    subst (λ (t : List ℕ). Put start new t after) (flat_map_more note_line [] notes n) (text_more start old new (note_lines notes) (note_line n) before after p h)
