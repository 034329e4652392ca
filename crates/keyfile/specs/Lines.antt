-- What a line of a key file says.
use Rattle.std.specs.Prelude.{ℕ, ◌+◌, ◌-◌, Bool, true, ◌&&◌, ◌||◌, ◌==◌, [], ◌∷◌, ◌++◌, length, take, drop, slice_index, position, Option, Some, None, option_and_then, if◌then◌else◌}
use Rattle.std.specs.Str.{bytes_eq}
use Rattle.std.specs.List.{list_all, prefix_len, suffix_len}
use Rattle.keyfile.specs.Groups.{Text, Entry, is_key, is_line_byte, is_name}
use Rattle.keyfile.specs.declared.line.Line.{Line as ReadLine}
use Rattle.keyfile.specs.declared.line.Line.TheVariants as read

-- a line says nothing, opens a group, gives a key a value in its written form, or is bad
pub data Line : Type 0 where
  nothing : Line
  heading : Text → Line
  entry : Text → Text → Line
  bad : Line

-- a space or a tab
abbrev pub is_blank : ℕ → Bool
is_blank byte = (byte == 32) || (byte == 9)

-- without the blanks at the front
abbrev pub after_blanks : Text → Text
after_blanks text = drop (prefix_len is_blank text) text

-- without the blanks at the end
abbrev pub before_blanks : Text → Text
before_blanks text = take (length text - suffix_len is_blank text) text

-- what stands between the first byte and the last
abbrev pub inner : Text → Text
inner text = take (length text - 2) (drop 1 text)

-- the name of `[name]`
abbrev pub bracket_name : Text → Option Text
bracket_name text = if bytes_eq text (91 ∷ inner text ++ 93 ∷ []) && is_name (inner text) then Some (inner text) else None

-- the name of `[name]`, followed by blanks alone
abbrev pub heading_of : Text → Option Text
heading_of text = bracket_name (before_blanks text)

-- a key and a written value, where they have their forms
abbrev pub entry_from : Text → Text → Option Entry
entry_from key value = if is_key key && list_all is_line_byte value then Some (key, value) else None

-- the key and the written value of `key=value`, cut at the first `=`, with blanks around it dropped
abbrev pub entry_of : Text → Option Entry
entry_of text = option_and_then (λ at. entry_from (before_blanks (take at text)) (after_blanks (drop (at + 1) text))) (position (λ b. b == 61) text)

-- an empty text or a comment
abbrev pub is_silent : Text → Bool
is_silent text = (length text == 0) || (slice_index text 0 == 35)

-- a heading where it is one, else an entry where it is one
abbrev pub heading_or_entry : Option Text → Option Entry → Line
heading_or_entry (Some name) given = heading name
heading_or_entry None (Some given) = entry given.0 given.1
heading_or_entry None None = bad

-- what a line says that begins with no blank
abbrev pub unindented_line : Text → Line
unindented_line text = if is_silent text then nothing else heading_or_entry (heading_of text) (entry_of text)

-- what a line says
abbrev pub line_of : Text → Line
line_of text = unindented_line (after_blanks text)

-- what the code's line stands for
abbrev pub line_meaning : ReadLine → Line
line_meaning read.Nothing = nothing
line_meaning (read.Heading name) = heading name.now
line_meaning (read.Entry key value) = entry key.now value.now
line_meaning read.Bad = bad

-- a heading with a name, an entry with a key and bytes that may stand in a line, or another line
abbrev pub has_line_form : Line → Bool
has_line_form nothing = true
has_line_form (heading name) = is_name name
has_line_form (entry key value) = is_key key && list_all is_line_byte value
has_line_form bad = true
