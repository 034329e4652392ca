-- What holds of the record of every slot.
use Rattle.std.specs.Prelude.{ℕ, Bool, true, ◌==◌, ◌&&◌, ◌^◌, nat_lt, length, Option}
use Rattle.std.specs.Option.{option_map_or}
use Rattle.std.specs.List.{list_all}
use Rattle.updater_text.specs.declared.digest.Digest.{Digest}
use Rattle.keyfile.specs.Groups.{Text}
use Rattle.manifest.specs.Sound.{is_text_if_any}

-- 32 bytes
abbrev pub is_digest : Digest → Bool
is_digest d = (length d.0 == 32) && list_all (λ b. nat_lt b 256) d.0

-- texts of at most 1,024 bytes, of which those below 32 are tabs, line feeds and carriage returns; 32 bytes; numbers that fit their types
abbrev pub are_values : Option Text → Option Digest → Option ℕ → Option Text → ℕ → Option Text → ℕ → Bool
are_values status digest size installed_time installed_count activated_time activated_count =
    is_text_if_any status
    && (option_map_or is_digest digest true
    && (option_map_or (λ n. nat_lt n (2 ^ 64)) size true
    && (is_text_if_any installed_time
    && (nat_lt installed_count (2 ^ 32)
    && (is_text_if_any activated_time
    && nat_lt activated_count (2 ^ 32))))))
