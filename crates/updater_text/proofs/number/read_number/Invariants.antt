use Rattle.std.proofs.Common.{◌≡◌, ◌<◌, ◌^◌, take, true}
use Rattle.std.specs.List.{list_all}
use Rattle.updater_text.specs.Numbers.{is_digit, digits_value}
use Rattle.updater_text.proofs.number.read_number.Given as goal

abbrev pub invariant-loop-byte : goal.invariant-loop-byte
invariant-loop-byte l = record {
  digits : list_all is_digit (take l.byte-index l.bytes) ≡ true;
  value : l.value ≡ digits_value (take l.byte-index l.bytes);
  fits : l.value < 2 ^ 64;
}
