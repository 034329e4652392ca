-- What is wrong with a text that is no key file, in words.
use Rattle.std.specs.Prelude.{ℕ, List, [], ◌++◌, codes, decimal}
use Rattle.keyfile.specs.declared.fault.KeyFault.{KeyFault}
use Rattle.keyfile.specs.declared.fault.KeyFault.TheVariants as fault

-- a number between two texts
abbrev pub number_between : List ℕ → ℕ → List ℕ → List ℕ
number_between before number after = before ++ (decimal number ++ after)

-- the fault, without the name of the file
abbrev pub key_cause : KeyFault → List ℕ
key_cause (fault.TooLong length) = number_between [] length (codes " bytes are too long")
key_cause (fault.NotUtf8 at) = number_between (codes "byte ") at (codes " is not UTF-8")
key_cause (fault.BadLine number) = number_between (codes "line ") number (codes " is bad")
key_cause (fault.KeyBeforeGroup number) = number_between (codes "line ") number (codes " stands before a group")
key_cause (fault.BadEscape number) = number_between (codes "line ") number (codes " has a bad escape")
