-- Bytes written as hex digits. Assumes nothing.
use Rattle.std.specs.Prelude.{ℕ, ◌+◌, ◌-◌, ◌*◌, ◌/◌, ◌%◌, Bool, cond, ◌&&◌, List, [], ◌∷◌, length, is_some, Some, None, Ok, Err, vec_items, Option, Result, Vec, ◌==◌, nat_le, nat_lt, codes, ⊤}
use Rattle.std.specs.Option.{unwrap_or}
use Rattle.std.specs.List.{list_all}
use Rattle.std.specs.Str.{bytes_eq}
use Rattle.numeral.specs.declared.hex.HexFault.{HexFault}
use Rattle.numeral.specs.declared.hex.HexFault.TheVariants.{NotHex, OddDigits, OutOfMemory}

-- `0` to `9`, `a` to `f` and `A` to `F`
abbrev pub hex_digit : ℕ → Option ℕ
hex_digit b =
    cond (nat_le 48 b && nat_le b 57) (Some (b - 48)) (cond (nat_le 97 b && nat_le b 102) (Some (b - 97 + 10)) (cond (nat_le 65 b && nat_le b 70) (Some (b - 65 + 10)) None))

abbrev pub is_hex : ℕ → Bool
is_hex b = is_some (hex_digit b)

abbrev pub all_hex : List ℕ → Bool
all_hex bs = list_all is_hex bs

abbrev pub hex_value : ℕ → ℕ
hex_value b = unwrap_or (hex_digit b) 0

-- a byte for every two digits
abbrev pub hex_pairs : List ℕ → List ℕ
hex_pairs [] = []
hex_pairs (h ∷ []) = []
hex_pairs (h ∷ l ∷ bs) = (16 * hex_value h + hex_value l) ∷ hex_pairs bs

-- the word `-`, which writes no bytes
abbrev pub dash : List ℕ → Bool
dash bs = bytes_eq bs (codes "-")

abbrev pub hex_answer : List ℕ → Result (List ℕ) HexFault
hex_answer bs =
    cond (dash bs) (Ok []) (cond (all_hex bs) (cond (length bs % 2 == 1) (Err OddDigits) (Ok (hex_pairs bs))) (Err NotHex))

-- what was read, as a list of bytes
abbrev pub bytes_read : {Z : Type 0} → Result (Vec ℕ Z) HexFault → Result (List ℕ) HexFault
bytes_read (Ok v) = Ok (vec_items v)
bytes_read (Err e) = Err e

-- no fault of the word: the bytes found no room
abbrev pub IsWantOfMemory : HexFault → Type 0
IsWantOfMemory NotHex = ⊥
IsWantOfMemory OddDigits = ⊥
IsWantOfMemory (OutOfMemory e) = ⊤

-- want of memory in the words of std's own error
abbrev pub hex_reason : HexFault → List ℕ
hex_reason NotHex = codes "not a hex digit"
hex_reason OddDigits = codes "odd number of hex digits"
hex_reason (OutOfMemory e) = codes "memory allocation failed"

-- the digit for a number below 16, in lower case
abbrev pub hex_char : ℕ → ℕ
hex_char d = cond (nat_lt d 10) (48 + d) (87 + d)

abbrev pub hex_text : List ℕ → List ℕ
hex_text [] = []
hex_text (b ∷ bs) = hex_char (b / 16) ∷ hex_char (b % 16) ∷ hex_text bs
