-- 01's whole listing, from the sheet's bytes to the bytes that the program writes, and small sheets that stop, are refused, or are empty. The theorem is `samples` of proofs/Samples.antt. Assumes nothing.
use Rattle.std.specs.Prelude.{◌≡◌, List, ◌++◌, ℕ}
use Rattle.meaning.specs.Bytes.{bytes}
use Rattle.meaning.specs.Listing.{listing}

abbrev pub pump_sheet : List ℕ
pump_sheet =
    bytes "(in 0 -1 2)\n"
    ++ bytes "(put 1 (mul (reg 0) 2.5))\n"
    ++ bytes "(hold 1 -3 5)\n"

abbrev pub pump_listing : List ℕ
pump_listing =
    bytes "pass 3\n"
    ++ bytes "r0 -1000..2000\n"
    ++ bytes "r1 -2500..5000\n"

abbrev pub zero_sheet : List ℕ
zero_sheet = bytes "(put 0 (div 1 (reg 1)))\n"

abbrev pub zero_listing : List ℕ
zero_listing = bytes "stop 20 1\n"

abbrev pub spaced_sheet : List ℕ
spaced_sheet =
    bytes "(put 0 1)\n"
    ++ bytes "(put 1  2)\n"

abbrev pub spaced_listing : List ℕ
spaced_listing = bytes "refused 6 2\n"

abbrev pub broken_sheet : List ℕ
broken_sheet =
    bytes "(in 0 0 2)\n"
    ++ bytes "(hold 0 0 1)\n"

abbrev pub broken_listing : List ℕ
broken_listing = bytes "stop 21 2\n"

abbrev pub nothing_sheet : List ℕ
nothing_sheet = bytes ""

abbrev pub nothing_listing : List ℕ
nothing_listing = bytes "pass 0\n"

abbrev pub held_sheet : List ℕ
held_sheet = bytes "(hold 3 -9223372036854775.808 9223372036854775.807)\n"

abbrev pub held_listing : List ℕ
held_listing = bytes "pass 1\n"

abbrev pub dirty_sheet : List ℕ
dirty_sheet = bytes "(hold 3 0 0)\n"

abbrev pub dirty_listing : List ℕ
dirty_listing = bytes "stop 21 1\n"

abbrev pub ordered_sheet : List ℕ
ordered_sheet =
    bytes "(in 3 0 1)\n"
    ++ bytes "(put 2 (lt (reg 3) 0.5))\n"

abbrev pub ordered_listing : List ℕ
ordered_listing =
    bytes "pass 2\n"
    ++ bytes "r2 0..0 1000..1000\n"
    ++ bytes "r3 0..1000\n"

abbrev pub crowded_sheet : List ℕ
crowded_sheet =
    bytes "(in 0 0 1)\n"
    ++ bytes "(put 1 (lt (reg 0) 1))\n"
    ++ bytes "(put 1 (add (reg 1) (mul (reg 1) 3)))\n"
    ++ bytes "(put 1 (add (reg 1) (mul (reg 1) 9)))\n"
    ++ bytes "(put 2 (add (reg 1) (mul (lt (reg 0) 1) 2)))\n"

abbrev pub crowded_listing : List ℕ
crowded_listing =
    bytes "pass 5\n"
    ++ bytes "r0 0..1000\n"
    ++ bytes "r1 0..0 1000..1000 3000..3000 4000..4000 9000..9000 10000..10000 12000..12000 13000..13000"
    ++ bytes " 27000..27000 28000..28000 30000..30000 31000..31000 36000..36000 37000..37000 39000..39000 40000..40000\n"
    ++ bytes "r2 0..6000 9000..15000 27000..27000 28000..28000 29000..29000 30000..30000 31000..31000 32000..32000 33000..33000"
    ++ bytes " 36000..36000 37000..37000 38000..38000 39000..39000 40000..40000 41000..41000 42000..42000\n"

pub record Samples : Type 0 where
  -- 01's own example
  pub pump : listing pump_sheet ≡ pump_listing
  -- a divisor may be 0
  pub zero : listing zero_sheet ≡ zero_listing
  -- two spaces
  pub spaced : listing spaced_sheet ≡ spaced_listing
  -- a hold's register has a value outside
  pub broken : listing broken_sheet ≡ broken_listing
  -- an empty text is a sheet
  pub nothing : listing nothing_sheet ≡ nothing_listing
  -- a register of a hold alone is not listed
  pub held : listing held_sheet ≡ held_listing
  -- a register that no line has put may hold any number
  pub dirty : listing dirty_sheet ≡ dirty_listing
  -- registers ascending, one space before each interval, a single value by both ends
  pub ordered : listing ordered_sheet ≡ ordered_listing
  -- 28 intervals in r2 (02, (v)): of the 24 gaps of 999 missing numbers the lowest twelve are closed, and the three wider ones stay
  pub crowded : listing crowded_sheet ≡ crowded_listing
