-- Fields of streams, read from the front of the bytes that are left, with what stands behind them.
use Rattle.std.specs.Prelude.{ℕ, ◌-◌, ◌+◌, ◌||◌, ◌∷◌, ◌++◌, List, [], not, cond, length, take, drop, nat_eq, nat_lt}
use Rattle.std.specs.Prelude.{slice_index, Result, Ok, Err}
use Rattle.std.specs.Int.{w32, from_le_bytes, to_le_bytes}
use Rattle.ole_model.specs.declared.fault.OleFault.{OleFault}
use Rattle.ole_model.specs.declared.fault.OleFault.TheVariants.{Truncated, BadString}

abbrev pub map_ok : {A B : Type 0} → (A → B) → Result A OleFault → Result B OleFault
map_ok f (Ok a) = Ok (f a)
map_ok f (Err e) = Err e

abbrev pub on_ok : {A B : Type 0} → (A → Result B OleFault) → Result A OleFault → Result B OleFault
on_ok f (Ok a) = f a
on_ok f (Err e) = Err e

-- a number in four bytes, least byte first
abbrev pub number : List ℕ → Result (ℕ × List ℕ) OleFault
number bytes = cond (nat_lt (length bytes) 4) (Err Truncated) (Ok (from_le_bytes w32 (take 4 bytes), drop 4 bytes))

-- The characters of a string that has so many bytes. The last one closes it and is zero; a string of no bytes has none.
abbrev pub characters : ℕ → List ℕ → Result (List ℕ × List ℕ) OleFault
characters size bytes =
    cond (nat_eq size 0) (Ok ([], bytes)) (
    cond (nat_lt (length bytes) size) (Err BadString) (
    cond (not (nat_eq (slice_index bytes (size - 1)) 0)) (Err BadString) (
    Ok (take (size - 1) bytes, drop size bytes))))

-- a string behind its size (MS-OLEDS 2.1.4)
abbrev pub string : List ℕ → Result (List ℕ × List ℕ) OleFault
string bytes = on_ok (λ f. characters f.0 f.1) (number bytes)

-- the marks of a clipboard format that is a number, of a Macintosh or of the system
abbrev pub MACINTOSH : ℕ
MACINTOSH = 0xFFFFFFFE

abbrev pub WINDOWS : ℕ
WINDOWS = 0xFFFFFFFF

-- What stands behind a clipboard format (MS-OLEDS 2.3.1): none, a number behind one of two marks, or a name.
abbrev pub behind_format : ℕ → List ℕ → Result (List ℕ) OleFault
behind_format mark bytes =
    cond (nat_eq mark 0) (Ok bytes) (
    cond (nat_eq mark MACINTOSH || nat_eq mark WINDOWS) (map_ok (λ f. f.1) (number bytes)) (
    map_ok (λ f. f.1) (characters mark bytes)))

abbrev pub format : List ℕ → Result (List ℕ) OleFault
format bytes = on_ok (λ f. behind_format f.0 f.1) (number bytes)

-- a string as it is written: its size, its characters and a zero; or just the size 0
abbrev pub string_bytes : List ℕ → List ℕ
string_bytes [] = to_le_bytes w32 0
string_bytes (c ∷ cs) = to_le_bytes w32 (length (c ∷ cs) + 1) ++ (c ∷ cs) ++ 0 ∷ []
