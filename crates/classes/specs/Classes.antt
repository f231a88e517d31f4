-- The class of a byte, as document 01 has it ('Bytes and words').
-- Assumes nothing.
use Rattle.std.specs.Prelude.{ℕ, Bool, eqb}
use Prim.Native.Char.{Char, code}
use Rattle.classes.specs.Choice.{pick, or, within}

-- a character by itself
abbrev pub is : Char → ℕ → Bool
is c b = eqb b (code c)

-- from one character to another, both included
abbrev pub from_to : Char → Char → ℕ → Bool
from_to first last b = within (code first) (code last) b

-- 'Tab, LF, CR and space are white space.'
abbrev pub is_white : ℕ → Bool
is_white b = or (is "\t" b) (or (is "\n" b) (or (is "\r" b) (is " " b)))

-- 'Legal bytes are tab, LF, CR and 0x20 to 0x7E.'
abbrev pub is_legal : ℕ → Bool
is_legal b = or (within 0x20 0x7E b) (is_white b)

abbrev pub is_letter : ℕ → Bool
is_letter b = or (from_to "A" "Z" b) (from_to "a" "z" b)

abbrev pub is_digit : ℕ → Bool
is_digit b = from_to "0" "9" b

-- 'letters, digits, _ $ . + -': what a word takes wherever it stands
abbrev pub is_plain : ℕ → Bool
is_plain b = or (is_letter b) (or (is_digit b) (or (is "_" b) (or (is "$" b) (or (is "." b) (or (is "+" b) (is "-" b))))))

-- 'There is one class for each of the 256 byte values.' 1 white space; 2 to 6 the marks and the quote; 7 plain in a word; 8 to 11 what a
-- word takes with a condition; 12 'any other printable byte'; and 0 an illegal one.
unfoldable pub class_of : ℕ → ℕ
class_of b =
    pick (is_white b) 1
    (pick (is "(" b) 2
    (pick (is ")" b) 3
    (pick (is ":" b) 4
    (pick (is "*" b) 5
    (pick (is "\"" b) 6
    (pick (is_plain b) 7
    (pick (is "/" b) 8
    (pick (is "[" b) 9
    (pick (is "]" b) 10
    (pick (is "\\" b) 11
    (pick (within 0x20 0x7E b) 12 0)))))))))))

-- the class of a mark, ( ) : *, and 0 for any other byte
unfoldable pub mark_of : ℕ → ℕ
mark_of b = pick (within 2 5 (class_of b)) (class_of b) 0
