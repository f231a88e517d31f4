-- What stands at a place of a text (document 01, 'Bytes and words', and refusals 2, 3 and the text's end).
-- Assumes nothing.
use Rattle.std.specs.Prelude.{ℕ, ◌+◌, ◌-◌, Bool, false, Result, Ok, Err, List, leb, ltb, eqb, length, drop, get_or}
use Rattle.classes.specs.Choice.{pick}
use Rattle.classes.specs.Classes.{class_of}
use Rattle.scanning.specs.Scan.{scan_len}
use Rattle.scanning.specs.Machines.{word_end, text_halts, close_halts, text_goes, block_halts, block_goes, blank_end, blank_at}
use Rattle.scanning.specs.declared.Blank.{Blank}
use Rattle.tokenforms.specs.declared.Token.{Token}
use Rattle.tokenforms.specs.declared.Refusal.{Refusal}

-- a token of this kind stands from b to e
abbrev pub Got : ℕ → ℕ → ℕ → Bool → Result Token Refusal
Got k b e l = Ok (record { kind = k; start = b; end = e; long = l })

-- the refusal of this number at this place
abbrev pub Refused : {T : Type 0} → ℕ → ℕ → Result T Refusal
Refused n p = Err (record { number = n; place = p })

-- the quote that closes the string whose content starts at i, or the text's end; and the first illegal byte before it, or itself
abbrev pub closing : List ℕ → ℕ → ℕ
closing s i = i + scan_len close_halts text_goes 0 (drop i s)

abbrev pub spoilt : List ℕ → ℕ → ℕ
spoilt s i = i + scan_len text_halts text_goes 0 (drop i s)

-- The string whose quote stands at i: e is the first illegal byte of its content, or f, where it is closed.
-- 'string never closed: its opening' (3). 'string content over 1,024 bytes' (8) is for the grammar to judge, when it takes the token.
-- An illegal byte of the content (2) comes behind the opening: the token ends there, and what comes next is that byte.
unfoldable pub string_of : List ℕ → ℕ → ℕ → ℕ → Result Token Refusal
string_of s i e f =
    pick (leb (length s) f) (Refused 3 i) (Got 6 i (pick (ltb e f) e (f + 1)) (ltb 1024 (f - (i + 1))))

abbrev pub string_at : List ℕ → ℕ → Result Token Refusal
string_at s i = string_of s i (spoilt s (i + 1)) (closing s (i + 1))

-- 'Tokens are ( ) : *, a quoted string, a word. .. Any other printable byte is a token that no rule here allows.'
-- The token at i, whose byte has the class k; a word there would end at e. Where no byte of a word stands it is a bare backslash.
unfoldable pub token_of : List ℕ → ℕ → ℕ → ℕ → Result Token Refusal
token_of s i k e =
    pick (leb (length s) i) (Refused 4 i)
    (pick (eqb k 0) (Refused 2 i)
    (pick (leb k 5) (Got k i (i + 1) false)
    (pick (eqb k 6) (string_at s i)
    (pick (eqb k 12) (Got k i (i + 1) false)
    (pick (leb e i) (Refused 2 i) (Got 7 i e (ltb 1024 (e - i))))))))

abbrev pub token_here : List ℕ → ℕ → Result Token Refusal
token_here s i = token_of s i (class_of (get_or s i 0)) (word_end s i)

-- the star of the first */ from i on, or the text's end
abbrev pub block_end : List ℕ → ℕ → ℕ
block_end s i = i + scan_len block_halts block_goes 0 (drop i s)

-- Behind white space and comments, which end at i in the state b: in a /* comment it is 3 at the comment's opening if that is never
-- closed, else 2 at the illegal byte that stopped it; in a // comment the text's end, or such a byte.
unfoldable pub behind : List ℕ → ℕ → Blank → Result Token Refusal
behind s i b =
    pick (eqb b.mode 0) (token_here s i)
    (pick (eqb b.mode 1) (pick (leb (length s) i) (Refused 4 i) (Refused 2 i))
    (pick (leb (length s) (block_end s i)) (Refused 3 (i - b.since)) (Refused 2 i)))

-- THE TOKEN from the place p on
unfoldable pub token_at : List ℕ → ℕ → Result Token Refusal
token_at s p = behind s (blank_end s p) (blank_at s p)
