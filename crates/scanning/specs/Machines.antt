-- The scanners of document 01 ('Bytes and words'): a word, a string's content, white space with its comments.
-- Each has a state, and sees a byte c, mostly by its class k, and the byte d behind it.
-- Assumes nothing.
use Rattle.std.specs.Prelude.{ℕ, ◌+◌, ◌-◌, Bool, true, false, not, List, ◌≡◌, refl, leb, eqb, drop}
use Rattle.classes.specs.Choice.{pick, and, within}
use Rattle.classes.specs.Classes.{is, class_of}
use Rattle.scanning.specs.Scan.{scan_len, scan_st}
use Rattle.scanning.specs.declared.Blank.{Blank}

-- '// .. and /* .. start a comment'
abbrev pub commences : ℕ → Bool
commences d = pick (is "/" d) true (is "*" d)

-- 'A word is a longest run of letters, digits, _ $ . / [ ] + - and escaped pairs; : belongs to it only after an unescaped [, up to
-- the next unescaped ]. A backslash takes the next byte, 0x21 to 0x7E, into the word; a backslash without one ends the word before it.'
-- The state: 0 outside brackets, 1 inside; 2 and 3 the same behind a backslash.
unfoldable pub word_stop : ℕ → ℕ → ℕ → Bool
word_stop q k d =
    pick (leb 2 q) false
    (pick (eqb k 7) false
    (pick (eqb k 9) false
    (pick (eqb k 10) false
    (pick (eqb k 8) (commences d)
    (pick (eqb k 11) (not (within 0x21 0x7E d))
    (pick (eqb k 4) (eqb q 0) true))))))

unfoldable pub word_next : ℕ → ℕ → ℕ
word_next q k = pick (leb 2 q) (q - 2) (pick (eqb k 9) 1 (pick (eqb k 10) 0 (pick (eqb k 11) (q + 2) q)))

abbrev pub word_halts : ℕ → ℕ → ℕ → Bool
word_halts q c d = word_stop q (class_of c) d

abbrev pub word_goes : ℕ → ℕ → ℕ → ℕ
word_goes q c d = word_next q (class_of c)

-- where a word that starts at i ends
abbrev pub word_end : List ℕ → ℕ → ℕ
word_end s i = i + scan_len word_halts word_goes 0 (drop i s)

-- 'In a string a backslash takes the next byte along.' The state: 1 behind such a backslash, else 0.
unfoldable pub text_next : ℕ → ℕ → ℕ
text_next q k = pick (eqb q 0) (pick (eqb k 11) 1 0) 0

-- a string's content goes on to the quote that closes it
unfoldable pub close_stop : ℕ → ℕ → Bool
close_stop q k = pick (eqb q 0) (eqb k 6) false

-- or, where 'legal bytes .. also in strings' is minded, to the first illegal byte before that
unfoldable pub text_stop : ℕ → ℕ → Bool
text_stop q k = pick (eqb k 0) true (close_stop q k)

abbrev pub text_halts : ℕ → ℕ → ℕ → Bool
text_halts q c d = text_stop q (class_of c)

abbrev pub close_halts : ℕ → ℕ → ℕ → Bool
close_halts q c d = close_stop q (class_of c)

abbrev pub text_goes : ℕ → ℕ → ℕ → ℕ
text_goes q c d = text_next q (class_of c)

pub close_is-text : (q c d : ℕ) → close_halts q c d ≡ true → text_halts q c d ≡ true
unfolding text_stop
close_is-text q c d e = by (eqb (class_of c) 0)
  where
    by : (b : Bool) → pick b true (close_stop q (class_of c)) ≡ true
    by true = refl
    by false = e

-- White space and comments. The mode: 0 outside comments, 1 in //, 2 at the star of an opening, 3 in /*, 4 at the slash of a
-- closing; since counts the bytes from the comment's opening. An illegal byte stops it, 'also in .. comments'.
unfoldable pub blank_stop : ℕ → ℕ → ℕ → Bool
blank_stop m k d =
    pick (eqb k 0) true (pick (eqb m 0) (pick (eqb k 1) false (pick (eqb k 8) (not (commences d)) true)) false)

-- '// (to the next LF or the text's end) and /* (to a */ wholly after it)'
unfoldable pub mode_next : ℕ → ℕ → ℕ → ℕ → ℕ
mode_next m k c d =
    pick (eqb m 0) (pick (eqb k 8) (pick (is "/" d) 1 2) 0)
    (pick (eqb m 1) (pick (is "\n" c) 0 1)
    (pick (eqb m 2) 3 (pick (eqb m 3) (pick (is "*" c) (pick (is "/" d) 4 3) 3) 0)))

abbrev pub since_next : ℕ → ℕ → ℕ
since_next m n = pick (eqb m 0) 0 (n + 1)

abbrev pub blank_halts : Blank → ℕ → ℕ → Bool
blank_halts b c d = blank_stop b.mode (class_of c) d

unfoldable pub blank_goes : Blank → ℕ → ℕ → Blank
blank_goes b c d = record { mode = mode_next b.mode (class_of c) c d; since = since_next (mode_next b.mode (class_of c) c d) b.since }

abbrev pub blank : ℕ → ℕ → Blank
blank m n = record { mode = m; since = n }

-- before any comment
abbrev pub outside : Blank
outside = blank 0 0

pub blank-goes : (m n m' n' c d : ℕ) → m' ≡ mode_next m (class_of c) c d → n' ≡ since_next m' n → blank m' n' ≡ blank_goes (blank m n) c d
unfolding blank_goes
blank-goes m n m' n' c d e f = rw (f, e)

-- a block comment is closed by a star with a slash behind it
abbrev pub block_halts : ℕ → ℕ → ℕ → Bool
block_halts q c d = and (is "*" c) (is "/" d)

abbrev pub block_goes : ℕ → ℕ → ℕ → ℕ
block_goes q c d = q

-- a plain byte goes on with a word, and white space with white space, in the state they begin in; some bytes end a word at once
pub plain_on : (c d : ℕ) → class_of c ≡ 7 → word_halts 0 c d ≡ false
unfolding word_stop
plain_on c d h = rw h

pub plain-same : (c d : ℕ) → class_of c ≡ 7 → word_goes 0 c d ≡ 0
unfolding word_next
plain-same c d h = rw h

pub white_on : (c d : ℕ) → class_of c ≡ 1 → blank_halts outside c d ≡ false
unfolding blank_stop
white_on c d h = rw h

pub white_same : (c d : ℕ) → class_of c ≡ 1 → blank_goes outside c d ≡ outside
unfolding blank_goes mode_next
white_same c d h = rw h

-- where white space and comments from p on end, and in which state
abbrev pub blank_end : List ℕ → ℕ → ℕ
blank_end s p = p + scan_len blank_halts blank_goes outside (drop p s)

abbrev pub blank_at : List ℕ → ℕ → Blank
blank_at s p = scan_st blank_halts blank_goes outside (drop p s)
