-- The smallest telling texts, by the numbers of the settled points in docs/DECISIONS.md, computed.
-- Assumes nothing.
use Rattle.std.specs.Prelude.{◌≡◌, refl, true, false, [], ◌∷◌, ◌++◌, replicate}
use Rattle.classes.specs.Text.{bytes}
use Rattle.classes.specs.Classes.{class_of}
use Rattle.scanning.specs.Scan.{scan_len, scan_st}
use Rattle.scanning.specs.Machines.{word_stop, word_next, text_stop, close_stop, text_next, blank_stop, mode_next, blank_goes}
use Rattle.tokenforms.specs.Tokens.{string_of, token_of, behind, token_at}
use Rattle.tokenforms.specs.Tokens.{Got, Refused}

pub settled :
    -- 15: an illegal byte ends a word, which is judged before it
    (token_at (bytes "DELAYFIL" ++ 128 ∷ 69 ∷ []) 0 ≡ Got 7 0 8 false)
    -- 15: and is what comes next
    × (token_at (bytes "DELAYFIL" ++ 128 ∷ 69 ∷ []) 8 ≡ Refused 2 8)
    -- 16: a string with an illegal byte inside is a token first
    × (token_at (34 ∷ 128 ∷ 34 ∷ []) 0 ≡ Got 6 0 1 false)
    -- 17: a long one with an illegal byte inside is long
    × (token_at (34 ∷ 128 ∷ replicate 1024 120 ++ 34 ∷ []) 0 ≡ Got 6 0 1 true)
    -- 18: never closed is first of all
    × (token_at (34 ∷ 128 ∷ 128 ∷ []) 0 ≡ Refused 3 0)
    -- 18
    × (token_at (bytes "/*" ++ 128 ∷ []) 0 ≡ Refused 3 0)
    -- 23, 27: a // comment is closed by the text's end
    × (token_at (bytes "// never a 3") 0 ≡ Refused 4 12)
    -- 26: a bare backslash is refused before what follows it
    × (token_at (92 ∷ 128 ∷ []) 0 ≡ Refused 2 0)
    -- 27: only LF ends a // comment
    × (token_at (bytes "//" ++ 13 ∷ bytes "(COND") 0 ≡ Refused 4 8)
    -- 27
    × (token_at (bytes "//" ++ 10 ∷ bytes "(COND") 0 ≡ Got 2 3 4 false)
    -- 28: a closing stands wholly behind the opening
    × (token_at (bytes "/*/") 0 ≡ Refused 3 0)
    -- 29: a comment ends a word inside brackets too
    × (token_at (bytes "a[3/**/:0]") 0 ≡ Got 7 0 3 false)
    -- 31: behind an escaped slash the next one starts afresh
    × (token_at (bytes "a" ++ 92 ∷ bytes "//b") 0 ≡ Got 7 0 5 false)
    -- 31
    × (token_at (bytes "a" ++ 92 ∷ bytes "///b") 0 ≡ Got 7 0 3 false)
    -- 32: an escaped bracket opens nothing
    × (token_at (bytes "a" ++ 92 ∷ bytes "[3:0]") 0 ≡ Got 7 0 4 false)
    -- 32: a second bracket changes nothing
    × (token_at (bytes "a[[3:0]:1") 0 ≡ Got 7 0 7 false)
    -- 34: in a string a backslash takes an illegal byte along, which stays illegal
    × (token_at (34 ∷ 92 ∷ 128 ∷ 34 ∷ []) 0 ≡ Got 6 0 2 false)
    -- 34: an escaped quote closes nothing
    × (token_at (34 ∷ 92 ∷ 34 ∷ []) 0 ≡ Refused 3 0)
    -- 36: 1,024 bytes as written, and one more
    × (token_at (replicate 1024 97) 0 ≡ Got 7 0 1024 false)
    -- 36
    × (token_at (replicate 1025 97) 0 ≡ Got 7 0 1025 true)
unfolding class_of scan_len scan_st word_stop word_next text_stop close_stop text_next blank_stop mode_next blank_goes string_of token_of behind token_at
settled = (refl, refl, refl, refl, refl, refl, refl, refl, refl, refl, refl, refl, refl, refl, refl, refl, refl, refl, refl, refl)
