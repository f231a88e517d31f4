-- 'Prove one theorem over one table holding the eight numbers above, the four list rules and the listing's two IOPATH entries.'
-- Assumes nothing.
use Rattle.std.specs.Prelude.{ℕ, ◌^◌, ◌≡◌, refl, pos, ℤ, Result, Ok, Err}
use Prim.Native.String.{String}
use mathlib.Core.List.{List, [], ◌∷◌, ◌++◌, map, head-eq_of_cons-eq, tail-eq_of_cons-eq}
use Rattle.numbershape.specs.declared.NotTime.{NotTime}
use Rattle.numbershape.specs.declared.NotTime.TheVariants.{Fine, Beyond}
use Rattle.times.specs.Worked.{in_signed, eight}
use Rattle.history.specs.Sheet.{Triple, Entry}
use Rattle.history.specs.Worked.{Case, cases, rows_of, listing}
use Rattle.history.specs.Worked as history

-- a line of the table: a number as written, and what it is; or the entries of one cell, and the rows that they leave on an empty arc
pub data Line : Type 0 where
  number : String → Result ℤ NotTime → Line
  entries : List (Entry ℕ) → List Triple → Line

-- what stands on either side
pub data Side : Type 0 where
  is : Result ℤ NotTime → Side
  leaves : List Triple → Side

-- by the definitions that the contracts cite: `number_of` with no TIMESCALE, and `annotate`
abbrev pub computed : Line → Side
computed (number w a) = is (in_signed w)
computed (entries l r) = leaves (rows_of 0 (listing l))

abbrev pub written : Line → Side
written (number w a) = is a
written (entries l r) = leaves r

-- 'With no TIMESCALE: `0.000001` is 1; `0.0000001` is refused 6; ..'
abbrev pub numbers : List Line
numbers =
    number "0.000001" (Ok (pos 1))
    ∷ number "0.0000001" (Err Fine)
    ∷ number "1.50e-5" (Ok (pos 15))
    ∷ number "15e-7" (Err Fine)
    ∷ number "0e99" (Ok (pos 0))
    ∷ number "-0" (Ok (pos 0))
    ∷ number "1000000000" (Ok (pos (10 ^ 15)))
    ∷ number "1000000000.000001" (Err Beyond)
    ∷ []

-- the list rules, and the listing's two entries
abbrev pub lists : List Case → List Line
lists [] = []
lists (c ∷ more) = entries c.entries c.leaves ∷ lists more

abbrev pub table : List Line
table = numbers ++ lists cases

-- a list of lines whose sides agree, line by line
same : (l : List Case) → map (λ (c : Case). rows_of 0 (listing c.entries)) l ≡ map (λ (c : Case). c.leaves) l
    → map computed (lists l) ≡ map written (lists l)
same [] e = refl
same (c ∷ more) e =
    let h = head-eq_of_cons-eq e in
    let t = same more (tail-eq_of_cons-eq e) in
    rw (h, t)

-- THE THEOREM
pub worked : map computed table ≡ map written table
worked =
    let e = eight in
    rw (e.0, e.1, e.2, e.3, e.4, e.5, e.6, e.7, same cases history.worked)
