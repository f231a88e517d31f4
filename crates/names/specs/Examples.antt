-- Names at work: shapes, canonical forms and last components, each by computation.
-- Assumes nothing.
use Rattle.std.specs.Prelude.{ℕ, ◌≡◌, refl, Bool, true, false, List, [], ◌∷◌}
use Prim.Native.Char.{code}
use Prim.Native.String.{String}
use Rattle.nameshape.specs.Shape.{is_name_byte, is_escapable, divider, body_next, bracket_next, name_next, name_run, may_end, is_path, is_port, escapes, may_follow, text_from, is_text}
use Rattle.names.specs.Order.{cmp, same_text}
use Rattle.names.specs.Name.{canon, canon_from, turned, full, same_name, start_behind, start_from, last_start, one_below}

-- the bytes of a text of plain characters
abbrev text : String → List ℕ
text Prim.Native.String.[] = []
text (Prim.Native.String.◌∷◌ c s) = code c ∷ text s

-- what two tables of texts answer
abbrev each : (List ℕ → Bool) → List String → List Bool
each f [] = []
each f (s ∷ r) = f (text s) ∷ each f r

-- `[n]` behind any component, `[n:n]` behind a port's last one only, one bracket only, no empty component; the other divider is no part of a name
paths :
    each (is_path false) ("a" ∷ "a[1].b[2]" ∷ "1.5" ∷ "COND" ∷ "$x_" ∷ "a\\.b" ∷ "\\[1" ∷ "" ∷ "a[3:0]" ∷ "a." ∷ ".a" ∷ "a..b" ∷ "a[1][2]" ∷ "a[]" ∷ "a/b" ∷ "a\\" ∷ [])
    ≡ true ∷ true ∷ true ∷ true ∷ true ∷ true ∷ true ∷ false ∷ false ∷ false ∷ false ∷ false ∷ false ∷ false ∷ false ∷ false ∷ []
unfolding is_path name_run name_next body_next bracket_next is_name_byte is_escapable divider may_end
paths = refl

ports :
    each (is_port true) ("c[1]/q[3:0]" ∷ "q[3:0]" ∷ "a\\//b" ∷ "a[3:0]/b" ∷ "q[3:]" ∷ "q[:0]" ∷ "a.b" ∷ "" ∷ [])
    ≡ true ∷ true ∷ true ∷ false ∷ false ∷ false ∷ false ∷ false ∷ []
unfolding is_port name_run name_next body_next bracket_next is_name_byte is_escapable divider may_end
ports = refl

types : each is_text ("" ∷ "DFF" ∷ "x\\\"y z" ∷ "x\"y" ∷ "x\\" ∷ "x\\\\" ∷ []) ≡ true ∷ true ∷ true ∷ false ∷ false ∷ true ∷ []
unfolding is_text text_from may_follow escapes
types = refl

-- 'An escaped divider isn't turned'
turns : canon true (text "a/b\\/c") ≡ text "a.b\\/c"
unfolding canon canon_from turned escapes divider
turns = refl

-- `\a` and `a` differ
differ : same_name (text "\\a") (text "a") ≡ false
unfolding same_name same_text cmp
differ = refl

-- `d\.e` is one component, a bracket belongs to its component
last_starts : (last_start (text "d\\.e") ≡ 0) × (last_start (text "d.e[1:0]") ≡ 2) × (last_start (text "a.b.c") ≡ 4)
unfolding last_start start_from start_behind escapes
last_starts = (refl, refl, refl)

below :
    each (one_below (text "d")) ("d.e[1:0]" ∷ "d.e.f" ∷ "d\\.e" ∷ "d" ∷ "e.f" ∷ []) ≡ true ∷ false ∷ false ∷ false ∷ false ∷ []
unfolding one_below same_name same_text cmp full last_start start_from start_behind escapes
below = refl
