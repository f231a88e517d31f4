-- Where a reading stands: outside the cells, in a cell, in an entry. The grammar opens and closes cells and entries in turn, and where it
-- takes a time it takes a number of that sign: one more test of the table, computed.
-- Assumes nothing.
use Rattle.std.specs.Prelude.{◌≡◌, refl, Bool, true, false, List, [], ◌∷◌, ℕ, ◌+◌, ◌*◌, ◌/◌, ◌%◌, ◌^◌, eqb, leb, ltb, ℤ, Ok, Err}
use Rattle.std.proofs.Common.{sym, subst, ◌∙◌, true≢false, arith}
use Rattle.std.proofs.Math.Option.{Option, none, some}
use Rattle.classes.specs.Choice.{pick}
use Rattle.tokens.specs.Stream.{Placed}
use Rattle.numbershape.specs.Shape.{is_number}
use Rattle.numbershape.specs.Value.{number_of, exact, limit}
use Rattle.numbershape.specs.declared.NotTime.TheVariants.{Fine, Beyond, Wrong}
use Rattle.grammar.specs.Ll.{lit, non, Alt, Row, Took, choose, onto, feed, feeds, none≢some, both_true}
use Rattle.grammar.specs.Grammar.{
  Cls,
  this,
  text,
  word,
  path,
  port,
  number,
  Note,
  skip,
  heading,
  type,
  top,
  named,
  any,
  finish,
  edged,
  end,
  plain,
  empty,
  all,
  whole,
  close,
  Act,
  note,
  divide,
  scaled,
  unity,
  joined,
  cell,
  entry,
  time,
  Term,
  N,
  header,
  timescale,
  bare,
  bare1,
  bare2,
  bare3,
  value,
  first,
  second,
  third,
  more,
  instance,
  specs,
  spec,
  deltype,
  deltypes,
  checks,
  delays,
  delay,
  device,
  check,
  end?,
  values,
  ◌⇒◌,
  ◌∣◌,
  opens,
  closes,
  heads,
  alts,
  fits,
  looks,
  kind_of,
  file,
  one_cell_of,
}
use Rattle.grammar.specs.Grammar as G
use Rattle.grammar.specs.Outcome.{Stack}
use Rattle.laws.specs.Walk.{walk, through, agrees, agrees-drop, along_inv, kept_if, kept, some_inj}
use Rattle.laws.specs.Sides.{Whole, a_file, a_cell}

-- 0 outside the cells, 1 in a cell, 2 in an entry: a cell's closing bracket and an entry's
abbrev pub leaves : ℕ → Note → Option ℕ
leaves q skip = some q
leaves q (heading k) = some q
leaves q type = some q
leaves q top = some q
leaves q named = some q
leaves q any = some q
leaves q finish = pick (eqb q 1) (some 0) none
leaves q (edged i) = some q
leaves q (end i) = some q
leaves q (plain i) = some q
leaves q G.none = some q
leaves q empty = some q
leaves q all = some q
leaves q whole = some q
leaves q close = pick (eqb q 2) (some 1) none

-- and the keywords that open them
abbrev pub turns : ℕ → Act → Option ℕ
turns q (note n) = leaves q n
turns q (divide d) = some q
turns q scaled = some q
turns q unity = some q
turns q joined = some q
turns q cell = pick (eqb q 0) (some 1) none
turns q (entry g) = pick (eqb q 1) (some 2) none
turns q (time s k) = some q

abbrev alike : Bool → Bool → Bool
alike true t = t
alike false true = false
alike false false = true

abbrev numeric : Bool → Cls → Bool
numeric s (this k) = false
numeric s text = false
numeric s (word t a b) = false
numeric s (path d) = false
numeric s (port d) = false
numeric s (number t) = alike s t

-- a time is a number of its sign
abbrev pub proper : Cls → Act → Bool
proper c (note n) = true
proper c (divide d) = true
proper c scaled = true
proper c unity = true
proper c joined = true
proper c cell = true
proper c (entry g) = true
proper c (time s k) = numeric s c

abbrev pub moves : ℕ → Term → Option ℕ
moves q c = pick (proper c.cls c.act) (turns q c.act) none

abbrev pub every : N → Bool
every n = true

-- where each place stands, and where it leaves a reading
abbrev pub from : N → ℕ
from (header k d) = 0
from G.divider = 0
from timescale = 0
from bare = 0
from bare1 = 0
from (bare2 f) = 0
from (bare3 f) = 0
from (value s) = 2
from (first s) = 2
from (second f s) = 2
from (third f s) = 2
from (more d) = 0
from (instance d) = 1
from (specs d) = 1
from (spec d) = 1
from (deltype d) = 1
from (deltypes f d) = 1
from (checks f d) = 1
from (delays g f d) = 1
from (delay g d) = 1
from (device d) = 2
from (check d) = 1
from (end? i d) = 2
from (values n) = 2

abbrev pub to : N → ℕ
to (header k d) = 0
to G.divider = 0
to timescale = 0
to bare = 0
to bare1 = 0
to (bare2 f) = 0
to (bare3 f) = 0
to (value s) = 2
to (first s) = 2
to (second f s) = 2
to (third f s) = 2
to (more d) = 0
to (instance d) = 1
to (specs d) = 0
to (spec d) = 0
to (deltype d) = 1
to (deltypes f d) = 1
to (checks f d) = 1
to (delays g f d) = 1
to (delay g d) = 1
to (device d) = 1
to (check d) = 1
to (end? i d) = 2
to (values n) = 1

-- THE TEST: each alternative of a place goes where the place does
table : (n : N) → agrees moves every from to (from n) (to n) (alts n) ≡ true
unfolding alts walk agrees
table (header k d) = agrees-drop moves every from to k 0 0 (heads d) refl
table G.divider = refl
table timescale = refl
table bare = refl
table bare1 = refl
table (bare2 f) = refl
table (bare3 true) = refl
table (bare3 false) = refl
table (value true) = refl
table (value false) = refl
table (first true) = refl
table (first false) = refl
table (second f true) = refl
table (second f false) = refl
table (third true true) = refl
table (third true false) = refl
table (third false true) = refl
table (third false false) = refl
table (more d) = refl
table (instance d) = refl
table (specs d) = refl
table (spec d) = refl
table (deltype d) = refl
table (deltypes true d) = refl
table (deltypes false d) = refl
table (checks true d) = refl
table (checks false d) = refl
table (delays g true d) = refl
table (delays g false d) = refl
table (delay g d) = refl
table (device d) = refl
table (check d) = refl
table (end? i d) = refl
table (values n) = by (ltb n 6)
  where
    by : (v : Bool) → agrees moves every from to 2 1
        (closes close ⇒ [] ∣ (pick v (opens ⇒ non (value true) ∷ non (values (n + 1)) ∷ [] ∣ []) [])) ≡ true
    by true = refl
    by false = refl

-- a file and a cell begin and end outside the cells
outside : {ss : Stack} → Whole ss → walk moves every from to 0 ss ≡ some 0
unfolding file one_cell_of walk
outside a_file = refl
outside (a_cell d) = refl

-- the terminals that take tokens open and close cells and entries in turn
pub in_turn : {ss : Stack} → Whole ss → (ts : List Placed) (r : Row Term N) → feeds fits alts ss ts ≡ some r →
    (p : ℕ) × (through moves every from to 0 r.labels ≡ some p) × (walk moves every from to p r.left ≡ some 0)
in_turn {ss} w ts r e = kept moves every from to fits alts table ts ss 0 0 r (outside w) e

-- a file or cell that is complete ends where it began
pub closed-off : {ss : Stack} → Whole ss → (ts : List Placed) (cs : List Term) → feeds fits alts ss ts ≡ some (record { labels = cs; left = [] }) →
    through moves every from to 0 cs ≡ some 0
unfolding walk
closed-off w ts cs e = let (p, a, b) = in_turn w ts _ e in a ∙ b

alike_eq : (s t : Bool) → alike s t ≡ true → t ≡ s
alike_eq true t e = e
alike_eq false true e = absurd (true≢false (sym e))
alike_eq false false e = refl

numeric-looks : (s : Bool) (c : Cls) (w : List ℕ) → numeric s c ≡ true → looks c w ≡ true → is_number s w ≡ true
numeric-looks s (this k) w e f = absurd (true≢false (sym e))
numeric-looks s text w e f = absurd (true≢false (sym e))
numeric-looks s (word t a b) w e f = absurd (true≢false (sym e))
numeric-looks s (path d) w e f = absurd (true≢false (sym e))
numeric-looks s (port d) w e f = absurd (true≢false (sym e))
numeric-looks s (number t) w e f = subst (λ (x : Bool). is_number x w ≡ true) (alike_eq s t e) f

never_wrong : (m : Bool) (a b c : ℕ) → exact m a b c ≡ Err Wrong → ⊥
unfolding exact
never_wrong m a b c e = by (eqb ((a * 10 ^ b) % 10 ^ c) 0) (leb ((a * 10 ^ b) / 10 ^ c) limit) _ e
  where
    by : (v w : Bool) (z : ℤ) → pick v (pick w (Ok z) (Err Beyond)) (Err Fine) ≡ Err Wrong → ⊥
    by true true z e = let z : ◌≡◌ {A = ℕ} 0 1 = cc in omega arith
    by true false z e = let z : ◌≡◌ {A = ℕ} 0 1 = cc in omega arith
    by false w z e = let z : ◌≡◌ {A = ℕ} 0 1 = cc in omega arith

-- 'So a word at a number's place is a number or one of two refusals (6 and 7), once its shape is right.'
not-wrong : (s : Bool) (u : ℕ) (w : List ℕ) → is_number s w ≡ true → number_of s u w ≡ Err Wrong → ⊥
unfolding number_of
not-wrong s u w e f = never_wrong _ _ _ _ (rw e at f)

-- a token that a time takes is not of a wrong shape
abbrev pub Sound : Term → Placed → Type 0
Sound c t = (s : Bool) (k u : ℕ) → c.act ≡ time s k → number_of s u t.bytes ≡ Err Wrong → ⊥

sound : (c : Term) (t : Placed) → proper c.cls c.act ≡ true → fits c t ≡ true → Sound c t
sound c t p f s k u e w =
    not-wrong s u t.bytes
    (numeric-looks s c.cls t.bytes (rw e at p) (both_true (eqb t.kind (kind_of c.cls)) (looks c.cls t.bytes) f).1) w

-- what takes a token fits it
pub taker-fits : (ss : Stack) (t : Placed) (w : Took Term N) → feed fits alts ss t ≡ some w → fits w.by t ≡ true
taker-fits [] t w e = absurd (none≢some w e)
taker-fits (lit c ∷ ss) t w e = by (fits c t) refl e
  where
    by : (v : Bool) → fits c t ≡ v → pick v (some (record { by = c; left = ss })) none ≡ some w → fits w.by t ≡ true
    by true f e = subst (λ (x : Took Term N). fits x.by t ≡ true) (some_inj e) f
    by false f e = absurd (none≢some w e)
taker-fits (non n ∷ ss) t w e = by (alts n) e
  where
    by : (l : List (Alt Term N)) → onto ss (choose fits l t) ≡ some w → fits w.by t ≡ true
    by [] e = absurd (none≢some w e)
    by (a ∷ l) e = with_it (fits a.head t) refl e (by l)
      where
        with_it : (v : Bool) → fits a.head t ≡ v → onto ss (pick v (some a) (choose fits l t)) ≡ some w →
            (onto ss (choose fits l t) ≡ some w → fits w.by t ≡ true) → fits w.by t ≡ true
        with_it true f e ih = subst (λ (x : Took Term N). fits x.by t ≡ true) (some_inj e) f
        with_it false f e ih = ih e

pub taker_sound : {ss : Stack} → Whole ss → (ts : List Placed) (r : Row Term N) (t : Placed) (w : Took Term N) →
    feeds fits alts ss ts ≡ some r → feed fits alts r.left t ≡ some w → Sound w.by t
unfolding through feeds
taker_sound y ts r t w e f =
    let (p, a, b) = in_turn y ts r e in
    let (o, c, d) = kept moves every from to fits alts table (t ∷ []) r.left p 0 (record { labels = w.by ∷ []; left = w.left }) b (rw f) in
    let (q, g, h) = along_inv (moves p w.by) (λ x. some x) o c in
    sound w.by t (kept_if (proper w.by.cls w.by.act) (turns p w.by.act) q g).0 (taker-fits r.left t w f)
