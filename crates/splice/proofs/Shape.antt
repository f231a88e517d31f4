-- What a file's reading waits for: a header's keyword, what stands before its opening bracket, a divider, or what a cell still has and then
-- more cells. So a cell's keyword stands behind an opening bracket, and is read with the divider in force.
-- Assumes nothing.
use Rattle.std.specs.Prelude.{◌≡◌, refl, Bool, true, false, List, [], ◌∷◌, ◌++◌, ℕ, zero, suc, ◌+◌, eqb, ltb, drop, ℤ, Result, Ok, Err}
use Rattle.std.proofs.Common.{sym, ap, subst, ◌∙◌, true≢false, append-nil, ⊎_elim}
use Rattle.std.proofs.Math.Option.{Option, none, some}
use Rattle.classes.specs.Choice.{pick}
use Rattle.tokens.specs.Stream.{Placed}
use Rattle.numbershape.specs.Value.{number_of}
use Rattle.numbershape.specs.declared.NotTime.{NotTime}
use Rattle.grammar.specs.Ll.{Sym, lit, non, Alt, Row, Took, choose, onto, feeds, none≢some, both_true}
use Rattle.grammar.specs.Machine.{fine, bad, fine_inj, judges}
use Rattle.grammar.specs.Grammar.{Cls, Act, note, divide, scaled, unity, joined, cell, entry, time, skip, close, Term, N, header, timescale, bare, bare1, bare2, bare3, value, first, second, third, more, instance, specs, spec, deltype, deltypes, checks, delays, delay, device, check, end?, values, dividers, ◌⇒◌, ◌∣◌, ◌‼◌, ⟨, ⟩, opens, closes, key, keyword, heads, cell_tail, alts, fits, file}
use Rattle.grammar.specs.Grammar as G
use Rattle.grammar.specs.Meaning.{Book, overlong, refused≢fine, timed, judge, judge_by}
use Rattle.grammar.specs.Outcome.{Stack}
use Rattle.laws.specs.Walk.{some_inj}
use Rattle.laws.specs.Taken.{Taken, tells, opens_cell}
use Rattle.laws.proofs.Judged.{pick_fine}
use Rattle.laws.proofs.Behind.{then_fine, Fed, fed_uncons}
use Rattle.sound.specs.Sound.{Each}
use Rattle.splice.proofs.Blocks.{Takes, took_by, took_left, first-or, feed_under}

-- neither a cell's keyword nor a divider
abbrev calm : Act → Bool
calm (note n) = true
calm (divide d) = false
calm scaled = true
calm unity = true
calm joined = true
calm cell = false
calm (entry g) = true
calm (time s k) = true

-- a place with which no reading ends
abbrev inner_n : N → Bool
inner_n (header k d) = false
inner_n G.divider = false
inner_n timescale = true
inner_n bare = true
inner_n bare1 = true
inner_n (bare2 f) = true
inner_n (bare3 f) = true
inner_n (value s) = true
inner_n (first s) = true
inner_n (second f s) = true
inner_n (third f s) = true
inner_n (more d) = false
inner_n (instance d) = true
inner_n (specs d) = true
inner_n (spec d) = true
inner_n (deltype d) = true
inner_n (deltypes f d) = true
inner_n (checks f d) = true
inner_n (delays g f d) = true
inner_n (delay g d) = true
inner_n (device d) = true
inner_n (check d) = true
inner_n (end? i d) = true
inner_n (values n) = true

abbrev inner : Sym Term N → Bool
inner (lit c) = calm c.act
inner (non n) = inner_n n

abbrev all_inner : Stack → Bool
all_inner [] = true
all_inner (y ∷ ss) = pick (inner y) (all_inner ss) false

abbrev agree : List (Alt Term N) → Bool
agree [] = true
agree (a ∷ l) = pick (pick (calm a.head.act) (all_inner a.rest) false) (agree l) false

-- THE TEST: each alternative of such a place
table : (n : N) → inner_n n ≡ true → agree (alts n) ≡ true
unfolding alts
table (header k d) e = absurd (true≢false (sym e))
table G.divider e = absurd (true≢false (sym e))
table timescale e = refl
table bare e = refl
table bare1 e = refl
table (bare2 f) e = refl
table (bare3 true) e = refl
table (bare3 false) e = refl
table (value s) e = refl
table (first s) e = refl
table (second f s) e = refl
table (third true s) e = refl
table (third false s) e = refl
table (more d) e = absurd (true≢false (sym e))
table (instance d) e = refl
table (specs d) e = refl
table (spec d) e = refl
table (deltype d) e = refl
table (deltypes true d) e = refl
table (deltypes false d) e = refl
table (checks true d) e = refl
table (checks false d) e = refl
table (delays g true d) e = refl
table (delays g false d) e = refl
table (delay g d) e = refl
table (device d) e = refl
table (check d) e = refl
table (end? i d) e = refl
table (values n) e = by (ltb n 6)
  where
    by : (v : Bool) → agree (closes close ⇒ [] ∣ (pick v (opens ⇒ non (value true) ∷ non (values (n + 1)) ∷ [] ∣ []) [])) ≡ true
    by true = refl
    by false = refl

inner-append : (xs ys : Stack) → all_inner xs ≡ true → all_inner ys ≡ true → all_inner (xs ++ ys) ≡ true
inner-append [] ys e f = f
inner-append (x ∷ xs) ys e f = let (g, h) = both_true (inner x) (all_inner xs) e in rw g (inner-append xs ys h f)

abbrev Calmly : Term → Stack → Type 0
Calmly c m = (calm c.act ≡ true) × (all_inner m ≡ true)

chosen-inner : (l : List (Alt Term N)) (ss m : Stack) (x : Taken) → agree l ≡ true → all_inner ss ≡ true →
    onto ss (choose fits l x.tok) ≡ some (record { by = x.by; left = m }) → Calmly x.by m
chosen-inner [] ss m x e f g = absurd (none≢some _ g)
chosen-inner (a ∷ l) ss m x e f g =
    let (h, k) = both_true (pick (calm a.head.act) (all_inner a.rest) false) (agree l) e in
    let (i, j) = both_true (calm a.head.act) (all_inner a.rest) h in
    ⊎_elim (λ (p, q). rw (p, q) (i, inner-append a.rest ss j f)) (chosen-inner l ss m x k f)
    (first-or (fits a.head x.tok) a (choose fits l x.tok) ss m x.by g)

taken-inner : (y : Sym Term N) (ss m : Stack) (x : Taken) → all_inner (y ∷ ss) ≡ true → Takes (y ∷ ss) x m → Calmly x.by m
taken-inner (lit c) ss m x e f = let (g, h) = both_true (calm c.act) (all_inner ss) e in by (fits c x.tok) f g h
  where
    by : (v : Bool) → pick {A = Option (Took Term N)} v (some (record { by = c; left = ss })) none ≡ some (record { by = x.by; left = m }) →
        calm c.act ≡ true → all_inner ss ≡ true → Calmly x.by m
    by true f g h = rw (← took_by f, ← took_left f) (g, h)
    by false f g h = absurd (none≢some _ f)
taken-inner (non n) ss m x e f = let (g, h) = both_true (inner_n n) (all_inner ss) e in chosen-inner (alts n) ss m x (table n g) h f

-- WHAT A FILE'S READING WAITS FOR, and the divider that it knows
pub data Shape : Option Bool → Stack → Type 0 where
  over : Shape none []
  word : (k : ℕ) (d : Bool) → Shape (some d) (non (header k d) ∷ [])
  before : (ii : Stack) (k : ℕ) (d : Bool) → all_inner ii ≡ true → Shape (some d) (ii ++ ⟨ ∷ non (header k d) ∷ [])
  sign : Shape none (non G.divider ∷ [])
  rest : (ii : Stack) (d : Bool) → all_inner ii ≡ true → Shape (some d) (ii ++ non (more d) ∷ [])

abbrev pub header_n : N → Bool
header_n (header k d) = true
header_n G.divider = false
header_n timescale = false
header_n bare = false
header_n bare1 = false
header_n (bare2 f) = false
header_n (bare3 f) = false
header_n (value s) = false
header_n (first s) = false
header_n (second f s) = false
header_n (third f s) = false
header_n (more d) = false
header_n (instance d) = false
header_n (specs d) = false
header_n (spec d) = false
header_n (deltype d) = false
header_n (deltypes f d) = false
header_n (checks f d) = false
header_n (delays g f d) = false
header_n (delay g d) = false
header_n (device d) = false
header_n (check d) = false
header_n (end? i d) = false
header_n (values n) = false

-- a header's keyword is next
abbrev pub is_header : Stack → Bool
is_header [] = false
is_header (lit c ∷ ss) = false
is_header (non n ∷ ss) = header_n n

not_header : (n : N) → inner_n n ≡ true → header_n n ≡ false
not_header (header k d) e = absurd (true≢false (sym e))
not_header G.divider e = refl
not_header timescale e = refl
not_header bare e = refl
not_header bare1 e = refl
not_header (bare2 f) e = refl
not_header (bare3 f) e = refl
not_header (value s) e = refl
not_header (first s) e = refl
not_header (second f s) e = refl
not_header (third f s) e = refl
not_header (more d) e = refl
not_header (instance d) e = refl
not_header (specs d) e = refl
not_header (spec d) e = refl
not_header (deltype d) e = refl
not_header (deltypes f d) e = refl
not_header (checks f d) e = refl
not_header (delays g f d) e = refl
not_header (delay g d) e = refl
not_header (device d) e = refl
not_header (check d) e = refl
not_header (end? i d) e = refl
not_header (values n) e = refl

inner_first : (ii zz : Stack) → all_inner ii ≡ true → is_header zz ≡ false → is_header (ii ++ zz) ≡ false
inner_first [] zz e f = f
inner_first (lit c ∷ ii) zz e f = refl
inner_first (non n ∷ ii) zz e f = not_header n (both_true (inner_n n) (all_inner ii) e).0

-- the divider behind a token
abbrev slash_by : Act → Bool → Bool
slash_by (note n) s = s
slash_by (divide d) s = d
slash_by scaled s = s
slash_by unity s = s
slash_by joined s = s
slash_by cell s = s
slash_by (entry g) s = s
slash_by (time w k) s = s

abbrev pub Slashed : Option Bool → Bool → Type 0
Slashed none s = Unit {0}
Slashed (some d) s = s ≡ d

calm-same : (x : Act) (s : Bool) → calm x ≡ true → slash_by x s ≡ s
calm-same (note n) s e = refl
calm-same (divide d) s e = absurd (true≢false (sym e))
calm-same scaled s e = refl
calm-same unity s e = refl
calm-same joined s e = refl
calm-same cell s e = absurd (true≢false (sym e))
calm-same (entry g) s e = refl
calm-same (time w k) s e = refl

calm_no_cell : (x : Act) → calm x ≡ true → opens_cell x ≡ true → ⊥
calm_no_cell (note n) e f = true≢false (sym f)
calm_no_cell (divide d) e f = true≢false (sym e)
calm_no_cell scaled e f = true≢false (sym f)
calm_no_cell unity e f = true≢false (sym f)
calm_no_cell joined e f = true≢false (sym f)
calm_no_cell cell e f = true≢false (sym e)
calm_no_cell (entry g) e f = true≢false (sym f)
calm_no_cell (time w k) e f = true≢false (sym f)

-- a cell's keyword was taken
pub record AtCell (o : Option Bool) (ss : Stack) (c : Term) (m : Stack) : Type 0 where
  pub k : ℕ
  pub d : Bool
  pub divider : o ≡ some d
  pub before : ss ≡ non (header k d) ∷ []
  pub behind : m ≡ cell_tail d ++ non (more d) ∷ []
  pub term : c ≡ key 53 ‼ cell

-- ONE TOKEN
pub record Stepped (o : Option Bool) (ss : Stack) (c : Term) (m : Stack) : Type 0 where
  pub o' : Option Bool
  pub shape : Shape o' m
  pub slash : (s : Bool) → Slashed o s → Slashed o' (slash_by c.act s)
  pub word : is_header m ≡ true → c ≡ opens
  pub cell : opens_cell c.act ≡ true → AtCell o ss c m

-- where a header's keyword was taken that is no cell's
heading_steps : (k k' : ℕ) (d : Bool) (c : Term) (ii : Stack) → calm c.act ≡ true → all_inner ii ≡ true →
    Stepped (some d) (non (header k d) ∷ []) c (ii ++ ⟨ ∷ non (header k' d) ∷ [])
heading_steps k k' d c ii e f =
    record {
      o' = some d;
      shape = before ii k' d f;
      slash = λ s h. calm-same c.act s e ∙ h;
      word = λ h. absurd (true≢false (sym h ∙ inner_first ii (⟨ ∷ non (header k' d) ∷ []) f refl));
      cell = λ h. absurd (calm_no_cell c.act e h);
    }

abbrev From : ℕ → Bool → Alt Term N → Type 0
From k d a = Stepped (some d) (non (header k d) ∷ []) a.head a.rest

each_head : (k : ℕ) (d : Bool) → Each (From k d) (heads d)
each_head k d = (
  heading_steps k 1 d (keyword 43) (lit _ ∷ ⟩ ∷ []) refl refl,
  (
    heading_steps k 2 d (keyword 44) (lit _ ∷ ⟩ ∷ []) refl refl,
    (
      heading_steps k 3 d (keyword 45) (lit _ ∷ ⟩ ∷ []) refl refl,
      (
        heading_steps k 4 d (keyword 46) (lit _ ∷ ⟩ ∷ []) refl refl,
        (
          heading_steps k 5 d (keyword 47) (lit _ ∷ ⟩ ∷ []) refl refl,
          (
            record { o' = none; shape = sign; slash = λ s h. tt; word = λ h. absurd (true≢false (sym h)); cell = λ h. absurd (true≢false (sym h)) },
            (
              heading_steps k 7 d (keyword 49) (non bare ∷ []) refl refl,
              (
                heading_steps k 8 d (keyword 50) (lit _ ∷ ⟩ ∷ []) refl refl,
                (
                  heading_steps k 9 d (keyword 51) (non bare ∷ []) refl refl,
                  (
                    heading_steps k 10 d (keyword 52) (non timescale ∷ ⟩ ∷ []) refl refl,
                    (
                      record {
                        o' = some d;
                        shape = rest (cell_tail d) d refl;
                        slash = λ s h. h;
                        word = λ h. absurd (true≢false (sym h));
                        cell = λ h. record { k = k; d = d; divider = refl; before = refl; behind = refl; term = refl };
                      },
                      tt,
                    ),
                  ),
                ),
              ),
            ),
          ),
        ),
      ),
    ),
  ),
)

each-drop : {A : Type 0} (P : A → Type 0) (k : ℕ) (l : List A) → Each P l → Each P (drop k l)
each-drop P zero l h = h
each-drop P (suc k) [] h = tt
each-drop P (suc k) (a ∷ l) (x, h) = each-drop P k l h

chosen-each : (P : Alt Term N → Type 0) (l : List (Alt Term N)) (m : Stack) (x : Taken) → Each P l →
    onto [] (choose fits l x.tok) ≡ some (record { by = x.by; left = m }) → (a : Alt Term N) × P a × (x.by ≡ a.head) × (m ≡ a.rest ++ [])
chosen-each P [] m x h e = absurd (none≢some _ e)
chosen-each P (a ∷ l) m x (p, h) e =
    ⊎_elim (λ (q, r). (a, p, q, r)) (chosen-each P l m x h) (first-or (fits a.head x.tok) a (choose fits l x.tok) [] m x.by e)

stepped_as : (o : Option Bool) (ss : Stack) (c c' : Term) (m m' : Stack) → c ≡ c' → m ≡ m' → Stepped o ss c' m' → Stepped o ss c m
stepped_as o ss c c' m m' e f h = rw (e, f) h

-- where what stands before the end is taken
inner_steps : (o : Option Bool) (y : Sym Term N) (ii zz m : Stack) (x : Taken) → all_inner (y ∷ ii) ≡ true → is_header zz ≡ false →
    ((jj : Stack) → all_inner jj ≡ true → Shape o (jj ++ zz)) → Takes (y ∷ (ii ++ zz)) x m → Stepped o (y ∷ (ii ++ zz)) x.by m
inner_steps o y ii zz m x e f s t =
    let (n, g, h) = feed_under y ii zz m x t in
    let (i, j) = taken-inner y ii n x e h in
    stepped_as o (y ∷ (ii ++ zz)) x.by x.by m (n ++ zz) refl g
    (record {
      o' = o;
      shape = s n j;
      slash = λ b k. subst (λ (v : Bool). Slashed o v) (sym (calm-same x.by.act b i)) k;
      word = λ k. absurd (true≢false (sym k ∙ inner_first n zz j f));
      cell = λ k. absurd (calm_no_cell x.by.act i k);
    })

pub shape_steps : (o : Option Bool) (ss m : Stack) (x : Taken) → Shape o ss → Takes ss x m → Stepped o ss x.by m
unfolding alts
shape_steps o ss m x over t = absurd (none≢some _ t)
shape_steps o ss m x (word k d) t =
    let (a, p, q, r) = chosen-each (From k d) (drop k (heads d)) m x (each-drop (From k d) k (heads d) (each_head k d)) t in
    stepped_as (some d) (non (header k d) ∷ []) x.by a.head m a.rest q (r ∙ append-nil a.rest) p
shape_steps o ss m x (before [] k d e) t = by (fits opens x.tok) t
  where
    by : (v : Bool) →
        pick {A = Option (Took Term N)} v (some (record { by = opens; left = non (header k d) ∷ [] })) none ≡ some (record { by = x.by; left = m }) →
        Stepped (some d) (⟨ ∷ non (header k d) ∷ []) x.by m
    by true f =
        stepped_as (some d) (⟨ ∷ non (header k d) ∷ []) x.by opens m (non (header k d) ∷ []) (sym (took_by f)) (sym (took_left f))
        (record { o' = some d; shape = word k d; slash = λ s h. h; word = λ h. refl; cell = λ h. absurd (true≢false (sym h)) })
    by false f = absurd (none≢some _ f)
shape_steps o ss m x (before (y ∷ ii) k d e) t =
    inner_steps (some d) y ii (⟨ ∷ non (header k d) ∷ []) m x e refl (λ jj f. before jj k d f) t
shape_steps o ss m x sign t =
    ⊎_elim (λ (p, q). signed false p q)
    (λ r. ⊎_elim (λ (p, q). signed true p q) (λ z. absurd (none≢some _ z)) (first-or (fits (G.word dividers 2 2 ‼ (divide true)) x.tok) _ _ [] m x.by r))
    (first-or (fits (G.word dividers 1 1 ‼ (divide false)) x.tok) _ _ [] m x.by t)
  where
    signed : (d : Bool) {c : Cls} → x.by ≡ c ‼ (divide d) → m ≡ ⟩ ∷ ⟨ ∷ non (header 6 d) ∷ [] → Stepped none (non G.divider ∷ []) x.by m
    signed d {c} p q =
        stepped_as none (non G.divider ∷ []) x.by (c ‼ (divide d)) m (⟩ ∷ ⟨ ∷ non (header 6 d) ∷ []) p q
        (record {
          o' = some d;
          shape = before (⟩ ∷ []) 6 d refl;
          slash = λ s h. refl;
          word = λ h. absurd (true≢false (sym h));
          cell = λ h. absurd (true≢false (sym h));
        })
shape_steps o ss m x (rest [] d e) t =
    ⊎_elim
    (λ (p, q). stepped_as (some d) (non (more d) ∷ []) x.by (closes skip) m [] p q
    (record { o' = none; shape = over; slash = λ s h. tt; word = λ h. absurd (true≢false (sym h)); cell = λ h. absurd (true≢false (sym h)) }))
    (λ r. ⊎_elim (λ (p, q). stepped_as (some d) (non (more d) ∷ []) x.by opens m (non (header 10 d) ∷ []) p q
    (record { o' = some d; shape = word 10 d; slash = λ s h. h; word = λ h. refl; cell = λ h. absurd (true≢false (sym h)) }))
    (λ z. absurd (none≢some _ z)) (first-or (fits opens x.tok) _ _ [] m x.by r))
    (first-or (fits (closes skip) x.tok) _ _ [] m x.by t)
shape_steps o ss m x (rest (y ∷ ii) d e) t = inner_steps (some d) y ii (non (more d) ∷ []) m x e refl (λ jj f. rest jj d f) t

-- the book's divider behind a token
slash_simply : (v : Bool) (n q : ℕ) (d₀ d : Book) (s : Bool) → d₀.slash ≡ s → pick v (bad n q) (fine d₀) ≡ fine d → d.slash ≡ s
slash_simply v n q d₀ d s h e = sym (ap (λ (x : Book). x.slash) (fine_inj (pick_fine v n q (fine d₀) d e).1)) ∙ h

slash_behind : (b : Book) (c : Cls) (x : Act) (t : Placed) (d : Book) → judge_by b c x t ≡ fine d → d.slash ≡ slash_by x b.slash
slash_behind b c (note n) t d e = slash_simply (overlong c t) 8 t.start _ d b.slash refl e
slash_behind b c (divide w) t d e = slash_simply (overlong c t) 8 t.start _ d w refl e
slash_behind b c scaled t d e = slash_simply (overlong c t) 8 t.start _ d b.slash refl e
slash_behind b c unity t d e = slash_simply (overlong c t) 8 t.start _ d b.slash refl e
slash_behind b c joined t d e = slash_simply (overlong c t) 8 t.start _ d b.slash refl e
slash_behind b c cell t d e =
    slash_simply (eqb b.cell_room 0) 9 t.start _ d b.slash refl (pick_fine (overlong c t) 8 t.start _ d e).1
slash_behind b c (entry g) t d e =
    slash_simply (eqb b.item_room 0) 9 t.start _ d b.slash refl (pick_fine (overlong c t) 8 t.start _ d e).1
slash_behind b c (time w k) t d e = by (number_of w b.unit t.bytes) e
  where
    by : (v : Result ℤ NotTime) → timed b c k t v ≡ fine d → d.slash ≡ b.slash
    by (Ok z) e = slash_simply (overlong c t) 8 t.start _ d b.slash refl e
    by (Err y) e = absurd (refused≢fine b c k t y e)

-- ALL TOKENS
abbrev pub Shaped : Stack → Bool → Type 0
Shaped l s = (o : Option Bool) × Shape o l × Slashed o s

pub shape_walks : (xs : List Taken) (ss l : Stack) (b e : Book) → Shaped ss b.slash → Fed ss xs l → tells b xs ≡ fine e → Shaped l e.slash
unfolding feeds judges
shape_walks [] ss l b e s f t =
    subst (λ (x : Stack). Shaped x e.slash) (ap (λ (r : Row Term N). r.left) (some_inj f))
    (subst (λ (x : Book). Shaped ss x.slash) (fine_inj t) s)
shape_walks (x ∷ xs) ss l b e (o, s, h) f t =
    let (m, g, i) = fed_uncons ss x xs l f in
    let (y, j, k) = then_fine (judge b x.by x.tok) (λ y. tells y xs) e t in
    let n = shape_steps o ss m x s g in
    shape_walks xs m l y e
    (n.o', n.shape, subst (λ (v : Bool). Slashed n.o' v) (sym (slash_behind b x.by.cls x.by.act x.tok y j)) (n.slash b.slash h)) i k

-- a file begins
pub file_shaped : Shaped file false
unfolding file
file_shaped = (some false, before (⟨ ∷ lit (keyword 41) ∷ ⟨ ∷ lit (keyword 42) ∷ lit _ ∷ ⟩ ∷ []) 0 false refl, refl)

pub file_no_header : is_header file ≡ false
unfolding file
file_no_header = refl
