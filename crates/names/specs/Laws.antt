-- Laws of names: the order and the one equality, canonical forms, full names, the last component.
-- Assumes nothing.
use Rattle.std.specs.Prelude.{ℕ, ◌+◌, ◌≡◌, refl, Bool, true, false, not, List, [], ◌∷◌, ◌++◌, ◌↔◌, eqb, length, take, drop}
use Rattle.std.proofs.Common.{sym, ap, ◌∙◌, append_assoc, append-nil, arith, add-zero, zero-add, add_assoc, length-append, take_at, drop_at, eqb-true, eq-eqb, ne_eqb}
use Rattle.std.proofs.Math.Seq.{append_snoc}
use Rattle.classes.specs.Choice.{and}
use Rattle.classes.specs.Classes.{is_digit}
use Rattle.nameshape.specs.Shape.{is_name_byte, divider, escapes, Piece, byte, pair, Body, start, more, Digits, digit, digits, Component, plain, indexed, Last, component, ranged, Name, last, join}
use Rattle.names.specs.Order.{cmp, same_text}
use Rattle.names.specs.Orders.{cmp_1, cmp_self}
use Rattle.names.specs.Name.{canon, canon_from, turned, full, same_name, start_from, start_behind, start-cons, last_start, last_of, one_below}

-- The order and the equality.

-- two texts compare as the same exactly if they are
pub cmp_exactly : (x y : List ℕ) → (cmp x y ≡ 1) ↔ (x ≡ y)
cmp_exactly x y = (cmp_1 x y, λ e. rw e (cmp_self y))

pub text_exactly : (x y : List ℕ) → (same_text x y ≡ true) ↔ (x ≡ y)
unfolding same_text
text_exactly x y = (λ e. cmp_1 x y (eqb-true _ _ e), λ e. rw e (eq-eqb _ _ (cmp_self y)))

-- two canonical names are the same name exactly if they are the same text
pub name_exactly : (x y : List ℕ) → (same_name x y ≡ true) ↔ (x ≡ y)
unfolding same_name
name_exactly x y = text_exactly x y

-- and so being the same name is an equivalence
pub same_self : (x : List ℕ) → same_name x x ≡ true
same_self x = (name_exactly x x).1 refl

pub same_back : (x y : List ℕ) → same_name x y ≡ true → same_name y x ≡ true
same_back x y e = (name_exactly y x).1 (sym ((name_exactly x y).0 e))

pub same_on : (x y z : List ℕ) → same_name x y ≡ true → same_name y z ≡ true → same_name x z ≡ true
same_on x y z e f = (name_exactly x z).1 ((name_exactly x y).0 e ∙ (name_exactly y z).0 f)

-- Full names.

-- a path, `.` and a name together have the shape of a name
pub joined_shape : (port slash : Bool) {path name : List ℕ} → Name false slash path → Name port slash name → Name port slash (path ++ divider slash ∷ name)
joined_shape port slash (last (component c)) n = join c n
joined_shape port slash (join {x = x} {y = y} c p) n = rw append_assoc (join c (joined_shape port slash p n))

pub full_shape : (port : Bool) (path name : List ℕ) → Name false false path → Name port false name → Name port false (full path name)
unfolding full divider
full_shape port [] name p n = n
full_shape port (c ∷ r) name p n = joined_shape port false p n

-- from a full name and a written name the path is determined
pub path_determined : (p q name : List ℕ) → full p name ≡ full q name → p ≡ q
unfolding full
path_determined [] [] name e = refl
path_determined [] (d ∷ s) name e = absurd (let l = ap length e ∙ length-append (d ∷ s) (46 ∷ name) in omega arith)
path_determined (c ∷ r) [] name e = absurd (let l = sym (ap length e) ∙ length-append (c ∷ r) (46 ∷ name) in omega arith)
path_determined (c ∷ r) (d ∷ s) name e =
    let l = sym (length-append (c ∷ r) (46 ∷ name)) ∙ ap length e ∙ length-append (d ∷ s) (46 ∷ name) in
    let n : length (c ∷ r) ≡ length (d ∷ s) = omega arith in
    sym (take_at (c ∷ r) (46 ∷ name) (length (d ∷ s)) n) ∙ ap (take (length (d ∷ s))) e ∙ take_at (d ∷ s) (46 ∷ name) (length (d ∷ s)) refl

-- and from a full name and a path the name
pub name_determined : (path x y : List ℕ) → full path x ≡ full path y → x ≡ y
unfolding full
name_determined [] x y e = e
name_determined (c ∷ r) x y e =
    let t : 46 ∷ x ≡ 46 ∷ y = sym (drop_at (c ∷ r) (46 ∷ x) (length (c ∷ r)) refl) ∙ ap (drop (length (c ∷ r))) e ∙ drop_at (c ∷ r) (46 ∷ y) (length (c ∷ r)) refl in
    cc

-- Walking over a component: no byte of it is a bare divider, and it escapes nothing behind it.

no : {X : Type 0} → false ≡ true → X
no e = let z : ◌≡◌ {A = ℕ} 0 1 = cc in absurd (omega arith)

-- a byte that is in a class is none of those that are not
apart : (class : ℕ → Bool) (c k : ℕ) → class c ≡ true → class k ≡ false → eqb c k ≡ false
apart class c k h n = ne_eqb c k (λ e. no (sym n ∙ ap class (sym e) ∙ h))

-- a byte that is neither a backslash nor a divider
pub record Calm (c : ℕ) : Type 0 where
  pub backslash : eqb c 92 ≡ false
  pub dot : eqb c 46 ≡ false
  pub slash : eqb c 47 ≡ false

calm_byte : (c : ℕ) → is_name_byte c ≡ true → Calm c
unfolding is_name_byte
calm_byte c e = record { backslash = apart is_name_byte c 92 e refl; dot = apart is_name_byte c 46 e refl; slash = apart is_name_byte c 47 e refl }

calm_digit : (c : ℕ) → is_digit c ≡ true → Calm c
calm_digit c e = record { backslash = apart is_digit c 92 e refl; dot = apart is_digit c 46 e refl; slash = apart is_digit c 47 e refl }

calm_bracket : (Calm 91) × (Calm 93) × (Calm 58)
calm_bracket = (
  record { backslash = refl; dot = refl; slash = refl },
  record { backslash = refl; dot = refl; slash = refl },
  record { backslash = refl; dot = refl; slash = refl },
)

-- a function of a text that walks over calm bytes and escaped pairs walks over components
pub record Walks (over : List ℕ → List ℕ → Type 0) : Type 0 where
  pub none : (y : List ℕ) → over [] y
  pub calm : (c : ℕ) (y : List ℕ) → Calm c → over (c ∷ []) y
  pub escaped : (c : ℕ) (y : List ℕ) → over (92 ∷ c ∷ []) y
  pub on : (x z y : List ℕ) → over x (z ++ y) → over z y → over (x ++ z) y

module _ (over : List ℕ → List ℕ → Type 0) (w : Walks over) where
  walk_piece : {x : List ℕ} → Piece x → (y : List ℕ) → over x y
  walk_piece (byte c e) y = w.calm c y (calm_byte c e)
  walk_piece (pair c e) y = w.escaped c y

  walk_body : {x : List ℕ} → Body x → (y : List ℕ) → over x y
  walk_body (start p) y = walk_piece p y
  walk_body (more {x = x} {y = z} b p) y = w.on x z y (walk_body b (z ++ y)) (walk_piece p y)

  walk-digits : {x : List ℕ} → Digits x → (y : List ℕ) → over x y
  walk-digits (digit c e) y = w.calm c y (calm_digit c e)
  walk-digits (digits {x = x} d c e) y = w.on x (c ∷ []) y (walk-digits d ((c ∷ []) ++ y)) (w.calm c y (calm_digit c e))

  walk_index : {n : List ℕ} → Digits n → (y : List ℕ) → over (91 ∷ (n ++ 93 ∷ [])) y
  walk_index {n} d y =
      w.on (91 ∷ []) (n ++ 93 ∷ []) y (w.calm 91 _ calm_bracket.0)
      (w.on n (93 ∷ []) y (walk-digits d _) (w.calm 93 y calm_bracket.1))

  walk_range : {m n : List ℕ} → Digits m → Digits n → (y : List ℕ) → over (91 ∷ (m ++ 58 ∷ (n ++ 93 ∷ []))) y
  walk_range {m} {n} d e y =
      w.on (91 ∷ []) (m ++ 58 ∷ (n ++ 93 ∷ [])) y (w.calm 91 _ calm_bracket.0)
      (w.on m (58 ∷ (n ++ 93 ∷ [])) y (walk-digits d _)
      (w.on (58 ∷ []) (n ++ 93 ∷ []) y (w.calm 58 _ calm_bracket.2)
      (w.on n (93 ∷ []) y (walk-digits e _) (w.calm 93 y calm_bracket.1))))

  walk_component : {x : List ℕ} → Component x → (y : List ℕ) → over x y
  walk_component (plain b) y = walk_body b y
  walk_component (indexed {x = x} {n = n} b d) y = w.on x (91 ∷ (n ++ 93 ∷ [])) y (walk_body b _) (walk_index d y)

  walk_last : {port : Bool} {x : List ℕ} → Last port x → (y : List ℕ) → over x y
  walk_last (component c) y = walk_component c y
  walk_last (ranged {x = x} {m = m} {n = n} b d e) y = w.on x (91 ∷ (m ++ 58 ∷ (n ++ 93 ∷ []))) y (walk_body b _) (walk_range d e y)

-- Canonical forms.

-- turning dividers leaves a component as it is
abbrev Keeps : Bool → List ℕ → List ℕ → Type 0
Keeps slash x y = canon_from slash false (x ++ y) ≡ x ++ canon_from slash false y

keeps : (slash : Bool) → Walks (Keeps slash)
unfolding canon_from turned escapes divider
keeps true =
    record {
      none = λ y. refl;
      calm = λ c y k. rw (k.slash, k.backslash);
      escaped = λ c y. refl;
      on = λ x z y e f. rw (append_assoc x z y, append_assoc x z) (e ∙ ap (λ l. x ++ l) f);
    }
keeps false =
    record {
      none = λ y. refl;
      calm = λ c y k. rw (k.dot, k.backslash);
      escaped = λ c y. refl;
      on = λ x z y e f. rw (append_assoc x z y, append_assoc x z) (e ∙ ap (λ l. x ++ l) f);
    }

turned_last : (port slash : Bool) {x : List ℕ} → Last port x → canon_from slash false x ≡ x
unfolding canon_from
turned_last port slash {x} l = simp append-nil at (walk_last (Keeps slash) (keeps slash) l [])

turned-divider : (slash : Bool) (y : List ℕ) → canon_from slash false (divider slash ∷ y) ≡ 46 ∷ canon_from slash false y
unfolding canon_from turned escapes divider
turned-divider true y = refl
turned-divider false y = refl

-- the canonical form of a name has the shape of a name with `.`
shape_turned : (port slash : Bool) {x : List ℕ} → Name port slash x → Name port false (canon_from slash false x)
unfolding divider
shape_turned port slash (last l) = rw (turned_last port slash l) (last l)
shape_turned port slash (join {x = x} {y = y} c n) =
    rw (walk_component (Keeps slash) (keeps slash) c (divider slash ∷ y), turned-divider slash y) (join c (shape_turned port slash n))

pub canon_shape : (port slash : Bool) (x : List ℕ) → Name port slash x → Name port false (canon slash x)
unfolding canon
canon_shape port slash x n = shape_turned port slash n

-- The last component.

abbrev Passes : List ℕ → List ℕ → Type 0
Passes x y = (s i : ℕ) → start_from false s i (x ++ y) ≡ start_from false s (i + length x) y

-- a byte that is no bare `.`
pass_one : (t : Bool) (c : ℕ) (y : List ℕ) (s i : ℕ) → and (not t) (eqb c 46) ≡ false → start_from t s i (c ∷ y) ≡ start_from (escapes t c) s (i + 1) y
unfolding start_behind
pass_one t c y s i e = rw (start-cons, e)

pass_calm : (c : ℕ) (y : List ℕ) → Calm c → (s i : ℕ) → start_from false s i (c ∷ y) ≡ start_from false s (i + 1) y
unfolding escapes
pass_calm c y k s i = pass_one false c y s i k.dot ∙ ap (λ t. start_from t s (i + 1) y) k.backslash

pass_pair : (c : ℕ) (y : List ℕ) (s i : ℕ) → start_from false s i (92 ∷ c ∷ y) ≡ start_from false s (i + 2) y
unfolding escapes
pass_pair c y s i =
    let e : i + 1 + 1 ≡ i + 2 = omega arith in
    pass_one false 92 (c ∷ y) s i refl ∙ pass_one true c y s (i + 1) refl ∙ rw e

passes : Walks Passes
passes =
    record {
      none = λ y s i. rw add-zero;
      calm = pass_calm;
      escaped = pass_pair;
      on = λ x z y e f s i.
          rw (append_assoc x z y, length-append x z, ← add_assoc i (length x) (length z)) (e s i ∙ f s (i + length x));
    }

start_last : (port : Bool) {x : List ℕ} → Last port x → (s i : ℕ) → start_from false s i x ≡ s
unfolding start_from
start_last port l s i = simp append-nil at (walk_last Passes passes l [] s i)

start_dot : (y : List ℕ) (s i : ℕ) → start_from false s i (46 ∷ y) ≡ start_from false (i + 1) (i + 1) y
unfolding start_from start_behind escapes
start_dot y s i = refl

-- behind a path and `.` the next component starts
start-path : {p : List ℕ} → Name false false p → (y : List ℕ) (i : ℕ)
    → start_from false i i (p ++ 46 ∷ y) ≡ start_from false (i + length p + 1) (i + length p + 1) y
unfolding divider
start-path (last (component {x = x} c)) y i = walk_component Passes passes c (46 ∷ y) i i ∙ start_dot y i (i + length x)
start-path (join {x = x} {y = z} c p) y i =
    let h = start-path p y (i + length x + 1) in
    let e : i + length x + 1 + length z + 1 ≡ i + length (x ++ 46 ∷ z) + 1 = rw length-append (omega arith) in
    rw (append_assoc x (46 ∷ z) (46 ∷ y))
    (walk_component Passes passes c (46 ∷ (z ++ 46 ∷ y)) i i ∙ start_dot (z ++ 46 ∷ y) i (i + length x) ∙ rw e at h)

-- a name is what stands before its last component, and that component
record Split (port : Bool) (name : List ℕ) (i : ℕ) : Type 0 where
  before : List ℕ
  final : List ℕ
  shape : Last port final
  whole : name ≡ before ++ final
  place : start_from false i i name ≡ i + length before

split : (port : Bool) {name : List ℕ} → Name port false name → (i : ℕ) → Split port name i
unfolding divider
split port (last {x = x} l) i =
    record { before = []; final = x; shape = l; whole = refl; place = start_last port l i i ∙ sym (add-zero i) }
split port (join {x = x} {y = y} c n) i =
    let h = split port n (i + length x + 1) in
    let b = h.before in
    record {
      before = x ++ 46 ∷ b;
      final = h.final;
      shape = h.shape;
      whole = ap (λ l. x ++ 46 ∷ l) h.whole ∙ sym (append_assoc x (46 ∷ b) h.final);
      place =
          walk_component Passes passes c (46 ∷ y) i i ∙ start_dot y i (i + length x) ∙ h.place ∙ rw length-append (omega arith);
    }

-- the last component of a name is a component
pub last_shape : (port : Bool) (name : List ℕ) → Name port false name → Last port (last_of name)
unfolding last_start
last_shape port name n =
    let s = split port n 0 in
    let e : last_of name ≡ s.final
    = ap (λ k. drop k name) s.place ∙ ap (drop (0 + length s.before)) s.whole
    ∙ drop_at s.before s.final (0 + length s.before) (sym (zero-add (length s.before))) in
    rw e s.shape

-- the last component of a path plus one component is that component
pub last_full : (port : Bool) (path x : List ℕ) → (length path ≡ 0 → ⊥) → Name false false path → Last port x → last_of (full path x) ≡ x
unfolding last_start full
last_full port [] x h p l = absurd (h refl)
last_full port (c ∷ r) x h p l =
    let e = start-path p x 0 ∙ start_last port l (0 + length (c ∷ r) + 1) (0 + length (c ∷ r) + 1) in
    let l : length ((c ∷ r) ++ (46 ∷ [])) ≡ 0 + length (c ∷ r) + 1 = rw length-append (omega arith) in
    rw e
    (ap (λ t. drop (0 + length (c ∷ r) + 1) t) (sym (append_snoc (c ∷ r) 46 x))
    ∙ drop_at ((c ∷ r) ++ (46 ∷ [])) x (0 + length (c ∷ r) + 1) l)

pub last_top : (port : Bool) (x : List ℕ) → Last port x → last_of (full [] x) ≡ x
unfolding last_start full
last_top port x l = rw (start_last port l 0 0)

-- 'the instance path plus one component': exactly that
pub data PathOrTop : List ℕ → Type 0 where
  top : PathOrTop []
  below : {path : List ℕ} → Name false false path → PathOrTop path

last_of_full : (path x : List ℕ) → PathOrTop path → Last true x → last_of (full path x) ≡ x
last_of_full path x top l = last_top true x l
last_of_full [] x (below p) l = last_top true x l
last_of_full (c ∷ r) x (below p) l = last_full true (c ∷ r) x (λ e. omega arith) p l

pub one-below_exactly : (path name : List ℕ) → PathOrTop path → Name true false name
    → (one_below path name ≡ true) ↔ ((x : List ℕ) × (Last true x) × (name ≡ full path x))
unfolding one_below
one-below_exactly path name p n = (
  λ e. (last_of name, last_shape true name n, (name_exactly _ _).0 e),
  λ s. (name_exactly _ _).1 (rw s.2 (ap (full path) (sym (last_of_full path s.0 p s.1)))),
)
