-- Laws of names where they stand: one more byte of a component, one more divider, the word that they make; and the cases of a name's refusal.
-- Assumes nothing.
use Rattle.std.specs.Prelude.{ℕ, suc, ◌+◌, ◌-◌, ◌≤◌, ◌<◌, ◌≡◌, refl, Bool, true, false, List, eqb, leb, ltb, length, get_or, replicate, Result, Ok, Err}
use Rattle.std.proofs.Common.{arith, add-one, sym, ap, subst, ◌∙◌, true≢false, drop-cons, leb-true, eqb-true}
use Rattle.std.proofs.lemmas.Bool.{eqb-false}
use Rattle.classes.specs.Choice.{pick, or, and, within}
use Rattle.classes.specs.Classes.{class_of}
use Rattle.classes.specs.Each.{each, between}
use Rattle.scanning.specs.Machines.{commences, word_stop, word_end}
use Rattle.scanning.specs.Runs.{word_from}
use Rattle.scanning.specs.RunLaws.{more_bytes, plain-goes, word_goes_lem}
use Rattle.tokenforms.specs.Tokens.{token_at}
use Rattle.tokenforms.specs.declared.Token.{Token}
use Rattle.tokenforms.specs.declared.Refusal.{Refusal}
use Rattle.tokenforms.specs.Tokens.{Got, Refused}
use Rattle.tokens.specs.Stream.{part}
use Rattle.tokens.specs.Quick.{word_token}
use Rattle.nameshape.specs.Shape.{is_name_byte, divider, body_next, name_next, name_run, may_end, is_name}
use Rattle.nametokens.specs.declared.Shaped.{Shaped}
use Rattle.nametokens.specs.Shaped.{ShapedAt, shape_of, name_fault, InName}

-- Bytes of a component.

-- a range of bytes that are all plain
range_plain : (lo hi n c : ℕ) → each (λ (b : ℕ). eqb (class_of b) 7) lo n ≡ replicate n true → hi < lo + n → within lo hi c ≡ true → class_of c ≡ 7
range_plain lo hi n c e h w = by (leb lo c) (leb c hi) refl refl w
  where
    by : (u v : Bool) → leb lo c ≡ u → leb c hi ≡ v → and u v ≡ true → class_of c ≡ 7
    by true true a b t =
        eqb-true (class_of c) 7 (between (λ (b : ℕ). eqb (class_of b) 7) true lo n e c (leb-true lo c a) (omega (arith, leb-true c hi b)))
    by true false a b t = absurd (true≢false (sym t))
    by false v a b t = absurd (true≢false (sym t))

-- they are plain in a word
pub name_plain : (c : ℕ) → is_name_byte c ≡ true → class_of c ≡ 7
unfolding is_name_byte class_of
name_plain c h = by (within 65 90 c) (within 97 122 c) (within 48 57 c) (eqb c 95) refl refl refl refl h
  where
    by : (t u v w : Bool) → within 65 90 c ≡ t → within 97 122 c ≡ u → within 48 57 c ≡ v → eqb c 95 ≡ w →
        or (or t u) (or v (or w (eqb c 36))) ≡ true → class_of c ≡ 7
    by true u v w p q r x y = range_plain 65 90 26 c refl (omega arith) p
    by false true v w p q r x y = range_plain 97 122 26 c refl (omega arith) q
    by false false true w p q r x y = range_plain 48 57 10 c refl (omega arith) r
    by false false false true p q r x y = rw (eqb-true c 95 x)
    by false false false false p q r x y = rw (eqb-true c 36 y)

-- a byte that is none is not among them
other : (c n : ℕ) → is_name_byte n ≡ false → is_name_byte c ≡ true → c ≡ n → ⊥
other c n f t e = true≢false (sym t ∙ ap is_name_byte e ∙ f)

-- and they begin no comment
no_comment : (c : ℕ) → is_name_byte c ≡ true → commences c ≡ false
unfolding is_name_byte
no_comment c h = by (eqb c 47) (eqb c 42) refl refl
  where
    by : (t u : Bool) → eqb c 47 ≡ t → eqb c 42 ≡ u → pick t true u ≡ false
    by true u p q = absurd (other c 47 refl h (eqb-true c 47 p))
    by false true p q = absurd (other c 42 refl h (eqb-true c 42 q))
    by false false p q = refl

pub within_text : (s : List ℕ) (i : ℕ) → is_name_byte (get_or s i 0) ≡ true → i < length s
unfolding is_name_byte
within_text s i h = more_bytes s i (by (eqb c 0) refl)
  where
    c : ℕ
    c = get_or s i 0

    by : (v : Bool) → eqb c 0 ≡ v → 1 ≤ c
    by true e = absurd (other c 0 refl h (eqb-true c 0 e))
    by false e = let n = eqb-false c 0 e in by_hand n
      where
        by_hand : (c ≡ 0 → ⊥) → 1 ≤ c
        by_hand n = omega (arith, n)

-- a divider with one of them behind it goes on with a word
divider-goes : (s : List ℕ) (slash : Bool) (i : ℕ) → i < length s → get_or s i 0 ≡ divider slash → is_name_byte (get_or s (i + 1) 0) ≡ true →
    word_from 0 s (i + 1) ≡ word_from 0 s i
unfolding divider word_stop class_of
divider-goes s true i h e b = rw e at (word_goes_lem s 0 i (omega arith) h (rw e (no_comment (get_or s (i + 1) 0) b))).0
divider-goes s false i h e b = plain-goes s 0 i (omega arith) h (rw e)

-- The reader of names.

-- a byte of a component leads into it
byte_next : (slash : Bool) (q c : ℕ) → leb q 1 ≡ true → is_name_byte c ≡ true → name_next slash q c ≡ 1
unfolding name_next body_next
byte_next slash q c l h = rw (l, h)

-- a divider leads out of it
divider-next : (slash : Bool) (c : ℕ) → c ≡ divider slash → name_next slash 1 c ≡ 0
unfolding name_next body_next is_name_byte divider
divider-next true c e = rw e
divider-next false c e = rw e

-- one byte of a word
turn : (s : List ℕ) (slash : Bool) (q i e : ℕ) → i < e → e ≤ length s → (r : ℕ) → name_next slash q (get_or s i 0) ≡ r →
    name_run slash r (part (i + 1) e s) ≡ name_run slash q (part i e s)
unfolding name_run
turn s slash q i e l h r f =
    let n : e - i ≡ suc (e - (i + 1)) = omega arith in
    ap (λ (m : ℕ). name_run slash m (part (i + 1) e s)) (sym f) ∙ rw (drop-cons s i 0 (omega arith), n, add-one)

-- Names where they stand.

pub none_yet : (s : List ℕ) (slash : Bool) (p : ℕ) → p ≤ length s → InName s slash p p
none_yet s slash p h = record { on = omega arith; fits = h; word = refl; name = λ e l u. refl }

module _ (s : List ℕ) (slash : Bool) (p i : ℕ) (n : InName s slash p i) where
  pub one_byte : is_name_byte (get_or s i 0) ≡ true → InName s slash p (i + 1)
  one_byte h =
      let m = within_text s i h in
      record {
        on = omega (arith, n.on);
        fits = omega (arith, m);
        word = plain-goes s 0 i (omega arith) m (name_plain (get_or s i 0) h) ∙ n.word;
        name = λ e l u. turn s slash 1 i e (omega (arith, l)) u 1 (byte_next slash 1 (get_or s i 0) refl h) ∙ n.name e (omega (arith, l)) u;
      }

  pub one-divider : i < length s → get_or s i 0 ≡ divider slash → is_name_byte (get_or s (i + 1) 0) ≡ true → InName s slash p (i + 2)
  one-divider h d b =
      let m = within_text s (i + 1) b in
      let two : i + 2 ≡ i + 1 + 1 = omega arith in
      record {
        on = omega (arith, n.on);
        fits = omega (arith, m);
        word =
            ap (word_from 0 s) two ∙ plain-goes s 0 (i + 1) (omega arith) m (name_plain (get_or s (i + 1) 0) b)
            ∙ divider-goes s slash i h d b ∙ n.word;
        name = λ e l u.
            ap (λ (k : ℕ). name_run slash 1 (part k e s)) two
            ∙ turn s slash 0 (i + 1) e (omega (arith, l)) u 1 (byte_next slash 0 (get_or s (i + 1) 0) refl b)
            ∙ turn s slash 1 i e (omega (arith, l)) u 0 (divider-next slash (get_or s i 0) d)
            ∙ n.name e (omega (arith, l)) u;
      }

-- the word that begins with a byte of a component, goes on to i as a name, and ends at e; and its shape
pub name_word : (s : List ℕ) (slash : Bool) (p i e : ℕ) → is_name_byte (get_or s p 0) ≡ true → InName s slash (p + 1) i → word_end s i ≡ e → i ≤ e → e ≤ length s →
    (token_at s p ≡ Got 7 p e (ltb 1024 (e - p))) × (name_run slash 1 (part i e s) ≡ name_run slash 0 (part p e s))
name_word s slash p i e b n w l u =
    let h = within_text s p b in
    let one = plain-goes s 0 p (omega arith) h (name_plain (get_or s p 0) b) in
    let o = n.on in (
      word_token s p e h (sym one ∙ sym n.word ∙ w) (omega arith),
      n.name e l u ∙ turn s slash 0 p e (omega arith) u 1 (byte_next slash 0 (get_or s p 0) refl b),
    )

-- no name ends where none goes on
nowhere : (port : Bool) → may_end port 9 ≡ false
unfolding may_end
nowhere port = refl

-- from a place from which the token is the same, so is its shape
pub shaped_from : (s : List ℕ) (slash : Bool) (i p : ℕ) → token_at s i ≡ token_at s p → (r : Result Shaped Refusal) → ShapedAt slash s i r → ShapedAt slash s p r
shaped_from s slash i p same (Ok v) w = (sym same ∙ w.0, w.1)
shaped_from s slash i p same (Err why) w = sym same ∙ w

-- A token of the kind k from b to e, judged where a name is expected, by where the reader stands behind it.
module _ (P : Result (Unit {0}) Refusal → Type 0) (port slash : Bool) (s : List ℕ) (k b e : ℕ) (long : Bool)
    (no_word : (k ≡ 7 → ⊥) → P (Refused 4 b))
    (no_name : k ≡ 7 → is_name port slash (part b e s) ≡ false → P (Refused 4 b))
    (too_long : k ≡ 7 → is_name port slash (part b e s) ≡ true → long ≡ true → P (Refused 8 b))
    (fine : k ≡ 7 → is_name port slash (part b e s) ≡ true → long ≡ false → P (Ok tt)) where
  pub judged : (q : ℕ) → q ≡ pick (eqb k 7) (name_run slash 0 (part b e s)) 9 →
      P (name_fault port (record { token = record { kind = k; start = b; end = e; long = long }; state = q }))
  judged q shape = by (eqb k 7) refl (is_name port slash (part b e s)) refl long refl
    where
      N : Result (Unit {0}) Refusal
      N = name_fault port (record { token = record { kind = k; start = b; end = e; long = long }; state = q })

      to : (m : Result (Unit {0}) Refusal) → N ≡ m → P m → P N
      to m i p = subst P (sym i) p

      by : (a : Bool) → eqb k 7 ≡ a → (v : Bool) → is_name port slash (part b e s) ≡ v → (c : Bool) → long ≡ c → P N
      by false a v i c l = to (Refused 4 b) (rw (shape, a, nowhere port)) (no_word (eqb-false k 7 a))
      by true a false i c l = to (Refused 4 b) (rw (shape, a, i)) (no_name (eqb-true k 7 a) i)
      by true a true i true l = to (Refused 8 b) (rw (shape, a, i, l)) (too_long (eqb-true k 7 a) i l)
      by true a true i false l = to (Ok tt) (rw (shape, a, i, l)) (fine (eqb-true k 7 a) i l)
