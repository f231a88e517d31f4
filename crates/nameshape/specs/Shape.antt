-- The shape of a name, said twice: by its parts, as document 01 says it, and as a machine that is fed its bytes. `Exactly` has the law that
-- the two agree. Also the shape of a string's content.
-- Assumes nothing.
use Rattle.std.specs.Prelude.{ℕ, suc, ◌+◌, ◌≤◌, ◌<◌, ◌≡◌, refl, Bool, true, false, not, List, [], ◌∷◌, ◌++◌, leb, eqb, length, get_or, drop}
use Rattle.std.proofs.Common.{sym, ap, ◌∙◌, add-one, drop_of_length-le, drop-cons}
use Rattle.std.proofs.Math.Dec.{eqb-suc-zero}
use Rattle.classes.specs.Choice.{pick, or, and, within}
use Rattle.classes.specs.Classes.{is_legal, is_letter, is_digit}

-- 'letters, digits, `_`, `$`'
unfoldable pub is_name_byte : ℕ → Bool
is_name_byte c = or (is_letter c) (or (is_digit c) (or (eqb c 95) (eqb c 36)))

-- 'A backslash takes the next byte, 0x21 to 0x7E, into the word'
unfoldable pub is_escapable : ℕ → Bool
is_escapable c = within 0x21 0x7E c

-- 'the divider (`.` unless DIVIDER says otherwise)'
unfoldable pub divider : Bool → ℕ
divider slash = pick slash 47 46

-- By its parts.

-- one of 'letters, digits, `_`, `$` or escaped pairs'
pub data Piece : List ℕ → Type 0 where
  byte : (c : ℕ) → is_name_byte c ≡ true → Piece (c ∷ [])
  pair : (c : ℕ) → is_escapable c ≡ true → Piece (92 ∷ c ∷ [])

-- 'one or more letters, digits, `_`, `$` or escaped pairs'
pub data Body : List ℕ → Type 0 where
  start : {x : List ℕ} → Piece x → Body x
  more : {x y : List ℕ} → Body x → Piece y → Body (x ++ y)

-- '(n digits)'
pub data Digits : List ℕ → Type 0 where
  digit : (c : ℕ) → is_digit c ≡ true → Digits (c ∷ [])
  digits : {x : List ℕ} → Digits x → (c : ℕ) → is_digit c ≡ true → Digits (x ++ (c ∷ []))

-- 'a component is one or more letters, digits, `_`, `$` or escaped pairs, then optionally `[n]`'
pub data Component : List ℕ → Type 0 where
  plain : {x : List ℕ} → Body x → Component x
  indexed : {x n : List ℕ} → Body x → Digits n → Component (x ++ 91 ∷ (n ++ 93 ∷ []))

-- 'or, for a port's last one, `[n:n]`': the last component of a port (true) or of a path (false)
pub data Last : Bool → List ℕ → Type 0 where
  component : {port : Bool} {x : List ℕ} → Component x → Last port x
  ranged : {x m n : List ℕ} → Body x → Digits m → Digits n → Last true (x ++ 91 ∷ (m ++ 58 ∷ (n ++ 93 ∷ [])))

-- 'A name is components joined by the divider'
pub data Name (port slash : Bool) : List ℕ → Type 0 where
  last : {x : List ℕ} → Last port x → Name port slash x
  join : {x y : List ℕ} → Component x → Name port slash y → Name port slash (x ++ divider slash ∷ y)

-- As a machine. Its states: 0 before a component's first byte, 1 in it, 2 behind a backslash, 3 behind `[`, 4 in n, 5 behind `:`,
-- 6 in the second n, 7 behind the `]` of `[n]`, 8 behind that of `[n:n]`, 9 no name goes on like this.

unfoldable pub body_next : Bool → ℕ → ℕ → ℕ
body_next slash q c =
    pick (is_name_byte c) 1 (pick (eqb c 92) 2 (pick (eqb q 0) 9 (pick (eqb c (divider slash)) 0 (pick (eqb c 91) 3 9))))

unfoldable pub bracket_next : ℕ → ℕ → ℕ
bracket_next q c =
    pick (is_digit c) (pick (eqb q 3) 4 (pick (eqb q 4) 4 6))
    (pick (eqb q 4) (pick (eqb c 93) 7 (pick (eqb c 58) 5 9)) (pick (eqb q 6) (pick (eqb c 93) 8 9) 9))

unfoldable pub name_next : Bool → ℕ → ℕ → ℕ
name_next slash q c =
    pick (leb q 1) (body_next slash q c)
    (pick (eqb q 2) (pick (is_escapable c) 1 9)
    (pick (leb q 6) (bracket_next q c) (pick (eqb q 7) (pick (eqb c (divider slash)) 0 9) 9)))

unfoldable pub name_run : Bool → ℕ → List ℕ → ℕ
name_run slash q [] = q
name_run slash q (c ∷ r) = name_run slash (name_next slash q c) r

-- a name may end in a component's body, behind `[n]` and, if it is a port's, behind `[n:n]`
unfoldable pub may_end : Bool → ℕ → Bool
may_end port q = or (eqb q 1) (or (eqb q 7) (and (eqb q 8) port))

abbrev pub is_name : Bool → Bool → List ℕ → Bool
is_name port slash x = may_end port (name_run slash 0 x)

-- an instance's path; an end of an entry
unfoldable pub is_path : Bool → List ℕ → Bool
is_path slash x = is_name false slash x

unfoldable pub is_port : Bool → List ℕ → Bool
is_port slash x = is_name true slash x

-- whether this byte, itself escaped or not, escapes the next
unfoldable pub escapes : Bool → ℕ → Bool
escapes escaped c = and (not escaped) (eqb c 92)

-- between two quotes: 'In a string a backslash takes the next byte along'; a bare quote would end it
unfoldable pub may_follow : Bool → ℕ → Bool
may_follow escaped c = and (is_legal c) (or escaped (not (eqb c 34)))

-- a backslash at the end would take the closing quote along
unfoldable pub text_from : Bool → List ℕ → Bool
text_from escaped [] = not escaped
text_from escaped (c ∷ r) = and (may_follow escaped c) (text_from (escapes escaped c) r)

-- 'a type is legal string content'
unfoldable pub is_text : List ℕ → Bool
is_text x = text_from false x

-- How many bytes of the body of a component stand in front.
unfoldable pub plain_run : List ℕ → ℕ
plain_run [] = 0
plain_run (c ∷ r) = pick (is_name_byte c) (suc (plain_run r)) 0

-- A turn of the loops.

run-cons : (slash : Bool) (q c : ℕ) (r : List ℕ) → name_run slash q (c ∷ r) ≡ name_run slash (name_next slash q c) r
unfolding name_run
run-cons slash q c r = refl

pub run_turn : (x : List ℕ) (slash : Bool) (q i : ℕ) → i < length x
    → name_run slash q (drop i x) ≡ name_run slash (name_next slash q (get_or x i 0)) (drop (i + 1) x)
run_turn x slash q i h = rw (drop-cons x i 0 h, run-cons, add-one)

pub run_end : (x : List ℕ) (slash : Bool) (q i : ℕ) → length x ≤ i → name_run slash q (drop i x) ≡ q
unfolding name_run
run_end x slash q i h = rw (drop_of_length-le x h)

text-cons : (escaped : Bool) (c : ℕ) (r : List ℕ) → text_from escaped (c ∷ r) ≡ and (may_follow escaped c) (text_from (escapes escaped c) r)
unfolding text_from
text-cons escaped c r = refl

pub text_turn : (x : List ℕ) (escaped : Bool) (i : ℕ) → i < length x
    → text_from escaped (drop i x) ≡ and (may_follow escaped (get_or x i 0)) (text_from (escapes escaped (get_or x i 0)) (drop (i + 1) x))
text_turn x escaped i h = rw (drop-cons x i 0 h, text-cons, add-one)

pub text_end : (x : List ℕ) (escaped : Bool) (i : ℕ) → length x ≤ i → text_from escaped (drop i x) ≡ not escaped
unfolding text_from
text_end x escaped i h = rw (drop_of_length-le x h)

plain-cons : (c : ℕ) (r : List ℕ) → plain_run (c ∷ r) ≡ pick (is_name_byte c) (suc (plain_run r)) 0
unfolding plain_run
plain-cons c r = refl

pub plain_on : (x : List ℕ) (i : ℕ) → i < length x → is_name_byte (get_or x i 0) ≡ true → plain_run (drop i x) ≡ suc (plain_run (drop (i + 1) x))
plain_on x i h e = rw (drop-cons x i 0 h, plain-cons, add-one, e)

pub plain-off : (x : List ℕ) (i : ℕ) → i < length x → is_name_byte (get_or x i 0) ≡ false → plain_run (drop i x) ≡ 0
plain-off x i h e = rw (drop-cons x i 0 h, plain-cons, e)

pub plain_end : (x : List ℕ) (i : ℕ) → length x ≤ i → plain_run (drop i x) ≡ 0
unfolding plain_run
plain_end x i h = rw (drop_of_length-le x h)

-- the machine behind the bytes of a component's body that stand in front
plain-from : (x : List ℕ) (slash : Bool) (q : ℕ) → leb q 1 ≡ true
    → name_run slash (pick (eqb (plain_run x) 0) q 1) (drop (plain_run x) x) ≡ name_run slash q x
unfolding plain_run name_run name_next body_next
plain-from [] slash q h = refl
plain-from (c ∷ r) slash q h = by (is_name_byte c) refl (plain-from r slash 1 refl)
  where
    one : (t : Bool) → ◌≡◌ {A = ℕ} (pick t 1 1) 1
    one true = refl
    one false = refl

    by : (t : Bool) → is_name_byte c ≡ t → name_run slash (pick (eqb (plain_run r) 0) 1 1) (drop (plain_run r) r) ≡ name_run slash 1 r
        → name_run slash (pick (eqb (pick t (suc (plain_run r)) 0) 0) q 1) (drop (pick t (suc (plain_run r)) 0) (c ∷ r)) ≡ name_run slash q (c ∷ r)
    by true e ih =
        rw (eqb-suc-zero (plain_run r), h, e)
        (ap (λ n. name_run slash n (drop (plain_run r) r)) (sym (one (eqb (plain_run r) 0))) ∙ ih)
    by false e ih = refl

pub plain-run : (x : List ℕ) (slash : Bool) → name_run slash (pick (eqb (plain_run x) 0) 0 1) (drop (plain_run x) x) ≡ name_run slash 0 x
plain-run x slash = plain-from x slash 0 refl
