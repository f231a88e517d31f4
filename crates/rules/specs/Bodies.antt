-- The sections of a cell: contracts and rules of the readers that go from entry to entry.
-- Assumes nothing.
use Rattle.std.specs.Prelude.{◌≡◌, Bool, ◌⊎◌, List, [], ◌∷◌, ◌++◌, ℕ, ◌+◌, ◌≤◌, ◌<◌, eqb, leb, length, Result, Ok, Err}
use Rattle.std.proofs.Math.Path.{refl}
use Rattle.std.proofs.Common.{◌∙◌, inl, inr, arith}
use Rattle.std.proofs.Math.Bool.{true, false}
use borrow.Author.Tests.{eq-eqb, ne_eqb, le-leb, lt-leb, leb-true}
use Rattle.classes.specs.Choice.{pick, and, within}
use Rattle.tokenforms.specs.Tokens.{Got, Refused}
use Rattle.tokenforms.specs.Tokens.{token_at}
use Rattle.tokens.specs.Stream.{placed}
use Rattle.words.specs.Words.{key_of}
use Rattle.grammar.specs.Answers.{Found}
use Rattle.tokenforms.specs.declared.Refusal.{Refusal}
use Rattle.grammar.specs.Ll.{non}
use Rattle.grammar.specs.Machine.{Res, fine, bad}
use Rattle.grammar.specs.declared.Entry.{Entry}
use Rattle.grammar.specs.declared.Within.{Within}
use Rattle.grammar.specs.declared.Within.TheVariants.{Cell, Delay, Absolute, Increment, Check}
use Rattle.grammar.specs.declared.Turn.{Turn}
use Rattle.grammar.specs.declared.Turn.TheVariants as turn
use Rattle.grammar.specs.declared.Keyword.{Keyword}
use Rattle.grammar.specs.Grammar.{N, alts, keyword, ◌⇒◌, ◌∣◌, spec, specs, deltype, deltypes, delays, delay, checks, check}
use Rattle.grammar.specs.Meaning.{Log, finished, wrongly}
use Rattle.grammar.specs.Reading.{At, reading, goes, halts}
use Rattle.grammar.specs.Outcome.{Stack, state}
use Rattle.rules.specs.Rules.{ahead}

-- ONE OF TWO KEYWORDS right behind an opening bracket: a takes A, the next one takes B
abbrev pub found_or : List ℕ → Result Keyword Refusal → Stack → Stack → Stack → Bool → ℕ → ℕ → ℕ → Log → Res At
found_or s (Ok word) us vs ss slash unit cr ir l = reading s (state (pick word.second vs us ++ ss) false slash unit cr ir l) word.end
found_or s (Err why) us vs ss slash unit cr ir l = bad why.number why.place

abbrev pub Past : ℕ → ℕ → Result Keyword Refusal → Type 0
Past p n (Ok word) = (p < word.end) × (word.end ≤ n)
Past p n (Err why) = Unit {0}

abbrev pub Either : List ℕ → ℕ → ℕ → Result Keyword Refusal → Type 0
Either s p a r =
    ((y : N) (us vs : Stack) → alts y ≡ (keyword a ⇒ us ∣ keyword (a + 1) ⇒ vs ∣ []) → (ss : Stack) (slash : Bool) (unit cr ir : ℕ) (l : Log) →
    reading s (state (non y ∷ ss) true slash unit cr ir l) p ≡ found_or s r us vs ss slash unit cr ir l)
    × Past p (length s) r

pub either_stops : (s : List ℕ) (p n q a : ℕ) → p ≤ length s → token_at s p ≡ Refused n q → Either s p a (Refused n q)
either_stops s p n q a h t = (λ y us vs m ss slash unit cr ir l. halts s _ ss _ p n q h t, tt)

module _ (s : List ℕ) (p k b e : ℕ) (long : Bool) (h : p ≤ length s) (tok : token_at s p ≡ Got k b e long) (a : ℕ) where
  pub either_kind : (w : ℕ) → w ≡ wrongly true k (placed s k b e long).bytes → (k ≡ 7 → ⊥) → Either s p a (Refused w b)
  either_kind w v n = (λ y us vs m ss slash unit cr ir l. goes s _ p k b e long (bad w b) h tok (rw (v, m, ne_eqb k 7 n, ne_eqb k 7 n)), tt)

  module _ (q : k ≡ 7) where
    not-this : (c : ℕ) → (key_of (placed s k b e long).bytes ≡ c → ⊥) → within c c (key_of (placed s k b e long).bytes) ≡ false
    not-this c n = by (leb c x) refl (leb x c) refl
      where
        x : ℕ
        x = key_of (placed s k b e long).bytes

        by : (f : Bool) → leb c x ≡ f → (g : Bool) → leb x c ≡ g → and (leb c x) (leb x c) ≡ false
        by true f true g = absurd (n (let u = leb-true c x f in let v = leb-true x c g in omega arith))
        by true f false g = rw (f, g)
        by false f g v = rw f

    pub either_word : (w : ℕ) → w ≡ wrongly true k (placed s k b e long).bytes → (key_of (placed s k b e long).bytes ≡ a → ⊥) →
        (key_of (placed s k b e long).bytes ≡ a + 1 → ⊥) → Either s p a (Refused w b)
    either_word w v m1 m2 =
        (λ y us vs m ss slash unit cr ir l. goes s _ p k b e long (bad w b) h tok (rw (v, m, eq-eqb k 7 q, not-this a m1, not-this (a + 1) m2, eq-eqb k 7 q)), tt)

    pub either_long : (c : ℕ) → (c ≡ a) ⊎ (c ≡ a + 1) → key_of (placed s k b e long).bytes ≡ c → long ≡ true → Either s p a (Refused 8 b)
    either_long c (inl z) f g =
        (λ y us vs m ss slash unit cr ir l. goes s _ p k b e long (bad 8 b) h tok (rw (m, eq-eqb k 7 q, f, z, le-leb a a (omega arith), g)), tt)
    either_long c (inr z) f g = (
      λ y us vs m ss slash unit cr ir l.
          goes s _ p k b e long (bad 8 b) h tok (rw (m, eq-eqb k 7 q, f, z, le-leb a (a + 1) (omega arith), lt-leb (a + 1) a (omega arith), le-leb (a + 1) (a + 1) (omega arith), g)),
      tt,
    )

    pub either_first : key_of (placed s k b e long).bytes ≡ a → long ≡ false → Either s p a (Found false e)
    either_first f g =
        let z : eqb k 2 ≡ false = rw q refl in
        (λ y us vs m ss slash unit cr ir l. goes s _ p k b e long (fine _) h tok (rw (m, eq-eqb k 7 q, f, le-leb a a (omega arith), g, z)), ahead s p k b e long h tok)

    pub either_second : key_of (placed s k b e long).bytes ≡ a + 1 → long ≡ false → Either s p a (Found true e)
    either_second f g =
        let z : eqb k 2 ≡ false = rw q refl in (
          λ y us vs m ss slash unit cr ir l.
              goes s _ p k b e long (fine _) h tok (rw (m, eq-eqb k 7 q, f, le-leb a (a + 1) (omega arith), lt-leb (a + 1) a (omega arith), le-leb (a + 1) (a + 1) (omega arith), g, z)),
          ahead s p k b e long h tok,
        )

-- WHERE IN A CELL: what is to come, f whether what has to stand there stands already; and the place of an entry
abbrev pub below : Within → Bool → Bool → Stack
below Cell f d = non (specs d) ∷ []
below Delay f d = non (deltypes f d) ∷ non (specs d) ∷ []
below Absolute f d = non (delays 65 f d) ∷ non (deltypes true d) ∷ non (specs d) ∷ []
below Increment f d = non (delays 73 f d) ∷ non (deltypes true d) ∷ non (specs d) ∷ []
below Check f d = non (checks f d) ∷ non (specs d) ∷ []

abbrev pub item_place : Within → Bool → N
item_place Cell d = check d
item_place Delay d = check d
item_place Absolute d = delay 65 d
item_place Increment d = delay 73 d
item_place Check d = check d

-- behind an opening bracket there
abbrev pub inside : Within → Bool → Stack
inside Cell d = non (spec d) ∷ []
inside Delay d = non (deltype d) ∷ non (specs d) ∷ []
inside Absolute d = non (delay 65 d) ∷ below Absolute true d
inside Increment d = non (delay 73 d) ∷ below Increment true d
inside Check d = non (check d) ∷ below Check true d

abbrev pub turned_to : List ℕ → Within → Result Turn Refusal → Stack → Bool → ℕ → ℕ → ℕ → Log → Res At
turned_to s w (Ok (turn.On w' f' q)) ss d unit cr ir l = reading s (state (below w' f' d ++ ss) false d unit cr ir l) q
turned_to s w (Ok (turn.Entry q)) ss d unit cr ir l = reading s (state (non (item_place w d) ∷ (below w true d ++ ss)) true d unit cr ir l) q
turned_to s w (Ok (turn.Done q)) ss d unit cr ir l = reading s (state ss false d unit cr ir (finished l)) q
turned_to s w (Err why) ss d unit cr ir l = bad why.number why.place

abbrev pub Onward : ℕ → ℕ → Result Turn Refusal → Type 0
Onward p n (Ok (turn.On w f q)) = (p < q) × (q ≤ n)
Onward p n (Ok (turn.Entry q)) = (p < q) × (q ≤ n)
Onward p n (Ok (turn.Done q)) = (p < q) × (q ≤ n)
Onward p n (Err why) = Unit {0}

abbrev pub Turned : List ℕ → ℕ → Within → Bool → Bool → Result Turn Refusal → Type 0
Turned s p w f d r =
    ((ss : Stack) (unit cr ir : ℕ) (l : Log) → reading s (state (below w f d ++ ss) false d unit cr ir l) p ≡ turned_to s w r ss d unit cr ir l) × Onward p (length s) r

-- the same from behind an opening bracket; an entry stands right there
abbrev pub From : ℕ → ℕ → Result Turn Refusal → Type 0
From p n (Ok (turn.On w f q)) = (p ≤ q) × (q ≤ n)
From p n (Ok (turn.Entry q)) = (p ≤ q) × (q ≤ n)
From p n (Ok (turn.Done q)) = (p ≤ q) × (q ≤ n)
From p n (Err why) = Unit {0}

abbrev pub OpenTurned : List ℕ → ℕ → Within → Bool → Result Turn Refusal → Type 0
OpenTurned s p w d r =
    ((ss : Stack) (unit cr ir : ℕ) (l : Log) → reading s (state (inside w d ++ ss) true d unit cr ir l) p ≡ turned_to s w r ss d unit cr ir l) × From p (length s) r

-- a closing bracket: too soon, back to what is around it, or the cell's own
abbrev pub shut_by : Within → Bool → ℕ → ℕ → Result Turn Refusal
shut_by Cell f b e = Ok (turn.Done e)
shut_by Delay f b e = pick f (Ok (turn.On Cell true e)) (Refused 4 b)
shut_by Absolute f b e = pick f (Ok (turn.On Delay true e)) (Refused 4 b)
shut_by Increment f b e = pick f (Ok (turn.On Delay true e)) (Refused 4 b)
shut_by Check f b e = pick f (Ok (turn.On Cell true e)) (Refused 4 b)

later : (p q n : ℕ) (r : Result Turn Refusal) → p < q → From q n r → Onward p n r
later p q n (Ok (turn.On w f x)) h g = (omega arith, g.1)
later p q n (Ok (turn.Entry x)) h g = (omega arith, g.1)
later p q n (Ok (turn.Done x)) h g = (omega arith, g.1)
later p q n (Err why) h g = tt

pub turn_stops : (s : List ℕ) (p n q : ℕ) (w : Within) (f d : Bool) → p ≤ length s → token_at s p ≡ Refused n q → Turned s p w f d (Refused n q)
turn_stops s p n q Cell f d h t = (λ ss unit cr ir l. halts s _ _ _ p n q h t, tt)
turn_stops s p n q Delay f d h t = (λ ss unit cr ir l. halts s _ (non (specs d) ∷ ss) _ p n q h t, tt)
turn_stops s p n q Absolute f d h t = (λ ss unit cr ir l. halts s _ (non (deltypes true d) ∷ non (specs d) ∷ ss) _ p n q h t, tt)
turn_stops s p n q Increment f d h t = (λ ss unit cr ir l. halts s _ (non (deltypes true d) ∷ non (specs d) ∷ ss) _ p n q h t, tt)
turn_stops s p n q Check f d h t = (λ ss unit cr ir l. halts s _ (non (specs d) ∷ ss) _ p n q h t, tt)

module _ (s : List ℕ) (p k b e : ℕ) (long : Bool) (h : p ≤ length s) (tok : token_at s p ≡ Got k b e long) (d : Bool) where
  pub turn_shut : (w : Within) (f : Bool) → k ≡ 3 → Turned s p w f d (shut_by w f b e)
  unfolding alts
  turn_shut Cell f q = (λ ss unit cr ir l. goes s _ p 3 b e long (fine _) h (rw q at tok) refl, ahead s p k b e long h tok)
  turn_shut Delay true q = (λ ss unit cr ir l. goes s _ p 3 b e long (fine _) h (rw q at tok) refl, ahead s p k b e long h tok)
  turn_shut Delay false q = (λ ss unit cr ir l. goes s _ p 3 b e long (bad 4 b) h (rw q at tok) refl, tt)
  turn_shut Absolute true q = (λ ss unit cr ir l. goes s _ p 3 b e long (fine _) h (rw q at tok) refl, ahead s p k b e long h tok)
  turn_shut Absolute false q = (λ ss unit cr ir l. goes s _ p 3 b e long (bad 4 b) h (rw q at tok) refl, tt)
  turn_shut Increment true q = (λ ss unit cr ir l. goes s _ p 3 b e long (fine _) h (rw q at tok) refl, ahead s p k b e long h tok)
  turn_shut Increment false q = (λ ss unit cr ir l. goes s _ p 3 b e long (bad 4 b) h (rw q at tok) refl, tt)
  turn_shut Check true q = (λ ss unit cr ir l. goes s _ p 3 b e long (fine _) h (rw q at tok) refl, ahead s p k b e long h tok)
  turn_shut Check false q = (λ ss unit cr ir l. goes s _ p 3 b e long (bad 4 b) h (rw q at tok) refl, tt)

  pub turn_wrong : (w : Within) (f : Bool) → (k ≡ 3 → ⊥) → (k ≡ 2 → ⊥) → Turned s p w f d (Refused 4 b)
  unfolding alts
  turn_wrong Cell f x y = (λ ss unit cr ir l. goes s _ p k b e long (bad 4 b) h tok (rw (ne_eqb k 3 x, ne_eqb k 2 y)), tt)
  turn_wrong Delay true x y = (λ ss unit cr ir l. goes s _ p k b e long (bad 4 b) h tok (rw (ne_eqb k 3 x, ne_eqb k 2 y)), tt)
  turn_wrong Delay false x y = (λ ss unit cr ir l. goes s _ p k b e long (bad 4 b) h tok (rw (ne_eqb k 2 y)), tt)
  turn_wrong Absolute true x y = (λ ss unit cr ir l. goes s _ p k b e long (bad 4 b) h tok (rw (ne_eqb k 3 x, ne_eqb k 2 y)), tt)
  turn_wrong Absolute false x y = (λ ss unit cr ir l. goes s _ p k b e long (bad 4 b) h tok (rw (ne_eqb k 2 y)), tt)
  turn_wrong Increment true x y = (λ ss unit cr ir l. goes s _ p k b e long (bad 4 b) h tok (rw (ne_eqb k 3 x, ne_eqb k 2 y)), tt)
  turn_wrong Increment false x y = (λ ss unit cr ir l. goes s _ p k b e long (bad 4 b) h tok (rw (ne_eqb k 2 y)), tt)
  turn_wrong Check true x y = (λ ss unit cr ir l. goes s _ p k b e long (bad 4 b) h tok (rw (ne_eqb k 3 x, ne_eqb k 2 y)), tt)
  turn_wrong Check false x y = (λ ss unit cr ir l. goes s _ p k b e long (bad 4 b) h tok (rw (ne_eqb k 2 y)), tt)

  entering : (w : Within) (f : Bool) → k ≡ 2 → (ss : Stack) (unit cr ir : ℕ) (l : Log) →
      reading s (state (below w f d ++ ss) false d unit cr ir l) p ≡ reading s (state (inside w d ++ ss) true d unit cr ir l) e
  unfolding alts
  entering Cell f q ss unit cr ir l = goes s _ p 2 b e long (fine _) h (rw q at tok) refl
  entering Delay true q ss unit cr ir l = goes s _ p 2 b e long (fine _) h (rw q at tok) refl
  entering Delay false q ss unit cr ir l = goes s _ p 2 b e long (fine _) h (rw q at tok) refl
  entering Absolute true q ss unit cr ir l = goes s _ p 2 b e long (fine _) h (rw q at tok) refl
  entering Absolute false q ss unit cr ir l = goes s _ p 2 b e long (fine _) h (rw q at tok) refl
  entering Increment true q ss unit cr ir l = goes s _ p 2 b e long (fine _) h (rw q at tok) refl
  entering Increment false q ss unit cr ir l = goes s _ p 2 b e long (fine _) h (rw q at tok) refl
  entering Check true q ss unit cr ir l = goes s _ p 2 b e long (fine _) h (rw q at tok) refl
  entering Check false q ss unit cr ir l = goes s _ p 2 b e long (fine _) h (rw q at tok) refl

  pub turn_opens : (w : Within) (f : Bool) (r : Result Turn Refusal) → k ≡ 2 → OpenTurned s e w d r → Turned s p w f d r
  turn_opens w f r q u =
      (λ ss unit cr ir l. entering w f q ss unit cr ir l ∙ u.0 ss unit cr ir l, later p e (length s) r (ahead s p k b e long h tok).0 u.1)

-- behind an opening bracket: the keyword of a section or of a group, or an entry
abbrev pub key_turn : Within → Within → Result Keyword Refusal → Result Turn Refusal
key_turn w v (Ok word) = Ok (turn.On (pick word.second v w) false word.end)
key_turn w v (Err why) = Err why

pub cell_opens : (s : List ℕ) (p : ℕ) (d : Bool) (r : Result Keyword Refusal) → Either s p 56 r → OpenTurned s p Cell d (key_turn Delay Check r)
unfolding alts
cell_opens s p d (Ok word) u = by word.second word.end u
  where
    by : (f : Bool) (e : ℕ) → Either s p 56 (Found f e) → OpenTurned s p Cell d (key_turn Delay Check (Found f e))
    by false e u = (λ ss unit cr ir l. u.0 (spec d) _ _ refl ss d unit cr ir l, (omega (arith, u.1.0), u.1.1))
    by true e u = (λ ss unit cr ir l. u.0 (spec d) _ _ refl ss d unit cr ir l, (omega (arith, u.1.0), u.1.1))
cell_opens s p d (Err why) u = (λ ss unit cr ir l. u.0 (spec d) _ _ refl ss d unit cr ir l, tt)

pub delay_opens : (s : List ℕ) (p : ℕ) (d : Bool) (r : Result Keyword Refusal) → Either s p 58 r → OpenTurned s p Delay d (key_turn Absolute Increment r)
unfolding alts
delay_opens s p d (Ok word) u = by word.second word.end u
  where
    by : (f : Bool) (e : ℕ) → Either s p 58 (Found f e) → OpenTurned s p Delay d (key_turn Absolute Increment (Found f e))
    by false e u = (λ ss unit cr ir l. u.0 (deltype d) _ _ refl _ d unit cr ir l, (omega (arith, u.1.0), u.1.1))
    by true e u = (λ ss unit cr ir l. u.0 (deltype d) _ _ refl _ d unit cr ir l, (omega (arith, u.1.0), u.1.1))
delay_opens s p d (Err why) u = (λ ss unit cr ir l. u.0 (deltype d) _ _ refl _ d unit cr ir l, tt)

pub absolute-opens : (s : List ℕ) (p : ℕ) (d : Bool) → p ≤ length s → OpenTurned s p Absolute d (Ok (turn.Entry p))
absolute-opens s p d h = (λ ss unit cr ir l. refl, (omega arith, h))

pub increment-opens : (s : List ℕ) (p : ℕ) (d : Bool) → p ≤ length s → OpenTurned s p Increment d (Ok (turn.Entry p))
increment-opens s p d h = (λ ss unit cr ir l. refl, (omega arith, h))

pub check_opens : (s : List ℕ) (p : ℕ) (d : Bool) → p ≤ length s → OpenTurned s p Check d (Ok (turn.Entry p))
check_opens s p d h = (λ ss unit cr ir l. refl, (omega arith, h))
