-- A test of all that may still come: of each terminal's action, and of each place. Where every alternative of a place that passes has only
-- actions and places that pass, whatever takes a token passes, and so does what is still to come.
-- Assumes nothing.
use Rattle.std.specs.Prelude.{◌≡◌, refl, Bool, true, false, List, [], ◌∷◌, ◌++◌, ℕ, zero, suc, drop}
use Rattle.std.proofs.Common.{subst}
use Rattle.std.proofs.Math.Option.{none, some}
use Rattle.classes.specs.Choice.{pick}
use Rattle.tokens.specs.Stream.{Placed}
use Rattle.grammar.specs.Ll.{Sym, lit, non, Alt, Took, choose, onto, feed, none≢some, both_true}
use Rattle.grammar.specs.Grammar.{Act, Term, N, alts, fits}
use Rattle.grammar.specs.Outcome.{Stack}
use Rattle.laws.specs.Walk.{some_inj}

module _ (acts : Act → Bool) (places : N → Bool) where
  abbrev each : Sym Term N → Bool
  each (lit c) = acts c.act
  each (non n) = places n

  -- all that is still to come
  abbrev pub passes : Stack → Bool
  passes [] = true
  passes (x ∷ ss) = pick (each x) (passes ss) false

  -- each alternative
  abbrev pub agree : List (Alt Term N) → Bool
  agree [] = true
  agree (a ∷ l) = pick (pick (acts a.head.act) (passes a.rest) false) (agree l) false

  pub agree-drop : (k : ℕ) (l : List (Alt Term N)) → agree l ≡ true → agree (drop k l) ≡ true
  agree-drop zero l e = e
  agree-drop (suc k) [] e = refl
  agree-drop (suc k) (a ∷ l) e = agree-drop k l (both_true (pick (acts a.head.act) (passes a.rest) false) (agree l) e).1

  append-passes : (xs ys : Stack) → passes xs ≡ true → passes ys ≡ true → passes (xs ++ ys) ≡ true
  append-passes [] ys e f = f
  append-passes (x ∷ xs) ys e f = let (g, h) = both_true (each x) (passes xs) e in rw g (append-passes xs ys h f)

  -- a token is taken by a terminal, and this is still to come
  abbrev pub Passes : Took Term N → Type 0
  Passes w = (acts w.by.act ≡ true) × (passes w.left ≡ true)

  module _ (table : (n : N) → places n ≡ true → agree (alts n) ≡ true) where
    pub taken-passes : (ss : Stack) (t : Placed) (w : Took Term N) → passes ss ≡ true → feed fits alts ss t ≡ some w → Passes w
    taken-passes [] t w g e = absurd (none≢some w e)
    taken-passes (lit c ∷ ss) t w g e = by (fits c t) (both_true (acts c.act) (passes ss) g) e
      where
        by : (v : Bool) → (acts c.act ≡ true) × (passes ss ≡ true) → pick v (some (record { by = c; left = ss })) none ≡ some w → Passes w
        by true z e = subst Passes (some_inj e) z
        by false z e = absurd (none≢some w e)
    taken-passes (non n ∷ ss) t w g e = let (h, i) = both_true (places n) (passes ss) g in by (alts n) (table n h) i e
      where
        by : (l : List (Alt Term N)) → agree l ≡ true → passes ss ≡ true → onto ss (choose fits l t) ≡ some w → Passes w
        by [] z i e = absurd (none≢some w e)
        by (a ∷ l) z i e =
            let (h, k) = both_true (pick (acts a.head.act) (passes a.rest) false) (agree l) z in
            with_it (fits a.head t) (both_true (acts a.head.act) (passes a.rest) h) e (by l k i)
          where
            with_it : (v : Bool) → (acts a.head.act ≡ true) × (passes a.rest ≡ true) → onto ss (pick v (some a) (choose fits l t)) ≡ some w →
                (onto ss (choose fits l t) ≡ some w → Passes w) → Passes w
            with_it true (h, k) e ih = subst Passes (some_inj e) (h, append-passes a.rest ss k i)
            with_it false z e ih = ih e
