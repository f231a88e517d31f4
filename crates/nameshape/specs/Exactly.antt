-- The machine of `Shape` accepts a text exactly if it has a name's parts.
-- Assumes nothing.
use Rattle.std.specs.Prelude.{ℕ, ◌≡◌, Bool, ◌↔◌, leb}
use Rattle.std.proofs.Math.Path.{refl}
use Rattle.std.proofs.Common.{◌∙◌, arith, eqb-true}
use Rattle.std.proofs.Math.Bool.{true, false}
use mathlib.Core.List.{List, [], ◌∷◌, ◌++◌, append_assoc, append-nil}
use Rattle.std.proofs.Math.Dec.{eqb}
use Rattle.std.proofs.Math.Seq.{append_snoc}
use Rattle.classes.specs.Choice.{pick}
use Rattle.classes.specs.Classes.{is_digit}
use Rattle.nameshape.specs.Shape.{is_name_byte, is_escapable, divider, Piece, byte, pair, Body, start, more, Digits, digit, digits, Component, plain, indexed, Last, component, ranged, Name, last, join, body_next, bracket_next, name_next, name_run, may_end, is_name, is_path, is_port}

no : {X : Type 0} → false ≡ true → X
no e = let z : ◌≡◌ {A = ℕ} 0 1 = cc in absurd (omega arith)

-- What has a name's parts is accepted.

run-append : (slash : Bool) (q : ℕ) (x y : List ℕ) → name_run slash q (x ++ y) ≡ name_run slash (name_run slash q x) y
unfolding name_run
run-append slash q [] y = refl
run-append slash q (c ∷ r) y = run-append slash (name_next slash q c) r y

run-cons : (slash : Bool) (q c : ℕ) (r : List ℕ) → name_run slash q (c ∷ r) ≡ name_run slash (name_next slash q c) r
unfolding name_run
run-cons slash q c r = refl

run_none : (slash : Bool) (q : ℕ) → name_run slash q [] ≡ q
unfolding name_run
run_none slash q = refl

-- the machine's steps along a name
step_byte : (slash : Bool) (q c : ℕ) → leb q 1 ≡ true → is_name_byte c ≡ true → name_next slash q c ≡ 1
unfolding name_next body_next
step_byte slash q c h e = rw (h, e)

step_escape : (slash : Bool) (q : ℕ) → leb q 1 ≡ true → name_next slash q 92 ≡ 2
unfolding name_next body_next is_name_byte
step_escape slash q h = rw h

step-escaped : (slash : Bool) (c : ℕ) → is_escapable c ≡ true → name_next slash 2 c ≡ 1
unfolding name_next
step-escaped slash c e = rw e

step-divider : (slash : Bool) → (name_next slash 1 (divider slash) ≡ 0) × (name_next slash 7 (divider slash) ≡ 0)
unfolding name_next body_next is_name_byte divider
step-divider true = (refl, refl)
step-divider false = (refl, refl)

step_open : (slash : Bool) → name_next slash 1 91 ≡ 3
unfolding name_next body_next is_name_byte divider
step_open true = refl
step_open false = refl

step_digit : (slash : Bool) (c : ℕ) → is_digit c ≡ true
    → (name_next slash 3 c ≡ 4) × (name_next slash 4 c ≡ 4) × (name_next slash 5 c ≡ 6) × (name_next slash 6 c ≡ 6)
unfolding name_next bracket_next
step_digit slash c e = (rw e, rw e, rw e, rw e)

step_bracket : (slash : Bool) → (name_next slash 4 93 ≡ 7) × (name_next slash 4 58 ≡ 5) × (name_next slash 6 93 ≡ 8)
unfolding name_next bracket_next
step_bracket slash = (refl, refl, refl)

module _ (slash : Bool) where
  -- a piece leads into the body, from its start and from within
  piece_run : (q : ℕ) {x : List ℕ} → leb q 1 ≡ true → Piece x → name_run slash q x ≡ 1
  piece_run q h (byte c e) = rw (run-cons, step_byte slash q c h e, run_none)
  piece_run q h (pair c e) = rw (run-cons, step_escape slash q h, run-cons, step-escaped slash c e, run_none)

  body_run : {x : List ℕ} → Body x → name_run slash 0 x ≡ 1
  body_run (start p) = piece_run 0 refl p
  body_run (more {x = x} {y = y} b p) = run-append slash 0 x y ∙ rw (body_run b) (piece_run 1 refl p)

  digits-run : {n : List ℕ} → Digits n → (name_run slash 3 n ≡ 4) × (name_run slash 5 n ≡ 6)
  digits-run (digit c e) = let s = step_digit slash c e in (rw (run-cons, s.0, run_none), rw (run-cons, s.2, run_none))
  digits-run (digits {x = x} d c e) =
      let h = digits-run d in
      let s = step_digit slash c e in
      (run-append slash 3 x (c ∷ []) ∙ rw (h.0, run-cons, s.1, run_none), run-append slash 5 x (c ∷ []) ∙ rw (h.1, run-cons, s.3, run_none))

  -- behind a component the machine is in its body or behind its index
  data Whole (q : ℕ) : Type 0 where
    in_body : q ≡ 1 → Whole q
    behind_bracket : q ≡ 7 → Whole q

  component_run : {x : List ℕ} → Component x → Whole (name_run slash 0 x)
  component_run (plain b) = in_body (body_run b)
  component_run (indexed {x = x} {n = n} b d) =
      behind_bracket
      (run-append slash 0 x _
      ∙ rw (body_run b, run-cons, step_open slash, run-append slash 3 n (93 ∷ []), (digits-run d).0, run-cons, (step_bracket slash).0, run_none))

  range_run : {x m n : List ℕ} → Body x → Digits m → Digits n → name_run slash 0 (x ++ 91 ∷ (m ++ 58 ∷ (n ++ 93 ∷ []))) ≡ 8
  range_run {x} {m} {n} b d e =
      run-append slash 0 x _
      ∙ rw (body_run b, run-cons, step_open slash, run-append slash 3 m (58 ∷ (n ++ 93 ∷ [])), (digits-run d).0, run-cons, (step_bracket slash).1)
      (run-append slash 5 n (93 ∷ []) ∙ rw ((digits-run e).1, run-cons, (step_bracket slash).2, run_none))

  whole_ends : (port : Bool) (q : ℕ) → Whole q → may_end port q ≡ true
  unfolding may_end
  whole_ends port q (in_body e) = rw e
  whole_ends port q (behind_bracket e) = rw e

  -- and the divider leads from there to the next component
  whole_joins : (q : ℕ) → Whole q → name_next slash q (divider slash) ≡ 0
  whole_joins q (in_body e) = rw e (step-divider slash).0
  whole_joins q (behind_bracket e) = rw e (step-divider slash).1

  last_run : (port : Bool) {x : List ℕ} → Last port x → may_end port (name_run slash 0 x) ≡ true
  unfolding may_end
  last_run port (component c) = whole_ends port _ (component_run c)
  last_run port (ranged b d e) = rw (range_run b d e)

  pub name_accepted : (port : Bool) {x : List ℕ} → Name port slash x → is_name port slash x ≡ true
  name_accepted port (last l) = last_run port l
  name_accepted port (join {x = x} {y = y} c n) =
      rw (run-append slash 0 x (divider slash ∷ y), run-cons, whole_joins _ (component_run c)) (name_accepted port n)

-- What is accepted has a name's parts: by induction on the bytes that are left, for every state and all that may stand before it.

module _ (port slash : Bool) where
  abbrev Ends : ℕ → List ℕ → Type 0
  Ends q w = may_end port (name_run slash q w) ≡ true

  record Parts (w : List ℕ) : Type 0 where
    begins : Ends 0 w → Name port slash w
    within_body : Ends 1 w → (x : List ℕ) → Body x → Name port slash (x ++ w)
    behind_escape : Ends 2 w → (f : List ℕ) → ((p : List ℕ) → Piece p → Body (f ++ p)) → Name port slash (f ++ 92 ∷ w)
    behind_open : Ends 3 w → (x : List ℕ) → Body x → Name port slash (x ++ 91 ∷ w)
    within_index : Ends 4 w → (x n : List ℕ) → Body x → Digits n → Name port slash (x ++ 91 ∷ (n ++ w))
    behind-colon : Ends 5 w → (x m : List ℕ) → Body x → Digits m → Name port slash (x ++ 91 ∷ (m ++ 58 ∷ w))
    within_second : Ends 6 w → (x m n : List ℕ) → Body x → Digits m → Digits n → Name port slash (x ++ 91 ∷ (m ++ 58 ∷ (n ++ w)))
    behind_index : Ends 7 w → (x : List ℕ) → Component x → Name port slash (x ++ w)
    behind_range : Ends 8 w → (port ≡ true) × (w ≡ [])
    nowhere : Ends 9 w → ⊥

  none_left : Parts []
  unfolding name_run may_end
  none_left =
      record {
        begins = no;
        within_body = λ e x b. rw append-nil (last (component (plain b)));
        behind_escape = λ e. no e;
        behind_open = λ e. no e;
        within_index = λ e. no e;
        behind-colon = λ e. no e;
        within_second = λ e. no e;
        behind_index = λ e x c. rw append-nil (last (component c));
        behind_range = λ e. (e, refl);
        nowhere = no;
      }

  module _ (c : ℕ) (r : List ℕ) (h : Parts r) where
    begins_on : Ends 0 (c ∷ r) → Name port slash (c ∷ r)
    unfolding name_run name_next body_next
    begins_on = by (is_name_byte c) (eqb c 92) refl refl
      where
        by : (t u : Bool) → is_name_byte c ≡ t → eqb c 92 ≡ u → Ends (pick t 1 (pick u 2 9)) r → Name port slash (c ∷ r)
        by true u e f g = h.within_body g (c ∷ []) (start (byte c e))
        by false true e f g = rw (eqb-true c 92 f) (h.behind_escape g [] (λ p q. start q))
        by false false e f g = absurd (h.nowhere g)

    body_on : Ends 1 (c ∷ r) → (x : List ℕ) → Body x → Name port slash (x ++ c ∷ r)
    unfolding name_run name_next body_next
    body_on g x b = by (is_name_byte c) (eqb c 92) (eqb c (divider slash)) (eqb c 91) refl refl refl refl g
      where
        by : (t u v w : Bool) → is_name_byte c ≡ t → eqb c 92 ≡ u → eqb c (divider slash) ≡ v → eqb c 91 ≡ w
            → Ends (pick t 1 (pick u 2 (pick v 0 (pick w 3 9)))) r → Name port slash (x ++ c ∷ r)
        by true u v w e₁ e₂ e₃ e₄ g = rw append_snoc at (h.within_body g (x ++ (c ∷ [])) (more b (byte c e₁)))
        by false true v w e₁ e₂ e₃ e₄ g = rw (eqb-true c 92 e₂) (h.behind_escape g x (λ p q. more b q))
        by false false true w e₁ e₂ e₃ e₄ g = rw (eqb-true c (divider slash) e₃) (join (plain b) (h.begins g))
        by false false false true e₁ e₂ e₃ e₄ g = rw (eqb-true c 91 e₄) (h.behind_open g x b)
        by false false false false e₁ e₂ e₃ e₄ g = absurd (h.nowhere g)

    escape_on : Ends 2 (c ∷ r) → (f : List ℕ) → ((p : List ℕ) → Piece p → Body (f ++ p)) → Name port slash (f ++ 92 ∷ c ∷ r)
    unfolding name_run name_next
    escape_on g f b = by (is_escapable c) refl g
      where
        by : (t : Bool) → is_escapable c ≡ t → Ends (pick t 1 9) r → Name port slash (f ++ 92 ∷ c ∷ r)
        by true e g = rw append_assoc at (h.within_body g (f ++ 92 ∷ c ∷ []) (b (92 ∷ c ∷ []) (pair c e)))
        by false e g = absurd (h.nowhere g)

    open_on : Ends 3 (c ∷ r) → (x : List ℕ) → Body x → Name port slash (x ++ 91 ∷ c ∷ r)
    unfolding name_run name_next bracket_next
    open_on g x b = by (is_digit c) refl g
      where
        by : (t : Bool) → is_digit c ≡ t → Ends (pick t 4 9) r → Name port slash (x ++ 91 ∷ c ∷ r)
        by true e g = h.within_index g x (c ∷ []) b (digit c e)
        by false e g = absurd (h.nowhere g)

    index_on : Ends 4 (c ∷ r) → (x n : List ℕ) → Body x → Digits n → Name port slash (x ++ 91 ∷ (n ++ c ∷ r))
    unfolding name_run name_next bracket_next
    index_on g x n b d = by (is_digit c) (eqb c 93) (eqb c 58) refl refl refl g
      where
        by : (t u v : Bool) → is_digit c ≡ t → eqb c 93 ≡ u → eqb c 58 ≡ v
            → Ends (pick t 4 (pick u 7 (pick v 5 9))) r → Name port slash (x ++ 91 ∷ (n ++ c ∷ r))
        by true u v e₁ e₂ e₃ g = rw append_snoc at (h.within_index g x (n ++ (c ∷ [])) b (digits d c e₁))
        by false true v e₁ e₂ e₃ g =
            rw (eqb-true c 93 e₂) (simp append_assoc at (h.behind_index g (x ++ 91 ∷ (n ++ 93 ∷ [])) (indexed b d)))
        by false false true e₁ e₂ e₃ g = rw (eqb-true c 58 e₃) (h.behind-colon g x n b d)
        by false false false e₁ e₂ e₃ g = absurd (h.nowhere g)

    colon_on : Ends 5 (c ∷ r) → (x m : List ℕ) → Body x → Digits m → Name port slash (x ++ 91 ∷ (m ++ 58 ∷ c ∷ r))
    unfolding name_run name_next bracket_next
    colon_on g x m b d = by (is_digit c) refl g
      where
        by : (t : Bool) → is_digit c ≡ t → Ends (pick t 6 9) r → Name port slash (x ++ 91 ∷ (m ++ 58 ∷ c ∷ r))
        by true e g = h.within_second g x m (c ∷ []) b d (digit c e)
        by false e g = absurd (h.nowhere g)

    second_on : Ends 6 (c ∷ r) → (x m n : List ℕ) → Body x → Digits m → Digits n → Name port slash (x ++ 91 ∷ (m ++ 58 ∷ (n ++ c ∷ r)))
    unfolding name_run name_next bracket_next
    second_on g x m n b d f = by (is_digit c) (eqb c 93) refl refl g
      where
        by : (t u : Bool) → is_digit c ≡ t → eqb c 93 ≡ u → Ends (pick t 6 (pick u 8 9)) r → Name port slash (x ++ 91 ∷ (m ++ 58 ∷ (n ++ c ∷ r)))
        by true u e₁ e₂ g = rw append_snoc at (h.within_second g x m (n ++ (c ∷ [])) b d (digits f c e₁))
        by false true e₁ e₂ g = let z = h.behind_range g in rw (eqb-true c 93 e₂, z.1, z.0) (last (ranged b d f))
        by false false e₁ e₂ g = absurd (h.nowhere g)

    bracket_on : Ends 7 (c ∷ r) → (x : List ℕ) → Component x → Name port slash (x ++ c ∷ r)
    unfolding name_run name_next
    bracket_on g x k = by (eqb c (divider slash)) refl g
      where
        by : (t : Bool) → eqb c (divider slash) ≡ t → Ends (pick t 0 9) r → Name port slash (x ++ c ∷ r)
        by true e g = rw (eqb-true c (divider slash) e) (join k (h.begins g))
        by false e g = absurd (h.nowhere g)

    one_more : Parts (c ∷ r)
    unfolding name_run name_next
    one_more =
        record {
          begins = begins_on;
          within_body = body_on;
          behind_escape = escape_on;
          behind_open = open_on;
          within_index = index_on;
          behind-colon = colon_on;
          within_second = second_on;
          behind_index = bracket_on;
          behind_range = λ g. absurd (h.nowhere g);
          nowhere = h.nowhere;
        }

  parts : (w : List ℕ) → Parts w
  parts [] = none_left
  parts (c ∷ r) = one_more c r (parts r)

-- the law, for paths and ports and both dividers
pub shape_exactly : (port slash : Bool) (x : List ℕ) → (is_name port slash x ≡ true) ↔ Name port slash x
shape_exactly port slash x = ((parts port slash x).begins, name_accepted slash port)

pub path_exactly : (slash : Bool) (x : List ℕ) → (is_path slash x ≡ true) ↔ Name false slash x
unfolding is_path
path_exactly = shape_exactly false

pub port_exactly : (slash : Bool) (x : List ℕ) → (is_port slash x ≡ true) ↔ Name true slash x
unfolding is_port
port_exactly = shape_exactly true
