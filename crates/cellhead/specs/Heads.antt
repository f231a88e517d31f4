-- What stands at the head of a cell: its type and its instance.
-- Assumes nothing.
use Rattle.std.specs.Prelude.{◌≡◌, Bool, true, List, [], ◌∷◌, ◌++◌, ℕ, ◌+◌, ◌-◌, ◌≤◌, eqb, length, Result, Ok, Err}
use Rattle.std.proofs.Math.Path.{refl}
use Rattle.std.proofs.Common.{◌∙◌}
use Rattle.std.proofs.Math.Bool.{false}
use borrow.Author.Tests.{eq-eqb, ne_eqb}
use Rattle.classes.specs.Choice.{pick}
use Rattle.grammar.specs.Answers.{Name}
use Rattle.grammar.specs.Ll.{lit, non}
use Rattle.grammar.specs.Machine.{fine, bad}
use Rattle.tokenforms.specs.declared.Refusal.{Refusal}
use Rattle.tokenforms.specs.Tokens.{Got, Refused}
use Rattle.tokenforms.specs.Tokens.{token_at}
use Rattle.tokens.specs.Stream.{Placed, placed, part}
use Rattle.nameshape.specs.Shape.{is_path, name_run}
use Rattle.nametokens.specs.Shaped.{name_fault}
use Rattle.nametokens.specs.ShapeLaws.{judged}
use Rattle.grammar.specs.declared.Hand.{Hand}
use Rattle.cellhead.specs.declared.Instance.{Instance}
use Rattle.cellhead.specs.declared.CellHead.{CellHead}
use Rattle.headsteps.specs.Steps.{Takes, KeyRead, TextRead}
use Rattle.grammar.specs.Grammar.{specs, instance, path, named, type, skip, cell_tail, alts, keyword, ◌!◌, ◌⇒◌, ⟨, ⟩}
use Rattle.grammar.specs.Meaning.{Log, celled, pathed, typed, noted}
use Rattle.grammar.specs.Reading.{reading, stepped, goes, halts}
use Rattle.grammar.specs.Outcome.{Stack, state}
use Rattle.rules.specs.Promises.{Marked}
use Rattle.rules.specs.Rules.{ahead, heads}

-- an instance of this sort, whose path stands from b to e; q is behind it
abbrev pub PathTo : ℕ → ℕ → ℕ → ℕ → Result Instance Refusal
PathTo k b e q = Ok (record { sort = k; from = b; to = e; end = q })

-- AN INSTANCE's path, with its closing bracket
abbrev pub InstanceRead : List ℕ → ℕ → Bool → Result Instance Refusal → Type 0
InstanceRead s p d (Ok found) =
    ((ss : Stack) (unit cr ir : ℕ) (l : Log) →
    reading s (state (non (instance d) ∷ ss) false d unit cr ir l) p ≡ reading s (state ss false d unit cr ir (celled (pathed found.sort found.from found.to l.begun) l)) found.end)
    × (found.end ≤ length s)
InstanceRead s p d (Err why) =
    (ss : Stack) (unit cr ir : ℕ) (l : Log) → reading s (state (non (instance d) ∷ ss) false d unit cr ir l) p ≡ bad why.number why.place

-- a path where one is expected: taken, or the refusal
abbrev pub PathHere : Placed → Bool → Result (Unit {0}) Refusal → Type 0
PathHere t d (Ok u) =
    (ss : Stack) (unit cr ir : ℕ) (l : Log) →
    stepped (state (lit (path d ! named) ∷ ss) false d unit cr ir l) t ≡ fine (state ss false d unit cr ir (noted named t l))
PathHere t d (Err why) =
    (ss : Stack) (unit cr ir : ℕ) (l : Log) →
    stepped (state (lit (path d ! named) ∷ ss) false d unit cr ir l) t ≡ bad why.number why.place

module _ (t : Placed) (d : Bool) where
  path-kind : (t.kind ≡ 7 → ⊥) → PathHere t d (Refused 4 t.start)
  path-kind n = λ ss unit cr ir l. rw (ne_eqb t.kind 7 n)

  path_shape : t.kind ≡ 7 → is_path d t.bytes ≡ false → PathHere t d (Refused 4 t.start)
  path_shape q a = λ ss unit cr ir l. rw (eq-eqb t.kind 7 q, a)

  path-long : t.kind ≡ 7 → is_path d t.bytes ≡ true → t.long ≡ true → PathHere t d (Refused 8 t.start)
  path-long q a g = λ ss unit cr ir l. rw (eq-eqb t.kind 7 q, a, g)

  path_fine : t.kind ≡ 7 → is_path d t.bytes ≡ true → t.long ≡ false → PathHere t d (Ok tt)
  path_fine q a g = let z : eqb t.kind 2 ≡ false = rw q refl in λ ss unit cr ir l. rw (eq-eqb t.kind 7 q, a, g, z)

-- an instance's path by where its reader stands
module _ (s : List ℕ) (d : Bool) (k b e : ℕ) (long : Bool) where
  pub path-judged : (q : ℕ) → q ≡ pick (eqb k 7) (name_run d 0 (part b e s)) 9 →
      PathHere (placed s k b e long) d (name_fault false (record { token = record { kind = k; start = b; end = e; long = long }; state = q }))
  unfolding is_path
  path-judged =
      let t = placed s k b e long in
      judged (PathHere t d) false d s k b e long (path-kind t d) (path_shape t d) (path-long t d) (path_fine t d)

pub instance-stops : (s : List ℕ) (p n q : ℕ) (d : Bool) → p ≤ length s → token_at s p ≡ Refused n q → InstanceRead s p d (Refused n q)
instance-stops s p n q d h t = λ ss unit cr ir l. halts s _ ss _ p n q h t

module _ (s : List ℕ) (p k b e : ℕ) (long : Bool) (h : p ≤ length s) (tok : token_at s p ≡ Got k b e long) (d : Bool) where
  pub instance-top : k ≡ 3 → InstanceRead s p d (PathTo 0 0 0 e)
  unfolding alts
  instance-top q = (λ ss unit cr ir l. goes s _ p 3 b e long (fine _) h (rw q at tok) refl, (ahead s p k b e long h tok).1)

  pub instance_any : (q : ℕ) → k ≡ 5 → Marked s e 3 (Ok q) → InstanceRead s p d (PathTo 2 0 0 q)
  unfolding alts
  instance_any q z m = (λ ss unit cr ir l. goes s _ p 5 b e long (fine _) h (rw z at tok) refl ∙ m.1 skip ss d unit cr ir _, m.3)

  pub instance_any_not : (n q : ℕ) → k ≡ 5 → Marked s e 3 (Refused n q) → InstanceRead s p d (Refused n q)
  unfolding alts
  instance_any_not n q z m = λ ss unit cr ir l. goes s _ p 5 b e long (fine _) h (rw z at tok) refl ∙ m skip ss d unit cr ir _

  instance-path : (ss : Stack) (unit cr ir : ℕ) (l : Log) → (k ≡ 3 → ⊥) → (k ≡ 5 → ⊥) →
      stepped (state (non (instance d) ∷ ss) false d unit cr ir l) (placed s k b e long) ≡
      stepped (state (lit (path d ! named) ∷ ⟩ ∷ ss) false d unit cr ir l) (placed s k b e long)
  unfolding alts
  instance-path ss unit cr ir l x y = heads (instance d) (path d ! named ⇒ ⟩ ∷ []) ss false d unit cr ir l (placed s k b e long) (rw (ne_eqb k 3 x, ne_eqb k 5 y))

  pub instance-wrong : (m q : ℕ) → (k ≡ 3 → ⊥) → (k ≡ 5 → ⊥) → PathHere (placed s k b e long) d (Refused m q) → InstanceRead s p d (Refused m q)
  instance-wrong m q x y w = λ ss unit cr ir l. goes s _ p k b e long (bad m q) h tok (instance-path ss unit cr ir l x y ∙ w _ unit cr ir l)

  pub instance_open : (n q : ℕ) → (k ≡ 3 → ⊥) → (k ≡ 5 → ⊥) → PathHere (placed s k b e long) d (Ok tt) → Marked s e 3 (Refused n q) → InstanceRead s p d (Refused n q)
  instance_open n q x y w m = λ ss unit cr ir l. goes s _ p k b e long (fine _) h tok (instance-path ss unit cr ir l x y ∙ w _ unit cr ir l) ∙ m skip ss d unit cr ir _

  pub instance-named : (q : ℕ) → (k ≡ 3 → ⊥) → (k ≡ 5 → ⊥) → PathHere (placed s k b e long) d (Ok tt) → Marked s e 3 (Ok q) → InstanceRead s p d (PathTo 1 b e q)
  instance-named q x y w m =
      (λ ss unit cr ir l. goes s _ p k b e long (fine _) h tok (instance-path ss unit cr ir l x y ∙ w _ unit cr ir l) ∙ m.1 skip ss d unit cr ir _, m.3)

-- A CELL's type and path, behind its keyword
abbrev pub HeadRead : List ℕ → ℕ → Bool → Result CellHead Refusal → Type 0
HeadRead s p d (Ok head) =
    ((ss : Stack) (unit cr ir : ℕ) (l : Log) →
    reading s (state (cell_tail d ++ ss) false d unit cr ir l) p ≡
    reading s (state (non (specs d) ∷ ss) false d unit cr ir (celled (pathed head.sort head.pathfrom head.pathto (typed head.typefrom head.typeto l.begun)) l)) head.end)
    × (head.end ≤ length s)
HeadRead s p d (Err why) = (ss : Stack) (unit cr ir : ℕ) (l : Log) → reading s (state (cell_tail d ++ ss) false d unit cr ir l) p ≡ bad why.number why.place

-- INSTANCE and its path, behind the type's text
abbrev pub PathBehind : List ℕ → ℕ → Bool → Result Instance Refusal → Type 0
PathBehind s p d (Ok found) =
    ((ss : Stack) (unit cr ir : ℕ) (l : Log) →
    reading s (state (⟩ ∷ ⟨ ∷ lit (keyword 55) ∷ non (instance d) ∷ ss) false d unit cr ir l) p ≡
    reading s (state ss false d unit cr ir (celled (pathed found.sort found.from found.to l.begun) l)) found.end)
    × (found.end ≤ length s)
PathBehind s p d (Err why) =
    (ss : Stack) (unit cr ir : ℕ) (l : Log) → reading s (state (⟩ ∷ ⟨ ∷ lit (keyword 55) ∷ non (instance d) ∷ ss) false d unit cr ir l) p ≡ bad why.number why.place

module _ (s : List ℕ) (p : ℕ) (d : Bool) (h : Result Hand Refusal) (c : Takes s p (⟩ ∷ ⟨ ∷ []) false h) where
  pub behind-key-not : (n q : ℕ) → KeyRead s h 55 (Refused n q) → PathBehind s p d (Refused n q)
  behind-key-not n q v = λ ss unit cr ir l. c.0 _ _ d unit cr ir l ∙ v.0 _ d unit cr ir l

  pub behind-path : (y : ℕ) (r : Result Instance Refusal) → KeyRead s h 55 (Ok y) → InstanceRead s y d r → PathBehind s p d r
  behind-path y (Ok found) v i = (λ ss unit cr ir l. c.0 _ _ d unit cr ir l ∙ v.0 _ d unit cr ir l ∙ i.0 ss unit cr ir l, i.1)
  behind-path y (Err why) v i = λ ss unit cr ir l. c.0 _ _ d unit cr ir l ∙ v.0 _ d unit cr ir l ∙ i ss unit cr ir l

module _ (s : List ℕ) (p : ℕ) (d : Bool) (h : Result Hand Refusal) (a : Takes s p (⟨ ∷ []) false h) where
  pub head_key-not : (n q : ℕ) → KeyRead s h 54 (Refused n q) → HeadRead s p d (Refused n q)
  head_key-not n q u = λ ss unit cr ir l. a.0 _ _ d unit cr ir l ∙ u.0 _ d unit cr ir l

  module _ (x : ℕ) (u : KeyRead s h 54 (Ok x)) where
    pub head_text-not : (n q : ℕ) → TextRead s x (Refused n q) → HeadRead s p d (Refused n q)
    head_text-not n q t = λ ss unit cr ir l. a.0 _ _ d unit cr ir l ∙ u.0 _ d unit cr ir l ∙ t.0 d type _ unit cr ir l

    module _ (b e : ℕ) (t : TextRead s x (Name b e)) where
      onto : (ss : Stack) (unit cr ir : ℕ) (l : Log) →
          reading s (state (cell_tail d ++ ss) false d unit cr ir l) p ≡
          reading s (state (⟩ ∷ ⟨ ∷ lit (keyword 55) ∷ non (instance d) ∷ non (specs d) ∷ ss) false d unit cr ir (celled (typed (b + 1) (e - 1) l.begun) l)) e
      onto ss unit cr ir l =
          a.0 _ _ d unit cr ir l ∙ u.0 _ d unit cr ir l ∙ (t.0 d).1 type _ unit cr ir l ∙ rw ((t.0 d).2, (t.0 d).3)

      pub head_path-not : (n q : ℕ) → PathBehind s e d (Refused n q) → HeadRead s p d (Refused n q)
      head_path-not n q i = λ ss unit cr ir l. onto ss unit cr ir l ∙ i _ unit cr ir _

      pub head_done : (found : Instance) → PathBehind s e d (Ok found) →
          HeadRead s p d (Ok (record { typefrom = b + 1; typeto = e - 1; sort = found.sort; pathfrom = found.from; pathto = found.to; end = found.end }))
      head_done found i = (λ ss unit cr ir l. onto ss unit cr ir l ∙ i.0 _ unit cr ir _, i.1)
