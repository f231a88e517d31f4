-- `classes::class_of` meets its contract: what each arm answers is computed.
use mathlib.Core.Path.{refl}
use mathlib.Core.List.{List, [], ◌∷◌}
use Prim.Native.Nat.{ℕ}
use native.Mathlib.Omega.{arith}
use Rattle.classes.specs.Classes.{class_of}
use Rattle.classes.proofs.Keys.{keyed, ranged}
use Rattle.classes.proofs.class_of.Goals as goal

-- the bytes that stand by themselves
abbrev arms : List (List ℕ)
arms = (33 ∷ 35 ∷ 44 ∷ 94 ∷ 96 ∷ []) ∷ (92 ∷ []) ∷ (93 ∷ []) ∷ (91 ∷ []) ∷ (47 ∷ []) ∷ (36 ∷ 43 ∷ 95 ∷ []) ∷ (34 ∷ []) ∷ (42 ∷ []) ∷ (58 ∷ []) ∷ (41 ∷ []) ∷ (40 ∷ []) ∷ (32 ∷ []) ∷ (13 ∷ []) ∷ []

pub returns-in-40 : goal.returns-in-40
unfolding class_of
returns-in-40 c = keyed class_of 2 (40 ∷ []) refl _ c.in-40.is

pub returns-in-41 : goal.returns-in-41
unfolding class_of
returns-in-41 c = keyed class_of 3 (41 ∷ []) refl _ c.in-41.is

pub returns-in-58 : goal.returns-in-58
unfolding class_of
returns-in-58 c = keyed class_of 4 (58 ∷ []) refl _ c.in-58.is

pub returns-in-42 : goal.returns-in-42
unfolding class_of
returns-in-42 c = keyed class_of 5 (42 ∷ []) refl _ c.in-42.is

pub returns-in-34 : goal.returns-in-34
unfolding class_of
returns-in-34 c = keyed class_of 6 (34 ∷ []) refl _ c.in-34.is

pub returns-in-47 : goal.returns-in-47
unfolding class_of
returns-in-47 c = keyed class_of 8 (47 ∷ []) refl _ c.in-47.is

pub returns-in-91 : goal.returns-in-91
unfolding class_of
returns-in-91 c = keyed class_of 9 (91 ∷ []) refl _ c.in-91.is

pub returns-in-93 : goal.returns-in-93
unfolding class_of
returns-in-93 c = keyed class_of 10 (93 ∷ []) refl _ c.in-93.is

pub returns-in-92 : goal.returns-in-92
unfolding class_of
returns-in-92 c = keyed class_of 11 (92 ∷ []) refl _ c.in-92.is

pub returns-in_default : goal.returns-in_default
unfolding class_of
returns-in_default c = ranged class_of 0 arms 0 9 refl _ c.in_default.in_default-own.rest (omega arith) (omega arith)

pub returns-in_default-2 : goal.returns-in_default-2
unfolding class_of
returns-in_default-2 c = ranged class_of 0 arms 11 21 refl _ c.in_default.in_default-own.rest (omega arith) (omega arith)

pub returns-in_default-3 : goal.returns-in_default-3
unfolding class_of
returns-in_default-3 c = ranged class_of 0 arms 127 129 refl _ c.in_default.in_default-own.rest (omega arith) (omega arith)

pub returns-in-65-to-90 : goal.returns-in-65-to-90
unfolding class_of
returns-in-65-to-90 c = keyed class_of 7 (36 ∷ 43 ∷ 95 ∷ []) refl _ c.in-65-to-90.in-65-to-90-own.keys8

pub returns-in-65-to-90-2 : goal.returns-in-65-to-90-2
unfolding class_of
returns-in-65-to-90-2 c = ranged class_of 7 arms 40 18 refl _ c.in-65-to-90.in_default-own.rest (omega arith) (omega arith)

pub returns-in-65-to-90-3 : goal.returns-in-65-to-90-3
unfolding class_of
returns-in-65-to-90-3 c = ranged class_of 7 arms 65 58 refl _ c.in-65-to-90.in_default-own.rest (omega arith) (omega arith)

pub returns-in-32-to-126 : goal.returns-in-32-to-126
unfolding class_of
returns-in-32-to-126 c = keyed class_of 12 (33 ∷ 35 ∷ 44 ∷ 94 ∷ 96 ∷ []) refl _ c.in-32-to-126.in-32-to-126-own.keys13

pub returns-in-32-to-126-2 : goal.returns-in-32-to-126-2
unfolding class_of
returns-in-32-to-126-2 c = ranged class_of 12 arms 32 8 refl _ c.in-32-to-126.in_default-own.rest (omega arith) (omega arith)

pub returns-in-32-to-126-3 : goal.returns-in-32-to-126-3
unfolding class_of
returns-in-32-to-126-3 c = ranged class_of 12 arms 58 7 refl _ c.in-32-to-126.in_default-own.rest (omega arith) (omega arith)

pub returns-in-32-to-126-4 : goal.returns-in-32-to-126-4
unfolding class_of
returns-in-32-to-126-4 c = ranged class_of 12 arms 123 4 refl _ c.in-32-to-126.in_default-own.rest (omega arith) (omega arith)

pub returns-in-9 : goal.returns-in-9
unfolding class_of
returns-in-9 c = keyed class_of 1 (13 ∷ []) refl _ c.in-9.is

pub returns-in-9-2 : goal.returns-in-9-2
unfolding class_of
returns-in-9-2 c = keyed class_of 1 (32 ∷ []) refl _ c.in-9.is

pub returns-in-9-3 : goal.returns-in-9-3
unfolding class_of
returns-in-9-3 c = ranged class_of 1 arms 9 2 refl _ c.in-9.in_default-own.rest (omega arith) (omega arith)
