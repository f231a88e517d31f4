-- Which instances a cell's entries apply to.
-- Assumes nothing.
use Rattle.std.specs.Prelude.{ℕ, ◌<◌, ◌≤◌, ◌≡◌, Bool, true, List, eqb, length, Option, Some, None}
use Rattle.std.proofs.Common.{arith}
use Rattle.classes.specs.Choice.{pick}
use Rattle.names.specs.Order.{same_text}
use Rattle.names.specs.Name.{canon, part_of}
use Rattle.grammar.specs.declared.Cell as read
use Rattle.sheetparts.specs.Form.{path_at, type_at}
use Rattle.sheetlaws.specs.Sheet.{in_end, nth}
use Rattle.entryarcs.specs.Find.{find_instance, InsGood, instance-found, in_there}
use Rattle.history.specs.Sheet.{Cell, at, every}
use Rattle.meaning.specs.declared.Whom.{Whom}
use Rattle.meaning.specs.declared.Whom.TheVariants.{One, Every, Nobody}

-- '12 no such instance', '13 type differs'
unfoldable pub typed_as : List ℕ → List ℕ → Option ℕ → Whom
typed_as b type None = Nobody 12
typed_as b type (Some p) = pick (same_text (type_at b p) type) (One p) (Nobody 13)

unfoldable pub whom_of : (b text : List ℕ) (slash : Bool) (n : ℕ) → read.Cell → Whom
whom_of b text slash n c =
    pick (eqb c.sort 2) Every
    (typed_as b (part_of text c.typefrom c.typeto) (find_instance b (canon slash (part_of text c.pathfrom c.pathto)) n 12))

-- the instance stands on the sheet
abbrev pub InSheet : List ℕ → Whom → Type 0
InSheet b (One p) = in_end b p ≤ length b
InSheet b Every = Unit {0}
InSheet b (Nobody x) = Unit {0}

-- it is the cell's
abbrev pub For : List ℕ → ℕ → Whom → Cell ℕ → Type 0
For b n (One p) c =
    (k : ℕ) × (k < n) × (p ≡ nth (in_end b) k 12) × (c.part ≡ at (path_at b p)) × (same_text (type_at b p) c.type ≡ true)
For b n Every c = c.part ≡ every
For b n (Nobody x) c = ⊥

-- an instance that was found stands on the sheet
pub in_sheet : (b path : List ℕ) (n p : ℕ) → InsGood b n 12 → find_instance b path n 12 ≡ Some p → in_end b p ≤ length b
in_sheet b path n p g e = let f = instance-found b path n 12 p e in rw f.2 (in_there b f.0 n 12 f.1 g).1

-- one or every is not nobody
pub one_somebody : (p x : ℕ) → One p ≡ Nobody x → ⊥
one_somebody p x e = let z : ◌≡◌ {A = ℕ} 0 1 = cc in absurd (omega arith)

pub every_somebody : (x : ℕ) → Every ≡ Nobody x → ⊥
every_somebody x e = let z : ◌≡◌ {A = ℕ} 0 1 = cc in absurd (omega arith)
