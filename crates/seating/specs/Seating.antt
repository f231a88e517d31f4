-- What the functions that swap a cell by seats are asked, and what they say: the contracts of the loops over arcs.
-- Assumes nothing.
use Rattle.std.specs.Prelude.{ℕ, zero, suc, ◌<◌, ◌≡◌, Bool, true, List, length, get_or, take, drop}
use Rattle.sheetparts.specs.Form.{values_at}
use Rattle.sheetlaws.specs.Sheet.{place}
use Rattle.meant.specs.Find.{InstanceSearch, ArcSearch}
use Rattle.meant.specs.Plan.{Plan}
use Rattle.meant.specs.WhomType.{Whom}
use Rattle.meant.specs.Whom.{InSheet}
use Rattle.meant.specs.Scratch.{back_written}
use Rattle.arcrun.specs.declared.Least.{Least}
use Rattle.arcrun.specs.declared.Least.TheVariants as least
use Rattle.arcrun.specs.Run.{CellsRan}
use Rattle.marking.specs.Parts.{part_no}
use Rattle.swaparcs.specs.declared.Swap.{Swap}
use Rattle.swaparcs.specs.Loops.{any_set, SwapReady, ArcRan, ArcLate, flags_at, ArcsRan, ArcsWritten}
use Rattle.marking.specs.Chosen.{chosen}
use Rattle.marking.specs.Choosing.{marked}
use Rattle.nearby.specs.Seats.{Together}

-- what the loops over arcs are asked
pub record SwapFits (b : List ℕ) (plan : Plan) (swap : Swap) (places marks cells entries : List ℕ) (leaver : Whom) (cells2 entries2 : List ℕ) (comer : Whom)
    : Type 0 where
  pub ready : SwapReady cells entries cells2 entries2 swap
  pub search : InstanceSearch b plan.instances 12 places
  pub arcs : ArcSearch b plan.arcs plan.first marks
  pub leaver_in : InSheet b leaver
  pub comer_in : InSheet b comer

-- each seat has the values of its arc on the starting sheet
abbrev pub StatesLoaded : List ℕ → List ℕ → ℕ → List ℕ → Type 0
StatesLoaded b arcs count states = (i : ℕ) → i < count → part_no 144 states i ≡ take 144 (drop (values_at b (get_or arcs i 0)) b)

-- the sheet with the touched values of the first seats written
unfoldable pub backs : (b arcs flags states o : List ℕ) → ℕ → List ℕ
backs b arcs flags states o zero = o
backs b arcs flags states o (suc i) =
    back_written (backs b arcs flags states o i) (values_at b (get_or arcs i 0)) (part_no 144 states i) (part_no 18 flags i) 18

module _ (b : List ℕ) (n m f : ℕ) (file incoming : List ℕ) (slash : Bool) (cells entries cells2 entries2 : List ℕ) (swap : Swap) where
  -- the seats came from the starting sheet through the cells before the outgoing one
  abbrev pub FrontRan : (arcs flags : List ℕ) (count : ℕ) (states : List ℕ) → Type 0
  FrontRan arcs flags count states =
      (i : ℕ) → i < count → (first : List ℕ) × (first ≡ take 144 (drop (values_at b (get_or arcs i 0)) b))
      × CellsRan b file slash n m f cells 0 swap.outgoing entries (get_or arcs i 0) (part_no 18 flags i) first (part_no 144 states i) 0 least.Nothing

  -- the seats ran through the new file together
  abbrev pub SeatsThrough : (arcs flags : List ℕ) (count : ℕ) (states : List ℕ) → Least → Type 0
  SeatsThrough arcs flags count states r =
      Together count
      (λ i o. ArcRan b n m f file incoming slash cells entries cells2 entries2 swap (get_or arcs i 0) (part_no 18 flags i) (part_no 144 states i) o)
      (λ i ev x. ArcLate b n m f file incoming slash cells entries cells2 entries2 swap (get_or arcs i 0) (part_no 18 flags i) ev x) r

  module _ (leaver : Whom) (type : List ℕ) (newcomer : Whom) (type2 : List ℕ) where
    -- the flags of arc j, and whether one is set
    abbrev pub flags_of : ℕ → List ℕ
    flags_of j = flags_at b n m f file incoming slash cells entries cells2 entries2 swap leaver type newcomer type2 (place b j f)

    abbrev pub touched_at : ℕ → Bool
    touched_at j = any_set (flags_of j) 18

    -- every arc with a touched slot is hit
    abbrev pub Covers : (ℕ → Bool) → Type 0
    Covers hit = (j : ℕ) → j < m → touched_at j ≡ true → hit j ≡ true

    -- every one is marked
    abbrev pub MarksCover : List ℕ → Type 0
    MarksCover bits = Covers (λ j. marked bits (place b j f))

    -- each seat has the flags of its arc
    abbrev pub FlagsSeated : (arcs : List ℕ) (count : ℕ) (flags : List ℕ) → Type 0
    FlagsSeated arcs count flags =
        (i : ℕ) → i < count
        → part_no 18 flags i ≡ flags_at b n m f file incoming slash cells entries cells2 entries2 swap leaver type newcomer type2 (get_or arcs i 0)

    -- the arcs that are hit, among k from number `from` on, have their seats and their flags
    abbrev pub SeatsAre : (hit : ℕ → Bool) (from k : ℕ) (arcs flags : List ℕ) → Type 0
    SeatsAre hit from k arcs flags =
        (i : ℕ) → i < length (chosen hit from k)
        → (get_or arcs i 0 ≡ place b (get_or (chosen hit from k) i 0) f) × (part_no 18 flags i ≡ flags_of (get_or (chosen hit from k) i 0))

    -- the swap of the cell: the least fault, and the sheet as it was; or none, and the sheet with every touched slot written
    abbrev pub SwapSeated : (own : Least) (current current' : List ℕ) → Least → Type 0
    SwapSeated own current current' least.Nothing =
        (ArcsRan b n m f file incoming slash cells entries cells2 entries2 swap leaver type newcomer type2 own least.Nothing)
        × (ArcsWritten b n m f file incoming slash cells entries cells2 entries2 swap leaver type newcomer type2 current current')
    SwapSeated own current current' (least.Fault ev x p s) =
        (ArcsRan b n m f file incoming slash cells entries cells2 entries2 swap leaver type newcomer type2 own (least.Fault ev x p s))
        × (current' ≡ current)
