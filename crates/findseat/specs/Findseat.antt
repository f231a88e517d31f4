-- Seats that stand in the order of their arcs, and the one that an entry can mean.
-- Assumes nothing.
use Rattle.std.specs.Prelude.{ℕ, ◌<◌, ◌≤◌, ◌≡◌, Bool, false, List, get_or}
use Rattle.sheetlaws.specs.Sheet.{place}
use Rattle.grammar.specs.declared.Entry.{Entry}
use Rattle.meant.specs.WhomType.TheVariants.{One}
use Rattle.meant.specs.Touch.{meant_for}

-- the first `count` numbers rise
abbrev pub Ascending : List ℕ → ℕ → Type 0
Ascending arcs count = (i k : ℕ) → i < k → k < count → get_or arcs i 0 < get_or arcs k 0

-- none of them but number r is this one
abbrev pub OnlyAt : List ℕ → (count place r : ℕ) → Type 0
OnlyAt arcs count place r = (r ≤ count) × (r < count → get_or arcs r 0 ≡ place) × ((i : ℕ) → i < count → (i ≡ r → ⊥) → get_or arcs i 0 ≡ place → ⊥)

-- the seats have arcs of the sheet, in its order
abbrev pub InOrder : (b : List ℕ) (m f : ℕ) (arcs : List ℕ) (count : ℕ) → Type 0
InOrder b m f arcs count =
    ((i : ℕ) → i < count → (j : ℕ) × (j < m) × (get_or arcs i 0 ≡ place b j f))
    × ((i k : ℕ) → i < k → k < count → get_or arcs i 0 < get_or arcs k 0)

-- the entry h, in the instance at p, means at most the arc of seat r
abbrev pub OnlySeat : (b text : List ℕ) (slash : Bool) (n : ℕ) (h : Entry) (p : ℕ) (type arcs : List ℕ) (count r : ℕ) → Type 0
OnlySeat b text slash n h p type arcs count r =
    (r ≤ count) × ((i : ℕ) → i < count → (i ≡ r → ⊥) → meant_for b text slash n h (One p) type (get_or arcs i 0) ≡ false)
