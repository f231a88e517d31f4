-- Which slots of one arc the entries of a cell touch.
-- Assumes nothing.
use Rattle.std.specs.Prelude.{ℕ, zero, suc, ◌+◌, ◌*◌, Bool, false, List}
use Rattle.classes.specs.Choice.{pick}
use Rattle.grammar.specs.declared.Entry.{Entry}
use Rattle.views.specs.Views.{head_at}
use Rattle.meaning.specs.declared.Whom.{Whom}
use Rattle.meaning.specs.declared.Whom.TheVariants.{One, Every, Nobody}
use Rattle.meaning.specs.Entries.{rows_at}
use Rattle.patching.specs.Meant.{meant_in, meant_every}
use Rattle.patching.specs.Scratch.{touched_flags}

-- the entry h means the arc at q in one of the instances that its cell applies to, of n
unfoldable pub meant_for : (b text : List ℕ) (slash : Bool) (n : ℕ) → Entry → Whom → List ℕ → ℕ → Bool
meant_for b text slash n h (One p) type q = meant_in b text slash h p q
meant_for b text slash n h Every type q = meant_every b text slash h n type q
meant_for b text slash n h (Nobody x) type q = false

-- the flags of the arc's 18 slots behind the first k entries of a cell, which are numbered from `first` on in the table t
unfoldable pub entries_touched : (b text : List ℕ) (slash : Bool) (n : ℕ) (t : List ℕ) (first : ℕ) → Whom → List ℕ → ℕ → List ℕ → ℕ → List ℕ
entries_touched b text slash n t first whom type q flags zero = flags
entries_touched b text slash n t first whom type q flags (suc k) =
    pick (meant_for b text slash n (head_at t (28 * (first + k))) whom type q)
    (touched_flags (entries_touched b text slash n t first whom type q flags k) (rows_at t (28 * (first + k))) 18)
    (entries_touched b text slash n t first whom type q flags k)
