-- `bytype::note_spots` meets its contract. Invariant: the places so far are noted, and the heads stay.
use Rattle.std.proofs.Common.{◌≡◌, ℕ, ◌<◌, length, get_or}
use Rattle.bytype.specs.Chains.{Noted}
use Rattle.bytype.specs.ByType.{spot_of, spot_place}
use Rattle.bytype.proofs.note_spots.Given as goal

abbrev pub invariant-loop-k : goal.invariant-loop-k
invariant-loop-k l =
    (l.here ≡ spot_of l.sheet l.k) × Noted spot_place (spot_of l.sheet) l.k l.index
    × ((h : ℕ) → h < 4096 → get_or l.index h 0 ≡ get_or l.initial.index h 0) × (length l.index ≡ 135168)
