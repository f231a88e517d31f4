-- `byend::note_places` meets its contract. Invariant: the places so far are noted, and the heads stay.
use Rattle.std.proofs.Common.{◌≡◌, ℕ, ◌<◌, length, get_or}
use Rattle.sheetlaws.specs.Sheet.{place}
use Rattle.bytype.specs.Chains.{Noted}
use Rattle.byend.specs.Ends.{end_place}
use Rattle.byend.proofs.note_places.Given as goal

abbrev pub invariant-loop-k : goal.invariant-loop-k
invariant-loop-k l =
    (l.here ≡ place l.sheet l.k l.first) × Noted end_place (λ i. place l.sheet i l.first) l.k l.ends
    × ((h : ℕ) → h < 4096 → get_or l.ends h 0 ≡ get_or l.initial.ends h 0) × (length l.ends ≡ 135168)
