-- `annotate::any_device` meets its contract. Invariant: none of the first k rows is of a DEVICE.
use Rattle.std.proofs.Common.{◌≡◌, ℕ, zero, suc, ◌+◌, ◌-◌, true, List, refl, arith}
use Rattle.annotate.specs.Devices.{any_device, rows_in, row_with, row_without}
use Rattle.annotate.proofs.any_device.Goals as goal

-- a row of a DEVICE is one of any more rows
later : (t : List ℕ) (k d : ℕ) → true ≡ any_device t k → true ≡ any_device t (d + k)
unfolding any_device
later t k zero e = let z : 0 + k ≡ k = omega arith in rw z e
later t k (suc d) e = let z : suc d + k ≡ suc (d + k) = omega arith in rw (z, ← later t k d e)

pub loop-k-init : goal.loop-k-init
unfolding any_device
loop-k-init c = refl

pub overflow_mul-k : goal.overflow_mul-k
overflow_mul-k c =
    let n = rows_in c.args.entries.now c.args.count c.rows_there-rows.result c.rows_there-rows.ensures in
    omega arith

pub offset_bounds-entries-k : goal.offset_bounds-entries-k
offset_bounds-entries-k c =
    let n = rows_in c.args.entries.now c.args.count c.rows_there-rows.result c.rows_there-rows.ensures in
    omega arith

pub bounds-entries-k : goal.bounds-entries-k
bounds-entries-k c =
    let n = rows_in c.args.entries.now c.args.count c.rows_there-rows.result c.rows_there-rows.ensures in
    omega arith

pub returns-then-entries-k-eq-DEVICE : goal.returns-then-entries-k-eq-DEVICE
returns-then-entries-k-eq-DEVICE c =
    let r = c.rows_there-rows.result in
    let k = c.loop-k.k in
    let e : r ≡ (r - (k + 1)) + (k + 1) = omega arith in
    rw (← c.rows_there-rows.ensures, e) (later c.args.entries.now (k + 1) (r - (k + 1)) (row_with c.args.entries.now k true _ c.loop-k.invariant c.if-entries-k-eq-DEVICE.true refl))

pub loop-k-preserved : goal.loop-k-preserved
loop-k-preserved c = row_without c.args.entries.now c.loop-k.k _ _ c.loop-k.invariant c.if-entries-k-eq-DEVICE.false refl

pub returns : goal.returns
returns c =
    let e : c.loop-k.k ≡ c.rows_there-rows.result = omega arith in
    rw (← c.rows_there-rows.ensures, ← e) c.loop-k.invariant
