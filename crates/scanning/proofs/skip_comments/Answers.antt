-- `scanning::skip_comments` meets its contract.
use Prim.Native.Nat.{◌+◌}
use mathlib.Core.Path.{◌≡◌, sym, ◌∙◌, ap}
use mathlib.Core.Bool.{true, false}
use lib.ListN.{length, drop, get_or}
use native.Mathlib.Omega.{arith}
use borrow.Author.Rules.{rules}
use Rattle.scanning.specs.Scan.{scan_len, scan_st, stops, goes_on, ends, stops_st, goes_on_st, ends_st}
use Rattle.scanning.specs.Machines.{blank_halts, blank_goes, blank, blank-goes}
use Rattle.scanning.proofs.skip_comments.Goals as goal

pub returns-then-blank_stop : goal.returns-then-blank_stop
returns-then-blank_stop c =
    let q = blank c.loop-i.mode c.loop-i.since in
    let h : blank_halts q (get_or c.args.text.now c.loop-i.i 0) (get_or c.args.text.now (c.loop-i.i + 1) 0) ≡ true = cc in
    record {
      ends = sym (stops blank_halts blank_goes c.args.text.now q c.loop-i.i (search rules) h) ∙ c.loop-i.invariant.2;
      state = sym (stops_st blank_halts blank_goes c.args.text.now q c.loop-i.i (search rules) h) ∙ c.loop-i.invariant.3;
      counted = c.loop-i.invariant.1;
      fits = c.loop-i.invariant.0;
    }

pub loop-i-preserved : goal.loop-i-preserved
loop-i-preserved c =
    let q = blank c.loop-i.mode c.loop-i.since in
    let h : blank_halts q (get_or c.args.text.now c.loop-i.i 0) (get_or c.args.text.now (c.loop-i.i + 1) 0) ≡ false = cc in
    let n = blank-goes c.loop-i.mode c.loop-i.since c.mode_next-mode.result c.since_next-since.result (get_or c.args.text.now c.loop-i.i 0) (get_or c.args.text.now (c.loop-i.i + 1) 0) (cc) (search rules) in (
      search rules,
      search rules,
      ap (λ x. c.loop-i.i + 1 + scan_len blank_halts blank_goes x (drop (c.loop-i.i + 1) c.args.text.now)) n ∙ goes_on blank_halts blank_goes c.args.text.now q c.loop-i.i (search rules) h ∙ c.loop-i.invariant.2,
      ap (λ x. scan_st blank_halts blank_goes x (drop (c.loop-i.i + 1) c.args.text.now)) n ∙ goes_on_st blank_halts blank_goes c.args.text.now q c.loop-i.i (search rules) h ∙ c.loop-i.invariant.3,
    )

pub returns : goal.returns
returns c =
    let q = blank c.loop-i.mode c.loop-i.since in
    let e : length c.args.text.now ≡ c.loop-i.i = omega arith in
    record {
      ends = rw e (sym (ends blank_halts blank_goes c.args.text.now q c.loop-i.i (search rules)) ∙ c.loop-i.invariant.2);
      state = sym (ends_st blank_halts blank_goes c.args.text.now q c.loop-i.i (search rules)) ∙ c.loop-i.invariant.3;
      counted = omega arith;
      fits = omega arith;
    }
