-- `amounts::write_value` meets its contract.
use Rattle.std.proofs.Common.{ℕ, ap, ◌∙◌, rules, eq-eqb, ne_eqb}
use lib.Seq.{paste}
use Rattle.wire.specs.Wire.{be_bytes}
use Rattle.amounts.specs.Amounts.{value_written}
use Rattle.amounts.specs.Turns.{bits_back}
use Rattle.amounts.proofs.write_value.Goals as goal

pub returns-then-word-eq-EMPTY : goal.returns-then-word-eq-EMPTY
unfolding value_written
returns-then-word-eq-EMPTY c =
    rw (eq-eqb _ _ c.if-word-eq-EMPTY.true)

pub returns : goal.returns
unfolding value_written
returns c =
    rw (ne_eqb _ _ c.if-word-eq-EMPTY.false) (c.write_i64.ensures ∙ ap (λ (n : ℕ). paste c.args.sheet.now c.args.at (be_bytes n) 8) (bits_back c.of_bits.result c.changed_to.result (search rules) c.of_bits.ensures ∙ c.changed_to.ensures ∙ rw c.u64_at-old.ensures))
