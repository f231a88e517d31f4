-- `amounts::expand` meets its contract.
use Rattle.std.proofs.Common.{◌≡◌, map, length, sym, ap, ◌∙◌, rules}
use Rattle.amounts.specs.Amounts.{value_row, expanded}
use Rattle.amounts.specs.Turns.{six}
use Rattle.amounts.proofs.expand.Goals as goal

pub returns : goal.returns
unfolding expanded
returns c =
    let n : length c.choice_of-c.result ≡ 6 = search rules in
    let s = six c.choice_of-c.result 0 n in
    let f = value_row c.args.table.now c.args.at in
    rw (c.value_row.ensures, c.value_row-2.ensures, c.value_row-3.ensures, c.value_row-4.ensures, c.value_row-5.ensures, c.value_row-6.ensures) (sym (ap (map f) s) ∙ ap (map f) c.choice_of-c.ensures)
