-- `tables::put_entry` meets its contract: its head, and its values behind it.
use Rattle.std.proofs.Common.{◌≡◌, ◌+◌, ◌*◌, refl, ◌∙◌, length, take, arith}
use Rattle.tables.specs.Layout.{values_row, head_row, entry_row}
use Rattle.tables.specs.Pastes.{put-put}
use Rattle.tables.proofs.put_entry.Goals as goal

pub returns : goal.returns
unfolding entry_row
returns c =
    let v = c.args.e.values in
    let n : length (take v.count v.list) ≡ v.count = c.put_values.ensures.1 in
    c.put_values.ensures.0 ∙ rw (c.put_words.ensures, c.head_words.ensures, n)
    (put-put c.args.table.now (head_row c.args.e.entry v.count) (values_row (take v.count v.list) 6) (28 * c.args.k) (28 * c.args.k + 10) refl (omega (arith, c.requires)))
