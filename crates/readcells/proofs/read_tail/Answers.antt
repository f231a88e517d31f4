-- `readcells::read_tail` meets its contract: the type and the path, the entries, and the cell's record.
use Rattle.std.proofs.Common.{refl, ◌∙◌}
use Rattle.std.proofs.lemmas.Result.{err_from_is_err_and}
use Rattle.readcells.specs.Whole.{cell_at, tail_head_not, tail_body_not, tail_done}
use Rattle.readcells.specs.Left.{cells-one}
use Rattle.readcells.proofs.read_tail.Goals as goal

pub returns : goal.returns
returns c =
    let h = c.in_ok-head.head in
    let v = c.in_ok-body.ensures in (
      _,
      v.0,
      v.1,
      tail_done c.args.text.now c.args.from c.args.slash c.args.unit c.args.room c.args.place h c.in_ok-head.ensures c.in_ok-body.body.end c.in_ok-body.body.count v.0 v.1 v.2,
      v.3,
      v.5,
      v.6,
      c.note_cell.ensures ∙ rw (cells-one (cell_at c.args.place h.typefrom h.typeto h.sort h.pathfrom h.pathto c.in_ok-body.body.count)),
    )
