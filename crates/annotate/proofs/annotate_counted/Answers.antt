-- `annotate::annotate_counted` meets its contract.
use Rattle.std.proofs.Common.{◌/◌, length, sym}
use Rattle.annotate.specs.TextLaws.{unfit_sheet, unfit_sheet_none, unfit-length, unfit-length-none, unread_text, unread_none, read_tables, read_text, read_count}
use Rattle.annotate.proofs.annotate_counted.Goals as goal

pub returns-in_default : goal.returns-in_default
returns-in_default c = rw (c.refused.ensures.0, c.refused.ensures.1) (
  unfit_sheet c.args.start.now c.args.text.now (length c.args.cells.now / 7) (length c.args.entries.now / 28) c.args.cells.now
      c.args.cells.now c.args.entries.now c.args.entries.now c.args.out.now c.in_default.field-0.number c.in_default.field-0.place
      (sym c.in_default.ensures),
  unfit_sheet_none c.args.start.now c.args.text.now (length c.args.cells.now / 7) (length c.args.entries.now / 28) c.args.cells.now
      c.args.cells.now c.args.entries.now c.args.entries.now c.args.out.now c.in_default.field-0.number c.in_default.field-0.place
      (sym c.in_default.ensures),
)

pub returns-then-out-start : goal.returns-then-out-start
returns-then-out-start c = rw (c.refused-then-out-start.ensures.0, c.refused-then-out-start.ensures.1) (
  unfit-length c.args.start.now c.args.text.now (length c.args.cells.now / 7) (length c.args.entries.now / 28) c.args.cells.now
      c.args.cells.now c.args.entries.now c.args.entries.now c.args.out.now c.in-Ok.outline.instances c.in-Ok.outline.arcs
      c.in-Ok.outline.first_arc (sym c.in-Ok.ensures) c.if-out-start.true,
  unfit-length-none c.args.start.now c.args.text.now (length c.args.cells.now / 7) (length c.args.entries.now / 28) c.args.cells.now
      c.args.cells.now c.args.entries.now c.args.entries.now c.args.out.now c.in-Ok.outline.instances c.in-Ok.outline.arcs
      c.in-Ok.outline.first_arc (sym c.in-Ok.ensures) c.if-out-start.true,
)

pub returns-in-Err : goal.returns-in-Err
returns-in-Err c = rw (c.refused-in-Err.ensures.0, c.refused-in-Err.ensures.1) (
  unread_text c.args.start.now c.args.text.now (length c.args.cells.now / 7) (length c.args.entries.now / 28) c.args.cells.now
      c.read_file-read.new.cells c.args.entries.now c.read_file-read.new.entries c.args.out.now c.in-Ok.outline.instances c.in-Ok.outline.arcs
      c.in-Ok.outline.first_arc (sym c.in-Ok.ensures) c.if-out-start.false c.read_file-read.result c.read_file-read.ensures
      c.in-Err.refusal c.in-Err.is,
  unread_none c.args.start.now c.args.text.now (length c.args.cells.now / 7) (length c.args.entries.now / 28) c.args.cells.now
      c.read_file-read.new.cells c.args.entries.now c.read_file-read.new.entries c.args.out.now c.in-Ok.outline.instances c.in-Ok.outline.arcs
      c.in-Ok.outline.first_arc (sym c.in-Ok.ensures) c.if-out-start.false c.read_file-read.result c.read_file-read.ensures
      c.in-Err.refusal c.in-Err.is,
)

pub apply_text-answer-requires : goal.apply_text-answer-requires
apply_text-answer-requires c =
    let t = read_tables c.args.start.now c.args.text.now (length c.args.cells.now / 7) (length c.args.entries.now / 28)
    c.args.cells.now c.read_file-read.new.cells c.args.entries.now c.read_file-read.new.entries c.args.out.now c.in-Ok.outline.instances
    c.in-Ok.outline.arcs c.in-Ok.outline.first_arc (sym c.in-Ok.ensures) c.if-out-start.false c.read_file-read.result
    c.read_file-read.ensures c.in-Ok-answer.counts c.in-Ok-answer.is in
    (sym c.in-Ok.ensures, t.5.cells_fit, t.5.entries_fit_of, c.if-out-start.false)

pub returns : goal.returns
returns c = (
  read_text c.args.start.now c.args.text.now (length c.args.cells.now / 7) (length c.args.entries.now / 28) c.args.cells.now
      c.read_file-read.new.cells c.args.entries.now c.read_file-read.new.entries c.args.out.now c.in-Ok.outline.instances c.in-Ok.outline.arcs
      c.in-Ok.outline.first_arc (sym c.in-Ok.ensures) c.if-out-start.false c.read_file-read.result c.read_file-read.ensures
      (λ i. (c.type_inv.start i).fits) c.in-Ok-answer.counts c.in-Ok-answer.is c.apply_text-answer.result
      c.apply_text-answer.new.out c.apply_text-answer.ensures,
  read_count c.args.start.now c.args.text.now (length c.args.cells.now / 7) (length c.args.entries.now / 28) c.args.cells.now
      c.read_file-read.new.cells c.args.entries.now c.read_file-read.new.entries c.args.out.now c.in-Ok.outline.instances c.in-Ok.outline.arcs
      c.in-Ok.outline.first_arc (sym c.in-Ok.ensures) c.if-out-start.false c.read_file-read.result c.read_file-read.ensures
      c.in-Ok-answer.counts c.in-Ok-answer.is,
)
