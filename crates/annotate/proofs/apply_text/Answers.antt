-- `annotate::apply_text` meets its contract.
use mathlib.Core.Path.{sym, ◌∙◌, ap}
use lib.ListN.{length}
use borrow.Author.Rules.{rules}
use Rattle.meaning.specs.Find.{sheet_good, arcs_ready, instances_ready}
use Rattle.annotate.specs.TextLaws.{text-done, text-stop}
use Rattle.annotate.proofs.apply_text.Goals as goal

pub mark_instances-requires : goal.mark_instances-requires
mark_instances-requires c =
    let s = sheet_good c.args.start.now c.args.plan.instances c.args.plan.arcs c.args.plan.first c.requires.0 in
    (s.instances, s.short)

pub mark_arcs-requires : goal.mark_arcs-requires
mark_arcs-requires c =
    let s = sheet_good c.args.start.now c.args.plan.instances c.args.plan.arcs c.args.plan.first c.requires.0 in
    (s.arcs, s.short)

pub index_types-requires : goal.index_types-requires
index_types-requires c =
    let s = sheet_good c.args.start.now c.args.plan.instances c.args.plan.arcs c.args.plan.first c.requires.0 in
    (s.instances, s.short, search rules)

pub index_ends-requires : goal.index_ends-requires
index_ends-requires c =
    let s = sheet_good c.args.start.now c.args.plan.instances c.args.plan.arcs c.args.plan.first c.requires.0 in
    (s.arcs, s.short, search rules)

pub apply_cells-went-requires : goal.apply_cells-went-requires
apply_cells-went-requires c =
    let s = sheet_good c.args.start.now c.args.plan.instances c.args.plan.arcs c.args.plan.first c.requires.0 in (
      record {
        instances = s.instances;
        search = rw c.mark_arcs.ensures (arcs_ready c.args.start.now c.args.plan.instances c.args.plan.arcs
            c.args.plan.first _ s (search rules));
        long = ap length c.copy_from_slice.ensures.after;
      },
      rw c.mark_instances.ensures
          (instances_ready c.args.start.now c.args.plan.instances c.args.plan.arcs c.args.plan.first _ s (search rules)),
      c.requires.1,
      c.requires.2,
      c.index_types.ensures,
      c.index_ends.ensures,
    )

pub copy_from_slice-requires-then-is_refusal : goal.copy_from_slice-requires-then-is_refusal
copy_from_slice-requires-then-is_refusal c =
    c.apply_cells-went.ensures.0 ∙ ap length c.copy_from_slice.ensures.after

pub returns-then-is_refusal : goal.returns-then-is_refusal
returns-then-is_refusal c =
    λ y. rw c.copy_from_slice-then-is_refusal.ensures.after (text-stop c.args.start.now y c.args.plan.instances c.args.plan.arcs c.args.plan.first c.requires.0
    c.args.read.text.now c.args.plan.slash c.args.read.cells.now c.args.count c.args.read.entries.now c.apply_cells-went.new.out
    c.apply_cells-went.result (sym c.is_refusal.ensures ∙ c.if-is_refusal.true) (rw c.copy_from_slice.ensures.after at c.apply_cells-went.ensures.1) y)

pub returns-else-is_refusal : goal.returns-else-is_refusal
returns-else-is_refusal c =
    λ y. text-done c.args.start.now y c.args.plan.instances c.args.plan.arcs c.args.plan.first c.requires.0 c.args.read.text.now
    c.args.plan.slash c.args.read.cells.now c.args.count c.args.read.entries.now c.apply_cells-went.new.out c.apply_cells-went.result
    (sym c.is_refusal.ensures ∙ c.if-is_refusal.false) (rw c.copy_from_slice.ensures.after at c.apply_cells-went.ensures.1) y
