-- `times::read_any` meets its contract: the parts that were found read as `Reads` says, and the exponent may be stopped.
use Rattle.std.proofs.Common.{◌≡◌, ◌+◌, ◌-◌, ap, sym, ◌∙◌, arith}
use Rattle.std.proofs.lemmas.List.{take_rest}
use Rattle.times.specs.Reading.{reads, figures-count, figures-small, value-below, value_above, value-wrong}
use Rattle.numbershape.specs.Places.{found_shape}
use Rattle.std.specs.Prelude.{None, is_some}
use Rattle.std.specs.Result.{result_ok}
use Rattle.std.proofs.lemmas.Result.{err_from_is_err_and}
use Rattle.numbershape.specs.declared.NotTime.TheVariants.{Wrong}
use Rattle.times.proofs.read_any.Goals as goal

pub returns-in_err-parts : goal.returns-in_err-parts
returns-in_err-parts c =
    let none : c.find_parts.result ≡ None = grind arith in
    let e = sym (found_shape c.args.signed c.args.word.now) ∙ ap is_some (sym c.find_parts.ensures.parts ∙ none) in
    let w : c.in_err-parts.field-0.0 ≡ Wrong = grind arith in
    let p = err_from_is_err_and c.from_residual.result c.from_residual.ensures.1 in
    rw (p.1, p.2, w) (sym (value-wrong c.args.signed c.args.scale c.args.word.now e))

pub scaled-requires : goal.scaled-requires
scaled-requires c =
    let r = reads c.args.signed c.args.word.now c.in_ok-parts.parts (sym c.find_parts.ensures.parts ∙ c.ok_or.ensures.ok_part ∙ ap result_ok c.in_ok-parts.was) in (
      ap (λ n. c.in_ok-parts.parts.point - c.in_ok-parts.parts.start + n) c.count_fraction-fraction.ensures ∙ sym (figures-count c.args.signed c.args.word.now c.in_ok-parts.parts r),
      figures-small c.args.signed c.args.word.now c.in_ok-parts.parts r,
    )

pub returns-then-parts : goal.returns-then-parts
returns-then-parts c = grind (arith, reads, value-below, take_rest)

pub scaled-requires-2 : goal.scaled-requires-2
scaled-requires-2 c =
    let r = reads c.args.signed c.args.word.now c.in_ok-parts.parts (sym c.find_parts.ensures.parts ∙ c.ok_or.ensures.ok_part ∙ ap result_ok c.in_ok-parts.was) in (
      ap (λ n. c.in_ok-parts.parts.point - c.in_ok-parts.parts.start + n) c.count_fraction-fraction.ensures ∙ sym (figures-count c.args.signed c.args.word.now c.in_ok-parts.parts r),
      figures-small c.args.signed c.args.word.now c.in_ok-parts.parts r,
    )

pub returns : goal.returns
returns c = grind (arith, reads, value_above, take_rest)
