-- `header::read_header` meets its contract: step by step.
use Rattle.std.proofs.Common.{refl, [], rules}
use Rattle.std.proofs.lemmas.Result.{err_from_is_err_and}
use Rattle.headsteps.specs.Header.{header_unscaled, header_read}
use Rattle.header.proofs.read_header.Goals as goal

pub pass_text-process-requires : goal.pass_text-process-requires
pass_text-process-requires c =
    ((c.pass_bare-voltage.ensures []).1, λ d. refl, search rules, search rules)

pub pass_scale-requires : goal.pass_scale-requires
pass_scale-requires c =
    (c.pass_bare-temperature.ensures []).1

pub returns-in_err-scaled : goal.returns-in_err-scaled
returns-in_err-scaled c =
    let p = err_from_is_err_and c.from_residual-in_err-scaled.result c.from_residual-in_err-scaled.ensures.1 in
    rw (p.1, p.2) (
      header_unscaled c.args.text.now _ _ _ _ _ _ _ c.open_file-opened.result c.pass_text-design.result c.pass_text-date.result c.pass_text-vendor.result c.pass_text-program.result c.pass_text-version.result
          c.open_file-opened.ensures c.pass_text-design.ensures c.pass_text-date.ensures c.pass_text-vendor.ensures c.pass_text-program.ensures c.pass_text-version.ensures _ c.in_ok-divided.divided c.pass_bare-voltage.result c.pass_text-process.result c.pass_bare-temperature.result c.in_ok-divided.ensures c.pass_bare-voltage.ensures c.pass_text-process.ensures c.pass_bare-temperature.ensures _ _ c.in_err-scaled.ensures,
      tt,
    )

pub returns : goal.returns
returns c = (
  header_read c.args.text.now _ _ _ _ _ _ _ c.open_file-opened.result c.pass_text-design.result c.pass_text-date.result c.pass_text-vendor.result c.pass_text-program.result c.pass_text-version.result
      c.open_file-opened.ensures c.pass_text-design.ensures c.pass_text-date.ensures c.pass_text-vendor.ensures c.pass_text-program.ensures c.pass_text-version.ensures _ c.in_ok-divided.divided c.pass_bare-voltage.result c.pass_text-process.result c.pass_bare-temperature.result c.in_ok-divided.ensures c.pass_bare-voltage.ensures c.pass_text-process.ensures c.pass_bare-temperature.ensures c.in_ok-scaled.scaled c.in_ok-scaled.ensures,
  c.in_ok-scaled.scaled.most,
)
