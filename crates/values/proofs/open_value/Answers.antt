-- `values::open_value` meets its contract.
use Rattle.rules.specs.Rules.{opens_then}
use Rattle.values.proofs.open_value.Goals as goal

pub returns : goal.returns
returns c = opens_then c.args.text.now c.args.from c.in_ok-inside.inside c.args.signed c.args.unit c.read_value.result c.in_ok-inside.ensures c.read_value.ensures
