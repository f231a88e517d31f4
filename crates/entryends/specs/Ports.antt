-- Where a port's name is expected: what the judgement of a name says of the reading.
-- Assumes nothing.
use Rattle.std.specs.Prelude.{◌≡◌, Bool, true, List, ℕ, Result}
use Rattle.tokenforms.specs.declared.Refusal.{Refusal}
use Rattle.tokens.specs.Stream.{placed}
use Rattle.nametokens.specs.Shaped.{shape_of, name_fault}
use Rattle.nametokens.specs.declared.Shaped.{Shaped}
use Rattle.rules.specs.Promises.{PortHere}
use Rattle.rules.specs.Rules.{port-judged}

pub port_told : (s : List ℕ) (slash : Bool) (v : Shaped) (r : Result (Unit {0}) Refusal) → v.state ≡ shape_of slash s v.token → r ≡ name_fault true v →
    PortHere (placed s v.token.kind v.token.start v.token.end v.token.long) slash r
port_told s slash v r f e = let t = v.token in rw e (port-judged s slash t.kind t.start t.end t.long v.state f)
