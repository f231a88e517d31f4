-- `nameshape::is_text` meets its contract.
use Rattle.std.proofs.Common.{◌≡◌, drop}
use Rattle.nameshape.specs.Shape.{is_text, text_from}
use Rattle.nameshape.proofs.is_text.Given as goal

abbrev pub invariant-loop-byte : goal.invariant-loop-byte
invariant-loop-byte l = text_from l.escaped (drop l.byte-index l.text) ≡ is_text l.text
