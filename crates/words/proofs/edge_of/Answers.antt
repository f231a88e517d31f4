-- `words::edge_of` meets its contract: by the laws of packed words, whatever the word's length.
use mathlib.Core.Path.{refl}
use native.Mathlib.Omega.{arith}
use Rattle.words.specs.Words.{edges, edge_of}
use Rattle.words.specs.Packed.{by_code, by_length, unlike}
use Rattle.words.proofs.edge_of.Goals as goal

pub returns-in-2 : goal.returns-in-2
unfolding edge_of
returns-in-2 c =
    by_code edges c.args.word.now 2 _ _ refl c.shared_slice_known-1.given c.in-2.is
    (omega arith) c.packed.ensures c.edge_2.ensures

pub returns-in-7 : goal.returns-in-7
unfolding edge_of
returns-in-7 c =
    by_code edges c.args.word.now 7 _ _ refl c.shared_slice_known-1.given c.in-7.is
    (omega arith) c.packed-in-7.ensures c.edge_7.ensures

pub returns-in_default : goal.returns-in_default
unfolding edge_of
returns-in_default c =
    by_length edges c.args.word.now
    (rw
    (unlike c.in_default.in_default-own.rest.0.1, unlike c.in_default.in_default-own.rest.1))
