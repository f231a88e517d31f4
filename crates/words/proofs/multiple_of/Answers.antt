-- `words::multiple_of` meets its contract: by the laws of packed words, whatever the word's length.
use mathlib.Core.Path.{refl, ◌∙◌}
use native.Mathlib.Omega.{arith}
use Rattle.classes.specs.Text.{bytes}
use Rattle.words.specs.Words.{multiples, multiple_of}
use Rattle.words.specs.Packed.{by_code, by_length, unlike, alone, packed}
use Rattle.words.proofs.multiple_of.Goals as goal

pub returns-in-1 : goal.returns-in-1
unfolding multiple_of
returns-in-1 c =
    by_code multiples c.args.word.now 1 _ _ refl c.shared_slice_known-1.given c.in-1.is
    (omega arith) c.packed.ensures (c.only.ensures ∙ alone c.packed.result (packed (bytes "1")) 1)

pub returns-in-2 : goal.returns-in-2
unfolding multiple_of
returns-in-2 c =
    by_code multiples c.args.word.now 2 _ _ refl c.shared_slice_known-1.given c.in-2.is
    (omega arith) c.packed-in-2.ensures (c.only-in-2.ensures ∙ alone c.packed-in-2.result (packed (bytes "10")) 2)

pub returns-in-3 : goal.returns-in-3
unfolding multiple_of
returns-in-3 c =
    by_code multiples c.args.word.now 3 _ _ refl c.shared_slice_known-1.given c.in-3.is
    (omega arith) c.packed-in-3.ensures c.multiple_3.ensures

pub returns-in-4 : goal.returns-in-4
unfolding multiple_of
returns-in-4 c =
    by_code multiples c.args.word.now 4 _ _ refl c.shared_slice_known-1.given c.in-4.is
    (omega arith) c.packed-in-4.ensures (c.only-in-4.ensures ∙ alone c.packed-in-4.result (packed (bytes "10.0")) 2)

pub returns-in-5 : goal.returns-in-5
unfolding multiple_of
returns-in-5 c =
    by_code multiples c.args.word.now 5 _ _ refl c.shared_slice_known-1.given c.in-5.is
    (omega arith) c.packed-in-5.ensures (c.only-in-5.ensures ∙ alone c.packed-in-5.result (packed (bytes "100.0")) 3)

pub returns-in_default : goal.returns-in_default
unfolding multiple_of
returns-in_default c =
    by_length multiples c.args.word.now
    (rw
    (unlike c.in_default.in_default-own.rest.0.0.0.0.1, unlike c.in_default.in_default-own.rest.0.0.0.1, unlike c.in_default.in_default-own.rest.0.0.1, unlike c.in_default.in_default-own.rest.0.1, unlike c.in_default.in_default-own.rest.1))
