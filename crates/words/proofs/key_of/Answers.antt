-- `words::key_of` meets its contract: by the laws of packed words, whatever the word's length.
use mathlib.Core.Path.{refl}
use native.Mathlib.Omega.{arith}
use Rattle.words.specs.Words.{keywords, key_of}
use Rattle.words.specs.Packed.{by_code, by_codes, by_length, unlike}
use Rattle.words.proofs.key_of.Goals as goal

pub returns-in-4 : goal.returns-in-4
unfolding key_of
returns-in-4 c =
    by_code keywords c.args.word.now 4 _ _ refl c.shared_slice_known-1.given c.in-4.is
    (omega arith) c.packed.ensures c.key_4.ensures

pub returns-in-5 : goal.returns-in-5
unfolding key_of
returns-in-5 c =
    by_code keywords c.args.word.now 5 _ _ refl c.shared_slice_known-1.given c.in-5.is
    (omega arith) c.packed-in-5.ensures c.key_5.ensures

pub returns-in-6 : goal.returns-in-6
unfolding key_of
returns-in-6 c =
    by_code keywords c.args.word.now 6 _ _ refl c.shared_slice_known-1.given c.in-6.is
    (omega arith) c.packed-in-6.ensures c.key_6.ensures

pub returns-in-7 : goal.returns-in-7
unfolding key_of
returns-in-7 c =
    by_code keywords c.args.word.now 7 _ _ refl c.shared_slice_known-1.given c.in-7.is
    (omega arith) c.packed-in-7.ensures c.key_7.ensures

pub returns-in-8 : goal.returns-in-8
unfolding key_of
returns-in-8 c =
    by_code keywords c.args.word.now 8 _ _ refl c.shared_slice_known-1.given c.in-8.is
    (omega arith) c.packed-in-8.ensures c.key_8.ensures

pub returns-in-9 : goal.returns-in-9
unfolding key_of
returns-in-9 c =
    by_codes keywords c.args.word.now 9 _ _ _ refl c.shared_slice_known-1.given c.in-9.is
    c.first_eight.ensures c.rest.ensures c.key_9.ensures

pub returns-in-10 : goal.returns-in-10
unfolding key_of
returns-in-10 c =
    by_codes keywords c.args.word.now 10 _ _ _ refl c.shared_slice_known-1.given c.in-10.is
    c.first_eight-in-10.ensures c.rest-in-10.ensures c.key_10.ensures

pub returns-in-11 : goal.returns-in-11
unfolding key_of
returns-in-11 c =
    by_codes keywords c.args.word.now 11 _ _ _ refl c.shared_slice_known-1.given c.in-11.is
    c.first_eight-in-11.ensures c.rest-in-11.ensures c.key_11.ensures

pub returns-in-12 : goal.returns-in-12
unfolding key_of
returns-in-12 c =
    by_codes keywords c.args.word.now 12 _ _ _ refl c.shared_slice_known-1.given c.in-12.is
    c.first_eight-in-12.ensures c.rest-in-12.ensures c.key_12.ensures

pub returns-in-16 : goal.returns-in-16
unfolding key_of
returns-in-16 c =
    by_codes keywords c.args.word.now 16 _ _ _ refl c.shared_slice_known-1.given c.in-16.is
    c.first_eight-in-16.ensures c.rest-in-16.ensures c.key_16.ensures

pub returns-in_default : goal.returns-in_default
unfolding key_of
returns-in_default c =
    by_length keywords c.args.word.now
    (rw (
      unlike c.in_default.in_default-own.rest.0.0.0.0.0.0.0.0.0.1,
      unlike c.in_default.in_default-own.rest.0.0.0.0.0.0.0.0.1,
      unlike c.in_default.in_default-own.rest.0.0.0.0.0.0.0.1,
      unlike c.in_default.in_default-own.rest.0.0.0.0.0.0.1,
      unlike c.in_default.in_default-own.rest.0.0.0.0.0.1,
      unlike c.in_default.in_default-own.rest.0.0.0.0.1,
      unlike c.in_default.in_default-own.rest.0.0.0.1,
      unlike c.in_default.in_default-own.rest.0.0.1,
      unlike c.in_default.in_default-own.rest.0.1,
      unlike c.in_default.in_default-own.rest.1,
    ))
