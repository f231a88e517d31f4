-- `tables::put_words` meets its contract.
use Rattle.std.proofs.Common.{◌+◌, ◌-◌, length, refl, arith}
use Rattle.std.proofs.lemmas.Slice.{put_mid-paste}
use Rattle.tables.proofs.put_words.Goals as goal

pub returns : goal.returns
returns c =
    put_mid-paste c.args.place (c.args.place + length c.args.words.now - c.args.place) c.args.table.now c.copy_from_slice.new.self c.args.words.now (length c.args.words.now)
    c.copy_from_slice.ensures.after (omega arith) refl
