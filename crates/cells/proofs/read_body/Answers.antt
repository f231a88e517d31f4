-- `cells::read_body` meets its contract: these entries have been read, and their rows written where the table is filled.
use Rattle.std.proofs.Common.{Ok, ◌+◌, ◌-◌, refl, sym, ◌∙◌, ap, [], ◌∷◌, ◌++◌, arith, take, length-append}
use Rattle.std.proofs.lemmas.Result.{err_from_is_err_and}
use Rattle.grammar.specs.declared.Turn.TheVariants as turn
use Rattle.grammar.specs.Meaning.{no_head}
use Rattle.rules.specs.Promises.{Listable, item}
use Rattle.rules.specs.Bodies.{Turned, item_place}
use Rattle.cells.specs.Cells.{along-start, along_on, along-done, along-not, along_bad, along-entry, filled_none, filled_on}
use Rattle.cells.proofs.read_body.Goals as goal

pub loop-end-init : goal.loop-end-init
loop-end-init c =
    ([], refl, omega arith, c.requires.0, along-start c.args.text.now c.args.from c.args.slash c.args.unit c.args.room, omega arith, sym (filled_none c.args.fill c.args.entries.now c.args.row), refl)

pub body_turn-requires : goal.body_turn-requires
body_turn-requires c = c.loop-end.invariant.3

pub returns-in_err-end : goal.returns-in_err-end
returns-in_err-end c =
    let p = err_from_is_err_and c.from_residual.result c.from_residual.ensures.1 in
    let why = c.in_err-end.field-0.0 in
    rw (p.1, p.2)
    (along-not c.args.text.now c.args.from c.args.slash c.args.unit c.args.room c.loop-end.p c.loop-end.n c.loop-end.within c.loop-end.some c.loop-end.invariant.0 c.loop-end.invariant.4 why.number why.place (c.in_err-end.ensures c.args.slash), λ f. c.loop-end.invariant.6 ∙ rw f)

pub returns-in-Done : goal.returns-in-Done
returns-in-Done c =
    let u : Turned c.args.text.now c.loop-end.p c.loop-end.within c.loop-end.some c.args.slash (Ok (turn.Done c.in-Done.end)) = rw c.in-Done.is at (c.in_ok-end.ensures c.args.slash) in (
      c.loop-end.invariant.0,
      c.loop-end.invariant.1,
      along-done c.args.text.now c.args.from c.args.slash c.args.unit c.args.room c.loop-end.p c.loop-end.n c.loop-end.within c.loop-end.some c.loop-end.invariant.0 c.loop-end.invariant.4 c.in-Done.end u,
      c.loop-end.invariant.2,
      omega (arith, u.1.0, c.loop-end.invariant.5),
      u.1.1,
      c.loop-end.invariant.6,
    )

pub loop-end-smaller-in-On : goal.loop-end-smaller-in-On
loop-end-smaller-in-On c =
    let u : Turned c.args.text.now c.loop-end.p c.loop-end.within c.loop-end.some c.args.slash (Ok (turn.On c.in-On.w c.in-On.f c.in-On.q)) = rw c.in-On.is at (c.in_ok-end.ensures c.args.slash) in
    omega (arith, u.1.0, u.1.1)

pub loop-end-preserved-in-On : goal.loop-end-preserved-in-On
loop-end-preserved-in-On c =
    let u : Turned c.args.text.now c.loop-end.p c.loop-end.within c.loop-end.some c.args.slash (Ok (turn.On c.in-On.w c.in-On.f c.in-On.q)) = rw c.in-On.is at (c.in_ok-end.ensures c.args.slash) in (
      c.loop-end.invariant.0,
      c.loop-end.invariant.1,
      c.loop-end.invariant.2,
      u.1.1,
      along_on c.args.text.now c.args.from c.args.slash c.args.unit c.args.room c.loop-end.p c.loop-end.n c.loop-end.within c.loop-end.some c.loop-end.invariant.0 c.loop-end.invariant.4 c.in-On.w c.in-On.f c.in-On.q u,
      omega (arith, u.1.0, c.loop-end.invariant.5),
      c.loop-end.invariant.6,
      c.loop-end.invariant.7,
    )

pub overflow_sub-room : goal.overflow_sub-room
overflow_sub-room c = c.loop-end.invariant.2

pub read_entry-requires : goal.read_entry-requires
read_entry-requires c =
    let u : Turned c.args.text.now c.loop-end.p c.loop-end.within c.loop-end.some c.args.slash (Ok (turn.Entry c.in-Entry.q)) = rw c.in-Entry.is at (c.in_ok-end.ensures c.args.slash) in
    u.1.1

pub returns-in_err-entry-in-Entry : goal.returns-in_err-entry-in-Entry
returns-in_err-entry-in-Entry c =
    let u : Turned c.args.text.now c.loop-end.p c.loop-end.within c.loop-end.some c.args.slash (Ok (turn.Entry c.in-Entry.q)) = rw c.in-Entry.is at (c.in_ok-end.ensures c.args.slash) in
    let p = err_from_is_err_and c.from_residual-in_err-entry-in-Entry.result c.from_residual-in_err-entry-in-Entry.ensures.1 in
    let why = c.in_err-entry-in-Entry.field-0.0 in
    rw (p.1, p.2)
    (along_bad c.args.text.now c.args.from c.args.slash c.args.unit c.args.room c.loop-end.p c.loop-end.n c.loop-end.within c.loop-end.some c.loop-end.invariant.0 c.loop-end.invariant.4 c.in-Entry.q u why.number why.place no_head [] c.in_err-entry-in-Entry.ensures, λ f. c.loop-end.invariant.6 ∙ rw f)

pub loop-end-smaller : goal.loop-end-smaller
loop-end-smaller c =
    let u : Turned c.args.text.now c.loop-end.p c.loop-end.within c.loop-end.some c.args.slash (Ok (turn.Entry c.in-Entry.q)) = rw c.in-Entry.is at (c.in_ok-end.ensures c.args.slash) in
    let e = c.in_ok-entry-in-Entry.entry in
    let l : Listable c.args.text.now c.in-Entry.q (item_place c.loop-end.within c.args.slash) c.args.slash c.args.unit (c.args.room - c.loop-end.n) (Ok e.values.end) e.entry (take e.values.count e.values.list) = c.in_ok-entry-in-Entry.ensures in
    omega (arith, u.1.0, l.1, l.2)

pub loop-end-preserved : goal.loop-end-preserved
loop-end-preserved c =
    let u : Turned c.args.text.now c.loop-end.p c.loop-end.within c.loop-end.some c.args.slash (Ok (turn.Entry c.in-Entry.q)) = rw c.in-Entry.is at (c.in_ok-end.ensures c.args.slash) in
    let e = c.in_ok-entry-in-Entry.entry in
    let l : Listable c.args.text.now c.in-Entry.q (item_place c.loop-end.within c.args.slash) c.args.slash c.args.unit (c.args.room - c.loop-end.n) (Ok e.values.end) e.entry (take e.values.count e.values.list) = c.in_ok-entry-in-Entry.ensures in
    let i = item e.entry (take e.values.count e.values.list) in (
      c.loop-end.invariant.0 ++ i ∷ [],
      length-append c.loop-end.invariant.0 (i ∷ []) ∙ ap (λ z. z + 1) c.loop-end.invariant.1,
      omega (arith, l.3, c.loop-end.invariant.2),
      l.2,
      along-entry c.args.text.now c.args.from c.args.slash c.args.unit c.args.room c.loop-end.p c.loop-end.n c.loop-end.within c.loop-end.some c.loop-end.invariant.0 c.loop-end.invariant.4 c.in-Entry.q u e.values.end e.entry (take e.values.count e.values.list) l,
      omega (arith, u.1.0, l.1, c.loop-end.invariant.5),
      c.note_entry.ensures ∙ rw c.loop-end.invariant.6 (filled_on c.args.fill c.args.entries.now c.args.row c.loop-end.n c.loop-end.invariant.0 i c.loop-end.invariant.1 (omega (arith, l.3, c.loop-end.invariant.2, c.requires.1))),
      c.note_entry.auto.entries ∙ c.loop-end.invariant.7,
    )
