-- `cells::read_keyword` meets its contract: each way through it has its rule.
use Rattle.std.proofs.Common.{◌+◌, refl, sym, ◌∙◌, inl, inr, arith, ne_eqb, eq-eqb}
use Rattle.std.proofs.lemmas.Result.{err_from_is_err_and}
use Rattle.tokens.specs.Stream.{onwards}
use Rattle.rules.specs.Bodies.{either_stops, either_kind, either_word, either_long, either_first, either_second}
use Rattle.cells.proofs.read_keyword.Goals as goal
use Rattle.cells.proofs.read_keyword.Goals.{else-key-first-via-then-key-first+else-key-first-2, else-key-first-via-else-key-first}

pub returns-in_err-token : goal.returns-in_err-token
returns-in_err-token c =
    let p = err_from_is_err_and c.from_residual.result c.from_residual.ensures.1 in
    let why = c.in_err-token.field-0.0 in
    rw (p.1, p.2) (either_stops c.args.text.now c.args.from why.number why.place c.args.first c.requires.0 (sym c.in_err-token.ensures))

pub slice_bounds-word-count : goal.slice_bounds-word-count
slice_bounds-word-count c =
    let t = c.in_ok-token.token in
    let g = onwards c.args.text.now c.args.from t.kind t.start t.end t.long c.requires.0 (sym c.in_ok-token.ensures) in omega arith

pub slice_bounds-word-start : goal.slice_bounds-word-start
slice_bounds-word-start c =
    let t = c.in_ok-token.token in
    let g = onwards c.args.text.now c.args.from t.kind t.start t.end t.long c.requires.0 (sym c.in_ok-token.ensures) in omega arith

pub slice_bounds-word-end : goal.slice_bounds-word-end
slice_bounds-word-end c =
    let t = c.in_ok-token.token in
    (onwards c.args.text.now c.args.from t.kind t.start t.end t.long c.requires.0 (sym c.in_ok-token.ensures)).2

pub returns-then-token-ne7 : goal.returns-then-token-ne7
returns-then-token-ne7 c =
    let t = c.in_ok-token.token in
    either_kind c.args.text.now c.args.from t.kind t.start t.end t.long c.requires.0 (sym c.in_ok-token.ensures) c.args.first _ c.wrong_at-number.ensures c.if-token-ne7.true

pub returns-then-key-first-2 : goal.returns-then-key-first-2
returns-then-key-first-2 c =
    let t = c.in_ok-token.token in
    either_word c.args.text.now c.args.from t.kind t.start t.end t.long c.requires.0 (sym c.in_ok-token.ensures) c.args.first c.if-token-ne7.false
    _ c.wrong_at-number-then-key-first-2.ensures (λ z. c.if-key-first.true (c.key_of-key.ensures ∙ z)) (λ z. c.if-key-first-2.true (c.key_of-key.ensures ∙ z))

pub returns-then-token : goal.returns-then-token
returns-then-token c =
    let t = c.in_ok-token.token in
    elim c.else-key-first.branch [
      | else-key-first-via-then-key-first+else-key-first-2 w ↦ either_long c.args.text.now c.args.from t.kind t.start t.end t.long c.requires.0 (sym c.in_ok-token.ensures) c.args.first
          c.if-token-ne7.false (c.args.first + 1) (inr refl) (sym c.key_of-key.ensures ∙ w.if-key-first-2.false) c.if-token.true
      | else-key-first-via-else-key-first w ↦ either_long c.args.text.now c.args.from t.kind t.start t.end t.long c.requires.0 (sym c.in_ok-token.ensures) c.args.first
          c.if-token-ne7.false c.args.first (inl refl) (sym c.key_of-key.ensures ∙ w.if-key-first.false) c.if-token.true
    ]

pub returns : goal.returns
returns c =
    let t = c.in_ok-token.token in
    elim c.else-key-first.branch [
      | else-key-first-via-then-key-first+else-key-first-2 w ↦ rw (ne_eqb c.key_of-key.result c.args.first w.if-key-first.true)
          (either_second c.args.text.now c.args.from t.kind t.start t.end t.long c.requires.0 (sym c.in_ok-token.ensures) c.args.first
          c.if-token-ne7.false (sym c.key_of-key.ensures ∙ w.if-key-first-2.false) c.if-token.false)
      | else-key-first-via-else-key-first w ↦ rw (eq-eqb c.key_of-key.result c.args.first w.if-key-first.false)
          (either_first c.args.text.now c.args.from t.kind t.start t.end t.long c.requires.0 (sym c.in_ok-token.ensures) c.args.first
          c.if-token-ne7.false (sym c.key_of-key.ensures ∙ w.if-key-first.false) c.if-token.false)
    ]
