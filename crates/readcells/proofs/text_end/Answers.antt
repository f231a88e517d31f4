-- `readcells::text_end` meets its contract: each way through it has its rule.
use Rattle.std.proofs.Common.{sym, ◌∙◌}
use Rattle.readcells.specs.Whole.{end_here, end_more, end_stops}
use Rattle.readcells.proofs.text_end.Goals as goal

pub returns-then-refusal-eq4 : goal.returns-then-refusal-eq4
returns-then-refusal-eq4 c =
    let why = c.in-Err.refusal in
    end_here c.args.text.now c.args.from why.number why.place c.requires (sym c.token_from.ensures ∙ c.in-Err.is) c.if-refusal-eq4.true

pub returns-in-Ok : goal.returns-in-Ok
returns-in-Ok c =
    let t = c.in-Ok.token in
    end_more c.args.text.now c.args.from t.kind t.start t.end t.long c.requires (sym c.token_from.ensures ∙ c.in-Ok.is)

pub returns-else-refusal-eq4 : goal.returns-else-refusal-eq4
returns-else-refusal-eq4 c =
    let why = c.in-Err.refusal in
    end_stops c.args.text.now c.args.from why.number why.place c.requires (sym c.token_from.ensures ∙ c.in-Err.is) c.if-refusal-eq4.false
