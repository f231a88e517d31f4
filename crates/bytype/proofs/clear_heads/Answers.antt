-- `bytype::clear_heads` meets its contract.
use Rattle.std.proofs.Common.{ℕ, List, ◌++◌, ◌<◌, ◌≡◌, length, take, drop, replicate, get_or, ◌∙◌, ap, arith, length-append, length-take, length-drop}
use Rattle.std.proofs.lemmas.List.{get_or-replicate, get_or_append_left, length-replicate}
use Rattle.bytype.proofs.clear_heads.Goals as goal

-- the first n elements are v, and the rest stands behind them
filled : (n v : ℕ) (t s : List ℕ) → n < length t → s ≡ replicate (length (take n t)) v
    → (length (s ++ drop n t) ≡ length t) × ((i : ℕ) → i < n → get_or (s ++ drop n t) i 0 ≡ v)
filled n v t s h e =
    let k : length (take n t) ≡ n = length-take n t ∙ omega arith in
    let l : length s ≡ n = ap length e ∙ length-replicate (length (take n t)) v ∙ k in (
      length-append s (drop n t) ∙ rw (l, length-drop n t) (omega arith),
      λ i g. get_or_append_left s (drop n t) 0 i (rw l g) ∙ rw (e, k) (get_or-replicate n i v 0 g),
    )

pub returns : goal.returns
returns c =
    let f = filled 4096 c.args.count c.args.index.now c.fill.new.self (omega arith) (c.fill.ensures.after (λ y q. q)) in
    (f.0 ∙ c.requires.1, f.1)
