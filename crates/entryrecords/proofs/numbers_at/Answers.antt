-- `entryrecords::numbers_at` meets its contract.
use Rattle.std.proofs.Common.{◌≡◌, List, [], ◌∷◌, ℕ, zero, suc, ◌+◌, ◌-◌, ◌≤◌, length, take, drop, get_or, refl, sym, ◌∙◌, ap, rules, arith, drop-cons}
use Rattle.entryrecords.specs.Entries.{numbers_at}
use Rattle.entryrecords.proofs.numbers_at.Goals as goal

-- n words from place p + k on, one by one
words_from : List ℕ → ℕ → ℕ → ℕ → List ℕ
words_from t p k zero = []
words_from t p k (suc n) = get_or t (p + k) 0 ∷ words_from t p (suc k) n

words_are : (t : List ℕ) (p k n : ℕ) → p + k + n ≤ length t → take n (drop (p + k) t) ≡ words_from t p k n
unfolding words_from
words_are t p k zero h = refl
words_are t p k (suc n) h =
    let e : suc (p + k) ≡ p + suc k = omega arith in
    rw (drop-cons t (p + k) 0 (omega arith), e) (ap (λ (l : List ℕ). get_or t (p + k) 0 ∷ l) (words_are t p (suc k) n (omega arith)))

pub returns : goal.returns
unfolding numbers_at words_from
returns c =
    let z : c.args.at + 0 ≡ c.args.at = omega arith in
    let n : c.args.at + 18 - c.args.at ≡ 18 = omega arith in
    c.copy_from_slice.ensures.after ∙ rw n (rw z at (words_are c.args.table.now c.args.at 0 18 (omega arith)))
