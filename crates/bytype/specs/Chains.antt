-- An index of n things by bucket, in a table: at h, below 4,096, stands the number of the first thing in bucket h, and at a place of its own for each
-- thing the number of the next one in its bucket. Where there is none stands n.
-- Assumes nothing.
use Rattle.std.specs.Prelude.{ℕ, zero, suc, ◌+◌, ◌-◌, ◌≤◌, ◌<◌, ◌≡◌, refl, Bool, true, false, List, eqb, length, get_or, set}
use Rattle.std.proofs.Common.{sym, ◌∙◌, subst, arith, add-one, length-set, get_or-set_same, get_or-set_other, eqb-true, eq-eqb, ne_eqb}
use Rattle.std.proofs.lemmas.Bool.{eqb-false}

-- r is the first number from k on and below n that passes the test, or n
pub record First (test : ℕ → Bool) (k n r : ℕ) : Type 0 where
  pub from : k ≤ r
  pub to : r ≤ n
  pub none : (i : ℕ) → k ≤ i → i < r → test i ≡ false
  pub hits : r < n → test r ≡ true

-- there is none behind the last; k itself where it passes; and k may be left out where it does not
first_end : (test : ℕ → Bool) (n : ℕ) → First test n n n
first_end test n = record { from = omega arith; to = omega arith; none = λ i h g. absurd (omega arith); hits = λ h. absurd (omega arith) }

first-here : (test : ℕ → Bool) (k n : ℕ) → k < n → test k ≡ true → First test k n k
first-here test k n h t = record { from = omega arith; to = omega arith; none = λ i h g. absurd (omega arith); hits = λ h. t }

above : (i k : ℕ) → k ≤ i → (i ≡ k → ⊥) → suc k ≤ i
above i k h d = omega arith

first_below : (test : ℕ → Bool) (k n r : ℕ) → test k ≡ false → First test (suc k) n r → First test k n r
first_below test k n r t f =
    record { from = let l = f.from in omega arith; to = f.to; none = λ i h g. by i (eqb i k) refl h g; hits = f.hits }
  where
    by : (i : ℕ) (u : Bool) → eqb i k ≡ u → k ≤ i → i < r → test i ≡ false
    by i true e h g = rw (eqb-true i k e) t
    by i false e h g = f.none i (above i k h (eqb-false i k e)) g

-- the table holds the first k values, each at its own place
abbrev pub Noted : (ℕ → ℕ) → (ℕ → ℕ) → ℕ → List ℕ → Type 0
Noted at value k t = (i : ℕ) → i < k → get_or t (at i) 0 ≡ value i

-- and one more
pub noted_more : (at value : ℕ → ℕ) → ((i j : ℕ) → at i ≡ at j → i ≡ j) → (k : ℕ) (t : List ℕ) (q : ℕ) → at k < length t → q ≡ value k
    → Noted at value k t → Noted at value (k + 1) (set t (at k) q)
noted_more at value apart k t q l e s i h = by (eqb i k) refl
  where
    by : (u : Bool) → eqb i k ≡ u → get_or (set t (at k) q) (at i) 0 ≡ value i
    by true z = rw (eqb-true i k z) (get_or-set_same t (at k) q 0 l ∙ e)
    by false z =
        let d = eqb-false i k z in
        get_or-set_other t (at k) (at i) q 0 (λ g. d (apart i k g)) ∙ s i (less i k h d)
      where
        less : (i k : ℕ) → i < k + 1 → (i ≡ k → ⊥) → i < k
        less i k h d = omega arith

abbrev pub head_place : ℕ → ℕ
head_place h = h

pub heads-apart : (i j : ℕ) → head_place i ≡ head_place j → i ≡ j
heads-apart i j e = e

-- `at` is where a thing's next one stands
module _ (at bucket : ℕ → ℕ) (n : ℕ) where
  abbrev pub in_bucket : ℕ → ℕ → Bool
  in_bucket h i = eqb (bucket i) h

  -- the index of the things from number k on
  pub record Chained (k : ℕ) (t : List ℕ) : Type 0 where
    pub head : (h : ℕ) → h < 4096 → First (in_bucket h) k n (get_or t h 0)
    pub link : (i : ℕ) → k ≤ i → i < n → First (in_bucket (bucket i)) (suc i) n (get_or t (at i) 0)

  -- none behind the last, with n at every head
  pub chained_none : (t : List ℕ) → Noted head_place (λ h. n) 4096 t → Chained n t
  chained_none t e = record { head = λ h l. rw (e h l) (first_end (in_bucket h) n); link = λ i h g. absurd (omega arith) }

  -- what is written elsewhere changes nothing
  pub chained_kept : (k j v : ℕ) (t : List ℕ) → 4096 ≤ j → ((i : ℕ) → i < n → at i ≡ j → ⊥) → Chained k t → Chained k (set t j v)
  chained_kept k j v t far off c =
      record {
        head = λ h l. rw (get_or-set_other t j h v 0 (λ q. omega arith)) (c.head h l);
        link = λ i h g. rw (get_or-set_other t j (at i) v 0 (off i g)) (c.link i h g);
      }

  -- one thing more: what was first in its bucket comes next behind it, and it is the first
  module _ (far : (i : ℕ) → 4096 ≤ at i) (apart : (i j : ℕ) → at i ≡ at j → i ≡ j) (k : ℕ) (t : List ℕ) (h : ℕ) (l : h < 4096) (long : at k < length t) where
    abbrev put : List ℕ
    put = set (set t (at k) (get_or t h 0)) h k

    -- what stands elsewhere stays
    pub put-stays : (j : ℕ) → (j ≡ h → ⊥) → (j ≡ at k → ⊥) → get_or put j 0 ≡ get_or t j 0
    put-stays j d g = get_or-set_other (set t (at k) (get_or t h 0)) h j k 0 d ∙ get_or-set_other t (at k) j (get_or t h 0) 0 g

    put_link : get_or put (at k) 0 ≡ get_or t h 0
    put_link =
        get_or-set_other (set t (at k) (get_or t h 0)) h (at k) k 0 (λ q. let f = far k in omega arith)
        ∙ get_or-set_same t (at k) (get_or t h 0) 0 long

    put_head : get_or put h 0 ≡ k
    put_head =
        let f = far k in
        get_or-set_same (set t (at k) (get_or t h 0)) h k 0 (rw (length-set t (at k) (get_or t h 0)) (omega arith))

    module _ (c : Chained (suc k) t) (m : k < n) (e : h ≡ bucket k) where
      heads : (j : ℕ) → j < 4096 → First (in_bucket j) k n (get_or put j 0)
      heads j g = by (eqb j h) refl
        where
          by : (u : Bool) → eqb j h ≡ u → First (in_bucket j) k n (get_or put j 0)
          by true z = rw (eqb-true j h z, put_head) (first-here (in_bucket h) k n m (eq-eqb (bucket k) h (sym e)))
          by false z =
              let d = eqb-false j h z in
              rw (put-stays j d (λ q. let f = far k in omega arith))
              (first_below (in_bucket j) k n (get_or t j 0) (ne_eqb (bucket k) j (λ q. d (sym q ∙ sym e))) (c.head j g))

      links : (i : ℕ) → k ≤ i → i < n → First (in_bucket (bucket i)) (suc i) n (get_or put (at i) 0)
      links i a b = by (eqb i k) refl
        where
          by : (u : Bool) → eqb i k ≡ u → First (in_bucket (bucket i)) (suc i) n (get_or put (at i) 0)
          by true z = rw (eqb-true i k z, put_link, ← e) (c.head h l)
          by false z =
              let d = eqb-false i k z in
              rw (put-stays (at i) (λ q. let f = far i in omega arith) (λ q. d (apart i k q))) (c.link i (above i k a d) b)

      pub chained_more : Chained k put
      chained_more = record { head = heads; link = links }

-- Going along the chain of one bucket.

-- k is the end, or a thing in the bucket
pub record OnChain (bucket : ℕ → ℕ) (n wanted k : ℕ) : Type 0 where
  pub to : k ≤ n
  pub here : k < n → bucket k ≡ wanted

-- What stays the same over things that are no hit stays the same from k to the first in a bucket, where no thing outside the bucket is a hit.
passed : {A : Type 0} (g : ℕ → A) (test hit : ℕ → Bool) → ((k : ℕ) → hit k ≡ false → g (k + 1) ≡ g k) → ((i : ℕ) → test i ≡ false → hit i ≡ false)
    → (k n r : ℕ) → First test k n r → g r ≡ g k
passed g test hit same out k n r f =
    let l = f.from in
    let e : r ≡ (r - k) + k = omega arith in
    rw e (go (r - k) (omega arith))
  where
    go : (d : ℕ) → d + k ≤ r → g (d + k) ≡ g k
    go zero h = let e : 0 + k ≡ k = omega arith in rw e
    go (suc d) h =
        let e : suc d + k ≡ (d + k) + 1 = omega arith in
        rw e (same (d + k) (out (d + k) (f.none (d + k) (omega arith) (omega arith))) ∙ go d (omega arith))

module _ (at bucket : ℕ → ℕ) (n : ℕ) (t : List ℕ) (c : Chained at bucket n 0 t) (wanted : ℕ) where
  abbrev inside : ℕ → Bool
  inside i = eqb (bucket i) wanted

  on_chain : (j k : ℕ) → First inside j n k → OnChain bucket n wanted k
  on_chain j k f = record { to = f.to; here = λ h. eqb-true _ _ (f.hits h) }

  -- r is the head at h, the wanted bucket; or what comes next behind k, which is on the chain
  head_first : (h r : ℕ) → h ≡ wanted → h < 4096 → r ≡ get_or t h 0 → First inside 0 n r
  head_first h r e l d = rw (d, e) (c.head wanted (rw (← e) l))

  next-first : (k r : ℕ) → k < n → OnChain bucket n wanted k → r ≡ get_or t (at k) 0 → First inside (k + 1) n r
  next-first k r h o d =
      rw (add-one, d) (subst (λ (x : ℕ). First (λ i. eqb (bucket i) x) (suc k) n (get_or t (at k) 0)) (o.here h) (c.link k (omega arith) h))

  pub chain_head : (h r : ℕ) → h ≡ wanted → h < 4096 → r ≡ get_or t h 0 → OnChain bucket n wanted r
  chain_head h r e l d = on_chain 0 r (head_first h r e l d)

  pub chain_next : (k r : ℕ) → k < n → OnChain bucket n wanted k → r ≡ get_or t (at k) 0 → OnChain bucket n wanted r × (k < r)
  chain_next k r h o d = let f = next-first k r h o d in let l = f.from in (on_chain (k + 1) r f, omega arith)

  module _ (hit : ℕ → Bool) (out : (i : ℕ) → inside i ≡ false → hit i ≡ false) {A : Type 0} (g : ℕ → A)
      (same : (k : ℕ) → hit k ≡ false → g (k + 1) ≡ g k) where
    pub skip_head : (h r : ℕ) → h ≡ wanted → h < 4096 → r ≡ get_or t h 0 → g r ≡ g 0
    skip_head h r e l d = passed g inside hit same out 0 n r (head_first h r e l d)

    pub skip_next : (k r : ℕ) → k < n → OnChain bucket n wanted k → r ≡ get_or t (at k) 0 → g r ≡ g (k + 1)
    skip_next k r h o d = passed g inside hit same out (k + 1) n r (next-first k r h o d)
