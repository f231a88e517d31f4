-- The instance with a path and the arc with a key, or none; and what a checked sheet gives a search.
-- Assumes nothing.
use Prim.Native.Nat.{ℕ, zero, suc, ◌+◌, ◌-◌, ◌≤◌, ◌<◌}
use Rattle.std.proofs.Math.Path.{◌≡◌, refl, ap}
use Rattle.std.proofs.Common.{◌∙◌, eqb-true, leb-true}
use Rattle.std.specs.Prelude.{Bool, List, [], ◌∷◌, eqb, length, Option, Some, None}
use Rattle.std.proofs.Math.Bool.{true, false}
use native.Mathlib.Omega.{arith}
use Rattle.std.proofs.Math.Dec.{leb}
use Rattle.classes.specs.Choice.{pick}
use Rattle.wire.specs.Wire.{Bytes, be32}
use Rattle.names.specs.Order.{cmp, cmp_num}
use Rattle.names.specs.Orders.{Order, num_order, cmp_order, by_part, in_turn, num_1, cmp_1, then_1}
use Rattle.names.specs.Name.{canon, full}
use Rattle.std.specs.Prelude.{Ok, Err}
use Rattle.sheetparts.specs.Form.{Good, Step, faulty, Key, cmp_key, one_end, reach, key_at, path_at, ar_step, arcs_step, in_step, ins_step, head_step, front_step, back_step, end_step, verdict, check_of}
use Rattle.sheetparts.specs.Passed.{same_good, chain_next, clear, ar_next_lem, in_next, head_next}
use Rattle.sheetlaws.specs.Sheet.{ar_next, in_end, nth, place}
use Rattle.sheetlaws.specs.Sound.{rises}
use Rattle.sheetlaws.specs.Instances.{in_rises}
use Rattle.sheet.specs.declared.ArcKey.{ArcKey}
use Rattle.sheet.specs.Search.{search, Rises, Whole, Search, Marks, stride_of, marked, marked_marks, found, absent, good-at, whole_at}

-- the second end that is wanted: a kind with one end has none
unfoldable pub second_wanted : Bool → ℕ → List ℕ → List ℕ → List ℕ
second_wanted slash kind path name = pick (one_end kind) [] (full path (canon slash name))

-- 'An entry addresses the arc of its kind, edges and full names.' The key that an entry addresses in the instance with this path
unfoldable pub wanted : Bool → ℕ → ℕ → ℕ → List ℕ → List ℕ → List ℕ → Key
wanted slash kind edge edge2 path name name2 =
    record {
      kind = kind;
      first = full path (canon slash name);
      edge = edge;
      second = second_wanted slash kind path name2;
      edge2 = edge2;
    }

-- the key that is looked up by an arc's key
abbrev pub wanted_by : ArcKey → Key
wanted_by k = wanted k.slash k.kind k.edge k.edge2 k.path.now k.name.now k.name2.now

-- a text against none
pub cmp-empty : (x : List ℕ) → length x ≡ 0 → cmp x [] ≡ 1
unfolding cmp
cmp-empty [] e = refl
cmp-empty (c ∷ r) e = absurd (omega arith)

pub cmp-some : (x : List ℕ) → (length x ≡ 0 → ⊥) → cmp x [] ≡ 2
unfolding cmp
cmp-some [] e = absurd (e refl)
cmp-some (c ∷ r) e = refl

-- the arc with this key among n arcs from p on, the instance with this path among n instances, or none
unfoldable pub find_arc : List ℕ → Key → ℕ → ℕ → Option ℕ
find_arc b k n p = search (key_at b) (ar_next b) cmp_key k n p

unfoldable pub find_instance : List ℕ → List ℕ → ℕ → ℕ → Option ℕ
find_instance b x n p = search (path_at b) (in_end b) cmp x n p

-- n arcs, n instances stand from p on, without a fault
abbrev pub ArcsGood : List ℕ → ℕ → ℕ → Type 0
ArcsGood b n p = (prev : ℕ) × (r : ℕ) × (0 < p) × (p ≤ length b) × (arcs_step b n prev p ≡ Ok r)

abbrev pub InsGood : List ℕ → ℕ → ℕ → Type 0
InsGood b n p = (prev : ℕ) × (r : ℕ) × (0 < p) × (p ≤ length b) × (ins_step b n prev p ≡ Ok r)

-- what a search asks for: good records, and a table with their landmarks
abbrev pub ArcSearch : List ℕ → ℕ → ℕ → List ℕ → Type 0
ArcSearch b n p t = Search (ar_next b) (ArcsGood b) n p t

abbrev pub InstanceSearch : List ℕ → ℕ → ℕ → List ℕ → Type 0
InstanceSearch b n p t = Search (in_end b) (InsGood b) n p t

-- Keys rise, and the same key is the same arc's.

pub key_order : Order cmp_key
unfolding cmp_key
key_order =
    in_turn _ _ (by_part (λ (k : Key). k.kind) cmp_num num_order)
    (in_turn _ _ (by_part (λ (k : Key). k.first) cmp cmp_order)
    (in_turn _ _ (by_part (λ (k : Key). k.edge) cmp_num num_order)
    (in_turn _ _ (by_part (λ (k : Key). k.second) cmp cmp_order) (by_part (λ (k : Key). k.edge2) cmp_num num_order))))

alike : (k : Key) (kind edge edge2 : ℕ) (first second : List ℕ) → kind ≡ k.kind → first ≡ k.first → edge ≡ k.edge → second ≡ k.second
    → edge2 ≡ k.edge2 → record { kind = kind; first = first; edge = edge; second = second; edge2 = edge2 } ≡ k
alike k kind edge edge2 first second e1 e2 e3 e4 e5 = rw (e1, e2, e3, e4, e5)

-- keys that compare as the same are the same
pub key-same : (j k : Key) → cmp_key j k ≡ 1 → j ≡ k
unfolding cmp_key
key-same j k e =
    let t1 = then_1 (cmp_num j.kind k.kind) _ e in
    let t2 = then_1 (cmp j.first k.first) _ t1.1 in
    let t3 = then_1 (cmp_num j.edge k.edge) _ t2.1 in
    let t4 = then_1 (cmp j.second k.second) _ t3.1 in
    alike k j.kind j.edge j.edge2 j.first j.second (num_1 _ _ t1.0) (cmp_1 _ _ t2.0) (num_1 _ _ t3.0) (cmp_1 _ _
    t4.0) (num_1 _ _ t4.1)

module _ (b : List ℕ) where
  -- one arc, one instance less
  pub arcs_tail : (n p : ℕ) → ArcsGood b (suc n) p → (ar_next b p ≤ length b) × ArcsGood b n (ar_next b p)
  unfolding arcs_step
  arcs_tail n p g =
      let o = chain_next (ar_step b g.0 p) _ g.1 g.4 in
      let a = ar_next_lem b g.0 p o.0 o.1 in
      let i = a.inside in
      let j = a.place in
      let z = g.2 in
      (omega arith, (p, g.1, omega arith, omega arith, rw a.place at o.2))

  pub ins_tail : (n p : ℕ) → InsGood b (suc n) p → (in_end b p ≤ length b) × InsGood b n (in_end b p)
  unfolding ins_step
  ins_tail n p g =
      let o = chain_next (in_step b g.0 p) _ g.1 g.4 in
      let a = in_next b g.0 p o.0 o.1 in
      let i = a.inside in
      let j = a.place in
      let z = g.2 in
      (omega arith, (p, g.1, omega arith, omega arith, rw a.place at o.2))

  -- from the j-th on they are good
  pub arcs_at_lem : (j n p : ℕ) → j ≤ n → ArcsGood b n p → ArcsGood b (n - j) (nth (ar_next b) j p)
  arcs_at_lem = good-at (ar_next b) (ArcsGood b) (λ n p g. (arcs_tail n p g).1)

  pub ins-at : (j n p : ℕ) → j ≤ n → InsGood b n p → InsGood b (n - j) (nth (in_end b) j p)
  ins-at = good-at (in_end b) (InsGood b) (λ n p g. (ins_tail n p g).1)

  -- and each of them is there whole
  pub arcs_whole : Whole b (ar_next b) (ArcsGood b)
  arcs_whole n p g = (g.3, (arcs_tail n p g).0)

  pub ins_whole : Whole b (in_end b) (InsGood b)
  ins_whole n p g = (g.3, (ins_tail n p g).0)

  pub arc_there : (j n p : ℕ) → j < n → ArcsGood b n p → (nth (ar_next b) j p ≤ length b) × (ar_next b (nth (ar_next b) j p) ≤ length b)
  arc_there = whole_at (ar_next b) (ArcsGood b) b arcs_whole (λ n p g. (arcs_tail n p g).1)

  pub in_there : (j n p : ℕ) → j < n → InsGood b n p → (nth (in_end b) j p ≤ length b) × (in_end b (nth (in_end b) j p) ≤ length b)
  in_there = whole_at (in_end b) (InsGood b) b ins_whole (λ n p g. (ins_tail n p g).1)

  arc_above : (n p prev r : ℕ) → Bytes b → 0 < p → arcs_step b (suc (suc n)) prev p ≡ Ok r → cmp_key (key_at b p) (key_at b (ar_next b p)) ≡ 0
  unfolding arcs_step
  arc_above n p prev r y h e =
      let o = chain_next (ar_step b prev p) _ r e in
      let a = ar_next_lem b prev p o.0 o.1 in
      let w = chain_next (ar_step b p (ar_next b p)) _ r (rw a.place at o.2) in
      rises b y p (ar_next b p) w.0 (λ z. omega arith) w.1

  in_above : (n p prev r : ℕ) → 0 < p → ins_step b (suc (suc n)) prev p ≡ Ok r → cmp (path_at b p) (path_at b (in_end b p)) ≡ 0
  unfolding ins_step
  in_above n p prev r h e =
      let o = chain_next (in_step b prev p) _ r e in
      let a = in_next b prev p o.0 o.1 in
      let w = chain_next (in_step b p (in_end b p)) _ r (rw a.place at o.2) in
      in_rises b p (in_end b p) w.0 (λ z. omega arith) w.1

  pub arcs_rise : Bytes b → Rises (key_at b) (ar_next b) cmp_key (ArcsGood b)
  arcs_rise y =
      record { order = key_order; tail = λ n p g. (arcs_tail n p g).1; rise = λ n p g. arc_above n p g.0 g.1 y g.2 g.4 }

  pub ins_rise : Rises (path_at b) (in_end b) cmp (InsGood b)
  ins_rise = record { order = cmp_order; tail = λ n p g. (ins_tail n p g).1; rise = λ n p g. in_above n p g.0 g.1 g.2 g.4 }

  -- The arc with this key: Some place, or None, and then no arc has it.

  pub arc-found : (k : Key) (n p q : ℕ) → find_arc b k n p ≡ Some q → (j : ℕ) × (j < n) × (q ≡ place b j p) × (key_at b q ≡ k)
  unfolding find_arc
  arc-found k n p q e = let f = found (key_at b) (ar_next b) cmp_key k n p q e in (f.0, f.1, f.2, key-same (key_at b q) k f.3)

  pub arc_absent : (k : Key) (n p j : ℕ) → find_arc b k n p ≡ None → j < n → key_at b (place b j p) ≡ k → ⊥
  unfolding find_arc
  arc_absent k n p j e h g = absent (key_at b) (ar_next b) cmp_key k n p j e h (rw g (key_order.self k))

  pub instance-found : (x : List ℕ) (n p q : ℕ) → find_instance b x n p ≡ Some q → (j : ℕ) × (j < n) × (q ≡ nth (in_end b) j p) × (path_at b q ≡ x)
  unfolding find_instance
  instance-found x n p q e = let f = found (path_at b) (in_end b) cmp x n p q e in (f.0, f.1, f.2, cmp_1 (path_at b q) x f.3)

  pub instance_absent : (x : List ℕ) (n p j : ℕ) → find_instance b x n p ≡ None → j < n → path_at b (nth (in_end b) j p) ≡ x → ⊥
  unfolding find_instance
  instance_absent x n p j e h g = absent (path_at b) (in_end b) cmp x n p j e h (rw g (cmp_order.self x))

  -- What a checked sheet gives.

  ins-inside : (n prev p r : ℕ) → p ≤ length b → ins_step b n prev p ≡ Ok r → (r ≤ length b) × (p ≤ r)
  unfolding ins_step
  ins-inside zero prev p r h e = let z : r ≡ p = cc in (omega arith, omega arith)
  ins-inside (suc n) prev p r h e =
      let o = chain_next (in_step b prev p) _ r e in
      let g = in_next b prev p o.0 o.1 in
      let i = g.inside in
      let j = g.place in
      let w = ins-inside n p o.0 r i o.2 in
      (w.0, omega (arith, w.1))

  -- a record takes a byte at least
  few_arcs : (n p : ℕ) → ArcsGood b n p → n + p ≤ length b
  few_arcs zero p g = let h = g.3 in omega arith
  few_arcs (suc n) p g = let w = few_arcs n (ar_next b p) (arcs_tail n p g).1 in omega arith

  few_instances : (n p : ℕ) → InsGood b n p → n + p ≤ length b
  few_instances zero p g = let h = g.3 in omega arith
  few_instances (suc n) p g = let w = few_instances n (in_end b p) (ins_tail n p g).1 in omega arith

  -- the instances from place 12 on, the arcs from f on, and nothing behind them; what every search and every walk asks for
  pub record SheetGood (n m f : ℕ) : Type 0 where
    pub short : length b ≤ 16777216
    pub instances : InsGood b n 12
    pub arcs : ArcsGood b m f
    pub few_instances : n < 4294967296
    pub few_arcs : m < 4294967296
    pub ends : arcs_step b m 0 f ≡ Ok (length b)

  parts : (f q : ℕ) → length b ≤ 16777216 → front_step b ≡ Ok f → back_step b f ≡ Ok q → SheetGood (be32 b 4) (be32 b 8) f
  unfolding front_step back_step end_step
  parts f q s e1 e2 =
      let o = chain_next (head_step b) _ f e1 in
      let h = head_next b o.0 o.1 in
      let w = chain_next (arcs_step b (be32 b 8) 0 f) _ q e2 in
      let i = ins-inside (be32 b 4) 0 o.0 f (omega arith) o.2 in
      let z = clear (eqb w.0 (length b)) (Ok w.0) 10 w.0 q w.2 in
      let x : InsGood b (be32 b 4) 12 = (0, f, omega arith, omega arith, rw h.0 at o.2) in
      let y : ArcsGood b (be32 b 8) f = (0, w.0, omega (arith, i.1, h.0), i.0, w.1) in
      record {
        short = s;
        instances = x;
        arcs = y;
        few_instances = let l = few_instances (be32 b 4) 12 x in omega arith;
        few_arcs = let l = few_arcs (be32 b 8) f y in omega arith;
        ends = w.1 ∙ ap Ok (eqb-true _ _ z.0);
      }

  pub sheet_good : (n m f : ℕ) → check_of b ≡ Good n m f → SheetGood n m f
  unfolding check_of
  sheet_good n m f e = go (leb (length b) 16777216) refl (front_step b) refl (back_step b (reach (front_step b))) refl e
    where
      go : (t : Bool) → leb (length b) 16777216 ≡ t → (x : Step) → front_step b ≡ x → (z : Step) → back_step b (reach x) ≡ z
          → pick t (verdict x (verdict z (Good (be32 b 4) (be32 b 8) (reach x)))) (faulty 10 0) ≡ Good n m f → SheetGood n m f
      go true t (Ok g) e1 (Ok q) e2 e =
          let s = same_good e in
          rw (← s.0, ← s.1, ← s.2) (parts g q (leb-true _ _ t) e1 e2)
      go true t (Ok g) e1 (Err d) e2 e = let z : ◌≡◌ {A = ℕ} 0 1 = cc in absurd (omega arith)
      go true t (Err d) e1 z e2 e = let z : ◌≡◌ {A = ℕ} 0 1 = cc in absurd (omega arith)
      go false t x e1 z e2 e = let z : ◌≡◌ {A = ℕ} 0 1 = cc in absurd (omega arith)

  -- so a sheet that was checked and a table that was marked by it are what a search asks for
  pub arcs_ready : (n m f : ℕ) (t : List ℕ) → SheetGood n m f → length t ≡ 4096 → ArcSearch b m f (marked (ar_next b) f (stride_of m) t m)
  arcs_ready n m f t g l = record { good = g.arcs; few = g.few_arcs; marks = marked_marks (ar_next b) m f t l }

  pub instances_ready : (n m f : ℕ) (t : List ℕ) → SheetGood n m f → length t ≡ 4096 → InstanceSearch b n 12 (marked (in_end b) 12 (stride_of n) t n)
  instances_ready n m f t g l = record { good = g.instances; few = g.few_instances; marks = marked_marks (in_end b) n 12 t l }
