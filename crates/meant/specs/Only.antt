-- The only instance in which an entry can mean an arc: its path is a front part of the arc's own end.
-- Assumes nothing.
use Prim.Native.Nat.{ℕ, ◌+◌, ◌-◌, ◌<◌}
use Rattle.std.specs.Prelude.{◌≡◌, Bool, false, eqb, length, take, Some, None}
use Rattle.std.proofs.Math.Path.{refl}
use Rattle.std.proofs.Common.{sym, ap, ◌∙◌, arith, length-append, length-drop, take_at, eqb-true, eq-eqb}
use Rattle.std.proofs.Math.Bool.{true}
use mathlib.Core.List.{List, [], ◌∷◌}
use Rattle.classes.specs.Choice.{pick, and}
use Rattle.names.specs.Order.{cmp, same_text}
use Rattle.names.specs.Orders.{cmp_order}
use Rattle.names.specs.Name.{canon, full, same_name, last_start, last_of, one_below, part_of, both, length-canon}
use Rattle.names.specs.Laws.{name_exactly}
use Rattle.grammar.specs.declared.Entry.{Entry}
use Rattle.sheetparts.specs.Form.{Key, key_at, path_at, type_at, cmp_key}
use Rattle.sheetlaws.specs.Sheet.{in_end, nth}
use Rattle.meaning.specs.Search.{search-more, finger}
use Rattle.meaning.specs.Find.{wanted, key-same, find_instance, instance-found, InsGood, ins_rise}
use Rattle.history.proofs.EventLaws.{clash}
use Rattle.meaning.specs.Bytes.{device_hit}
use Rattle.meaning.specs.Below.{not_so, below_none, below-some, some_any}
use Rattle.patching.specs.Meant.{meant_in, meant_every}

-- an end without a name of this length and the `.` before it
unfoldable pub path_before : List ℕ → ℕ → List ℕ
path_before end n = take (length end - (n + 1)) end

-- 'An end's full name is the instance path, `.` and the written name; at the top level the written name alone.' So its path is what stands before the name
path-before : (end path name : List ℕ) → end ≡ full path name → path ≡ path_before end (length name)
unfolding full path_before
path-before end [] name e = let z : length end - (length name + 1) ≡ 0 = (let l = ap length e in omega arith) in rw z
path-before end (c ∷ r) name e =
    let l = ap length e ∙ length-append (c ∷ r) (46 ∷ name) in
    let z : length end - (length name + 1) ≡ length (c ∷ r) = omega arith in
    rw (z, e) (sym (take_at (c ∷ r) (46 ∷ name) (length (c ∷ r)) refl))

-- the only path that an instance can have in which the entry h, whose first name has n bytes, means the arc at q: the arc's first end without that name;
-- for DEVICE the second end without the port or, where none is written, without its last component
unfoldable pub only_path : List ℕ → Entry → ℕ → ℕ → List ℕ
only_path b h n q =
    pick (eqb h.kind 4)
    (pick (eqb h.to1 0) (path_before (key_at b q).second (length (key_at b q).second - last_start (key_at b q).second)) (path_before (key_at b q).second n))
    (path_before (key_at b q).first n)

-- the answer r is whether the entry h means the arc at q, for every instance with this path
abbrev pub MeantOn : (b text : List ℕ) → Bool → Entry → List ℕ → ℕ → Bool → Type 0
MeantOn b text slash h path q r = (p : ℕ) → path_at b p ≡ path → r ≡ meant_in b text slash h p q

module _ (b text : List ℕ) (slash : Bool) (h : Entry) (q : ℕ) where
  abbrev pub only : List ℕ
  only = only_path b h (length (part_of text h.from1 h.to1)) q

  -- an instance in which the entry means the arc has that path
  pub only-path : (p : ℕ) → meant_in b text slash h p q ≡ true → path_at b p ≡ only
  unfolding meant_in device_hit only_path one_below wanted
  only-path p = by (eqb h.kind 4) refl
    where
      name : List ℕ
      name = part_of text h.from1 h.to1

      ended : (end : List ℕ) → end ≡ full (path_at b p) (canon slash name) → path_at b p ≡ path_before end (length name)
      ended end e = rw (← length-canon slash name) (path-before end (path_at b p) (canon slash name) e)

      device : (t : Bool)
          → pick t (one_below (path_at b p) (key_at b q).second) (same_name (key_at b q).second (full (path_at b p) (canon slash name))) ≡ true
          → path_at b p
          ≡ pick t (path_before (key_at b q).second (length (key_at b q).second - last_start (key_at b q).second)) (path_before (key_at b q).second (length name))
      device true e =
          rw (← length-drop (last_start (key_at b q).second) (key_at b q).second)
          (path-before (key_at b q).second (path_at b p) (last_of (key_at b q).second) ((name_exactly _ _).0 e))
      device false e = ended (key_at b q).second ((name_exactly _ _).0 e)

      by : (t : Bool) → eqb h.kind 4 ≡ t
          → pick t (device_hit b text slash h p q)
          (eqb (cmp_key (key_at b q)
          (wanted slash h.kind h.edge1 h.edge2 (path_at b p) name (part_of text h.from2 h.to2))) 1) ≡ true
          → path_at b p
          ≡ pick t (pick (eqb h.to1 0) (path_before (key_at b q).second (length (key_at b q).second - last_start (key_at b q).second))
          (path_before (key_at b q).second (length name)))
          (path_before (key_at b q).first (length name))
      by true d e = device (eqb h.to1 0) (both (eqb (key_at b q).kind 1) _ e).1
      by false d e = ended (key_at b q).first (ap (λ (k : Key). k.first) (key-same (key_at b q) _ (eqb-true _ _ e)))

-- instances rise by their paths, so the search finds instance number k by its path
instance-is : (b path : List ℕ) (n k : ℕ) → InsGood b n 12 → k < n → path_at b (nth (in_end b) k 12) ≡ path
    → find_instance b path n 12 ≡ Some (nth (in_end b) k 12)
unfolding find_instance
instance-is b path n k good l e =
    let same : cmp (path_at b (nth (in_end b) k 12)) path ≡ 1 = rw e (cmp_order.self path) in
    (finger (path_at b) (in_end b) cmp path (InsGood b) (ins_rise b) k n 12 l good (λ z. omega arith)).0
    ∙ search-more (path_at b) (in_end b) cmp path n k (nth (in_end b) k 12) l
    ∙ rw (eq-eqb _ 1 same)

-- so '`*` means every instance of that type' asks of one instance
module _ (b text : List ℕ) (slash : Bool) (h : Entry) (n : ℕ) (good : InsGood b n 12) (type : List ℕ) (q : ℕ) where
  abbrev path : List ℕ
  path = only b text slash h q

  abbrev hit : ℕ → Bool
  hit k = and (same_text (type_at b (nth (in_end b) k 12)) type) (meant_in b text slash h (nth (in_end b) k 12) q)

  -- what instance number k has to be
  hit-is : (k : ℕ) → k < n → hit k ≡ true
      → (same_text (type_at b (nth (in_end b) k 12)) type ≡ true) × (meant_in b text slash h (nth (in_end b) k 12) q ≡ true)
      × (path_at b (nth (in_end b) k 12) ≡ path) × (find_instance b path n 12 ≡ Some (nth (in_end b) k 12))
  hit-is k l e =
      let w = both (same_text (type_at b (nth (in_end b) k 12)) type) _ e in
      let x = only-path b text slash h q (nth (in_end b) k 12) w.1 in
      (w.0, w.1, x, instance-is b path n k good l x)

  no_hit : ((k : ℕ) → k < n → hit k ≡ true → ⊥) → meant_every b text slash h n type q ≡ false
  unfolding meant_every
  no_hit f = some_any hit n ∙ below_none hit n (λ k l. not_so (hit k) (f k l))

  -- the path is not that of an instance in which the arc is meant
  pub every-not : MeantOn b text slash h path q false → meant_every b text slash h n type q ≡ false
  every-not m = no_hit (λ k l e. let w = hit-is k l e in clash (m (nth (in_end b) k 12) w.2 ∙ w.1))

  -- no instance has it
  pub every_absent : find_instance b path n 12 ≡ None → meant_every b text slash h n type q ≡ false
  every_absent z =
      no_hit (λ k l e. let w = sym z ∙ (hit-is k l e).3 in let y : ◌≡◌ {A = ℕ} 0 1 = cc in omega arith)

  -- the instance at p has it
  pub every-found : (p : ℕ) → MeantOn b text slash h path q true → find_instance b path n 12 ≡ Some p
      → meant_every b text slash h n type q ≡ same_text (type_at b p) type
  unfolding meant_every
  every-found p m z = by (same_text (type_at b p) type) refl
    where
      there : same_text (type_at b p) type ≡ true → (k : ℕ) → p ≡ nth (in_end b) k 12 → hit k ≡ true
      there d k e = rw (← e, d) (sym (m p (instance-found b path n 12 p z).3))

      by : (t : Bool) → same_text (type_at b p) type ≡ t → meant_every b text slash h n type q ≡ t
      by true d =
          let f = instance-found b path n 12 p z in
          some_any hit n ∙ below-some hit n f.0 f.1 (there d f.0 f.2)
      by false d =
          no_hit (λ k l e. let w = hit-is k l e in let y : nth (in_end b) k 12 ≡ p = cc (sym w.3 ∙ z) in clash (sym d ∙ (rw y at w.0)))
