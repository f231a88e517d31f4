-- Which instances a cell means: bytes against history; a cell with a path, and its entries.
-- Assumes nothing.
use Rattle.std.specs.Prelude.{ℕ, ◌<◌, ◌≡◌, Bool, List, Some, None}
use Rattle.std.proofs.Math.Path.{refl, sym}
use Rattle.std.proofs.Common.{◌∙◌}
use Rattle.std.proofs.Math.Bool.{true, false, not}
use Rattle.std.proofs.Math.Option.{Option, none, some}
use Rattle.classes.specs.Choice.{pick, and}
use Rattle.wire.specs.Wire.{Bytes}
use Rattle.names.specs.Order.{same_text}
use Rattle.names.specs.Name.{same_name, both}
use Rattle.names.specs.Laws.{name_exactly, same_self}
use Rattle.sheetparts.specs.Form.{Good, path_at, type_at, check_of}
use Rattle.sheetlaws.specs.Sheet.{in_end, nth}
use Rattle.sheet.specs.Find.{find_instance, instance-found, instance_absent}
use Rattle.history.specs.Events.{any_of}
use Rattle.history.specs.Sheet.{Instance, Values, Entry, at, every, Cell, part_is, unapplied, applies, lacks, cell_number, matches, below}
use Rattle.amounts.specs.FoundSlots.{instance-at, instances_length, instance_once}
use Rattle.applying.specs.Judged.{any_and, arc_is, fails_at, refusal_at, refusal_of}
use Rattle.applying.specs.Below.{not_so, below_cong, below_none, below-some, any_at}
use Rattle.applying.specs.Instances.{records_at}

-- where instance number k stands, and what stands there
abbrev pub place_of : List ℕ → ℕ → ℕ
place_of b k = nth (in_end b) k 12

abbrev pub instance_of : List ℕ → ℕ → Instance
instance_of b k = record { path = path_at b (place_of b k); type = type_at b (place_of b k) }

module _ (b : List ℕ) (bytes : Bytes b) (n m f : ℕ) (good : check_of b ≡ Good n m f) where
  -- some instance passes the test
  any_instance : (g : Instance → Bool) → any_of g (records_at b n m f).instances ≡ any_of (λ k. g (instance_of b k)) (below n)
  any_instance g =
      any_at g (instance_of b) (records_at b n m f).instances (λ j h. instance-at b bytes n m f good j (rw (instances_length b bytes n m f good) at h))
      ∙ rw (instances_length b bytes n m f good)

  module _ {Word : Type 0} (c : Cell Word) where
    -- A cell with a path: the number of its refusal is what the search for its instance gives.

    part-at : (path : List ℕ) (k : ℕ) → c.part ≡ at path
        → applies c (instance_of b k) ≡ and (same_name (path_at b (place_of b k)) path) (same_text (type_at b (place_of b k)) c.type)
    unfolding applies part_is
    part-at path k e = rw e

    -- at another path it does not apply
    other_path : (path : List ℕ) (k : ℕ) → (path_at b (place_of b k) ≡ path → ⊥) → same_name (path_at b (place_of b k)) path ≡ false
    other_path path k x = not_so _ (λ e. x ((name_exactly _ _).0 e))

    -- 12, 'no such instance'
    pub cell_absent : (path : List ℕ) → c.part ≡ at path → find_instance b path n 12 ≡ None → cell_number (records_at b n m f) c ≡ some 12
    unfolding cell_number unapplied
    cell_absent path e g =
        rw (
          any_instance (applies c),
          below_none (λ k. applies c (instance_of b k)) n
              (λ k h. rw (part-at path k e, other_path path k (λ x. instance_absent b path n 12 k g h x))),
          e,
          any_instance (λ (i : Instance). same_name i.path path),
          below_none (λ k. same_name (path_at b (place_of b k)) path) n (λ k h. other_path path k (λ x. instance_absent b path n 12 k g h x)),
        )

    -- the instance that is found
    pub cell-found : (path : List ℕ) (q : ℕ) → find_instance b path n 12 ≡ Some q → (k : ℕ) × (k < n) × (q ≡ place_of b k) × (path_at b q ≡ path)
    cell-found path q g = instance-found b path n 12 q g

    -- 13, 'type differs'
    pub cell_differs : (path : List ℕ) (q : ℕ) → c.part ≡ at path → find_instance b path n 12 ≡ Some q → same_text (type_at b q) c.type ≡ false
        → cell_number (records_at b n m f) c ≡ some 13
    unfolding cell_number unapplied
    cell_differs path q e g d =
        let w = cell-found path q g in
        by w.0 w.1 (rw w.2 at w.3) (rw w.2 at d)
      where
        by : (k : ℕ) → k < n → path_at b (place_of b k) ≡ path → same_text (type_at b (place_of b k)) c.type ≡ false
            → pick (any_of (applies c) (records_at b n m f).instances) none (unapplied (records_at b n m f).instances c.part) ≡ some 13
        by k h x y =
            rw (
              any_instance (applies c),
              below_none (λ l. applies c (instance_of b l)) n (λ l r. rw (part-at path l e) (not-both l r _ refl)),
              e,
              any_instance (λ (i : Instance). same_name i.path path),
              below-some (λ l. same_name (path_at b (place_of b l)) path) n k h (rw x (same_self path)),
            )
          where
            not-both : (l : ℕ) → l < n → (t : Bool) → same_name (path_at b (place_of b l)) path ≡ t
                → and t (same_text (type_at b (place_of b l)) c.type) ≡ false
            not-both l r true z = rw (instance_once b bytes n m f good l k r h ((name_exactly _ _).0 z ∙ sym x)) y
            not-both l r false z = refl

    -- its type is the cell's: no refusal
    pub cell_same : (path : List ℕ) (q : ℕ) → c.part ≡ at path → find_instance b path n 12 ≡ Some q → same_text (type_at b q) c.type ≡ true
        → cell_number (records_at b n m f) c ≡ none
    unfolding cell_number
    cell_same path q e g d =
        let w = cell-found path q g in
        let k = w.0 in
        let x : same_name (path_at b (place_of b k)) path ≡ true = rw (rw w.2 at w.3) (same_self path) in
        let y : same_text (type_at b (place_of b k)) c.type ≡ true = rw w.2 at d in
        rw (any_instance (applies c), below-some (λ l. applies c (instance_of b l)) n k w.1 (rw (part-at path k e, x, y)))

    -- '`*` means every instance of that type; with none the cell does nothing'
    pub cell-every : c.part ≡ every → cell_number (records_at b n m f) c ≡ none
    unfolding cell_number unapplied
    cell-every e = either (any_of (applies c) (records_at b n m f).instances) (unapplied (records_at b n m f).instances c.part) (rw e)
      where
        either : (t : Bool) (o : Option ℕ) → o ≡ none → pick t none o ≡ none
        either true o z = refl
        either false o z = z

    -- A cell with the path of instance number k and its type applies to that one only.

    pub one_of : (k : ℕ) → k < n → c.part ≡ at (path_at b (place_of b k)) → same_text (type_at b (place_of b k)) c.type ≡ true
        → (F : List ℕ → Bool) → any_of (λ (i : Instance). and (applies c i) (F i.path)) (records_at b n m f).instances ≡ F (path_at b (place_of b k))
    one_of k h e d F =
        let x : applies c (instance_of b k) ≡ true = rw (part-at (path_at b (place_of b k)) k e, same_self (path_at b (place_of b k)), d) in
        any_instance (λ (i : Instance). and (applies c i) (F i.path))
        ∙ below_cong (λ l. and (applies c (instance_of b l)) (F (path_at b (place_of b l))))
        (λ l. and (applies c (instance_of b l)) (F (path_at b (place_of b k)))) n (λ l r. same l _ refl)
        ∙ any_and (λ l. applies c (instance_of b l)) (F (path_at b (place_of b k))) (below n)
        ∙ rw (below-some (λ l. applies c (instance_of b l)) n k h x)
      where
        same : (l : ℕ) (t : Bool) → applies c (instance_of b l) ≡ t → and t (F (path_at b (place_of b l))) ≡ and t (F (path_at b (place_of b k)))
        same l true z =
            rw ((name_exactly _ _).0 (both (same_name (path_at b (place_of b l)) (path_at b (place_of b k))) _ (rw (part-at (path_at b (place_of b k)) l e) at z)).0)
        same l false z = refl

    -- so its entry is refused as in that one
    pub one-refusal : (k : ℕ) → k < n → c.part ≡ at (path_at b (place_of b k)) → same_text (type_at b (place_of b k)) c.type ≡ true
        → (e : Entry Word) (now : Values) → refusal_of (records_at b n m f) c e now ≡ refusal_at (records_at b n m f) (path_at b (place_of b k)) e now
    unfolding refusal_of refusal_at lacks
    one-refusal k h p d e now =
        rw (
          one_of k h p d (λ x. not (any_of (matches x e) (records_at b n m f).arcs)),
          one_of k h p d (λ x. fails_at (records_at b n m f) x e 15 now),
          one_of k h p d (λ x. fails_at (records_at b n m f) x e 16 now),
        )

    -- and means the arcs that it means there
    pub one_applied : (k : ℕ) → k < n → c.part ≡ at (path_at b (place_of b k)) → same_text (type_at b (place_of b k)) c.type ≡ true
        → (e : Entry Word) (j : ℕ)
        → any_of (λ (i : Instance). and (applies c i) (arc_is (records_at b n m f) (matches i.path e) j)) (records_at b n m f).instances
        ≡ arc_is (records_at b n m f) (matches (path_at b (place_of b k)) e) j
    one_applied k h p d e j = one_of k h p d (λ x. arc_is (records_at b n m f) (matches x e) j)

    -- `*`: it applies to the instances of its type
    part-every : (k : ℕ) → c.part ≡ every → applies c (instance_of b k) ≡ same_text (type_at b (place_of b k)) c.type
    unfolding applies part_is
    part-every k e = rw e

    pub every_of : c.part ≡ every → (F : List ℕ → Bool)
        → any_of (λ (i : Instance). and (applies c i) (F i.path)) (records_at b n m f).instances
        ≡ any_of (λ k. and (same_text (type_at b (place_of b k)) c.type) (F (path_at b (place_of b k)))) (below n)
    every_of e F = any_instance (λ (i : Instance). and (applies c i) (F i.path))
        ∙ below_cong (λ k. and (applies c (instance_of b k)) (F (path_at b (place_of b k))))
        (λ k. and (same_text (type_at b (place_of b k)) c.type) (F (path_at b (place_of b k)))) n
        (λ k h. rw (part-every k e))
