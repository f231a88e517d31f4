-- Which arcs an entry can mean: outside DEVICE at most one of an instance, and an arc through one instance only; what DEVICE means.
-- Assumes nothing.
use Rattle.std.specs.Prelude.{◌≡◌, Bool, not, List, [], ◌∷◌, ◌↔◌, eqb}
use Rattle.std.proofs.Math.Path.{refl, ap}
use Rattle.std.proofs.Common.{sym, ◌∙◌}
use Rattle.std.proofs.Math.Bool.{true, false}
use Rattle.std.proofs.Math.Option.{none, some}
use Rattle.std.proofs.Math.ListN.{get_elem?}
use borrow.Author.Tests.{eqb-true}
use Rattle.classes.specs.Choice.{or, and}
use Rattle.names.specs.Order.{same_text}
use Rattle.nameshape.specs.Shape.{Last, Name}
use Rattle.names.specs.Name.{full, same_name, both}
use Rattle.names.specs.Laws.{name_exactly, path_determined, PathOrTop, one-below_exactly}
use Rattle.history.proofs.EventLaws.{any_cong}
use Rattle.history.specs.Sheet.{Bytes, Instance, Key, Records, Slot, Entry, at, Cell, device, end_name, ends_at, matches, part_is}
use Rattle.history.specs.Sheet.{applies, addresses, lacks, if_arc, given, giving, amount, rows}
use Rattle.history.specs.Events.{nothing, any_of}

-- DEVICE with a port: the arcs that end at exactly that port of the instance
pub ends_named : (path name end : Bytes) → (ends_at path (some name) end ≡ true) ↔ (end ≡ full path name)
unfolding ends_at
ends_named path name end = name_exactly end (full path name)

-- without one: exactly those whose end is the path plus one component, where path and end have a name's shape, as on every sheet
pub ends_below : (path end : Bytes) → PathOrTop path → Name true false end
    → (ends_at path none end ≡ true) ↔ ((x : Bytes) × (Last true x) × (end ≡ full path x))
unfolding ends_at
ends_below path end p n = one-below_exactly path end p n

module _ {Word : Type 0} where
  -- an arc that an entry other than DEVICE addresses is the one with its kind, edges and full names
  pub matches-key : (path : Bytes) (e : Entry Word) (k : Key) → eqb e.kind device ≡ false → matches path e k ≡ true
      → k ≡ record {
        kind = e.kind;
        edge1 = e.first.edge;
        end1 = end_name path e.first.name;
        edge2 = e.second.edge;
        end2 = end_name path
            e.second.name;
      }
  unfolding matches
  matches-key path e k d m = go (rw d at m)
    where
      go : and (eqb k.kind e.kind)
          (and (and (eqb k.edge1 e.first.edge) (same_name k.end1 (end_name path e.first.name)))
          (and (eqb k.edge2 e.second.edge) (same_name k.end2 (end_name path e.second.name)))) ≡ true
          → k ≡ record {
            kind = e.kind;
            edge1 = e.first.edge;
            end1 = end_name path e.first.name;
            edge2 = e.second.edge;
            end2 = end_name path
                e.second.name;
          }
      go m =
          let (t1, ends) = both (eqb k.kind e.kind) _ m in
          let (one, two) = both (and (eqb k.edge1 e.first.edge) _) _ ends in
          let (t2, t3) = both (eqb k.edge1 e.first.edge) (same_name k.end1 (end_name path e.first.name)) one in
          let (t4, t5) = both (eqb k.edge2 e.second.edge) (same_name k.end2 (end_name path e.second.name)) two in
          let a = eqb-true k.kind e.kind t1 in
          let b = eqb-true k.edge1 e.first.edge t2 in
          let c = (name_exactly k.end1 (end_name path e.first.name)).0 t3 in
          let d = eqb-true k.edge2 e.second.edge t4 in
          let f = (name_exactly k.end2 (end_name path e.second.name)).0 t5 in
          rw (← a, ← b, ← c, ← d, ← f)

  -- so it addresses it through one instance only
  pub matches-path : (p q : Bytes) (e : Entry Word) (k : Key) (n : Bytes) → eqb e.kind device ≡ false → e.first.name ≡ some n
      → matches p e k ≡ true → matches q e k ≡ true → p ≡ q
  unfolding end_name
  matches-path p q e k n d f m r =
      let x = ap (λ (k : Key). k.end1) (matches-key p e k d m) in
      let y = ap (λ (k : Key). k.end1) (matches-key q e k d r) in
      path_determined p q n (rw f at (sym x ∙ y))

any_and : {A : Type 0} (f : A → Bool) (b : Bool) (l : List A) → any_of (λ (a : A). and (f a) b) l ≡ and (any_of f l) b
unfolding any_of
any_and f b [] = refl
any_and f b (a ∷ more) = rw (any_and f b more) (go (f a) b (any_of f more))
  where
    go : (x b y : Bool) → or (and x b) (and y b) ≡ and (or x y) b
    go true true y = refl
    go true false true = refl
    go true false false = refl
    go false b y = refl

-- what a loop over arcs and instances uses
module _ (records : Records) {Word : Type 0} where
  pub given_skipped : (c : Cell Word) (e : Entry Word) (s : Slot) (k : Key) → get_elem? records.arcs s.arc ≡ some k
      → addresses records c e k ≡ false → given records c e s ≡ nothing
  unfolding given if_arc
  given_skipped c e s k p q = rw (p, q)

  pub given_addressed : (c : Cell Word) (e : Entry Word) (s : Slot) (k : Key) → get_elem? records.arcs s.arc ≡ some k
      → addresses records c e k ≡ true
      → given records c e s ≡ giving e.group (amount (rows e.group e.values s.row) s.corner)
  unfolding given if_arc
  given_addressed c e s k p q = rw (p, q)

  -- a cell with a path applies to instances with that path only
  applies-path : (c : Cell Word) (p : Bytes) (i : Instance) → c.part ≡ at p → applies c i ≡ true → i.path ≡ p
  unfolding applies part_is
  applies-path c p i q a = (name_exactly i.path p).0 (both (same_name i.path p) (same_text i.type c.type) (rw q at a)).0

  pub addresses-at : (c : Cell Word) (p : Bytes) (e : Entry Word) (k : Key) → c.part ≡ at p
      → addresses records c e k ≡ and (any_of (applies c) records.instances) (matches p e k)
  unfolding addresses
  addresses-at c p e k q = any_cong _ (λ (i : Instance). and (applies c i) (matches p e k)) records.instances (λ i m. go i (applies c i) refl)
      ∙ any_and _ _ records.instances
    where
      go : (i : Instance) (b : Bool) → applies c i ≡ b → and b (matches i.path e k) ≡ and b (matches p e k)
      go i true a = rw (applies-path c p i q a)
      go i false a = refl

  pub lacks-at : (c : Cell Word) (p : Bytes) (e : Entry Word) → c.part ≡ at p
      → lacks records c e ≡ and (any_of (applies c) records.instances) (not (any_of (matches p e) records.arcs))
  unfolding lacks
  lacks-at c p e q = any_cong _ (λ (i : Instance). and (applies c i) (not (any_of (matches p e) records.arcs))) records.instances
      (λ i m. go i (applies c i) refl) ∙ any_and _ _ records.instances
    where
      go : (i : Instance) (b : Bool) → applies c i ≡ b
          → and b (not (any_of (matches i.path e) records.arcs)) ≡ and b (not (any_of (matches p e) records.arcs))
      go i true a = rw (applies-path c p i q a)
      go i false a = refl
