-- What was read, at other places: a place p of one text, a or behind it, stands at c + (p - a) in another.
-- Assumes nothing.
use Rattle.std.specs.Prelude.{◌≡◌, refl, ℕ, ◌+◌, ◌-◌, ◌≤◌, ◌<◌}
use Rattle.std.proofs.Common.{arith, ne_eqb}
use Rattle.grammar.specs.declared.Entry.{Entry}
use Rattle.grammar.specs.declared.Cell.{Cell}
use Rattle.grammar.specs.Meaning.{Item, Begun, no_head}
use Rattle.laws.specs.Taken.{Taken}
use Rattle.splice.proofs.Along.{move_tok}
use Rattle.splice.specs.Moved.{move_at}

pub move-none : (a c : ℕ) → move_at a c 0 ≡ 0
unfolding move_at
move-none a c = refl

pub move_some : (a c p : ℕ) → 1 ≤ p → move_at a c p ≡ c + (p - a)
unfolding move_at
move_some a c p h = rw (ne_eqb p 0 (λ e. omega arith))

-- the byte behind a token's first, and its last
pub move-next : (a c p : ℕ) → a ≤ p → move_at a c (p + 1) ≡ c + (p - a) + 1
unfolding move_at
move-next a c p h = rw (ne_eqb (p + 1) 0 (λ e. omega arith)) (omega arith)

pub move_last : (a c p e : ℕ) → a ≤ p → 1 ≤ p → p < e → move_at a c (e - 1) ≡ c + (e - a) - 1
unfolding move_at
move_last a c p e h k l = rw (ne_eqb (e - 1) 0 (λ f. omega arith)) (omega arith)

abbrev pub move_cell : ℕ → ℕ → Cell → Cell
move_cell a c x =
    record {
      place = move_at a c x.place;
      typefrom = move_at a c x.typefrom;
      typeto = move_at a c x.typeto;
      sort = x.sort;
      pathfrom = move_at a c x.pathfrom;
      pathto = move_at a c x.pathto;
      entries = x.entries;
    }

abbrev pub move_entry : ℕ → ℕ → Entry → Entry
move_entry a c x =
    record {
      kind = x.kind;
      group = x.group;
      place = move_at a c x.place;
      edge1 = x.edge1;
      from1 = move_at a c x.from1;
      to1 = move_at a c x.to1;
      edge2 = x.edge2;
      from2 = move_at a c x.from2;
      to2 = move_at a c x.to2;
    }

abbrev pub move_item : ℕ → ℕ → Item → Item
move_item a c i = record { head = move_entry a c i.head; values = i.values }

-- a cell in hand, with so many entries before it
abbrev pub move_begun : ℕ → ℕ → ℕ → Begun → Begun
move_begun a c n x =
    record {
      place = move_at a c x.place;
      typefrom = move_at a c x.typefrom;
      typeto = move_at a c x.typeto;
      sort = x.sort;
      pathfrom = move_at a c x.pathfrom;
      pathto = move_at a c x.pathto;
      before = n;
    }

abbrev pub move_taken : ℕ → ℕ → Taken → Taken
move_taken a c x = record { by = x.by; tok = move_tok a c x.tok }

pub move-no_head : (a c : ℕ) → move_entry a c no_head ≡ no_head
move-no_head a c = rw (move-none a c)
