-- The judgment of one token that the grammar takes, against the plain statements: it passes where nothing is amiss, and else it is refused
-- at its place with the lowest number of what is amiss.
-- Assumes nothing.
use Rattle.std.specs.Prelude.{◌≡◌, refl, Bool, true, false, [], ◌∷◌, ◌⊎◌, ℕ, ◌-◌, ◌≤◌, eqb, length, ℤ, Result, Ok, Err}
use Rattle.std.proofs.Common.{sym, ap, subst, ◌∙◌, true≢false, inl, inr, ⊎_elim, arith, eqb-true}
use Rattle.std.proofs.lemmas.Bool.{eqb-false}
use Rattle.classes.specs.Choice.{pick}
use Rattle.tokens.specs.Stream.{Placed}
use Rattle.numbershape.specs.Value.{number_of}
use Rattle.numbershape.specs.declared.NotTime.{NotTime}
use Rattle.numbershape.specs.declared.NotTime.TheVariants.{Fine, Beyond, Wrong}
use Rattle.grammar.specs.Machine.{Res, fine, bad, fine_inj, bad≢fine}
use Rattle.grammar.specs.Grammar.{Cls, Act, note, divide, scaled, unity, joined, cell, entry, time}
use Rattle.grammar.specs.Meaning.{Book, overlong, refused≢fine, timed, judge, judge_by}
use Rattle.laws.specs.Taken.{Taken, rescaled, opens_cell, opens_entry, cell_words, entry_words, Timely, Short, Amiss, broken, beyond, long, no_cell, no_entry}
use Rattle.laws.specs.Phases.{Sound}

-- a token that passes, and what is known behind it
pub record Passed (b : Book) (x : Taken) (d : Book) : Type 0 where
  pub timely : Timely b.unit x
  pub short : Short x
  pub cell_fits : opens_cell x.by.act ≡ true → 1 ≤ b.cell_room
  pub entry_fits : opens_entry x.by.act ≡ true → 1 ≤ b.item_room
  pub unit : d.unit ≡ rescaled x.by.act x.tok b.unit
  pub cells : d.cell_room ≡ b.cell_room - length (cell_words (x ∷ []))
  pub entries : d.item_room ≡ b.item_room - length (entry_words (x ∷ []))
  pub opened : d.opened ≡ eqb x.tok.kind 2

-- a token that is refused, at its place and with the lowest number of what is amiss
pub record Blamed (b : Book) (x : Taken) (n q : ℕ) : Type 0 where
  pub place : q ≡ x.tok.start
  pub amiss : Amiss b.unit b.cell_room b.item_room [] x n
  pub least : (m : ℕ) → Amiss b.unit b.cell_room b.item_room [] x m → n ≤ m

abbrev pair : Cls → Act → Placed → Taken
pair c a t = record { by = record { cls = c; act = a }; tok = t }

abbrev is_time : Act → Bool
is_time (note n) = false
is_time (divide d) = false
is_time scaled = false
is_time unity = false
is_time joined = false
is_time cell = false
is_time (entry g) = false
is_time (time s k) = true

untimed : (b : Book) (c : Cls) (a : Act) (t : Placed) → is_time a ≡ false → Timely b.unit (pair c a t)
untimed b c a t h s k e = absurd (true≢false (ap is_time (sym e) ∙ h))

-- a test that refuses
pub pick_fine : (v : Bool) (n s : ℕ) (r : Res Book) (d : Book) → pick v (bad n s) r ≡ fine d → (v ≡ false) × (r ≡ fine d)
pick_fine true n s r d e = absurd (bad≢fine e)
pick_fine false n s r d e = (refl, e)

bad_inj : {n m p q : ℕ} → ◌≡◌ {A = Res Book} (bad n p) (bad m q) → (n ≡ m) × (p ≡ q)
bad_inj e = (cc, cc)

pick_bad : (v : Bool) (m s : ℕ) (r : Res Book) (n q : ℕ) → pick v (bad m s) r ≡ bad n q →
    ((v ≡ true) × ((m ≡ n) × (s ≡ q))) ⊎ ((v ≡ false) × (r ≡ bad n q))
pick_bad true m s r n q e = inl (refl, bad_inj e)
pick_bad false m s r n q e = inr (refl, e)

-- what passes where the room is not touched
plainly : (b : Book) (x : Taken) (d : Book) → Timely b.unit x → opens_cell x.by.act ≡ false → opens_entry x.by.act ≡ false → Short x →
    d.unit ≡ rescaled x.by.act x.tok b.unit → d.cell_room ≡ b.cell_room → d.item_room ≡ b.item_room → d.opened ≡ eqb x.tok.kind 2 →
    Passed b x d
plainly b x d y c i s u p q o =
    record {
      timely = y;
      short = s;
      cell_fits = λ e. absurd (true≢false (sym e ∙ c));
      entry_fits = λ e. absurd (true≢false (sym e ∙ i));
      unit = u;
      cells = rw c (omega arith);
      entries = rw i (omega arith);
      opened = o;
    }

simply : (b : Book) (c : Cls) (a : Act) (t : Placed) (d₀ d : Book) → Timely b.unit (pair c a t) → opens_cell a ≡ false → opens_entry a ≡ false →
    d₀.unit ≡ rescaled a t b.unit → d₀.cell_room ≡ b.cell_room → d₀.item_room ≡ b.item_room → d₀.opened ≡ eqb t.kind 2 →
    pick (overlong c t) (bad 8 t.start) (fine d₀) ≡ fine d → Passed b (pair c a t) d
simply b c a t d₀ d y i j u p q o e =
    let (s, f) = pick_fine (overlong c t) 8 t.start (fine d₀) d e in
    subst (λ (x : Book). Passed b (pair c a t) x) (fine_inj f) (plainly b (pair c a t) d₀ y i j s u p q o)

passed_by : (b : Book) (c : Cls) (a : Act) (t : Placed) (d : Book) → judge_by b c a t ≡ fine d → Passed b (pair c a t) d
passed_by b c (note n) t d e = simply b c (note n) t _ d (untimed b c (note n) t refl) refl refl refl refl refl refl e
passed_by b c (divide w) t d e = simply b c (divide w) t _ d (untimed b c (divide w) t refl) refl refl refl refl refl refl e
passed_by b c scaled t d e = simply b c scaled t _ d (untimed b c scaled t refl) refl refl refl refl refl refl e
passed_by b c unity t d e = simply b c unity t _ d (untimed b c unity t refl) refl refl refl refl refl refl e
passed_by b c joined t d e = simply b c joined t _ d (untimed b c joined t refl) refl refl refl refl refl refl e
passed_by b c cell t d e =
    let (s, f) = pick_fine (overlong c t) 8 t.start _ d e in
    let (r, g) = pick_fine (eqb b.cell_room 0) 9 t.start _ d f in
    let z = eqb-false b.cell_room 0 r in
    subst (λ (x : Book). Passed b (pair c cell t) x) (fine_inj g)
    (record {
      timely = untimed b c cell t refl;
      short = s;
      cell_fits = λ y. omega arith;
      entry_fits = λ y. absurd (true≢false (sym y));
      unit = refl;
      cells = refl;
      entries = omega arith;
      opened = refl;
    })
passed_by b c (entry i) t d e =
    let (s, f) = pick_fine (overlong c t) 8 t.start _ d e in
    let (r, g) = pick_fine (eqb b.item_room 0) 9 t.start _ d f in
    let z = eqb-false b.item_room 0 r in
    subst (λ (x : Book). Passed b (pair c (entry i) t) x) (fine_inj g)
    (record {
      timely = untimed b c (entry i) t refl;
      short = s;
      cell_fits = λ y. absurd (true≢false (sym y));
      entry_fits = λ y. omega arith;
      unit = refl;
      cells = omega arith;
      entries = refl;
      opened = refl;
    })
passed_by b c (time g k) t d e = by (number_of g b.unit t.bytes) refl e
  where
    by : (n : Result ℤ NotTime) → number_of g b.unit t.bytes ≡ n → timed b c k t n ≡ fine d → Passed b (pair c (time g k) t) d
    by (Ok z) p e = simply b c (time g k) t _ d (λ h j y. (z, cc)) refl refl refl refl refl refl e
    by (Err y) p e = absurd (refused≢fine b c k t y e)

-- A TOKEN PASSES
pub passed : (b : Book) (x : Taken) (d : Book) → judge b x.by x.tok ≡ fine d → Passed b x d
passed b x d e = passed_by b x.by.cls x.by.act x.tok d e

module _ (u cr ir : ℕ) (x : Taken) where
  least_6 : (m : ℕ) → Amiss u cr ir [] x m → 6 ≤ m
  least_6 m (broken s k e f) = omega arith
  least_6 m (beyond s k e f) = omega arith
  least_6 m (long e) = omega arith
  least_6 m (no_cell e f) = omega arith
  least_6 m (no_entry e f) = omega arith

  least_7 : (g : Bool) (j : ℕ) → x.by.act ≡ time g j → number_of g u x.tok.bytes ≡ Err Beyond → (m : ℕ) → Amiss u cr ir [] x m → 7 ≤ m
  least_7 g j p q m (broken s k e f) = let z : ◌≡◌ {A = ℕ} 0 1 = cc in absurd (omega arith)
  least_7 g j p q m (beyond s k e f) = omega arith
  least_7 g j p q m (long e) = omega arith
  least_7 g j p q m (no_cell e f) = omega arith
  least_7 g j p q m (no_entry e f) = omega arith

  least_8 : Timely u x → (m : ℕ) → Amiss u cr ir [] x m → 8 ≤ m
  least_8 y m (broken s k e f) = let (t, g) = y s k e in let z : ◌≡◌ {A = ℕ} 0 1 = cc in absurd (omega arith)
  least_8 y m (beyond s k e f) = let (t, g) = y s k e in let z : ◌≡◌ {A = ℕ} 0 1 = cc in absurd (omega arith)
  least_8 y m (long e) = omega arith
  least_8 y m (no_cell e f) = omega arith
  least_8 y m (no_entry e f) = omega arith

  least_9 : Timely u x → Short x → (m : ℕ) → Amiss u cr ir [] x m → 9 ≤ m
  least_9 y s m (broken g k e f) = let (t, h) = y g k e in let z : ◌≡◌ {A = ℕ} 0 1 = cc in absurd (omega arith)
  least_9 y s m (beyond g k e f) = let (t, h) = y g k e in let z : ◌≡◌ {A = ℕ} 0 1 = cc in absurd (omega arith)
  least_9 y s m (long e) = absurd (true≢false (sym e ∙ s))
  least_9 y s m (no_cell e f) = omega arith
  least_9 y s m (no_entry e f) = omega arith

  -- where all is well nothing is amiss
  pub nothing_amiss : Timely u x → Short x → (opens_cell x.by.act ≡ true → 1 ≤ cr) → (opens_entry x.by.act ≡ true → 1 ≤ ir) →
      (m : ℕ) → Amiss u cr ir [] x m → ⊥
  nothing_amiss y s c i m (broken g k e f) = let (t, h) = y g k e in let z : ◌≡◌ {A = ℕ} 0 1 = cc in omega arith
  nothing_amiss y s c i m (beyond g k e f) = let (t, h) = y g k e in let z : ◌≡◌ {A = ℕ} 0 1 = cc in omega arith
  nothing_amiss y s c i m (long e) = true≢false (sym e ∙ s)
  nothing_amiss y s c i m (no_cell e f) = let z = c e in omega arith
  nothing_amiss y s c i m (no_entry e f) = let z = i e in omega arith

too_long : (b : Book) (x : Taken) (n q : ℕ) → Timely b.unit x → (overlong x.by.cls x.tok ≡ true) × ((8 ≡ n) × (x.tok.start ≡ q)) →
    Blamed b x n q
too_long b x n q y (v, (i, p)) =
    rw (← i) (record { place = sym p; amiss = long v; least = least_8 b.unit b.cell_room b.item_room x y })

plain_blame : (b : Book) (x : Taken) (d : Book) (n q : ℕ) → Timely b.unit x →
    pick (overlong x.by.cls x.tok) (bad 8 x.tok.start) (fine d) ≡ bad n q → Blamed b x n q
plain_blame b x d n q y e =
    ⊎_elim (too_long b x n q y) (λ (v, f). absurd (bad≢fine (sym f))) (pick_bad (overlong x.by.cls x.tok) 8 x.tok.start (fine d) n q e)

room_blame : (b : Book) (x : Taken) (d : Book) (n q r : ℕ) → Timely b.unit x → (r ≡ 0 → Amiss b.unit b.cell_room b.item_room [] x 9) →
    pick (overlong x.by.cls x.tok) (bad 8 x.tok.start) (pick (eqb r 0) (bad 9 x.tok.start) (fine d)) ≡ bad n q → Blamed b x n q
room_blame b x d n q r y a e =
    ⊎_elim (too_long b x n q y)
    (λ (v, f). ⊎_elim
    (λ (z, (i, p)). rw (← i) (record { place = sym p; amiss = a (eqb-true r 0 z); least = least_9 b.unit b.cell_room b.item_room x y v }))
    (λ (z, g). absurd (bad≢fine (sym g))) (pick_bad (eqb r 0) 9 x.tok.start (fine d) n q f))
    (pick_bad (overlong x.by.cls x.tok) 8 x.tok.start _ n q e)

blamed_by : (b : Book) (c : Cls) (a : Act) (t : Placed) (n q : ℕ) → Sound (record { cls = c; act = a }) t → judge_by b c a t ≡ bad n q →
    Blamed b (pair c a t) n q
blamed_by b c (note m) t n q o e = plain_blame b (pair c (note m) t) _ n q (untimed b c (note m) t refl) e
blamed_by b c (divide w) t n q o e = plain_blame b (pair c (divide w) t) _ n q (untimed b c (divide w) t refl) e
blamed_by b c scaled t n q o e = plain_blame b (pair c scaled t) _ n q (untimed b c scaled t refl) e
blamed_by b c unity t n q o e = plain_blame b (pair c unity t) _ n q (untimed b c unity t refl) e
blamed_by b c joined t n q o e = plain_blame b (pair c joined t) _ n q (untimed b c joined t refl) e
blamed_by b c cell t n q o e = room_blame b (pair c cell t) _ n q b.cell_room (untimed b c cell t refl) (λ z. no_cell refl (omega arith)) e
blamed_by b c (entry g) t n q o e =
    room_blame b (pair c (entry g) t) _ n q b.item_room (untimed b c (entry g) t refl) (λ z. no_entry refl (omega arith)) e
blamed_by b c (time g k) t n q o e = by (number_of g b.unit t.bytes) refl e
  where
    x : Taken
    x = pair c (time g k) t

    by : (r : Result ℤ NotTime) → number_of g b.unit t.bytes ≡ r → timed b c k t r ≡ bad n q → Blamed b x n q
    by (Ok z) p e = plain_blame b x _ n q (λ h j y. (z, cc)) e
    by (Err Fine) p e =
        let (i, j) = bad_inj e in
        rw (← i) (record { place = sym j; amiss = broken g k refl p; least = least_6 b.unit b.cell_room b.item_room x })
    by (Err Beyond) p e =
        let (i, j) = bad_inj e in
        rw (← i) (record { place = sym j; amiss = beyond g k refl p; least = least_7 b.unit b.cell_room b.item_room x g k refl p })
    by (Err Wrong) p e = absurd (o g k b.unit refl p)

-- A TOKEN IS REFUSED
pub blamed : (b : Book) (x : Taken) (n q : ℕ) → Sound x.by x.tok → judge b x.by x.tok ≡ bad n q → Blamed b x n q
blamed b x n q o e = blamed_by b x.by.cls x.by.act x.tok n q o e

-- a token that passes has nothing amiss
pub clean : (b : Book) (x : Taken) (d : Book) → Passed b x d → (m : ℕ) → Amiss b.unit b.cell_room b.item_room [] x m → ⊥
clean b x d p = nothing_amiss b.unit b.cell_room b.item_room x p.timely p.short p.cell_fits p.entry_fits
