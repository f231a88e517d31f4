-- An entry's keyword right behind its opening bracket.
-- Assumes nothing.
use Rattle.std.specs.Prelude.{◌≡◌, refl, Bool, true, false, List, ◌⊎◌, ℕ, ◌≤◌, ◌<◌, eqb, leb, length, Result, Ok, Err}
use Rattle.std.proofs.Common.{inl, inr, eqb-true, leb-true, leb-false}
use Rattle.std.proofs.Math.Option.{none}
use borrow.Author.Tests.{eqb-false}
use Rattle.classes.specs.Choice.{pick, and, within}
use Rattle.tokenforms.specs.declared.Token.{Token}
use Rattle.tokenforms.specs.declared.Refusal.{Refusal}
use Rattle.tokenforms.specs.Tokens.{Refused, token_at}
use Rattle.tokens.specs.Stream.{part, Placed, placed}
use Rattle.words.specs.Words.{key_of}
use Rattle.grammar.specs.Ll.{choose}
use Rattle.grammar.specs.declared.Value.{Value}
use Rattle.grammar.specs.declared.Entry.{Entry}
use Rattle.grammar.specs.Grammar.{N, alts, fits, delay, check}
use Rattle.grammar.specs.Meaning.{wrongly}
use Rattle.grammar.specs.Outcome.{Stack}
use Rattle.rules.specs.Promises.{Entered, Listable}
use Rattle.rules.specs.Entries.{Chosen, listable_not, listable_long, listable_full, listable_done, delay_tail, check_tail}
use Rattle.rules.specs.Entries.{no_delay_kind, no_delay, delay_chosen, no_check_kind, no_check, check_chosen}
use Rattle.entries.specs.declared.Started.{Started}

-- a keyword of a kind from lo to hi is not 'over 1,024 bytes' (8), and there is room for its entry (9)
abbrev pub start : List ℕ → Token → ℕ → ℕ → ℕ → ℕ → Result Started Refusal
start s t lo hi g room =
    pick (and (eqb t.kind 7) (within lo hi (key_of (part t.start t.end s))))
    (pick t.long (Refused 8 t.start) (pick (eqb room 0) (Refused 9 t.start) (Ok (record { kind = key_of (part t.start t.end s); group = g; place = t.start }))))
    (Refused (wrongly true t.kind (part t.start t.end s)) t.start)

-- At the place y of the grammar, whose keywords are of the kinds lo to hi: the entry is what is read behind the keyword, which ends at e;
-- or why there is none.
abbrev pub Starts : List ℕ → ℕ → ℕ → N → Bool → ℕ → ℕ → ℕ → ℕ → (ℕ → Stack) → Result Started Refusal → Type 0
Starts s p e y slash unit room lo hi tail (Ok v) =
    ((r : Result ℕ Refusal) (h : Entry) (vs : List Value) →
    Entered s e (tail v.kind) slash unit v.kind v.group v.place r h vs → Listable s p y slash unit room r h vs)
    × (lo ≤ v.kind) × (v.kind ≤ hi)
Starts s p e y slash unit room lo hi tail (Err why) = (h : Entry) (vs : List Value) → Listable s p y slash unit room (Err why) h vs

-- of the tokens there, only a keyword of such a kind takes an alternative
abbrev Takes : Placed → N → ℕ → ℕ → ℕ → (ℕ → Stack) → Type 0
Takes q y lo hi g tail =
    (q.kind ≡ 7 → lo ≤ key_of q.bytes → key_of q.bytes ≤ hi → (a b : ℕ) × Chosen q y a b g (tail (key_of q.bytes)))
    × ((q.kind ≡ 7 → ⊥) → choose fits (alts y) q ≡ none)
    × (q.kind ≡ 7 → (key_of q.bytes < lo) ⊎ (hi < key_of q.bytes) → choose fits (alts y) q ≡ none)

module _ (s : List ℕ) (p k b e : ℕ) (long : Bool) (h : p ≤ length s) (tok : token_at s p ≡ Ok (record { kind = k; start = b; end = e; long = long })) where
  module _ (y : N) (slash : Bool) (unit room lo hi g : ℕ) (tail : ℕ → Stack) (w : Takes (placed s k b e long) y lo hi g tail) where
    starts : Starts s p e y slash unit room lo hi tail (start s (record { kind = k; start = b; end = e; long = long }) lo hi g room)
    starts = by (eqb k 7) (leb lo key) (leb key hi) long (eqb room 0) refl refl refl refl refl
      where
        key : ℕ
        key = key_of (part b e s)

        by : (x m n l z : Bool) → eqb k 7 ≡ x → leb lo key ≡ m → leb key hi ≡ n → long ≡ l → eqb room 0 ≡ z → Starts s p e y slash unit room lo hi tail
            (pick (and x (and m n)) (pick l (Refused 8 b) (pick z (Refused 9 b) (Ok (record { kind = key; group = g; place = b }))))
            (Refused (wrongly true k (part b e s)) b))
        by false m n l z ex em en el ez = λ x vs. listable_not s p k b e long h tok y slash unit room _ x vs refl (w.1 (eqb-false k 7 ex))
        by true false n l z ex em en el ez =
            λ x vs. listable_not s p k b e long h tok y slash unit room _ x vs refl (w.2 (eqb-true k 7 ex) (inl (leb-false lo key em)))
        by true true false l z ex em en el ez =
            λ x vs. listable_not s p k b e long h tok y slash unit room _ x vs refl (w.2 (eqb-true k 7 ex) (inr (leb-false key hi en)))
        by true true true true z ex em en el ez =
            let a = w.0 (eqb-true k 7 ex) (leb-true lo key em) (leb-true key hi en) in
            λ x vs. listable_long s p k b e long h tok y slash unit room a.0 a.1 g (tail key) a.2 x vs el
        by true true true false true ex em en el ez =
            let a = w.0 (eqb-true k 7 ex) (leb-true lo key em) (leb-true key hi en) in
            λ x vs. listable_full s p k b e long h tok y slash unit room a.0 a.1 g (tail key) a.2 x vs el (eqb-true room 0 ez)
        by true true true false false ex em en el ez =
            let q = eqb-true k 7 ex in
            let a = w.0 q (leb-true lo key em) (leb-true key hi en) in (
              λ r x vs u. listable_done s p k b e long h tok y slash unit room a.0 a.1 g (tail key) a.2 r x vs q el (eqb-false room 0 ez) u,
              leb-true lo key em,
              leb-true key hi en,
            )

  -- an entry of the group g, and a check
  module _ (slash : Bool) (unit room : ℕ) where
    pub delay-starts : (g : ℕ) → Starts s p e (delay g slash) slash unit room 1 4 (λ i. delay_tail i slash)
        (start s (record { kind = k; start = b; end = e; long = long }) 1 4 g room)
    delay-starts g =
        let q = placed s k b e long in
        starts (delay g slash) slash unit room 1 4 g (λ i. delay_tail i slash) (delay_chosen q g slash, no_delay_kind q g slash, no_delay q g slash)

    pub check-starts : Starts s p e (check slash) slash unit room 11 21 (λ i. check_tail i slash)
        (start s (record { kind = k; start = b; end = e; long = long }) 11 21 84 room)
    check-starts =
        let q = placed s k b e long in
        starts (check slash) slash unit room 11 21 84 (λ i. check_tail i slash) (check_chosen q 84 slash, no_check_kind q 84 slash, no_check q 84 slash)
