-- What the readers of the code promise: equations between readings. Reading on from this stack at this place is reading on from the stack
-- behind the construct at the place that the answer gives, with what was read in the log; or it is the answer's refusal. What the code
-- knows is an argument of the state, what it does not know is a 'for every'.
-- Assumes nothing.
use Rattle.std.specs.Prelude.{◌≡◌, Bool, true, false, List, [], ◌∷◌, ◌++◌, ℕ, ◌+◌, ◌-◌, ◌≤◌, ◌<◌, eqb, length, take, ℤ, Result, Ok, Err}
use Rattle.classes.specs.Choice.{pick}
use Rattle.tokens.specs.Stream.{Placed, part}
use Rattle.numbershape.specs.declared.NotTime.{NotTime}
use Rattle.numbershape.specs.declared.NotTime.TheVariants.{Fine, Beyond, Wrong}
use Rattle.grammar.specs.declared.Span.{Span}
use Rattle.grammar.specs.declared.End.{End}
use Rattle.tokenforms.specs.declared.Refusal.{Refusal}
use Rattle.grammar.specs.Ll.{Sym, lit, non}
use Rattle.grammar.specs.Machine.{Res, fine, bad}
use Rattle.grammar.specs.declared.Value.{Value}
use Rattle.grammar.specs.declared.ReadValue.{ReadValue}
use Rattle.grammar.specs.declared.Entry.{Entry}
use Rattle.grammar.specs.declared.Values.{Values}
use Rattle.grammar.specs.declared.ReadEntry.{ReadEntry}
use Rattle.grammar.specs.Grammar.{Term, N, Note, this, word, port, edges, time, ◌!◌, ◌‼◌, value, values, value_list, ⟨, ⟩, end?, edged, end, Cls, file, header}
use Rattle.grammar.specs.Grammar as G
use Rattle.grammar.specs.declared.Hand.{Hand}
use Rattle.grammar.specs.declared.Head.{Head}
use Rattle.tokenforms.specs.Tokens.{token_at}
use Rattle.tokenforms.specs.Tokens.{Got}
use Rattle.words.specs.Words.{key_of}
use Rattle.grammar.specs.Meaning.{Log, valued, pushed, timely, noted, nothing, headed, edge_put, end_put, Item, item_of, started, entered, tidy, no_head}
use Rattle.grammar.specs.Reading.{At, reading, stepped}
use Rattle.grammar.specs.Outcome.{Stack, state}

-- the refusal of a word at a number's place that is no time; w is what it is if it has no number's shape
abbrev pub refusal_of : Result ℤ NotTime → ℕ → ℕ
refusal_of (Ok z) w = 8
refusal_of (Err Fine) w = 6
refusal_of (Err Beyond) w = 7
refusal_of (Err Wrong) w = w

-- a number where one is expected
abbrev pub took_number : Result ℤ Refusal → ℕ → Stack → Bool → ℕ → ℕ → ℕ → Log → Res At
took_number (Ok z) k ss slash unit cr ir l = fine (state ss false slash unit cr ir (valued (timely k z l.value) l))
took_number (Err why) k ss slash unit cr ir l = bad why.number why.place

abbrev pub NumberHere : Placed → Bool → ℕ → Bool → Result ℤ Refusal → Type 0
NumberHere t signed unit o r =
    (k : ℕ) (ss : Stack) (slash : Bool) (cr ir : ℕ) (l : Log) →
    stepped (state (lit (G.number signed ‼ time signed k) ∷ ss) o slash unit cr ir l) t ≡ took_number r k ss slash unit cr ir l

-- a mark where it is expected
abbrev pub Marked : List ℕ → ℕ → ℕ → Result ℕ Refusal → Type 0
Marked s p k (Ok e) =
    (t : Placed) × ((n : Note) (ss : Stack) (slash : Bool) (unit cr ir : ℕ) (l : Log) →
    reading s (state (lit (this k ! n) ∷ ss) false slash unit cr ir l) p ≡ reading s (state ss (eqb k 2) slash unit cr ir (noted n t l)) e)
    × (p < e) × (e ≤ length s)
Marked s p k (Err why) =
    (m : Note) (ss : Stack) (slash : Bool) (unit cr ir : ℕ) (l : Log) → reading s (state (lit (this k ! m) ∷ ss) false slash unit cr ir l) p ≡ bad why.number why.place

-- a value was read, or refused
abbrev pub after_value : List ℕ → Result ReadValue Refusal → Stack → Bool → ℕ → ℕ → ℕ → Log → Res At
after_value s (Ok got) ss slash unit cr ir l = reading s (state ss false slash unit cr ir (pushed got.value l)) got.end
after_value s (Err why) ss slash unit cr ir l = bad why.number why.place

abbrev pub Ahead : ℕ → ℕ → Result ReadValue Refusal → Type 0
Ahead p n (Ok got) = (p < got.end) × (got.end ≤ n)
Ahead p n (Err why) = Unit {0}

-- from this place of the grammar, with this value in hand, the answer is what the reading is
abbrev pub Reads : List ℕ → ℕ → Sym Term N → Bool → Value → ℕ → Result ReadValue Refusal → Type 0
Reads s p y o v unit r =
    ((ss : Stack) (slash : Bool) (cr ir : ℕ) (l : Log) →
    reading s (state (y ∷ ss) o slash unit cr ir (valued v l)) p ≡ after_value s r ss slash unit cr ir l)
    × Ahead p (length s) r

abbrev pub ReadsValue : List ℕ → ℕ → Bool → ℕ → Result ReadValue Refusal → Type 0
ReadsValue s p signed unit r = (v : Value) → Reads s p (non (value signed)) true v unit r

-- a value with its opening bracket
abbrev pub OpensValue : List ℕ → ℕ → Bool → ℕ → Result ReadValue Refusal → Type 0
OpensValue s p sg unit r =
    ((ss : Stack) (slash : Bool) (cr ir : ℕ) (l : Log) →
    reading s (state (⟨ ∷ non (value sg) ∷ ss) false slash unit cr ir l) p ≡ after_value s r ss slash unit cr ir l)
    × Ahead p (length s) r

-- values more in hand
abbrev pub listed : List Value → Log → Log
listed vs l =
    record { texts = l.texts; cells = l.cells; items = l.items; begun = l.begun; head = l.head; values = l.values ++ vs; value = nothing }

-- from a place behind an opening bracket, these values have been read up to this place
abbrev pub Listed : List ℕ → ℕ → ℕ → ℕ → List Value → ℕ → Type 0
Listed s p unit q vs n =
    (ss : Stack) (slash : Bool) (cr ir : ℕ) (l : Log) →
    reading s (state (non (value true) ∷ non (values 1) ∷ ss) true slash unit cr ir l) p ≡ reading s (state (non (values n) ∷ ss) false slash unit cr ir (listed vs l)) q

-- the entry in hand is closed
abbrev pub shut : Log → Log
shut l = entered (item_of l ∷ []) l

-- values that were read: where they end, and which they are
abbrev pub list_end : Result Values Refusal → Result ℕ Refusal
list_end (Ok got) = Ok got.end
list_end (Err why) = Err why

abbrev pub list_of : Result Values Refusal → List Value
list_of (Ok got) = take got.count got.list
list_of (Err why) = []

-- all the values of an entry have been read, from this stack on, and the entry is closed
abbrev pub ValuesFrom : List ℕ → ℕ → Stack → Bool → ℕ → Result ℕ Refusal → List Value → Type 0
ValuesFrom s p ys o unit (Ok e) vs =
    ((ss : Stack) (slash : Bool) (cr ir : ℕ) (l : Log) →
    reading s (state (ys ++ ss) o slash unit cr ir l) p ≡ reading s (state ss false slash unit cr ir (shut (listed vs l))) e)
    × (p < e) × (e ≤ length s)
ValuesFrom s p ys o unit (Err why) vs =
    (ss : Stack) (slash : Bool) (cr ir : ℕ) (l : Log) → reading s (state (ys ++ ss) o slash unit cr ir l) p ≡ bad why.number why.place

abbrev pub ReadsValues : List ℕ → ℕ → ℕ → Result ℕ Refusal → List Value → Type 0
ReadsValues s p unit st vs = ValuesFrom s p (non (value true) ∷ non (values 1) ∷ []) true unit st vs

-- the same with the first one's opening bracket
abbrev pub OpensValues : List ℕ → ℕ → ℕ → Result ℕ Refusal → List Value → Type 0
OpensValues s p unit st vs = ValuesFrom s p value_list false unit st vs

-- a port's name where one is expected: taken, or the refusal
abbrev pub PortHere : Placed → Bool → Result (Unit {0}) Refusal → Type 0
PortHere t slash (Ok u) =
    (n : Note) (ss : Stack) (unit cr ir : ℕ) (l : Log) →
    stepped (state (lit (port slash ! n) ∷ ss) false slash unit cr ir l) t ≡ fine (state ss false slash unit cr ir (noted n t l))
PortHere t slash (Err why) =
    (n : Note) (ss : Stack) (unit cr ir : ℕ) (l : Log) →
    stepped (state (lit (port slash ! n) ∷ ss) false slash unit cr ir l) t ≡ bad why.number why.place

-- a word or a string where one of this class is expected; o whether an opening bracket stands before it
abbrev pub ReadsOne : List ℕ → ℕ → Cls → Bool → Bool → Result Span Refusal → Type 0
ReadsOne s p c o slash (Ok span) =
    (t : Placed) × ((n : Note) (ss : Stack) (unit cr ir : ℕ) (l : Log) →
    reading s (state (lit (c ! n) ∷ ss) o slash unit cr ir l) p ≡ reading s (state ss false slash unit cr ir (noted n t l)) span.to)
    × (t.start ≡ span.from) × (t.end ≡ span.to) × (p < span.to) × (span.to ≤ length s)
ReadsOne s p c o slash (Err why) =
    (m : Note) (ss : Stack) (unit cr ir : ℕ) (l : Log) → reading s (state (lit (c ! m) ∷ ss) o slash unit cr ir l) p ≡ bad why.number why.place

abbrev pub ReadsPort : List ℕ → ℕ → Bool → Result Span Refusal → Type 0
ReadsPort s p slash r = ReadsOne s p (port slash) false slash r

abbrev pub an_edge : Cls
an_edge = word edges 1 8

abbrev pub EdgeIs : Placed → Result ℕ Refusal → Type 0
EdgeIs t (Ok g) =
    (i : Bool) (ss : Stack) (slash : Bool) (unit cr ir : ℕ) (l : Log) →
    stepped (state (lit (an_edge ! (edged i)) ∷ ss) true slash unit cr ir l) t ≡ fine (state ss false slash unit cr ir (headed (edge_put i g l.head) l))
EdgeIs t (Err why) =
    (i : Bool) (ss : Stack) (slash : Bool) (unit cr ir : ℕ) (l : Log) →
    stepped (state (lit (an_edge ! (edged i)) ∷ ss) true slash unit cr ir l) t ≡ bad why.number why.place

-- an end was read from this stack on, or refused
abbrev pub EndFrom : List ℕ → ℕ → Stack → Bool → Bool → Bool → Result End Refusal → Type 0
EndFrom s p ys o i slash (Ok stop) =
    ((ss : Stack) (unit cr ir : ℕ) (l : Log) →
    reading s (state (ys ++ ss) o slash unit cr ir l) p ≡ reading s (state ss false slash unit cr ir (headed (end_put i stop.edge stop.from stop.to l.head) l)) stop.end)
    × (p < stop.end) × (stop.end ≤ length s)
EndFrom s p ys o i slash (Err why) = (ss : Stack) (unit cr ir : ℕ) (l : Log) → reading s (state (ys ++ ss) o slash unit cr ir l) p ≡ bad why.number why.place

abbrev pub ReadsEnd : List ℕ → ℕ → Bool → Bool → Result End Refusal → Type 0
ReadsEnd s p i slash r = EndFrom s p (non (end? i slash) ∷ []) false i slash r

abbrev pub ReadsEdged : List ℕ → ℕ → Bool → Bool → Result End Refusal → Type 0
ReadsEdged s p i slash r = EndFrom s p (lit (an_edge ! (edged i)) ∷ lit (port slash ! (end i)) ∷ ⟩ ∷ []) true i slash r

abbrev pub item : Entry → List Value → Item
item h vs = record { head = h; values = vs }

-- an entry that was read: where it ends, what it is without its values, and its values
abbrev pub entry_end : Result ReadEntry Refusal → Result ℕ Refusal
entry_end (Ok got) = Ok got.values.end
entry_end (Err why) = Err why

abbrev pub entry_of : Result ReadEntry Refusal → Entry
entry_of (Ok got) = got.entry
entry_of (Err why) = no_head

abbrev pub values_of : Result ReadEntry Refusal → List Value
values_of (Ok got) = take got.values.count got.values.list
values_of (Err why) = []

-- an entry of this kind and group, whose keyword stands at pl, was read from behind its keyword, or refused
abbrev pub Entered : List ℕ → ℕ → Stack → Bool → ℕ → ℕ → ℕ → ℕ → Result ℕ Refusal → Entry → List Value → Type 0
Entered s p ys slash unit k g pl (Ok e) h vs =
    ((ss : Stack) (cr ir : ℕ) (l : Log) →
    reading s (state (ys ++ ss) false slash unit cr ir (started k g pl l)) p ≡ reading s (state ss false slash unit cr ir (entered (item h vs ∷ []) l)) e)
    × (p < e) × (e ≤ length s)
Entered s p ys slash unit k g pl (Err why) h vs =
    (ss : Stack) (cr ir : ℕ) (l : Log) → reading s (state (ys ++ ss) false slash unit cr ir (started k g pl l)) p ≡ bad why.number why.place

-- an entry was read at this place of the grammar, from behind its opening bracket, or refused; room is how many entries there is room for
abbrev pub Listable : List ℕ → ℕ → N → Bool → ℕ → ℕ → Result ℕ Refusal → Entry → List Value → Type 0
Listable s p y slash unit room (Ok e) h vs =
    ((ss : Stack) (cr : ℕ) (l : Log) →
    reading s (state (non y ∷ ss) true slash unit cr room l) p ≡ reading s (state ss false slash unit cr (room - 1) (entered (item h vs ∷ []) l)) e)
    × (p < e) × (e ≤ length s) × (0 < room)
Listable s p y slash unit room (Err why) h vs =
    (ss : Stack) (cr : ℕ) (l : Log) → reading s (state (non y ∷ ss) true slash unit cr room l) p ≡ bad why.number why.place

-- a token in hand: reading on from where it was looked at; a refusal stays what it is
abbrev pub holds : List ℕ → Result Hand Refusal → At → Res At
holds s (Ok hand) st = reading s st hand.from
holds s (Err why) st = bad why.number why.place

-- what is in hand is the token there, with its keyword's number
abbrev pub InHand : List ℕ → Result Hand Refusal → Type 0
InHand s (Ok hand) = (hand.from ≤ length s) × (token_at s hand.from ≡ Ok hand.token)
    × (hand.key ≡ pick (eqb hand.token.kind 7) (key_of (part hand.token.start hand.token.end s)) 0)
InHand s (Err why) = Unit {0}

-- the header was read: from the start of a file, with these places of its texts, up to the first cell's keyword
abbrev pub HeaderRead : List ℕ → List ℕ → List ℕ → Result Head Refusal → Type 0
HeaderRead s ts ts' (Ok head) =
    ((cr ir : ℕ) →
    reading s (state file false false 6 cr ir (tidy ts [] [])) 0 ≡
    reading s (state (non (header 10 head.slash) ∷ []) true head.slash head.unit cr ir (tidy ts' [] [])) head.hand.from)
    × InHand s (Ok head.hand)
HeaderRead s ts ts' (Err why) = (cr ir : ℕ) → reading s (state file false false 6 cr ir (tidy ts [] [])) 0 ≡ bad why.number why.place
