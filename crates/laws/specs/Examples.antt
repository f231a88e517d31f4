-- Whole texts, computed through tokens, grammar and meaning: the listing of document 01, and the smallest telling texts of the settled points.
-- Assumes nothing.
use Rattle.std.specs.Prelude.{◌≡◌, refl, true, false, List, [], ◌∷◌, ◌++◌, ℕ, pos, neg_ℤ, replicate, Some}
use Rattle.classes.specs.Text.{bytes}
use Rattle.classes.specs.Classes.{class_of}
use Rattle.scanning.specs.Scan.{scan_len, scan_st}
use Rattle.scanning.specs.Machines.{word_stop, word_next, text_stop, close_stop, text_next, blank_stop, mode_next, blank_goes}
use Rattle.tokenforms.specs.Tokens.{string_of, token_of, behind, token_at}
use Rattle.tokens.specs.Stream.{row, stream}
use Rattle.words.specs.Words.{key_of, edge_of, unit_of, scale_of, divider_of}
use Rattle.nameshape.specs.Shape.{is_name_byte, is_escapable, divider, body_next, bracket_next, name_next, name_run, may_end, is_path, is_port}
use Rattle.numbershape.specs.Shape as shape
use Rattle.numbershape.specs.Shape.{
  signs,
  digits_then,
  marked,
  exponent_fits,
  fraction_fits,
  is_number,
  leading,
  pointed,
  fraction_of,
  below_of,
  power_of,
  parts_of,
}
use Rattle.numbershape.specs.Value.{exact, number_of}
use Rattle.grammar.specs.declared.Cell.{Cell}
use Rattle.grammar.specs.Machine.{Res, fine, bad, run}
use Rattle.grammar.specs.Grammar.{alts, file, one_cell_of}
use Rattle.grammar.specs.Meaning.{Item, nothing}
use Rattle.grammar.specs.Reading.{At, reading}
use Rattle.grammar.specs.Outcome.{read_file, read_cell_of}

-- the answer: a refusal, or the cells and the entries
pub data Answer : Type 0 where
  refused : ℕ → ℕ → Answer
  lists : List Cell → List Item → Answer

abbrev pub answer : Res At → Answer
answer (fine x) = lists x.book.log.cells x.book.log.items
answer (bad n p) = refused n p

abbrev pub as_file : List ℕ → Answer
as_file s = answer (read_file 64 256 s)

-- document 01, 'One listing in full'
abbrev pub listing : List ℕ
listing =
    bytes "(DELAYFILE (SDFVERSION \"4.0\") (TIMESCALE 100 ps)"
    ++ 10 ∷ bytes "(CELL (CELLTYPE \"DFF\") (INSTANCE x.f1)"
    ++ 10 ∷ bytes "(DELAY (ABSOLUTE (IOPATH (posedge clk) q (2:3:4) (5)))"
    ++ 10 ∷ bytes "(INCREMENT (IOPATH (posedge clk) q () (-1))))"
    ++ 10 ∷ bytes "(TIMINGCHECK (SETUP d (posedge clk) (1.5)))))"
    ++ 10 ∷ []

-- 'C DFF x.f1'
abbrev pub the_cell : Cell
the_cell = record { place = 50; typefrom = 66; typeto = 69; sort = 1; pathfrom = 82; pathto = 86; entries = 3 }

-- 'A IOPATH posedge clk - q 200000:300000:400000 500000:500000:500000'
abbrev pub absolute : Item
absolute =
    record {
      head = record { kind = 1; group = 65; place = 106; edge1 = 1; from1 = 122; to1 = 125; edge2 = 0; from2 = 127; to2 = 128 };
      values =
          record { min = Some (pos 200000); typ = Some (pos 300000); max = Some (pos 400000) }
          ∷ record { min = Some (pos 500000); typ = Some (pos 500000); max = Some (pos 500000) } ∷ [];
    }

-- 'I IOPATH posedge clk - q _:_:_ -100000:-100000:-100000'
abbrev pub increment : Item
increment =
    record {
      head = record { kind = 1; group = 73; place = 155; edge1 = 1; from1 = 171; to1 = 174; edge2 = 0; from2 = 176; to2 = 177 };
      values = nothing ∷ record { min = Some (neg_ℤ (pos 100000)); typ = Some (neg_ℤ (pos 100000)); max = Some (neg_ℤ (pos 100000)) } ∷ [];
    }

-- 'T SETUP - d posedge clk 150000:150000:150000'
abbrev pub setup : Item
setup =
    record {
      head = record { kind = 11; group = 84; place = 203; edge1 = 0; from1 = 209; to1 = 210; edge2 = 1; from2 = 220; to2 = 223 };
      values = record { min = Some (pos 150000); typ = Some (pos 150000); max = Some (pos 150000) } ∷ [];
    }

pub listed : as_file listing ≡ lists (the_cell ∷ []) (absolute ∷ increment ∷ setup ∷ [])
unfolding class_of scan_len scan_st word_stop word_next text_stop close_stop text_next blank_stop mode_next blank_goes string_of token_of behind token_at row
    stream key_of edge_of unit_of scale_of divider_of is_name_byte is_escapable divider body_next bracket_next name_next name_run may_end is_path is_port shape.run
    signs digits_then marked exponent_fits fraction_fits is_number leading pointed fraction_of below_of power_of parts_of exact number_of alts file one_cell_of
    run reading read_file read_cell_of
listed = refl

-- the settled points, by their numbers in docs/DECISIONS.md
pub settled :
    -- 15: a word that an illegal byte cuts short is judged first
    (as_file (bytes "(DELAYFIL" ++ 128 ∷ 69 ∷ []) ≡ refused 4 1)
    -- 15
    × (as_file (bytes "(DELAYFILE" ++ 128 ∷ []) ≡ refused 2 10)
    -- 16: so is a string with an illegal byte inside, where no string may stand
    × (as_file (bytes "(DELAYFILE \"" ++ 128 ∷ 34 ∷ []) ≡ refused 4 11)
    -- 16: and where one may, the byte is refused
    × (as_file (bytes "(DELAYFILE(SDFVERSION\"" ++ 128 ∷ 34 ∷ []) ≡ refused 2 22)
    -- 18: never closed is first of all
    × (as_file (bytes "(DELAYFILE \"" ++ 128 ∷ 128 ∷ []) ≡ refused 3 11)
    -- 19: a text over 1,024 bytes
    × (as_file (bytes "(DELAYFILE(SDFVERSION\"4.0\")(CELL(CELLTYPE\"" ++ replicate 1025 120 ++ bytes "\")(INSTANCE)))") ≡ refused 8 41)
    -- 23: the text ends too soon
    × (as_file (bytes "") ≡ refused 4 0)
    -- 23
    × (as_file (bytes "(DELAYFILE // x") ≡ refused 4 15)
    -- 24: something behind the last bracket
    × (as_file (bytes "(DELAYFILE(SDFVERSION\"4.0\")(CELL(CELLTYPE\"T\")(INSTANCE))) (COND") ≡ refused 4 58)
    -- 38: not a word of the list
    × (as_file (bytes "(cond") ≡ refused 4 1)
    -- 39: no number
    × (as_file (bytes "(DELAYFILE(SDFVERSION\"4.0\")(CELL(CELLTYPE\"T\")(INSTANCE)(DELAY(ABSOLUTE(PORT p(.5))))))") ≡ refused 4 78)
    -- 40: a word of the list
    × (as_file (bytes "(DELAYFILE(COND") ≡ refused 5 11)
    -- 40
    × (as_file (bytes "(DELAYFILE(SDFVERSION\"4.0\")(CELL(CELLTYPE\"T\")(INSTANCE)(DELAY(ABSOLUTE(IOPATH a b(RETAIN))))") ≡ refused 5 82)
    -- 41: where the bracket is too much already
    × (as_file (bytes "(DELAYFILE(SDFVERSION\"4.0\")(CELL(CELLTYPE\"T\")(INSTANCE)(TIMINGCHECK(SETUPHOLD a b(1)(1)(SCOND x)))))") ≡ refused 4 87)
    -- 42: right after the bracket, comments left out of account
    × (as_file (bytes "( /* */ COND") ≡ refused 5 8)
    -- 46: the other divider
    × (as_file (bytes "(DELAYFILE(SDFVERSION\"4.0\")(DIVIDER /)(CELL(CELLTYPE\"T\")(INSTANCE a.b)))") ≡ refused 4 66)
    -- 48: a seventh value
    × (as_file (bytes "(DELAYFILE(SDFVERSION\"4.0\")(CELL(CELLTYPE\"T\")(INSTANCE)(DELAY(ABSOLUTE(PORT p(1)(1)(1)(1)(1)(1)(1))))))") ≡ refused 4 95)
    -- 50: header entries out of order
    × (as_file (bytes "(DELAYFILE(SDFVERSION\"4.0\")(DATE\"\")(DESIGN\"\")(CELL(CELLTYPE\"T\")(INSTANCE)))") ≡ refused 4 36)
    -- 53: a sign where none may be
    × (as_file (bytes "(DELAYFILE(SDFVERSION\"4.0\")(CELL(CELLTYPE\"T\")(INSTANCE)(TIMINGCHECK(WIDTH a(-0)))))") ≡ refused 4 76)
    -- '0.0000001 is refused 6'
    × (as_file (bytes "(DELAYFILE(SDFVERSION\"4.0\")(CELL(CELLTYPE\"T\")(INSTANCE)(DELAY(ABSOLUTE(PORT p(0.0000001))))))") ≡ refused 6 78)
    -- '1000000000.000001 is refused 7'
    × (as_file (bytes "(DELAYFILE(SDFVERSION\"4.0\")(CELL(CELLTYPE\"T\")(INSTANCE)(DELAY(ABSOLUTE(PORT p(1000000000.000001))))))") ≡ refused 7 78)
unfolding class_of scan_len scan_st word_stop word_next text_stop close_stop text_next blank_stop mode_next blank_goes string_of token_of behind token_at row
    stream key_of edge_of unit_of scale_of divider_of is_name_byte is_escapable divider body_next bracket_next name_next name_run may_end is_path is_port shape.run
    signs digits_then marked exponent_fits fraction_fits is_number leading pointed fraction_of below_of power_of parts_of exact number_of alts file one_cell_of
    run reading read_file read_cell_of
settled = (refl, refl, refl, refl, refl, refl, refl, refl, refl, refl, refl, refl, refl, refl, refl, refl, refl, refl, refl, refl, refl)

abbrev pub a_cell : List ℕ
a_cell = bytes "(CELL(CELLTYPE\"T\")(INSTANCE)(DELAY(ABSOLUTE(PORT p()))))"

-- a file with this cell twice
abbrev pub twice : List ℕ
twice = bytes "(DELAYFILE(SDFVERSION\"4.0\")" ++ a_cell ++ a_cell ++ bytes ")"

-- rooms, and a patch's cell
pub roomy :
    -- 21: an entry without room is refused at its keyword, whatever follows
    (answer (read_file 1 0 (bytes "(DELAYFILE(SDFVERSION\"4.0\")(CELL(CELLTYPE\"T\")(INSTANCE)(DELAY(ABSOLUTE(PORT(")) ≡ refused 9 71)
    -- 22: the room for entries is that of the whole text
    × (answer (read_file 9 1 twice) ≡ refused 9 127)
    -- a cell without room
    × (answer (read_file 0 9 twice) ≡ refused 9 28)
    -- 'one cell, white space and comments around it, read with the file's divider'
    × (answer (read_cell_of true 6 1 0 (bytes " (CELL(CELLTYPE\"T\")(INSTANCE a/b)) // that is all"))
    ≡ lists (record { place = 2; typefrom = 16; typeto = 17; sort = 1; pathfrom = 29; pathto = 32; entries = 0 } ∷ []) [])
    -- '4 and 5 then speak of a cell'
    × (answer (read_cell_of true 6 1 0 (bytes "(DELAYFILE")) ≡ refused 4 1)
    -- 12: 'a lent cell table without room for one cell'
    × (answer (read_cell_of false 6 0 0 (bytes "(CELL(CELLTYPE\"T\")(INSTANCE))")) ≡ refused 9 1)
unfolding class_of scan_len scan_st word_stop word_next text_stop close_stop text_next blank_stop mode_next blank_goes string_of token_of behind token_at row
    stream key_of edge_of unit_of scale_of divider_of is_name_byte is_escapable divider body_next bracket_next name_next name_run may_end is_path is_port shape.run
    signs digits_then marked exponent_fits fraction_fits is_number leading pointed fraction_of below_of power_of parts_of exact number_of alts file one_cell_of
    run reading read_file read_cell_of
roomy = (refl, refl, refl, refl, refl, refl)
