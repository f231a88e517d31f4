-- The new file of some small texts, computed: where a cell begins and ends.
-- Assumes nothing.
use Rattle.std.specs.Prelude.{◌≡◌, refl, false, List, ◌∷◌, ◌++◌, ℕ}
use Rattle.classes.specs.Text.{bytes}
use Rattle.classes.specs.Classes.{class_of}
use Rattle.scanning.specs.Scan.{scan_len, scan_st}
use Rattle.scanning.specs.Machines.{word_stop, word_next, text_stop, close_stop, text_next, blank_stop, mode_next, blank_goes}
use Rattle.tokenforms.specs.Tokens.{string_of, token_of, behind, token_at}
use Rattle.tokens.specs.Stream.{row, stream}
use Rattle.words.specs.Words.{key_of, edge_of, unit_of, scale_of, divider_of}
use Rattle.nameshape.specs.Shape.{is_name_byte, is_escapable, divider, body_next, bracket_next, name_next, name_run, may_end, is_path, is_port}
use Rattle.numbershape.specs.Shape as shape
use Rattle.numbershape.specs.Shape.{signs, digits_then, marked, exponent_fits, fraction_fits, is_number}
use Rattle.grammar.specs.Ll.{feeds}
use Rattle.grammar.specs.Grammar.{alts, file, one_cell_of}
use Rattle.splice.specs.Span.{cell_from, cell_to, taken_of, new_file_of}

-- two cells with a comment between them; a port, an instance and a type may have a keyword's name
abbrev pub old_file : List ℕ
old_file = bytes "(DELAYFILE(SDFVERSION\"4.0\")" ++ bytes "(CELL(CELLTYPE\"(CELL\")(INSTANCE))" ++ bytes "/*(CELL*/ " ++ bytes "( CELL(CELLTYPE\"B\")(INSTANCE CELL)(DELAY(ABSOLUTE(PORT CELL(1)))) )" ++ bytes " )"

-- one cell, white space and comments around it
abbrev pub incoming_text : List ℕ
incoming_text = bytes " // (CELL" ++ 10 ∷ bytes "(CELL (CELLTYPE\"C)\") (INSTANCE x) ) /* ) */"

pub swaps :
    (new_file_of old_file 1 false incoming_text
    ≡ bytes "(DELAYFILE(SDFVERSION\"4.0\")" ++ bytes "(CELL (CELLTYPE\"C)\") (INSTANCE x) )" ++ bytes "/*(CELL*/ " ++ bytes "( CELL(CELLTYPE\"B\")(INSTANCE CELL)(DELAY(ABSOLUTE(PORT CELL(1)))) )" ++ bytes " )")
    × (new_file_of old_file 2 false incoming_text
    ≡ bytes "(DELAYFILE(SDFVERSION\"4.0\")" ++ bytes "(CELL(CELLTYPE\"(CELL\")(INSTANCE))" ++ bytes "/*(CELL*/ " ++ bytes "(CELL (CELLTYPE\"C)\") (INSTANCE x) )" ++ bytes " )")
unfolding class_of scan_len scan_st word_stop word_next text_stop close_stop text_next blank_stop mode_next blank_goes string_of token_of behind token_at row
    stream key_of edge_of unit_of scale_of divider_of is_name_byte is_escapable divider body_next bracket_next name_next name_run may_end is_path is_port shape.run
    signs digits_then marked exponent_fits fraction_fits is_number alts file one_cell_of feeds cell_from cell_to taken_of new_file_of
swaps = (refl, refl)
