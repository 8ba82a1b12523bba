-- Places in a source.
use Prim.Native.Char.{code}
use Rattle.std.specs.Prelude.{◌+◌, ◌&&◌, ◌||◌, ℕ, Bool, true, List, [], ◌∷◌, length, if◌then◌else◌, ◌==◌}
use Rattle.mv_lexer.specs.Include.{is_skipped, has_line_feed}
use Rattle.mv_lexer.specs.declared.class.TokenClass.{TokenClass}
use Rattle.mv_lexer.specs.declared.position.Position.{Position}
use Rattle.mv_syntax.specs.declared.place.Place.{Place}

-- the place behind one byte: a line feed begins the next line, every other byte takes one column
abbrev pub place_next : Place → ℕ → Place
place_next at b = if b == code "\n" then record { line = at.line + 1; column = 1 } else record { line = at.line; column = at.column + 1 }

-- the place behind some bytes
abbrev pub place_after : Place → List ℕ → Place
place_after at [] = at
place_after at (b ∷ bs) = place_after (place_next at b) bs

abbrev pub start : Position
start = record { offset = 0; place = record { line = 1; column = 1 }; at_line_start = true }

-- whether no token stands on the line yet, behind a lexeme
abbrev pub at_line_start_after : Bool → TokenClass → List ℕ → Bool
at_line_start_after at_line_start class s = is_skipped class && (at_line_start || has_line_feed s)

-- where a reading stands behind a lexeme
abbrev pub after : Position → TokenClass → List ℕ → Position
after at class s = record { offset = at.offset + length s; place = place_after at.place s; at_line_start = at_line_start_after at.at_line_start class s }
