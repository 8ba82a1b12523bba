-- Lines whose labels are renamed stand in text where the lines do at the places of the new labels. The label that a call through a pointer switch names by
-- itself is none of them.
use Rattle.std.proofs.Common.{ℕ, ◌≤◌, List, [], ◌∷◌, map, sym, ap, subst, arith}
use Rattle.mv_isa.specs.declared.labelled.Line.{Line}
use Rattle.mv_isa.specs.declared.labelled.Line.TheVariants.{Word, Label, Jump, Branch, Entry, Slot, Point}
use Rattle.mv_select_code.specs.Control.Placed.{Text, IsPlaced, Placed}
use Rattle.mv_isa.specs.Code.{IsPlace}
use Rattle.mv_linker.specs.Linked.{own, relabelled, check_label}
use Rattle.mv_linker.proofs.Counting.{own_stays}

module _ (text : Text) (place entry : ℕ → ℕ) (first count : ℕ) where
  -- where the label stands that a label is renamed to
  abbrev pub own_place : ℕ → ℕ
  own_place l = place (own first count l)

  module _ (few : count ≤ check_label) where
    line_placed : (at end : ℕ) (line : Line) → IsPlaced text place entry at end (relabelled first count line) → IsPlaced text own_place entry at end line
    line_placed at end (Word i) h = record { stands = h.stands; fits = h.fits; here = h.here; there = h.there; label = h.label }
    line_placed at end (Label l) h = record { stands = h.stands; fits = h.fits; here = h.here; there = h.there; label = h.label }
    line_placed at end (Jump rd l) h = record { stands = h.stands; fits = h.fits; here = h.here; there = h.there; label = h.label }
    line_placed at end (Branch funct3 rs1 rs2 l) h = record { stands = h.stands; fits = h.fits; here = h.here; there = h.there; label = h.label }
    line_placed at end (Entry rd l) h = record { stands = h.stands; fits = h.fits; here = h.here; there = h.there; label = h.label }
    line_placed at end (Slot l) h = record { stands = h.stands; fits = h.fits; here = h.here; there = h.there; label = h.label }
    line_placed at end (Point a) h = record { stands = h.stands; fits = h.fits; here = h.here; there = subst IsPlace (sym (ap place (own_stays first count check_label few (omega arith)))) h.there; label = h.label }

    pub lines_placed : (lines : List Line) (at end : ℕ) → Placed text place entry (map (relabelled first count) lines) at end → Placed text own_place entry lines at end
    lines_placed [] at end h = h
    lines_placed (line ∷ lines) at end h = (h.0, line_placed at h.0 line h.1, lines_placed lines h.0 end h.2)
