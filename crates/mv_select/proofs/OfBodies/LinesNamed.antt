-- Lines whose labels, functions and pointers are of kinds, and whose slots stand where they may.
use Rattle.std.proofs.Common.{ℕ, List, [], ◌∷◌, ◌++◌, Option, Some, None, All, inl, inr, refl}
use Rattle.std.proofs.lemmas.List.Elements.{All-append, All-cons, All-nil}
use Rattle.mv_isa.specs.declared.instr.Instr.TheVariants.{Addi}
use Rattle.mv_isa.specs.declared.labelled.Line.{Line}
use Rattle.mv_isa.specs.declared.labelled.Line.TheVariants.{Word, Label, Jump, Branch, Entry, Slot, Point}
use Rattle.mv_isa.specs.Registers.{ra as link_register, s11 as left_register}
use Rattle.mv_select_code.specs.Trees.TreeCode.{minus_one}
use Rattle.mv_select_code.proofs.OfControl.StatementsAreMade.{LineByLine}
use Rattle.mv_select.specs.Bodies.Lines.{Names, StaysBefore, IsApart}
use Rattle.mv_select.proofs.OfCalls.Closing.{last_line, Closes}

-- what stands before lines without a slot at their start doesn't matter
weaker : (before : Option Line) (lines : List Line) → IsApart None lines → IsApart before lines
weaker before [] h = h
weaker before (Word i ∷ lines) h = h
weaker before (Label l ∷ lines) h = h
weaker before (Jump rd l ∷ lines) h = h
weaker before (Branch funct3 rs1 rs2 l ∷ lines) h = h
weaker before (Entry rd f ∷ lines) h = h
weaker before (Slot f ∷ lines) h = absurd h.0
weaker before (Point a ∷ lines) h = absurd h.0

apart_append : (before : Option Line) (a b : List Line) → IsApart before a → IsApart None b → IsApart before (a ++ b)
apart_append before [] b h k = weaker before b k
apart_append before (Word i ∷ a) b h k = apart_append (Some (Word i)) a b h k
apart_append before (Label l ∷ a) b h k = apart_append (Some (Label l)) a b h k
apart_append before (Jump rd l ∷ a) b h k = apart_append (Some (Jump rd l)) a b h k
apart_append before (Branch funct3 rs1 rs2 l ∷ a) b h k = apart_append (Some (Branch funct3 rs1 rs2 l)) a b h k
apart_append before (Entry rd f ∷ a) b h k = apart_append (Some (Entry rd f)) a b h k
apart_append before (Slot f ∷ a) b h k = (h.0, apart_append None a b h.1 k)
apart_append before (Point p ∷ a) b h k = (h.0, apart_append None a b h.1 k)

-- a slot of four words behind lines where it may stand
apart_point : (before : Option Line) (front : List Line) (a : ℕ) → IsApart before front → StaysBefore (last_line before front) → IsApart before (front ++ (Point a ∷ []))
apart_point before [] a h stays = (stays, tt)
apart_point before (Word i ∷ front) a h stays = apart_point (Some (Word i)) front a h stays
apart_point before (Label l ∷ front) a h stays = apart_point (Some (Label l)) front a h stays
apart_point before (Jump rd l ∷ front) a h stays = apart_point (Some (Jump rd l)) front a h stays
apart_point before (Branch funct3 rs1 rs2 l ∷ front) a h stays = apart_point (Some (Branch funct3 rs1 rs2 l)) front a h stays
apart_point before (Entry rd f ∷ front) a h stays = apart_point (Some (Entry rd f)) front a h stays
apart_point before (Slot f ∷ front) a h stays = (h.0, apart_point None front a h.1 stays)
apart_point before (Point p ∷ front) a h stays = (h.0, apart_point None front a h.1 stays)

module _ (L P C Q S A : ℕ → Type 0) where
  abbrev Named : Line → Type 0
  Named = Names L P C Q S A

  -- lines are named, and slots stand where they may
  abbrev pub AllName : List Line → Type 0
  AllName lines = All (Names L P C Q S A) lines × IsApart None lines

  nothing : AllName []
  nothing = (All-nil Named, tt)

  pub names_made : LineByLine AllName L P Q
  names_made = record {
    none = nothing;
    after = λ a b h k. (All-append Named a b h.0 k.0, apart_append None a b h.1 k.1);
    word = λ i. (All-cons Named (Word i) [] tt nothing.0, tt);
    label = λ l h. (All-cons Named (Label l) [] h nothing.0, tt);
    jump = λ l h. (All-cons Named (Jump 0 l) [] (inl (refl, h)) nothing.0, tt);
    branch = λ funct3 a b l h. (All-cons Named (Branch funct3 a b l) [] h nothing.0, tt);
    entry = λ r f h. (All-cons Named (Entry r f) [] h nothing.0, tt);
  }

  -- the call of a stub, or of an entry
  pub stub_names : (l : ℕ) → C l → AllName (Jump link_register l ∷ [])
  stub_names l h = (All-cons Named (Jump link_register l) [] (inr (refl, h)) nothing.0, tt)

  -- a slot stands behind the word that counts the call
  pub slot_names : (f : ℕ) → S f → AllName (Word (Addi left_register left_register minus_one) ∷ Slot f ∷ [])
  slot_names f h =
      (All-cons Named (Word (Addi left_register left_register minus_one)) (Slot f ∷ []) tt (All-cons Named (Slot f) [] h nothing.0), (refl, tt))

  pub point_names : (front : List Line) (a : ℕ) → A a → AllName front → Closes front → AllName (front ++ (Point a ∷ []))
  point_names front a there h closes =
      (All-append Named front (Point a ∷ []) h.0 (All-cons Named (Point a) [] there nothing.0), apart_point None front a h.1 closes)
