-- By induction over the lines of a body: what an act and a line have, where their parts have it, each line has.
use Rattle.std.proofs.Common.{subst, sym}
use Rattle.mv_syntax.specs.declared.unit.Act.{Act, Act-F, roll-Act, map-Act, fold-Act, fold-roll-Act}
use Rattle.mv_syntax.specs.declared.unit.Line.{Line, Line-F, roll-Line, map-Line, fold-Line, fold-roll-Line, ind-Line}

module _ (OfAct : Act → Type 0) (OfLine : Line → Type 0) where
  abbrev pub ActsWith : Type 0
  ActsWith = (x : Act) × OfAct x

  abbrev pub LinesWith : Type 0
  LinesWith = (l : Line) × OfLine l

  -- an act and a line of which each part has it
  abbrev pub ActOver : Type 0
  ActOver = Act-F ActsWith LinesWith

  abbrev pub LineOver : Type 0
  LineOver = Line-F ActsWith LinesWith

  abbrev pub whole_act : ActOver → Act-F Act Line
  whole_act = map-Act ActsWith LinesWith Act Line (λ a. a.0) (λ l. l.0)

  abbrev pub whole_line : LineOver → Line-F Act Line
  whole_line = map-Line ActsWith LinesWith Act Line (λ a. a.0) (λ l. l.0)

  pub every_line : ((y : ActOver) → OfAct (roll-Act (whole_act y))) → ((y : LineOver) → OfLine (roll-Line (whole_line y))) → (l : Line) → OfLine l
  every_line act_has line_has l =
      ind-Line OfAct OfLine (λ x y q. subst (λ z. OfAct (roll-Act z)) q (act_has y)) (λ x y q. subst (λ z. OfLine (roll-Line z)) q (line_has y)) l

-- What relates three folds of an act, and of a line, where it relates those of its parts. A fold may stand for more than one of them.
module _ {A B C L M N : Type 0} (act_one : Act-F A L → A) (line_one : Line-F A L → L) (act_two : Act-F B M → B) (line_two : Line-F B M → M)
    (act_three : Act-F C N → C) (line_three : Line-F C N → N) (OfAct : A → B → C → Type 0) (OfLine : L → M → N → Type 0) where
  abbrev ActIs : Act → Type 0
  ActIs x = OfAct (fold-Act A L act_one line_one x) (fold-Act B M act_two line_two x) (fold-Act C N act_three line_three x)

  abbrev LineIs : Line → Type 0
  LineIs x = OfLine (fold-Line A L act_one line_one x) (fold-Line B M act_two line_two x) (fold-Line C N act_three line_three x)

  module _ {D E : Type 0} (act_step : Act-F D E → D) (line_step : Line-F D E → E) where
    abbrev act_found : Act-F Act Line → D
    act_found x = act_step (map-Act Act Line D E (fold-Act D E act_step line_step) (fold-Line D E act_step line_step) x)

    abbrev line_found : Line-F Act Line → E
    line_found x = line_step (map-Line Act Line D E (fold-Act D E act_step line_step) (fold-Line D E act_step line_step) x)

  module _
      (acts : (y : ActOver ActIs LineIs) → OfAct (act_found act_one line_one (whole_act ActIs LineIs y)) (act_found act_two line_two (whole_act ActIs LineIs y))
      (act_found act_three line_three (whole_act ActIs LineIs y)))
      (lines : (y : LineOver ActIs LineIs) → OfLine (line_found act_one line_one (whole_line ActIs LineIs y)) (line_found act_two line_two (whole_line ActIs LineIs y))
      (line_found act_three line_three (whole_line ActIs LineIs y))) where
    act_is : (y : ActOver ActIs LineIs) → ActIs (roll-Act (whole_act ActIs LineIs y))
    act_is y =
        let x = whole_act ActIs LineIs y in
        subst (λ a. OfAct a (fold-Act B M act_two line_two (roll-Act x)) (fold-Act C N act_three line_three (roll-Act x))) (sym (fold-roll-Act A L act_one line_one x))
        (subst (λ b. OfAct (act_found act_one line_one x) b (fold-Act C N act_three line_three (roll-Act x))) (sym (fold-roll-Act B M act_two line_two x))
        (subst (OfAct (act_found act_one line_one x) (act_found act_two line_two x)) (sym (fold-roll-Act C N act_three line_three x)) (acts y)))

    line_is : (y : LineOver ActIs LineIs) → LineIs (roll-Line (whole_line ActIs LineIs y))
    line_is y =
        let x = whole_line ActIs LineIs y in
        subst (λ a. OfLine a (fold-Line B M act_two line_two (roll-Line x)) (fold-Line C N act_three line_three (roll-Line x))) (sym (fold-roll-Line A L act_one line_one x))
        (subst (λ b. OfLine (line_found act_one line_one x) b (fold-Line C N act_three line_three (roll-Line x))) (sym (fold-roll-Line B M act_two line_two x))
        (subst (OfLine (line_found act_one line_one x) (line_found act_two line_two x)) (sym (fold-roll-Line C N act_three line_three x)) (lines y)))

    pub folded_line : (l : Line) → LineIs l
    folded_line = every_line ActIs LineIs act_is line_is
