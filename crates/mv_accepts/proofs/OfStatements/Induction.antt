-- What holds of how each statement is judged, where it holds by its parts: by induction over the lines of a body.
use Rattle.std.proofs.Common.{List, [], ◌∷◌, map, Some, None}
use Rattle.std.specs.List.{AllByRecursion}
use Rattle.mv_syntax.specs.declared.place.Place.{Place}
use Rattle.mv_syntax.specs.declared.unit.Line.{Line}
use Rattle.mv_syntax.specs.declared.unit.Act.{Act, Act-F, map-Act, fold-Act}
use Rattle.mv_syntax.specs.declared.unit.Act.TheOpen as act
use Rattle.mv_accepts.proofs.OfStatements.LineInduction.{LinesWith, ActOver, whole_act, folded_line}
use Rattle.mv_accepts.proofs.OfStatements.Property.{OfOption}
use Rattle.mv_check_statements.specs.Statements.{Judges, Layer, act_step, line_step, judges_of}

module _ (P : Judges → Type 0) where
  -- P of each part of a statement
  abbrev pub LayerHas : Layer → Type 0
  LayerHas (act.Block ls) = AllByRecursion P ls
  LayerHas (act.If e first second) = P first × OfOption P second
  LayerHas (act.While e l) = P l
  LayerHas (act.Do l e) = P l
  LayerHas (act.For first test step l) = OfOption P first × P l
  LayerHas (act.Switch e l) = P l
  LayerHas x = Unit {0}

  module _ (by_parts : (x : Layer) → LayerHas x → (place : Place) → P (act_step x place)) where
    abbrev ActIs : Act → Type 0
    ActIs x = (place : Place) → P (fold-Act (Place → Judges) Judges act_step line_step x place)

    abbrev LineIs : Line → Type 0
    LineIs l = P (judges_of l)

    abbrev judged : Act-F Act Line → Layer
    judged = map-Act Act Line (Place → Judges) Judges (fold-Act (Place → Judges) Judges act_step line_step) judges_of

    lines_are : (ls : List (LinesWith ActIs LineIs)) → AllByRecursion P (map judges_of (map (λ (l : LinesWith ActIs LineIs). l.0) ls))
    lines_are [] = tt
    lines_are (l ∷ ls) = (l.1, lines_are ls)

    parts : (y : ActOver ActIs LineIs) → LayerHas (judged (whole_act ActIs LineIs y))
    parts (act.Block ls) = lines_are ls
    parts (act.If e first None) = (first.1, tt)
    parts (act.If e first (Some second)) = (first.1, second.1)
    parts (act.While e l) = l.1
    parts (act.Do l e) = l.1
    parts (act.For None test step l) = (tt, l.1)
    parts (act.For (Some first) test step l) = (first.1, l.1)
    parts (act.Switch e l) = l.1
    parts x = tt

    pub judges_have : (l : Line) → P (judges_of l)
    judges_have =
        folded_line act_step line_step act_step line_step act_step line_step (λ f g h. (place : Place) → P (f place)) (λ j k l. P j)
        (λ y. by_parts (judged (whole_act ActIs LineIs y)) (parts y)) (λ y. y.what.1 y.place)
