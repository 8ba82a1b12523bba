-- What a statement names is what its text names, and it adds no type of more parameters than its text has: by induction over the lines of a body.
use Rattle.std.proofs.Common.{◌≡◌, ℕ, Bool, true, false, not, refl, sym, ◌∙◌, ap, subst, List, [], ◌∷◌, ◌++◌, map, append-nil, append_assoc, Option, Some, None}
use Rattle.std.specs.List.{concat}
use Rattle.mv_syntax.specs.declared.place.Place.{Place}
use Rattle.mv_ast.specs.declared.program.CType.{CType}
use Rattle.mv_ast.specs.declared.program.Expr.{Expr}
use Rattle.mv_ast.specs.declared.program.Stmt.{Stmt}
use Rattle.mv_ast.specs.declared.program.Stmt.TheVariants as stmt
use Rattle.mv_syntax.specs.declared.unit.Act.{Act, map-Act, fold-Act}
use Rattle.mv_syntax.specs.declared.unit.Act.TheOpen as act
use Rattle.mv_syntax.specs.declared.unit.Line.{Line}
use Rattle.mv_syntax.specs.declared.unit.Node.{Node}
use Rattle.mv_ast.specs.Operators.{converted}
use Rattle.mv_check_scope.specs.Conversions.{is_integer, promotion, promoted, converted_to}
use Rattle.mv_check_scope.specs.Scoped.{block_entered, block_left}
use Rattle.mv_check_scope.specs.declared.scope.Scope.{Scope}
use Rattle.mv_check_expressions.specs.Judged.{Judged, Good, and_then, first_broken}
use Rattle.mv_check_expressions.specs.Judgements.{value_judgement, effect_judgement}
use Rattle.mv_check_limits.specs.Ordered.{declarator_parameters, act_layer, line_layer, act_parameters, line_parameters}
use Rattle.mv_check_rules.specs.Nodes as node
use Rattle.mv_check_rules.specs.Rules.{concluded, breaches}
use Rattle.mv_check_rules.specs.Declarations.{constant, local_declaration}
use Rattle.mv_check_rules.specs.Statements.{Surroundings, Piece, Labelled, Otherwise, Statement, labels, has_default, arms, Judges, Layer, loop_around, switch_around, lines, pieces, optional, alone, express, convert_result, is_block, arms_if_any, for_behind, statement_found, statement_of, line_of, piece_of, switch_body_of, function_body_of, act_step, line_step, judges, body, function_around}
use Rattle.mv_check_rules.proofs.Statements.{act_found, no_pieces}
use Rattle.mv_accepts.proofs.OfStatements.LineInduction.{LinesWith, ActOver, whole_act, folded_line}
use Rattle.mv_accepts.proofs.OfStatements.Judging.{IfGood, by_good, if_any, if_more, if_then}
use Rattle.mv_accepts_texts.specs.Expressions.{NameList, names_in, names_in_any}
use Rattle.mv_accepts_texts.specs.Meanings.{names_global}
use Rattle.mv_accepts_texts.specs.Texts.{Part, enumerators_of, naming, declaring, next, in_turn, block, declarator, act_part, line_part, part_of}
use Rattle.mv_accepts_texts.proofs.Globals.{either_same, Names, promoted_names, converted_names}
use Rattle.mv_accepts_texts.proofs.Expressions.{value_names, effect_names}
use Rattle.mv_accepts_texts.proofs.Forms.{StmtNames, StmtsName, OptionNames, PiecesName, stmts_both, stmts_one, any_one, pieces_both, arms_names, block_names, express_names, if_names, while_names, do_names, for_names, switch_names, break_names, continue_names, return_names}
use Rattle.mv_accepts_texts.proofs.Scopes.{few_alone, Hides, Moves, Tells, tells_made, tells_counts, tells_naming, tells_next, tells_block}
use Rattle.mv_accepts_texts.proofs.Specifiers.{if_found}
use Rattle.mv_accepts_texts.proofs.Locals.{broken_anyway, declaration_tells}
use Rattle.mv_num.proofs.Booleans.{or_false}

module _ (start : Scope) where
  -- ---- what is told of how a line is judged

  abbrev ToStmt : Part → List ℕ → Scope → Scope × Stmt → Type 0
  ToStmt p c s d = Tells start p c s d.0 (λ g. StmtNames g d.1)

  abbrev ToPart : Part → List ℕ → Scope → Scope × List Stmt → Type 0
  ToPart p c s d = Tells start p c s d.0 (λ g. StmtsName g d.1)

  abbrev ToLines : Part → List ℕ → Scope × List Stmt → Scope × List Stmt → Type 0
  ToLines p c d e = (new : List Stmt) × (e.1 ≡ d.1 ++ new) × Tells start p c d.0 e.0 (λ g. StmtsName g new)

  abbrev ToPieces : Part → List ℕ → Scope × List Piece → Scope × List Piece → Type 0
  ToPieces p c d e = (new : List Piece) × (e.1 ≡ d.1 ++ new) × Tells start p c d.0 e.0 (λ g. PiecesName g new)

  abbrev OfBody : Part → List ℕ → Scope → Scope → Option (List Piece) → Type 0
  OfBody p c s t None = Unit {0}
  OfBody p c s t (Some ps) = Tells start p c s t (λ g. PiecesName g ps)

  abbrev ToBody : Part → List ℕ → Scope → Scope × Option (List Piece) → Type 0
  ToBody p c s d = OfBody p c s d.0 d.1

  -- the statements of a function, whose declarations aren't followed further
  pub record Body (p : Part) (c : List ℕ) (s t : Scope) (ss : List Stmt) : Type 0 where
    pub moves : Moves c s t
    pub named : (d : NameList) (g : ℕ) → Hides d start s → StmtsName g ss ≡ names_global g start (p d).1

  record Told (j : Judges) (p : Part) (c : List ℕ) : Type 0 where
    statement : (a : Surroundings) (s : Scope) → IfGood (j.statement a s) (ToStmt p c s)
    line : (a : Surroundings) (d : Scope × List Stmt) → IfGood (j.line a d) (ToLines p c d)
    piece : (t : CType) (a : Surroundings) (d : Scope × List Piece) → IfGood (j.piece t a d) (ToPieces p c d)
    switch_body : (t : CType) (a : Surroundings) (s : Scope) → IfGood (j.switch_body t a s) (ToBody p c s)
    function_body : (a : Surroundings) (s : Scope) → IfGood (j.function_body a s) (λ d. Body p c s d.0 d.1)

  -- ---- the trees, and what is made of them

  abbrev act_text : Act → Part
  act_text = fold-Act Part Part act_part line_part

  abbrev ActIs : Act → Type 0
  ActIs x = (place : Place) → Told (act_found x place) (act_text x) (act_parameters x)

  abbrev LineIs : Line → Type 0
  LineIs l = Told (judges l) (part_of l) (line_parameters l)

  abbrev found_of : ActOver ActIs LineIs → Layer
  found_of y = map-Act Act Line (Place → Judges) Judges act_found judges (whole_act ActIs LineIs y)

  abbrev text_of : ActOver ActIs LineIs → Part
  text_of y = act_part (map-Act Act Line Part Part act_text part_of (whole_act ActIs LineIs y))

  abbrev counts_of : ActOver ActIs LineIs → List ℕ
  counts_of y = act_layer (map-Act Act Line (List ℕ) (List ℕ) act_parameters line_parameters (whole_act ActIs LineIs y))

  abbrev judges_all : List (LinesWith ActIs LineIs) → List Judges
  judges_all ls = map judges (map (λ (l : LinesWith ActIs LineIs). l.0) ls)

  abbrev text_all : List (LinesWith ActIs LineIs) → Part
  text_all ls = in_turn (map part_of (map (λ (l : LinesWith ActIs LineIs). l.0) ls))

  abbrev counts_all : List (LinesWith ActIs LineIs) → List ℕ
  counts_all ls = concat (map line_parameters (map (λ (l : LinesWith ActIs LineIs). l.0) ls))

  -- ---- lists of lines

  nothing_told : (s : Scope) (made : ℕ → Bool) → ((g : ℕ) → made g ≡ false) → Tells start (naming []) [] s s made
  nothing_told s made h = tells_naming start [] s made h

  lines_tell : (ls : List (LinesWith ActIs LineIs)) (a : Surroundings) (d : Scope × List Stmt) → IfGood (lines (judges_all ls) a d) (ToLines (text_all ls) (counts_all ls) d)
  lines_tell [] a d = ([], sym (append-nil d.1), nothing_told d.0 (λ g. false) (λ g. refl))
  lines_tell (l ∷ ls) a d =
      if_then (ToLines (part_of l.0) (line_parameters l.0) d) (ToLines (text_all (l ∷ ls)) (counts_all (l ∷ ls)) d) ((judges l.0).line a d) (lines (judges_all ls) a)
      (l.1.line a d) (λ e h.
      if_more (ToLines (text_all ls) (counts_all ls) e) (ToLines (text_all (l ∷ ls)) (counts_all (l ∷ ls)) d) (lines (judges_all ls) a e)
      (λ z k. (
        h.0 ++ k.0,
        k.1 ∙ (ap (λ ss. ss ++ k.0) h.1 ∙ append_assoc d.1 h.0 k.0),
        tells_made start _ _ d.0 z.0 _ _ (λ g. stmts_both g h.0 k.0)
            (tells_next start (part_of l.0) (text_all ls) (line_parameters l.0) (counts_all ls) d.0 e.0 z.0 _ _ h.2 k.2),
      )) (lines_tell ls a e))

  pieces_tell : (ls : List (LinesWith ActIs LineIs)) (t : CType) (a : Surroundings) (d : Scope × List Piece) → IfGood (pieces (judges_all ls) t a d) (ToPieces (text_all ls) (counts_all ls) d)
  pieces_tell [] t a d = ([], sym (append-nil d.1), nothing_told d.0 (λ g. false) (λ g. refl))
  pieces_tell (l ∷ ls) t a d =
      if_then (ToPieces (part_of l.0) (line_parameters l.0) d) (ToPieces (text_all (l ∷ ls)) (counts_all (l ∷ ls)) d) ((judges l.0).piece t a d) (pieces (judges_all ls) t a)
      (l.1.piece t a d) (λ e h.
      if_more (ToPieces (text_all ls) (counts_all ls) e) (ToPieces (text_all (l ∷ ls)) (counts_all (l ∷ ls)) d) (pieces (judges_all ls) t a e)
      (λ z k. (
        h.0 ++ k.0,
        k.1 ∙ (ap (λ ps. ps ++ k.0) h.1 ∙ append_assoc d.1 h.0 k.0),
        tells_made start _ _ d.0 z.0 _ _ (λ g. pieces_both g h.0 k.0)
            (tells_next start (part_of l.0) (text_all ls) (line_parameters l.0) (counts_all ls) d.0 e.0 z.0 _ _ h.2 k.2),
      )) (pieces_tell ls t a e))

  -- ---- expressions

  abbrev Value : Scope → NameList → Expr → Type 0
  Value s names e = (g : ℕ) → Names g e ≡ names_global g s names

  value_told : (s : Scope) (n : Node) → IfGood (value_judgement s n) (Value s (names_in n))
  value_told s n = by_good (Value s (names_in n)) (value_judgement s n) (λ e q g. value_names g s n e q)

  effect_told : (s : Scope) (n : Node) → IfGood (effect_judgement s n) (Value s (names_in n))
  effect_told s n = by_good (Value s (names_in n)) (effect_judgement s n) (λ e q g. effect_names g s n e q)

  abbrev Any : Scope → NameList → Option Expr → Type 0
  Any s names x = (g : ℕ) → OptionNames g x ≡ names_global g s names

  module _ (judgement : Scope → Node → Judged Expr) (told : (s : Scope) (n : Node) → IfGood (judgement s n) (Value s (names_in n))) where
    optional_told : (s : Scope) (o : Option Node) → IfGood (optional judgement s o) (Any s (names_in_any o))
    optional_told s None = λ g. refl
    optional_told s (Some n) = if_then (Value s (names_in n)) (Any s (names_in n)) (judgement s n) _ (told s n) (λ e h g. any_one g e ∙ h g)

  -- ---- parts of statements

  alone_told : (l : LinesWith ActIs LineIs) (a : Surroundings) (s : Scope) → IfGood (alone (judges l.0) a s) (ToPart (part_of l.0) (line_parameters l.0) s)
  alone_told l a s =
      if_then (ToStmt (part_of l.0) (line_parameters l.0) s) (ToPart (part_of l.0) (line_parameters l.0) s) ((judges l.0).statement a s) _ (l.1.statement a s) (λ d h.
      tells_made start _ _ s d.0 _ _ (λ g. stmts_one g d.1) h)

  to_lines : (p : Part) (c : List ℕ) (s : Scope) (d : Scope × List Stmt) → ToLines p c (s, []) d → ToPart p c s d
  to_lines p c s d h = tells_made start p c s d.0 _ _ (λ g. ap (StmtsName g) h.1) h.2

  -- ---- statements

  abbrev State : ActOver ActIs LineIs → Scope → Scope × Stmt → Type 0
  State y = ToStmt (text_of y) (counts_of y)

  for_told : (first : Option (LinesWith ActIs LineIs)) (test step : Option Node) (l : LinesWith ActIs LineIs) (a : Surroundings) (s : Scope) (f : Scope × List Stmt) (c : List ℕ) (p : Part) →
      ToPart p c (block_entered s) f →
      IfGood (for_behind test step (judges l.0) a f)
      (ToStmt (block (next p (next (naming (names_in_any test)) (next (naming (names_in_any step)) (part_of l.0))))) (c ++ line_parameters l.0) s)
  for_told first test step l a s f c p h =
      let b : Part = part_of l.0 in
      let k : List ℕ = line_parameters l.0 in
      let R : Scope × Stmt → Type 0 = ToStmt (block (next p (next (naming (names_in_any test)) (next (naming (names_in_any step)) b)))) (c ++ k) s in
      if_then (Any f.0 (names_in_any test)) R (optional value_judgement f.0 test) _ (optional_told value_judgement value_told f.0 test) (λ x i.
      if_then (Any f.0 (names_in_any step)) R (optional effect_judgement f.0 step) _ (optional_told effect_judgement effect_told f.0 step) (λ y j.
      if_then (ToPart b k f.0) R (alone (judges l.0) (loop_around a) f.0) _ (alone_told l (loop_around a) f.0) (λ d m.
      tells_made start _ (c ++ k) s (block_left d.0) _ _ (λ g. for_names g f.1 x y d.1)
      (tells_block start _ (c ++ k) s d.0 _
      (tells_next start p _ c k (block_entered s) f.0 d.0 _ _ h
      (tells_next start (naming (names_in_any test)) _ [] k f.0 f.0 d.0 _ _ (tells_naming start (names_in_any test) f.0 _ i)
      (tells_next start (naming (names_in_any step)) b [] k f.0 f.0 d.0 _ _ (tells_naming start (names_in_any step) f.0 _ j) m)))))))

  concluded_told : (place : Place) (s t : Scope) (n : node.Node) (x : Stmt) (p : Part) (c : List ℕ) → ToStmt p c s (t, x) → IfGood (statement_found place t n x) (ToStmt p c s)
  concluded_told place s t n x p c h =
      if_more (λ (d : Scope × Stmt). d ≡ (t, x)) (ToStmt p c s) (statement_found place t n x) (λ d q. subst (ToStmt p c s) (sym q) h) (if_found place (t, x) (first_broken (breaches t n)))

  switched_told : (place : Place) (s t : Scope) (n : Node) (x : Expr) (o : Option (List Piece)) (p : Part) (c : List ℕ) → Value s (names_in n) x → OfBody p c s t o →
      IfGood (statement_found place t (node.Switch x.ctype (is_block o)) (stmt.Switch (promoted x) (arms_if_any o))) (ToStmt (next (naming (names_in n)) p) c s)
  switched_told place s t n x None p c h k = broken_anyway (ToStmt (next (naming (names_in n)) p) c s) place _ (not (is_integer x.ctype)) 3 11
  switched_told place s t n x (Some ps) p c h k =
      concluded_told place s t (node.Switch x.ctype true) (stmt.Switch (promoted x) (arms ps)) (next (naming (names_in n)) p) c
      (tells_made start _ c s t _ _ (λ g. switch_names g (promoted x) (arms ps) ∙ either_same g _ _ _ _ (promoted_names g x) (arms_names g ps))
      (tells_next start (naming (names_in n)) p [] c s s t _ _ (tells_naming start (names_in n) s _ h) k))

  converted_option : (g : ℕ) (t : CType) (x : Option Expr) → OptionNames g (convert_result t x) ≡ OptionNames g x
  converted_option g t None = refl
  converted_option g t (Some e) = any_one g (converted_to t e) ∙ (converted_names g t e ∙ sym (any_one g e))

  statements_tell : (y : ActOver ActIs LineIs) (place : Place) (a : Surroundings) (s : Scope) → IfGood (statement_of (found_of y) place a s) (State y s)
  statements_tell (act.Block ls) place a s =
      if_then (ToLines (text_all ls) (counts_all ls) (block_entered s, [])) (State (act.Block ls) s) (lines (judges_all ls) a (block_entered s, [])) _
      (lines_tell ls a (block_entered s, [])) (λ d h.
      tells_made start _ (counts_all ls) s (block_left d.0) _ _ (λ g. block_names g d.1)
      (tells_block start (text_all ls) (counts_all ls) s d.0 _ (to_lines (text_all ls) (counts_all ls) (block_entered s) d h)))
  statements_tell (act.Declare specs ds) place a s =
      if_then (λ d. Unit {0}) (State (act.Declare specs ds) s) (local_declaration s specs ds) _ (if_any (local_declaration s specs ds)) (λ d u. tt)
  statements_tell (act.Express None) place a s = nothing_told s _ (λ g. block_names g [])
  statements_tell (act.Express (Some e)) place a s =
      if_then (Any s (names_in e)) (State (act.Express (Some e)) s) (optional effect_judgement s (Some e)) _ (optional_told effect_judgement effect_told s (Some e)) (λ x h.
      tells_naming start (names_in e) s _ (λ g. expressed g x ∙ h g))
    where
      expressed : (g : ℕ) (x : Option Expr) → StmtNames g (express x) ≡ OptionNames g x
      expressed g None = block_names g []
      expressed g (Some e) = express_names g e ∙ sym (any_one g e)
  statements_tell (act.If e first None) place a s =
      let p : Part = part_of first.0 in
      let c : List ℕ = line_parameters first.0 in
      let R : Scope × Stmt → Type 0 = State (act.If e first None) s in
      if_then (Value s (names_in e)) R (value_judgement s e) _ (value_told s e) (λ x h.
      if_then (ToPart p c s) R (alone (judges first.0) a s) _ (alone_told first a s) (λ y k.
      tells_made start _ (c ++ []) s y.0 _ _ (λ g. if_names g x y.1 [])
      (tells_next start (naming (names_in e)) _ [] (c ++ []) s s y.0 _ _ (tells_naming start (names_in e) s _ h)
      (tells_next start p (naming []) c [] s y.0 y.0 _ _ k (nothing_told y.0 (λ g. false) (λ g. refl))))))
  statements_tell (act.If e first (Some second)) place a s =
      let p : Part = part_of first.0 in
      let c : List ℕ = line_parameters first.0 in
      let q : Part = part_of second.0 in
      let m : List ℕ = line_parameters second.0 in
      let R : Scope × Stmt → Type 0 = State (act.If e first (Some second)) s in
      if_then (Value s (names_in e)) R (value_judgement s e) _ (value_told s e) (λ x h.
      if_then (ToPart p c s) R (alone (judges first.0) a s) _ (alone_told first a s) (λ y k.
      if_then (ToPart q m y.0) R (alone (judges second.0) a y.0) _ (alone_told second a y.0) (λ z l.
      tells_made start _ (c ++ m) s z.0 _ _ (λ g. if_names g x y.1 z.1)
      (tells_next start (naming (names_in e)) _ [] (c ++ m) s s z.0 _ _ (tells_naming start (names_in e) s _ h)
      (tells_next start p q c m s y.0 z.0 _ _ k l)))))
  statements_tell (act.While e l) place a s =
      let p : Part = part_of l.0 in
      let c : List ℕ = line_parameters l.0 in
      let R : Scope × Stmt → Type 0 = State (act.While e l) s in
      if_then (Value s (names_in e)) R (value_judgement s e) _ (value_told s e) (λ x h.
      if_then (ToPart p c s) R (alone (judges l.0) (loop_around a) s) _ (alone_told l (loop_around a) s) (λ d k.
      tells_made start _ c s d.0 _ _ (λ g. while_names g x d.1)
      (tells_next start (naming (names_in e)) p [] c s s d.0 _ _ (tells_naming start (names_in e) s _ h) k)))
  statements_tell (act.Do l e) place a s =
      let p : Part = part_of l.0 in
      let c : List ℕ = line_parameters l.0 in
      let R : Scope × Stmt → Type 0 = State (act.Do l e) s in
      if_then (ToPart p c s) R (alone (judges l.0) (loop_around a) s) _ (alone_told l (loop_around a) s) (λ d k.
      if_then (Value d.0 (names_in e)) R (value_judgement d.0 e) _ (value_told d.0 e) (λ x h.
      tells_counts start _ (c ++ []) c s d.0 _ (few_alone c)
      (tells_made start _ (c ++ []) s d.0 _ _ (λ g. do_names g d.1 x)
      (tells_next start p (naming (names_in e)) c [] s d.0 d.0 _ _ k (tells_naming start (names_in e) d.0 _ h)))))
  statements_tell (act.For None test step l) place a s =
      for_told None test step l a s (block_entered s, []) [] (naming []) (nothing_told (block_entered s) (λ g. false) (λ g. refl))
  statements_tell (act.For (Some first) test step l) place a s =
      if_then (ToLines (part_of first.0) (line_parameters first.0) (block_entered s, [])) (State (act.For (Some first) test step l) s)
      ((judges first.0).line a (block_entered s, [])) _ (first.1.line a (block_entered s, [])) (λ f h.
      for_told (Some first) test step l a s f (line_parameters first.0) (part_of first.0) (to_lines (part_of first.0) (line_parameters first.0) (block_entered s) f h))
  statements_tell (act.Switch e l) place a s =
      let p : Part = part_of l.0 in
      let c : List ℕ = line_parameters l.0 in
      let R : Scope × Stmt → Type 0 = State (act.Switch e l) s in
      if_then (Value s (names_in e)) R (value_judgement s e) _ (value_told s e) (λ x h.
      if_then (ToBody p c s) R ((judges l.0).switch_body (promotion x.ctype) (switch_around a) s) _ (l.1.switch_body (promotion x.ctype) (switch_around a) s) (λ d k.
      switched_told place s d.0 e x d.1 p c h k))
  statements_tell (act.Case e) place a s = if_then (λ c. Unit {0}) (State (act.Case e) s) (constant s e) _ (if_any (constant s e)) (λ c u. tt)
  statements_tell act.Default place a s = tt
  statements_tell act.Break place a s = concluded_told place s s (node.Break a.breaks) stmt.Break (naming []) [] (nothing_told s _ (λ g. break_names g))
  statements_tell act.Continue place a s = concluded_told place s s (node.Continue a.continues) stmt.Continue (naming []) [] (nothing_told s _ (λ g. continue_names g))
  statements_tell (act.Return e) place a s =
      if_then (Any s (names_in_any e)) (State (act.Return e) s) (optional value_judgement s e) _ (optional_told value_judgement value_told s e) (λ x h.
      concluded_told place s s (node.Return a.result x) (stmt.Return (convert_result a.result x)) (naming (names_in_any e)) []
      (tells_naming start (names_in_any e) s _ (λ g. return_names g (convert_result a.result x) ∙ (converted_option g a.result x ∙ h g))))

  -- ---- lines, pieces and bodies

  abbrev Lines : ActOver ActIs LineIs → Scope × List Stmt → Scope × List Stmt → Type 0
  Lines y = ToLines (text_of y) (counts_of y)

  then_line : (p : Part) (c : List ℕ) (d : Scope × List Stmt) (j : Judged (Scope × Stmt)) → IfGood j (ToStmt p c d.0) →
      IfGood (and_then j (λ e. Good (e.0, d.1 ++ e.1 ∷ []))) (ToLines p c d)
  then_line p c d j h = if_then (ToStmt p c d.0) (ToLines p c d) j _ h (λ e k. (e.1 ∷ [], refl, tells_made start p c d.0 e.0 _ _ (λ g. stmts_one g e.1) k))

  lines_of_tell : (y : ActOver ActIs LineIs) (place : Place) (a : Surroundings) (d : Scope × List Stmt) → IfGood (line_of (found_of y) place a d) (Lines y d)
  lines_of_tell (act.Declare specs ds) place a d =
      if_then (ToPart (next (declaring (enumerators_of specs)) (in_turn (map declarator ds))) (concat (map declarator_parameters ds)) d.0) (Lines (act.Declare specs ds) d)
      (local_declaration d.0 specs ds) _ (declaration_tells start d.0 specs ds) (λ e h. (e.1, refl, h))
  lines_of_tell y place a d = then_line (text_of y) (counts_of y) d (statement_of (found_of y) place a d.0) (statements_tell y place a d.0)

  abbrev Pieces : ActOver ActIs LineIs → Scope × List Piece → Scope × List Piece → Type 0
  Pieces y = ToPieces (text_of y) (counts_of y)

  label_told : (d : Scope × List Piece) (x : Piece) → ((g : ℕ) → PiecesName g (x ∷ []) ≡ false) → ToPieces (naming []) [] d (d.0, d.1 ++ x ∷ [])
  label_told d x h = (x ∷ [], refl, nothing_told d.0 _ h)

  labelled_told : (place : Place) (n : node.Node) (d : Scope × List Piece) (x : Piece) → ((g : ℕ) → PiecesName g (x ∷ []) ≡ false) →
      IfGood (concluded place d.0 n (d.0, d.1 ++ x ∷ [])) (ToPieces (naming []) [] d)
  labelled_told place n d x h =
      if_more (λ (e : Scope × List Piece). e ≡ (d.0, d.1 ++ x ∷ [])) (ToPieces (naming []) [] d) (concluded place d.0 n (d.0, d.1 ++ x ∷ []))
      (λ e q. subst (ToPieces (naming []) [] d) (sym q) (label_told d x h)) (if_found place (d.0, d.1 ++ x ∷ []) (first_broken (breaches d.0 n)))

  then_piece : (p : Part) (c : List ℕ) (d : Scope × List Piece) (j : Judged (Scope × Stmt)) → IfGood j (ToStmt p c d.0) →
      IfGood (and_then j (λ e. Good (e.0, d.1 ++ Statement e.1 ∷ []))) (ToPieces p c d)
  then_piece p c d j h =
      if_then (ToStmt p c d.0) (ToPieces p c d) j _ h (λ e k. (Statement e.1 ∷ [], refl, tells_made start p c d.0 e.0 _ _ (λ g. or_false (StmtNames g e.1)) k))

  pieces_of_tell : (y : ActOver ActIs LineIs) (place : Place) (t : CType) (a : Surroundings) (d : Scope × List Piece) → IfGood (piece_of (found_of y) place t a d) (Pieces y d)
  pieces_of_tell (act.Case e) place t a d =
      if_then (λ c. Unit {0}) (Pieces (act.Case e) d) (constant d.0 e) _ (if_any (constant d.0 e)) (λ c u.
      labelled_told place (node.Case t (labels d.1) c) d (Labelled (converted t c.value)) (λ g. refl))
  pieces_of_tell act.Default place t a d = labelled_told place (node.Default (has_default d.1)) d Otherwise (λ g. refl)
  pieces_of_tell y place t a d = then_piece (text_of y) (counts_of y) d (statement_of (found_of y) place a d.0) (statements_tell y place a d.0)

  switch_bodies_tell : (y : ActOver ActIs LineIs) (place : Place) (t : CType) (a : Surroundings) (s : Scope) →
      IfGood (switch_body_of (found_of y) place t a s) (ToBody (text_of y) (counts_of y) s)
  switch_bodies_tell (act.Block ls) place t a s =
      if_then (ToPieces (text_all ls) (counts_all ls) (block_entered s, [])) (ToBody (block (text_all ls)) (counts_all ls) s) (pieces (judges_all ls) t a (block_entered s, [])) _
      (pieces_tell ls t a (block_entered s, [])) (λ d h.
      tells_block start (text_all ls) (counts_all ls) s d.0 _ (tells_made start (text_all ls) (counts_all ls) (block_entered s) d.0 _ _ (λ g. ap (PiecesName g) h.1) h.2))
  switch_bodies_tell y place t a s =
      if_then (λ d. Unit {0}) (ToBody (text_of y) (counts_of y) s) (statement_of (found_of y) place a s) no_pieces (if_any (statement_of (found_of y) place a s)) (λ d u. tt)

  body_told : (p : Part) (c : List ℕ) (s : Scope) (d : Scope × List Stmt) → ToPart p c s d → Body p c s d.0 d.1
  body_told p c s d h = record { moves = h.moves; named = h.named }

  block_told : (p : Part) (c : List ℕ) (s t : Scope) (ss : List Stmt) → Body p c s t ss → Body (block p) c s t ss
  block_told p c s t ss h = record { moves = h.moves; named = h.named }

  function_bodies_tell : (y : ActOver ActIs LineIs) (place : Place) (a : Surroundings) (s : Scope) →
      IfGood (function_body_of (found_of y) place a s) (λ d. Body (text_of y) (counts_of y) s d.0 d.1)
  function_bodies_tell (act.Block ls) place a s =
      if_more (ToLines (text_all ls) (counts_all ls) (s, [])) (λ d. Body (block (text_all ls)) (counts_all ls) s d.0 d.1) (lines (judges_all ls) a (s, []))
      (λ d h. block_told (text_all ls) (counts_all ls) s d.0 d.1 (body_told _ _ s d (to_lines (text_all ls) (counts_all ls) s d h))) (lines_tell ls a (s, []))
  function_bodies_tell y place a s =
      if_more (Lines y (s, [])) (λ d. Body (text_of y) (counts_of y) s d.0 d.1) (line_of (found_of y) place a (s, []))
      (λ d h. body_told _ _ s d (to_lines (text_of y) (counts_of y) s d h)) (lines_of_tell y place a (s, []))

  -- ---- by induction

  steps_tell : (y : ActOver ActIs LineIs) (place : Place) → Told (act_step (found_of y) place) (text_of y) (counts_of y)
  steps_tell y place = record {
    statement = statements_tell y place;
    line = lines_of_tell y place;
    piece = pieces_of_tell y place;
    switch_body = switch_bodies_tell y place;
    function_body = function_bodies_tell y place;
  }

  pub body_tells : (t : CType) (b : Line) (s : Scope) → IfGood (body t b s) (λ d. Body (part_of b) (line_parameters b) s d.0 d.1)
  unfolding part_of act_parameters line_parameters
  body_tells t b s =
      (folded_line act_step line_step act_part line_part act_layer line_layer (λ f p c. (place : Place) → Told (f place) p c) Told
      steps_tell (λ y. y.what.1 y.place) b).function_body (function_around t) s
