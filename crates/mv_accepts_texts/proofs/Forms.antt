-- Whether a statement that is made of others names a global.
use Rattle.std.proofs.Common.{◌≡◌, ℕ, Bool, true, false, ◌||◌, refl, sym, ◌∙◌, ap, if◌then◌else◌, List, [], ◌∷◌, ◌++◌, map, append-nil, Option}
use Rattle.std.specs.Prelude.{option_to_list}
use Rattle.std.proofs.Math.Bool.{or-false, or_assoc, or_comm}
use Rattle.std.proofs.lemmas.List.{map-append}
use Rattle.std.proofs.lemmas.List.Folds.{concat-append}
use Rattle.std.specs.List.{concat}
use Rattle.mv_ast.specs.declared.program.Arm.{Arm}
use Rattle.mv_ast.specs.declared.program.Expr.{Expr}
use Rattle.mv_ast.specs.declared.program.Stmt.{Stmt, Stmt-F, out-Stmt}
use Rattle.mv_ast.specs.declared.program.Stmt.TheVariants as stmt
use Rattle.mv_ast.specs.declared.program.Stmt.TheVariants.{outs-Block, outs-Clear, outs-Express, outs-If, outs-While, outs-Do, outs-For, outs-Switch, outs-Break, outs-Continue, outs-Return}
use Rattle.mv_num.specs.Lists.{is_among}
use Rattle.mv_check_uses.specs.Uses.{expr_globals, stmt_globals}
use Rattle.mv_check_uses.specs.Flags.{arm_globals}
use Rattle.mv_check_uses.proofs.Statements.{of_layer, stmt_is, arm_is}
use Rattle.mv_check_rules.specs.Rules.{is_empty}
use Rattle.mv_check_rules.specs.Statements.{Piece, Labelled, Otherwise, Statement, empty_arm, with_label, with_other, labelled_behind, arms_behind, arms}
use Rattle.mv_accepts_texts.proofs.Globals.{either_same, among_both, Names, NamesAny}

-- ---- a layer

module _ (g : ℕ) where
  abbrev pub StmtNames : Stmt → Bool
  StmtNames s = is_among g (stmt_globals s)

  abbrev pub StmtsName : List Stmt → Bool
  StmtsName ss = is_among g (concat (map stmt_globals ss))

  abbrev pub ArmsName : List Arm → Bool
  ArmsName xs = is_among g (concat (map arm_globals xs))

  -- ---- lists

  map_both : {A : Type 0} (f : A → List ℕ) (xs ys : List A) → is_among g (concat (map f (xs ++ ys))) ≡ (is_among g (concat (map f xs)) || is_among g (concat (map f ys)))
  map_both f xs ys = ap (λ ns. is_among g (concat ns)) (map-append f xs ys) ∙ (ap (is_among g) (concat-append (map f xs) (map f ys)) ∙ among_both g (concat (map f xs)) (concat (map f ys)))

  pub stmts_both : (xs ys : List Stmt) → StmtsName (xs ++ ys) ≡ (StmtsName xs || StmtsName ys)
  stmts_both xs ys = map_both stmt_globals xs ys

  pub stmts_one : (s : Stmt) → StmtsName (s ∷ []) ≡ StmtNames s
  stmts_one s = ap (is_among g) (append-nil (stmt_globals s))

  pub any_one : (e : Expr) → NamesAny g (e ∷ []) ≡ Names g e
  any_one e = ap (is_among g) (append-nil (expr_globals e))

  abbrev pub OptionNames : Option Expr → Bool
  OptionNames o = NamesAny g (option_to_list o)

  -- ---- statements of each form

  made : (s : Stmt) (x : Stmt-F Stmt Arm) → out-Stmt s ≡ x → StmtNames s ≡ is_among g (of_layer x)
  made s x o = ap (is_among g) (stmt_is s x o)

  -- an expression, and then other parts
  leading : (e : Expr) (rest : List ℕ) → is_among g ((expr_globals e ++ []) ++ rest) ≡ (Names g e || is_among g rest)
  leading e rest = among_both g (expr_globals e ++ []) rest ∙ ap (λ b. b || is_among g rest) (any_one e)

  two_lists : (xs ys : List Stmt) → is_among g (concat (map stmt_globals xs ++ map stmt_globals ys)) ≡ (StmtsName xs || StmtsName ys)
  two_lists xs ys = ap (is_among g) (concat-append (map stmt_globals xs) (map stmt_globals ys)) ∙ among_both g (concat (map stmt_globals xs)) (concat (map stmt_globals ys))

  pub block_names : (body : List Stmt) → StmtNames (stmt.Block body) ≡ StmtsName body
  block_names body = made _ _ (outs-Block body)

  pub clear_names : (l : ℕ) (values : List Expr) → StmtNames (stmt.Clear l values) ≡ NamesAny g values
  clear_names l values = made _ _ (outs-Clear l values) ∙ ap (is_among g) (append-nil (concat (map expr_globals values)))

  pub express_names : (e : Expr) → StmtNames (stmt.Express e) ≡ Names g e
  express_names e = made _ _ (outs-Express e) ∙ (leading e [] ∙ or-false (Names g e))

  pub if_names : (e : Expr) (a b : List Stmt) → StmtNames (stmt.If e a b) ≡ (Names g e || (StmtsName a || StmtsName b))
  if_names e a b = made _ _ (outs-If e a b) ∙ (leading e _ ∙ ap (λ x. Names g e || x) (two_lists a b))

  pub while_names : (e : Expr) (body : List Stmt) → StmtNames (stmt.While e body) ≡ (Names g e || StmtsName body)
  while_names e body = made _ _ (outs-While e body) ∙ leading e _

  pub do_names : (body : List Stmt) (e : Expr) → StmtNames (stmt.Do body e) ≡ (StmtsName body || Names g e)
  do_names body e = made _ _ (outs-Do body e) ∙ (leading e _ ∙ or_comm (Names g e) (StmtsName body))

  moved : (t u a b : Bool) → ((t || u) || (a || b)) ≡ (a || (t || (u || b)))
  moved true u true b = refl
  moved true u false b = refl
  moved false true true b = refl
  moved false true false b = refl
  moved false false a b = refl

  pub for_names : (first : List Stmt) (test step : Option Expr) (body : List Stmt) →
      StmtNames (stmt.For first test step body) ≡ (StmtsName first || (OptionNames test || (OptionNames step || StmtsName body)))
  for_names first test step body =
      made _ _ (outs-For first test step body) ∙
      (among_both g (concat (map expr_globals (option_to_list test ++ option_to_list step))) _ ∙
      (either_same g _ _ _ _ (map_both expr_globals (option_to_list test) (option_to_list step)) (two_lists first body) ∙
      moved (OptionNames test) (OptionNames step) (StmtsName first) (StmtsName body)))

  pub switch_names : (e : Expr) (xs : List Arm) → StmtNames (stmt.Switch e xs) ≡ (Names g e || ArmsName xs)
  switch_names e xs = made _ _ (outs-Switch e xs) ∙ leading e _

  pub break_names : StmtNames stmt.Break ≡ false
  break_names = made _ _ outs-Break

  pub continue_names : StmtNames stmt.Continue ≡ false
  continue_names = made _ _ outs-Continue

  pub return_names : (e : Option Expr) → StmtNames (stmt.Return e) ≡ OptionNames e
  return_names e = made _ _ (outs-Return e) ∙ ap (is_among g) (append-nil (concat (map expr_globals (option_to_list e))))

  -- ---- the pieces of a `switch`

  abbrev pub PieceNames : Piece → Bool
  PieceNames (Labelled v) = false
  PieceNames Otherwise = false
  PieceNames (Statement s) = StmtNames s

  abbrev pub PiecesName : List Piece → Bool
  PiecesName [] = false
  PiecesName (p ∷ ps) = PieceNames p || PiecesName ps

  pub pieces_both : (ps qs : List Piece) → PiecesName (ps ++ qs) ≡ (PiecesName ps || PiecesName qs)
  pieces_both [] qs = refl
  pieces_both (p ∷ ps) qs = ap (λ b. PieceNames p || b) (pieces_both ps qs) ∙ sym (or_assoc (PieceNames p) (PiecesName ps) (PiecesName qs))

  arms_then : (a : Arm) (xs : List Arm) → ArmsName (a ∷ xs) ≡ (StmtsName a.body || ArmsName xs)
  arms_then a xs = among_both g (arm_globals a) (concat (map arm_globals xs)) ∙ ap (λ ns. is_among g ns || ArmsName xs) (arm_is a)

  -- a label, with the pieces behind it
  labelled_names : (label : Arm → Arm) → ((b : Arm) → (label b).body ≡ b.body) → (ps : List Piece) →
      ((b : Arm) → ArmsName (arms_behind b ps) ≡ (StmtsName b.body || PiecesName ps)) → (a : Arm) →
      ArmsName (labelled_behind label a (λ b. arms_behind b ps)) ≡ (StmtsName a.body || PiecesName ps)
  labelled_names label same ps h a = by (is_empty a.body)
    where
      labelled : (b : Arm) → ArmsName (arms_behind (label b) ps) ≡ (StmtsName b.body || PiecesName ps)
      labelled b = h (label b) ∙ ap (λ body. StmtsName body || PiecesName ps) (same b)

      by : (b : Bool) → ArmsName (if b then arms_behind (label a) ps else a ∷ arms_behind (label empty_arm) ps) ≡ (StmtsName a.body || PiecesName ps)
      by true = labelled a
      by false = arms_then a (arms_behind (label empty_arm) ps) ∙ ap (λ b. StmtsName a.body || b) (labelled empty_arm)

  behind_names : (ps : List Piece) (a : Arm) → ArmsName (arms_behind a ps) ≡ (StmtsName a.body || PiecesName ps)
  behind_names [] a = arms_then a []
  behind_names (Labelled v ∷ ps) a = labelled_names (with_label v) (λ b. refl) ps (behind_names ps) a
  behind_names (Otherwise ∷ ps) a = labelled_names with_other (λ b. refl) ps (behind_names ps) a
  behind_names (Statement s ∷ ps) a =
      behind_names ps (record a { body = a.body ++ s ∷ [] }) ∙
      (ap (λ b. b || PiecesName ps) (stmts_both a.body (s ∷ []) ∙ ap (λ b. StmtsName a.body || b) (stmts_one s)) ∙
      or_assoc (StmtsName a.body) (StmtNames s) (PiecesName ps))

  pub arms_names : (ps : List Piece) → ArmsName (arms ps) ≡ PiecesName ps
  arms_names ps = behind_names ps empty_arm
