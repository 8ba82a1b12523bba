-- Statements and arms in order.
use Rattle.std.proofs.Common.{◌≡◌, ℕ, ◌+◌, ◌<◌, List, [], ◌∷◌, ◌++◌, take, length, get_or, max, refl, sym, ap, ◌∙◌, arith, append_assoc, append-nil}
use Rattle.std.proofs.lemmas.List.{take_more}
use Rattle.mv_ast.specs.declared.program.Function.{Function}
use Rattle.mv_ast.specs.declared.program.Stmt.{Stmt}
use Rattle.mv_ir.specs.declared.stm.Stm.{Stm}
use Rattle.mv_lower_spec.specs.Statements.{Jumps, Code}
use Rattle.mv_lower.specs.Statements.{stmt_at, stmts_at}

pub same_code : {c d : List Stm} {m n : ℕ} → c ≡ d → m ≡ n → (let a : Code = record { code = c; top = m } in a) ≡ (let b : Code = record { code = d; top = n } in b)
same_code e f = cc

module _ (ps : List ℕ) (g : Function) (j : Jumps) where
  pub stmts_none : stmts_at ps g [] j ≡ record { code = []; top = length g.locals }
  unfolding stmts_at
  stmts_none = refl

  -- one statement more
  abbrev pub with_stmt : List Stmt → Stmt → Code
  with_stmt body s = record { code = (stmts_at ps g body j).code ++ (stmt_at ps g s j).code; top = max (stmts_at ps g body j).top (stmt_at ps g s j).top }

  appended : (body : List Stmt) (s : Stmt) → stmts_at ps g (body ++ s ∷ []) j ≡ with_stmt body s
  unfolding stmts_at
  appended [] s = same_code (append-nil (stmt_at ps g s j).code) (omega arith)
  appended (x ∷ xs) s =
      let h = appended xs s in
      same_code
      (ap (λ (c : Code). (stmt_at ps g x j).code ++ c.code) h ∙ sym (append_assoc (stmt_at ps g x j).code (stmts_at ps g xs j).code (stmt_at ps g s j).code))
      (let t = ap (λ (c : Code). c.top) h in omega (arith, t))

  pub stmts_push : (body : List Stmt) (i : ℕ) (s : Stmt) → i < length body → s ≡ get_or body i s → stmts_at ps g (take (i + 1) body) j ≡ with_stmt (take i body) s
  stmts_push body i s h e =
      ap (λ (b : List Stmt). stmts_at ps g b j) (take_more body i s h ∙ ap (λ (x : Stmt). take i body ++ x ∷ []) (sym e)) ∙ appended (take i body) s

pub ruleset sequences = (stmts_none, stmts_push)
