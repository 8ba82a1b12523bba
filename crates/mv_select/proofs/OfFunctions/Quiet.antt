-- The body of a function that may neither call nor ask does all its calls: it has none but tests of how many are left.
use Rattle.std.proofs.Common.{◌≡◌, ℕ, ◌+◌, ◌^◌, ◌&&◌, ◌||◌, Bool, true, false, ltb, eqb, List, [], ◌∷◌, length, map, Option, sym, ap, ◌∙◌}
use Rattle.mv_num.proofs.Booleans.{and_left, and_right}
use Rattle.mv_ast.specs.declared.program.Known.{Known}
use Rattle.mv_ast.specs.declared.program.Known.TheVariants.{Getchar, Putchar, Poll, Plan}
use Rattle.mv_bindings.specs.Traps.{depth_limit}
use Rattle.mv_isa.specs.Execution.{Access}
use Rattle.mv_ir.specs.declared.tree.Tree.{Tree}
use Rattle.mv_ir.specs.declared.stm.Callee.{Callee}
use Rattle.mv_ir.specs.declared.stm.Callee.TheVariants as callee
use Rattle.mv_ir.specs.declared.stm.Stm.TheOpen as stm
use Rattle.mv_ir.specs.WellFormed.{known_arguments, all_true}
use Rattle.mv_ir.specs.World as ir
use Rattle.mv_ir.specs.Outcome.{Bound}
use Rattle.mv_select_code.specs.Statements.Frames.{Site}
use Rattle.mv_select_code.specs.Control.FlowCode.{only_tests, fine_target, fine_callee, fine_known, fine_layer}
use Rattle.mv_select_code.specs.Control.Runs.{Machine, IsRun}
use Rattle.mv_select_code.specs.Control.Laws.{CallsDo, LinesDo, uses_of}
use Rattle.mv_select.specs.Calls.CallCode.{call_lines, calls_of}
use Rattle.mv_select.proofs.OfCalls.DepthTest.{tests_depth}

module _ {M : Type 0} (access : Access M) (s : Site) (machine : Machine M) (ok : IsRun access s machine) (budget far : ℕ) (place : ℕ → ℕ) (end : ℕ) (setting : ir.Setting) (frame : ir.Frame)
    (is_fine : Tree → Bool) (levels : Bound) (is_attributed : ℕ → Bool) (quiet : s.may_call ≡ false) (unasking : (k : Known) → s.may_ask k ≡ false)
    (left : s.is_left 27 ≡ true) (calls : s.register 27 + frame.depth ≡ depth_limit) where
  abbrev Done : Option ℕ → Callee → List Tree → Type 0
  Done r f xs = LinesDo access s setting frame machine place end budget far is_fine levels (call_lines s.seats is_attributed r f xs) (stm.Call r f xs)

  tests_alone : (r : Option ℕ) (f : Callee) (xs : List Tree) → only_tests f xs ≡ true → Done r f xs
  tests_alone r (callee.Direct f) xs h = cc
  tests_alone r (callee.Through t) xs h = cc
  tests_alone r (callee.Switched g) xs h = cc
  tests_alone r callee.Expanded [] h = tests_depth access s machine ok budget far place end frame left calls setting is_fine levels r
  tests_alone r callee.Expanded (x ∷ xs) h = cc

  no_call : (r : Option ℕ) (f : Callee) (xs : List Tree) → fine_layer is_fine s.may_ask s.temps (uses_of s) (stm.Call r f xs) ≡ true → only_tests f xs ≡ true
  no_call r f xs fine =
      let within = ltb (length xs) 9 && (fine_target is_fine s.may_ask s.temps (uses_of s) r && (fine_callee is_fine s.may_ask s.temps (uses_of s) f && all_true (map is_fine xs))) in
      ap (λ b. b || only_tests f xs) (sym quiet) ∙ and_left (s.may_call || only_tests f xs) within fine

  asks : (k : Known) → s.may_ask k ≡ true → ⊥
  asks k h = let never : false ≡ true = sym (unasking k) ∙ h in absurd cc

  unasked : (k : Known) → fine_known is_fine s.may_ask s.temps (uses_of s) k ≡ true → ⊥
  unasked Getchar h = asks Getchar h
  unasked Putchar h = asks Putchar h
  unasked Poll h = asks Poll h
  unasked (Plan order index) h = asks (Plan order index) (and_left (s.may_ask (Plan order index)) (ltb order 256 && ltb index (2 ^ 32)) h)

  pub quiet_done : CallsDo access s setting frame machine place end budget far is_fine levels (calls_of s.seats is_attributed)
  quiet_done = record {
    call = λ r f xs fine. tests_alone r f xs (no_call r f xs fine);
    known = λ r k xs fine.
        let rest = fine_target is_fine s.may_ask s.temps (uses_of s) r && all_true (map is_fine xs) in
        let asked = fine_known is_fine s.may_ask s.temps (uses_of s) k in
        absurd (unasked k (and_left asked rest (and_right (eqb (length xs) (known_arguments k)) (asked && rest) fine)));
  }
