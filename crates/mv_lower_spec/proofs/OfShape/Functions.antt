-- The code of a whole function obeys the rules.
use Rattle.std.proofs.Common.{◌≡◌, ℕ, ◌+◌, ◌*◌, ◌≤◌, Bool, true, false, List, [], ◌++◌, map, length, max, refl, sym, subst, arith, append-nil}
use Rattle.std.specs.Prelude.{sum, nat_lt}
use Rattle.mv_ir.specs.declared.tree.Tree.{Tree}
use Rattle.mv_ir.specs.declared.stm.Stm.{Stm}
use Rattle.mv_ast.specs.declared.program.Function.{Function}
use Rattle.mv_ast.specs.Counts.{stmt_nodes}
use Rattle.mv_lower_spec.specs.Lowered.{number}
use Rattle.mv_source_forms.specs.Names.{is_void, size_in}
use Rattle.mv_lower_spec.specs.Functions.{lower_body, outermost, ending, lower_function_code}
use Rattle.mv_lower_spec.proofs.OfShape.Asked.{Globals, all_within, scopes_of}
use Rattle.mv_lower_spec.specs.Shape.Calls.{function_weight}
use Rattle.mv_lower_spec.specs.Shape.Reads.{none}
use Rattle.mv_lower_spec.proofs.OfShape.Rules.{Rules, BlockRules}
use Rattle.mv_lower_spec.proofs.OfShape.Plain.{covers_number}
use Rattle.mv_lower_spec.proofs.OfShape.Expressions.{allowed}
use Rattle.mv_lower_spec.proofs.OfShape.Statements as statements

-- the number of temporaries
abbrev pub room_of : (pointers : List ℕ) → Function → ℕ
room_of pointers g = max (length g.locals) (lower_body pointers g).top

abbrev pub body_nodes : Function → ℕ
body_nodes g = sum (map stmt_nodes g.body)

module _ (globals : Globals) (g : Function) (direct : ℕ → ℕ) (through : ℕ) (B : ℕ → ℕ → ℕ → ℕ → List Tree → List Stm → List Tree → Type 0)
    (rules : (declared : ℕ → Bool) → Rules (allowed globals (length g.locals) (size_in g.locals) (room_of globals.pointers g) direct through declared) B) (blocks : BlockRules B) where
  pub record FunctionPaid : Type 0 where
    pub units : ℕ
    pub words : ℕ
    pub nodes : ℕ
    pub made : B units words nodes (function_weight direct through g) [] (lower_function_code globals.pointers g).code []
    pub few_units : units ≤ 6 * body_nodes g + 1
    pub few_nodes : nodes ≤ 9 * body_nodes g + 1
    pub few_words : words + 2 * nodes ≤ 40 * body_nodes g + 7

  ended : {s w t k : ℕ} {xs : List Stm} (void : Bool) → B s w t k [] xs [] → B (s + 1) (w + 1) (t + 1) k [] (xs ++ ending void) []
  ended {s} {w} {t} {k} {xs} true h = subst (λ c. B (s + 1) (w + 1) (t + 1) k [] c []) (sym (append-nil xs)) ((rules none).weaken (omega arith) (omega arith) (omega arith) refl h)
  ended false h = (rules none).weaken (omega arith) (omega arith) (omega arith) (omega arith) ((rules none).chain h ((rules none).chain ((rules none).retree (covers_number 0)) (blocks.returns (number 0))))

  pub function_paid : all_within (scopes_of globals g) (λ l. nat_lt l g.params) ≡ true → FunctionPaid
  function_paid b =
      let p = statements.body_paid globals (length g.locals) (size_in g.locals) (is_void g.result) (room_of globals.pointers g) direct through B rules blocks g.body (λ l. nat_lt l g.params) b outermost (omega arith) in
      record {
        units = p.units + 1;
        words = p.words + 1;
        nodes = p.nodes + 1;
        made = ended (is_void g.result) p.made;
        few_units = omega (arith, p.few_units);
        few_nodes = omega (arith, p.few_nodes);
        few_words = omega (arith, p.few_words);
      }
