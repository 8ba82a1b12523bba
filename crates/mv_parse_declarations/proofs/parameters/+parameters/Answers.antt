-- Each function's answer, put together from those of its calls in the order of the code.
use Rattle.std.proofs.Common.{ℕ, Bool, Option, List, Result, refl, sym, arith}
use Rattle.std.proofs.lemmas.Result.{err_from_is_err_and}
use Rattle.mv_syntax.specs.declared.place.Place.{Place}
use Rattle.mv_syntax.specs.declared.unit.Param.{Param}
use Rattle.mv_syntax.specs.declared.unit.Shape.TheVariants as shape
use Rattle.mv_syntax.specs.declared.unit.Specs.{Specs}
use Rattle.mv_parse_grammar.specs.Terminals.{Terminal, terminals, is_mark, is_name}
use Rattle.mv_parse_grammar.specs.Reader.{Read, give, go_on, token, optional, ◌>>=◌}
use Rattle.mv_parse_grammar.specs.Declarations.{declarator_of, param_of, spelling_of}
use Rattle.mv_parse_grammar.specs.ExpressionReader.{read}
use Rattle.mv_parse_grammar.specs.DeclarationReader as model
use Rattle.mv_parse_nodes.proofs.Answers.{given_ok, then_ok, then_err, token_ok, choice_yes, choice_no, regrouped, same_read, loop_stops, loops_at}
use Rattle.mv_parse_nodes.proofs.Lists.{comma_begins, comma_goes_on, comma_fails}
use Rattle.mv_parse_nodes.specs.Gives.{Gives}
use Rattle.mv_parse_nodes.specs.declared.fault.Fault.{Fault}
use Rattle.mv_parse_declarations.proofs.Bounds.{bounded}
use Rattle.mv_parse_declarations.proofs.parameters.+parameters.Goals as goal

pub some_params-loop-after-init : goal.some_params-loop-after-init
some_params-loop-after-init t c = record {
  reads = λ n. loops_at (comma_begins n (model.parameter n (read n) (model.params n)) (terminals c.args.text.now c.args.tokens.now) (c.in_ok-first.ensures.reads n)) (cc (c.in_ok-append.ensures, c.new-params.ensures)) refl;
  shorter = c.in_ok-first.ensures.shorter;
}

pub some_params-returns-in_err-next-clause-reads : goal.some_params-returns-in_err-next-clause-reads
some_params-returns-in_err-next-clause-reads t c = λ n. let p = err_from_is_err_and c.from_residual-in_err-next.result c.from_residual-in_err-next.ensures.1 in rw (p.1, p.2)
    (comma_fails (model.parameter n (read n) (model.params n)) (c.loop-after.invariant.reads n) (c.in-Some.ensures.next c.args.text.now) (c.in_err-next.ensures.reads n))

pub some_params-loop-after-preserved : goal.some_params-loop-after-preserved
some_params-loop-after-preserved t c = record {
  reads = λ n. loops_at (comma_goes_on (model.parameter n (read n) (model.params n)) (c.loop-after.invariant.reads n) (c.in-Some.ensures.next c.args.text.now) (c.in_ok-next.ensures.reads n)) (cc (c.in_ok-append-2.ensures)) refl;
  shorter = omega (arith, c.in_ok-next.ensures.shorter, c.in-Some.ensures.shorter, c.loop-after.invariant.shorter);
}

pub some_params-returns-clause-reads : goal.some_params-returns-clause-reads
some_params-returns-clause-reads t c = λ n. loop_stops (c.loop-after.invariant.reads n) (c.in_default.ensures.next c.args.text.now) (given_ok _ _ _ refl refl)

pub params-returns-in_err-params-clause-reads : goal.params-returns-in_err-params-clause-reads
params-returns-in_err-params-clause-reads t c = λ n. let p = err_from_is_err_and c.from_residual.result c.from_residual.ensures.1 in rw (p.1, p.2)
    (bounded _ (λ n. choice_yes _ _ (c.in-Some.ensures.next c.args.text.now) (then_err _ (c.in_err-params.ensures.reads n))) n)

pub params-returns-clause-reads : goal.params-returns-clause-reads
params-returns-clause-reads t c =
    bounded _ (λ n. choice_yes _ _ (c.in-Some.ensures.next c.args.text.now) (then_ok _ (c.in_ok-params.ensures.reads n) (given_ok _ _ _ (sym c.without_void.ensures) refl)))

-- what stands behind the name of a pointer to functions, and the same behind what its spelling is read as
abbrev behind_name : (List Terminal → Read (List Param)) → Specs → Place → Bool → Option (List ℕ) → List Terminal → Read Param
behind_name P s p c name = token (is_mark 1) >>= λ _. model.parameter_list P >>= λ ps. give (param_of s (declarator_of p name (shape.Pointer c ps)))

named : {A : Type 0} {view : A → Param × List Terminal} {r : Result A Fault} (P : List Terminal → Read (List Param)) (s : Specs) (p : Place) (c : Bool) (ts : List Terminal)
    → Gives view r (go_on (behind_name P s p c) (go_on (λ name. give (spelling_of name)) (optional is_name (token is_name) ts)))
    → Gives view r (go_on (λ name. behind_name P s p c (spelling_of name)) (optional is_name (token is_name) ts))
named P s p c ts h = same_read (regrouped (λ name. give (spelling_of name)) (behind_name P s p c) (optional is_name (token is_name) ts)) h

pub parameter_name-returns-in_err-rest-clause-reads : goal.parameter_name-returns-in_err-rest-clause-reads
parameter_name-returns-in_err-rest-clause-reads t c = λ n. let p = err_from_is_err_and c.from_residual-in_err-rest.result c.from_residual-in_err-rest.ensures.1 in rw (p.1, p.2)
    (choice_no _ _ _ (c.in_default.ensures.next c.args.text.now) (choice_yes _ _ (c.in-Some-next_mark.ensures.next c.args.text.now)
    (token_ok _ (c.in-Some-next_mark.ensures.next c.args.text.now) (then_err _ (c.in_err-rest.ensures.reads c.args.text.now)))))

pub parameter_name-returns-in_err-name-clause-reads : goal.parameter_name-returns-in_err-name-clause-reads
parameter_name-returns-in_err-name-clause-reads t c = λ n. let p = err_from_is_err_and c.from_residual-in_err-name.result c.from_residual-in_err-name.ensures.1 in rw (p.1, p.2)
    (choice_no _ _ _ (c.in_default.ensures.next c.args.text.now) (choice_yes _ _ (c.in-Some-next_mark.ensures.next c.args.text.now)
    (token_ok _ (c.in-Some-next_mark.ensures.next c.args.text.now) (then_ok _ (c.in_ok-rest.ensures.reads c.args.text.now)
    (then_ok _ (c.constant-fixed.ensures.reads c.args.text.now)
    (named (model.params n) c.args.specs c.in-Some-next_mark.open.now.place c.constant-fixed.result.0 (terminals c.args.text.now c.constant-fixed.result.1.now)
    (then_err _ c.in_err-name.ensures.reads)))))))

pub parameter_name-returns-in_err-rest-2-clause-reads : goal.parameter_name-returns-in_err-rest-2-clause-reads
parameter_name-returns-in_err-rest-2-clause-reads t c = λ n. let p = err_from_is_err_and c.from_residual-in_err-rest-2.result c.from_residual-in_err-rest-2.ensures.1 in rw (p.1, p.2)
    (choice_no _ _ _ (c.in_default.ensures.next c.args.text.now) (choice_yes _ _ (c.in-Some-next_mark.ensures.next c.args.text.now)
    (token_ok _ (c.in-Some-next_mark.ensures.next c.args.text.now) (then_ok _ (c.in_ok-rest.ensures.reads c.args.text.now)
    (then_ok _ (c.constant-fixed.ensures.reads c.args.text.now)
    (named (model.params n) c.args.specs c.in-Some-next_mark.open.now.place c.constant-fixed.result.0 (terminals c.args.text.now c.constant-fixed.result.1.now)
    (then_ok _ c.in_ok-name.ensures.reads (then_err _ (c.in_err-rest-2.ensures.reads c.args.text.now)))))))))

pub parameter_name-returns-in_err-params-clause-reads : goal.parameter_name-returns-in_err-params-clause-reads
parameter_name-returns-in_err-params-clause-reads t c = λ n. let p = err_from_is_err_and c.from_residual-in_err-params.result c.from_residual-in_err-params.ensures.1 in rw (p.1, p.2)
    (choice_no _ _ _ (c.in_default.ensures.next c.args.text.now) (choice_yes _ _ (c.in-Some-next_mark.ensures.next c.args.text.now)
    (token_ok _ (c.in-Some-next_mark.ensures.next c.args.text.now) (then_ok _ (c.in_ok-rest.ensures.reads c.args.text.now)
    (then_ok _ (c.constant-fixed.ensures.reads c.args.text.now)
    (named (model.params n) c.args.specs c.in-Some-next_mark.open.now.place c.constant-fixed.result.0 (terminals c.args.text.now c.constant-fixed.result.1.now)
    (then_ok _ c.in_ok-name.ensures.reads (then_ok _ (c.in_ok-rest-2.ensures.reads c.args.text.now) (then_err _ (c.in_err-params.ensures.reads n))))))))))

pub parameter_name-returns-clause-reads : goal.parameter_name-returns-clause-reads
parameter_name-returns-clause-reads t c = λ n. choice_no _ _ _ (c.in_default.ensures.next c.args.text.now)
    (choice_yes _ _ (c.in-Some-next_mark.ensures.next c.args.text.now) (token_ok _ (c.in-Some-next_mark.ensures.next c.args.text.now)
    (then_ok _ (c.in_ok-rest.ensures.reads c.args.text.now) (then_ok _ (c.constant-fixed.ensures.reads c.args.text.now)
    (named (model.params n) c.args.specs c.in-Some-next_mark.open.now.place c.constant-fixed.result.0 (terminals c.args.text.now c.constant-fixed.result.1.now)
    (then_ok _ c.in_ok-name.ensures.reads (then_ok _ (c.in_ok-rest-2.ensures.reads c.args.text.now) (then_ok _ (c.in_ok-params.ensures.reads n)
    (given_ok _ _ _ (sym c.in_ok-param-3.ensures) refl)))))))))
