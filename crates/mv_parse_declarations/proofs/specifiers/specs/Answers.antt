use Rattle.std.proofs.Common.{refl, sym, ap, ◌∙◌, arith}
use Rattle.std.proofs.lemmas.Result.{err_from_is_err_and}
use Rattle.mv_syntax.specs.declared.unit.Specs.{Specs}
use Rattle.mv_parse_grammar.specs.Terminals.{terminals}
use Rattle.mv_parse_grammar.specs.Reader as reader
use Rattle.mv_parse_grammar.specs.Expressions.{no_specs, specs_at}
use Rattle.mv_parse_grammar.specs.ExpressionReader.{read}
use Rattle.mv_parse_grammar.specs.DeclarationReader as model
use Rattle.mv_parse_nodes.proofs.Answers.{given_ok, loop_begins, loop_goes_on, loop_stops, loop_fails, loops_at, regrouped, go_on_give, marked_gives, err_any, ok_any, same_read}
use Rattle.mv_parse_declarations.proofs.specifiers.specs.Goals as goal

pub loop-specs-init : goal.loop-specs-init
loop-specs-init c =
    let ts = terminals c.args.text.now c.args.tokens.now in
    record {
      reads = λ n. loops_at (loop_begins (model.specifier n (read n)) (λ (s : Specs) r. reader.give s r) (λ m. specs_at m.0 m.1) n _ _
          (marked_gives ts (model.specifier n (read n) no_specs)
          (same_read (ap (λ s. model.specifier n (read n) s ts) c.no_specs-specs.ensures) (c.in_ok-rest.ensures.reads n)))
          (go_on_give _ ∙ regrouped _ _ (reader.marked (model.specifier n (read n) no_specs) ts)))
          (ap (λ p. specs_at p c.specifier.new.specs) (sym (c.place_of.ensures c.args.text.now)) ∙ sym c.put_at.ensures) refl;
      shorter = c.in_ok-rest.ensures.shorter;
    }

pub returns-in_err-rest-2-clause-reads : goal.returns-in_err-rest-2-clause-reads
returns-in_err-rest-2-clause-reads c = λ n. let p = err_from_is_err_and c.from_residual-in_err-rest-2.result c.from_residual-in_err-rest-2.ensures.1 in rw (p.1, p.2)
    (loop_fails (c.loop-specs.invariant.reads n) (c.in-Some.ensures.next c.args.text.now) (err_any (c.in_err-rest-2.ensures.reads n)))

pub loop-specs-preserved : goal.loop-specs-preserved
loop-specs-preserved c = record {
  reads = λ n. loop_goes_on (c.loop-specs.invariant.reads n) (c.in-Some.ensures.next c.args.text.now) (ok_any (c.in_ok-rest-2.ensures.reads n));
  shorter = omega (arith, c.in_ok-rest-2.ensures.shorter, c.loop-specs.invariant.shorter);
}

pub returns-clause-reads : goal.returns-clause-reads
returns-clause-reads c = λ n. loop_stops (c.loop-specs.invariant.reads n) (c.in_default.ensures.next c.args.text.now) (given_ok _ _ _ refl refl)
