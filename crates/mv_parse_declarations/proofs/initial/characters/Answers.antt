use Rattle.std.proofs.Common.{ℕ, List, ◌++◌, refl, sym, ap, ◌∙◌, arith}
use Rattle.mv_parse_grammar.specs.Terminals.{terminal, terminals, is_string}
use Rattle.mv_parse_grammar.specs.Reader as reader
use Rattle.mv_parse_grammar.specs.Declarations.{characters_of}
use Rattle.mv_parse_grammar.specs.DeclarationReader.{more_characters}
use Rattle.mv_parse_nodes.proofs.Answers.{given_ok, token_ok, loop_begins, loop_goes_on, loop_stops, loops_at, regrouped, go_on_give}
use Rattle.mv_parse_declarations.proofs.initial.characters.Goals as goal

pub loop-next-init : goal.loop-next-init
loop-next-init c = record {
  reads = λ text n. loops_at (loop_begins more_characters (λ (cs : List ℕ) r. reader.give cs r) characters_of n _ _ (c.in_ok-first.ensures.reads text)
      (go_on_give _ ∙ regrouped _ _ (reader.token is_string (terminals text c.args.tokens.now))))
      (ap (λ (cs : List ℕ). cs ++ characters_of (terminal text c.in_ok-first.first.now)) (sym c.new-characters.ensures) ∙
      sym c.in_ok-add_characters.ensures) refl;
  shorter = c.in_ok-first.ensures.shorter;
}

pub loop-next-preserved : goal.loop-next-preserved
loop-next-preserved c = record {
  reads = λ text n. loops_at (loop_goes_on (c.loop-next.invariant.reads text n) (c.in-Some.ensures.next text)
      (token_ok _ (c.in-Some.ensures.next text) (given_ok (c.loop-next.characters ++ characters_of (terminal text c.in-Some.next.now), terminals text c.in-Some.after.now) _ _ refl refl)))
      (cc (c.in_ok-add_characters-2.ensures)) refl;
  shorter = omega (arith, c.in-Some.ensures.shorter, c.loop-next.invariant.shorter);
}

pub returns-clause-reads : goal.returns-clause-reads
returns-clause-reads c = λ text n. loop_stops (c.loop-next.invariant.reads text n) (c.in_default.ensures.next text) (given_ok _ _ _ refl refl)
