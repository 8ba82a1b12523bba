-- A text that has tokens is a program or is refused.
use Rattle.std.proofs.Common.{◌≡◌, ℕ, zero, suc, ◌<◌, ◌≤◌, List, [], ◌∷◌, length, drop, ◌⊎◌, inl, inr, Option, Some, None, Err, All, refl, ap, arith}
use Rattle.std.specs.Prelude.{slice_index}
use Rattle.std.proofs.lemmas.Bool.{cases_lt}
use Rattle.std.proofs.lemmas.List.Elements.{All-nil, All-cons}
use Rattle.mv_syntax.specs.declared.place.Place.{Place}
use Rattle.mv_ast.specs.declared.program.Program.{Program}
use Rattle.mv_syntax.specs.declared.token.Token.{Token}
use Rattle.mv_syntax.specs.declared.token.Tokens.{Tokens}
use Rattle.mv_syntax.specs.declared.unit.Item.{Item}
use Rattle.mv_syntax.specs.declared.unit.Unit as unit
use Rattle.mv_lexer.specs.Reading.{AreTokens}
use Rattle.mv_parse_nesting.specs.Nesting.{Pairs, after_piece, goes_on, levels_from, levels, start, place_of}
use Rattle.mv_parse_grammar.specs.Terminals.{Terminal, terminals}
use Rattle.mv_parse_grammar.specs.Reader as R
use Rattle.mv_parse_grammar.specs.Reader.{Read, Deep}
use Rattle.mv_parse_grammar.specs.UnitReader as model
use Rattle.mv_parse_grammar.specs.Reading.{Breaks, bound, place_or}
use Rattle.mv_parse_grammar.proofs.Verdict.{whole, broken, enough}
use Rattle.mv_parser.specs.declared.error.ParseError.TheVariants.{Syntax}
use Rattle.mv_parser.specs.Verdict.{IsShallow}
use Rattle.mv_parser.proofs.Answers.{err}
use Rattle.mv_check_expressions.specs.Judged.{Judged, Good, Broken}
use Rattle.mv_check_limits.specs.Ordered.{first_excess}
use Rattle.mv_check_limits.specs.declared.excess.Exceeded.{Exceeded}
use Rattle.mv_check_rules.specs.Units.{judged_by_rules}
use Rattle.mv_front.specs.Codes as refusals
use Rattle.mv_front.specs.Refusals.{at_place, of_rule, counted}
use Rattle.mv_front.specs.Verdicts.{IsUnit, too_deep, no_unit, broken_rule, over_limit}
use Rattle.mv_verdicts.specs.Laws.{HasVerdict, accepted, refused}

-- ---- nesting

-- the first number of a list that is above 255
record FirstAbove (xs : List ℕ) : Type 0 where
  index : ℕ
  in_range : index < length xs
  above : 255 < slice_index xs index
  first : (k : ℕ) → k < index → slice_index xs k ≤ 255

abbrev Within : List ℕ → Type 0
Within xs = All (λ level. level ≤ 255) xs

first_above : (xs : List ℕ) → Within xs ⊎ FirstAbove xs
first_above [] = inl (All-nil (λ level. level ≤ 255))
first_above (x ∷ xs) = by (cases_lt 255 x) (first_above xs)
  where
    by : (255 < x) ⊎ (x ≤ 255) → Within xs ⊎ FirstAbove xs → Within (x ∷ xs) ⊎ FirstAbove (x ∷ xs)
    by (inl high) rest = inr (record { index = 0; in_range = omega arith; above = high; first = λ k lt. absurd (omega (arith, lt)) })
    by (inr low) (inl all) = inl (All-cons (λ level. level ≤ 255) x xs low all)
    by (inr low) (inr there) = inr (record { index = suc there.index; in_range = let lt = there.in_range in omega (arith, lt); above = there.above; first = before })
      where
        before : (k : ℕ) → k < suc there.index → slice_index (x ∷ xs) k ≤ 255
        before zero lt = low
        before (suc k) lt = there.first k (omega (arith, lt))

one_each : (s : Pairs) (ts : List Token) → length (levels_from s ts) ≡ length ts
one_each s [] = refl
one_each s (t ∷ ts) = ap suc (one_each (after_piece t.what (goes_on ts) s) ts)

module _ (text : List ℕ) (tokens : Tokens) (lexed : AreTokens text tokens.items tokens.end) where
  -- ---- rules and limits

  module _ (u : unit.Unit) (is : IsUnit text u) where
    within_limits : (p : Program) → judged_by_rules u ≡ Good p → (o : Option Exceeded) → first_excess u p ≡ o → HasVerdict text
    within_limits p good None e = accepted p (record { unit = u; reads = is; good = good; within = e })
    within_limits p good (Some x) e = refused (counted refusals.limit x.limit x.count) (over_limit u p x.limit x.count is good e)

    by_rules : (j : Judged Program) → judged_by_rules u ≡ j → HasVerdict text
    by_rules (Good p) e = within_limits p e (first_excess u p) refl
    by_rules (Broken place rule) e = refused (of_rule place rule) (broken_rule u place rule is e)

  -- ---- the grammar

  abbrev ts : List Terminal
  ts = terminals text tokens.items

  abbrev n : ℕ
  n = bound (length ts)

  module _ (shallow : IsShallow tokens) where
    as_unit : (items : List Item) (rest : List Terminal) → model.unit n ts ≡ R.Ends (Some items) rest → HasVerdict text
    as_unit items rest e =
        let u : unit.Unit = record { items = items; end = tokens.end } in
        let exactly = whole text tokens n u rest e refl in
        by_rules u (record { reads = record { tokens = tokens; lexed = lexed; parsed = exactly.reads }; shallow = shallow }) (judged_by_rules u) refl

    breaks_off : (left : ℕ) → Breaks ts left → HasVerdict text
    breaks_off left b =
        let place : Place = place_or b.rest tokens.end in
        refused (at_place refusals.unit place) (no_unit tokens place lexed (err text tokens (Err (Syntax place)) lexed (shallow, record { left = left; breaks = b; at = refl })))

    by_grammar : (read : Read (List Item)) → model.unit n ts ≡ read → HasVerdict text
    by_grammar Deep e = absurd (enough ts e)
    by_grammar (R.Ends (Some items) rest) e = as_unit items rest e
    by_grammar (R.Ends None rest) e = breaks_off (length rest) (broken n ts rest e)

  by_nesting : IsShallow tokens ⊎ FirstAbove (levels tokens.items) → HasVerdict text
  by_nesting (inl shallow) = by_grammar shallow (model.unit n ts) refl
  by_nesting (inr deep) =
      let place : Place = place_of (drop deep.index tokens.items) in
      let lt = deep.in_range in
      let same = one_each start tokens.items in
      refused (at_place refusals.nesting place) (too_deep tokens place lexed (record { index = deep.index; in_range = omega (arith, lt, same); above = deep.above; first = deep.first; at = refl }))

  pub judged : HasVerdict text
  judged = by_nesting (first_above (levels tokens.items))
