-- The reading of statements and local declarations takes exactly the phrases of the grammar.
use Rattle.std.proofs.Common.{◌≡◌, ℕ, zero, suc, ◌+◌, ◌*◌, ◌≤◌, Bool, true, false, Some, None, List, [], ◌∷◌, ◌++◌, inl, inr, length, refl, sym, ap, ◌∙◌, arith}
use Rattle.std.specs.Prelude.{◌&&◌}
use Rattle.mv_syntax.specs.declared.place.Place.{Place}
use Rattle.mv_syntax.specs.declared.token.Piece.TheVariants.{Keyword, Mark}
use Rattle.mv_syntax.specs.declared.unit.Line.{Line}
use Rattle.mv_syntax.specs.declared.unit.Act.TheVariants as a
use Rattle.mv_parse_grammar.specs.Terminals.{Terminal, is_mark, is_keyword, is_specifier, is_no_end}
use Rattle.mv_parse_grammar.specs.Language as L
use Rattle.mv_parse_grammar.specs.Language.{place_of}
use Rattle.mv_parse_grammar.specs.Reader as R
use Rattle.mv_parse_grammar.specs.Expressions.{Nonterminal, Expressions, Assign, Cond, phrase}
use Rattle.mv_parse_grammar.specs.ExpressionReader.{Readers, read}
use Rattle.mv_parse_grammar.specs.Declarations.{Parameters, declared, params, place_of_specs}
use Rattle.mv_parse_grammar.specs.DeclarationReader as D
use Rattle.mv_parse_grammar.specs.DeclarationReader.{ParameterReader}
use Rattle.mv_parse_grammar.specs.Statements as G
use Rattle.mv_parse_grammar.specs.Statements.{Lines, is_open, line_at}
use Rattle.mv_parse_grammar.specs.StatementReader as M
use Rattle.mv_parse_grammar.specs.StatementReader.{LineReader}
use Rattle.mv_parse_grammar.proofs.Classes.{Class, sample, either, of_all_but, at_mark, at_keyword, at_class, at_in, is_in, wider, specifiers, expression_starts, in_specifiers}
use Rattle.mv_parse_grammar.proofs.Exact.{Exact, ExactIn, Any, Leads, leads_then, leads_marked, leads_or, leads_any, exact_before, exact_deep, exact_same, exact_marked, none, none_next}
use Rattle.mv_parse_grammar.proofs.Shapes.{Room, apart_leads, leads_first, leads_wider, given, ended, taken, first, after, after_in, picked, later, stepped, chained, guarded}
use Rattle.mv_parse_grammar.proofs.Lists.{comma_list_exact}
use Rattle.mv_parse_grammar.proofs.ExpressionExactness.{starts, more, weight, deep, expression_exact, phrase_leads}
use Rattle.mv_parse_grammar.proofs.DeclarationExactness.{declarator_class, declarator_starts, never_declared, never_in_parameters, specs_leads, declared_leads, specs_exact, declared_exact, params_exact}
use Rattle.mv_parse_grammar.proofs.DanglingElse.{open_if, open_else, open_while, open_do, open_for, open_switch, open_block, open_declare, open_express, open_case, open_default, open_return, open_break, open_continue}
use Rattle.mv_num.proofs.Booleans.{and_false}

-- an `else` goes on from a statement that ends in an `if` without one
abbrev pub more_line : Line → Terminal → Bool
more_line l t = is_open l && is_keyword 8 t

-- what doesn't go on
closed : (l : Line) → is_open l ≡ false → none ≡ more_line l
closed l e = ap (λ v (t : Terminal). v && is_keyword 8 t) (sym e)

-- what goes on where another does
as_open : (l m : Line) → is_open l ≡ is_open m → more_line m ≡ more_line l
as_open l m e = ap (λ v (t : Terminal). v && is_keyword 8 t) (sym e)

-- how simple statements, statements, and the items of a block begin

abbrev simple_class : Class
simple_class = record { marks = 6 ∷ 0 ∷ 10 ∷ 11 ∷ 12 ∷ 13 ∷ 14 ∷ 17 ∷ 23 ∷ 24 ∷ []; keywords = []; names = true; numbers = true; strings = false }

abbrev statement_class : Class
statement_class = record { marks = 4 ∷ 6 ∷ 0 ∷ 10 ∷ 11 ∷ 12 ∷ 13 ∷ 14 ∷ 17 ∷ 23 ∷ 24 ∷ []; keywords = 11 ∷ 20 ∷ 7 ∷ 10 ∷ 17 ∷ 2 ∷ 6 ∷ 1 ∷ 5 ∷ 13 ∷ []; names = true; numbers = true; strings = false }

abbrev item_class : Class
item_class = record {
  marks = 4 ∷ 6 ∷ 0 ∷ 10 ∷ 11 ∷ 12 ∷ 13 ∷ 14 ∷ 17 ∷ 23 ∷ 24 ∷ [];
  keywords = 0 ∷ 3 ∷ 4 ∷ 9 ∷ 12 ∷ 14 ∷ 15 ∷ 16 ∷ 18 ∷ 19 ∷ 21 ∷ 11 ∷ 20 ∷ 7 ∷ 10 ∷ 17 ∷ 2 ∷ 6 ∷ 1 ∷ 5 ∷ 13 ∷ [];
  names = true;
  numbers = true;
  strings = false;
}

abbrev begins_simple : Terminal → Bool
begins_simple = is_in simple_class

abbrev begins_statement : Terminal → Bool
begins_statement = is_in statement_class

abbrev begins_item : Terminal → Bool
begins_item = is_in item_class

pub local_leads : (E : Expressions) (P : Parameters) → Leads is_specifier (G.local E P)
local_leads E P = leads_then is_specifier _ _ (specs_leads E)

module _ (E : Expressions) (le : Leads starts (E Assign)) where
  value_leads : (m : ℕ) (c : Class) → ((t : Terminal) → is_mark m t ≡ true → is_in c t ≡ true) → ((t : Terminal) → starts t ≡ true → is_in c t ≡ true) → Leads (is_in c) (G.value m E)
  value_leads m c h k = leads_or (is_in c) _ _ (leads_wider h) (leads_then (is_in c) _ _ (leads_any starts (is_in c) (E Assign) k le))

  value_leads_simple : Leads begins_simple (G.value 6 E)
  value_leads_simple = value_leads 6 simple_class (at_mark 6 _ refl (λ _ _. refl)) (at_class expression_starts _ (λ _ _ _ _ _. refl))

  statement_leads : (D T : Lines) → Leads begins_statement (G.statement E D T)
  statement_leads D T =
      leads_or begins_statement _ _ (leads_wider (at_mark 4 _ refl (λ _ _. refl)))
      (leads_or begins_statement _ _ (leads_wider (at_keyword 11 _ refl (λ _ _. refl)))
      (leads_or begins_statement _ _ (leads_wider (at_keyword 20 _ refl (λ _ _. refl)))
      (leads_or begins_statement _ _ (leads_wider (at_keyword 7 _ refl (λ _ _. refl)))
      (leads_or begins_statement _ _ (leads_wider (at_keyword 10 _ refl (λ _ _. refl)))
      (leads_or begins_statement _ _ (leads_wider (at_keyword 17 _ refl (λ _ _. refl)))
      (leads_or begins_statement _ _ (leads_wider (at_keyword 2 _ refl (λ _ _. refl)))
      (leads_or begins_statement _ _ (leads_wider (at_keyword 6 _ refl (λ _ _. refl)))
      (leads_or begins_statement _ _ (leads_wider (at_keyword 1 _ refl (λ _ _. refl)))
      (leads_or begins_statement _ _ (leads_wider (at_keyword 5 _ refl (λ _ _. refl)))
      (leads_or begins_statement _ _ (leads_wider (at_keyword 13 _ refl (λ _ _. refl)))
      (leads_then begins_statement _ _ (leads_marked begins_statement _ (leads_any begins_simple begins_statement (G.value 6 E) (wider simple_class statement_class (λ _ _ _ _ _. refl)) value_leads_simple)))))))))))))

-- whether the last of these ends in an `if` without `else`
abbrev last_open : List Line → Bool
last_open [] = false
last_open (l ∷ []) = is_open l
last_open (l ∷ m ∷ ls) = last_open (m ∷ ls)

last_pushed : (ls : List Line) (l : Line) → last_open (ls ++ l ∷ []) ≡ is_open l
last_pushed [] l = refl
last_pushed (k ∷ []) l = refl
last_pushed (k ∷ m ∷ ls) l = last_pushed (m ∷ ls) l

abbrev more_lines : List Line → Terminal → Bool
more_lines ls t = last_open ls && is_keyword 8 t

-- local declarations

module _ (n : ℕ) (J C : Expressions) (P : Readers) (self : (r : Nonterminal) → Exact (Room n (weight r)) none (J r) (C r) (P r) (λ _. more r))
    (lj : (r : Nonterminal) → Leads starts (J r)) (lc : (r : Nonterminal) → Leads starts (C r))
    (PJ PC : Parameters) (PP : ParameterReader) (ps : ExactIn (Room n 4) never_in_parameters none PJ PC PP (λ _. none)) where
  pub local_exact : (b : ℕ) → 1 ≤ b → Exact (Room n b) none (G.local J PJ) (G.local C PC) (M.local n P PP) more_line
  local_exact b l =
      after_in (λ s. apart_leads (is_mark 4) declarator_starts _ more_line none (leads_then declarator_starts _ _ (leads_then declarator_starts _ _ (declared_leads C PC))) (at_class declarator_class _ (λ _ _ _ _ _. refl)))
      (specs_exact n J C P self lj lc b l)
      (λ s. exact_before (Room n b) none is_specifier declarator_starts _ _ _ _
      (after_in (λ ds. apart_leads never_declared (is_mark 6) _ more_line none (leads_first (is_mark 6)) (at_mark 6 _ refl (λ _ _. refl)))
      (comma_list_exact n b never_declared declarator_starts (at_mark 7 _ refl (λ _ _. refl)) (declared J PJ) (declared C PC) (D.declared n P PP) (declared_leads J PJ) (declared_exact n J C P self lj lc PJ PC PP ps b l))
      (λ ds. first (taken (sample (Mark 6)) refl (at_mark 6 _ refl (λ _ _. refl))) (λ _. given (closed (line_at (place_of_specs s) (a.Declare s ds)) (open_declare (place_of_specs s) s ds)))))
      (leads_then declarator_starts _ _ (leads_then declarator_starts _ _ (declared_leads C PC))) (at_class declarator_class _ (λ _ _ _ _ _. refl)))

-- statements

module _ (n : ℕ) (J C : Expressions) (P : Readers) (self : (r : Nonterminal) → Exact (Room n (weight r)) none (J r) (C r) (P r) (λ _. more r))
    (lj : (r : Nonterminal) → Leads starts (J r)) (lc : (r : Nonterminal) → Leads starts (C r))
    (DJ DC : Lines) (PD : LineReader) (d : Exact (Room n 4) none DJ DC PD more_line) (ldj : Leads is_specifier DJ) (ldc : Leads is_specifier DC)
    (TJ TC : Lines) (PT : LineReader) (t : Exact (Room n 4) none TJ TC PT more_line) (ltj : Leads begins_statement TJ) (ltc : Leads begins_statement TC) where
  condition_exact : (b : ℕ) → Exact (Room n b) none (G.condition J) (G.condition C) (M.condition P) (λ _. none)
  condition_exact b =
      first (taken (sample (Mark 0)) refl (λ _ _. refl)) (λ _. after (later 3 (b + 3) (omega arith) (self Assign)) (λ x. first (taken (sample (Mark 1)) refl (at_mark 1 _ refl (λ _ _. refl))) (λ _. given refl)))

  value_exact : (m : ℕ) → is_mark m (sample (Mark m)) ≡ true → ((u : Terminal) → starts u ≡ true → is_mark m u ≡ false) → ((u : Terminal) → is_mark m u ≡ true → more Assign u ≡ false)
      → (b : ℕ) → 3 ≤ b → Exact (Room n b) none (G.value m J) (G.value m C) (M.value m P) (λ _. none)
  value_exact m good apart stop b l =
      picked (leads_first (is_mark m)) (first (taken (sample (Mark m)) good (λ _ _. refl)) (λ _. given refl))
      (after (exact_before (Room n b) none (either none (is_mark m)) starts _ _ _ _ (later 3 b l (self Assign)) (lc Assign) apart)
      (λ x. first (taken (sample (Mark m)) good stop) (λ _. given refl)))

  semicolon_exact : (b : ℕ) → 3 ≤ b → Exact (Room n b) none (G.value 6 J) (G.value 6 C) (M.value 6 P) (λ _. none)
  semicolon_exact = value_exact 6 refl (at_class expression_starts _ (λ _ _ _ _ _. refl)) (at_mark 6 _ refl (λ _ _. refl))

  marked_value_exact : (b : ℕ) → 3 ≤ b → Exact (Room n b) none (L.marked (G.value 6 J)) (L.marked (G.value 6 C)) (R.marked (M.value 6 P)) (λ _. none)
  marked_value_exact b l = exact_marked (Room n b) none none begins_simple (G.value 6 J) (G.value 6 C) (M.value 6 P) (λ _. none) (value_leads_simple J (lj Assign)) (value_leads_simple C (lc Assign)) (semicolon_exact b l)

  -- blocks

  block_item_exact : (b : ℕ) → 4 ≤ b → Exact (Room n b) none (L.◌or◌ DJ TJ) (L.◌or◌ DC TC) (M.block_item PD PT) more_line
  block_item_exact b l = picked ldc (later 4 b l d) (exact_before (Room n b) none _ begins_statement TJ TC PT more_line (later 4 b l t) ltc (at_class statement_class _ (λ _ _ _ _ _. refl)))

  block_item_leads : (D T : Lines) → Leads is_specifier D → Leads begins_statement T → Leads begins_item (L.◌or◌ D T)
  block_item_leads D T ld lt =
      leads_or begins_item D T (leads_any is_specifier begins_item D (at_in specifiers in_specifiers _ (λ _ _ _ _ _. refl)) ld)
      (leads_any begins_statement begins_item T (wider statement_class item_class (λ _ _ _ _ _. refl)) lt)

  another_exact : (b : ℕ) → 4 ≤ b → (ls : List Line) → Exact (Room n b) (more_lines ls) (L.pushed (L.◌or◌ DJ TJ) ls) (L.pushed (L.◌or◌ DC TC) ls) (R.pushed (M.block_item PD PT) ls) more_lines
  another_exact b h ls =
      after (exact_before (Room n b) none (more_lines ls) begins_item _ _ (M.block_item PD PT) more_line (block_item_exact b h) (block_item_leads DC TC ldc ltc)
      (λ u k. ap (λ v. last_open ls && v) (at_class item_class (is_keyword 8) (λ _ _ _ _ _. refl) u k) ∙ and_false (last_open ls)))
      (λ l. given (ap (λ v (u : Terminal). v && is_keyword 8 u) (sym (last_pushed ls l))))

  another_leads : (D T : Lines) → Leads is_specifier D → Leads begins_statement T → (ls : List Line) → Leads is_no_end (L.pushed (L.◌or◌ D T) ls)
  another_leads D T ld lt ls = leads_then is_no_end _ _ (leads_any begins_item is_no_end _ (at_class item_class is_no_end (λ _ _ _ _ _. refl)) (block_item_leads D T ld lt))

  pub block_exact : (b : ℕ) → 1 ≤ b → (before : Terminal → Bool) → ((u : Terminal) → is_mark 4 u ≡ true → before u ≡ false) → (go_on : Line → Terminal → Bool) → ((p : Place) (ls : List Line) → none ≡ go_on (line_at p (a.Block ls)))
      → Exact (Room n b) before (G.block DJ TJ) (G.block DC TC) (M.block n PD PT) go_on
  block_exact b l before apart go_on ends =
      first (taken (sample (Mark 4)) refl apart) (λ k. after
      (chained is_no_end more_lines (λ _. is_no_end) (omega arith) (λ _ u _ g. g) (λ ls u g. (no_end_inner ls u g, g))
      (another_leads DJ TJ ldj ltj) (another_leads DC TC ldc ltc) (another_exact (b + 3) (omega arith)) [])
      (λ ls. first (taken (sample (Mark 5)) refl (at_mark 5 _ refl (λ _ _. refl))) (λ _. given (ends k.place ls))))
    where
      no_end_inner : (ls : List Line) (u : Terminal) → is_no_end u ≡ false → more_lines ls u ≡ false
      no_end_inner ls u g = ap (λ v. last_open ls && v) (at_mark 5 (is_keyword 8) refl (λ _ _. refl) u (of_all_but (is_mark 5) u g)) ∙ and_false (last_open ls)

  -- the forms, each behind what comes before it in the choice

  if_exact : (before : Terminal → Bool) → ((u : Terminal) → is_keyword 11 u ≡ true → before u ≡ false) → Exact (Room n 3) before (G.if_else J TJ) (G.if_else C TC) (M.if_else P PT) more_line
  if_exact before apart =
      first (taken (sample (Keyword 11)) refl apart) (λ k. after (condition_exact 6) (λ c. after (later 4 6 (omega arith) t) (λ x.
      guarded (more_line (line_at k.place (a.If c x None)))
      (λ u h g. ap (λ v. is_open (line_at k.place (a.If c x None)) && v) g ∙ and_false (is_open (line_at k.place (a.If c x None))))
      (λ u h. let g : is_keyword 8 u ≡ false = ap (λ v. v && is_keyword 8 u) (sym (open_if k.place c x)) ∙ h in (ap (λ v. is_open x && v) g ∙ and_false (is_open x), g))
      (λ u h g. only (is_open x) (is_keyword 8 u) h g)
      (leads_first (is_keyword 8))
      (λ q. first (taken (sample (Keyword 8)) refl (λ u g. ap (λ v. v && is_keyword 8 u) q)) (λ _. after (later 4 9 (omega arith) t)
      (λ y. given (as_open (line_at k.place (a.If c x (Some y))) y (open_else k.place c x y)))))
      (given refl))))
    where
      only : (v w : Bool) → (v && w) ≡ false → w ≡ true → v ≡ false
      only true w h g = absurd (cc)
      only false w h g = refl

  while_exact : (before : Terminal → Bool) → ((u : Terminal) → is_keyword 20 u ≡ true → before u ≡ false) → Exact (Room n 3) before (G.while J TJ) (G.while C TC) (M.while P PT) more_line
  while_exact before apart =
      first (taken (sample (Keyword 20)) refl apart) (λ k. after (condition_exact 6) (λ c. after (later 4 6 (omega arith) t)
      (λ x. given (as_open (line_at k.place (a.While c x)) x (open_while k.place c x)))))

  do_exact : (before : Terminal → Bool) → ((u : Terminal) → is_keyword 7 u ≡ true → before u ≡ false) → Exact (Room n 3) before (G.do_while J TJ) (G.do_while C TC) (M.do_while P PT) more_line
  do_exact before apart =
      first (taken (sample (Keyword 7)) refl apart) (λ k. after (later 4 6 (omega arith) t) (λ x.
      first (taken (sample (Keyword 20)) refl (λ u h. ap (λ v. is_open x && v) (at_keyword 20 (is_keyword 8) refl (λ _ _. refl) u h) ∙ and_false (is_open x)))
      (λ _. after (condition_exact 9) (λ c. first (taken (sample (Mark 6)) refl (λ _ _. refl)) (λ _. given (closed (line_at k.place (a.Do x c)) (open_do k.place c x)))))))

  -- no `else` stands behind a local declaration
  first_clause_exact : (b : ℕ) → 4 ≤ b → ExactIn (Room n b) (is_keyword 8) none (G.first_clause J DJ) (G.first_clause C DC) (M.first_clause P PD) (λ _. none)
  first_clause_exact b l =
      picked (leads_then is_specifier _ _ ldc)
      (after (later 4 b l d) (λ x. ended (λ u h. ap (λ v. is_open x && v) h ∙ and_false (is_open x))))
      (after (exact_before (Room n b) none _ begins_simple _ _ _ (λ _. none) (marked_value_exact b (omega arith)) (leads_marked begins_simple _ (value_leads_simple C (lc Assign))) (at_class simple_class _ (λ _ _ _ _ _. refl)))
      (λ m. given refl))

  for_exact : (before : Terminal → Bool) → ((u : Terminal) → is_keyword 10 u ≡ true → before u ≡ false) → Exact (Room n 3) before (G.for J DJ TJ) (G.for C DC TC) (M.for P PD PT) more_line
  for_exact before apart =
      first (taken (sample (Keyword 10)) refl apart) (λ k. first (taken (sample (Mark 0)) refl (λ _ _. refl)) (λ _.
      after_in (λ i. apart_leads (is_keyword 8) begins_simple _ more_line none (leads_then begins_simple _ _ (value_leads_simple C (lc Assign))) (at_class simple_class _ (λ _ _ _ _ _. refl))) (first_clause_exact 9 (omega arith)) (λ i.
      after (semicolon_exact 9 (omega arith)) (λ c.
      after (value_exact 1 refl (at_class expression_starts _ (λ _ _ _ _ _. refl)) (at_mark 1 _ refl (λ _ _. refl)) 9 (omega arith)) (λ e.
      after (later 4 9 (omega arith) t) (λ x. given (as_open (line_at k.place (a.For i c e x)) x (open_for k.place i c e x))))))))

  switch_exact : (before : Terminal → Bool) → ((u : Terminal) → is_keyword 17 u ≡ true → before u ≡ false) → Exact (Room n 3) before (G.switch J TJ) (G.switch C TC) (M.switch P PT) more_line
  switch_exact before apart =
      first (taken (sample (Keyword 17)) refl apart) (λ k. after (condition_exact 6) (λ c. after (later 4 6 (omega arith) t)
      (λ x. given (as_open (line_at k.place (a.Switch c x)) x (open_switch k.place c x)))))

  case_exact : (before : Terminal → Bool) → ((u : Terminal) → is_keyword 2 u ≡ true → before u ≡ false) → Exact (Room n 3) before (G.case J) (G.case C) (M.case P) more_line
  case_exact before apart =
      first (taken (sample (Keyword 2)) refl apart) (λ k. after (later 2 6 (omega arith) (self Cond))
      (λ x. first (taken (sample (Mark 8)) refl (at_mark 8 _ refl (λ _ _. refl))) (λ _. given (closed (line_at k.place (a.Case x)) (open_case k.place x)))))

  return_exact : (before : Terminal → Bool) → ((u : Terminal) → is_keyword 13 u ≡ true → before u ≡ false) → Exact (Room n 3) before (G.return J) (G.return C) (M.return P) more_line
  return_exact before apart =
      first (taken (sample (Keyword 13)) refl apart) (λ k. after (semicolon_exact 6 (omega arith)) (λ x. given (closed (line_at k.place (a.Return x)) (open_return k.place x))))

  simple_exact : Exact (Room n 3) none (G.simple J) (G.simple C) (M.simple P) more_line
  simple_exact = after (marked_value_exact 3 (omega arith)) (λ m. given (closed (line_at m.0 (a.Express m.1)) (open_express m.0 m.1)))

  statement_exact : Exact (Room n 3) none (G.statement J DJ TJ) (G.statement C DC TC) (M.statement n P PD PT) more_line
  statement_exact =
      picked (leads_first (is_mark 4))
      (block_exact 3 (omega arith) none (λ _ _. refl) more_line (λ p ls. closed (line_at p (a.Block ls)) (open_block p ls)))
      (picked (leads_first (is_keyword 11)) (if_exact _ (at_keyword 11 _ refl (λ _ _. refl)))
      (picked (leads_first (is_keyword 20)) (while_exact _ (at_keyword 20 _ refl (λ _ _. refl)))
      (picked (leads_first (is_keyword 7)) (do_exact _ (at_keyword 7 _ refl (λ _ _. refl)))
      (picked (leads_first (is_keyword 10)) (for_exact _ (at_keyword 10 _ refl (λ _ _. refl)))
      (picked (leads_first (is_keyword 17)) (switch_exact _ (at_keyword 17 _ refl (λ _ _. refl)))
      (picked (leads_first (is_keyword 2)) (case_exact _ (at_keyword 2 _ refl (λ _ _. refl)))
      (picked (leads_first (is_keyword 6))
      (first (taken (sample (Keyword 6)) refl (at_keyword 6 _ refl (λ _ _. refl)))
      (λ k. first (taken (sample (Mark 8)) refl (λ _ _. refl))
      (λ _. given (closed (line_at k.place a.Default) (open_default k.place)))))
      (picked (leads_first (is_keyword 1))
      (first (taken (sample (Keyword 1)) refl (at_keyword 1 _ refl (λ _ _. refl)))
      (λ k. first (taken (sample (Mark 6)) refl (λ _ _. refl))
      (λ _. given (closed (line_at k.place a.Break) (open_break k.place)))))
      (picked (leads_first (is_keyword 5))
      (first (taken (sample (Keyword 5)) refl (at_keyword 5 _ refl (λ _ _. refl)))
      (λ k. first (taken (sample (Mark 6)) refl (λ _ _. refl))
      (λ _. given (closed (line_at k.place a.Continue) (open_continue k.place)))))
      (picked (leads_first (is_keyword 13)) (return_exact _ (at_keyword 13 _ refl (λ _ _. refl)))
      (exact_before (Room n 3) none _ begins_simple _ _ _ _ simple_exact
      (leads_then begins_simple _ _ (leads_marked begins_simple _ (value_leads_simple C (lc Assign))))
      (at_class simple_class _ (λ _ _ _ _ _. refl)))))))))))))

-- `;`
any_statement : (m : ℕ) → Any (G.statements (suc m))
any_statement m = record {
  value = line_at (place_of (sample (Mark 6) ∷ [])) (a.Express None);
  tokens = sample (Mark 6) ∷ [];
  phrase = inr (inr (inr (inr (inr (inr (inr (inr (inr (inr (inr (record {
    middle = (place_of (sample (Mark 6) ∷ []), None);
    front = sample (Mark 6) ∷ [];
    back = [];
    whole = refl;
    first = record { place = refl; phrase = inl (record { middle = sample (Mark 6); front = sample (Mark 6) ∷ []; back = []; whole = refl; first = record { one = refl; kind = refl }; second = record { value = refl; empty = refl } }) };
    second = record { value = refl; empty = refl };
  })))))))))));
}

pub locals_lead : (m : ℕ) → Leads is_specifier (G.locals m)
locals_lead m = local_leads (phrase m) (params m)

pub statements_lead : (m : ℕ) → Leads begins_statement (G.statements m)
statements_lead zero l b c = absurd c
statements_lead (suc m) l b c = statement_leads (phrase m) (phrase_leads m Assign) (G.locals m) (G.statements m) l b c

pub locals_exact : (n m b : ℕ) → 1 ≤ b → Exact (Room n b) none (G.locals (deep n)) (G.locals m) (M.locals n) more_line
locals_exact n m b l = local_exact n (phrase (deep n)) (phrase m) (read n) (expression_exact n m) (phrase_leads (deep n)) (phrase_leads m) (params (deep n)) (params m) (D.params n) (params_exact n m) b l

-- At each bound, the reading takes exactly the statements.
pub statements_exact : (n m : ℕ) → Exact (Room n 4) none (G.statements (deep n)) (G.statements m) (M.statements n) more_line
statements_exact zero m =
    exact_deep (Room zero 4) none none (G.statements (deep zero)) (G.statements m) more_line (λ x b q c h k. none_next (b ++ q)) (any_statement (suc (suc zero)))
    (λ ts h. let e : 3 * length ts + 4 ≤ 0 = h.enough in omega arith)
statements_exact (suc n) zero =
    exact_same (Room (suc n) 4) none none (G.statements (deep (suc n))) (G.statements (suc zero)) (G.statements (deep (suc n))) (G.statements zero) (M.statements (suc n)) more_line
    (λ x b c. c) (λ x b c. absurd c)
    (stepped 3 (omega arith) (statement_exact n (phrase (deep n)) (phrase zero) (read n) (expression_exact n zero) (phrase_leads (deep n)) (phrase_leads zero)
    (G.locals (deep n)) (G.locals zero) (M.locals n) (locals_exact n zero 4 (omega arith)) (locals_lead (deep n)) (locals_lead zero)
    (G.statements (deep n)) (G.statements zero) (M.statements n) (statements_exact n zero) (statements_lead (deep n)) (statements_lead zero)))
statements_exact (suc n) (suc m) =
    stepped 3 (omega arith) (statement_exact n (phrase (deep n)) (phrase m) (read n) (expression_exact n m) (phrase_leads (deep n)) (phrase_leads m)
    (G.locals (deep n)) (G.locals m) (M.locals n) (locals_exact n m 4 (omega arith)) (locals_lead (deep n)) (locals_lead m)
    (G.statements (deep n)) (G.statements m) (M.statements n) (statements_exact n m) (statements_lead (deep n)) (statements_lead m))
