-- The reading of items takes exactly the phrases of the grammar.
use Rattle.std.proofs.Common.{◌≡◌, ℕ, ◌≤◌, Bool, true, false, Some, None, List, [], ◌∷◌, ◌++◌, inl, inr, refl, sym, ap, subst, ◌∙◌, arith}
use Rattle.mv_syntax.specs.declared.token.Piece.TheVariants.{Mark}
use Rattle.mv_syntax.specs.declared.unit.Specs.{Specs}
use Rattle.mv_syntax.specs.declared.unit.Declarator.{Declarator}
use Rattle.mv_syntax.specs.declared.unit.Item.{Item}
use Rattle.mv_parse_grammar.specs.Terminals.{Terminal, is_mark, is_keyword, is_specifier}
use Rattle.mv_parse_grammar.specs.Language as L
use Rattle.mv_parse_grammar.specs.Language.{IsThen}
use Rattle.mv_parse_grammar.specs.Reader as R
use Rattle.mv_parse_grammar.specs.Expressions.{Nonterminal, Expressions, phrase}
use Rattle.mv_parse_grammar.specs.ExpressionReader.{Readers, read}
use Rattle.mv_parse_grammar.specs.Declarations.{Parameters, specs, declarator, declared, with_init, params}
use Rattle.mv_parse_grammar.specs.DeclarationReader as D
use Rattle.mv_parse_grammar.specs.DeclarationReader.{ParameterReader}
use Rattle.mv_parse_grammar.specs.Statements.{Lines, block, locals, statements}
use Rattle.mv_parse_grammar.specs.StatementReader as S
use Rattle.mv_parse_grammar.specs.StatementReader.{LineReader}
use Rattle.mv_parse_grammar.specs.Units as G
use Rattle.mv_parse_grammar.specs.Units.{item_of}
use Rattle.mv_parse_grammar.specs.UnitReader as M
use Rattle.mv_parse_grammar.proofs.Classes.{Class, sample, either, but_two, at_mark, at_class, is_in}
use Rattle.mv_parse_grammar.proofs.Exact.{Exact, ExactIn, Leads, leads_then, leads_or, leads_any, exact_before, exact_same, none}
use Rattle.mv_parse_grammar.proofs.Shapes.{Room, apart_leads, leads_first, leads_wider, leads_maybe, leads_chain, given, taken, first, after, after_in, picked, repeated}
use Rattle.mv_parse_grammar.proofs.Lists.{regroup, ungroup, commas_exact}
use Rattle.mv_parse_grammar.proofs.ExpressionExactness.{starts, more, weight, deep, expression_exact, phrase_leads}
use Rattle.mv_parse_grammar.proofs.DeclarationExactness.{declarator_class, declarator_starts, never_declared, never_in_parameters, never_suffix, specs_leads, declarator_leads, declared_leads, init_leads, specs_exact, declarator_exact, with_init_exact, declared_exact, params_exact}
use Rattle.mv_parse_grammar.proofs.StatementExactness.{block_exact, locals_exact, locals_lead, statements_exact, statements_lead}

-- an item as it is read, one common part at a time

-- the rest of the declared, behind the first of them
abbrev others : Expressions → Parameters → Specs → Declarator → Item → List Terminal → Type 0
others E P s x = L.◌>>=◌ (L.chain (L.comma_pushed (declared E P)) (x ∷ [])) (λ ds. L.◌>>=◌ (L.token (is_mark 6)) (λ _. L.give (item_of s ds None)))

abbrev after_declarator : Expressions → Parameters → Lines → Specs → Declarator → Item → List Terminal → Type 0
after_declarator E P B s d =
    L.◌or◌ (L.◌>>=◌ B (λ b. L.give (item_of s (d ∷ []) (Some b))))
    (L.◌>>=◌ (with_init E d) (others E P s))

abbrev after_specs : Expressions → Parameters → Lines → Specs → Item → List Terminal → Type 0
after_specs E P B s =
    L.◌or◌ (L.◌>>=◌ (L.token (is_mark 6)) (λ _. L.give (item_of s [] None)))
    (L.◌>>=◌ (declarator E P) (after_declarator E P B s))

abbrev factored_item : Expressions → Parameters → Lines → Item → List Terminal → Type 0
factored_item E P B = L.◌>>=◌ (specs E) (after_specs E P B)

-- the end of a declaration
abbrev closed : Specs → List Declarator → Item → List Terminal → Type 0
closed s ds = L.◌>>=◌ (L.token (is_mark 6)) (λ _. L.give (item_of s ds None))

item_of_factored : (E : Expressions) (P : Parameters) (B : Lines) (x : Item) (b : List Terminal) → factored_item E P B x b → G.item E P B x b
item_of_factored E P B x b c = go c.second
  where
    go : after_specs E P B c.middle x c.back → G.item E P B x b
    go (inl d) = inl (record {
      middle = c.middle;
      front = c.front;
      back = c.back;
      whole = c.whole;
      first = c.first;
      second = record { middle = []; front = []; back = c.back; whole = refl; first = inr (record { value = refl; empty = refl }); second = d };
    })
    go (inr d) = go2 d.second
      where
        go2 : after_declarator E P B c.middle d.middle x d.back → G.item E P B x b
        go2 (inl e) = inr (record {
          middle = c.middle;
          front = c.front;
          back = c.back;
          whole = c.whole;
          first = c.first;
          second = record { middle = d.middle; front = d.front; back = d.back; whole = d.whole; first = d.first; second = e };
        })
        go2 (inr e) =
            let f : IsThen (declared E P) (others E P c.middle) x c.back =
            ungroup (declarator E P) (with_init E) (others E P c.middle) x c.back (record { middle = d.middle; front = d.front; back = d.back; whole = d.whole; first = d.first; second = e }) in
            let g : IsThen (L.comma_list (declared E P)) (closed c.middle) x c.back = ungroup (declared E P) (λ y. L.chain (L.comma_pushed (declared E P)) (y ∷ [])) (closed c.middle) x c.back f in
            inl (record {
              middle = c.middle;
              front = c.front;
              back = c.back;
              whole = c.whole;
              first = c.first;
              second = record { middle = g.middle; front = g.front; back = g.back; whole = g.whole; first = inl g.first; second = g.second };
            })

factored_of_item : (E : Expressions) (P : Parameters) (B : Lines) (x : Item) (b : List Terminal) → G.item E P B x b → factored_item E P B x b
factored_of_item E P B x b (inr c) =
    let d = c.second in
    record {
      middle = c.middle;
      front = c.front;
      back = c.back;
      whole = c.whole;
      first = c.first;
      second = inr (record { middle = d.middle; front = d.front; back = d.back; whole = d.whole; first = d.first; second = inl d.second });
    }
factored_of_item E P B x b (inl c) = record { middle = c.middle; front = c.front; back = c.back; whole = c.whole; first = c.first; second = go c.second.first }
  where
    go : (L.◌or◌ (L.comma_list (declared E P)) (L.give [])) c.second.middle c.second.front → after_specs E P B c.middle x c.back
    go (inl e) =
        let d = c.second in
        let g : IsThen (declared E P) (others E P c.middle) x c.back =
        regroup (declared E P) (λ y. L.chain (L.comma_pushed (declared E P)) (y ∷ [])) (closed c.middle) x c.back (record { middle = d.middle; front = d.front; back = d.back; whole = d.whole; first = e; second = d.second }) in
        let f : IsThen (declarator E P) (λ y. IsThen (with_init E y) (others E P c.middle)) x c.back = regroup (declarator E P) (with_init E) (others E P c.middle) x c.back g in
        inr (record { middle = f.middle; front = f.front; back = f.back; whole = f.whole; first = f.first; second = inr f.second })
    go (inr e) =
        let d = c.second in
        inl (subst (λ z. closed c.middle [] x z) (sym (d.whole ∙ ap (λ z. z ++ d.back) e.empty)) (subst (λ z. closed c.middle z x d.back) e.value d.second))

-- how phrases begin

abbrev end_class : Class
end_class = record { marks = 6 ∷ 7 ∷ []; keywords = []; names = false; numbers = false; strings = false }

abbrev rest_class : Class
rest_class = record { marks = 4 ∷ 6 ∷ 7 ∷ 22 ∷ []; keywords = []; names = false; numbers = false; strings = false }

abbrev specified_class : Class
specified_class = record { marks = 0 ∷ 6 ∷ []; keywords = []; names = true; numbers = false; strings = false }

others_leads : (E : Expressions) (P : Parameters) (s : Specs) (x : Declarator) (c : Class) →
    ((t : Terminal) → is_mark 7 t ≡ true → is_in c t ≡ true) → ((t : Terminal) → is_mark 6 t ≡ true → is_in c t ≡ true) →
    Leads (is_in c) (others E P s x)
others_leads E P s x c h k = leads_chain (is_in c) (L.comma_pushed (declared E P)) (x ∷ []) _ (λ _. leads_wider h) (λ _. leads_wider k)

after_declarator_leads : (E : Expressions) (P : Parameters) (B : Lines) → Leads (is_mark 4) B → (s : Specs) (d : Declarator) → Leads (is_in rest_class) (after_declarator E P B s d)
after_declarator_leads E P B l s d =
    leads_or (is_in rest_class) _ _ (leads_then (is_in rest_class) _ _ (leads_any (is_mark 4) (is_in rest_class) B (at_mark 4 _ refl (λ _ _. refl)) l))
    (leads_maybe (is_in rest_class) _ d (others E P s) (leads_then (is_in rest_class) _ _ (leads_any (is_mark 22) (is_in rest_class) _ (at_mark 22 _ refl (λ _ _. refl)) (init_leads E)))
    (λ x. others_leads E P s x rest_class (at_mark 7 _ refl (λ _ _. refl)) (at_mark 6 _ refl (λ _ _. refl))))

after_specs_leads : (E : Expressions) (P : Parameters) (B : Lines) (s : Specs) → Leads (is_in specified_class) (after_specs E P B s)
after_specs_leads E P B s =
    leads_or (is_in specified_class) _ _ (leads_wider (at_mark 6 _ refl (λ _ _. refl)))
    (leads_then (is_in specified_class) _ _ (leads_any declarator_starts (is_in specified_class) _ (at_class declarator_class _ (λ _ _ _ _ _. refl)) (declarator_leads E P)))

-- the production

module _ (n : ℕ) (J C : Expressions) (P : Readers) (self : (r : Nonterminal) → Exact (Room n (weight r)) none (J r) (C r) (P r) (λ _. more r))
    (lj : (r : Nonterminal) → Leads starts (J r)) (lc : (r : Nonterminal) → Leads starts (C r))
    (PJ PC : Parameters) (PP : ParameterReader) (ps : ExactIn (Room n 4) never_in_parameters none PJ PC PP (λ _. none))
    (BJ BC : Lines) (PB : LineReader)
    (body : (b : ℕ) → 1 ≤ b → (before : Terminal → Bool) → ((t : Terminal) → is_mark 4 t ≡ true → before t ≡ false) → Exact (Room n b) before BJ BC PB (λ _. none))
    (lbj : Leads (is_mark 4) BJ) (lbc : Leads (is_mark 4) BC) where
  others_exact : (s : Specs) (x : Declarator) → Exact (Room n 5) none (others J PJ s x) (others C PC s x)
      (R.◌>>=◌ (R.chain (is_mark 7) (R.comma_pushed (D.declared n P PP)) n (x ∷ [])) (λ ds. R.◌>>=◌ (R.token (is_mark 6)) (λ _. R.give (item_of s ds None)))) (λ _. none)
  others_exact s x =
      after_in (λ ds. apart_leads never_declared (is_mark 6) _ (λ _. none) none (leads_first (is_mark 6)) (at_mark 6 _ refl (λ _ _. refl)))
      (commas_exact n 5 never_declared declarator_starts (at_mark 7 _ refl (λ _ _. refl)) (declared J PJ) (declared C PC) (D.declared n P PP)
      (declared_leads J PJ) (declared_exact n J C P self lj lc PJ PC PP ps 5 (omega arith)) 5 (omega arith) (omega arith) (x ∷ []))
      (λ ds. first (taken (sample (Mark 6)) refl (at_mark 6 _ refl (λ _ _. refl))) (λ _. given refl))

  after_declarator_exact : (s : Specs) (d : Declarator) → Exact (Room n 5) (is_keyword 21) (after_declarator J PJ BJ s d) (after_declarator C PC BC s d) (M.after_declarator n P PP PB s d) (λ _. none)
  after_declarator_exact s d =
      picked (leads_then (is_mark 4) _ _ lbc) (after (body 5 (omega arith) (is_keyword 21) (at_mark 4 _ refl (λ _ _. refl))) (λ b. given refl))
      (after_in (λ x. apart_leads never_declared (is_in end_class) _ (λ _. none) none (others_leads C PC s x end_class (at_mark 7 _ refl (λ _ _. refl)) (at_mark 6 _ refl (λ _ _. refl))) (at_class end_class _ (λ _ _ _ _ _. refl)))
      (with_init_exact n J C P self lj lc 5 d (either (is_keyword 21) (is_mark 4)) (at_mark 22 _ refl (λ _ _. refl)) (but_two (is_mark 7) (is_mark 6) _ (at_mark 7 _ refl (λ _ _. refl)) (at_mark 6 _ refl (λ _ _. refl))))
      (others_exact s))

  item_exact : Exact (Room n 5) none (G.item J PJ BJ) (G.item C PC BC) (M.item n P PP PB) (λ _. none)
  item_exact =
      exact_same (Room n 5) none none (factored_item J PJ BJ) (factored_item C PC BC) (G.item J PJ BJ) (G.item C PC BC) (M.item n P PP PB) (λ _. none) (item_of_factored J PJ BJ) (factored_of_item C PC BC)
      (after_in (λ s. apart_leads (is_mark 4) (is_in specified_class) _ (λ _. none) none (after_specs_leads C PC BC s) (at_class specified_class _ (λ _ _ _ _ _. refl)))
      (specs_exact n J C P self lj lc 5 (omega arith))
      (λ s. picked (leads_first (is_mark 6)) (first (taken (sample (Mark 6)) refl (at_mark 6 _ refl (λ _ _. refl))) (λ _. given refl))
      (exact_before (Room n 5) none _ declarator_starts _ _ _ _
      (after_in (λ d. apart_leads never_suffix (is_in rest_class) _ (λ _. none) none (after_declarator_leads C PC BC lbc s d) (at_class rest_class _ (λ _ _ _ _ _. refl)))
      (declarator_exact n J C P self lj lc PJ PC PP ps 5 (omega arith)) (after_declarator_exact s))
      (leads_then declarator_starts _ _ (declarator_leads C PC)) (at_class declarator_class _ (λ _ _ _ _ _. refl)))))

-- At each bound, the reading takes exactly the items.
pub items_exact : (n m : ℕ) → Exact (Room n 5) none (G.items (deep n)) (G.items m) (M.items n) (λ _. none)
items_exact n m =
    item_exact n (phrase (deep n)) (phrase m) (read n) (expression_exact n m) (phrase_leads (deep n)) (phrase_leads m) (params (deep n)) (params m) (D.params n) (params_exact n m)
    (block (locals (deep n)) (statements (deep n))) (block (locals m) (statements m)) (S.block n (S.locals n) (S.statements n))
    (λ b l before apart. block_exact n (phrase (deep n)) (phrase m) (read n) (expression_exact n m) (phrase_leads (deep n)) (phrase_leads m)
    (locals (deep n)) (locals m) (S.locals n) (locals_exact n m 4 (omega arith)) (locals_lead (deep n)) (locals_lead m)
    (statements (deep n)) (statements m) (S.statements n) (statements_exact n m) (statements_lead (deep n)) (statements_lead m) b l before apart (λ _. none) (λ _ _. refl))
    (leads_first (is_mark 4)) (leads_first (is_mark 4))

-- all items, up to the end
pub unit_exact : (n m : ℕ) → Exact (Room n 5) none (L.chain (L.pushed (G.items (deep n))) []) (L.chain (L.pushed (G.items m)) []) (M.unit n) (λ _ _. true)
unit_exact n m =
    repeated (λ _. true) (omega arith) (λ _ _. refl)
    (λ xs. leads_then (λ _. true) _ _ (leads_any is_specifier (λ _. true) _ (λ _ _. refl) (item_leads (deep n))))
    (λ xs. leads_then (λ _. true) _ _ (leads_any is_specifier (λ _. true) _ (λ _ _. refl) (item_leads m)))
    (λ xs. after (items_exact n m) (λ x. given refl)) []
  where
    item_leads : (m : ℕ) → Leads is_specifier (G.items m)
    item_leads m = leads_or is_specifier _ _ (leads_then is_specifier _ _ (specs_leads (phrase m))) (leads_then is_specifier _ _ (specs_leads (phrase m)))
