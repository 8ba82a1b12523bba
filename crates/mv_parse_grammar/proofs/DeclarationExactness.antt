-- The reading of declarations takes exactly the phrases of the grammar.
use Rattle.std.proofs.Common.{◌≡◌, ℕ, zero, suc, ◌+◌, ◌*◌, ◌<◌, ◌≤◌, Bool, true, false, Option, Some, None, List, [], ◌∷◌, ◌++◌, inl, inr, length, refl, sym, ap, subst, ◌∙◌, arith}
use Rattle.std.specs.Prelude.{◌||◌, not, codes}
use Rattle.std.proofs.lemmas.List.{append-nil}
use Rattle.mv_syntax.specs.declared.token.Piece.TheVariants.{Keyword, Name, Chars, Mark}
use Rattle.mv_syntax.specs.declared.unit.Specs.{Specs}
use Rattle.mv_syntax.specs.declared.unit.EnumSpec.{EnumSpec}
use Rattle.mv_syntax.specs.declared.unit.Declarator.{Declarator}
use Rattle.mv_syntax.specs.declared.unit.Shape.TheVariants as shape
use Rattle.mv_parse_grammar.specs.Terminals.{Terminal, is_mark, is_keyword, is_name, is_string, is_type_word, is_specifier}
use Rattle.mv_parse_grammar.specs.Language as L
use Rattle.mv_parse_grammar.specs.Reader as R
use Rattle.mv_parse_grammar.specs.Expressions.{Nonterminal, Expressions, Assign, Cond, no_specs, specs_at, with_tag, tag_of, phrase}
use Rattle.mv_parse_grammar.specs.ExpressionReader.{Readers, read}
use Rattle.mv_parse_grammar.specs.Declarations as G
use Rattle.mv_parse_grammar.specs.Declarations.{Parameters}
use Rattle.mv_parse_grammar.specs.DeclarationReader as M
use Rattle.mv_parse_grammar.specs.DeclarationReader.{ParameterReader}
use Rattle.mv_parse_grammar.proofs.Classes.{Class, sample, terminal_at, either, all_but, of_all_but, but_two, at_mark, at_keyword, at_name, at_string, at_class, at_in, at_either, is_in, type_words, specifiers, expression_starts, in_type_words, in_specifiers}
use Rattle.mv_parse_grammar.proofs.Exact.{Exact, ExactIn, Any, Leads, leads_token, leads_then, leads_marked, leads_or, leads_any, exact_before, exact_deep, exact_same, exact_marked, none, none_next}
use Rattle.mv_parse_grammar.proofs.Shapes.{Room, Apart, apart_give, apart_given, apart_or, apart_leads, leads_first, leads_wider, leads_optional, given, ended, taken, first, after, after_in, inside, picked, later, stepped, eased, repeated}
use Rattle.mv_parse_grammar.proofs.Lists.{apart_chain, comma_list_exact, never_in_list, enclosed_exact, closes, braced_exact}
use Rattle.mv_parse_grammar.proofs.ExpressionExactness.{starts, more, weight, deep, expression_exact, phrase_leads}

-- how declarators begin
abbrev pub declarator_class : Class
declarator_class = record { marks = 0 ∷ []; keywords = []; names = true; numbers = false; strings = false }

abbrev pub declarator_starts : Terminal → Bool
declarator_starts = is_in declarator_class

-- all but a comma and a closing brace
abbrev never_in_braces : Terminal → Bool
never_in_braces = all_but closes

-- all but a closing parenthesis
abbrev pub never_in_parameters : Terminal → Bool
never_in_parameters = all_but (is_mark 1)

-- all but a comma and a semicolon
abbrev pub never_declared : Terminal → Bool
never_declared = all_but (either (is_mark 7) (is_mark 6))

-- what goes on from a name in a declarator
abbrev pub never_suffix : Terminal → Bool
never_suffix = either (is_mark 0) (is_mark 2)

-- the name of the attribute
abbrev multiverse : Terminal
multiverse = terminal_at (record { line = 0; column = 0 }) (codes "multiverse") Name

-- productions as they are read, one common part at a time

abbrev tagged : Expressions → Terminal → EnumSpec → List Terminal → Type 0
tagged E t = L.◌or◌ (L.◌>>=◌ (L.braced_list (G.enumerator E)) (λ ms. L.give (G.enum_of (Some t) ms))) (L.give (tag_of t))

abbrev enum_rest : Expressions → EnumSpec → List Terminal → Type 0
enum_rest E = L.◌or◌ (L.◌>>=◌ (L.token is_name) (tagged E)) (L.◌>>=◌ (L.braced_list (G.enumerator E)) (λ ms. L.give (G.enum_of None ms)))

abbrev factored_enum : Expressions → EnumSpec → List Terminal → Type 0
factored_enum E = L.◌>>=◌ (L.token (is_keyword 9)) (λ _. enum_rest E)

enum_of_factored : (E : Expressions) (x : EnumSpec) (b : List Terminal) → factored_enum E x b → G.enum E x b
enum_of_factored E x b c = go c.second
  where
    go : enum_rest E x c.back → G.enum E x b
    go (inl d) = go2 d.second
      where
        go2 : tagged E d.middle x d.back → G.enum E x b
        go2 (inl e) = inr (record {
          middle = c.middle;
          front = c.front;
          back = c.back;
          whole = c.whole;
          first = c.first;
          second = record {
            middle = Some d.middle;
            front = d.front;
            back = d.back;
            whole = d.whole;
            first = inl (record { middle = d.middle; front = d.front; back = []; whole = sym (append-nil d.front); first = d.first; second = record { value = refl; empty = refl } });
            second = e;
          };
        })
        go2 (inr e) = inl (record {
          middle = c.middle;
          front = c.front;
          back = c.back;
          whole = c.whole;
          first = c.first;
          second = record { middle = d.middle; front = d.front; back = d.back; whole = d.whole; first = d.first; second = e };
        })
    go (inr d) = inr (record {
      middle = c.middle;
      front = c.front;
      back = c.back;
      whole = c.whole;
      first = c.first;
      second = record { middle = None; front = []; back = c.back; whole = refl; first = inr (record { value = refl; empty = refl }); second = d };
    })

factored_of_enum : (E : Expressions) (x : EnumSpec) (b : List Terminal) → G.enum E x b → factored_enum E x b
factored_of_enum E x b (inl c) =
    let d = c.second in
    record {
      middle = c.middle;
      front = c.front;
      back = c.back;
      whole = c.whole;
      first = c.first;
      second = inl (record { middle = d.middle; front = d.front; back = d.back; whole = d.whole; first = d.first; second = inr d.second });
    }
factored_of_enum E x b (inr c) = record { middle = c.middle; front = c.front; back = c.back; whole = c.whole; first = c.first; second = go c.second.first }
  where
    listed : Option Terminal → EnumSpec → List Terminal → Type 0
    listed t = L.◌>>=◌ (L.braced_list (G.enumerator E)) (λ ms. L.give (G.enum_of t ms))

    go : L.optional (L.token is_name) c.second.middle c.second.front → enum_rest E x c.back
    go (inl e) =
        let d = c.second in
        let f : d.front ≡ e.front = e.whole ∙ (ap (λ z. e.front ++ z) e.second.empty ∙ append-nil e.front) in
        inl (record { middle = e.middle; front = e.front; back = d.back; whole = d.whole ∙ ap (λ z. z ++ d.back) f; first = e.first; second = inl (subst (λ z. listed z x d.back) e.second.value d.second) })
    go (inr e) =
        let d = c.second in
        inr (subst (λ z. listed None x z) (sym (d.whole ∙ ap (λ z. z ++ d.back) e.empty)) (subst (λ z. listed z x d.back) e.value d.second))

abbrev after_name : Expressions → Parameters → Terminal → Declarator → List Terminal → Type 0
after_name E P t =
    L.◌or◌ (L.◌>>=◌ (G.parameter_list P) (λ ps. L.give (G.declarator_of t.place (Some t.spelling) (shape.Function ps))))
    (L.◌>>=◌ (L.optional (G.extent E)) (λ n. L.give (G.declarator_of t.place (Some t.spelling) (G.array_shape n))))

abbrev pointer : Expressions → Parameters → Declarator → List Terminal → Type 0
pointer E P = L.◌>>=◌ (L.token (is_mark 0)) (λ t. L.◌>>=◌ (L.token (is_mark 14)) (λ _. L.◌>>=◌ G.constant (λ c. L.◌>>=◌ (L.token is_name) (λ name. L.◌>>=◌ (L.optional (G.extent E)) (λ n. L.◌>>=◌ (L.token (is_mark 1)) (λ _.
    L.◌>>=◌ (G.parameter_list P) (λ ps. L.give (G.declarator_of t.place (Some name.spelling) (G.pointer_shape c n ps)))))))))

abbrev factored_direct : Expressions → Parameters → Declarator → List Terminal → Type 0
factored_direct E P = L.◌or◌ (L.◌>>=◌ (L.token is_name) (after_name E P)) (pointer E P)

direct_of_factored : (E : Expressions) (P : Parameters) (x : Declarator) (b : List Terminal) → factored_direct E P x b → G.direct E P x b
direct_of_factored E P x b (inl c) = go c.second
  where
    go : after_name E P c.middle x c.back → G.direct E P x b
    go (inl d) = inr (inl (record { middle = c.middle; front = c.front; back = c.back; whole = c.whole; first = c.first; second = d }))
    go (inr d) = inl (record { middle = c.middle; front = c.front; back = c.back; whole = c.whole; first = c.first; second = d })
direct_of_factored E P x b (inr c) = inr (inr c)

factored_of_direct : (E : Expressions) (P : Parameters) (x : Declarator) (b : List Terminal) → G.direct E P x b → factored_direct E P x b
factored_of_direct E P x b (inl c) = inl (record { middle = c.middle; front = c.front; back = c.back; whole = c.whole; first = c.first; second = inr c.second })
factored_of_direct E P x b (inr (inl c)) = inl (record { middle = c.middle; front = c.front; back = c.back; whole = c.whole; first = c.first; second = inl c.second })
factored_of_direct E P x b (inr (inr c)) = inr c

-- how phrases begin

enumerator_leads : (E : Expressions) → Leads is_name (G.enumerator E)
enumerator_leads E = leads_first is_name

enum_leads : (E : Expressions) → Leads (is_keyword 9) (G.enum E)
enum_leads E = leads_or (is_keyword 9) _ _ (leads_first (is_keyword 9)) (leads_first (is_keyword 9))

attribute_leads : (E : Expressions) → Leads (is_keyword 21) (G.attribute E)
attribute_leads E = leads_first (is_keyword 21)

specifier_leads : (E : Expressions) (s : Specs) → Leads is_specifier (G.specifier E s)
specifier_leads E s =
    leads_or is_specifier _ _ (leads_wider (at_keyword 16 _ refl (λ _ _. refl)))
    (leads_or is_specifier _ _ (leads_wider (at_keyword 4 _ refl (λ _ _. refl)))
    (leads_or is_specifier _ _ (leads_wider (at_in type_words in_type_words _ (λ _ _ _ _ _. refl)))
    (leads_or is_specifier _ _ (leads_then is_specifier _ _ (leads_any (is_keyword 9) is_specifier _ (at_keyword 9 _ refl (λ _ _. refl)) (enum_leads E)))
    (leads_then is_specifier _ _ (leads_any (is_keyword 21) is_specifier _ (at_keyword 21 _ refl (λ _ _. refl)) (attribute_leads E))))))

pub specs_leads : (E : Expressions) → Leads is_specifier (G.specs E)
specs_leads E = leads_then is_specifier _ _ (leads_marked is_specifier (G.specifier E no_specs) (specifier_leads E no_specs))

direct_leads : (E : Expressions) (P : Parameters) → Leads declarator_starts (G.direct E P)
direct_leads E P =
    leads_or declarator_starts _ _ (leads_wider (at_name _ (λ _ _. refl)))
    (leads_or declarator_starts _ _ (leads_wider (at_name _ (λ _ _. refl))) (leads_wider (at_mark 0 _ refl (λ _ _. refl))))

pub declarator_leads : (E : Expressions) (P : Parameters) → Leads declarator_starts (G.declarator E P)
declarator_leads E P = leads_then declarator_starts _ _ (direct_leads E P)

pub declared_leads : (E : Expressions) (P : Parameters) → Leads declarator_starts (G.declared E P)
declared_leads E P = leads_then declarator_starts _ _ (declarator_leads E P)

pub init_leads : (E : Expressions) → Leads (is_mark 22) (G.init E)
init_leads E = leads_first (is_mark 22)

-- an optional name
name_leads : {Y : Type 0} (F : Option Terminal → Y → List Terminal → Type 0) → ((x : Option Terminal) → Leads (either is_name (is_mark 1)) (F x)) → Leads (either is_name (is_mark 1)) (L.◌>>=◌ (L.optional (L.token is_name)) F)
name_leads F h = leads_optional (either is_name (is_mark 1)) (L.token is_name) F (leads_any is_name (either is_name (is_mark 1)) (L.token is_name) (λ t k. ap (λ v. v || is_mark 1 t) k) (leads_token is_name)) h

parameter_leads : (E : Expressions) (P : Parameters) → Leads is_specifier (G.parameter E P)
parameter_leads E P = leads_then is_specifier _ _ (specs_leads E)

-- the productions

module _ (n : ℕ) (J C : Expressions) (P : Readers) (self : (r : Nonterminal) → Exact (Room n (weight r)) none (J r) (C r) (P r) (λ _. more r))
    (lj : (r : Nonterminal) → Leads starts (J r)) (lc : (r : Nonterminal) → Leads starts (C r)) where
  enumerator_exact : (b : ℕ) → ExactIn (Room n b) never_in_braces none (G.enumerator J) (G.enumerator C) (M.enumerator P) (λ _. none)
  enumerator_exact b =
      first (taken (sample Name) refl (λ _ _. refl)) (λ t.
      picked (leads_first (is_mark 22)) (first (taken (sample (Mark 22)) refl (λ _ _. refl)) (λ _.
      after_in (λ x. apart_give never_in_braces (G.member_of t (Some x)) (λ _. none))
      (eased never_in_braces (λ _. but_two (is_mark 7) (is_mark 5) (more Cond) (at_mark 7 _ refl (λ _ _. refl)) (at_mark 5 _ refl (λ _ _. refl))) (later 2 (b + 3 + 3) (omega arith) (self Cond)))
      (λ x. given refl)))
      (ended (but_two (is_mark 7) (is_mark 5) _ (at_mark 7 _ refl (λ _ _. refl)) (at_mark 5 _ refl (λ _ _. refl)))))

  enumerators_exact : (b : ℕ) (before : Terminal → Bool) → ((t : Terminal) → is_mark 4 t ≡ true → before t ≡ false) →
      Exact (Room n b) before (L.braced_list (G.enumerator J)) (L.braced_list (G.enumerator C)) (R.braced_list n (M.enumerator P)) (λ _. none)
  enumerators_exact b before apart =
      braced_exact n (b + 3) never_in_braces is_name (λ t h. not_all_but t h) (G.enumerator J) (G.enumerator C) (M.enumerator P) (enumerator_leads J)
      (enumerator_leads C) (at_name _ (λ _ _. refl)) (omega arith) (enumerator_exact (b + 3)) b (omega arith) before apart
    where
      not_all_but : (t : Terminal) → closes t ≡ true → never_in_braces t ≡ false
      not_all_but t h = ap (λ v. not v) h

  -- a tag that has no list isn't followed by one
  enum_exact : (b : ℕ) (before : Terminal → Bool) → ((t : Terminal) → is_keyword 9 t ≡ true → before t ≡ false) → ExactIn (Room n b) (is_mark 4) before (G.enum J) (G.enum C) (M.enum n P) (λ _. none)
  enum_exact b before apart =
      exact_same (Room n b) (is_mark 4) before (factored_enum J) (factored_enum C) (G.enum J) (G.enum C) (M.enum n P) (λ _. none) (enum_of_factored J) (factored_of_enum C)
      (first (taken (sample (Keyword 9)) refl apart) (λ _.
      picked (leads_first is_name) (first (taken (sample Name) refl (λ _ _. refl)) (λ t.
      picked (leads_then (is_mark 4) _ _ (leads_first (is_mark 4))) (after (enumerators_exact (b + 3 + 3) none (λ _ _. refl)) (λ ms. given refl)) (ended (λ t h. h))))
      (after (enumerators_exact (b + 3) _ (at_mark 4 _ refl (λ _ _. refl))) (λ ms. given refl))))

  domain_exact : (b : ℕ) (before : Terminal → Bool) → ((t : Terminal) → is_mark 0 t ≡ true → before t ≡ false) → Exact (Room n b) before (G.domain J) (G.domain C) (M.domain n P) (λ _. none)
  domain_exact b before apart =
      first (taken (sample (Mark 0)) refl apart) (λ _.
      enclosed_exact n (b + 3) starts (J Cond) (C Cond) (P Cond) (lj Cond)
      (eased never_in_list (λ _. but_two (is_mark 7) (is_mark 1) (more Cond) (at_mark 7 _ refl (λ _ _. refl)) (at_mark 1 _ refl (λ _ _. refl))) (later 2 (b + 3) (omega arith) (self Cond))))

  attribute_exact : (b : ℕ) (before : Terminal → Bool) → ((t : Terminal) → is_keyword 21 t ≡ true → before t ≡ false) → Exact (Room n b) before (G.attribute J) (G.attribute C) (M.attribute n P) (λ _. none)
  attribute_exact b before apart =
      first (taken (sample (Keyword 21)) refl apart)
      (λ t. first (taken (sample (Mark 0)) refl (λ _ _. refl))
      (λ _. first (taken (sample (Mark 0)) refl (λ _ _. refl))
      (λ _. first (taken multiverse refl (λ _ _. refl))
      (λ _. after_in (λ xs.
      apart_leads never_in_parameters (is_mark 1) _ (λ _. none) none (leads_first (is_mark 1)) (at_mark 1 _ refl (λ _ _. refl)))
      (picked (leads_then (is_mark 0) _ _ (leads_first (is_mark 0)))
      (after (domain_exact (b + 3 + 3 + 3 + 3) none (λ _ _. refl)) (λ xs. given refl))
      (ended (λ t h. at_mark 1 (either none (is_mark 0)) refl (λ _ _. refl) t (of_all_but (is_mark 1) t h))))
      (λ xs. first (taken (sample (Mark 1)) refl (λ _ _. refl))
      (λ _. first (taken (sample (Mark 1)) refl (λ _ _. refl)) (λ _. given refl)))))))

  specifier_exact : (b : ℕ) (s : Specs) → ExactIn (Room n b) (is_mark 4) none (G.specifier J s) (G.specifier C s) (M.specifier n P s) (λ _. none)
  specifier_exact b s =
      picked (leads_first (is_keyword 16)) (first (taken (sample (Keyword 16)) refl (λ _ _. refl)) (λ _. given refl))
      (picked (leads_first (is_keyword 4)) (first (taken (sample (Keyword 4)) refl (at_keyword 4 _ refl (λ _ _. refl))) (λ _. given refl))
      (picked (leads_first is_type_word) (first (taken (sample (Keyword 0)) refl (at_in type_words in_type_words _ (λ _ _ _ _ _. refl))) (λ t. given refl))
      (picked (leads_then (is_keyword 9) _ _ (enum_leads C)) (after_in (λ e. apart_give (is_mark 4) (with_tag s e) (λ _. none)) (enum_exact b _ (at_keyword 9 _ refl (λ _ _. refl))) (λ e. given refl))
      (after (attribute_exact b _ (at_keyword 21 _ refl (λ _ _. refl))) (λ m. given refl)))))

  pub specs_exact : (b : ℕ) → 0 < b → ExactIn (Room n b) (is_mark 4) none (G.specs J) (G.specs C) (M.specs n P) (λ _. is_specifier)
  specs_exact b l =
      after_in (λ m. apart_chain (is_mark 4) is_specifier (G.specifier C) (specs_at m.0 m.1) (λ _. is_specifier) (specifier_leads C) (at_in specifiers in_specifiers _ (λ _ _ _ _ _. refl)))
      (exact_marked (Room n b) (is_mark 4) none is_specifier (G.specifier J no_specs) (G.specifier C no_specs) (M.specifier n P no_specs) (λ _. none) (specifier_leads J no_specs) (specifier_leads C no_specs) (specifier_exact b no_specs))
      (λ m. repeated is_specifier l (at_in specifiers in_specifiers _ (λ _ _ _ _ _. refl)) (specifier_leads J) (specifier_leads C) (specifier_exact b) (specs_at m.0 m.1))

  extent_exact : (b : ℕ) (before : Terminal → Bool) → ((t : Terminal) → is_mark 2 t ≡ true → before t ≡ false) → Exact (Room n b) before (G.extent J) (G.extent C) (M.extent P) (λ _. none)
  extent_exact b before apart =
      first (taken (sample (Mark 2)) refl apart) (λ _.
      picked (leads_first (is_mark 3)) (first (taken (sample (Mark 3)) refl (λ _ _. refl)) (λ _. given refl))
      (after (exact_before (Room n (b + 3)) none _ starts _ _ _ _ (later 2 (b + 3) (omega arith) (self Cond)) (lc Cond) (at_class expression_starts _ (λ _ _ _ _ _. refl)))
      (λ x. first (taken (sample (Mark 3)) refl (at_mark 3 _ refl (λ _ _. refl))) (λ _. given refl))))

  extents_exact : (b : ℕ) (never before : Terminal → Bool) → ((t : Terminal) → is_mark 2 t ≡ true → before t ≡ false) → ((t : Terminal) → never t ≡ false → either before (is_mark 2) t ≡ false)
      → ExactIn (Room n b) never before (L.optional (G.extent J)) (L.optional (G.extent C)) (R.optional (is_mark 2) (M.extent P)) (λ _. none)
  extents_exact b never before apart covers = picked (leads_then (is_mark 2) _ _ (leads_first (is_mark 2))) (after (extent_exact b before apart) (λ x. given refl)) (ended covers)

  constant_exact : (b : ℕ) → ExactIn (Room n b) (is_keyword 4) none G.constant G.constant M.constant (λ _. none)
  constant_exact b = picked (leads_first (is_keyword 4)) (first (taken (sample (Keyword 4)) refl (λ _ _. refl)) (λ _. given refl)) (ended (λ t h. h))

  init_exact : (b : ℕ) (before : Terminal → Bool) → ((t : Terminal) → is_mark 22 t ≡ true → before t ≡ false) → ExactIn (Room n b) never_declared before (G.init J) (G.init C) (M.init n P) (λ _. none)
  init_exact b before apart =
      first (taken (sample (Mark 22)) refl apart) (λ _.
      picked (leads_then (is_mark 4) _ _ (leads_first (is_mark 4)))
      (after (braced_exact n (b + 3 + 3) never_in_braces starts (λ t h. ap (λ v. not v) h) (J Assign) (C Assign) (P Assign) (lj Assign) (lc Assign) (at_class expression_starts _ (λ _ _ _ _ _. refl)) (omega arith)
      (eased never_in_braces (λ _. but_two (is_mark 7) (is_mark 5) (more Assign) (at_mark 7 _ refl (λ _ _. refl)) (at_mark 5 _ refl (λ _ _. refl))) (later 3 (b + 3 + 3) (omega arith) (self Assign)))
      (b + 3) (omega arith) none (λ _ _. refl)) (λ xs. given refl))
      (picked (leads_then is_string _ _ (leads_first is_string))
      (after (first (taken (sample (Chars [])) refl (at_string _ (λ _ _ _. refl))) (λ t.
      repeated is_string (omega arith) (λ _ _. refl) (λ _. leads_first is_string) (λ _. leads_first is_string) (λ cs. first (taken (sample (Chars [])) refl (λ _ _. refl)) (λ _. given refl)) (G.characters_of t)))
      (λ cs. ended (but_two (is_mark 7) (is_mark 6) _ (at_mark 7 _ refl (λ _ _. refl)) (at_mark 6 _ refl (λ _ _. refl)))))
      (after (exact_before (Room n (b + 3)) none _ starts _ _ _ _ (later 3 (b + 3) (omega arith) (self Assign)) (lc Assign) (at_class expression_starts _ (λ _ _ _ _ _. refl)))
      (λ x. ended (but_two (is_mark 7) (is_mark 6) _ (at_mark 7 _ refl (λ _ _. refl)) (at_mark 6 _ refl (λ _ _. refl)))))))

  pub with_init_exact : (b : ℕ) (d : Declarator) (before : Terminal → Bool) → ((t : Terminal) → is_mark 22 t ≡ true → before t ≡ false) → ((t : Terminal) → never_declared t ≡ false → either before (is_mark 22) t ≡ false)
      → ExactIn (Room n b) never_declared before (G.with_init J d) (G.with_init C d) (M.with_init n P d) (λ _. none)
  with_init_exact b d before apart covers =
      picked (leads_then (is_mark 22) _ _ (init_leads C)) (after_in (λ x. apart_give never_declared (G.initialised d x) (λ _. none)) (init_exact b before apart) (λ x. given refl)) (ended covers)

  -- over the language of parameters

  module _ (PJ PC : Parameters) (PP : ParameterReader) (ps : ExactIn (Room n 4) never_in_parameters none PJ PC PP (λ _. none)) where
    parameter_list_exact : (b : ℕ) → 1 ≤ b → (before : Terminal → Bool) → ((t : Terminal) → is_mark 0 t ≡ true → before t ≡ false) → Exact (Room n b) before (G.parameter_list PJ) (G.parameter_list PC) (M.parameter_list PP) (λ _. none)
    parameter_list_exact b l before apart =
        first (taken (sample (Mark 0)) refl apart) (λ _.
        after_in (λ xs. apart_leads never_in_parameters (is_mark 1) _ (λ _. none) none (leads_first (is_mark 1)) (at_mark 1 _ refl (λ _ _. refl))) (later 4 (b + 3) (omega arith) ps)
        (λ xs. first (taken (sample (Mark 1)) refl (λ _ _. refl)) (λ _. given refl)))

    pointer_exact : (b : ℕ) (before : Terminal → Bool) → ((t : Terminal) → is_mark 0 t ≡ true → before t ≡ false) → Exact (Room n b) before (pointer J PJ) (pointer C PC) (M.pointer P PP) (λ _. none)
    pointer_exact b before apart =
        first (taken (sample (Mark 0)) refl apart) (λ t. first (taken (sample (Mark 14)) refl (λ _ _. refl)) (λ _.
        after_in (λ c. apart_leads (is_keyword 4) is_name _ (λ _. none) none (leads_first is_name) (at_name _ (λ _ _. refl))) (constant_exact (b + 3 + 3)) (λ c.
        first (taken (sample Name) refl (λ _ _. refl)) (λ name.
        after_in (λ m. apart_leads (is_mark 2) (is_mark 1) _ (λ _. none) none (leads_first (is_mark 1)) (at_mark 1 _ refl (λ _ _. refl))) (extents_exact (b + 3 + 3 + 3) (is_mark 2) none (λ _ _. refl) (λ t h. h)) (λ m.
        first (taken (sample (Mark 1)) refl (λ _ _. refl)) (λ _. after (parameter_list_exact (b + 3 + 3 + 3 + 3) (omega arith) none (λ _ _. refl)) (λ xs. given refl)))))))

    direct_exact : (b : ℕ) → 1 ≤ b → ExactIn (Room n b) never_suffix none (G.direct J PJ) (G.direct C PC) (M.direct P PP) (λ _. none)
    direct_exact b l =
        exact_same (Room n b) never_suffix none (factored_direct J PJ) (factored_direct C PC) (G.direct J PJ) (G.direct C PC) (M.direct P PP)
        (λ _. none) (direct_of_factored J PJ) (factored_of_direct C PC)
        (picked (leads_first is_name)
        (first (taken (sample Name) refl (λ _ _. refl))
        (λ t. picked (leads_then (is_mark 0) _ _ (leads_first (is_mark 0)))
        (after (parameter_list_exact (b + 3) (omega arith) none (λ _ _. refl)) (λ xs. given refl))
        (after_in (λ m. apart_give never_suffix (G.declarator_of t.place (Some t.spelling) (G.array_shape m)) (λ _. none))
        (extents_exact (b + 3) never_suffix (either none (is_mark 0)) (at_mark 2 _ refl (λ _ _. refl)) (λ t h. h))
        (λ m. given refl))))
        (after_nothing (pointer_exact b _ (at_mark 0 _ refl (λ _ _. refl)))))
      where
        after_nothing : {before : Terminal → Bool} → Exact (Room n b) before (pointer J PJ) (pointer C PC) (M.pointer P PP) (λ _. none) → ExactIn (Room n b) never_suffix before (pointer J PJ) (pointer C PC) (M.pointer P PP) (λ _. none)
        after_nothing e = inside e

    -- after a declarator only what goes on from one by itself never stands
    pub declarator_exact : (b : ℕ) → 1 ≤ b → ExactIn (Room n b) never_suffix none (G.declarator J PJ) (G.declarator C PC) (M.declarator n P PP) (λ _. is_keyword 21)
    declarator_exact b l =
        after_in (λ d. apart_chain never_suffix (is_keyword 21) (G.with_attribute C) d (λ _. is_keyword 21) (λ d. leads_then (is_keyword 21) _ _ (attribute_leads C)) (at_keyword 21 _ refl (λ _ _. refl)))
        (direct_exact b l)
        (λ d. repeated (is_keyword 21) l (at_keyword 21 _ refl (λ _ _. refl)) (λ d. leads_then (is_keyword 21) _ _ (attribute_leads J)) (λ d. leads_then (is_keyword 21) _ _ (attribute_leads C))
        (λ d. after (attribute_exact b none (λ _ _. refl)) (λ m. given refl)) d)

    with_init_apart : (d : Declarator) → Apart never_suffix (G.with_init C d) (λ _. none) never_declared
    with_init_apart d =
        apart_or never_suffix _ _ (λ _. none) never_declared
        (apart_leads never_suffix (is_mark 22) _ (λ _. none) never_declared (leads_then (is_mark 22) _ _ (init_leads C)) (at_mark 22 _ refl (λ _ _. refl)))
        (apart_given never_suffix never_declared d (λ _. none) (but_two (is_mark 7) (is_mark 6) _ (at_mark 7 _ refl (λ _ _. refl)) (at_mark 6 _ refl (λ _ _. refl))))

    pub declared_exact : (b : ℕ) → 1 ≤ b → ExactIn (Room n b) never_declared none (G.declared J PJ) (G.declared C PC) (M.declared n P PP) (λ _. none)
    declared_exact b l =
        after_in with_init_apart (declarator_exact b l)
        (λ d. with_init_exact b d (is_keyword 21) (at_mark 22 _ refl (λ _ _. refl)) (but_two (is_mark 7) (is_mark 6) _ (at_mark 7 _ refl (λ _ _. refl)) (at_mark 6 _ refl (λ _ _. refl))))

    parameter_name_exact : (b : ℕ) (s : Specs) → ExactIn (Room n b) never_in_list is_specifier (G.parameter_name PJ s) (G.parameter_name PC s) (M.parameter_name PP s) (λ _. none)
    parameter_name_exact b s =
        picked (leads_first is_name) (first (taken (sample Name) refl (at_name _ (λ _ _. refl))) (λ t. given refl))
        (picked (leads_first (is_mark 0))
        (first (taken (sample (Mark 0)) refl (at_mark 0 _ refl (λ _ _. refl)))
        (λ t. first (taken (sample (Mark 14)) refl (λ _ _. refl))
        (λ _. after_in (λ c. apart_leads (is_keyword 4) (either is_name (is_mark 1)) _ (λ _. none) never_in_list
        (name_leads _ (λ _. leads_wider (at_mark 1 _ refl (λ _ _. refl))))
        (at_either is_name (is_mark 1) _ (at_name _ (λ _ _. refl)) (at_mark 1 _ refl (λ _ _. refl)))) (constant_exact (b + 3 + 3))
        (λ c. after_in (λ name. apart_leads is_name (is_mark 1) _ (λ _. none) never_in_list (leads_first (is_mark 1))
        (at_mark 1 _ refl (λ _ _. refl)))
        (picked (leads_first is_name) (first (taken (sample Name) refl (λ _ _. refl)) (λ t. given refl)) (ended (λ t h. h)))
        (λ name. first (taken (sample (Mark 1)) refl (λ _ _. refl))
        (λ _. after (parameter_list_exact (b + 3 + 3 + 3) (omega arith) none (λ _ _. refl)) (λ xs. given refl)))))))
        (ended (but_two (is_mark 7) (is_mark 1) _ (at_mark 7 _ refl (λ _ _. refl)) (at_mark 1 _ refl (λ _ _. refl)))))

    parameter_exact : (b : ℕ) → 0 < b → ExactIn (Room n b) never_in_list none (G.parameter J PJ) (G.parameter C PC) (M.parameter n P PP) (λ _. none)
    parameter_exact b l =
        after_in
        (λ s. apart_or (is_mark 4) _ _ (λ _. none) never_in_list (apart_leads (is_mark 4) is_name _ (λ _. none) never_in_list (leads_first is_name) (at_name _ (λ _ _. refl)))
        (apart_or (is_mark 4) _ _ (λ _. none) never_in_list (apart_leads (is_mark 4) (is_mark 0) _ (λ _. none) never_in_list (leads_first (is_mark 0)) (at_mark 0 _ refl (λ _ _. refl)))
        (apart_given (is_mark 4) never_in_list _ (λ _. none) (but_two (is_mark 7) (is_mark 1) _ (at_mark 7 _ refl (λ _ _. refl)) (at_mark 1 _ refl (λ _ _. refl))))))
        (specs_exact b l)
        (parameter_name_exact b)

    parameters_exact : ExactIn (Room n 3) never_in_parameters none (G.parameters J PJ) (G.parameters C PC) (M.parameters n P PP) (λ _. none)
    parameters_exact =
        picked (leads_then is_specifier _ _ (leads_then is_specifier _ _ (parameter_leads C PC)))
        (after_in (λ xs. apart_given never_in_list never_in_parameters (G.without_void xs) (λ _. none) (λ t h. at_mark 1 never_in_list refl (λ _ _. refl) t (of_all_but (is_mark 1) t h)))
        (comma_list_exact n 3 never_in_list is_specifier (at_mark 7 _ refl (λ _ _. refl)) (G.parameter J PJ) (G.parameter C PC) (M.parameter n P PP) (parameter_leads J PJ) (parameter_exact 3 (omega arith)))
        (λ xs. ended (λ t h. at_mark 1 (is_mark 7) refl (λ _ _. refl) t (of_all_but (is_mark 1) t h))))
        (ended (λ t h. at_mark 1 (either none is_specifier) refl (λ _ _. refl) t (of_all_but (is_mark 1) t h)))

any_params : (n : ℕ) → Any (G.params (suc n))
any_params n = record { value = []; tokens = []; phrase = inr (record { value = refl; empty = refl }) }

-- At each bound, the reading takes exactly the parameters.
pub params_exact : (n m : ℕ) → ExactIn (Room n 4) never_in_parameters none (G.params (deep n)) (G.params m) (M.params n) (λ _. none)
params_exact zero m =
    exact_deep (Room zero 4) never_in_parameters none (G.params (deep zero)) (G.params m) (λ _. none) (λ x b q c h k. none_next (b ++ q)) (any_params (suc (suc zero))) (λ ts h. let e : 3 * length ts + 4 ≤ 0 = h.enough in omega arith)
params_exact (suc n) zero =
    exact_same (Room (suc n) 4) never_in_parameters none (G.params (deep (suc n))) (G.params (suc zero)) (G.params (deep (suc n))) (G.params zero) (M.params (suc n)) (λ _. none) (λ x b c. c) (λ x b c. absurd c)
    (stepped 3 (omega arith) (parameters_exact n (phrase (deep n)) (phrase zero) (read n) (expression_exact n zero) (phrase_leads (deep n)) (phrase_leads zero) (G.params (deep n)) (G.params zero) (M.params n) (params_exact n zero)))
params_exact (suc n) (suc m) =
    stepped 3 (omega arith) (parameters_exact n (phrase (deep n)) (phrase m) (read n) (expression_exact n m) (phrase_leads (deep n)) (phrase_leads m) (G.params (deep n)) (G.params m) (M.params n) (params_exact n m))
