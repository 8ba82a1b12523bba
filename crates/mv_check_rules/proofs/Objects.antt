-- Declarators of objects at file scope agree.
use Rattle.std.proofs.Common.{◌≡◌, ℕ, zero, suc, refl, sym, ◌∙◌, ap, subst, Bool, true, false, ◌&&◌, ◌||◌, not, nat_eq, nat_le, is_some, is_none, unwrap_or, Option, Some, None, List, [], ◌∷◌, ◌++◌, map, length, slice_get, le-leb, arith}
use Rattle.std.specs.Prelude.{slice_set}
use Rattle.std.proofs.Math.Bool.{and_assoc}
use Rattle.std.proofs.lemmas.Bool.{true≢false}
use Rattle.std.proofs.lemmas.List.{length-map, map-set, map-append}
use Rattle.mv_syntax.specs.declared.place.Place.{Place}
use Rattle.mv_ast.specs.declared.program.CType.{CType}
use Rattle.mv_ast.specs.declared.program.Expr.{Expr}
use Rattle.mv_ast.specs.declared.program.Local.{Local}
use Rattle.mv_syntax.specs.declared.unit.Declarator.{Declarator}
use Rattle.mv_syntax.specs.declared.unit.Initial.{Initial}
use Rattle.mv_syntax.specs.declared.unit.Initial.TheVariants as initial
use Rattle.mv_syntax.specs.declared.unit.Item.{Item}
use Rattle.mv_syntax.specs.declared.unit.Node.{Node}
use Rattle.mv_check_scope.specs.declared.meaning.Meaning.{Meaning}
use Rattle.mv_check_scope.specs.declared.meaning.Meaning.TheVariants as meaning
use Rattle.mv_check_scope.specs.declared.meaning.Storage.{Storage}
use Rattle.mv_check_scope.specs.declared.meaning.Storage.TheVariants as storage
use Rattle.mv_check_scope.specs.declared.scope.Scope.{Scope}
use Rattle.mv_check_scope.specs.Constants.{converts}
use Rattle.mv_check_scope.specs.Conversions.{is_void, same_type}
use Rattle.mv_check_scope.specs.Scoped.{declared}
use Rattle.mv_check_expressions.specs.declared.constant.Constant.{Constant}
use Rattle.mv_check_expressions.specs.Judged.{Judged, Good, Broken, and_then, unless_broken, first_broken}
use Rattle.mv_check_declarations.specs.declared.globals.Words.{Words}
use Rattle.mv_check_declarations.specs.Initials as code_initials
use Rattle.mv_check_declarations.specs.Globals.{no_words, global_words}
use Rattle.mv_check_declarations.specs.Objects as code_objects
use Rattle.mv_check_declarations.specs.Objects.{scalar, array, sized, is_unconverted, breaks_extents, least, is_char}
use Rattle.mv_types.specs.declared.contents.Contents.{Contents}
use Rattle.mv_types.specs.declared.contents.Object.{Object}
use Rattle.mv_types.specs.Foreknown.{foreknown}
use Rattle.mv_types.specs.Objects as code
use Rattle.mv_types.specs.Objects.{may_declare, agrees_with, object_at, number_of, object_scope, objects_behind, object_judgement}
use Rattle.mv_check_rules.specs.Nodes.{Declared, Scalar, Array, Given, Nothing, Value, Values, Characters, Global}
use Rattle.mv_check_rules.specs.Nodes as node
use Rattle.mv_check_rules.specs.Rules.{all_convert, converts_given, array_size, fits_extent, is_string, is_char_array, is_void_object, is_size, has_type, is_given, same_domain, allows_object, meaning_here, concluded}
use Rattle.mv_check_rules.specs.Declarations.{given, local_size, type_or_void, named_unless}
use Rattle.mv_check_rules.specs.Units.{Declarations, constant_expression, word_of, first_words, global_in, global_number, global_at, object_meaning, first_of, new_global, declared_again, with_global, object_named, object_found, earlier, object}
use Rattle.mv_check_rules.proofs.Agreement.{mapped}
use Rattle.mv_check_rules.proofs.Parts.{IfGood, then_then}
use Rattle.mv_check_rules.proofs.Program.{object_of, contents_of}
use Rattle.mv_check_rules.proofs.Values.{IsOf, given_is, sizes_agree, added, add_word, words_of, words_agree, all_convert_added, words_added}
use Rattle.mv_check_rules.proofs.Routines.{given_same}
use Rattle.mv_num.proofs.Booleans.{or_false, or_true, not_and_false}

-- ---- what is written and what is given

module _ (P : Option Initial → Given → Type 0)
    (nothing : P None Nothing)
    (value : (n : Node) (e : Expr) → P (Some (initial.Value n)) (Value e))
    (values : (ns : List Node) (es : List Expr) → length ns ≡ length es → P (Some (initial.Values ns)) (Values es))
    (characters : (bytes : List ℕ) → P (Some (initial.Chars bytes)) (Characters bytes)) where
  by_kind : (v : Option Initial) (g : Given) → IsOf v g → P v g
  by_kind None Nothing h = nothing
  by_kind None (Value e) h = absurd h
  by_kind None (Values es) h = absurd h
  by_kind None (Characters bytes) h = absurd h
  by_kind (Some (initial.Value n)) Nothing h = absurd h
  by_kind (Some (initial.Value n)) (Value e) h = value n e
  by_kind (Some (initial.Value n)) (Values es) h = absurd h
  by_kind (Some (initial.Value n)) (Characters bytes) h = absurd h
  by_kind (Some (initial.Values ns)) Nothing h = absurd h
  by_kind (Some (initial.Values ns)) (Value e) h = absurd h
  by_kind (Some (initial.Values ns)) (Values es) h = values ns es h
  by_kind (Some (initial.Values ns)) (Characters bytes) h = absurd h
  by_kind (Some (initial.Chars bytes)) Nothing h = absurd h
  by_kind (Some (initial.Chars bytes)) (Value e) h = absurd h
  by_kind (Some (initial.Chars bytes)) (Values es) h = absurd h
  by_kind (Some (initial.Chars bytes)) (Characters them) h = subst (λ (b : List ℕ). P (Some (initial.Chars bytes)) (Characters b)) h (characters bytes)

-- ---- tests

no_room : (z w : Bool) → (z || not w) ≡ not (not z && w)
no_room true w = refl
no_room false w = refl

no_string : (z c w : Bool) → (z || not (c && w)) ≡ (not c || not (not z && w))
no_string true true w = refl
no_string true false w = refl
no_string false true w = refl
no_string false false w = refl

-- ---- the rules of an object

abbrev pub object_local : Declared → Given → Local
object_local e g = record { ctype = type_or_void e; size = local_size e g }

pub unconverted_scalar : (t : CType) (fixed : Bool) (v : Option Initial) (g : Given) → IsOf v g →
    is_unconverted (scalar t) v (words_of (scalar t) g).all ≡ (not (is_void t) && not (converts_given (Scalar t fixed) g))
unconverted_scalar t fixed v Nothing h = refl
unconverted_scalar t fixed v (Value e) h = ap (λ b. not (is_void t) && b) (or_false (not (converts e t)))
unconverted_scalar t fixed v (Values es) h =
    ap (λ a. not (is_void t) && (not a || false)) (all_convert_added t es no_words) ∙ ap (λ b. not (is_void t) && b) (or_false (not (all_convert t es)))
unconverted_scalar t fixed v (Characters bytes) h = refl

pub unconverted_array : (t : CType) (fixed : Bool) (size : Option Constant) (n : ℕ) (v : Option Initial) (g : Given) → IsOf v g →
    is_unconverted (array t n) v (words_of (array t n) g).all ≡ (not (is_void t) && not (converts_given (Array t fixed size) g))
unconverted_array t fixed size n =
    by_kind (λ v g. is_unconverted (array t n) v (words_of (array t n) g).all ≡ (not (is_void t) && not (converts_given (Array t fixed size) g)))
    refl
    (λ m e. ap (λ b. not (is_void t) && b) (or_true (not (converts e t))))
    (λ ns es h. ap (λ a. not (is_void t) && (not a || false)) (all_convert_added t es no_words) ∙ ap (λ b. not (is_void t) && b) (or_false (not (all_convert t es))))
    (λ bytes. refl)

count_same : (t : CType) (es : List Expr) → length (added (add_word t) no_words es).words ≡ length es
count_same t es = ap length (words_added t es no_words) ∙ length-map es (word_of t)

pub extents_scalar : (t : CType) (fixed : Bool) (v : Option Initial) (g : Given) → IsOf v g →
    breaks_extents true (scalar t) v (length (words_of (scalar t) g).words) ≡ ((is_string g && not (is_char_array (Scalar t fixed))) || not (fits_extent (Scalar t fixed) g))
extents_scalar t fixed =
    by_kind (λ v g. breaks_extents true (scalar t) v (length (words_of (scalar t) g).words) ≡ ((is_string g && not (is_char_array (Scalar t fixed))) || not (fits_extent (Scalar t fixed) g)))
    refl (λ n e. refl) (λ ns es h. refl) (λ bytes. not_and_false (is_char t))

nothing_filled : (n : ℕ) → (nat_eq n 0 || false) ≡ not (not (nat_eq n 0) && nat_le 0 n)
nothing_filled n = or_false (nat_eq n 0) ∙ (by (nat_eq n 0) ∙ ap (λ b. not (not (nat_eq n 0) && b)) (sym (le-leb 0 n (omega arith))))
  where
    by : (z : Bool) → z ≡ not (not z && true)
    by true = refl
    by false = refl

pub extents_array : (t : CType) (fixed : Bool) (size : Option Constant) (v : Option Initial) (g : Given) → IsOf v g →
    breaks_extents true (array t (array_size size g)) v (length (words_of (array t (array_size size g)) g).words) ≡
    ((is_string g && not (is_char_array (Array t fixed size))) || not (fits_extent (Array t fixed size) g))
extents_array t fixed size =
    by_kind (λ v g. breaks_extents true (array t (array_size size g)) v (length (words_of (array t (array_size size g)) g).words) ≡ ((is_string g && not (is_char_array (Array t fixed size))) || not (fits_extent (Array t fixed size) g)))
    (nothing_filled (array_size size Nothing))
    (λ n e. nothing_filled (array_size size (Value e)))
    (λ ns es h.
    ap (λ count. nat_eq (array_size size (Values es)) 0 || not (nat_le count (array_size size (Values es)))) (count_same t es) ∙
    no_room (nat_eq (array_size size (Values es)) 0) (nat_le (length es) (array_size size (Values es))))
    (λ bytes.
    let n = array_size size (Characters bytes) in
    no_string (nat_eq n 0) (is_char t) (nat_le (length bytes) n))

-- ---- the words

words_are : (t : CType) (size : Option ℕ) (g : Given) → (words_of (record { ctype = t; size = size }) g).words ≡ unwrap_or (first_words t size g) []
words_are t size Nothing = refl
words_are t size (Value e) = refl
words_are t size (Values es) = words_added t es no_words
words_are t None (Characters bytes) = refl
words_are t (Some n) (Characters bytes) = refl

given_words : (t : CType) (size : Option ℕ) (g : Given) → is_given g ≡ is_some (first_words t size g)
given_words t size Nothing = refl
given_words t size (Value e) = refl
given_words t size (Values es) = refl
given_words t size (Characters bytes) = refl

-- ---- what is declared already

domain_same : (a b : Option (List ℕ)) → code.same_domain a b ≡ same_domain a b
domain_same None b = refl
domain_same (Some vs) None = refl
domain_same (Some vs) (Some ws) = refl

size_none : (s : Option ℕ) → code.same_size s None ≡ is_none s
size_none None = refl
size_none (Some n) = refl

size_some : (s : Option ℕ) (n : ℕ) → code.same_size s (Some n) ≡ is_size s n
size_some None n = refl
size_some (Some m) n = refl

number_same : (m : Meaning) → number_of m ≡ global_number (Some m)
number_same (meaning.Object v) = by v.storage
  where
    by : (s : Storage) → code.global_at s ≡ global_in s
    by (storage.Global g) = refl
    by (storage.Local l) = refl
number_same (meaning.Array e) = by e.storage
  where
    by : (s : Storage) → code.global_at s ≡ global_in s
    by (storage.Global g) = refl
    by (storage.Local l) = refl
number_same m = refl

abbrev there : Option Global → Option Object
there None = None
there (Some g) = Some (object_of g)

slice_same : (gs : List Global) (n : ℕ) → slice_get (map object_of gs) n ≡ there (slice_get gs n)
slice_same [] n = refl
slice_same (g ∷ gs) zero = refl
slice_same (g ∷ gs) (suc n) = slice_same gs n

at_same : (gs : List Global) (o : Option ℕ) → object_at (map object_of gs) o ≡ there (global_at gs o)
at_same gs None = refl
at_same gs (Some n) = slice_same gs n

module _ (name : List ℕ) (domain : Option (List ℕ)) (e : Declared) (v : Option Initial) (g : Given) (is : IsOf v g)
    (goes : (old : Global) (rest : Bool) → (same_type old.ctype (object_local e g).ctype && (code.same_size old.size (object_local e g).size && rest)) ≡ (has_type old e g && rest)) where
  abbrev local : Local
  local = object_local e g

  abbrev words : List ℕ
  words = (words_of local g).words

  agrees_same : (q : Option Global) → agrees_with (there q) local (is_some v) domain ≡ allows_object q e g domain
  agrees_same None = refl
  agrees_same (Some old) =
      ap (λ given. same_type old.ctype local.ctype && (code.same_size old.size local.size && (not (is_some old.words && given) && code.same_domain old.domain domain))) (given_same v g is) ∙
      (ap (λ d. same_type old.ctype local.ctype && (code.same_size old.size local.size && (not (is_some old.words && is_given g) && d))) (domain_same old.domain domain) ∙
      goes old (not (is_some old.words && is_given g) && same_domain old.domain domain))

  redeclared_same : (gs : List Global) (m : Option Meaning) →
      not (may_declare m (map object_of gs) local (is_some v) domain) ≡ (is_some m && not (allows_object (global_at gs (global_number m)) e g domain))
  redeclared_same gs None = refl
  redeclared_same gs (Some m) =
      ap (λ o. not (agrees_with (object_at (map object_of gs) o) local (is_some v) domain)) (number_same m) ∙
      (ap (λ q. not (agrees_with q local (is_some v) domain)) (at_same gs (global_number (Some m))) ∙
      ap (λ b. not b) (agrees_same (global_at gs (global_number (Some m)))))

  new_same : code.new_object name local words (is_some v) domain ≡ object_of (new_global name e g domain)
  new_same =
      ap (λ ws. code.new_object name local ws (is_some v) domain) (words_are local.ctype local.size g) ∙
      ap (λ there. code.new_object name local (unwrap_or (first_words local.ctype local.size g) []) there domain) (given_same v g is ∙ given_words local.ctype local.size g)

  again_parts : (title : List ℕ) (t : CType) (size : Option ℕ) (old known new : Option (List ℕ)) →
      code.again (object_of (record { name = title; ctype = t; size = size; words = old; domain = known })) (unwrap_or new []) (is_some new) domain ≡
      object_of (record { name = title; ctype = t; size = size; words = first_of new old; domain = first_of known domain })
  again_parts title t size None None None = refl
  again_parts title t size None None (Some w) = refl
  again_parts title t size None (Some d) None = refl
  again_parts title t size None (Some d) (Some w) = refl
  again_parts title t size (Some x) None None = refl
  again_parts title t size (Some x) None (Some w) = refl
  again_parts title t size (Some x) (Some d) None = refl
  again_parts title t size (Some x) (Some d) (Some w) = refl

  again_same : (old : Global) → code.again (object_of old) words (is_some v) domain ≡ object_of (declared_again old (new_global name e g domain))
  again_same old =
      ap (λ ws. code.again (object_of old) ws (is_some v) domain) (words_are local.ctype local.size g) ∙
      (ap (λ there. code.again (object_of old) (unwrap_or (first_words local.ctype local.size g) []) there domain) (given_same v g is ∙ given_words local.ctype local.size g) ∙
      again_parts old.name old.ctype old.size old.words old.domain (first_words local.ctype local.size g))

  objects_again_same : (gs : List Global) (o : Option ℕ) → not (allows_object (global_at gs o) e g domain) ≡ false →
      code.objects_again (map object_of gs) o words (is_some v) domain ≡ map object_of (with_global gs o (global_at gs o) (new_global name e g domain))
  objects_again_same gs None h = absurd (true≢false h)
  objects_again_same gs (Some n) h =
      ap (λ q. code.replaced (map object_of gs) n q words (is_some v) domain) (slice_same gs n) ∙ by (slice_get gs n) h
    where
      by : (q : Option Global) → not (allows_object q e g domain) ≡ false →
          code.replaced (map object_of gs) n (there q) words (is_some v) domain ≡ map object_of (with_global gs (Some n) q (new_global name e g domain))
      by None h = absurd (true≢false h)
      by (Some old) h =
          ap (λ z. slice_set (map object_of gs) n z) (again_same old) ∙ sym (map-set object_of gs n (declared_again old (new_global name e g domain)))

  objects_same : (gs : List Global) (m : Option Meaning) → (is_some m && not (allows_object (global_at gs (global_number m)) e g domain)) ≡ false →
      objects_behind (map object_of gs) name m local words (is_some v) domain ≡ map object_of (with_global gs (global_number m) (global_at gs (global_number m)) (new_global name e g domain))
  unfolding objects_behind
  objects_same gs None h =
      ap (λ z. map object_of gs ++ z ∷ []) new_same ∙ sym (map-append object_of gs (new_global name e g domain ∷ []))
  objects_same gs (Some m) h =
      ap (λ o. code.objects_again (map object_of gs) o words (is_some v) domain) (number_same m) ∙ objects_again_same gs (global_number (Some m)) h

-- ---- the least rule

module _ (place : Place) (words : List ℕ) (made : List ℕ → Contents) (found : Declarations) where
  abbrev chain : Bool → Bool → Bool → Bool → Bool → Judged Contents
  chain redeclared unconverted void extents block =
      and_then (code_objects.unless_broken place (least (record { redeclared = redeclared; unconverted = unconverted; void = void; extents = extents; block = block })) words)
      (λ ws. Good (made ws))

  chain_same : (redeclared unconverted void extents block : Bool) → (redeclared ≡ false → made words ≡ contents_of found) → chain redeclared unconverted void extents block ≡
      mapped contents_of (unless_broken place (first_broken ((2, redeclared) ∷ (5, unconverted) ∷ (8, void) ∷ (10, extents) ∷ (22, block) ∷ [])) found)
  unfolding least
  chain_same true unconverted void extents block h = refl
  chain_same false true void extents block h = refl
  chain_same false false true extents block h = refl
  chain_same false false false true block h = refl
  chain_same false false false false true h = refl
  chain_same false false false false false h = ap Good (h refl)

-- ---- the whole declarator

-- an object's facts, by what it is given
pub record AreRules (e : Declared) (v : Option Initial) (g : Given) : Type 0 where
  goes : (old : Global) (rest : Bool) → (same_type old.ctype (object_local e g).ctype && (code.same_size old.size (object_local e g).size && rest)) ≡ (has_type old e g && rest)
  unconverted : is_unconverted (object_local e g) v (words_of (object_local e g) g).all ≡ (not (is_void_object e) && not (converts_given e g))
  void : is_void (object_local e g).ctype ≡ is_void_object e
  extents : breaks_extents true (object_local e g) v (length (words_of (object_local e g) g).words) ≡ ((is_string g && not (is_char_array e)) || not (fits_extent e g))

scalar_rules : (t : CType) (fixed : Bool) (v : Option Initial) (g : Given) → IsOf v g → AreRules (Scalar t fixed) v g
scalar_rules t fixed v g is = record {
  goes = λ old rest.
      ap (λ b. same_type old.ctype t && (b && rest)) (size_none old.size) ∙ sym (and_assoc (same_type old.ctype t) (is_none old.size) rest);
  unconverted = unconverted_scalar t fixed v g is;
  void = refl;
  extents = extents_scalar t fixed v g is;
}

array_rules : (t : CType) (fixed : Bool) (size : Option Constant) (v : Option Initial) (g : Given) → IsOf v g → AreRules (Array t fixed size) v g
array_rules t fixed size v g is = record {
  goes = λ old rest.
      ap (λ b. same_type old.ctype t && (b && rest)) (size_some old.size (array_size size g)) ∙ sym (and_assoc (same_type old.ctype t) (is_size old.size (array_size size g)) rest);
  unconverted = unconverted_array t fixed size (array_size size g) v g is;
  void = refl;
  extents = extents_array t fixed size v g is;
}

module _ (items : List Item) (d : Declarator) (name : List ℕ) (domain : Option (List ℕ)) (block : Bool) (c : Declarations) where
  abbrev before : Option Meaning
  before = meaning_here c.scope name

  -- the contents behind it
  abbrev made : Scope → Local → List ℕ → Contents
  made s l words = record (contents_of c) { scope = s; objects = objects_behind (map object_of c.globals) name before l words (is_some d.initial) domain }

  abbrev judged : Scope → Local → Words → Judged Contents
  judged s l x =
      and_then (code_objects.unless_broken d.place (least (code.breaches before (map object_of c.globals) l d.initial x domain block)) x.words) (λ words. Good (made s l words))

  abbrev concluded_object : Scope → Declared → Given → Judged Declarations
  concluded_object s e g = concluded d.place c.scope (node.Object name e g domain (earlier c name) block) (object_found name s (new_global name e g domain) c)

  given_agrees : (s : Scope) (e : Declared) (g : Given) → IsOf d.initial g → AreRules e d.initial g →
      judged s (object_local e g) (words_of (object_local e g) g) ≡ mapped contents_of (concluded_object s e g)
  given_agrees s e g is rules =
      let l = object_local e g in
      let x = words_of l g in
      let found = object_found name s (new_global name e g domain) c in
      let twice = is_some before && not (allows_object (earlier c name) e g domain) in
      let unconverted = not (is_void_object e) && not (converts_given e g) in
      let misfit = (is_string g && not (is_char_array e)) || not (fits_extent e g) in
      ap (λ b. chain d.place x.words (made s l) found b (is_unconverted l d.initial x.all) (is_void l.ctype) (breaks_extents true l d.initial (length x.words)) block)
      (redeclared_same name domain e d.initial g is rules.goes c.globals before) ∙
      (ap (λ b. chain d.place x.words (made s l) found twice b (is_void l.ctype) (breaks_extents true l d.initial (length x.words)) block) rules.unconverted ∙
      (ap (λ b. chain d.place x.words (made s l) found twice unconverted b (breaks_extents true l d.initial (length x.words)) block) rules.void ∙
      (ap (λ b. chain d.place x.words (made s l) found twice unconverted (is_void_object e) b block) rules.extents ∙
      chain_same d.place x.words (made s l) found twice unconverted (is_void_object e) misfit block (λ allowed.
      ap (λ os. record (contents_of c) { scope = s; objects = os }) (objects_same name domain e d.initial g is rules.goes c.globals before allowed)))))

  -- with the values that it is given
  by_given : (s : Scope) (l : Local) (e : Declared) (j : Judged Given) → IfGood (IsOf d.initial) j → ((g : Given) → IsOf d.initial g → AreRules e d.initial g) →
      ((g : Given) → IsOf d.initial g → l ≡ object_local e g) →
      and_then (mapped (words_of l) j) (judged s l) ≡ mapped contents_of (and_then j (concluded_object s e))
  by_given s l e (Broken place rule) is rules size = refl
  by_given s l e (Good g) is rules size = ap (λ z. judged s z (words_of z g)) (size g is) ∙ given_agrees s e g is (rules g is)

  scope_same : (l : Local) (e : Declared) (m : Option Meaning) → ((n : ℕ) → Some (code.object_meaning (foreknown items) name n l l.size) ≡ object_meaning items name n e) →
      object_scope (foreknown items) name m l (length (map object_of c.globals)) c.scope ≡ named_unless (is_some m) c.scope name (object_meaning items name (length c.globals) e)
  unfolding object_scope
  scope_same l e None means =
      ap (λ n. declared c.scope name (code.object_meaning (foreknown items) name n l l.size)) (length-map c.globals object_of) ∙
      ap (λ o. named_unless false c.scope name o) (means (length c.globals))
  scope_same l e (Some m) means = by (object_meaning items name (length c.globals) e)
    where
      by : (o : Option Meaning) → c.scope ≡ named_unless true c.scope name o
      by None = refl
      by (Some z) = refl

  whole : (l : Local) (e : Declared) → ((n : ℕ) → Some (code.object_meaning (foreknown items) name n l l.size) ≡ object_meaning items name n e) →
      ((g : Given) → IsOf d.initial g → AreRules e d.initial g) → ((g : Given) → IsOf d.initial g → l ≡ object_local e g) →
      object_judgement (foreknown items) d name l domain block (contents_of c) ≡ mapped contents_of (object items d name e domain block c)
  unfolding object_judgement
  whole l e means rules size =
      let s = object_named items name e c in
      ap (λ s. and_then (code.object_words d before (map object_of c.globals) l domain block s) (λ words. Good (made s l words))) (scope_same l e before means) ∙
      (then_then (λ (x : Words). code_objects.unless_broken d.place (least (code.breaches before (map object_of c.globals) l d.initial x domain block)) x.words)
      (λ words. Good (made s l words)) (global_words l d.initial s) ∙
      (ap (λ j. and_then j (judged s l)) (words_agree l d.initial s) ∙
      by_given s l e (given constant_expression d.initial s) (given_is constant_expression d.initial s) rules size))

  pub scalar_agrees : (t : CType) (fixed : Bool) →
      object_judgement (foreknown items) d name (scalar t) domain block (contents_of c) ≡ mapped contents_of (object items d name (Scalar t fixed) domain block c)
  unfolding foreknown
  scalar_agrees t fixed = whole (scalar t) (Scalar t fixed) (λ n. refl) (scalar_rules t fixed d.initial) (λ g is. refl)

  pub array_agrees : (t : CType) (fixed : Bool) (size : Option Constant) →
      object_judgement (foreknown items) d name (sized t (code_initials.array_size size d.initial)) domain block (contents_of c) ≡
      mapped contents_of (object items d name (Array t fixed size) domain block c)
  unfolding foreknown
  array_agrees t fixed size =
      whole (sized t (code_initials.array_size size d.initial)) (Array t fixed size) (λ n. refl) (array_rules t fixed size d.initial)
      (λ g is. ap (array t) (sizes_agree size d.initial g is))
