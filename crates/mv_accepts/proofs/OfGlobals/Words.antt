-- The words that a global is given: as many as it has room for, and values of its type.
use Rattle.std.proofs.Common.{◌≡◌, ℕ, ◌+◌, ◌≤◌, arith, refl, sym, subst, ◌&&◌, is_some, Bool, true, false, not, nat_le, nat_lt, if◌then◌else◌, List, [], ◌∷◌, ◌++◌, map, length, Option, Some, None}
use Rattle.std.specs.List.{AllByRecursion}
use Rattle.std.proofs.lemmas.List.{length-append, length-map}
use Rattle.std.proofs.lemmas.Bool.{not-false, and_parts, leb-true, ltb-true}
use Rattle.mv_syntax.specs.declared.place.Place.{Place}
use Rattle.mv_ast.specs.declared.program.CType.{CType}
use Rattle.mv_ast.specs.declared.program.Expr.{Expr}
use Rattle.mv_ast.specs.declared.program.Local.{Local}
use Rattle.mv_syntax.specs.declared.unit.Declarator.{Declarator}
use Rattle.mv_syntax.specs.declared.unit.Initial.{Initial}
use Rattle.mv_syntax.specs.declared.unit.Initial.TheVariants as initial
use Rattle.mv_syntax.specs.declared.unit.Node.{Node}
use Rattle.mv_ast.specs.Counts.{words_of_size}
use Rattle.mv_ast.specs.Operators.{converted}
use Rattle.mv_check_scope.specs.declared.meaning.Meaning.{Meaning}
use Rattle.mv_check_scope.specs.declared.scope.Scope.{Scope}
use Rattle.mv_check_expressions.specs.Judgements.{value_judgement}
use Rattle.mv_check_declarations.specs.declared.globals.Words.{Words}
use Rattle.mv_check_declarations.specs.Globals.{constant_word, word_or_broken, first_word, no_words, first_words, room_behind, string_words, global_words}
use Rattle.mv_check_declarations.specs.Objects.{has_room, is_char, string_fits, is_single, is_overfull, least}
use Rattle.mv_types.specs.declared.contents.Object.{Object}
use Rattle.mv_types.specs.Objects.{breaches, object_words}
use Rattle.mv_accepts.proofs.OfStatements.Judging.{IfGood, if_any, if_then, if_more, if_through}
use Rattle.mv_accepts.proofs.OfStatements.Unbroken.{if_unbroken, unbroken, all_convert, has_extents}
use Rattle.mv_accepts.proofs.OfStatements.Lists.{each_any, all_append, all_last}
use Rattle.mv_accepts.proofs.OfGlobals.Values.{IsOf, converted_is, no_is}

abbrev pub AreOf : CType → List ℕ → Type 0
AreOf t = AllByRecursion (IsOf t)

-- words of a type for a size
pub record AreWords (t : CType) (size : Option ℕ) (words : List ℕ) : Type 0 where
  pub given : length words ≤ words_of_size size
  pub values : AreOf t words

-- one more word, converted
abbrev IsMore : CType → Words → Words → Type 0
IsMore t x y = (w : ℕ) × (y.words ≡ x.words ++ converted t w ∷ [])

word_more : (place : Place) (t : CType) (x : Words) (e : Expr) (o : Option ℕ) → IfGood (word_or_broken place t x e o) (IsMore t x)
word_more place t x e None = tt
word_more place t x e (Some w) = (w, refl)

first_more : (t : CType) (s : Scope) (node : Node) (x : Words) → IfGood (first_word t s node x) (IsMore t x)
first_more t s node x =
    if_then (λ e. Unit {0}) (IsMore t x) (value_judgement s node) _ (if_any (value_judgement s node)) (λ e u. word_more node.place t x e (constant_word e))

more_are : (t : CType) (x y : Words) → IsMore t x y → AreOf t x.words → AreOf t y.words
more_are t x y m h = subst (AreOf t) (sym m.1) (all_last (IsOf t) x.words (converted t m.0) h (converted_is t m.0))

abbrev Next : CType → Words → Words → Type 0
Next t x y = AreOf t x.words → AreOf t y.words

firsts_are : (t : CType) (s : Scope) (nodes : List Node) → IfGood (first_words t s nodes) (λ x. AreOf t x.words)
firsts_are t s nodes =
    if_more (Next t no_words) (λ x. AreOf t x.words) (first_words t s nodes) (λ x h. h tt)
    (if_through (first_word t s) (Next t) (λ node. Unit {0}) (λ x h. h) (λ x y z h k i. k (h i))
    (λ node u x. if_more (IsMore t x) (Next t x) (first_word t s node x) (λ y m. more_are t x y m) (first_more t s node x)) nodes (each_any nodes) no_words)

-- ---- strings

bytes_are : (t : CType) (bytes : List ℕ) → AreOf t (map (converted t) bytes)
bytes_are t [] = tt
bytes_are t (b ∷ bs) = (converted_is t b, bytes_are t bs)

abbrev ending : Bool → List ℕ
ending b = if b then 0 ∷ [] else []

ending_is : (t : CType) (b : Bool) → AreOf t (ending b)
ending_is t true = (no_is t, tt)
ending_is t false = tt

room : (t : CType) (bytes : List ℕ) (n : ℕ) (b : Bool) → nat_lt (length bytes) n ≡ b → nat_le (length bytes) n ≡ true → length (map (converted t) bytes ++ ending b) ≤ n
room t bytes n true q h =
    let e : length (map (converted t) bytes ++ ending true) ≡ length (map (converted t) bytes) + 1 = length-append (map (converted t) bytes) (ending true) in
    let m = length-map bytes (converted t) in
    let less = ltb-true (length bytes) n q in
    omega (arith, e, m, less)
room t bytes n false q h =
    let e : length (map (converted t) bytes ++ ending false) ≡ length (map (converted t) bytes) + 0 = length-append (map (converted t) bytes) (ending false) in
    let m = length-map bytes (converted t) in
    let most = leb-true (length bytes) n h in
    omega (arith, e, m, most)

characters_are : (t : CType) (size : Option ℕ) (bytes : List ℕ) → has_room size (length bytes) ≡ true →
    AreWords t size (map (converted t) bytes ++ ending (room_behind size (length bytes)))
characters_are t None bytes h = absurd (cc)
characters_are t (Some n) bytes h = record {
  given = room t bytes n (nat_lt (length bytes) n) refl h;
  values = all_append (IsOf t) (map (converted t) bytes) (ending (nat_lt (length bytes) n)) (bytes_are t bytes) (ending_is t (nat_lt (length bytes) n));
}

-- ---- the words of an object

-- what is known of the words that are given before the rules of the object
abbrev AreGiven : Local → Option Initial → Words → Type 0
AreGiven l None x = x.words ≡ []
AreGiven l (Some (initial.Value node)) x = IsMore l.ctype no_words x
AreGiven l (Some (initial.Values nodes)) x = AreOf l.ctype x.words
AreGiven l (Some (initial.Chars bytes)) x = x ≡ string_words l bytes

given_are : (l : Local) (given : Option Initial) (s : Scope) → IfGood (global_words l given s) (AreGiven l given)
given_are l None s = refl
given_are l (Some (initial.Value node)) s = first_more l.ctype s node no_words
given_are l (Some (initial.Values nodes)) s = firsts_are l.ctype s nodes
given_are l (Some (initial.Chars bytes)) s = refl

single_are : (t : CType) (size : Option ℕ) (x : Words) → IsMore t no_words x → (is_some size && true) ≡ false → AreWords t size x.words
single_are t None x m q = record {
  given = subst (λ (ws : List ℕ). length ws ≤ 1) (sym m.1) (omega arith);
  values = more_are t no_words x m tt;
}
single_are t (Some n) x m q = absurd (cc)

listed_are : (t : CType) (size : Option ℕ) (x : Words) → AreOf t x.words → not (has_room size (length x.words)) ≡ false → AreWords t size x.words
listed_are t None x h q = absurd (cc)
listed_are t (Some n) x h q = record { given = leb-true (length x.words) n (not-false (nat_le (length x.words) n) q); values = h }

string_are : (l : Local) (bytes : List ℕ) → not (string_fits l (length bytes)) ≡ false → AreWords l.ctype l.size (string_words l bytes).words
string_are l bytes q =
    characters_are l.ctype l.size bytes (and_parts (is_char l.ctype) (has_room l.size (length bytes)) (not-false (string_fits l (length bytes)) q)).1

kept_are : (l : Local) (given : Option Initial) (x : Words) → AreGiven l given x → (is_some l.size && is_single given) ≡ false →
    is_overfull true l given (length x.words) ≡ false → AreWords l.ctype l.size x.words
kept_are l None x h q r = subst (AreWords l.ctype l.size) (sym h) (record { given = omega arith; values = tt })
kept_are l (Some (initial.Value node)) x h q r = single_are l.ctype l.size x h q
kept_are l (Some (initial.Values nodes)) x h q r = listed_are l.ctype l.size x h r
kept_are l (Some (initial.Chars bytes)) x h q r = subst (λ (y : Words). AreWords l.ctype l.size y.words) (sym h) (string_are l bytes r)

pub words_are : (d : Declarator) (before : Option Meaning) (objects : List Object) (l : Local) (domain : Option (List ℕ)) (block : Bool) (s : Scope) →
    IfGood (object_words d before objects l domain block s) (AreWords l.ctype l.size)
words_are d before objects l domain block s =
    if_then (AreGiven l d.initial) (AreWords l.ctype l.size) (global_words l d.initial s) _ (given_are l d.initial s) (λ x h.
    let b = breaches before objects l d.initial x domain block in
    if_unbroken (AreWords l.ctype l.size) d.place (least b) x.words (λ q.
    let u = unbroken b q in
    kept_are l d.initial x h (all_convert l d.initial x.all u.void u.unconverted).1 (has_extents true l d.initial (length x.words) u.extents).1))
