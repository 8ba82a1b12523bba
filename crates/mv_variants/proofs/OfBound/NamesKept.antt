-- Short bodies in place of calls, arms reached by one jump, promises, binding, carrying, tidying, propagating and folding name no more.
use Rattle.std.proofs.Common.{arith, ◌≡◌, ℕ, false, List, [], ◌∷◌, refl, sym, ap, subst, All, Contains}
use Rattle.std.proofs.lemmas.List.Elements.{All-contains, All-contains_itself}
use Rattle.mv_ast.specs.declared.program.Known.{Known}
use Rattle.mv_ir.specs.declared.stm.Stm.{Stm}
use Rattle.mv_ir.proofs.Induction.{Each}
use Rattle.mv_ir.specs.Measures.{joined}
use Rattle.mv_plain.proofs.PlainNumbers.{unary_word}
use Rattle.mv_select_code.specs.Control.Labels.{named_layer, stm_functions, functions}
use Rattle.mv_select_code.proofs.OfControl.TreeNames.{AnyNumber, each_any, named_roll}
use Rattle.mv_select.specs.Bodies.SelectedBodies.{AreWords, HasWords, IsOrder, constants_of_all, constants, knowns_layer, stm_knowns, knowns}
use Rattle.mv_select.proofs.OfBodies.NamedTrees.{IsWord}
use Rattle.mv_select.proofs.OfBodies.FineCode.{knowns_roll}
use Rattle.mv_arms.specs.Arms.{Arms}
use Rattle.mv_propagate.specs.declared.facts.Fact.{Fact}
use Rattle.mv_propagate.specs.Propagating.{Propagated}
use Rattle.mv_ranges.specs.Plain.{plain_code}
use Rattle.mv_ranges.proofs.Same.{Blind, same_of_all, same_trees}
use Rattle.mv_clone.specs.Bind.{bound_code}
use Rattle.mv_regalloc.specs.Rename.{renamed_code}
use Rattle.mv_carry.specs.declared.facts.Reach.TheVariants.{Knowing}
use Rattle.mv_carry.specs.Carrying.{outermost, carried_code}
use Rattle.mv_fold.specs.Needed.{needed_code}
use Rattle.mv_fold.specs.Folded.{simple_body}
use Rattle.mv_variants.specs.Bound.Names.{NamesNoMore, BindingNamesNoMore, CarryingNamesNoMore, TidyingNamesNoMore, FoldingNamesNoMore}
use Rattle.mv_variants.proofs.OfBound.Words.{binary_word, narrow_word, divide_word}
use Rattle.mv_select.proofs.OfBodies.Naming.{CodeNames, code_functions, code_knowns, code_constants, code_of}
use Rattle.mv_variants.proofs.OfBound.BoundNames.{bound_names}
use Rattle.mv_variants.proofs.OfBound.FoldedNames.{IsClosed, folded_names}
use Rattle.mv_variants.proofs.OfBound.CarriedNames.{carried_names}
use Rattle.mv_variants.proofs.OfBound.TidiedNames.{tidied_names}
use Rattle.mv_variants.proofs.OfBound.PropagatedNames.{propagated_names}
use Rattle.mv_variants.proofs.OfBound.ArmedNames.{armed_names}
use Rattle.mv_variants.proofs.OfBound.RenamedNames.{renamed_names}
use Rattle.mv_variants.proofs.OfBound.ExpandedNames.{AnyKnown, expanded_names, short_names}
use Rattle.mv_ir.specs.declared.body.Body.{Body}
use Rattle.mv_ir.specs.Shorts.{Shorts}
use Rattle.mv_expand.specs.Straight.{IsShort}
use Rattle.mv_expand.specs.Expanding.{Expands}
use Rattle.mv_variants.specs.Bound.Shorts.{ShortsHaveWords}
use Rattle.mv_ir.proofs.Common.{each_is_all}
use Rattle.mv_select.proofs.OfBodies.Lists.{each_all}

anything_closed : IsClosed AnyNumber
anything_closed = record { one = λ o n h. tt; two = λ o n m h k. tt; narrowed = λ k n h. tt; divided = λ o n d h k. tt; shift = λ k h. tt }

words_closed : IsClosed IsWord
words_closed = record { one = λ o n h. unary_word o n; two = λ o n m h k. binary_word o n m h k; narrowed = λ k n h. narrow_word k n h; divided = λ o n d h k. divide_word o n d h k; shift = λ k h. omega (arith, h) }

module _ (code result : List Stm) where
  -- of code that names what this names
  abbrev Named : List Stm → Type 0
  Named = CodeNames (Contains (functions code)) (Contains (knowns code)) AnyNumber

  abbrev Words : List Stm → Type 0
  Words = CodeNames AnyNumber IsOrder IsWord

  own : Named code
  own = code_of (Contains (functions code)) (Contains (knowns code)) AnyNumber code
      (each_all (Contains (functions code)) (functions code) (All-contains_itself (functions code))) (each_all (Contains (knowns code)) (knowns code) (All-contains_itself (knowns code))) (each_any (constants code))

  words_in : HasWords code → Words code
  words_in h = code_of AnyNumber IsOrder IsWord code (each_any (functions code)) (each_all IsOrder (knowns code) h.orders) (each_all IsWord (constants code) h.constants)

  no_more : (Named code → Named result) → (Words code → Words result) → NamesNoMore code result
  no_more h k = record {
    functions = λ f. All-contains (Contains (functions code)) (functions result) f (each_is_all (Contains (functions code)) (functions result) (code_functions (Contains (functions code)) (Contains (knowns code)) AnyNumber result (h own)));
    knowns = λ f. All-contains (Contains (knowns code)) (knowns result) f (each_is_all (Contains (knowns code)) (knowns result) (code_knowns (Contains (functions code)) (Contains (knowns code)) AnyNumber result (h own)));
    words = λ w. record {
      constants = each_is_all IsWord (constants result) (code_constants AnyNumber IsOrder IsWord result (k (words_in w)));
      orders = each_is_all IsOrder (knowns result) (code_knowns AnyNumber IsOrder IsWord result (k (words_in w)));
    };
  }

-- a short body names nothing but constants
short_named : (F : ℕ → Type 0) (K : Known → Type 0) (b : Body) → IsShort b → CodeNames F K AnyNumber b.code
short_named F K b short = short_names F K AnyNumber b short (code_of AnyNumber AnyKnown AnyNumber b.code (each_any (functions b.code)) (each_known (knowns b.code)) (each_any (constants b.code)))
  where
    each_known : (ks : List Known) → Each AnyKnown ks
    each_known [] = tt
    each_known (k ∷ ks) = (tt, each_known ks)

short_words : (b : Body) → IsShort b → HasWords b.code → CodeNames AnyNumber IsOrder IsWord b.code
short_words b short h = code_of AnyNumber IsOrder IsWord b.code (each_any (functions b.code)) (each_all IsOrder (knowns b.code) h.orders) (each_all IsWord (constants b.code) h.constants)

pub expanding_names : (shorts : Shorts) → ShortsHaveWords shorts → (base : ℕ) (code expanded : List Stm) → Expands shorts base false code expanded → NamesNoMore code expanded
expanding_names shorts all base code expanded h =
    no_more code expanded
    (expanded_names (Contains (functions code)) (Contains (knowns code)) AnyNumber shorts (λ f b there. short_named (Contains (functions code)) (Contains (knowns code)) b (all f b there).0)
    base false code expanded h)
    (expanded_names AnyNumber IsOrder IsWord shorts (λ f b there. let is = all f b there in short_words b is.0 is.1) base false code expanded h)

pub binding_names : BindingNamesNoMore
binding_names ps words code =
    no_more code (bound_code ps code) (bound_names (Contains (functions code)) (Contains (knowns code)) AnyNumber ps (λ g v e. tt) code) (bound_names AnyNumber IsOrder IsWord ps words code)

pub carrying_names : CarryingNamesNoMore
carrying_names temps code =
    no_more code (carried_code temps outermost (Knowing []) code).code
    (carried_names (Contains (functions code)) (Contains (knowns code)) AnyNumber anything_closed temps code) (carried_names AnyNumber IsOrder IsWord words_closed temps code)

pub tidying_names : TidyingNamesNoMore
tidying_names temps code tidied k =
    no_more code tidied (tidied_names (Contains (functions code)) (Contains (knowns code)) AnyNumber anything_closed temps code tidied k) (tidied_names AnyNumber IsOrder IsWord words_closed temps code tidied k)

pub propagating_names : (temps : ℕ) (code propagated : List Stm) (last : List Fact) → Propagated temps [] code propagated last → NamesNoMore code propagated
propagating_names temps code propagated last h =
    no_more code propagated (propagated_names (Contains (functions code)) (Contains (knowns code)) AnyNumber (λ n lt. tt) temps code propagated last h)
    (propagated_names AnyNumber IsOrder IsWord (λ n lt. lt) temps code propagated last h)

pub arming_names : (temps : ℕ) (code armed : List Stm) → Arms temps [] code armed → NamesNoMore code armed
arming_names temps code armed h =
    no_more code armed (armed_names (Contains (functions code)) (Contains (knowns code)) AnyNumber temps [] code armed h) (armed_names AnyNumber IsOrder IsWord temps [] code armed h)

-- it names the same
pub marking_names : (code marked : List Stm) → plain_code marked ≡ plain_code code → NamesNoMore code marked
marking_names code marked e = record {
  functions = λ f. subst (λ l. Contains l f) (ap joined (same_of_all (List ℕ) named_layer stm_functions functions_blind code marked e));
  knowns = λ k. subst (λ l. Contains l k) same_knowns;
  words = λ w. record {
    constants = subst (λ ts. AreWords (constants_of_all ts)) (sym (same_trees code marked e)) w.constants;
    orders = subst (λ ks. All IsOrder ks) (sym same_knowns) w.orders;
  };
}
  where
    functions_blind : Blind (List ℕ) named_layer stm_functions
    functions_blind = record { roll = named_roll; check = λ a i. refl; read = λ t a i. refl; write = λ a i v. refl }

    knowns_blind : Blind (List Known) knowns_layer stm_knowns
    knowns_blind = record { roll = knowns_roll; check = λ a i. refl; read = λ t a i. refl; write = λ a i v. refl }

    same_knowns : knowns marked ≡ knowns code
    same_knowns = ap joined (same_of_all (List Known) knowns_layer stm_knowns knowns_blind code marked e)

pub folding_names : FoldingNamesNoMore
folding_names temps code folded (needed, is, e) =
    subst (NamesNoMore code) (sym e)
    (no_more code (needed_code needed (simple_body temps code))
    (folded_names (Contains (functions code)) (Contains (knowns code)) AnyNumber anything_closed needed temps code) (folded_names AnyNumber IsOrder IsWord words_closed needed temps code))

pub renaming_names : (c : ℕ → ℕ) (code : List Stm) → NamesNoMore code (renamed_code c code)
renaming_names c code = no_more code (renamed_code c code) (renamed_names (Contains (functions code)) (Contains (knowns code)) AnyNumber c code) (renamed_names AnyNumber IsOrder IsWord c code)
