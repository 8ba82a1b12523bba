-- Definitions of functions that keep the rules are well formed: parameters, and then the body.
use Rattle.std.proofs.Common.{◌≡◌, ℕ, ◌≤◌, suc, true, false, refl, sym, ◌∙◌, ap, subst, List, [], ◌∷◌, ◌++◌, length, take, Some, None, nat_lt, arith}
use Rattle.std.specs.Prelude.{All}
use Rattle.std.proofs.lemmas.Option.{slice_get_within}
use Rattle.std.proofs.lemmas.Bool.{lt-ltb}
use Rattle.mv_ast.specs.declared.program.CType.{CType}
use Rattle.mv_ast.specs.declared.program.Program.{Program}
use Rattle.mv_ast.specs.declared.program.Function.{Function}
use Rattle.mv_ast.specs.declared.program.Local.{Local}
use Rattle.mv_ast.specs.declared.program.Signature.{Signature}
use Rattle.mv_syntax.specs.declared.unit.Line.{Line}
use Rattle.mv_syntax.specs.declared.unit.Param.{Param}
use Rattle.mv_check_scope.specs.declared.meaning.Meaning.{Meaning}
use Rattle.mv_check_scope.specs.declared.meaning.Meaning.TheVariants as meaning
use Rattle.mv_check_scope.specs.declared.meaning.Storage.{Storage}
use Rattle.mv_check_scope.specs.declared.meaning.Storage.TheVariants as storage
use Rattle.mv_check_scope.specs.declared.scope.Scope.{Scope}
use Rattle.mv_source_forms.specs.WellFormed.{parameters}
use Rattle.mv_accepts.specs.Expressions.Soundness.{IsStored, IsMeant, Fits}
use Rattle.mv_accepts.specs.Statements.Bodies.{Keeps, BodyGrows, BodyIsTyped, AreParameters, ParametersFit}
use Rattle.mv_accepts.proofs.OfStatements.Places.{keeps_take}
use Rattle.mv_accepts.specs.Bodies.Formed.{IsScalar, IsArray, IsShaped, AreShaped, HasParameters, BodyIsFormed, ParametersAreShaped}
use Rattle.mv_accepts.specs.Bodies.Declared.{IsIn, IsCovered, Covers, BodyNamesDeclared}
use Rattle.mv_accepts.specs.Bodies.Definitions.{IsDefinition, HasScalarParameters, IsFormed}

-- ---- a list that is kept is the beginning

module _ {A : Type 0} where
  kept_shorter : (xs ys : List A) → Keeps xs ys → length xs ≤ length ys
  kept_shorter [] ys h = omega arith
  kept_shorter (x ∷ xs) [] h = absurd (let q : None ≡ Some x = h 0 x refl in cc)
  kept_shorter (x ∷ xs) (y ∷ ys) h = let k = kept_shorter xs ys (λ i z r. h (suc i) z r) in omega (arith, k)

-- ---- a scope that names no local goes with each function

no_local : (p : Program) (f g : Function) (s : Storage) (t : CType) → IsIn (λ l. false) s → IsStored p f s t → IsStored p g s t
no_local p f g (storage.Global n) t h k = k
no_local p f g (storage.Local l) t h k = absurd (cc)

no_scalar : (f g : Function) (s : Storage) → IsIn (λ l. false) s → IsScalar f s → IsScalar g s
no_scalar f g (storage.Global n) h k = k
no_scalar f g (storage.Local l) h k = absurd (cc)

no_array : (p : Program) (own : ℕ) (f g : Function) (s : Storage) → IsIn (λ l. false) s → IsArray p own f s → IsArray p own g s
no_array p own f g (storage.Global n) h k = k
no_array p own f g (storage.Local l) h k = absurd (cc)

any_means : (p : Program) (f g : Function) (ss : List Signature) (m : Meaning) → IsCovered (λ l. false) m → IsMeant p f ss m → IsMeant p g ss m
any_means p f g ss (meaning.Object v) h k = (no_local p f g v.storage v.ctype h k.0, k.1)
any_means p f g ss (meaning.Array a) h k = (no_local p f g a.storage a.ctype h k.0, k.1)
any_means p f g ss (meaning.Function r) h k = k
any_means p f g ss (meaning.Enumerator v) h k = tt
any_means p f g ss (meaning.Tag n) h k = tt
any_means p f g ss (meaning.Known c) h k = tt

any_shaped : (p : Program) (own : ℕ) (f g : Function) (m : Meaning) → IsCovered (λ l. false) m → IsShaped p own f m → IsShaped p own g m
any_shaped p own f g (meaning.Object v) h k = (no_scalar f g v.storage h k.0, k.1)
any_shaped p own f g (meaning.Array a) h k = no_array p own f g a.storage h k
any_shaped p own f g (meaning.Function r) h k = k
any_shaped p own f g (meaning.Enumerator v) h k = tt
any_shaped p own f g (meaning.Tag n) h k = tt
any_shaped p own f g (meaning.Known c) h k = k

any_fits : (p : Program) (f g : Function) (s : Scope) → Covers (λ l. false) s → Fits p f s → Fits p g s
any_fits p f g s none fits = record {
  names = λ name m q. any_means p f g s.signatures m (none name m q) (fits.names name m q);
  signatures = fits.signatures;
  results = fits.results;
}

-- ---- what the parameters of a function name

scalar_in : (g : Function) (n : ℕ) (s : Storage) → length g.locals ≡ n → IsScalar g s → IsIn (λ l. nat_lt l n) s
scalar_in g n (storage.Global k) q h = tt
scalar_in g n (storage.Local l) q h = subst (λ k. nat_lt l k ≡ true) q (lt-ltb l (length g.locals) (slice_get_within g.locals l h.0 h.1))

array_in : (p : Program) (own : ℕ) (g : Function) (n : ℕ) (s : Storage) → length g.locals ≡ n → IsArray p own g s → IsIn (λ l. nat_lt l n) s
array_in p own g n (storage.Global k) q h = tt
array_in p own g n (storage.Local l) q h = subst (λ k. nat_lt l k ≡ true) q (lt-ltb l (length g.locals) (slice_get_within g.locals l h.0 h.2))

shaped_covered : (p : Program) (own : ℕ) (g : Function) (n : ℕ) (m : Meaning) → length g.locals ≡ n → IsShaped p own g m → IsCovered (λ l. nat_lt l n) m
shaped_covered p own g n (meaning.Object v) q h = scalar_in g n v.storage q h.0
shaped_covered p own g n (meaning.Array a) q h = array_in p own g n a.storage q h
shaped_covered p own g n x q h = tt

-- ---- definitions

module _ (body_grows : BodyGrows) (parameters_fit : ParametersFit) where
  module _ (f : Function) (params : List Param) (body : Line) (before after : Scope) (d : IsDefinition f params body before after) where
    are : AreParameters before d.middle (length params)
    are = parameters_fit params before d.middle d.judged_parameters

    -- the locals behind the parameters are these
    only_those : d.middle.locals ≡ are.scalars.0
    unfolding are
    only_those = are.scalars.1 ∙ ap (λ ls. ls ++ are.scalars.0) d.none_before

    counted : length d.middle.locals ≡ f.params
    unfolding are
    counted = ap length only_those ∙ (are.scalars.2 ∙ sym d.count)

    kept : Keeps d.middle.locals f.locals
    kept = subst (Keeps d.middle.locals) (sym d.locals) (body_grows f.result body d.middle after f.body d.judged_body).locals

    pub has_parameters : HasScalarParameters f
    unfolding are
    has_parameters = record {
      there = subst (λ n. n ≤ length f.locals) counted (kept_shorter d.middle.locals f.locals kept);
      scalars = subst (All (λ (l : Local). l.size ≡ None)) (sym (ap (λ n. take n f.locals) (sym counted) ∙ (keeps_take d.middle.locals f.locals kept ∙ only_those))) are.scalars.3;
    }

    module _ (p : Program) (own : ℕ) (typed : BodyIsTyped) (formed : BodyIsFormed) (declared : BodyNamesDeclared) (shapes : ParametersAreShaped)
        (signatures : Keeps after.signatures p.signatures) (has : HasParameters p) (none : Covers (λ l. false) before) (fits : Fits p f before) (shaped : AreShaped p own f before) where
      signatures_there : Keeps d.middle.signatures p.signatures
      signatures_there i x q = signatures i x ((body_grows f.result body d.middle after f.body d.judged_body).signatures i x q)

      locals_there : Keeps after.locals f.locals
      locals_there = subst (λ ls. Keeps ls f.locals) d.locals (λ i x q. q)

      fits_there : Fits p f d.middle
      unfolding are
      fits_there = are.fits p f signatures_there kept fits

      -- the function with its parameters alone
      alone : Function
      alone = record f { locals = d.middle.locals }

      covers_there : Covers (parameters f) d.middle
      unfolding alone
      covers_there name m q =
          shaped_covered p own alone f.params m counted
          (shapes p own alone params before d.middle d.judged_parameters signatures_there (λ i x r. r) (any_fits p f alone before none fits)
          (λ n k r. any_shaped p own f alone k (none n k r) (shaped n k r)) name m q)

      pub definition_formed : IsFormed p own f
      definition_formed =
          let a = formed p own f body d.middle after f.body d.judged_body signatures locals_there has fits_there
          (shapes p own f params before d.middle d.judged_parameters signatures_there kept fits shaped) in
          record {
            typed = (typed p f body d.middle after f.body d.judged_body signatures locals_there fits_there).statements;
            named = a.named;
            declared = declared p f body d.middle after f.body d.judged_body signatures locals_there fits_there covers_there;
            jumps = a.jumps;
            labels = a.labels;
            known = a.known;
          }
