-- The objects and functions that the declarations of a unit come to are written as the grammar has them.
use Rattle.std.proofs.Common.{ℕ, zero, suc, refl, List, replicate, length, Option, None}
use Rattle.std.specs.List.{AllByRecursion}
use Rattle.mv_syntax.specs.declared.unit.Declarator.{Declarator}
use Rattle.mv_syntax.specs.declared.unit.Item.{Item}
use Rattle.mv_syntax.specs.declared.unit.Line.{Line}
use Rattle.mv_syntax.specs.declared.unit.Specs.{out-Specs}
use Rattle.mv_check_declarations.specs.declared.attributes.Position.TheVariants as position
use Rattle.mv_check_declarations.specs.declared.specifiers.Specified.{Specified}
use Rattle.mv_check_declarations.specs.Specifiers.{specifiers}
use Rattle.mv_check_declarations.specs.Turns.{through}
use Rattle.mv_accepts.specs.Statements.Bodies.{BodyGrows, ParametersFit}
use Rattle.mv_accepts.proofs.OfStatements.Judging.{IfGood, of_good, by_good, if_then, if_kept, if_more, if_both, if_through}
use Rattle.mv_accepts.proofs.OfStatements.Places.{keeps_same, keeps_joined}
use Rattle.mv_accepts.proofs.OfStatements.Specified.{Specifies, specifiers_specify}
use Rattle.mv_accepts.proofs.OfExpressions.Plain.{IsPlain}
use Rattle.mv_types.specs.declared.contents.Contents.{Contents}
use Rattle.mv_types.specs.declared.contents.Foreknown.{Foreknown}
use Rattle.mv_types.specs.Contents.{nothing_declared, in_scope}
use Rattle.mv_types.specs.Units.{declarator_judgement, holders, declares_nothing, names_judgement, item_judgement}
use Rattle.mv_accepts_programs.specs.Identifiers.Written.{IsWrittenDeclarator, IsWrittenItem}
use Rattle.mv_accepts_programs.proofs.OfIdentifiers.Phrases.{IfSome}
use Rattle.mv_accepts_programs.proofs.OfFacts.Attributes.{IsFilledAttribute}
use Rattle.mv_accepts_programs.proofs.OfFacts.Enumerations.{Has, number_more, IsFilledBehind, specifiers_filled}
use Rattle.mv_accepts_programs.proofs.OfFacts.Declarators.{IsNamedFunction, AreWritten, IsWrittenBehind, declarator_written}

module _ (fit : ParametersFit) (grow : BodyGrows) (k : Foreknown) where
  -- ---- declarators

  module _ (b : Specified) (plain : IsPlain b.ctype) (f : IfSome IsFilledAttribute b.attribute) (body : Option Line) where
    abbrev Goes : Contents → Contents → Type 0
    Goes c d = IfSome (Has c.scope) b.enumeration → AreWritten c → IsWrittenBehind c d

    goes_joined : (c d e : Contents) → Goes c d → Goes d e → Goes c e
    goes_joined c d e g h m w =
        let x = g m w in
        let y = h (number_more c.scope d.scope x.enumerations b.enumeration m) x.written in
        record { written = y.written; enumerations = keeps_joined c.scope.enumerations d.scope.enumerations e.scope.enumerations x.enumerations y.enumerations }

    declarators_go : (ds : List Declarator) → AllByRecursion IsWrittenDeclarator ds → (c : Contents) → IfGood (through (declarator_judgement k b body) ds c) (Goes c)
    declarators_go =
        if_through (declarator_judgement k b body) Goes IsWrittenDeclarator (λ c m w. record { written = w; enumerations = keeps_same c.scope.enumerations }) goes_joined
        (λ d w c. by_good (Goes c) (declarator_judgement k b body d c) (λ e q m h.
        of_good (IsWrittenBehind c) (declarator_judgement k b body d c) (declarator_written fit grow k b body d c plain w f m h) e q))

  -- ---- items

  names_written : (b : Specified) → IsPlain b.ctype → IfSome IsFilledAttribute b.attribute → (i : Item) → AllByRecursion IsWrittenDeclarator i.names → (c : Contents) →
      IfSome (Has c.scope) b.enumeration → AreWritten c → IfGood (names_judgement k b i c) AreWritten
  names_written b plain f i w c m h =
      if_kept AreWritten (declares_nothing i) (out-Specs i.specs).place 22 (through (declarator_judgement k b i.body) i.names c) (λ q.
      if_more (Goes b plain f i.body c) AreWritten (through (declarator_judgement k b i.body) i.names c) (λ d g. (g m h).written)
      (declarators_go b plain f i.body i.names w c))

  item_written : (i : Item) → IsWrittenItem i → (c : Contents) → AreWritten c → IfGood (item_judgement k i c) AreWritten
  unfolding item_judgement
  item_written i w c h =
      let j = specifiers position.File (holders k i.names) i.specs c.scope in
      if_then (λ d. Specifies c.scope d × IsFilledBehind d) AreWritten j _
      (if_both (Specifies c.scope) IsFilledBehind j (specifiers_specify position.File (holders k i.names) i.specs c.scope)
      (specifiers_filled position.File (holders k i.names) i.specs w.specs c.scope h.tags)) (λ b g.
      names_written b.1 g.0.plain g.1.attribute i w.names (in_scope c b.0) g.1.number (record { tags = g.1.tags; objects = h.objects; functions = h.functions }))

  -- ---- units

  none_named : (n : ℕ) → AllByRecursion IsNamedFunction (replicate n None)
  none_named zero = tt
  none_named (suc n) = (tt, none_named n)

  start_written : AreWritten (nothing_declared k)
  start_written = record {
    tags = record { around = refl; filled = λ tag n q. absurd (cc) };
    objects = tt;
    functions = none_named (length k.outline.functions);
  }

  abbrev Next : Contents → Contents → Type 0
  Next c d = AreWritten c → AreWritten d

  pub items_written : (items : List Item) → AllByRecursion IsWrittenItem items → IfGood (through (item_judgement k) items (nothing_declared k)) AreWritten
  items_written items w =
      if_more (Next (nothing_declared k)) AreWritten (through (item_judgement k) items (nothing_declared k)) (λ c g. g start_written)
      (if_through (item_judgement k) Next IsWrittenItem (λ c h. h) (λ c d e g h q. h (g q))
      (λ i v c. by_good (Next c) (item_judgement k i c) (λ d q h. of_good AreWritten (item_judgement k i c) (item_written i v c h) d q)) items w (nothing_declared k))
