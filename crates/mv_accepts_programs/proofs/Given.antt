-- The values that the globals of a unit are given are of their types.
use Rattle.std.proofs.Common.{false, List, [], Option}
use Rattle.std.specs.List.{AllByRecursion}
use Rattle.mv_ast.specs.declared.program.CType.TheVariants.{Void}
use Rattle.mv_ast.specs.declared.program.Function.{Function}
use Rattle.mv_ast.specs.declared.program.Program.{Program}
use Rattle.mv_syntax.specs.declared.unit.Declarator.{Declarator}
use Rattle.mv_syntax.specs.declared.unit.Item.{Item}
use Rattle.mv_syntax.specs.declared.unit.Line.{Line}
use Rattle.mv_check_declarations.specs.declared.specifiers.Specified.{Specified}
use Rattle.mv_check_declarations.specs.Turns.{through}
use Rattle.mv_accepts.specs.Expressions.Soundness.{Fits}
use Rattle.mv_accepts.proofs.OfExpressions.Plain.{IsPlain}
use Rattle.mv_accepts.specs.Statements.Bodies.{BodyGrows, ParametersFit}
use Rattle.mv_accepts.proofs.OfStatements.Judging.{IfGood, of_good, by_good}
use Rattle.mv_accepts.specs.Globals.FirstValues.{HaveFirstValues, FirstValuesAreKept}
use Rattle.mv_types.specs.declared.contents.Contents.{Contents}
use Rattle.mv_types.specs.declared.contents.Foreknown.{Foreknown}
use Rattle.mv_types.specs.Units.{declarator_judgement, item_judgement}
use Rattle.mv_accepts.specs.Names.Declared.{Extends, IsSound}
use Rattle.mv_accepts.specs.Names.Laws.{IsSoundBehind}
use Rattle.mv_accepts.proofs.OfNames.Extending.{To, extends_joined, to_same, to_joined}
use Rattle.mv_accepts.proofs.OfNames.Widening.{widens_sound}
use Rattle.mv_accepts.proofs.OfNames.Units.{Known, declarator_sound, items_keep}
use Rattle.mv_accepts.specs.Numbers.Numbers.{IsForeknown}

-- a function, to speak of the file scope
pub nobody : Function
nobody = record { name = []; attributed = false; result = Void; params = 0; locals = []; switches = []; body = [] }

-- ---- through the declarations

module _ (fit : ParametersFit) (grow : BodyGrows) (k : Foreknown) (end : Contents) (p : Program)
    (fits : (b : Contents) → IsSound k b → Extends b end → Fits p nobody b.scope) (kept : FirstValuesAreKept) where
  abbrev pub Keeps : Contents → Contents → Type 0
  Keeps c d = Extends d end → HaveFirstValues p c → HaveFirstValues p d

  -- contents stay sound, and values that are given stay of their types
  abbrev pub Goes : Contents → Contents → Type 0
  Goes c d = IsSound k c → IsSoundBehind k c d × Keeps c d

  goes_same : (c : Contents) → Goes c c
  goes_same c s = (to_same k c s, λ e h. h)

  goes_joined : (b c d : Contents) → Goes b c → Goes c d → Goes b d
  goes_joined b c d h j s =
      let x = h s in
      let y = j x.0.sound in
      (to_joined k b c d (λ t. x.0) (λ t. y.0) s, λ e v. y.1 e (x.1 (extends_joined c d end y.0.extends e) v))

  declarator_goes : (b : Specified) → IsPlain b.ctype → (body : Option Line) (d : Declarator) → Known fit grow k body d → (c : Contents) →
      IfGood (declarator_judgement k b body d c) (Goes c)
  declarator_goes b plain body d known c = by_good (Goes c) (declarator_judgement k b body d c) (λ after q s.
      let t = of_good (To k c) (declarator_judgement k b body d c) (declarator_sound fit grow k b plain body d known c) after q s in
      (t, λ e h. kept p nobody k b body d c after q (fits after t.sound e) h))

  pub items_go : (is : List Item) → AllByRecursion (IsForeknown k) is → (c : Contents) → IfGood (through (item_judgement k) is c) (Goes c)
  items_go = items_keep fit grow k Goes goes_same goes_joined (λ c t w s. (widens_sound k c t w s, λ e v. v)) declarator_goes
