-- The switches of a program are those of its objects that have a domain.
use Rattle.std.proofs.Common.{◌≡◌, ℕ, zero, suc, ◌+◌, ◌<◌, arith, refl, subst, List, [], ◌∷◌, map, length, true, Option, Some, None, slice_get}
use Rattle.std.specs.List.{AllByRecursion}
use Rattle.std.proofs.lemmas.List.Elements.{All-from_recursion}
use Rattle.mv_ast.specs.declared.program.CType.{CType}
use Rattle.mv_ast.specs.declared.program.Global.{Global}
use Rattle.mv_ast.specs.declared.program.Program.{Program}
use Rattle.mv_ast.specs.declared.program.Switch.{Switch}
use Rattle.mv_ast.specs.Actions.{is_value_of}
use Rattle.mv_source_forms.specs.Typing.{IsInteger, global_types, IsIntegerSwitch}
use Rattle.mv_source_forms.specs.WellFormed.{IsWellFormedGlobal, IsWellFormedSwitch}
use Rattle.mv_types.specs.declared.contents.Contents.{Contents}
use Rattle.mv_types.specs.declared.contents.Object.{Object}
use Rattle.mv_types.specs.Contents.{switch_of, switches_from}
use Rattle.mv_types.specs.Units.{program_of}
use Rattle.mv_accepts.specs.Globals.Globals.{HasFormedGlobals}
use Rattle.mv_accepts.proofs.OfGlobals.Sizes.{HasWord}
use Rattle.mv_accepts.proofs.OfGlobals.Objects.{IsSwitchIf, IsFormedObject, AreFormed, global_formed, values_of}
use Rattle.mv_accepts.proofs.OfStatements.Lists.{all_append, mapped_there, all_mapped, all_more}

module _ (p : Program) where
  -- a switch is well formed and its global is an integer
  record IsFormed (s : Switch) : Type 0 where
    formed : IsWellFormedSwitch p s
    ctype : CType
    there : slice_get (global_types p) s.global ≡ Some ctype
    integer : IsInteger ctype

  one_formed : (n : ℕ) (o : Object) (domain : Option (List ℕ)) → slice_get p.globals n ≡ Some o.global → IsSwitchIf o.global.ctype o.global.size domain →
      AllByRecursion IsFormed (switch_of n domain)
  one_formed n o None q h = tt
  one_formed n o (Some vs) q h = (formed, tt)
    where
      formed : IsFormed (record { global = n; values = vs })
      formed = record {
        formed = record {
          global = o.global;
          there = q;
          scalar = h.scalar;
          values = All-from_recursion (λ v. is_value_of o.global.ctype v ≡ true) vs (values_of o.global.ctype vs h.domain.values h.integer);
          different = h.domain.different;
        };
        ctype = o.global.ctype;
        there = mapped_there (λ (g : Global). g.ctype) p.globals n o.global q;
        integer = h.integer;
      }

  -- objects whose globals are the program's from a number on
  abbrev AreThere : ℕ → List Object → Type 0
  AreThere n os = (i : ℕ) (o : Object) → slice_get os i ≡ Some o → slice_get p.globals (i + n) ≡ Some o.global

  from_formed : (n : ℕ) (os : List Object) → AreThere n os → AllByRecursion IsFormedObject os → AllByRecursion IsFormed (switches_from n os)
  from_formed n [] there h = tt
  from_formed n (o ∷ os) there h =
      all_append IsFormed (switch_of n o.domain) (switches_from (suc n) os) (one_formed n o o.domain (let e : 0 + n ≡ n = omega arith in subst (λ m. slice_get p.globals m ≡ Some o.global) e (there 0 o refl)) h.0.switch)
      (from_formed (suc n) os (λ i x q. let e : suc i + n ≡ i + suc n = omega arith in subst (λ m. slice_get p.globals m ≡ Some x.global) e (there (suc i) x q)) h.1)

  integer_at : (ss : List Switch) (s : ℕ) → AllByRecursion IsFormed ss → s < length ss → (x : Switch) × (slice_get ss s ≡ Some x) × IsFormed x
  integer_at [] s h k = absurd (omega (arith, k))
  integer_at (x ∷ xs) zero h k = (x, refl, h.0)
  integer_at (x ∷ xs) (suc s) h k = integer_at xs s h.1 (omega (arith, k))

  integers : AllByRecursion IsFormed p.switches → (s : ℕ) → s < length p.switches → IsIntegerSwitch p s
  integers h s k =
      let x = integer_at p.switches s h k in
      record { switch = x.0; ctype = x.2.ctype; there = x.1; global = x.2.there; integer = x.2.integer }

-- what is so of the objects is so of the program
pub program_formed : (c : Contents) (pointers : List ℕ) (main : ℕ) → AreFormed c → HasFormedGlobals (program_of c pointers main)
unfolding program_of
program_formed c pointers main h =
    let p : Program = program_of c pointers main in
    let there : AreThere p 0 c.objects = λ i o q. let e : i ≡ i + 0 = omega arith in subst (λ m. slice_get (map (λ (o : Object). o.global) c.objects) m ≡ Some o.global) e (mapped_there (λ (o : Object). o.global) c.objects i o q) in
    let switches : AllByRecursion (IsFormed p) (switches_from 0 c.objects) = from_formed p 0 c.objects there h in
    record {
      words = All-from_recursion (λ (g : Global). HasWord g.size) (map (λ (o : Object). o.global) c.objects)
          (all_mapped (λ (g : Global). HasWord g.size) (λ (o : Object). o.global) c.objects (all_more IsFormedObject (λ o. HasWord o.global.size) (λ o f. f.sized) c.objects h));
      globals = All-from_recursion IsWellFormedGlobal (map (λ (o : Object). o.global) c.objects)
          (all_mapped IsWellFormedGlobal (λ (o : Object). o.global) c.objects (all_more IsFormedObject (λ o. IsWellFormedGlobal o.global) global_formed c.objects h));
      switches = All-from_recursion (IsWellFormedSwitch p) (switches_from 0 c.objects) (all_more (IsFormed p) (IsWellFormedSwitch p) (λ s f. f.formed) (switches_from 0 c.objects) switches);
      integers = integers p switches;
    }
