-- The parameters of a function that is defined are its next locals, which are scalars.
use Rattle.std.proofs.Common.{◌≡◌, ℕ, suc, ◌+◌, arith, refl, sym, ◌∙◌, ap, Bool, List, [], ◌∷◌, ◌++◌, length, Option, Some, None}
use Rattle.std.specs.List.{AllByRecursion}
use Rattle.std.proofs.lemmas.List.{append_assoc, append-nil, length-append}
use Rattle.mv_syntax.specs.declared.place.Place.{Place}
use Rattle.mv_ast.specs.declared.program.CType.{CType}
use Rattle.mv_ast.specs.declared.program.Local.{Local}
use Rattle.mv_syntax.specs.declared.unit.Param.{Param}
use Rattle.mv_check_scope.specs.declared.scope.Scope.{Scope}
use Rattle.mv_check_scope.specs.Conversions.{is_void}
use Rattle.mv_check_declarations.specs.declared.attributes.Position.TheVariants as position
use Rattle.mv_check_declarations.specs.declared.declarators.Entity.{Entity}
use Rattle.mv_check_declarations.specs.declared.declarators.Entity.TheVariants as entity
use Rattle.mv_check_declarations.specs.Attributes.{attributes, nothing_holds}
use Rattle.mv_check_declarations.specs.Declarators.{designated, is_taken_by}
use Rattle.mv_check_declarations.specs.Objects.{scalar}
use Rattle.mv_check_declarations.specs.Parameters.{named_parameter, defined_parameter, new_defined, parameter_judgement, parameters_judgement}
use Rattle.mv_check_declarations.specs.Specifiers.{specifiers}
use Rattle.mv_accepts.proofs.OfStatements.Judging.{IfGood, if_any, if_then, if_kept, if_more, if_through}
use Rattle.mv_accepts.proofs.OfStatements.Specified.{Specifies, specifiers_specify}
use Rattle.mv_accepts.proofs.OfStatements.Designated.{IsListedEntity, Designates, shape_designates}
use Rattle.mv_accepts.proofs.OfStatements.Property.{Passage}
use Rattle.mv_accepts.proofs.OfStatements.Leading.{Leads, leads_here, leads_more, leads_joined, leads_renamed, leads_enumerated}
use Rattle.mv_accepts.proofs.OfStatements.Declared.{scalar_leads}
use Rattle.mv_accepts.proofs.OfStatements.Lists.{each_any, all_append}

module _ (x : Passage) where
  abbrev To : Scope → Scope → Type 0
  To s t = Leads x s t (Unit {0})

  joined : (s t u : Scope) → To s t → To t u → To s u
  joined s t u h k = leads_joined x s t u (Unit {0}) (Unit {0}) (Unit {0}) (λ a b. tt) h k

  named_leads : (place : Place) (name : Option (List ℕ)) (t : CType) (fixed : Bool) (s : Scope) → IsListedEntity s.signatures (entity.Scalar t fixed) →
      IfGood (named_parameter place name t fixed s) (To s)
  named_leads place None t fixed s h = tt
  named_leads place (Some name) t fixed s h = leads_more x s _ _ (Unit {0}) (λ there. tt) (scalar_leads x name t fixed s h)

  defined_leads : (place : Place) (name : Option (List ℕ)) (e : Entity) (s : Scope) → IsListedEntity s.signatures e → IfGood (defined_parameter place name e s) (To s)
  defined_leads place name (entity.Scalar t fixed) s h = if_kept (To s) (is_void t) place 8 (named_parameter place name t fixed s) (λ q. named_leads place name t fixed s h)
  defined_leads place name (entity.Array t fixed size) s h = tt
  defined_leads place name (entity.Function g) s h = tt

  new_leads : (place : Place) (name : Option (List ℕ)) (e : Entity) (s : Scope) → IsListedEntity s.signatures e → IfGood (new_defined place name e s) (To s)
  unfolding new_defined
  new_leads place name e s h = if_kept (To s) (is_taken_by s name) place 2 (defined_parameter place name e s) (λ q. defined_leads place name e s h)

  parameter_leads : (p : Param) (s : Scope) → IfGood (parameter_judgement p s) (To s)
  parameter_leads p s =
      if_then (Specifies s) (To s) (specifiers position.Parameter [] p.specs s) _ (specifiers_specify position.Parameter [] p.specs s) (λ b g.
      if_then (Designates b.0) (To s) (designated p.name.shape b.1.ctype b.1.fixed b.0) _ (shape_designates p.name.shape b.1.ctype b.1.fixed b.0 g.plain) (λ e h.
      let given = attributes nothing_holds None e.0 p.name.marks b.1.attribute in
      if_then (λ a. Unit {0}) (To s) given _ (if_any given) (λ a u.
      if_more (To e.0) (To s) (new_defined p.name.place p.name.name e.1 e.0)
      (λ t k. joined s b.0 t (leads_enumerated x s b.0 g.enumerates) (joined b.0 e.0 t (leads_renamed x b.0 e.0 h.declares.grows h.names) k))
      (new_leads p.name.place p.name.name e.1 e.0 h.listed))))

  pub parameters_lead : (params : List Param) (s : Scope) → IfGood (parameters_judgement s params) (To s)
  parameters_lead params s =
      if_through parameter_judgement To (λ p. Unit {0}) (λ t. leads_here x t (Unit {0}) (λ k. tt)) joined (λ p u t. parameter_leads p t) params (each_any params) s

-- ---- how many they are

abbrev pub IsScalar : Local → Type 0
IsScalar l = l.size ≡ None

abbrev pub Adds : ℕ → Scope → Scope → Type 0
Adds n s t = (more : List Local) × (t.locals ≡ s.locals ++ more) × (length more ≡ n) × AllByRecursion IsScalar more

adds_after : (s t u : Scope) → t.locals ≡ s.locals → Adds 1 t u → Adds 1 s u
adds_after s t u q h = (h.0, h.1 ∙ ap (λ ls. ls ++ h.0) q, h.2, h.3)

named_adds : (place : Place) (name : Option (List ℕ)) (t : CType) (fixed : Bool) (s : Scope) → IfGood (named_parameter place name t fixed s) (Adds 1 s)
named_adds place None t fixed s = tt
named_adds place (Some name) t fixed s = (scalar t ∷ [], refl, refl, (refl, tt))

defined_adds : (place : Place) (name : Option (List ℕ)) (e : Entity) (s : Scope) → IfGood (defined_parameter place name e s) (Adds 1 s)
defined_adds place name (entity.Scalar t fixed) s = if_kept (Adds 1 s) (is_void t) place 8 (named_parameter place name t fixed s) (λ q. named_adds place name t fixed s)
defined_adds place name (entity.Array t fixed size) s = tt
defined_adds place name (entity.Function g) s = tt

new_adds : (place : Place) (name : Option (List ℕ)) (e : Entity) (s : Scope) → IfGood (new_defined place name e s) (Adds 1 s)
unfolding new_defined
new_adds place name e s = if_kept (Adds 1 s) (is_taken_by s name) place 2 (defined_parameter place name e s) (λ q. defined_adds place name e s)

parameter_adds : (p : Param) (s : Scope) → IfGood (parameter_judgement p s) (Adds 1 s)
parameter_adds p s =
    if_then (Specifies s) (Adds 1 s) (specifiers position.Parameter [] p.specs s) _ (specifiers_specify position.Parameter [] p.specs s) (λ b g.
    if_then (Designates b.0) (Adds 1 s) (designated p.name.shape b.1.ctype b.1.fixed b.0) _ (shape_designates p.name.shape b.1.ctype b.1.fixed b.0 g.plain) (λ e h.
    let given = attributes nothing_holds None e.0 p.name.marks b.1.attribute in
    if_then (λ a. Unit {0}) (Adds 1 s) given _ (if_any given) (λ a u.
    if_more (Adds 1 e.0) (Adds 1 s) (new_defined p.name.place p.name.name e.1 e.0)
    (λ t k. adds_after s e.0 t (h.declares.same ∙ g.enumerates.declares.same) k) (new_adds p.name.place p.name.name e.1 e.0))))

one_more : (n : ℕ) (s t u : Scope) → Adds 1 s t → Adds n t u → Adds (suc n) s u
one_more n s t u h k = (
  h.0 ++ k.0,
  k.1 ∙ (ap (λ ls. ls ++ k.0) h.1 ∙ append_assoc s.locals h.0 k.0),
  length-append h.0 k.0 ∙ (ap (λ m. m + length k.0) h.2 ∙ (ap (λ m. 1 + m) k.2 ∙ omega arith)),
  all_append IsScalar h.0 k.0 h.3 k.3,
)

pub parameters_add : (params : List Param) (s : Scope) → IfGood (parameters_judgement s params) (Adds (length params) s)
parameters_add [] s = ([], sym (append-nil s.locals), refl, tt)
parameters_add (p ∷ ps) s =
    if_then (Adds 1 s) (Adds (suc (length ps)) s) (parameter_judgement p s) _ (parameter_adds p s) (λ t h.
    if_more (Adds (length ps) t) (Adds (suc (length ps)) s) (parameters_judgement t ps) (λ u k. one_more (length ps) s t u h k) (parameters_add ps t))
