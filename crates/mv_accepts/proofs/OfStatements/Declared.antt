-- Declarations in a block lead to a scope that has their locals, and their statements have a property.
use Rattle.std.proofs.Common.{◌≡◌, ℕ, ◌⊎◌, inl, inr, refl, sym, subst, Bool, true, false, is_some, unwrap_or, List, [], ◌∷◌, ◌++◌, length, map, Option, Some, None, slice_get}
use Rattle.std.specs.List.{AllByRecursion}
use Rattle.mv_ast.specs.declared.program.CType.{CType}
use Rattle.mv_ast.specs.declared.program.Expr.{Expr}
use Rattle.mv_ast.specs.declared.program.Local.{Local}
use Rattle.mv_ast.specs.declared.program.Stmt.{Stmt}
use Rattle.mv_ast.specs.declared.program.Stmt.TheVariants as stmt
use Rattle.mv_syntax.specs.declared.unit.Declarator.{Declarator}
use Rattle.mv_syntax.specs.declared.unit.Specs.{Specs}
use Rattle.mv_check_scope.specs.declared.meaning.Meaning.{Meaning}
use Rattle.mv_check_scope.specs.declared.scope.Scope.{Scope}
use Rattle.mv_check_scope.specs.Scoped.{meaning_of, declared, with_local}
use Rattle.mv_check_expressions.specs.Judged.{Good}
use Rattle.mv_check_declarations.specs.declared.attributes.Position.TheVariants as position
use Rattle.mv_check_declarations.specs.declared.declarators.Entity.{Entity}
use Rattle.mv_check_declarations.specs.declared.declarators.Entity.TheVariants as entity
use Rattle.mv_check_declarations.specs.Attributes.{attributes, nothing_holds}
use Rattle.mv_check_declarations.specs.Declarators.{is_taken_by, designated}
use Rattle.mv_check_declarations.specs.Initials.{array_size, plain_values}
use Rattle.mv_check_declarations.specs.Locals.{scalar_meaning, array_meaning, own_scope, local_values, object, by_entity, local, locals_judgement}
use Rattle.mv_check_declarations.specs.Objects.{scalar, array}
use Rattle.mv_check_declarations.specs.Specifiers.{specifiers}
use Rattle.mv_check_declarations.specs.Turns.{Behind, next_part, in_turn}
use Rattle.mv_source_forms.specs.Typing.{local_types}
use Rattle.mv_accepts.specs.Expressions.Soundness.{IsListed, IsMeant}
use Rattle.mv_accepts.proofs.OfExpressions.Plain.{IsPlain}
use Rattle.mv_accepts.proofs.OfStatements.Judging.{IfGood, by_good, of_good, if_any, if_then, if_more, if_through}
use Rattle.mv_accepts.proofs.OfStatements.Names.{declared_means}
use Rattle.mv_accepts.proofs.OfStatements.Growing.{grows_joined, grows_declared, grows_local}
use Rattle.mv_accepts.proofs.OfStatements.Specified.{Specifies, specifiers_specify}
use Rattle.mv_accepts.proofs.OfStatements.Designated.{IsListedEntity, Designates, shape_designates}
use Rattle.mv_accepts.proofs.OfStatements.Property.{MeansLocal, Passage}
use Rattle.mv_accepts.specs.Statements.Bodies.{Grows}
use Rattle.mv_accepts.proofs.OfStatements.Leading.{IsWithin, Leads, leads_here, leads_more, leads_joined, leads_renamed, leads_enumerated, later}
use Rattle.mv_accepts.proofs.OfStatements.Lists.{mapped_there}
use Rattle.mv_accepts.proofs.OfStatements.Values.{values_new}
use Rattle.mv_num.proofs.Lists.{last_there}

module _ (x : Passage) where
  open x use {function as f}

  -- ---- a local under a name

  new_leads : (s : Scope) (name : List ℕ) (l : Local) (m : Meaning) →
      (slice_get f.locals (length s.locals) ≡ Some l → IsMeant x.program f s.signatures m × x.of_name m) →
      Leads x s (declared (with_local s l) name m) (slice_get f.locals (length s.locals) ≡ Some l)
  new_leads s name l m h =
      let t : Scope = with_local s l in
      let u : Scope = declared t name m in
      let grows : Grows s u = grows_joined s t u (grows_local s l) (grows_declared t name m) in
      let there : IsWithin x u → slice_get f.locals (length s.locals) ≡ Some l = λ w. w.locals (length s.locals) l (last_there s.locals l) in
      record { grows = grows; holds = λ w k. (later x s u grows (means (there w)) w k, there w) }
    where
      either : slice_get f.locals (length s.locals) ≡ Some l → (k : Meaning) (n : List ℕ) → (meaning_of s n ≡ Some k) ⊎ (m ≡ k) →
          (meaning_of s n ≡ Some k) ⊎ (IsMeant x.program f s.signatures k × x.of_name k)
      either w k n (inl q) = inl q
      either w k n (inr q) = inr (subst (λ z. IsMeant x.program f s.signatures z × x.of_name z) q (h w))

      means : slice_get f.locals (length s.locals) ≡ Some l → (n : List ℕ) (k : Meaning) → meaning_of (declared (with_local s l) name m) n ≡ Some k →
          (meaning_of s n ≡ Some k) ⊎ (IsMeant x.program f s.signatures k × x.of_name k)
      means there n k q = either there k n (declared_means (with_local s l) name m n k q)

  -- its type is that of a local
  typed_there : (n : ℕ) (l : Local) → slice_get f.locals n ≡ Some l → slice_get (local_types f) n ≡ Some l.ctype
  typed_there n l h = mapped_there (λ (k : Local). k.ctype) f.locals n l h

  pub scalar_leads : (name : List ℕ) (t : CType) (fixed : Bool) (s : Scope) → IsListed s.signatures t →
      Leads x s (declared (with_local s (scalar t)) name (scalar_meaning (length s.locals) t fixed)) (slice_get f.locals (length s.locals) ≡ Some (scalar t))
  scalar_leads name t fixed s h =
      new_leads s name (scalar t) (scalar_meaning (length s.locals) t fixed)
      (λ there. ((typed_there (length s.locals) (scalar t) there, h), x.scalar_local (length s.locals) t fixed there))

  array_leads : (name : List ℕ) (t : CType) (n : ℕ) (fixed : Bool) (s : Scope) → IsListed s.signatures t →
      Leads x s (declared (with_local s (array t n)) name (array_meaning (length s.locals) t fixed)) (slice_get f.locals (length s.locals) ≡ Some (array t n))
  array_leads name t n fixed s h =
      new_leads s name (array t n) (array_meaning (length s.locals) t fixed)
      (λ there. ((typed_there (length s.locals) (array t n) there, h), x.array_local (length s.locals) t n fixed there))

  -- the name of a local is new
  own_is : (s : Scope) (name : Option (List ℕ)) (l : Local) (m : Meaning) → is_some name ≡ true → is_taken_by s name ≡ false →
      (n : List ℕ) × (own_scope s name l m ≡ declared (with_local s l) n m)
  unfolding own_scope
  own_is s None l m h k = absurd (cc)
  own_is s (Some n) l m h k = (n, rw k refl)

  -- ---- declarations, where a `break` and a `continue` may stand or not

  module _ (b c : Bool) where
    abbrev Lines : Scope → Scope → List Stmt → Type 0
    Lines = x.of_lines b c

    abbrev LeadsToStmt : Scope → Scope × Stmt → Type 0
    LeadsToStmt s d = Leads x s d.0 (Lines s d.0 (d.1 ∷ []))

    -- an object
    object_leads : (s e : Scope) (d : Declarator) (l : Local) (m : Meaning) → e.names ≡ s.names → Leads x s e (Unit {0}) → MeansLocal (length e.locals) l m →
        ((name : List ℕ) → Leads x e (declared (with_local e l) name m) (slice_get f.locals (length e.locals) ≡ Some l)) → IfGood (object d l m e) (LeadsToStmt s)
    object_leads s e d l m names leads means new =
        if_then (λ es. local_values d taken l own ≡ Good es) (LeadsToStmt s) (local_values d taken l own) _
        (by_good (λ es. local_values d taken l own ≡ Good es) (local_values d taken l own) (λ es q. q)) (λ es q. stands es q)
      where
        taken : Bool
        taken = is_taken_by e d.name

        own : Scope
        own = own_scope e d.name l m

        There : Type 0
        There = slice_get f.locals (length e.locals) ≡ Some l

        named : (name : List ℕ) (es : List Expr) → local_values d taken l (declared (with_local e l) name m) ≡ Good es →
            LeadsToStmt s (declared (with_local e l) name m, stmt.Clear (length e.locals) es)
        named name es q =
            let t : Scope = declared (with_local e l) name m in
            leads_joined x s t t There (x.of_values t l es) (Lines s t (stmt.Clear (length e.locals) es ∷ []))
            (λ there vs. x.clear_line b c s e name l m es names means there vs)
            (leads_joined x s e t (Unit {0}) There There (λ u there. there) leads (new name))
            (leads_here x t (x.of_values t l es) (λ k. of_good (x.of_values t l) (local_values d taken l t) (x.initials t k d taken l) es q))

        stands : (es : List Expr) → local_values d taken l own ≡ Good es → LeadsToStmt s (own, stmt.Clear (length e.locals) es)
        stands es q =
            let n = of_good (λ fs. (is_some d.name ≡ true) × (taken ≡ false)) (local_values d taken l own) (values_new d taken l own) es q in
            let is = own_is e d.name l m n.0 n.1 in
            subst (λ z. LeadsToStmt s (z, stmt.Clear (length e.locals) es)) (sym is.1)
            (named is.0 es (subst (λ z. local_values d taken l z ≡ Good es) is.1 q))

    entity_leads : (s e : Scope) (d : Declarator) (y : Entity) → e.names ≡ s.names → Leads x s e (Unit {0}) → IsListedEntity e.signatures y →
        IfGood (by_entity d y e) (LeadsToStmt s)
    entity_leads s e d (entity.Scalar t fixed) names leads h =
        object_leads s e d (scalar t) (scalar_meaning (length e.locals) t fixed) names leads (fixed, inl refl) (λ name. scalar_leads name t fixed e h)
    entity_leads s e d (entity.Array t fixed size) names leads h =
        let n = unwrap_or (array_size size d.initial) 0 in
        object_leads s e d (array t n) (array_meaning (length e.locals) t fixed) names leads (fixed, inr refl) (λ name. array_leads name t n fixed e h)
    entity_leads s e d (entity.Function g) names leads h =
        if_then (λ y. Unit {0}) (LeadsToStmt s) (plain_values d.initial e) _ (if_any (plain_values d.initial e)) (λ y u. tt)

    abbrev PartLeads : (Scope → Behind Stmt) → Type 0
    PartLeads part = (s : Scope) → IfGood (part s) (LeadsToStmt s)

    declarator_leads : (t : CType) (fixed : Bool) → IsPlain t → (d : Declarator) → PartLeads (local t fixed d)
    declarator_leads t fixed plain d s =
        if_then (Designates s) (LeadsToStmt s) (designated d.shape t fixed s) _ (shape_designates d.shape t fixed s plain) (λ e g.
        let given = attributes nothing_holds None e.0 d.marks None in
        if_then (λ a. Unit {0}) (LeadsToStmt s) given _ (if_any given) (λ a u.
        entity_leads s e.0 d e.1 g.names (leads_renamed x s e.0 g.declares.grows g.names) g.listed))

    -- lines behind others
    abbrev pub LeadsToMore : Scope × List Stmt → Scope × List Stmt → Type 0
    LeadsToMore d e = Leads x d.0 e.0 ((s : Scope) → x.of_lines b c s d.0 d.1 → x.of_lines b c s e.0 e.1)

    pub no_more : (d : Scope × List Stmt) → LeadsToMore d d
    no_more d = leads_here x d.0 ((s : Scope) → Lines s d.0 d.1 → Lines s d.0 d.1) (λ k s h. h)

    pub more_joined : (d e g : Scope × List Stmt) → LeadsToMore d e → LeadsToMore e g → LeadsToMore d g
    more_joined d e g h k =
        leads_joined x d.0 e.0 g.0 ((s : Scope) → Lines s d.0 d.1 → Lines s e.0 e.1) ((s : Scope) → Lines s e.0 e.1 → Lines s g.0 g.1) ((s : Scope) → Lines s d.0 d.1 → Lines s g.0 g.1)
        (λ y z s w. z s (y s w)) h k

    -- more lines behind others
    pub more_leads : (d e : Scope × List Stmt) → Leads x d.0 e.0 (x.of_lines b c d.0 e.0 e.1) → LeadsToMore d (e.0, d.1 ++ e.1)
    more_leads d e h = leads_more x d.0 e.0 (Lines d.0 e.0 e.1) ((s : Scope) → Lines s d.0 d.1 → Lines s e.0 (d.1 ++ e.1)) (λ z s w. x.more_lines b c s d.0 e.0 d.1 e.1 w z) h

    part_leads : (part : Scope → Behind Stmt) → PartLeads part → (d : Scope × List Stmt) → IfGood (next_part part d) (LeadsToMore d)
    part_leads part h d = if_then (LeadsToStmt d.0) (LeadsToMore d) (part d.0) _ (h d.0) (λ e k. more_leads d (e.0, e.1 ∷ []) k)

    parts_lead : (t : CType) (fixed : Bool) → IsPlain t → (names : List Declarator) → AllByRecursion PartLeads (map (local t fixed) names)
    parts_lead t fixed plain [] = tt
    parts_lead t fixed plain (d ∷ ds) = (declarator_leads t fixed plain d, parts_lead t fixed plain ds)

    pub locals_lead : (s : Scope) (specs : Specs) (names : List Declarator) → IfGood (locals_judgement s specs names) (λ d. Leads x s d.0 (x.of_lines b c s d.0 d.1))
    locals_lead s specs names =
        if_then (Specifies s) (λ d. Leads x s d.0 (Lines s d.0 d.1)) (specifiers position.Block names specs s) _ (specifiers_specify position.Block names specs s) (λ e g.
        if_more (LeadsToMore (e.0, [])) (λ d. Leads x s d.0 (Lines s d.0 d.1)) (in_turn (map (local e.1.ctype e.1.fixed) names) (e.0, []))
        (λ d h. leads_joined x s e.0 d.0 (Unit {0}) ((r : Scope) → Lines r e.0 [] → Lines r d.0 d.1) (Lines s d.0 d.1) (λ u z. z s (x.no_lines b c s e.0 g.enumerates)) (leads_enumerated x s e.0 g.enumerates) h)
        (if_through next_part LeadsToMore PartLeads no_more more_joined part_leads (map (local e.1.ctype e.1.fixed) names) (parts_lead e.1.ctype e.1.fixed g.plain names) (e.0, [])))
