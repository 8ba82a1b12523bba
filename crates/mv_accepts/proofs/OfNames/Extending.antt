-- How contents grow, and what stays true of them.
use Rattle.std.proofs.Common.{◌≡◌, ℕ, ◌⊎◌, inl, inr, refl, ◌∙◌, ap, subst, List, length, Some, slice_get}
use Rattle.mv_ast.specs.declared.program.CType.{CType}
use Rattle.mv_ast.specs.declared.program.CType.TheVariants.{Pointer}
use Rattle.mv_ast.specs.declared.program.Function.{Function}
use Rattle.mv_check_scope.specs.declared.meaning.Meaning.{Meaning}
use Rattle.mv_check_scope.specs.declared.meaning.Meaning.TheVariants as meaning
use Rattle.mv_check_scope.specs.declared.meaning.Storage.{Storage}
use Rattle.mv_check_scope.specs.Spaces.{named}
use Rattle.mv_accepts.specs.Statements.Bodies.{AreListed}
use Rattle.mv_accepts.proofs.OfStatements.Places.{keeps_same, keeps_joined, listed_kept}
use Rattle.mv_types.specs.declared.contents.Contents.{Contents}
use Rattle.mv_types.specs.declared.contents.Foreknown.{Foreknown}
use Rattle.mv_types.specs.declared.contents.Object.{Object}
use Rattle.mv_types.specs.Contents.{in_scope}
use Rattle.mv_accepts.specs.Names.Declared.{IsStill, Extends, IsGlobal, IsDeclared, IsDefinition, IsSound}
use Rattle.mv_accepts.specs.Names.Defined.{WasDefined}
use Rattle.mv_accepts.specs.Names.Laws.{IsSoundBehind}

pub still_same : (o : Object) (os : List Object) (n : ℕ) → slice_get os n ≡ Some o → IsStill o.global os n
still_same o os n h = record { object = o; there = h; name = refl; ctype = refl; size = refl }

pub extends_same : (c : Contents) → Extends c c
extends_same c = record {
  signatures = keeps_same c.scope.signatures;
  objects = λ n o h. still_same o c.objects n h;
  functions = λ g f h. h;
  names = λ name m h. h;
}

pub extends_joined : (b c d : Contents) → Extends b c → Extends c d → Extends b d
extends_joined b c d g h = record {
  signatures = keeps_joined b.scope.signatures c.scope.signatures d.scope.signatures g.signatures h.signatures;
  objects = λ n o q. still o n (g.objects n o q);
  functions = λ n f q. h.functions n f (g.functions n f q);
  names = λ name m q. h.names name m (g.names name m q);
}
  where
    still : (o : Object) (n : ℕ) → IsStill o.global c.objects n → IsStill o.global d.objects n
    still o n x =
        let y = h.objects n x.object x.there in
        record { object = y.object; there = y.there; name = y.name ∙ x.name; ctype = y.ctype ∙ x.ctype; size = y.size ∙ x.size }

-- ---- what stays true

abbrev global_kept : (c d : Contents) → Extends c d → (s : Storage) (t : CType) → IsGlobal c s t → IsGlobal d s t
global_kept c d e s t g =
    let x = e.objects g.number g.object g.there in
    record {
      number = g.number;
      object = x.object;
      global = g.global;
      there = x.there;
      ctype = x.ctype ∙ g.ctype;
      listed = listed_kept c.scope.signatures d.scope.signatures e.signatures t g.listed;
    }

pub declared_kept : (k : Foreknown) (c d : Contents) → Extends c d → (name : List ℕ) (m : Meaning) → IsDeclared k c name m → IsDeclared k d name m
declared_kept k c d e name (meaning.Object v) h =
    (global_kept c d e v.storage v.ctype h.0, (e.objects h.0.number h.0.object h.0.there).size ∙ h.1, h.2)
declared_kept k c d e name (meaning.Array a) h =
    (global_kept c d e a.storage a.ctype h.0, h.1, (e.objects h.0.number h.0.object h.0.there).size ∙ h.2)
declared_kept k c d e name (meaning.Function r) h =
    (listed_kept c.scope.signatures d.scope.signatures e.signatures (Pointer r.signature) h.0, h.1, h.2)
declared_kept k c d e name (meaning.Enumerator v) h = tt
declared_kept k c d e name (meaning.Tag n) h = absurd h
declared_kept k c d e name (meaning.Known known) h = absurd h

pub definition_kept : (k : Foreknown) (c d : Contents) → Extends c d → (g : ℕ) (f : Function) → IsDefinition k c g f → IsDefinition k d g f
definition_kept k c d e g f x = record {
  routine = x.routine;
  number = x.number;
  meaning = e.names f.name (meaning.Function x.routine) x.meaning;
  typed = record {
    signature = x.typed.signature;
    there = e.signatures x.routine.signature x.typed.signature x.typed.there;
    result = x.typed.result;
    parameters = x.typed.parameters;
  };
}

pub was_kept : (k : Foreknown) (c d : Contents) → Extends c d → (f : Function) → WasDefined k c f → WasDefined k d f
was_kept k c d e f x = record {
  before = x.before;
  behind = x.behind;
  name = x.name;
  result = x.result;
  params = x.params;
  body = x.body;
  sound = x.sound;
  judged = x.judged;
  extends = extends_joined x.before c d x.extends e;
  extends_behind = extends_joined (in_scope x.before x.behind) c d x.extends_behind e;
}

-- ---- contents from sound ones

abbrev pub To : Foreknown → Contents → Contents → Type 0
To k b c = IsSound k b → IsSoundBehind k b c

module _ (k : Foreknown) where
  pub to_same : (c : Contents) → To k c c
  to_same c s = record { extends = extends_same c; sound = s; defined = λ d. d }

  pub to_joined : (b c d : Contents) → To k b c → To k c d → To k b d
  to_joined b c d h j s =
      let x = h s in
      let y = j x.sound in
      record { extends = extends_joined b c d x.extends y.extends; sound = y.sound; defined = λ w. y.defined (x.defined w) }

-- ---- contents in which no function is defined

-- a name means what it meant, or what the contents have
abbrev pub Named : Foreknown → Contents → Contents → Type 0
Named k c d = (name : List ℕ) (m : Meaning) → named name d.scope.names.here ≡ Some m → (named name c.scope.names.here ≡ Some m) ⊎ IsDeclared k d name m

pub record IsLike (k : Foreknown) (c d : Contents) : Type 0 where
  pub extends : Extends c d
  pub around : d.scope.names.around ≡ c.scope.names.around
  pub locals : d.scope.locals ≡ c.scope.locals
  pub results : AreListed c.scope.signatures → AreListed d.scope.signatures
  pub functions : d.functions ≡ c.functions
  pub names : Named k c d

pub like_sound : (k : Foreknown) (c d : Contents) → IsLike k c d → To k c d
like_sound k c d x s = record {
  extends = x.extends;
  sound = record {
    around = x.around ∙ s.around;
    locals = x.locals ∙ s.locals;
    results = x.results s.results;
    count = ap length x.functions ∙ s.count;
    names = λ name m q. by name m (x.names name m q);
    functions = λ g f q. definition_kept k c d x.extends g f (s.functions g f (there g f q));
  };
  defined = λ h g f q. was_kept k c d x.extends f (h g f (there g f q));
}
  where
    there : (g : ℕ) (f : Function) → slice_get d.functions g ≡ Some (Some f) → slice_get c.functions g ≡ Some (Some f)
    there g f q = subst (λ fs. slice_get fs g ≡ Some (Some f)) x.functions q

    by : (name : List ℕ) (m : Meaning) → (named name c.scope.names.here ≡ Some m) ⊎ IsDeclared k d name m → IsDeclared k d name m
    by name m (inl q) = declared_kept k c d x.extends name m (s.names name m q)
    by name m (inr h) = h
