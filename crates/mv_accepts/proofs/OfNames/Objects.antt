-- Contents stay sound where an object is declared.
use Rattle.std.proofs.Common.{◌≡◌, ℕ, ◌⊎◌, inl, inr, refl, sym, ◌∙◌, ap, subst, Bool, is_some, List, [], ◌∷◌, ◌++◌, length, Option, Some, None, slice_get, slice_set}
use Rattle.std.proofs.lemmas.Option.{same_Some}
use Rattle.mv_ast.specs.declared.program.Local.{Local}
use Rattle.mv_syntax.specs.declared.unit.Declarator.{Declarator}
use Rattle.mv_check_scope.specs.declared.meaning.Meaning.{Meaning}
use Rattle.mv_check_scope.specs.declared.meaning.Storage.TheVariants as storage
use Rattle.mv_check_scope.specs.declared.scope.Scope.{Scope}
use Rattle.mv_check_scope.specs.Scoped.{declared}
use Rattle.mv_check_scope.specs.Spaces.{named}
use Rattle.mv_check_scope.proofs.BoundNames.{names_kept}
use Rattle.mv_accepts.specs.Expressions.Soundness.{IsListed}
use Rattle.mv_accepts.proofs.OfStatements.Judging.{IfGood, if_any, if_then}
use Rattle.mv_accepts.proofs.OfStatements.Places.{keeps_same, keeps_more}
use Rattle.mv_types.specs.declared.contents.Contents.{Contents}
use Rattle.mv_types.specs.declared.contents.Foreknown.{Foreknown}
use Rattle.mv_types.specs.declared.contents.Object.{Object}
use Rattle.mv_types.specs.Objects.{number_of, object_words, object_meaning, object_scope, new_object, again, replaced, objects_again, objects_behind, object_judgement}
use Rattle.mv_accepts.specs.Names.Declared.{IsStill, IsGlobal, IsDeclared}
use Rattle.mv_accepts.proofs.OfNames.Lists.{set_before}
use Rattle.mv_accepts.proofs.OfNames.Named.{names_behind}
use Rattle.mv_accepts.proofs.OfNames.Extending.{To, IsLike, like_sound, still_same}
use Rattle.mv_num.proofs.Lists.{set_there, last_there}

-- ---- a new object

module _ (k : Foreknown) (c : Contents) (name : List ℕ) (l : Local) (words : List ℕ) (given : Bool) (domain : Option (List ℕ)) (listed : IsListed c.scope.signatures l.ctype) where
  abbrev new : Object
  new = new_object name l words given domain

  abbrev meant : Meaning
  meant = object_meaning k name (length c.objects) l l.size

  abbrev with_it : Contents
  with_it = record c { scope = declared c.scope name meant; objects = c.objects ++ new ∷ [] }

  abbrev it : IsGlobal with_it (storage.Global (length c.objects)) l.ctype
  it = record { number = length c.objects; object = new; global = refl; there = last_there c.objects new; ctype = refl; listed = listed }

  is_declared : (size : Option ℕ) → l.size ≡ size → IsDeclared k with_it name (object_meaning k name (length c.objects) l size)
  is_declared None q = (it, q, refl)
  is_declared (Some n) q = (it, n, q)

  new_like : IsLike k c with_it
  new_like = record {
    extends = record {
      signatures = keeps_same c.scope.signatures;
      objects = λ n o h. still_same o (c.objects ++ new ∷ []) n (keeps_more c.objects (new ∷ []) n o h);
      functions = λ g f h. h;
      names = λ n m h. names_kept n c.scope.names.here (name, meant) m h;
    };
    around = refl;
    locals = refl;
    results = λ h. h;
    functions = refl;
    names = λ n m q. by n m (names_behind n c.scope.names.here name meant m q);
  }
    where
      by : (n : List ℕ) (m : Meaning) → (named n c.scope.names.here ≡ Some m) ⊎ ((n ≡ name) × (meant ≡ m)) → (named n c.scope.names.here ≡ Some m) ⊎ IsDeclared k with_it n m
      by n m (inl q) = inl q
      by n m (inr q) = inr (subst (λ x. IsDeclared k with_it x m) (sym q.0) (subst (λ x. IsDeclared k with_it name x) q.1 (is_declared l.size refl)))

-- ---- an object that is declared again

module _ (objects : List Object) (words : List ℕ) (given : Bool) (domain : Option (List ℕ)) where
  abbrev other : Object → Object
  other o = again o words given domain

  one_still : (n i : ℕ) (y o : Object) → slice_get objects n ≡ Some y → slice_get objects i ≡ Some o →
      (slice_get (slice_set objects n (other y)) i ≡ Some o) ⊎ (i ≡ n) → IsStill o.global (slice_set objects n (other y)) i
  one_still n i y o there h (inl q) = still_same o (slice_set objects n (other y)) i q
  one_still n i y o there h (inr q) =
      let same : y ≡ o = same_Some y o (sym there ∙ (ap (λ j. slice_get objects j) (sym q) ∙ h)) in
      record {
        object = other y;
        there = ap (λ j. slice_get (slice_set objects n (other y)) j) q ∙ set_there objects n y (other y) there;
        name = ap (λ (z : Object). z.global.name) same;
        ctype = ap (λ (z : Object). z.global.ctype) same;
        size = ap (λ (z : Object). z.global.size) same;
      }

  replaced_still : (n i : ℕ) (x : Option Object) (o : Object) → slice_get objects n ≡ x → slice_get objects i ≡ Some o →
      IsStill o.global (replaced objects n x words given domain) i
  replaced_still n i None o there h = still_same o objects i h
  replaced_still n i (Some y) o there h = one_still n i y o there h (set_before objects n i (other y) o h)

  again_still : (number : Option ℕ) (i : ℕ) (o : Object) → slice_get objects i ≡ Some o → IsStill o.global (objects_again objects number words given domain) i
  again_still None i o h = still_same o objects i h
  again_still (Some n) i o h = replaced_still n i (slice_get objects n) o refl h

again_like : (k : Foreknown) (c : Contents) (number : Option ℕ) (words : List ℕ) (given : Bool) (domain : Option (List ℕ)) →
    IsLike k c (record c { scope = c.scope; objects = objects_again c.objects number words given domain })
again_like k c number words given domain = record {
  extends = record {
    signatures = keeps_same c.scope.signatures;
    objects = λ n o h. again_still c.objects words given domain number n o h;
    functions = λ g f h. h;
    names = λ n m h. h;
  };
  around = refl;
  locals = refl;
  results = λ h. h;
  functions = refl;
  names = λ n m q. inl q;
}

-- ---- both

behind_like : (k : Foreknown) (c : Contents) (name : List ℕ) (before : Option Meaning) (l : Local) (words : List ℕ) (given : Bool) (domain : Option (List ℕ)) →
    IsListed c.scope.signatures l.ctype →
    IsLike k c (record c { scope = object_scope k name before l (length c.objects) c.scope; objects = objects_behind c.objects name before l words given domain })
unfolding object_scope objects_behind
behind_like k c name None l words given domain listed = new_like k c name l words given domain listed
behind_like k c name (Some m) l words given domain listed = again_like k c (number_of m) words given domain

pub object_sound : (k : Foreknown) (d : Declarator) (name : List ℕ) (l : Local) (domain : Option (List ℕ)) (block : Bool) (c : Contents) →
    IsListed c.scope.signatures l.ctype → IfGood (object_judgement k d name l domain block c) (To k c)
unfolding object_judgement
object_sound k d name l domain block c listed =
    let before : Option Meaning = named name c.scope.names.here in
    let s : Scope = object_scope k name before l (length c.objects) c.scope in
    let words = object_words d before c.objects l domain block s in
    if_then (λ ws. Unit {0}) (To k c) words _ (if_any words) (λ ws u.
    like_sound k c (record c { scope = s; objects = objects_behind c.objects name before l ws (is_some d.initial) domain })
    (behind_like k c name before l ws (is_some d.initial) domain listed))
