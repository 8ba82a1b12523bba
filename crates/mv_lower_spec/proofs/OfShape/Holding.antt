-- Sets of globals that hold what is read.
use Rattle.std.proofs.Common.{◌≡◌, ℕ, ◌<◌, Bool, true, false, not, List, [], ◌∷◌, ◌++◌, map, length, refl}
use Rattle.std.specs.Prelude.{◌||◌, nat_eq, slice_get}
use Rattle.std.proofs.lemmas.Bool.{or_left, or_right}
use Rattle.mv_ast.specs.declared.program.Program.{Program}
use Rattle.mv_ast.specs.declared.program.Expr.{Expr}
use Rattle.mv_ast.specs.Names.{any_of}
use Rattle.mv_source_forms.specs.Names.{is_own_switch}
use Rattle.mv_lower_spec.specs.Shape.Reads.{expr_reads, none}
use Rattle.mv_lower_spec.proofs.OfShape.Asked.{Globals}
use Rattle.mv_num.proofs.Booleans.{from_falsity}

-- whether one of some scalars and arrays is read
abbrev pub Reading : Type 0
Reading = (scalar array : ℕ → Bool) → Bool

pub any_left : (xs ys : List Bool) → any_of xs ≡ true → any_of (xs ++ ys) ≡ true
any_left [] ys e = from_falsity e
any_left (true ∷ xs) ys e = refl
any_left (false ∷ xs) ys e = any_left xs ys e

pub any_right : (xs ys : List Bool) → any_of ys ≡ true → any_of (xs ++ ys) ≡ true
any_right [] ys e = e
any_right (x ∷ xs) ys e = or_right x (any_of (xs ++ ys)) (any_right xs ys e)

abbrev pub reads_of : Expr → Reading
reads_of e s a = expr_reads s a e

abbrev pub reads_of_all : List Expr → Reading
reads_of_all es s a = any_of (map (expr_reads s a) es)

module _ (p : Program) (own : ℕ) (globals : Globals) where
  -- which of the program's globals are read, scalars as scalars and arrays as arrays, where these are no switches of the function
  pub record Holds (reads : Reading) : Type 0 where
    pub scalars : (k : ℕ) → k < length p.globals → reads (nat_eq k) none ≡ true → globals.scalars k ≡ true
    pub arrays : (k : ℕ) → k < length p.globals → not (is_own_switch p (slice_get p.functions own) k) ≡ true → reads none (nat_eq k) ≡ true → globals.arrays k ≡ true

  -- what is known of a part of the function, of several, or of one layer
  pub record Good (T : Type 0) (is_named is_declared is_known : Bool) (reads : Reading) : Type 0 where
    pub typed : T
    pub named : is_named ≡ true
    pub declared : is_declared ≡ true
    pub known : is_known ≡ true
    pub held : Holds reads

-- what reads no more is held too
pub holds_within : {p : Program} {own : ℕ} {globals : Globals} (x y : Reading) → ((s a : ℕ → Bool) → x s a ≡ true → y s a ≡ true) → Holds p own globals y → Holds p own globals x
holds_within x y le h = record {
  scalars = λ k lt e. h.scalars k lt (le (nat_eq k) none e);
  arrays = λ k lt n e. h.arrays k lt n (le none (nat_eq k) e);
}

pub holds_left : {p : Program} {own : ℕ} {globals : Globals} (x y : Reading) → Holds p own globals (λ s a. x s a || y s a) → Holds p own globals x
holds_left x y h = holds_within x (λ s a. x s a || y s a) (λ s a e. or_left (x s a) (y s a) e) h

pub holds_right : {p : Program} {own : ℕ} {globals : Globals} (x y : Reading) → Holds p own globals (λ s a. x s a || y s a) → Holds p own globals y
holds_right x y h = holds_within y (λ s a. x s a || y s a) (λ s a e. or_right (x s a) (y s a) e) h

-- these by short names
pub record Held : Type 1 where
  pub Holds : Reading → Type 0
  pub Good : Type 0 → (is_named is_declared is_known : Bool) → Reading → Type 0

abbrev pub held_in : Program → ℕ → Globals → Held
held_in p own globals = record { Holds = Holds p own globals; Good = Good p own globals }
