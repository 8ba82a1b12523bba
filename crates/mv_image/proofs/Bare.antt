-- A program without tables fits the format.
use Rattle.std.proofs.Common.{◌≡◌, ℕ, ◌+◌, ◌*◌, ◌%◌, ◌<◌, ◌≤◌, List, [], length, inr, refl, arith}
use Rattle.mv_descriptors.specs.declared.rows.SwitchRow.{SwitchRow}
use Rattle.mv_descriptors.specs.declared.rows.FunctionRow.{FunctionRow}
use Rattle.mv_descriptors.specs.declared.rows.VariantRow.{VariantRow}
use Rattle.mv_descriptors.specs.declared.rows.GuardRow.{GuardRow}
use Rattle.mv_descriptors.specs.declared.rows.SiteRow.{SiteRow}
use Rattle.mv_descriptors.specs.declared.rows.PointerRow.{PointerRow}
use Rattle.mv_descriptors.specs.declared.rows.PointRow.{PointRow}
use Rattle.mv_descriptors.specs.declared.rows.TargetRow.{TargetRow}
use Rattle.mv_image.specs.Spelling.{bare}
use Rattle.mv_image.specs.Format.{FitsFormat}

-- what is asked of a program without tables
pub record IsBare (e : ℕ) (t g : List ℕ) : Type 0 where
  pub aligned : e % 4 ≡ 0
  pub not_before : 4096 ≤ e
  pub within : e < 4096 + 4 * length t
  pub text : length t ≤ 131072
  pub globals : length g ≤ 262144

pub bare_fits : (e : ℕ) (t g : List ℕ) → IsBare e t g → FitsFormat (bare e t g)
bare_fits e t g b = record {
  version = record { known = inr refl; first = λ e. record { pointers = refl; points = refl; targets = refl; check = refl } };
  limits = record {
    some_text = omega (arith, b.not_before, b.within);
    text = b.text;
    globals = b.globals;
    switches = omega arith;
    functions = omega arith;
    variants = omega arith;
    guards = omega arith;
    sites = omega arith;
    pointers = omega arith;
    points = omega arith;
    places = omega arith;
    targets = omega arith;
    entry = record { aligned = b.aligned; not_before = b.not_before; within = b.within };
  };
  check = record { none = λ none. refl; check = λ some. absurd (omega (arith, some)); depth = λ some. absurd (omega (arith, some)) };
  fit = record {
    switches = λ k d lt. absurd (omega (arith, lt));
    functions = λ k d lt. absurd (omega (arith, lt));
    variants = λ k d lt. absurd (omega (arith, lt));
    guards = λ f v k d x own. absurd (omega (arith, own.guard_there));
    sites = λ k d lt. absurd (omega (arith, lt));
    pointers = λ k d lt. absurd (omega (arith, lt));
    points = λ k d lt. absurd (omega (arith, lt));
    targets = λ k d lt. absurd (omega (arith, lt));
  };
  unused = record {
    switches = λ k d lt. absurd (omega (arith, lt));
    functions = λ k d lt. absurd (omega (arith, lt));
    variants = λ k d lt. absurd (omega (arith, lt));
  };
  sums = record { variants = refl; guards = refl };
  apart = record {
    entries = λ k d lt. absurd (omega (arith, lt));
    sites = λ k d lt. absurd (omega (arith, lt));
    outside = λ f k d x hf hk. absurd (omega (arith, hf));
    points = λ k d lt. absurd (omega (arith, lt));
    outside_points = λ f k d x hf hk. absurd (omega (arith, hf));
    beside_points = λ j k d x hj hk. absurd (omega (arith, hj));
    targets = λ k d lt. absurd (omega (arith, lt));
  };
  names = record { identifiers = λ k d lt. absurd (omega (arith, lt)); lengths = refl };
}

-- what is made of lists that are empty
pub bare_is : (e : ℕ) (t g : List ℕ) (s : List SwitchRow) (f : List FunctionRow) (v : List VariantRow) (u : List GuardRow) (i : List SiteRow) (p : List PointerRow) (q : List PointRow) (o : List TargetRow) (n : List (List ℕ))
    → s ≡ [] → f ≡ [] → v ≡ [] → u ≡ [] → i ≡ [] → p ≡ [] → q ≡ [] → o ≡ [] → n ≡ []
    → record { version = 2; entry = e; text = t; globals = g; switches = s; functions = f; variants = v; guards = u; sites = i; pointers = p; points = q; targets = o; check = 0; names = n } ≡ bare e t g
bare_is e t g s f v u i p q o n es ef ev eu ei ep eq eo en = rw (es, ef, ev, eu, ei, ep, eq, eo, en) refl
