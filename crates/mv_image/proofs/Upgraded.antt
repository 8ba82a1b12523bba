-- An image that fits the format fits it in version 2, and so do parts that are the image's.
use Rattle.std.proofs.Common.{◌≡◌, ℕ, List, inr, refl}
use Rattle.mv_descriptors.specs.declared.rows.SwitchRow.{SwitchRow}
use Rattle.mv_descriptors.specs.declared.rows.FunctionRow.{FunctionRow}
use Rattle.mv_descriptors.specs.declared.rows.VariantRow.{VariantRow}
use Rattle.mv_descriptors.specs.declared.rows.GuardRow.{GuardRow}
use Rattle.mv_descriptors.specs.declared.rows.SiteRow.{SiteRow}
use Rattle.mv_descriptors.specs.declared.rows.PointerRow.{PointerRow}
use Rattle.mv_descriptors.specs.declared.rows.PointRow.{PointRow}
use Rattle.mv_descriptors.specs.declared.rows.TargetRow.{TargetRow}
use Rattle.mv_image.specs.Spelling.{Fields}
use Rattle.mv_image.specs.Versions.{versioned, upgraded}
use Rattle.mv_image.specs.WellFormed.{IsInText, IsInData}
use Rattle.mv_image.specs.Format.{IsGuardOf, RowsFit, FitsFormat}

in_text : (a : Fields) (x : ℕ) → IsInText a x → IsInText (upgraded a) x
in_text a x there = record { aligned = there.aligned; not_before = there.not_before; within = there.within }

in_data : (a : Fields) (x : ℕ) → IsInData a x → IsInData (upgraded a) x
in_data a x there = record { aligned = there.aligned; not_before = there.not_before; within = there.within }

rows_fit : (a : Fields) → RowsFit a → RowsFit (upgraded a)
rows_fit a fit = record {
  switches = λ k d lt. (let row = fit.switches k d lt in record { named = row.named; name = row.name; address = in_data a _ row.address; some = row.some; count = row.count; values = row.values });
  functions = λ k d lt. (let row = fit.functions k d lt in
      record {
        named = row.named;
        name = row.name;
        entry = in_text a _ row.entry;
        count = row.count;
        switches = row.switches;
        ascend = row.ascend;
        some = row.some;
        variants = row.variants;
      });
  variants = λ k d lt. (let row = fit.variants k d lt in record { address = in_text a _ row.address; inlined = row.inlined; some = row.some; guards = row.guards });
  guards = λ f v g d e own. (
      let of : IsGuardOf a f v g = record {
        function_there = own.function_there;
        variant_there = own.variant_there;
        guard_there = own.guard_there;
        first_variant = own.first_variant;
        last_variant = own.last_variant;
        first_guard = own.first_guard;
        last_guard = own.last_guard;
      } in
      let row = fit.guards f v g d e of in
      record { low = row.low; high = row.high; ordered = row.ordered; low_unused = row.low_unused; high_unused = row.high_unused });
  sites = λ k d lt. (let row = fit.sites k d lt in record { address = in_text a _ row.address; next = in_text a _ row.next; function = row.function; call = row.call; pad = row.pad });
  pointers = λ k d lt. (let row = fit.pointers k d lt in record { named = row.named; name = row.name; address = in_data a _ row.address });
  points = λ k d lt. (let row = fit.points k d lt in record { address = in_text a _ row.address; last = in_text a _ row.last; pointer = row.pointer; slot = row.slot });
  targets = λ k d lt. (let row = fit.targets k d lt in record { named = row.named; name = row.name; entry = in_text a _ row.entry });
}

pub upgraded_fits : (a : Fields) → FitsFormat a → FitsFormat (upgraded a)
upgraded_fits a h = record {
  version = record { known = inr refl; first = λ e. absurd cc };
  limits = record {
    some_text = h.limits.some_text;
    text = h.limits.text;
    globals = h.limits.globals;
    switches = h.limits.switches;
    functions = h.limits.functions;
    variants = h.limits.variants;
    guards = h.limits.guards;
    sites = h.limits.sites;
    pointers = h.limits.pointers;
    points = h.limits.points;
    places = h.limits.places;
    targets = h.limits.targets;
    entry = in_text a _ h.limits.entry;
  };
  check = record { none = h.check.none; check = λ some. in_text a _ (h.check.check some); depth = λ some. in_text a _ (h.check.depth some) };
  fit = rows_fit a h.fit;
  unused = record { switches = h.unused.switches; functions = h.unused.functions; variants = h.unused.variants };
  sums = record { variants = h.sums.variants; guards = h.sums.guards };
  apart = record {
    entries = h.apart.entries;
    sites = h.apart.sites;
    outside = h.apart.outside;
    points = h.apart.points;
    outside_points = h.apart.outside_points;
    beside_points = h.apart.beside_points;
    targets = h.apart.targets;
  };
  names = record { identifiers = h.names.identifiers; lengths = h.names.lengths };
}

-- parts that are an image's
pub parts_fit : (version : ℕ) (image : Fields) (entry : ℕ) (text globals : List ℕ) (switches : List SwitchRow) (functions : List FunctionRow) (variants : List VariantRow) (guards : List GuardRow) (sites : List SiteRow)
    (pointers : List PointerRow) (points : List PointRow) (targets : List TargetRow) (check : ℕ) (names : List (List ℕ))
    → entry ≡ image.entry → text ≡ image.text → globals ≡ image.globals → switches ≡ image.switches → functions ≡ image.functions → variants ≡ image.variants → guards ≡ image.guards → sites ≡ image.sites
    → pointers ≡ image.pointers → points ≡ image.points → targets ≡ image.targets → check ≡ image.check → names ≡ image.names → FitsFormat (versioned version image)
    → FitsFormat (record {
      version = version;
      entry = entry;
      text = text;
      globals = globals;
      switches = switches;
      functions = functions;
      variants = variants;
      guards = guards;
      sites = sites;
      pointers = pointers;
      points = points;
      targets = targets;
      check = check;
      names = names;
    })
parts_fit version image entry text globals switches functions variants guards sites pointers points targets check names e t g s f v u w p q o c n fits = rw (e, t, g, s, f, v, u, w, p, q, o, c, n) fits
