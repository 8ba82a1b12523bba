-- The same image in another version.
use Rattle.std.specs.Prelude.{ℕ}
use Rattle.mv_image.specs.Spelling.{Fields}

-- the image with a version, and all else the same
abbrev pub versioned : ℕ → Fields → Fields
versioned version image = record {
  version = version;
  entry = image.entry;
  text = image.text;
  globals = image.globals;
  switches = image.switches;
  functions = image.functions;
  variants = image.variants;
  guards = image.guards;
  sites = image.sites;
  pointers = image.pointers;
  points = image.points;
  targets = image.targets;
  check = image.check;
  names = image.names;
}

-- the image in version 2
abbrev pub upgraded : Fields → Fields
upgraded image = versioned 2 image
