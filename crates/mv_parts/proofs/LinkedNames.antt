-- A name in a source is a name for the linker.
use Rattle.std.proofs.Common.{ℕ, List}
use Rattle.mv_source_facts.specs.Facts.{IsName}
use Rattle.mv_source_facts.proofs.Identifiers.{identifiers}
use Rattle.mv_linker.specs.Tables as linker

pub name_fits : (name : List ℕ) → IsName name → linker.IsName name
name_fits name n = record { identifier = identifiers name n; short = n.short }
