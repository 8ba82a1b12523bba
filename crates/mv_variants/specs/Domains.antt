-- The domains of a function's switches, with their kinds.
use Rattle.std.specs.Prelude.{ℕ, ◌≡◌, ◌<◌, ◌^◌, All, List, [], map, Option, Some, None, slice_get}
use Rattle.mv_num.specs.declared.kind.Kind.{Kind}
use Rattle.mv_num.specs.declared.kind.Kind.TheVariants.{Int}
use Rattle.mv_ast.specs.declared.program.CType.{CType}
use Rattle.mv_ast.specs.declared.program.CType.TheVariants.{Scalar}
use Rattle.mv_ast.specs.declared.program.Global.{Global}
use Rattle.mv_ast.specs.declared.program.Function.{Function}
use Rattle.mv_ast.specs.declared.program.Program.{Program}
use Rattle.mv_ast.specs.Switches.{switch_global, switch_domain}
use Rattle.mv_merge.specs.declared.rows.Domain.{Domain}
use Rattle.mv_variants.specs.Bound.Led.{HaveWords}

-- an integer type, and `int` for any other
abbrev pub integer_kind : CType → Kind
integer_kind (Scalar kind) = kind
integer_kind _ = Int

abbrev pub kind_or_int : Option Global → Kind
kind_or_int None = Int
kind_or_int (Some g) = integer_kind g.ctype

-- the kind of a switch: the integer type of its global
abbrev pub switch_kind : Program → ℕ → Kind
switch_kind p s = kind_or_int (slice_get p.globals (switch_global p s))

-- the domain of a switch
abbrev pub domain : Program → ℕ → Domain
domain p s = record { kind = switch_kind p s; values = switch_domain p s }

abbrev pub domains_or_none : Program → Option Function → List Domain
domains_or_none p None = []
domains_or_none p (Some g) = map (domain p) g.switches

-- the domain of each switch of the function with a number, in their order
abbrev pub own_domains : Program → ℕ → List Domain
own_domains p f = domains_or_none p (slice_get p.functions f)

-- this domain, whose values are words
pub record IsDomain (domain is_it : Domain) : Type 0 where
  pub is : is_it ≡ domain
  pub words : All (λ v. v < 2 ^ 32) is_it.values

-- these domains, whose values are words
pub record AreDomainsOf (domains are : List Domain) : Type 0 where
  pub is : are ≡ domains
  pub words : HaveWords are
