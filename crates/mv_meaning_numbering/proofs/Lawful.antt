-- The law, of any program and its numberings.
use Rattle.std.proofs.Common.{ℕ, Bool, true, List, refl, subst, ◌∙◌}
use Rattle.mv_ast.specs.declared.program.CType.{CType}
use Rattle.mv_ast.specs.Worlds.{give}
use Rattle.std.specs.Prelude.{All, IsTrue}
use Rattle.std.specs.Bool.{Decides}
use Rattle.mv_ast.specs.declared.program.Program.{Program}
use Rattle.mv_ast.specs.Numbering.{own_numbers}
use Rattle.mv_meaning.specs.declared.meant.Meant.{Meant}
use Rattle.mv_meaning_numbering.specs.Numberings.{IsNumbering}
use Rattle.mv_source_forms.specs.Typing.{IsTyped}
use Rattle.mv_meaning_numbering.specs.Laws.{MeansItself, StraysDoNotShow, NumbersDoNotShow, AnyNumberingServes, OwnNumberingIsOne, IsTypedEvent, PointersAreLoggedTyped}
use Rattle.mv_meaning_numbering.proofs.Numbers.{numbering_distinguishes, own_distinguishes}
use Rattle.mv_meaning_numbering.proofs.Programs.{same_meaning, typed_log, own_meaning}

-- every function may be reached through a pointer
abbrev pub all_reached : CType → ℕ → ℕ → Bool
all_reached t f n = true

pub no_strays : StraysDoNotShow
no_strays p numbers lets stray typed numbering admits hart input actions bound fit =
    same_meaning
    (record { program = p; ns = numbers; ms = own_numbers p; left = numbering_distinguishes p numbers numbering; right = own_distinguishes p; typed = typed })
    hart input actions fit lets all_reached stray (give 0) admits (λ s f signature e h. refl) bound ∙
    own_meaning p hart input actions bound

pub two_numberings : NumbersDoNotShow
two_numberings p numbers others typed left right hart input actions bound fit =
    same_meaning
    (record { program = p; ns = numbers; ms = others; left = numbering_distinguishes p numbers left; right = numbering_distinguishes p others right; typed = typed })
    hart input actions fit all_reached all_reached (give 0) (give 0) (λ s f signature e h. refl) (λ s f signature e h. refl) bound

pub own_numbering : OwnNumberingIsOne
own_numbering p hart input actions bound = own_meaning p hart input actions bound

pub any_numbering : AnyNumberingServes
any_numbering p numbers typed numbering hart input actions bound fit =
    same_meaning
    (record { program = p; ns = numbers; ms = own_numbers p; left = numbering_distinguishes p numbers numbering; right = own_distinguishes p; typed = typed })
    hart input actions fit all_reached all_reached (give 0) (give 0) (λ s f signature e h. refl) (λ s f signature e h. refl) bound ∙
    own_meaning p hart input actions bound

pub typed_pointers : PointersAreLoggedTyped
typed_pointers p hart input actions bound typed fit =
    subst (λ (m : Meant). All (IsTypedEvent p) m.log) (own_meaning p hart input actions bound)
    (typed_log
    (record { program = p; ns = own_numbers p; ms = own_numbers p; left = own_distinguishes p; right = own_distinguishes p; typed = typed })
    hart input actions fit all_reached all_reached (give 0) (give 0) (λ s f signature e h. refl) (λ s f signature e h. refl) bound)

-- a list of numbers that was found to be a numbering serves
pub found_serves : (p : Program) (numbers : List ℕ) (answer : Bool) → Decides answer (IsNumbering p numbers) → IsTrue answer → IsTyped p → MeansItself p numbers
found_serves p numbers answer decides e typed = any_numbering p numbers typed (decides.0 e)
