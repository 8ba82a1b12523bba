-- What stands where the binding of a function shows.
use Rattle.std.proofs.Common.{◌≡◌, ⊎_elim, ℕ, ◌+◌, List, [], ◌∷◌, slice_index, Option, Some, None, option_map, ◌==◌, if◌then◌else◌, refl, sym, ap, ◌∙◌, arith, eq-eqb}
use Rattle.std.specs.List.{find}
use Rattle.std.proofs.lemmas.Bool.{cases_eq, ne_eqb}
use Rattle.mv_descriptors.specs.declared.rows.SiteRow.{SiteRow}
use Rattle.mv_descriptors.specs.declared.rows.VariantRow.{VariantRow}
use Rattle.mv_isa.specs.Code.{IsPlace}
use Rattle.mv_isa.specs.Standing.{SlotStands}
use Rattle.mv_image.specs.Spelling.{Fields}
use Rattle.mv_image.specs.Jumps.{nop, jump}
use Rattle.mv_image.specs.Patched.{Bindings, at_entry, at_site, after_site, entry_at, site_at, site_before, point_at, word_by, word_through, word_under}
use Rattle.mv_ir.specs.World.{World}
use Rattle.mv_patch.specs.Orders.{values_of}
use Rattle.mv_refine_machine.specs.MachineRuns.{image_word, bound_word}
use Rattle.mv_refine_machine.specs.Bound.{AtEntry, AtSite, BindingsShow}
use Rattle.mv_refine_machine.proofs.Jumps.{jump_stands, nop_stands}

-- ---- the second word of a site

same_test : (x a : ℕ) → (x + 4 == a + 4) ≡ (x == a)
same_test x a =
    ⊎_elim (λ (e : x ≡ a). eq-eqb (x + 4) (a + 4) (omega (arith, e)) ∙ sym (eq-eqb x a e))
    (λ (ne : x ≡ a → ⊥). ne_eqb (x + 4) (a + 4) (λ e. ne (omega (arith, e))) ∙ sym (ne_eqb x a ne)) (cases_eq x a)

same_find : (a : ℕ) (sites : List SiteRow) → find (λ (site : SiteRow). site.address + 4 == a + 4) sites ≡ find (λ (site : SiteRow). site.address == a) sites
same_find a [] = refl
same_find a (site ∷ sites) = rw (same_test site.address a, same_find a sites) refl

pub site_behind : (image : Fields) (a : ℕ) → site_before image (a + 4) ≡ site_at image a
unfolding site_before site_at
site_behind image a = same_find a image.sites

-- ---- the words

under_is : (image : Fields) (bound : Bindings) (a word : ℕ) (e : Option ℕ) (s : Option SiteRow) → point_at image a ≡ None → entry_at image a ≡ e → site_at image a ≡ s
    → word_under image bound a word ≡ word_by image bound a word e s (site_before image a)
unfolding word_under
under_is image bound a word e s none p q = ap (word_through image bound a word) none ∙ (rw (p, q) refl)

module _ (image : Fields) (w : World) where
  abbrev bound : Bindings
  bound = values_of w.bindings

  bound_is : (a word : ℕ) → image_word image a ≡ Some word → bound_word image w a ≡ Some (word_under image bound a word)
  unfolding bound_word
  bound_is a word e = ap (option_map (word_under image bound a)) e

  at_entry_is : (a : ℕ) (v : VariantRow) → AtEntry image w a v → bound_word image w a ≡ Some (jump 0 a v.address)
  at_entry_is a v h =
      bound_is a h.word h.in_text
      ∙ ap Some (under_is image bound a h.word (Some h.function) (site_at image a) h.no_point h.is_entry refl ∙ ap (at_entry a h.word) h.bound)

  first_is : (a : ℕ) (v : VariantRow) (h : AtSite image w a v) → bound_word image w a ≡ Some (at_site a h.first (Some v))
  first_is a v h =
      bound_is a h.first h.first_in_text ∙ ap Some (under_is image bound a h.first None (Some h.site) h.no_point h.no_entry h.is_site ∙ ap (at_site a h.first) h.bound)

  second_is : (a : ℕ) (v : VariantRow) (h : AtSite image w a v) → bound_word image w (a + 4) ≡ Some (after_site (a + 4) h.second (Some v))
  second_is a v h =
      bound_is (a + 4) h.second h.second_in_text
      ∙ ap Some (under_is image bound (a + 4) h.second None None h.no_point_behind h.no_entry_behind h.no_site_behind
      ∙ ap (word_by image bound (a + 4) h.second None None) (site_behind image a ∙ h.is_site) ∙ ap (after_site (a + 4) h.second) h.bound)

  calls_variant : (a : ℕ) (v : VariantRow) → AtSite image w a v → v.inlined ≡ 0 → IsPlace a → IsPlace v.address → SlotStands (bound_word image w) a (a + 8) v.address
  calls_variant a v h none p q = record {
    call = jump_stands (bound_word image w) 1 a v.address (omega arith) p q (first_is a v h ∙ ap (λ n. Some (if n == 1 then slice_index v.words 0 else jump 1 a v.address)) none);
    rest = nop_stands (bound_word image w) (a + 4) (second_is a v h ∙ ap (λ n. Some (if n == 1 then slice_index v.words 1 else nop)) none);
    end_is = refl;
  }

  is_inlined : (a : ℕ) (v : VariantRow) → AtSite image w a v → v.inlined ≡ 1
      → (bound_word image w a ≡ Some (slice_index v.words 0)) × (bound_word image w (a + 4) ≡ Some (slice_index v.words 1))
  is_inlined a v h one = (
    first_is a v h ∙ ap (λ n. Some (if n == 1 then slice_index v.words 0 else jump 1 a v.address)) one,
    second_is a v h ∙ ap (λ n. Some (if n == 1 then slice_index v.words 1 else nop)) one,
  )

  pub bindings_show : BindingsShow image w
  bindings_show = record {
    enters = λ a v h p q. jump_stands (bound_word image w) 0 a v.address (omega arith) p q (at_entry_is a v h);
    calls = calls_variant;
    inlines = is_inlined;
  }
