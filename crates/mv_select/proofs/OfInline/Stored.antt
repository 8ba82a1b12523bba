-- A word that is stored to a global scalar, in memory and in the world.
use Rattle.std.proofs.Common.{◌≡◌, inl, inr, ⊎_elim, ℕ, ◌+◌, ◌*◌, ◌<◌, ◌≤◌, ◌^◌, [], slice_index, slice_index_or, slice_set, Some, refl, sym, ap, ◌∙◌, subst, arith}
use Rattle.std.proofs.lemmas.Bool.{cases_eq}
use Rattle.mv_isa.specs.Execution.{Access}
use Rattle.mv_ir.specs.declared.stm.Array.TheVariants as array
use Rattle.mv_ir.specs.World.{World}
use Rattle.mv_ir.specs.Meaning.{with_elements, with_global}
use Rattle.mv_select_code.specs.Statements.Frames.{Reach, Element}
use Rattle.mv_select_code.specs.Statements.Leads.{Writes}
use Rattle.mv_select_code.proofs.OfStatements.FrameChanges.{Updates, updates_element}
use Rattle.mv_select_code.specs.Control.Runs.{Machine}
use Rattle.mv_select.specs.Calls.Convention.{Layout, IsAbove, HoldsGlobals}
use Rattle.mv_select.specs.Functions.Functions as functions
use Rattle.mv_select.specs.Functions.Functions.{IsLaid, IsMemory, IsStack}
use Rattle.mv_select.proofs.OfInline.Steps.{globals_site}

-- the world in which a global scalar has a value
abbrev pub set_in : World → ℕ → ℕ → World
set_in w g v = with_global w g (slice_set (slice_index_or w.globals g []) 0 v)

module _ {M : Type 0} (access : Access M) (y : Layout) (laid : IsLaid y) (machine : Machine M) (memory : IsMemory access y machine) (reach : Reach) (budget far : ℕ) where
  abbrev H : World → M → Type 0
  H = HoldsGlobals access y machine budget far

  pub record Put (w : World) (m : M) (g v sp : ℕ) : Type 0 where
    pub after : M
    pub stored : access.store m (y.place g) 4 v ≡ Some after
    pub writes : Writes access (globals_site y reach) m after
    pub globals : H (set_in w g v) after
    pub stack : (b : ℕ) → IsAbove y sp b → access.load after b 4 ≡ access.load m b 4

  pub stored_global : (w : World) (m : M) (g v sp : ℕ) → 0 < y.size g → v < 2 ^ 32 → y.bottom ≤ sp → H w m → Put w m g v sp
  stored_global w m g v sp lt small low h = record {
    after = kept.after;
    stored = ap (λ b. access.store m b 4 v) same_place ∙ kept.stored;
    writes = inr (Element (array.Global g) 0, v, refl, lt, small, kept.stored);
    globals = record { sizes = λ x. update.sizes (array.Global x) ∙ h.sizes x; words = words; loads = loads };
    stack = λ b s. kept.others b (inl (above b s)) (λ e. laid.off_stack g 0 lt (subst (IsStack y) e (above b s)));
  }
    where
      same_place : y.place g ≡ y.place g + 4 * 0
      same_place = omega arith

      kept : functions.Kept access y m (y.place g + 4 * 0) v
      kept = memory.stores m (y.place g + 4 * 0) v (slice_index (slice_index_or w.globals g []) 0) (inr (g, 0, lt, refl)) small (h.loads g 0 lt)

      above : (b : ℕ) → IsAbove y sp b → IsStack y b
      above b s = (omega (arith, s.0, low), s.1, s.2)

      update : Updates (globals_site y reach) (record { temps = []; arrays = []; world = w })
          (with_elements (array.Global g) (record { temps = []; arrays = []; world = w }) (slice_set (slice_index_or w.globals g []) 0 v)) (Element (array.Global g) 0) v
      update = updates_element (globals_site y reach) (record { temps = []; arrays = []; world = w }) (array.Global g) 0 v (omega (arith, lt, h.sizes g))

      there : (x n : ℕ) → n < y.size x → y.place x + 4 * n ≡ y.place g + 4 * 0 → slice_index (slice_index_or (set_in w g v).globals x []) n ≡ v
      there x n few e =
          let a = laid.apart x n g 0 few lt e in
          ap (λ z. slice_index (slice_index_or (set_in w g v).globals z []) n) a.0 ∙ ap (slice_index (slice_index_or (set_in w g v).globals g [])) a.1 ∙ update.same

      words : (x n : ℕ) → n < y.size x → slice_index (slice_index_or (set_in w g v).globals x []) n < 2 ^ 32
      words x n few = ⊎_elim
          (λ (e : y.place x + 4 * n ≡ y.place g + 4 * 0). rw (there x n few e) small)
          (λ (ne : y.place x + 4 * n ≡ y.place g + 4 * 0 → ⊥). rw (update.others (Element (array.Global x) n) few ne) (h.words x n few))
          (cases_eq (y.place x + 4 * n) (y.place g + 4 * 0))

      loads : (x n : ℕ) → n < y.size x → access.load kept.after (y.place x + 4 * n) 4 ≡ Some (slice_index (slice_index_or (set_in w g v).globals x []) n)
      loads x n few = ⊎_elim
          (λ (e : y.place x + 4 * n ≡ y.place g + 4 * 0). ap (λ b. access.load kept.after b 4) e ∙ kept.same ∙ ap Some (sym (there x n few e)))
          (λ (ne : y.place x + 4 * n ≡ y.place g + 4 * 0 → ⊥). kept.others (y.place x + 4 * n) (inr (x, n, few, refl)) ne ∙ h.loads x n few ∙ ap Some (sym (update.others (Element (array.Global x) n) few ne)))
          (cases_eq (y.place x + 4 * n) (y.place g + 4 * 0))
