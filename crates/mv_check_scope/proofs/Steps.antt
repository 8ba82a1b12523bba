-- A step more and a step fewer.
use Rattle.std.proofs.Common.{◌≡◌, ℕ, ◌+◌, ◌-◌, ◌≤◌, ◌<◌, ◌∙◌, refl, sym, ap, subst, Bool, true, false, if◌then◌else◌, nat_eq, length, List, [], ◌∷◌, ◌++◌, Option, Some, None, IsSome, arith, length-append}
use Rattle.std.specs.Cmp.Lexicographic.{pointwise, same_text}
use Rattle.std.specs.Map.{lookup}
use Rattle.std.proofs.lemmas.Bool.{eqb-true}
use Rattle.mv_check_outline.specs.Names.{is_among, place_of, with_name as with_number}
use Rattle.mv_check_scope.specs.declared.step.Binding.{Binding}
use Rattle.mv_check_scope.specs.declared.step.Declaration.{Declaration}
use Rattle.mv_check_scope.specs.declared.step.Step.{Step}
use Rattle.mv_check_scope.specs.declared.step.Step.TheVariants.{Declared, Entered}
use Rattle.mv_check_scope.specs.Names.{Names, Space}
use Rattle.mv_check_scope.specs.Spaces.{named}
use Rattle.mv_check_scope.specs.Scopes.{no_names, with_name, entered, left}
use Rattle.mv_check_scope.specs.Bindings.{Entries, at_number, binding, binding_among, IsBoundAt}
use Rattle.mv_check_scope.specs.Steps.{name_at, stepped, led_to, Keeps, KeepAll, Represents}
use Rattle.mv_check_scope.proofs.BoundNames.{declared_here, others_stay, is_bound, entering}
use Rattle.mv_check_scope.proofs.Blocks.{left_again}
use Rattle.mv_check_scope.proofs.Numbers.{within, bound_to, longer, same_name_at, still_numbered, bound_alike}

one_longer : (bs : List Names) (b : Names) → length (bs ++ b ∷ []) ≡ length bs + 1
one_longer bs b = omega (arith, length-append bs (b ∷ []))

-- ---- one name more

module _ (names : List (List ℕ)) (new : List ℕ) (is_new : is_among new names ≡ false) where
  abbrev more : List (List ℕ)
  more = longer names new is_new

  same_space : (s : Space) (steps : List Step) → KeepAll names s steps → led_to more s steps ≡ led_to names s steps
  same_space s [] k = refl
  same_space s (Declared d ∷ steps) k =
      ap (λ name. led_to more (with_name s name d.meaning) steps) (same_name_at names new is_new d.number k.0.0) ∙
      same_space (with_name s (name_at names d.number) d.meaning) steps k.1
  same_space s (Entered ∷ steps) k = same_space (entered s) steps k.1

  keep_still : (s : Space) (steps : List Step) → KeepAll names s steps → KeepAll more s steps
  keep_still s [] k = tt
  keep_still s (Declared d ∷ steps) k =
      let same = same_name_at names new is_new d.number k.0.0 in (
        (still_numbered names new is_new d.number k.0.0, k.0.1 ∙ ap (binding s) (sym same)),
        subst (λ name. KeepAll more (with_name s name d.meaning) steps) (sym same) (keep_still (with_name s (name_at names d.number) d.meaning) steps k.1),
      )
  keep_still s (Entered ∷ steps) k = (tt, keep_still (entered s) steps k.1)

  module _ (steps : List Step) (depth : ℕ) (es : Entries) (r : Represents names steps depth es) where
    space_stays : led_to more no_names steps ≡ led_to names no_names steps
    space_stays = same_space no_names steps r.keep

    represents_still : Represents more steps depth es
    represents_still = record {
      keep = keep_still no_names steps r.keep;
      deep = r.deep ∙ ap (λ (s : Space). length s.around) (sym space_stays);
      bound = λ name.
          bound_alike names new is_new es (r.fresh (length names) (omega arith)) name ∙ (r.bound name ∙ ap (λ s. binding s name) (sym space_stays));
      fresh = λ n le. r.fresh n (omega (arith, le, length-append names (new ∷ [])));
    }

-- a name that gets a number changes nothing else
module _ (names : List (List ℕ)) (name : List ℕ) (steps : List Step) (depth : ℕ) (es : Entries) (r : Represents names steps depth es) where
  numbered : Represents (with_number names name) steps depth es × (led_to (with_number names name) no_names steps ≡ led_to names no_names steps)
  numbered = by (is_among name names) refl
    where
      by : (t : Bool) → is_among name names ≡ t →
          Represents (if t then names else names ++ name ∷ []) steps depth es ×
          (led_to (if t then names else names ++ name ∷ []) no_names steps ≡ led_to names no_names steps)
      by true e = (r, refl)
      by false e = (represents_still names name e steps depth es r, space_stays names name e steps depth es r)

module _ (names ns : List (List ℕ)) (name : List ℕ) (is_ns : ns ≡ with_number names name) (steps ss : List Step) (is_ss : ss ≡ steps) (depth : ℕ) (es : Entries)
    (r : Represents names steps depth es) where
  pub with_its_number : Represents ns ss depth es
  with_its_number =
      subst (λ n. Represents n ss depth es) (sym is_ns)
      (subst (λ x. Represents (with_number names name) x depth es) (sym is_ss) (numbered names name steps depth es r).0)

  pub space_as_before : led_to ns no_names ss ≡ led_to names no_names steps
  space_as_before =
      ap (λ n. led_to n no_names ss) is_ns ∙ (ap (led_to (with_number names name) no_names) is_ss ∙ (numbered names name steps depth es r).1)

-- ---- one step more or fewer

module _ (names : List (List ℕ)) where
  pub one_more : (s : Space) (steps : List Step) (step : Step) → led_to names s (steps ++ step ∷ []) ≡ stepped names (led_to names s steps) step
  one_more s [] step = refl
  one_more s (x ∷ xs) step = one_more (stepped names s x) xs step

  keep_more : (s : Space) (steps : List Step) (step : Step) → KeepAll names s steps → Keeps names (led_to names s steps) step → KeepAll names s (steps ++ step ∷ [])
  keep_more s [] step h k = (k, tt)
  keep_more s (x ∷ xs) step h k = (h.0, keep_more (stepped names s x) xs step h.1 k)

  keep_fewer : (s : Space) (steps : List Step) (step : Step) → KeepAll names s (steps ++ step ∷ []) → KeepAll names s steps × Keeps names (led_to names s steps) step
  keep_fewer s [] step h = (tt, h.0)
  keep_fewer s (x ∷ xs) step h = let r = keep_fewer (stepped names s x) xs step h.1 in ((h.0, r.0), r.1)

  -- no more blocks are open than steps were taken
  pub deep_within : (s : Space) (steps : List Step) → length (led_to names s steps).around ≤ length s.around + length steps
  deep_within s [] = omega arith
  deep_within s (Declared d ∷ xs) = omega (arith, deep_within (with_name s (name_at names d.number) d.meaning) xs)
  deep_within s (Entered ∷ xs) = omega (arith, deep_within (entered s) xs, one_longer s.around s.here)

  module _ (steps : List Step) (depth : ℕ) (es : Entries) where
    abbrev now : Space
    now = led_to names no_names steps

    -- what is bound at a number below those of names to come leaves these free
    fresh_still : (fs : Entries) (n : ℕ) (b : Option Binding) → n < length names → IsBoundAt es fs n b → ((m : ℕ) → length names ≤ m → lookup (nat_eq m) es ≡ None) →
        (m : ℕ) → length names ≤ m → lookup (nat_eq m) fs ≡ None
    fresh_still fs n b lt bound fresh m le = bound m ∙ by (nat_eq n m) refl
      where
        by : (t : Bool) → nat_eq n m ≡ t → (if t then b else lookup (nat_eq m) es) ≡ None
        by true e = absurd (omega (arith, eqb-true n m e, lt, le))
        by false e = fresh m le

    module _ (d : Declaration) (more : List Step) (is : more ≡ steps ++ Declared d ∷ []) where
      abbrev name : List ℕ
      name = name_at names d.number

      pub declaration : led_to names no_names more ≡ with_name now name d.meaning
      declaration = ap (led_to names no_names) is ∙ one_more no_names steps (Declared d)

      pub declares : (fs : Entries) → Represents names steps depth es → place_of name names ≡ Some d.number → d.hidden ≡ lookup (nat_eq d.number) es →
          named name now.here ≡ None → IsBoundAt es fs d.number (Some (record { depth = depth; meaning = d.meaning })) → Represents names more depth fs
      declares fs r at hid new bound = record {
        keep = subst (KeepAll names no_names) (sym is) (keep_more no_names steps (Declared d) r.keep (at, hid ∙ (ap (at_number es) (sym at) ∙ r.bound name)));
        deep = r.deep ∙ ap (λ (s : Space). length s.around) (sym declaration);
        bound = λ n.
            bound_to names es fs name d.number (Some (record { depth = depth; meaning = d.meaning })) at bound n ∙
            (ap (λ o. if pointwise nat_eq n name then Some (record { depth = depth; meaning = d.meaning }) else o) (r.bound n) ∙
            (ap (λ k. if pointwise nat_eq n name then Some (record { depth = k; meaning = d.meaning }) else binding now n) r.deep ∙
            (sym (declared_here now name d.meaning new n) ∙ ap (λ s. binding s n) (sym declaration))));
        fresh = fresh_still fs d.number (Some (record { depth = depth; meaning = d.meaning })) (within names name d.number at) bound r.fresh;
      }

      module _ (r : Represents names more depth es) where
        found : (n : List ℕ) → binding_among names es n ≡ binding (with_name now name d.meaning) n
        found n = r.bound n ∙ ap (λ s. binding s n) declaration

        kept : KeepAll names no_names steps × Keeps names now (Declared d)
        kept = keep_fewer no_names steps (Declared d) (subst (KeepAll names no_names) is r.keep)

        pub was_bound : IsSome (lookup (nat_eq d.number) es)
        was_bound = subst (λ o. IsSome o) (sym (found name) ∙ ap (at_number es) kept.1.0) (is_bound now name d.meaning)

        pub taken_back : (fs : Entries) → IsBoundAt es fs d.number d.hidden → Represents names steps depth fs
        taken_back fs bound = record {
          keep = kept.0;
          deep = r.deep ∙ ap (λ (s : Space). length s.around) declaration;
          bound = λ n. bound_to names es fs name d.number d.hidden kept.1.0 bound n ∙ by n (pointwise nat_eq n name) refl;
          fresh = fresh_still fs d.number d.hidden (within names name d.number kept.1.0) bound r.fresh;
        }
          where
            by : (n : List ℕ) (t : Bool) → pointwise nat_eq n name ≡ t → (if t then d.hidden else binding_among names es n) ≡ binding now n
            by n true e = kept.1.1 ∙ ap (binding now) (sym (same_text n name (sym e)))
            by n false e = found n ∙ others_stay now name d.meaning n e

    module _ (more : List Step) (is : more ≡ steps ++ Entered ∷ []) where
      pub entrance : led_to names no_names more ≡ entered now
      entrance = ap (led_to names no_names) is ∙ one_more no_names steps Entered

      pub enters : Represents names steps depth es → Represents names more (depth + 1) es
      enters r = record {
        keep = subst (KeepAll names no_names) (sym is) (keep_more no_names steps Entered r.keep tt);
        deep = ap (λ d. d + 1) r.deep ∙ (sym (one_longer now.around now.here) ∙ ap (λ (s : Space). length s.around) (sym entrance));
        bound = λ n. r.bound n ∙ (sym (entering now n) ∙ ap (λ s. binding s n) (sym entrance));
        fresh = r.fresh;
      }

      module _ (r : Represents names more depth es) where
        pub deeper : depth ≡ length now.around + 1
        deeper = r.deep ∙ (ap (λ (s : Space). length s.around) entrance ∙ one_longer now.around now.here)

        pub leaves : Represents names steps (depth - 1) es
        leaves = record {
          keep = (keep_fewer no_names steps Entered (subst (KeepAll names no_names) is r.keep)).0;
          deep = omega (arith, deeper);
          bound = λ n. r.bound n ∙ (ap (λ s. binding s n) entrance ∙ entering now n);
          fresh = r.fresh;
        }

      pub block_left : now ≡ left (led_to names no_names more)
      block_left = sym (ap left entrance ∙ left_again now)
