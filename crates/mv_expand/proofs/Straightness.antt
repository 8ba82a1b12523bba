-- Straight code, over more temporaries and statement by statement.
use Rattle.std.proofs.Common.{◌≡◌, ℕ, zero, suc, ◌+◌, ◌<◌, ◌≤◌, Bool, true, false, List, [], ◌∷◌, ◌++◌, length, map, take, get_or, append_assoc, append-nil, arith, eqb, refl, sym, ◌∙◌, ap, subst}
use Rattle.std.specs.Prelude.{◌&&◌, ◌||◌, ◌≢◌, nat_eq, nat_lt}
use Rattle.std.proofs.lemmas.List.{take_more, take_all}
use Rattle.std.proofs.lemmas.Bool.{eqb-true, eqb-false, and_from, or_right}
use Rattle.mv_num.specs.Lists.{is_among}
use Rattle.mv_num.specs.declared.kind.Kind.{Kind}
use Rattle.mv_num.proofs.Booleans.{and_left, and_right, from_falsity}
use Rattle.mv_ir.specs.declared.tree.Tree.{Tree}
use Rattle.mv_ir.specs.declared.tree.Tree as tr
use Rattle.mv_ir.specs.declared.tree.Tree.TheOpen.{Tree-F}
use Rattle.mv_ir.specs.declared.tree.Tree.TheOpen as tree
use Rattle.mv_ir.specs.declared.tree.Tree.TheViews.{roll-Tree}
use Rattle.mv_ir.specs.declared.stm.Stm.{Stm}
use Rattle.mv_ir.specs.declared.stm.Stm as at
use Rattle.mv_ir.specs.declared.stm.Stm.TheOpen as stm
use Rattle.mv_ir.specs.declared.stm.Stm.TheVariants.{rolls-Set, rolls-Divide, rolls-Return}
use Rattle.mv_ir.specs.declared.body.Body.{Body}
use Rattle.mv_ir.specs.Live.{below}
use Rattle.mv_ir.specs.Rolled.{number, set, divide, return_with}
use Rattle.mv_ir.specs.WellFormed.{all_true}
use Rattle.mv_ir.proofs.Induction.{TreeChildren, tree_ind}
use Rattle.mv_ir.proofs.Common.{lt_nat, nat_less}
use Rattle.mv_fold.proofs.Reached.{eqb_self}
use Rattle.mv_expand.specs.Straight.{IsShort, Straight, returns, sets, divides, reads_only, short_temps}
use Rattle.mv_expand.specs.Walking.{LeadsOn, IsDivisor, is_small, fits}
use Rattle.mv_expand.proofs.Rolls.{reads_only_roll}
use Rattle.mv_expand.proofs.Equations.{fits_roll, only_temp, only_unary, only_binary, only_narrow}

-- ---- over more temporaries

abbrev pub Among : List ℕ → List ℕ → Type 0
Among known more = (t : ℕ) → is_among t known ≡ true → is_among t more ≡ true

module _ (known more : List ℕ) (h : Among known more) where
  wider : (x : Tree-F Tree) → TreeChildren (λ t. reads_only known t ≡ true → reads_only more t ≡ true) x → reads_only known (roll-Tree x) ≡ true →
      reads_only more (roll-Tree x) ≡ true
  wider (tree.Number n) k e = reads_only_roll more (tree.Number n)
  wider (tree.Temp t) k e = reads_only_roll more (tree.Temp t) ∙ h t (sym (reads_only_roll known (tree.Temp t)) ∙ e)
  wider (tree.Global g) k e = from_falsity (sym (reads_only_roll known (tree.Global g)) ∙ e)
  wider (tree.Function f) k e = from_falsity (sym (reads_only_roll known (tree.Function f)) ∙ e)
  wider (tree.Unary o a) k e = reads_only_roll more (tree.Unary o a) ∙ k (sym (reads_only_roll known (tree.Unary o a)) ∙ e)
  wider (tree.Binary o a b) k e =
      let read = sym (reads_only_roll known (tree.Binary o a b)) ∙ e in
      reads_only_roll more (tree.Binary o a b) ∙
      and_from (reads_only more a) (reads_only more b) (k.0 (and_left (reads_only known a) (reads_only known b) read)) (k.1 (and_right (reads_only known a) (reads_only known b) read))
  wider (tree.Narrow j a) k e = reads_only_roll more (tree.Narrow j a) ∙ k (sym (reads_only_roll known (tree.Narrow j a)) ∙ e)

  pub reads_wider : (t : Tree) → reads_only known t ≡ true → reads_only more t ≡ true
  reads_wider = tree_ind (λ t. reads_only known t ≡ true → reads_only more t ≡ true) wider

either_wider : (b x y : Bool) → (x ≡ true → y ≡ true) → (b || x) ≡ true → (b || y) ≡ true
either_wider true x y h e = refl
either_wider false x y h e = h e

pub among_with : (known more : List ℕ) (t : ℕ) → Among known more → Among (t ∷ known) (t ∷ more)
among_with known more t h u = either_wider (nat_eq u t) (is_among u known) (is_among u more) (h u)

behind_all : (a b x y : Bool) → (x ≡ true → (a || y) ≡ true) → (b || x) ≡ true → (a || (b || y)) ≡ true
behind_all true b x y h e = refl
behind_all false true x y h e = refl
behind_all false false x y h e = h e

pub among_pushed : (known : List ℕ) (t : ℕ) → Among (known ++ t ∷ []) (t ∷ known)
among_pushed [] t u e = e
among_pushed (k ∷ known) t u e = behind_all (nat_eq u t) (nat_eq u k) (is_among u (known ++ t ∷ [])) (is_among u known) (among_pushed known t u) e

pub straight_wider : (temps : ℕ) (known : List ℕ) (code : List Stm) → Straight temps known code → (more : List ℕ) → Among known more → Straight temps more code
straight_wider temps known code (returns k v e) more h = returns more v (reads_wider k more h v e)
straight_wider temps known code (sets k t v rest lt e s) more h =
    sets more t v rest lt (reads_wider k more h v e) (straight_wider temps (t ∷ k) rest s (t ∷ more) (among_with k more t h))
straight_wider temps known code (divides k t o a n rest lt ne e s) more h =
    divides more t o a n rest lt ne (reads_wider k more h a e) (straight_wider temps (t ∷ k) rest s (t ∷ more) (among_with k more t h))

-- ---- a statement that leads on

module _ (temps : ℕ) (known behind : List ℕ) (t : ℕ) (e : behind ≡ known ++ t ∷ []) where
  also_known : (rest : List Stm) → Straight temps behind rest → Straight temps (t ∷ known) rest
  also_known rest s = straight_wider temps behind rest s (t ∷ known) (λ u q. among_pushed known t u (subst (λ l. is_among u l ≡ true) e q))

  pub set_leads : (v : Tree) → t < temps → reads_only known v ≡ true → LeadsOn temps known (at.Set t v ∷ []) behind
  set_leads v lt h rest s = subst (λ x. Straight temps known (x ∷ rest)) (rolls-Set t v) (sets known t v rest lt h (also_known rest s))

  pub divide_leads : (o : ℕ) (a b : Tree) → t < temps → IsDivisor b → reads_only known a ≡ true → LeadsOn temps known (at.Divide t o a b ∷ []) behind
  divide_leads o a b lt d h rest s =
      subst (λ x. Straight temps known (x ∷ rest)) (rolls-Divide t o a b)
      (subst (λ b. Straight temps known (divide t o a b ∷ rest)) (sym d.1) (divides known t o a d.0 rest lt d.2 h (also_known rest s)))

pub return_known : (temps : ℕ) (known : List ℕ) (v : Tree) → reads_only known v ≡ true → Straight temps known (at.Return v ∷ [])
return_known temps known v h = subst (λ x. Straight temps known (x ∷ [])) (rolls-Return v) (returns known v h)

-- ---- the walk over code

module _ (temps : ℕ) (first now : List ℕ) (code : List Stm) (i : ℕ) (d s : Stm) (lt : i < length code) (is : s ≡ get_or code i d) (h : LeadsOn temps first (take i code) now) where
  longer : (rest : List Stm) → take (i + 1) code ++ rest ≡ take i code ++ s ∷ rest
  longer rest = ap (λ l. l ++ rest) (take_more code i d lt ∙ ap (λ x. take i code ++ x ∷ []) (sym is)) ∙ append_assoc (take i code) (s ∷ []) rest

  pub leads_next : (behind : List ℕ) → LeadsOn temps now (s ∷ []) behind → LeadsOn temps first (take (i + 1) code) behind
  leads_next behind k rest r = subst (Straight temps first) (sym (longer rest)) (h (s ∷ rest) (k rest r))

  pub leads_end : i + 1 ≡ length code → Straight temps now (s ∷ []) → Straight temps first code
  leads_end all k =
      subst (Straight temps first) (sym (longer []) ∙ append-nil (take (i + 1) code) ∙ ap (λ n. take n code) all ∙ take_all (length code) code (omega arith)) (h (s ∷ []) k)

-- ---- temporaries below a number

one_of : (b x : Bool) {P : Type 0} → (b ≡ true → P) → (x ≡ true → P) → (b || x) ≡ true → P
one_of true x f g e = f refl
one_of false x f g e = g e

pub below_has : (n u : ℕ) → is_among u (below n) ≡ true → u < n
below_has zero u e = from_falsity e
below_has (suc n) u e =
    one_of (nat_eq u n) (is_among u (below n)) (λ q. let same = eqb-true u n q in omega (arith, same)) (λ h. let lt = below_has n u h in omega (arith, lt))
    (among_pushed (below n) n u e)

among_behind : (known : List ℕ) (t u : ℕ) → is_among u known ≡ true → is_among u (known ++ t ∷ []) ≡ true
among_behind [] t u e = from_falsity e
among_behind (k ∷ known) t u e = either_wider (nat_eq u k) (is_among u known) (is_among u (known ++ t ∷ [])) (among_behind known t u) e

among_last : (known : List ℕ) (t : ℕ) → is_among t (known ++ t ∷ []) ≡ true
among_last [] t = ap (λ b. b || false) (eqb_self t)
among_last (k ∷ known) t = or_right (nat_eq t k) (is_among t (known ++ t ∷ [])) (among_last known t)

pub has_below : (n u : ℕ) → u < n → is_among u (below n) ≡ true
has_below zero u lt = absurd (omega (arith, lt))
has_below (suc n) u lt = by (eqb u n) (eqb-true u n) (eqb-false u n) (has_below n u)
  where
    by : (b : Bool) → (b ≡ true → u ≡ n) → (b ≡ false → u ≢ n) → (u < n → is_among u (below n) ≡ true) → is_among u (below n ++ n ∷ []) ≡ true
    by true f g h = subst (λ k. is_among k (below n ++ n ∷ []) ≡ true) (sym (f refl)) (among_last (below n) n)
    by false f g h = let other = g refl in among_behind (below n) n u (h (omega (arith, lt, other)))

-- ---- short bodies, statement by statement

small_wider : (known : List ℕ) → Among known (below short_temps) → (t : Tree) → reads_only known t ≡ true → is_small t ≡ true
unfolding is_small
small_wider known h t e = reads_wider known (below short_temps) h t e

also_below : (known : List ℕ) (t : ℕ) → t < short_temps → Among known (below short_temps) → Among (t ∷ known) (below short_temps)
also_below known t lt h u e =
    one_of (nat_eq u t) (is_among u known) (λ q. subst (λ k. is_among k (below short_temps) ≡ true) (sym (eqb-true u t q)) (has_below short_temps t lt)) (h u) e

module _ (temps : ℕ) (few : temps ≤ short_temps) where
  straight_fits : (known : List ℕ) (code : List Stm) → Straight temps known code → Among known (below short_temps) → all_true (map fits code) ≡ true
  straight_fits known code (returns k v e) h = and_from (fits (return_with v)) true (fits_roll (stm.Return v) ∙ small_wider k h v e) refl
  straight_fits known code (sets k t v rest lt e s) h =
      let small : t < short_temps = omega (arith, lt, few) in
      and_from (fits (set t v)) (all_true (map fits rest))
      (fits_roll (stm.Set t v) ∙ and_from (nat_lt t short_temps) (is_small v) (lt_nat t short_temps small) (small_wider k h v e))
      (straight_fits (t ∷ k) rest s (also_below k t small h))
  straight_fits known code (divides k t o a n rest lt ne e s) h =
      let small : t < short_temps = omega (arith, lt, few) in
      and_from (fits (divide t o a (number n))) (all_true (map fits rest))
      (fits_roll (stm.Divide t o a (number n)) ∙
      and_from (nat_lt t short_temps) (is_small a && is_small (number n)) (lt_nat t short_temps small)
      (and_from (is_small a) (is_small (number n)) (small_wider k h a e) (small_wider [] (λ u q. from_falsity q) (number n) (reads_only_roll [] (tree.Number n)))))
      (straight_fits (t ∷ k) rest s (also_below k t small h))

pub short_fits : (b : Body) → IsShort b → all_true (map fits b.code) ≡ true
short_fits b h =
    straight_fits b.temps h.temps (below b.params) b.code h.straight
    (λ u e. let lt = below_has b.params u e in has_below short_temps u (omega (arith, lt, h.params)))

-- ---- the temporaries of what fits

pub small_temp : (t : ℕ) → is_small (tr.Temp t) ≡ true → t < short_temps
unfolding is_small
small_temp t e = below_has short_temps t (sym (only_temp (below short_temps) t) ∙ e)

pub small_unary : (o : ℕ) (a : Tree) → is_small (tr.Unary o a) ≡ true → is_small a ≡ true
unfolding is_small
small_unary o a e = sym (only_unary (below short_temps) o a) ∙ e

pub small_left : (o : ℕ) (a b : Tree) → is_small (tr.Binary o a b) ≡ true → is_small a ≡ true
unfolding is_small
small_left o a b e = and_left (reads_only (below short_temps) a) (reads_only (below short_temps) b) (sym (only_binary (below short_temps) o a b) ∙ e)

pub small_right : (o : ℕ) (a b : Tree) → is_small (tr.Binary o a b) ≡ true → is_small b ≡ true
unfolding is_small
small_right o a b e = and_right (reads_only (below short_temps) a) (reads_only (below short_temps) b) (sym (only_binary (below short_temps) o a b) ∙ e)

pub small_narrow : (k : Kind) (a : Tree) → is_small (tr.Narrow k a) ≡ true → is_small a ≡ true
unfolding is_small
small_narrow k a e = sym (only_narrow (below short_temps) k a) ∙ e

module _ (t : ℕ) (v : Tree) (e : fits (at.Set t v) ≡ true) where
  set_fits : (nat_lt t short_temps && is_small v) ≡ true
  set_fits = sym (fits_roll (stm.Set t v)) ∙ ap fits (rolls-Set t v) ∙ e

  pub set_temp : t < short_temps
  set_temp = nat_less t short_temps (and_left (nat_lt t short_temps) (is_small v) set_fits)

  pub set_small : is_small v ≡ true
  set_small = and_right (nat_lt t short_temps) (is_small v) set_fits

module _ (t o : ℕ) (a b : Tree) (e : fits (at.Divide t o a b) ≡ true) where
  divide_fits : (nat_lt t short_temps && (is_small a && is_small b)) ≡ true
  divide_fits = sym (fits_roll (stm.Divide t o a b)) ∙ ap fits (rolls-Divide t o a b) ∙ e

  pub divide_temp : t < short_temps
  divide_temp = nat_less t short_temps (and_left (nat_lt t short_temps) (is_small a && is_small b) divide_fits)

  pub divide_first : is_small a ≡ true
  divide_first = and_left (is_small a) (is_small b) (and_right (nat_lt t short_temps) (is_small a && is_small b) divide_fits)

  pub divide_second : is_small b ≡ true
  divide_second = and_right (is_small a) (is_small b) (and_right (nat_lt t short_temps) (is_small a && is_small b) divide_fits)

pub return_small : (v : Tree) → fits (at.Return v) ≡ true → is_small v ≡ true
return_small v e = sym (fits_roll (stm.Return v)) ∙ ap fits (rolls-Return v) ∙ e

pub fits_at : (code : List Stm) (i : ℕ) (d : Stm) → i < length code → all_true (map fits code) ≡ true → fits (get_or code i d) ≡ true
fits_at [] i d lt e = absurd (omega (arith, lt))
fits_at (s ∷ code) zero d lt e = and_left (fits s) (all_true (map fits code)) e
fits_at (s ∷ code) (suc i) d lt e = fits_at code i d (omega (arith, lt)) (and_right (fits s) (all_true (map fits code)) e)
