-- Shortening the end of a body's code keeps the body whole, and makes no interval longer.
use Rattle.std.proofs.Common.{◌≡◌, ℕ, Bool, true, false, ◌||◌, List, [], ◌∷◌, ◌++◌, refl, sym, subst, append-nil}
use Rattle.mv_ir.specs.declared.tree.Tree.{Tree}
use Rattle.mv_ir.specs.declared.stm.Stm.{Stm}
use Rattle.mv_ir.specs.declared.stm.Stm.TheOpen.{Stm-F}
use Rattle.mv_ir.specs.declared.stm.Stm.TheOpen as stm
use Rattle.mv_ir.specs.declared.stm.Stm.TheViews.{roll-Stm}
use Rattle.mv_ir.specs.declared.body.Body.{Body}
use Rattle.mv_ir.specs.Live.{any_reads, Flow, with_after, live_in_order, marks_in_order, flow, nowhere, live_at_start}
use Rattle.mv_ir.proofs.Rolls.{flow_roll, flow_of_layer}
use Rattle.mv_ir.specs.Rolled.{temp, set, set_global, return_with}
use Rattle.mv_fold.specs.Shortened.{shortened}
use Rattle.mv_fold.proofs.Shortening.{shortened_is}
use Rattle.mv_fold.proofs.Thinner.{Covers, covers_trans, composed, covers_append, FitsAround, code_flow, flow_one, nowhere_fits, KeepsIntervals, body_intervals}
use Rattle.mv_fold.proofs.FoldedThinner.{every, same, code_same}
use Rattle.mv_num.proofs.Booleans.{from_falsity}

abbrev flows : List Stm → ℕ → Flow
flows = code_flow every

-- behind a body: what is live or marked was so before
record ThinAt (mask : List Bool) (f f' : ℕ → Flow) : Type 0 where
  live : (t : ℕ) → (f' t).live nowhere ≡ true → (f t).live nowhere ≡ true
  marks : (t : ℕ) → Covers mask ((f t).marks nowhere) ((f' t).marks nowhere)

Thin : List Stm → List Stm → Type 0
Thin xs ys = (mask : List Bool) × ThinAt mask (flows xs) (flows ys)

kept : (xs : List Stm) → Thin xs xs
unfolding Thin
kept xs = let (mask, h) = code_same xs in (mask, record { live = λ t e. e; marks = λ t. h.marks t nowhere nowhere (nowhere_fits every t) })

both : (xs ys zs : List Stm) → Thin xs ys → Thin ys zs → Thin xs zs
unfolding Thin
both xs ys zs (m, h) (n, k) = (composed m n, record { live = λ t e. h.live t (k.live t e); marks = λ t. covers_trans m n _ _ _ (h.marks t) (k.marks t) })

fits_behind : (t : ℕ) (b b' : Bool) → (b' ≡ true → b ≡ true) → FitsAround every t (with_after nowhere b) (with_after nowhere b')
fits_behind t b b' h = record { next = λ e. (h e, refl); leaves = λ n e. from_falsity e; restarts = λ n e. from_falsity e }

bare : (mask xs ys : List Bool) → Covers mask (xs ++ []) (ys ++ []) → Covers mask xs ys
bare mask xs ys h = subst (λ l. Covers mask l ys) (append-nil xs) (subst (Covers mask (xs ++ [])) (append-nil ys) h)

behind : (s : Stm) (xs ys : List Stm) → Thin xs ys → Thin (s ∷ xs) (s ∷ ys)
unfolding Thin
behind s xs ys (n, k) =
    let (m, h) = same s in (
      m ++ n,
      record {
        live = λ t e. (h.live t (with_after nowhere (live_at_start t xs)) (with_after nowhere (live_at_start t ys)) (fits_behind t (live_at_start t xs) (live_at_start t ys) (k.live t)) e).0;
        marks = λ t.
            let here =
            bare m ((flow t s).marks (with_after nowhere (live_at_start t xs))) ((flow t s).marks (with_after nowhere (live_at_start t ys)))
            (h.marks t (with_after nowhere (live_at_start t xs)) (with_after nowhere (live_at_start t ys)) (fits_behind t (live_at_start t xs) (live_at_start t ys) (k.live t)))
            in
            covers_append m _ _ n _ _ here (k.marks t);
      },
    )

leave : (n : ℕ) → Thin (roll-Stm (stm.Break n) ∷ []) []
unfolding Thin
leave n = (false ∷ [], record { live = λ t e. from_falsity e; marks = λ t. subst (λ (f : ℕ → Flow). Covers (false ∷ []) ((f t).marks nowhere) []) (sym (flow_one every (stm.Break n))) tt })

unread : (u : ℕ) (v : Tree) → Thin (set u v ∷ []) []
unfolding Thin
unread u v = (false ∷ [], record { live = λ t e. from_falsity e; marks = λ t. subst (λ (f : ℕ → Flow). Covers (false ∷ []) ((f t).marks nowhere) []) (sym (flow_one every (stm.Set u v))) tt })

-- ---- two statements as one

abbrev pair : Stm-F Stm → Stm-F Stm → ℕ → Flow
pair x y t = record {
  live = λ r. live_in_order (flow_of_layer x t ∷ flow_of_layer y t ∷ []) r;
  marks = λ r. marks_in_order (flow_of_layer x t ∷ flow_of_layer y t ∷ []) r;
}

flow_pair : (x y : Stm-F Stm) → flows (roll-Stm x ∷ roll-Stm y ∷ []) ≡ pair x y
flow_pair x y = λ i t. record {
  live = λ r. live_in_order (flow_roll t x i ∷ flow_roll t y i ∷ []) r;
  marks = λ r. marks_in_order (flow_roll t x i ∷ flow_roll t y i ∷ []) r;
}

pair_thin : (x y z : Stm-F Stm) → ThinAt (true ∷ false ∷ []) (pair x y) (flow_of_layer z) → Thin (roll-Stm x ∷ roll-Stm y ∷ []) (roll-Stm z ∷ [])
unfolding Thin
pair_thin x y z h = (
  true ∷ false ∷ [],
  subst (λ f. ThinAt (true ∷ false ∷ []) f (flows (roll-Stm z ∷ []))) (sym (flow_pair x y)) (subst (ThinAt (true ∷ false ∷ []) (pair x y)) (sym (flow_one every z)) h),
)

read_first : (a b : Bool) → (a || false) ≡ true → (a || b) ≡ true
read_first true b e = refl
read_first false b e = from_falsity e

marked_first : (a b c : Bool) → ((a || false) || false) ≡ true → ((a || b) || c) ≡ true
marked_first true b c e = refl
marked_first false b c e = from_falsity e

stored : (t g : ℕ) (v : Tree) → Thin (set t v ∷ set_global g (temp t) ∷ []) (set_global g v ∷ [])
stored t g v = pair_thin (stm.Set t v) (stm.SetGlobal g (temp t)) (stm.SetGlobal g v) (record {
  live = λ u e. read_first (any_reads u (v ∷ [])) _ e;
  marks = λ u. ((λ e. marked_first (any_reads u (v ∷ [])) _ _ e), tt);
})

returned : (t : ℕ) (v : Tree) → Thin (set t v ∷ return_with (temp t) ∷ []) (return_with v ∷ [])
returned t v = pair_thin (stm.Set t v) (stm.Return (temp t)) (stm.Return v) (record {
  live = λ u e. read_first (any_reads u (v ∷ [])) _ e;
  marks = λ u. ((λ e. marked_first (any_reads u (v ∷ [])) _ _ e), tt);
})

-- ---- bodies

short_thinner : (temps : ℕ) (code : List Stm) → Thin code (shortened temps code)
short_thinner temps = shortened_is temps Thin (record { same = kept; both = both; behind = behind; leave = leave; unread = unread; stored = λ t g v lt. stored t g v; returned = λ t v lt. returned t v })

thin_body : (b : Body) (code : List Stm) → Thin b.code code → KeepsIntervals every b (record b { code = code })
unfolding Thin
thin_body b code (mask, h) = body_intervals every b code mask h.live h.marks

pub short_intervals : (b : Body) → KeepsIntervals every b (record b { code = shortened b.temps b.code })
short_intervals b = thin_body b (shortened b.temps b.code) (short_thinner b.temps b.code)
