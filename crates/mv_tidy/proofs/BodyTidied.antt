-- A body with the code that tidying gives is tidied.
use Rattle.std.proofs.Common.{ℕ, List, refl}
use Rattle.mv_ir.specs.declared.stm.Stm.{Stm}
use Rattle.mv_ir.specs.declared.body.Body.{Body}
use Rattle.mv_ir.specs.Live.{nowhere}
use Rattle.mv_tidy.specs.Tidying.{IsJoinedCode}
use Rattle.mv_tidy.specs.Tidied.{IsPlainJoined, IsTidiedCode, IsTidied}
use Rattle.mv_plain.proofs.AsGood.{IsAsGood, after}
use Rattle.mv_tidy.proofs.Thinning.{tidied_whole, tidied_temps}
use Rattle.mv_tidy.proofs.Measures.{tidied_no_greater, tidied_well_formed}
use Rattle.mv_tidy.proofs.TidiedKept.{tidied_keeps}
use Rattle.mv_plain.proofs.PlainGood.{plain_good}
use Rattle.mv_tidy.proofs.ChosenGood.{chosen_good}
use Rattle.mv_tidy.proofs.ChoosingWalked.{itself}

-- ---- the steps

pub joined_good : (b : Body) (code : List Stm) → IsJoinedCode b.temps b.code code → IsAsGood b code
joined_good b code k = record {
  means = tidied_keeps b code k;
  smaller = tidied_no_greater b code k;
  whole = tidied_whole b code k;
  has_temps = tidied_temps b code k;
  well_formed = tidied_well_formed b code k;
}

steps_good : (b : Body) (code : List Stm) → IsTidiedCode b.temps b.code code → IsAsGood b code
steps_good b code k =
    let plain : Body = record b { code = k.plain } in
    let joined : Body = record b { code = k.joined } in
    after b k.plain code (plain_good b k.plain k.is_plain) (after plain k.joined code (joined_good plain k.joined k.is_joined) (chosen_good joined code k.is_chosen))

-- ---- a body

-- code after the first two steps is put together from itself
pub joined_is_tidied : (temps : ℕ) (code joined : List Stm) → IsPlainJoined temps code joined → IsTidiedCode temps code joined
joined_is_tidied temps code joined k = record {
  plain = k.plain;
  joined = joined;
  is_plain = k.is_plain;
  is_joined = k.is_joined;
  is_chosen = itself temps (λ t. nowhere) joined;
}

pub tidied_is_so : (b : Body) (code : List Stm) → IsTidiedCode b.temps b.code code → IsTidied b (record b { code = code })
tidied_is_so b code k =
    let good = steps_good b code k in
    record {
      means = good.means;
      code = k;
      smaller = good.smaller;
      whole = good.whole;
      has_temps = good.has_temps;
      well_formed = good.well_formed;
      params = refl;
      temps = refl;
      sizes = refl;
      rooms = refl;
      marked = refl;
      switches = refl;
    }
