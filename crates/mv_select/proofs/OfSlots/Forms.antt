-- The lemmas on narrowed machines in the forms of the laws.
use Rattle.mv_select.specs.Slots.Laws.{NarrowedAreAlike, NarrowedRuns, SlotsUnder, JumpsUnder, FirstsUnder}
use Rattle.mv_select.proofs.OfSlots.Narrow.{narrowed_alike, narrowed_runs, slots_under, jumps_under, firsts_under}

pub alike : (M : Type 0) → NarrowedAreAlike M
alike M access y machine test text budget far = narrowed_alike access y machine test text budget far

pub runs : (M : Type 0) → NarrowedRuns M
runs M access y machine test = narrowed_runs access y machine test

pub slots : (M : Type 0) → SlotsUnder M
slots M access y laid machine test text on budget far = slots_under access y machine test text budget far laid on

pub jumps : (M : Type 0) → JumpsUnder M
jumps M access y laid machine test text on budget far = jumps_under access y machine test text budget far laid on

pub firsts : (M : Type 0) → FirstsUnder M
firsts M access y laid machine test text on budget far = firsts_under access y machine test text budget far laid on
