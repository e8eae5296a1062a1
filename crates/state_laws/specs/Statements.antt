-- The theorems on a state kept as bytes, as statements. Each is proved in proofs/Keeping.antt; no proof is needed to read them.
use Rattle.std.specs.Prelude.{◌≡◌, true, false, List, ◌++◌, ℕ, ◌≤◌, length, drop}
use Rattle.std.proofs.lemmas.List.Edits.{sets}
use Rattle.rules.specs.declared.Measure.{Measure}
use Rattle.rules.specs.Given.{Carried}
use Rattle.rules.specs.declared.State.{State}
use Rattle.rules.specs.Measure.{allowed, measure_of}
use Rattle.rules.specs.Sound.{sound}
use Rattle.rules.specs.Run.{answer}
use Rattle.theorems.specs.Facts.{Shaped}
use Rattle.state_load.specs.Kept.{state_takes, is_state, state_at, state_bytes}

-- Written and read again: a state that is sound on its page, written over any bytes, is what those bytes are read as.
abbrev pub StateIsReadBack : Type 0
StateIsReadBack = (W H : ℕ) (t : State) (b : List ℕ) → allowed W H ≡ true → sound (measure_of W H) t ≡ true → Shaped t.core → state_takes ≤ length b
    → state_at (sets b 0 (state_bytes t)) ≡ t

-- A state takes as many bytes as are kept for it; those behind them stay.
pub record TakesItsBytes (t : State) : Type 0 where
  pub size : length (state_bytes t) ≡ state_takes
  pub behind : (b : List ℕ) → state_takes ≤ length b → sets b 0 (state_bytes t) ≡ state_bytes t ++ drop state_takes b

abbrev pub StateTakesItsBytes : Type 0
StateTakesItsBytes = (t : State) → Shaped t.core → TakesItsBytes t

-- Bytes that are no state are read as one that is sound on no page: a call that is handed them is refused, by 13 if by nothing before it.
abbrev pub NoStateIsRefused : Type 0
NoStateIsRefused = (g : Measure) (b : List ℕ) → is_state b ≡ false → sound g (state_at b) ≡ false

-- Calls one after the other: what a call that was carried out leaves in the caller's bytes is, for the next call, the state that the rules gave.
abbrev pub CallsGoOn : Type 0
CallsGoOn = (W H : ℕ) (page stream b : List ℕ) (at allowance : ℕ) → (answer W H page stream (state_at b) at allowance).ran.verdict ≡ Carried
    → state_at (sets b 0 (state_bytes (answer W H page stream (state_at b) at allowance).ran.state)) ≡ (answer W H page stream (state_at b) at allowance).ran.state
