-- A state as bytes: ROV_STATE and the offsets of include/rovinuset.h.
use Rattle.std.specs.Prelude.{ℕ, ◌+◌, ◌*◌, ◌/◌, ◌%◌, Bool, cond, not, ◌&&◌, List, [], ◌∷◌, ◌++◌, eqb, leb, length, get_or, map}
use Rattle.std.specs.List.{range_with_len}
use Rattle.std.proofs.lemmas.List.Edits.{sets}
use Rattle.common.specs.Choice.{flagged}
use Rattle.rules.specs.declared.Spot.{Spot}
use Rattle.rules.specs.declared.Layout.{Layout}
use Rattle.rules.specs.declared.Raster.{Raster}
use Rattle.rules.specs.declared.Sequence.{Sequence}
use Rattle.rules.specs.declared.Sequence.TheVariants.{Closed, Open}
use Rattle.rules.specs.declared.Core.{Core}
use Rattle.rules.specs.declared.State.{State}
use Rattle.rules.specs.Given.{Verdict}
use Rattle.rules.specs.Given.{Carried, Refused}
use Rattle.rules.specs.Measure.{spot}
use Rattle.rules.specs.States.{beside_of, state_of}

-- the bytes that a state takes
abbrev pub state_takes : ℕ
state_takes = 808

-- ---- bytes read
-- numbers of four bytes and of eight, the lowest byte first; a byte past the end is 0
abbrev pub u32_at : List ℕ → ℕ → ℕ
u32_at b at = get_or b at 0 + 256 * get_or b (at + 1) 0 + 65536 * (get_or b (at + 2) 0 + 256 * get_or b (at + 3) 0)

abbrev pub u64_at : List ℕ → ℕ → ℕ
u64_at b at = u32_at b at + 4294967296 * u32_at b (at + 4)

abbrev pub spot_at : List ℕ → ℕ → Spot
spot_at b at = spot (u32_at b at) (u32_at b (at + 4))

-- f 0, .. , f (n - 1)
unfoldable pub table : {A : Type 0} → ℕ → (ℕ → A) → List A
table n f = map f (range_with_len 0 n)

abbrev pub stack_at : List ℕ → List Spot
stack_at b = table 20 (λ i. spot_at b (48 + 8 * i))

-- n bytes from a place on; a byte past the end is 0
abbrev pub bytes_at : ℕ → List ℕ → ℕ → List ℕ
bytes_at n b at = table n (λ i. get_or b (at + i) 0)

abbrev pub seed_at : List ℕ → List ℕ
seed_at b = bytes_at 600 b 208

abbrev pub layout_at : List ℕ → Layout
layout_at b = record { left = u32_at b 8; right = u32_at b 12; top = u32_at b 16; hmi = u32_at b 20; vmi = u32_at b 24; termination = get_or b 34 0 }

abbrev pub raster_at : List ℕ → Raster
raster_at b = record { resolution = get_or b 32 0 + 256 * get_or b 33 0; started = not (eqb (get_or b 36 0) 0); margin = u32_at b 28 }

abbrev pub core_at : List ℕ → Core
core_at b = record {
  at = spot_at b 0;
  layout = layout_at b;
  raster = raster_at b;
  used = not (eqb (get_or b 37 0) 0);
  depth = u64_at b 40;
  stack = stack_at b;
  seed = seed_at b;
}

-- bytes that a state may have: enough of them, and flags that are 0 or 1
abbrev pub is_state : List ℕ → Bool
is_state b = leb state_takes (length b) && leb (get_or b 36 0) 1 && leb (get_or b 37 0) 1

-- two zeros: no sequence is open
abbrev pub sequence_at : List ℕ → Sequence
sequence_at b = cond (eqb (get_or b 38 0) 0 && eqb (get_or b 39 0) 0) Closed (Open (get_or b 38 0) (get_or b 39 0))

-- the state that bytes are read as: of a row method that there is not where they are no state
unfoldable pub state_at : List ℕ → State
state_at b = state_of (core_at b) (beside_of (cond (is_state b) (get_or b 35 0) 255)) (sequence_at b)

-- ---- bytes written
abbrev pub four : ℕ → List ℕ
four n = n % 256 ∷ n / 256 % 256 ∷ n / 65536 % 256 ∷ n / 16777216 % 256 ∷ []

abbrev pub spot_bytes : Spot → List ℕ
spot_bytes p = four p.x ++ four p.y

unfoldable pub stack_bytes : List Spot → List ℕ
stack_bytes [] = []
stack_bytes (p ∷ l) = spot_bytes p ++ stack_bytes l

-- the lengths, from L to the graphics margin
abbrev pub length_bytes : Layout → Raster → List ℕ
length_bytes l r = (four l.left ++ four l.right) ++ ((four l.top ++ four l.hmi) ++ (four l.vmi ++ four r.margin))

-- resolution, line termination, row method
abbrev pub mode_bytes : ℕ → ℕ → ℕ → List ℕ
mode_bytes resolution termination method = resolution % 256 ∷ resolution / 256 % 256 ∷ termination ∷ method ∷ []

abbrev pub sequence_bytes : Sequence → List ℕ
sequence_bytes Closed = 0 ∷ 0 ∷ []
sequence_bytes (Open first group) = first ∷ group ∷ []

-- the depth in eight bytes
abbrev pub depth_bytes : ℕ → List ℕ
depth_bytes n = four (n % 4294967296) ++ four (n / 4294967296)

-- what stands before the stack
unfoldable pub front_bytes : State → List ℕ
front_bytes t =
    spot_bytes t.core.at
    ++ (length_bytes t.core.layout t.core.raster
    ++ (mode_bytes t.core.raster.resolution t.core.layout.termination t.beside.method
    ++ ((flagged t.core.raster.started ∷ flagged t.core.used ∷ [])
    ++ (sequence_bytes t.sequence ++ depth_bytes t.core.depth))))

unfoldable pub state_bytes : State → List ℕ
state_bytes t = front_bytes t ++ (stack_bytes t.core.stack ++ t.core.seed)

-- the bytes behind a call that was lent them: a refusal writes nothing
abbrev pub bytes_behind : Verdict → State → List ℕ → List ℕ
bytes_behind Carried t b = sets b 0 (state_bytes t)
bytes_behind (Refused why) t b = b
