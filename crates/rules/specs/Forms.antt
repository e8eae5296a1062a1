-- Paper 02, P1: a form of parked texts as data, its word and its members in their order. One writer and one reader (Park) serve every form.
use Rattle.std.specs.Prelude.{ℕ, Bool, true, false, List, [], ◌∷◌, eqb}
use Rattle.common.specs.Choice.{flagged}
use Rattle.rules.specs.declared.Measure.{Measure}
use Rattle.rules.specs.declared.Spot.{Spot}
use Rattle.rules.specs.declared.Layout.{Layout}
use Rattle.rules.specs.declared.Raster.{Raster}
use Rattle.rules.specs.declared.Core.{Core}
use Rattle.rules.specs.declared.State.{State}
use Rattle.rules.specs.Measure.{measure_of}
use Rattle.rules.specs.States.{at_x, at_y, with_left, with_right, with_top, with_hmi, with_vmi, with_termination, with_resolution, with_started, with_margin, with_at, with_layout, with_raster, with_used, with_stack, beside_of, state_of}

-- what is parked: a page measure and a state. "The page is not in it."
pub record Parked : Type 0 where
  pub W : ℕ
  pub H : ℕ
  pub state : State

abbrev pub parked_of : ℕ → ℕ → State → Parked
parked_of w h t = record { W = w; H = h; state = t }

abbrev pub measured : Parked → Measure
measured j = measure_of j.W j.H

-- ---- a member: its number, whether it is a flag, and how it is set
pub record Member : Type 0 where
  pub get : Parked → ℕ
  pub flag : Bool
  pub set : ℕ → Parked → Parked

abbrev pub on_core : (Core → Core) → Parked → Parked
on_core f j = parked_of j.W j.H (state_of (f j.state.core) j.state.beside j.state.sequence)

abbrev pub on_layout : (Layout → Layout) → Parked → Parked
on_layout f j = on_core (λ c. with_layout (f c.layout) c) j

abbrev pub on_raster : (Raster → Raster) → Parked → Parked
on_raster f j = on_core (λ c. with_raster (f c.raster) c) j

abbrev pub on_spot : (Spot → Spot) → Parked → Parked
on_spot f j = on_core (λ c. with_at (f c.at) c) j

abbrev pub decimal_field : (Parked → ℕ) → (ℕ → Parked → Parked) → Member
decimal_field g s = record { get = g; flag = false; set = s }

-- "flags are 0 or 1"
abbrev pub flag_field : (Parked → Bool) → (Bool → Parked → Parked) → Member
flag_field g s = record { get = λ j. flagged (g j); flag = true; set = λ n j. s (eqb n 1) j }

abbrev pub m_w : Member
m_w = decimal_field (λ j. j.W) (λ n j. parked_of n j.H j.state)

abbrev pub m_h : Member
m_h = decimal_field (λ j. j.H) (λ n j. parked_of j.W n j.state)

abbrev pub m_x : Member
m_x = decimal_field (λ j. j.state.core.at.x) (λ n j. on_spot (at_x n) j)

abbrev pub m_y : Member
m_y = decimal_field (λ j. j.state.core.at.y) (λ n j. on_spot (at_y n) j)

abbrev pub m_l : Member
m_l = decimal_field (λ j. j.state.core.layout.left) (λ n j. on_layout (with_left n) j)

abbrev pub m_r : Member
m_r = decimal_field (λ j. j.state.core.layout.right) (λ n j. on_layout (with_right n) j)

abbrev pub m_t : Member
m_t = decimal_field (λ j. j.state.core.layout.top) (λ n j. on_layout (with_top n) j)

abbrev pub m_hmi : Member
m_hmi = decimal_field (λ j. j.state.core.layout.hmi) (λ n j. on_layout (with_hmi n) j)

abbrev pub m_vmi : Member
m_vmi = decimal_field (λ j. j.state.core.layout.vmi) (λ n j. on_layout (with_vmi n) j)

abbrev pub m_termination : Member
m_termination = decimal_field (λ j. j.state.core.layout.termination) (λ n j. on_layout (with_termination n) j)

abbrev pub m_resolution : Member
m_resolution = decimal_field (λ j. j.state.core.raster.resolution) (λ n j. on_raster (with_resolution n) j)

abbrev pub m_method : Member
m_method = decimal_field (λ j. j.state.beside.method) (λ n j. parked_of j.W j.H (state_of j.state.core (beside_of n) j.state.sequence))

abbrev pub m_started : Member
m_started = flag_field (λ j. j.state.core.raster.started) (λ n j. on_raster (with_started n) j)

abbrev pub m_margin : Member
m_margin = decimal_field (λ j. j.state.core.raster.margin) (λ n j. on_raster (with_margin n) j)

abbrev pub m_used : Member
m_used = flag_field (λ j. j.state.core.used) (λ n j. on_core (with_used n) j)

abbrev pub m_depth : Member
m_depth = decimal_field (λ j. j.state.core.depth) (λ n j. on_core (λ c. with_stack n c.stack c) j)

-- ---- the form
pub record Form : Type 0 where
  pub word : List ℕ
  pub members : List Member

abbrev pub flags_of : List Member → List Bool
flags_of [] = []
flags_of (m ∷ l) = m.flag ∷ flags_of l

-- "First form: a line JOB with tab-parted decimal fields W, H, x, y, L, R, T, HMI, VMI, line termination, resolution, method, started, graphics margin,
-- used, depth"
abbrev pub JOB : Form
JOB = record {
  word = 74 ∷ 79 ∷ 66 ∷ [];
  members = m_w ∷ m_h ∷ m_x ∷ m_y ∷ m_l ∷ m_r ∷ m_t ∷ m_hmi ∷ m_vmi ∷ m_termination ∷ m_resolution ∷ m_method ∷ m_started ∷ m_margin ∷ m_used ∷ m_depth ∷ [];
}
