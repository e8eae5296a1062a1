-- What an item did, from its meaning: the acts of the rules, done on the core and shown on the page.
use Rattle.std.specs.Prelude.{◌≡◌, Bool, not, List, [], ℕ}
use Rattle.common.specs.Lists.{is_nil}
use Rattle.rules.specs.declared.Measure.{Measure}
use Rattle.rules.specs.declared.Finding.{Finding}
use Rattle.rules.specs.declared.Core.{Core}
use Rattle.rules.specs.declared.Beside.{Beside}
use Rattle.rules.specs.Acts.{World, world, show_all, next_all, Meaning}
use Rattle.rules.specs.Run.{page_of}

-- what an item did besides the page: the core and the row method behind it, its finding, and whether it ended the page
pub record Acted : Type 0 where
  pub core : Core
  pub beside : Beside
  pub finding : Finding
  pub ended : Bool

abbrev pub acted_of : Core → Beside → Finding → Bool → Acted
acted_of c m f ended = record { core = c; beside = m; finding = f; ended = ended }

-- the core, the page and the pages handed over behind the acts of a meaning
abbrev pub world_after : Measure → Meaning → Core → List ℕ → World
world_after g o c p = show_all g o.acts (world c p [])

-- what an item of this meaning gives
unfoldable pub acted : Measure → Meaning → Core → List ℕ → Acted
acted g o c p = acted_of (next_all g o.acts c) o.beside o.finding (not (is_nil (world_after g o c p).handed))

-- the page's bytes behind it: the page that is handed over where it ended, as it is
unfoldable pub page_after : Measure → Meaning → Core → List ℕ → List ℕ
page_after g o c p = page_of (world_after g o c p).handed (world_after g o c p).page

-- r and the page's bytes behind an item of the meaning o, on the core c and the page p
pub record ActedOn (g : Measure) (o : Meaning) (c : Core) (p : List ℕ) (r : Acted) (after : List ℕ) : Type 0 where
  pub given : r ≡ acted g o c p
  pub page : after ≡ page_after g o c p

-- the same, whatever the page, which stays as it is
abbrev pub ActedFor : Measure → Meaning → Core → Acted → Type 0
ActedFor g o c r = (p : List ℕ) → ActedOn g o c p r p
