-- Where a run stands that an item may have stopped, as code gives it.
use Rattle.std.specs.Prelude.{false, ℕ}
use Rattle.rules.specs.declared.Finding.TheVariants.{Nothing}
use Rattle.rules.specs.Measure.{origin}
use Rattle.rules.specs.Run.{place_of, spot_of}
use Rattle.state_pen.specs.declared.Pen.{Pen}
use Rattle.do_deed.specs.declared.Deed.{Deed}
use Rattle.run_items.specs.declared.Stop.{Stop}

-- no item has stopped the run
abbrev pub no_stop : Stop
no_stop = record { finding = Nothing; found = 0; began = origin; ended = false; was_used = false }

-- behind the deed of an item that began at the place `begins` of the stream and met the pen p
abbrev pub stop_behind : Deed → ℕ → Pen → Stop
stop_behind d begins p = record { finding = d.finding; found = place_of d.finding begins; began = spot_of d.finding p.at; ended = d.ended; was_used = p.used }
