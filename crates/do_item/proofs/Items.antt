-- What an item does, from what its bytes or its command do. Assumes nothing.
use mathlib.Core.Path.{◌≡◌, refl}
use mathlib.Core.Bool.{false}
use mathlib.Core.List.{List}
use Prim.Native.Nat.{ℕ, ◌-◌}
use lib.ListN.{take, drop}
use Rattle.rules.specs.declared.Measure.{Measure}
use Rattle.rules.specs.declared.Command.TheVariants.{Unknown}
use Rattle.rules.specs.declared.Finding.TheVariants.{NotCarried}
use Rattle.rules.specs.declared.Core.{Core}
use Rattle.rules.specs.declared.Beside.{Beside}
use Rattle.rules.specs.Acts.{mean_command, mean}
use Rattle.read_item.specs.declared.Item.{Item}
use Rattle.read_item.specs.declared.Item.TheVariants as found
use Rattle.read_item.specs.Items.{item_in}
use Rattle.rules.specs.declared.Command.{Command}
use Rattle.state_pen.specs.declared.Pen.{Pen}
use Rattle.do_deed.specs.declared.Deed.{Deed}
use Rattle.do_deed.specs.declared.Stacking.TheVariants.{Kept}
use Rattle.do_deed.specs.Deeds.{deed_of, DeedOn}
use Rattle.do_deed.proofs.Penned.{nothing}

module _ (g : Measure) (p : Pen) (m : Beside) where
  -- a command that a `match` has told
  pub command_told : (s : List ℕ) (k j : Command) (b page : List ℕ) (r : Deed) (b' page' : List ℕ) → k ≡ j → DeedOn g (λ (c : Core). mean_command g j s c m) p b page r b' page' → DeedOn g (λ (c : Core). mean_command g k s c m) p b page r b' page'
  command_told s k j b page r b' page' e h = rw e h

  -- one that is not carried
  pub command_unknown : (s : List ℕ) (k : Command) (b page : List ℕ) (r : Deed) → k ≡ Unknown → r ≡ deed_of p m NotCarried false Kept → DeedOn g (λ (c : Core). mean_command g k s c m) p b page r b page
  unfolding mean_command
  command_unknown s k b page r e h = rw e (nothing g p m (λ (c : Core). mean_command g Unknown s c m) NotCarried r (λ c. refl) h b page)

  -- a command with the part of the stream that is its payload
  pub item_command : (s page : List ℕ) (i : Item) (k : Command) (from to : ℕ) (b : List ℕ) (r : Deed) (b' page' : List ℕ) → i ≡ found.Command k from to
      → DeedOn g (λ (c : Core). mean_command g k (take (to - from) (drop from s)) c m) p b page r b' page' → DeedOn g (λ (c : Core). mean g (item_in s i) c m) p b page r b' page'
  unfolding mean
  item_command s page i k from to b r b' page' e h = rw e h
