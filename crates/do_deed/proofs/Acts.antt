-- What the acts of an item do, act by act: to the core, to the method, to the page. Assumes nothing.
use mathlib.Core.Path.{◌≡◌, refl}
use mathlib.Core.Bool.{Bool, true, false, cond}
use mathlib.Core.List.{List, [], ◌∷◌}
use Prim.Native.Nat.{ℕ}
use Rattle.rules.specs.declared.Measure.{Measure}
use Rattle.rules.specs.declared.Code.{Code}
use Rattle.rules.specs.declared.Escape.{Escape}
use Rattle.rules.specs.declared.Finding.{Finding}
use Rattle.rules.specs.declared.Finding.TheVariants.{Nothing, NotCarried, NotAllowed, EndsInside, CannotStand, StackLimit, NotNow, DamagedRow}
use Rattle.rules.specs.declared.Core.{Core}
use Rattle.rules.specs.declared.Beside.{Beside}
use Rattle.rules.specs.Findings.{is_clean}
use Rattle.rules.specs.Codes.{typed, coded, escaped}
use Rattle.rules.specs.Acts.{Act, type, control, escape, show, show_all, next, next_all, shown, ends_page, beside_after, bar, gate, meaning, nothing_done, mean}
use Rattle.rules.specs.Items as rule
use Rattle.do_deed.specs.Acted.{acted_of, acted, page_after, ActedOn, ActedFor}

module _ (g : Measure) where
  -- nothing is done
  pub done_nothing : (f : Finding) (c : Core) (m : Beside) → ActedFor g (nothing_done f m) c (acted_of c m f false)
  unfolding acted page_after next_all show_all
  done_nothing f c m p = record { given = refl; page = refl }

  -- one act: the page ends where the act ends it
  pub one_act : (a : Act) (f : Finding) (m : Beside) (c : Core) (p : List ℕ) → ActedOn g (meaning (a ∷ []) f m) c p (acted_of (next g a c) m f (ends_page a c)) (shown g a c p)
  unfolding acted page_after next_all show_all show
  one_act a f m c p = go (ends_page a c) refl
    where
      go : (t : Bool) → ends_page a c ≡ t → ActedOn g (meaning (a ∷ []) f m) c p (acted_of (next g a c) m f (ends_page a c)) (shown g a c p)
      go true e = record { given = rw e; page = rw e }
      go false e = record { given = rw e; page = rw e }

  -- an act that stays on its page and paints nothing, unless it is barred
  pub gate_done : (a : Act) (c d : Core) (m n : Beside) (f : Finding) → f ≡ bar g a c → d ≡ cond (is_clean (bar g a c)) (next g a c) c → n ≡ cond (is_clean (bar g a c)) (beside_after a m) m
      → ends_page a c ≡ false → ((p : List ℕ) → shown g a c p ≡ p) → ActedFor g (gate g a c m) c (acted_of d n f false)
  unfolding gate
  gate_done a c d m n f e h k x y p = rw (e, h, k) (go (bar g a c))
    where
      go : (b : Finding) → ActedOn g (cond (is_clean b) (meaning (a ∷ []) Nothing (beside_after a m)) (nothing_done b m)) c p (acted_of (cond (is_clean b) (next g a c) c) (cond (is_clean b) (beside_after a m) m) b false) p
      go Nothing = rw (x, y p) at (one_act a Nothing (beside_after a m) c p)
      go EndsInside = done_nothing EndsInside c m p
      go CannotStand = done_nothing CannotStand c m p
      go NotCarried = done_nothing NotCarried c m p
      go NotAllowed = done_nothing NotAllowed c m p
      go StackLimit = done_nothing StackLimit c m p
      go NotNow = done_nothing NotNow c m p
      go DamagedRow = done_nothing DamagedRow c m p

  -- a control code
  pub code_done : (k : Code) (c d : Core) (m : Beside) (t : Bool) → d ≡ coded g k c → ((c' : Core) → t ≡ ends_page (control k) c') → ActedFor g (gate g (control k) c m) c (acted_of d m Nothing t)
  unfolding gate bar beside_after next shown
  code_done k c d m t e h p = rw (e, h c) (one_act (control k) Nothing m c p)

  -- a two-byte command
  pub escape_done : (k : Escape) (c d : Core) (m n : Beside) (t : Bool) → d ≡ escaped g k c → n ≡ beside_after (escape k) m → t ≡ ends_page (escape k) c
      → ActedFor g (gate g (escape k) c m) c (acted_of d n Nothing t)
  unfolding gate bar next shown
  escape_done k c d m n t e f h p = rw (e, f, h) (one_act (escape k) Nothing (beside_after (escape k) m) c p)

  -- a space or a text byte
  pub text_done : (b : ℕ) (c d : Core) (m : Beside) → d ≡ typed g b c → ActedFor g (mean g (rule.text b) c m) c (acted_of d m Nothing false)
  unfolding mean gate bar beside_after next shown ends_page
  text_done b c d m e p = rw e (one_act (type b) Nothing m c p)
