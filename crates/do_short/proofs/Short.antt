-- What text, control codes and two-byte commands do to pen, stack and seed row. Assumes nothing.
use Prim.{tt}
use mathlib.Core.Path.{◌≡◌, refl}
use mathlib.Core.Bool.{Bool, true, false, cond}
use mathlib.Core.List.{List}
use Prim.Native.Nat.{ℕ, ◌+◌}
use lib.Dec.{eqb}
use Rattle.std.specs.Prelude.{Option, None, Some}
use Rattle.rules.specs.declared.Measure.{Measure}
use Rattle.rules.specs.declared.Code.{Code}
use Rattle.rules.specs.declared.Code.TheVariants.{CarriageReturn, LineFeed, FormFeed, Backspace, Tab}
use Rattle.rules.specs.declared.Escape.{Escape}
use Rattle.rules.specs.declared.Escape.TheVariants.{Reset, ClearMargins, HalfLine}
use Rattle.rules.specs.declared.Finding.{Finding}
use Rattle.rules.specs.declared.Finding.TheVariants.{Nothing, NotCarried}
use Rattle.rules.specs.declared.Spot.{Spot}
use Rattle.rules.specs.declared.Core.{Core}
use Rattle.rules.specs.declared.Beside.{Beside}
use Rattle.rules.specs.Measure.{LW, half, into_height}
use Rattle.rules.specs.States.{beside_of, zero_seed, at_y, with_left, with_right, fresh_core}
use Rattle.rules.specs.Codes.{coded, escaped, code_byte, escape_byte}
use Rattle.rules.specs.Acts.{control, escape, ends_page, beside_after, gate, Meaning, nothing_done, mean_code, mean_two, mean}
use Rattle.rules.specs.Items as rule
use Rattle.read_item.specs.declared.Item.{Item}
use Rattle.read_item.specs.declared.Item.TheVariants as found
use Rattle.read_item.specs.Items.{item_in}
use Rattle.do_short.specs.Meant.{code_of, escape_of}
use Rattle.rules.specs.declared.Layout.{Layout}
use Rattle.do_text.specs.Cursor.{typed_pen}
use Rattle.do_text.proofs.Typing.{typed_core}
use Rattle.do_code.specs.Moved.{Moved}
use Rattle.state_pen.specs.declared.Pen.{Pen}
use Rattle.state_pen.specs.Pens.{pen_of, core_of}
use Rattle.do_deed.specs.declared.Deed.{Deed}
use Rattle.do_deed.specs.declared.Stacking.TheVariants.{Kept, Emptied}
use Rattle.do_deed.specs.Deeds.{deed_of, DeedFor}
use Rattle.do_deed.proofs.Acts.{code_done, escape_done, text_done}
use Rattle.do_deed.proofs.Penned.{same_meaning, nothing, pen_with}

module _ (g : Measure) where
  -- the meaning of a code
  abbrev mean_of_code : Core → Beside → Option Code → Meaning
  mean_of_code c m (Some k) = gate g (control k) c m
  mean_of_code c m None = nothing_done Nothing m

  code_means : (b : ℕ) (c : Core) (m : Beside) → mean_code g b c m ≡ mean_of_code c m (code_of b)
  unfolding mean_code
  code_means b c m = go (eqb b (code_byte CarriageReturn)) (eqb b (code_byte LineFeed)) (eqb b (code_byte FormFeed)) (eqb b (code_byte Backspace)) (eqb b (code_byte Tab))
    where
      go : (t u v w x : Bool) → cond t (gate g (control CarriageReturn) c m) (cond u (gate g (control LineFeed) c m) (cond v (gate g (control FormFeed) c m) (cond w (gate g (control Backspace) c m) (cond x (gate g (control Tab) c m) (nothing_done Nothing m)))))
          ≡ mean_of_code c m (cond t (Some CarriageReturn) (cond u (Some LineFeed) (cond v (Some FormFeed) (cond w (Some Backspace) (cond x (Some Tab) None)))))
      go true u v w x = refl
      go false true v w x = refl
      go false false true w x = refl
      go false false false true x = refl
      go false false false false true = refl
      go false false false false false = refl

  -- what the byte of a code means, by what it is
  code_is : (b : ℕ) (x y : Option Code) → x ≡ code_of b → x ≡ y → (c : Core) (m : Beside) → mean_code g b c m ≡ mean_of_code c m y
  code_is b x y e f c m = rw (code_means b c m, ← e, f)

  -- the meaning of a two-byte command
  abbrev mean_of_escape : Core → Beside → Option Escape → Meaning
  mean_of_escape c m (Some k) = gate g (escape k) c m
  mean_of_escape c m None = nothing_done NotCarried m

  escape_means : (b : ℕ) (c : Core) (m : Beside) → mean_two g b c m ≡ mean_of_escape c m (escape_of b)
  unfolding mean_two
  escape_means b c m = go (eqb b (escape_byte Reset)) (eqb b (escape_byte ClearMargins)) (eqb b (escape_byte HalfLine))
    where
      go : (t u v : Bool) → cond t (gate g (escape Reset) c m) (cond u (gate g (escape ClearMargins) c m) (cond v (gate g (escape HalfLine) c m) (nothing_done NotCarried m)))
          ≡ mean_of_escape c m (cond t (Some Reset) (cond u (Some ClearMargins) (cond v (Some HalfLine) None)))
      go true u v = refl
      go false true v = refl
      go false false true = refl
      go false false false = refl

  -- what the byte of a two-byte command means, by what it is
  escape_is : (b : ℕ) (x y : Option Escape) → x ≡ escape_of b → x ≡ y → (c : Core) (m : Beside) → mean_two g b c m ≡ mean_of_escape c m y
  escape_is b x y e f c m = rw (escape_means b c m, ← e, f)

module _ (g : Measure) (p : Pen) (m : Beside) where
  -- a control code
  pub code_deed : (k : Code) (at : Spot) (t u : Bool) (r : Deed) → Moved g k p.at p.layout at → ((c : Core) → t ≡ ends_page (control k) c) → u ≡ cond t false p.used → r ≡ deed_of (pen_with at p.layout p.raster u p.depth) m Nothing false Kept
      → (b : List ℕ) → DeedFor g (λ (c : Core). gate g (control k) c m) p b (deed_of r.pen r.beside r.finding t r.stacking) b
  code_deed k at t u r e h i j b page = rw j (record {
    acted = λ l.
        let c = core_of p l b in
        let d = core_of (pen_with at p.layout p.raster u p.depth) l b in
        let z : d ≡ coded g k c = rw (i, h c) (e c refl refl) in
        code_done g k c d m t z h page;
    placed = tt;
  })

  -- the byte of a code
  pub code_byte_lem : (b : ℕ) (x : Option Code) (k : Code) (r : Deed) → x ≡ code_of b → x ≡ Some k → ((s : List ℕ) → DeedFor g (λ (c : Core). gate g (control k) c m) p s r s) → (s : List ℕ) → DeedFor g (λ (c : Core). mean_code g b c m) p s r s
  code_byte_lem b x k r e f h s page = same_meaning g p m (λ (c : Core). gate g (control k) c m) (λ (c : Core). mean_code g b c m) s page r s page (λ c. code_is g b x (Some k) e f c m) (h s page)

  pub code_other : (b : ℕ) (x : Option Code) (r : Deed) → x ≡ code_of b → x ≡ None → r ≡ deed_of p m Nothing false Kept → (s : List ℕ) → DeedFor g (λ (c : Core). mean_code g b c m) p s r s
  code_other b x r e f h = nothing g p m (λ (c : Core). mean_code g b c m) Nothing r (λ c. code_is g b x None e f c m) h

  -- ESC 9
  pub margins_deed : (n : Layout) (r : Deed) → n ≡ with_left 0 (with_right (LW g) p.layout) → r ≡ deed_of (pen_with p.at n p.raster p.used p.depth) m Nothing false Kept
      → (b : List ℕ) → DeedFor g (λ (c : Core). gate g (escape ClearMargins) c m) p b r b
  unfolding escaped ends_page beside_after
  margins_deed n r e h b page = rw (h, e) (record { acted = λ l. escape_done g ClearMargins (core_of p l b) (core_of (pen_with p.at (with_left 0 (with_right (LW g) p.layout)) p.raster p.used p.depth) l b) m m false refl refl refl page; placed = tt })

  -- ESC =
  pub half_deed : (at : Spot) (r : Deed) → at ≡ at_y (into_height g (p.at.y + half p.layout.vmi)) p.at → r ≡ deed_of (pen_with at p.layout p.raster p.used p.depth) m Nothing false Kept
      → (b : List ℕ) → DeedFor g (λ (c : Core). gate g (escape HalfLine) c m) p b r b
  unfolding escaped ends_page beside_after
  half_deed at r e h b page = rw (h, e) (record { acted = λ l. escape_done g HalfLine (core_of p l b) (core_of (pen_with (at_y (into_height g (p.at.y + half p.layout.vmi)) p.at) p.layout p.raster p.used p.depth) l b) m m false refl refl refl page; placed = tt })

  -- a two-byte command that a `match` has told
  pub escape_told : (k j : Escape) (b : List ℕ) (r : Deed) (b' : List ℕ) → k ≡ j → DeedFor g (λ (c : Core). gate g (escape j) c m) p b r b' → DeedFor g (λ (c : Core). gate g (escape k) c m) p b r b'
  escape_told k j b r b' e h = rw e h

  -- the byte of a two-byte command
  pub escape_byte_lem : (b : ℕ) (x : Option Escape) (k : Escape) (s : List ℕ) (r : Deed) (s' : List ℕ) → x ≡ escape_of b → x ≡ Some k → DeedFor g (λ (c : Core). gate g (escape k) c m) p s r s' → DeedFor g (λ (c : Core). mean_two g b c m) p s r s'
  escape_byte_lem b x k s r s' e f h page = same_meaning g p m (λ (c : Core). gate g (escape k) c m) (λ (c : Core). mean_two g b c m) s page r s' page (λ c. escape_is g b x (Some k) e f c m) (h page)

  pub escape_other : (b : ℕ) (x : Option Escape) (s : List ℕ) (r : Deed) → x ≡ escape_of b → x ≡ None → r ≡ deed_of p m NotCarried false Kept → DeedFor g (λ (c : Core). mean_two g b c m) p s r s
  escape_other b x s r e f h = nothing g p m (λ (c : Core). mean_two g b c m) NotCarried r (λ c. escape_is g b x None e f c m) h s

  -- a space or a text byte
  pub text_deed : (b : ℕ) (n : Pen) (r : Deed) → n ≡ typed_pen g p b → r ≡ deed_of n m Nothing false Kept → (s : List ℕ) → DeedFor g (λ (c : Core). mean g (rule.text b) c m) p s r s
  text_deed b n r e h s page = rw h (record { acted = λ l. text_done g b (core_of p l s) (core_of n l s) m (typed_core g b p n l s e) page; placed = tt })

  -- an item that a `match` has told
  pub bytes_told : (i j : Item) (b : List ℕ) (r : Deed) (b' s : List ℕ) → i ≡ j → DeedFor g (λ (c : Core). mean g (item_in s j) c m) p b r b' → DeedFor g (λ (c : Core). mean g (item_in s i) c m) p b r b'
  bytes_told i j b r b' s e h = rw e h

  -- a broken piece
  pub bytes_broken : (i : Item) (f : Finding) (b : List ℕ) (r : Deed) → i ≡ found.Broken f → r ≡ deed_of p m f false Kept → (s : List ℕ) → DeedFor g (λ (c : Core). mean g (item_in s i) c m) p b r b
  unfolding mean
  bytes_broken i f b r e k s = rw e (nothing g p m (λ (c : Core). mean g (rule.broken f) c m) f r (λ c. refl) k b)

-- ESC E
pub reset_deed : (g : Measure) (p : Pen) (f : Core) (q : Pen) (b b' : List ℕ) → f ≡ fresh_core g → q ≡ pen_of f → b' ≡ zero_seed → (m : Beside) → DeedFor g (λ (c : Core). gate g (escape Reset) c m) p b (deed_of q (beside_of 0) Nothing p.used Emptied) b'
unfolding fresh_core escaped ends_page beside_after
reset_deed g p f q b b' e h k m page = rw (h, e, k) (record { acted = λ l. escape_done g Reset (core_of p l b) (fresh_core g) m (beside_of 0) p.used refl refl refl page; placed = tt })
