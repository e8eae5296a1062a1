-- The theorems on parked texts. Those on reading and writing hold for every form whose data is lawful; JOB is. Assumes nothing.
use mathlib.Core.Path.{◌≡◌, refl, ap, sym, ◌∙◌, subst}
use Prim.Native.Nat.{ℕ}
use native.Mathlib.Omega.{arith}
use mathlib.Core.List.{List, [], ◌∷◌}
use mathlib.Core.Bool.{Bool, true, false, cond, not, false≢true}
use lib.Dec.{ltb}
use lib.ListN.{length, drop}
use lib.Seq.{take-append_seam}
use Rattle.common.proofs.Choices.{and_true, and_both}
use Rattle.rules.specs.declared.Sequence.{Sequence}
use Rattle.rules.specs.declared.Sequence.TheVariants.{Closed, Open}
use Rattle.rules.specs.declared.State.{State}
use Rattle.rules.specs.declared.Refusal.{Refusal}
use Rattle.rules.specs.declared.Refusal.TheVariants.{PageMeasure, UnsoundState, Room, SequenceOpen}
use Rattle.rules.specs.Given.{Carried, Refused}
use Rattle.rules.specs.Measure.{allowed, measure_of}
use Rattle.rules.specs.Sound.{sound}
use Rattle.theorems.proofs.Sound.{state_facts}
use Rattle.rules.specs.Texts.{Found, wrong, found}
use Rattle.rules.specs.Forms.{Parked, parked_of, measured, Form, JOB}
use Rattle.rules.specs.Park.{Lines, print, lines_from, write, of_lines, lines, parked_sound, Answer, given, not_of_form, not_sound, judged, read, stow_refused, Stowed, is_open, park, no_state, answered, unpark}
use Rattle.park_laws.specs.Facts.{OfForm, Parkable}
use Rattle.park_laws.specs.Statements.{WrittenTextIsRead, ReadTextIsWritten, OneText, OneParked, TextsArePartedBy17And18, TextsFit, ParkedIsUnparked, CanGoOn, UnparkedGoesOn, NoStateGoesOn}
use Rattle.park_laws.proofs.Laws.{Lawful, job_lawful}
use Rattle.park_laws.proofs.Round.{lines_print, lines_inv, lines_back, lines_parkable, parked_formed, parked_back}
use Rattle.park_laws.proofs.Bounds.{write_length}

-- ---- answers are told apart
given_is : {a b : Parked} → given a ≡ given b → a ≡ b
given_is e = cc

not_given : {a : Parked} → not_of_form ≡ given a → ⊥
not_given e = let z : ◌≡◌ {A = ℕ} 0 1 = cc in omega arith

unsound_given : {a : Parked} → not_sound ≡ given a → ⊥
unsound_given e = let z : ◌≡◌ {A = ℕ} 0 1 = cc in omega arith

unsound_formless : not_sound ≡ not_of_form → ⊥
unsound_formless e = let z : ◌≡◌ {A = ℕ} 0 1 = cc in omega arith

chosen : (t : Bool) {a b : Parked} → cond t (given a) not_sound ≡ given b → (t ≡ true) × (a ≡ b)
chosen true e = (refl, given_is e)
chosen false e = absurd (unsound_given e)

chosen_form : (t : Bool) (a : Parked) → cond t (given a) not_sound ≡ not_of_form → ⊥
chosen_form true a e = not_given (sym e)
chosen_form false a e = unsound_formless e

-- ---- for every lawful form
module _ (f : Form) (law : Lawful f) where
  pub form_written : (j : Parked) → Parkable j → read f (write f j) ≡ given j
  unfolding read write judged
  form_written j p = rw (lines_print f (lines_from f j) [] (parked_formed f law j p), parked_back f law j p, p.sound)

  pub form_read : (s : List ℕ) (j : Parked) → read f s ≡ given j → (Parkable j) × (write f j ≡ s)
  unfolding read write judged
  form_read s j e = go (lines f s) refl e
    where
      go : (q : Found Lines) → lines f s ≡ q → judged f q ≡ given j → (Parkable j) × (write f j ≡ s)
      go wrong l k = absurd (not_given k)
      go (found r []) l k =
          let c = chosen (parked_sound (of_lines f r)) k in
          let i = lines_inv f s l in
          subst (λ j. (Parkable j) × (write f j ≡ s)) c.1 (lines_parkable f law r i.0 c.0, ap (λ x. print f x []) (lines_back f law r i.0) ∙ i.1)
      go (found r (b ∷ t)) l k = absurd (not_given k)

-- a text of the form: given if what it says is sound, else 18
of_form_read : (f : Form) (s : List ℕ) (o : OfForm f s) → read f s ≡ cond (parked_sound (of_lines f o.says)) (given (of_lines f o.says)) not_sound
unfolding read judged
of_form_read f s o = ap (λ t. judged f (lines f t)) (sym o.is) ∙ rw (lines_print f o.says [] o.formed)

formless : (f : Form) (s : List ℕ) → read f s ≡ not_of_form → OfForm f s → ⊥
formless f s e o = chosen_form (parked_sound (of_lines f o.says)) (of_lines f o.says) (sym (of_form_read f s o) ∙ e)

formless_is : (f : Form) (s : List ℕ) → (OfForm f s → ⊥) → read f s ≡ not_of_form
unfolding read judged
formless_is f s h = go (lines f s) refl
  where
    go : (q : Found Lines) → lines f s ≡ q → judged f q ≡ not_of_form
    go wrong l = refl
    go (found r []) l = let i = lines_inv f s l in absurd (h (record { says = r; formed = i.0; is = i.1 }))
    go (found r (b ∷ t)) l = refl

unsound_formed : (f : Form) (s : List ℕ) → read f s ≡ not_sound → OfForm f s
unfolding read judged
unsound_formed f s e = go (lines f s) refl e
  where
    go : (q : Found Lines) → lines f s ≡ q → judged f q ≡ not_sound → OfForm f s
    go wrong l k = absurd (unsound_formless (sym k))
    go (found r []) l k = let i = lines_inv f s l in record { says = r; formed = i.0; is = i.1 }
    go (found r (b ∷ t)) l k = absurd (unsound_formless (sym k))

-- ---- JOB
pub written_text_is_read : WrittenTextIsRead
written_text_is_read j p = form_written JOB job_lawful j p

pub read_text_is_written : ReadTextIsWritten
read_text_is_written s j e = let r = form_read JOB job_lawful s j e in record { parkable = r.0; text = r.1 }

pub one_text : OneText
one_text s t j e k = sym (read_text_is_written s j e).text ∙ (read_text_is_written t j k).text

pub one_parked : OneParked
one_parked j k p q e = given_is (sym (written_text_is_read j p) ∙ ap (read JOB) e ∙ written_text_is_read k q)

pub texts_are_parted_by_17_and_18 : TextsArePartedBy17And18
texts_are_parted_by_17_and_18 s = record {
  formless = formless JOB s;
  formless_is = formless_is JOB s;
  formed = of_form_read JOB s;
  unsound_formed = unsound_formed JOB s;
}

pub texts_fit : TextsFit
texts_fit j p = omega (arith, write_length JOB job_lawful j p)

-- ---- the calls
refused_not : {r : Refusal} → Refused r ≡ Carried → ⊥
refused_not e = let z : ◌≡◌ {A = ℕ} 0 1 = cc in omega arith

-- what a call that parks was given, and what it left
record Stood (W H : ℕ) (t : State) (room : List ℕ) : Type 0 where
  allowed_is : allowed W H ≡ true
  sound_is : sound (measure_of W H) t ≡ true
  closed_is : is_open t.sequence ≡ false
  fits : ltb (length room) (length (write JOB (parked_of W H t))) ≡ false

not_refused : (b : Bool) (r : Refusal) (room : List ℕ) (y : Stowed) → (cond b (stow_refused r room) y).parking.verdict ≡ Carried → (b ≡ false) × (y.parking.verdict ≡ Carried)
not_refused true r room y e = absurd (refused_not e)
not_refused false r room y e = (refl, e)

not-false : (b : Bool) → not b ≡ false → b ≡ true
not-false true e = refl
not-false false e = sym e

stood : (W H : ℕ) (t : State) (room : List ℕ) → (park W H t room).parking.verdict ≡ Carried → Stood W H t room
unfolding park
stood W H t room e =
    let a = not_refused (not (allowed W H)) PageMeasure room _ e in
    let b = not_refused (not (sound (measure_of W H) t)) UnsoundState room _ a.1 in
    let c = not_refused (is_open t.sequence) SequenceOpen room _ b.1 in
    let d = not_refused (ltb (length room) (length (write JOB (parked_of W H t)))) Room room _ c.1 in
    record { allowed_is = not-false (allowed W H) a.0; sound_is = not-false (sound (measure_of W H) t) b.0; closed_is = c.0; fits = d.0 }

is_closed_lem : (q : Sequence) → is_open q ≡ false → q ≡ Closed
is_closed_lem Closed e = refl
is_closed_lem (Open f k) e = absurd (false≢true (sym e))

pub parked_is_unparked : ParkedIsUnparked
unfolding park unpark parked_sound
parked_is_unparked W H t room shaped bytes e =
    let k = stood W H t room e in
    let p : Parkable (parked_of W H t) = record { sound = and_both (allowed W H) (sound (measure_of W H) t) k.allowed_is k.sound_is; closed = is_closed_lem t.sequence k.closed_is; shaped = shaped; seed_bytes = bytes } in
    let T : List ℕ = write JOB (parked_of W H t) in
    rw (k.allowed_is, k.sound_is, k.closed_is, k.fits, take-append_seam T (drop (length T) room), written_text_is_read (parked_of W H t) p)

pub unparked_goes_on : UnparkedGoesOn
unfolding unpark parked_sound
unparked_goes_on s e = go (read JOB s) refl e
  where
    go : (a : Answer) → read JOB s ≡ a → (answered a).verdict ≡ Carried → CanGoOn (answered a)
    go (given j) r k =
        let p = (read_text_is_written s j r).parkable in
        let b = and_true (allowed j.W j.H) (sound (measured j) j.state) p.sound in
        record { measure = b.0; state = b.1; closed = p.closed; shaped = p.shaped }
    go not_of_form r k = absurd (refused_not k)
    go not_sound r k = absurd (refused_not k)

pub no_state-goes_on : NoStateGoesOn
no_state-goes_on g = go (sound g no_state) refl
  where
    go : (b : Bool) → sound g no_state ≡ b → b ≡ false
    go true e = absurd (omega (arith, (state_facts g no_state e).core.layout.left))
    go false e = refl
