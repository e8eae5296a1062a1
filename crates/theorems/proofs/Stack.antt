-- The position stack: what is pushed comes back. Assumes nothing.
use mathlib.Core.Path.{◌≡◌, refl, ap₂, ◌∙◌}
use Prim.Native.Nat.{◌-◌, ◌<◌}
use native.Mathlib.Omega.{arith}
use lib.ListN.{length, get_or, set}
use lib.Seq.{get_or-set_same, set-set}
use borrow.Author.Tests.{lt-ltb}
use Rattle.rules.specs.declared.Measure.{Measure}
use Rattle.rules.specs.declared.Value.{Value}
use Rattle.rules.specs.declared.Kind.TheVariants.{PushPop}
use Rattle.rules.specs.declared.Finding.TheVariants.{Nothing, StackLimit}
use Rattle.rules.specs.declared.Core.{Core}
use Rattle.rules.specs.Measure.{origin}
use Rattle.rules.specs.Number.{whole_part}
use Rattle.rules.specs.Effects.{pushed, popped, effect, barred}
use Rattle.rules.specs.Acts.{order, next, bar}
use Rattle.theorems.specs.Statements.{Pushed, Popped, PushedAndPopped}

push_is : (g : Measure) (v : Value) (c : Core) → whole_part v ≡ 0 → next g (order PushPop v) c ≡ pushed c
unfolding next effect
push_is g v c e = rw e

pop_is : (g : Measure) (v : Value) (c : Core) → whole_part v ≡ 1 → next g (order PushPop v) c ≡ popped c
unfolding next effect
pop_is g v c e = rw e

push_free : (g : Measure) (v : Value) (c : Core) → whole_part v ≡ 0 → c.depth < 20 → bar g (order PushPop v) c ≡ Nothing
unfolding bar barred
push_free g v c e h = rw (e, lt-ltb c.depth 20 h)

pop_held : (g : Measure) (v : Value) (c : Core) → whole_part v ≡ 1 → 0 < c.depth → bar g (order PushPop v) c ≡ Nothing
unfolding bar barred
pop_held g v c e h = rw (e, lt-ltb 0 c.depth h)

pub push_full : (g : Measure) (v : Value) (c : Core) → whole_part v ≡ 0 → c.depth ≡ 20 → bar g (order PushPop v) c ≡ StackLimit
unfolding bar barred
push_full g v c e h = rw (e, h)

pub pop_empty : (g : Measure) (v : Value) (c : Core) → whole_part v ≡ 1 → c.depth ≡ 0 → bar g (order PushPop v) c ≡ StackLimit
unfolding bar barred
pop_empty g v c e h = rw (e, h)

pushes_cursor : (c : Core) → Pushed c (pushed c)
unfolding pushed
pushes_cursor c = record { depth = refl; stack = refl; rest = refl }

pops_cursor : (c d : Core) → length c.stack ≡ 20 → c.depth < 20 → d.stack ≡ (pushed c).stack → d.depth ≡ (pushed c).depth → Popped c d (popped d)
unfolding pushed popped
pops_cursor c d l h s e =
    let below : d.depth - 1 ≡ c.depth = omega arith in
    record {
      at = ap₂ (λ k n. get_or k n origin) s below ∙ get_or-set_same c.stack c.depth c.at origin (omega arith);
      depth = below;
      stack = ap₂ (λ k n. set k n origin) s below ∙ set-set c.stack c.depth c.at origin;
      rest = refl;
    }

-- a push, and a pop of what it left on the stack
pub push_then_pop : (g : Measure) (push pop : Value) (c d : Core) → whole_part push ≡ 0 → whole_part pop ≡ 1 → length c.stack ≡ 20 → c.depth < 20
    → d.stack ≡ (next g (order PushPop push) c).stack → d.depth ≡ (next g (order PushPop push) c).depth → PushedAndPopped g push pop c d
push_then_pop g push pop c d zero-part one-part l h s e =
    let k : d.stack ≡ (pushed c).stack = rw (push_is g push c zero-part) at s in
    let n : d.depth ≡ (pushed c).depth = rw (push_is g push c zero-part) at e in
    record {
      free = push_free g push c zero-part h;
      pushes = rw (push_is g push c zero-part) (pushes_cursor c);
      held = pop_held g pop d one-part (deep n);
      pops = rw (pop_is g pop d one-part) (pops_cursor c d l h k n);
    }
  where
    deep : d.depth ≡ (pushed c).depth → 0 < d.depth
    deep n = unfold pushed in omega arith
